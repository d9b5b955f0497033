use Rattle.std.proofs.Common.{true}
use Rattle.std.proofs.lemmas.Result.{err_from_is_err_and}
use Rattle.checks.proofs.DatagramLaws.{datagram_read_lem, name_inside}
use Rattle.querier.proofs.ReceiveLaws.{read_refuses, match_refuses, stays_collecting, finds, collects}
use Rattle.querier.proofs.receive.Goals as goal

pub returns-in_err-response-clause-done : goal.returns-in_err-response-clause-done
returns-in_err-response-clause-done c =
    let p = err_from_is_err_and c.from_residual-in_err-response.result c.from_residual-in_err-response.ensures.1 in
    rw (p.1, p.2)
    (read_refuses c.args.lookup.now _ _ c.in_ok-setting.ensures c.if-bad_clock.ensures _ c.in_err-response.ensures)

pub check-requires : goal.check-requires
check-requires c =
    let e = c.in_ok-response.ensures in
    name_inside true _ _ _ _ c.in_ok-response.response e (datagram_read_lem true _ _ _ _ _ e)

pub returns-in_err-check-clause-done : goal.returns-in_err-check-clause-done
returns-in_err-check-clause-done c =
    let p = err_from_is_err_and c.from_residual-in_err-check.result c.from_residual-in_err-check.ensures.1 in
    rw (p.1, p.2)
    (match_refuses c.args.lookup.now _ _ c.in_ok-setting.ensures c.if-bad_clock.ensures c.in_ok-response.response
    c.in_ok-response.ensures _ c.in_err-check.ensures)

pub returns-then-not-response-clause-done : goal.returns-then-not-response-clause-done
returns-then-not-response-clause-done c =
    finds c.args.lookup.now _ _ c.in_ok-setting.ensures c.if-bad_clock.ensures c.in_ok-response.response
    c.in_ok-response.ensures c.if-not-response.true c.in_ok-check.ensures

pub returns-in-Asking-clause-done : goal.returns-in-Asking-clause-done
returns-in-Asking-clause-done c =
    collects c.args.lookup.now _ _ c.in_ok-setting.ensures c.if-bad_clock.ensures c.in_ok-response.response
    c.in_ok-response.ensures _ (rw c.in-Asking.is) c.if-not-response.false c.in_ok-check.ensures

pub returns-in_default : goal.returns-in_default
returns-in_default c = record {
  done =
      collects c.args.lookup.now _ _ c.in_ok-setting.ensures c.if-bad_clock.ensures c.in_ok-response.response
      c.in_ok-response.ensures _ (stays_collecting _ c.in_default.not-Asking) c.if-not-response.false c.in_ok-check.ensures;
  refused = tt;
  unwritten = tt;
}
