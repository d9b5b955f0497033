use Rattle.std.proofs.Common.{sym, ◌∙◌, ap, le-ltb, lt-ltb}
use Rattle.std.proofs.lemmas.Result.{err_from_is_err_and}
use Rattle.name_table.specs.Check.{is_bad}
use Rattle.name_table.proofs.Read.{read_names}
use Rattle.refusal.specs.Checks.{next, stop, done}
use Rattle.refusal.specs.declared.Refusal.TheVariants.{Room, Interface, Clock}
use Rattle.responder.proofs.OpeningLaws.{read_bad, refused_so, opens_so, table_so}
use Rattle.responder.proofs.opening.open.Goals as goal

pub returns-then-size-lt-ROOM-clause-opened : goal.returns-then-size-lt-ROOM-clause-opened
returns-then-size-lt-ROOM-clause-opened c = refused_so _ _ _ _ _ _ Room (stop (lt-ltb _ _ c.if-size-lt-ROOM.true))

pub returns-in_err-names-clause-opened : goal.returns-in_err-names-clause-opened
returns-in_err-names-clause-opened c =
    let p = err_from_is_err_and c.from_residual.result c.from_residual.ensures.1 in
    rw (p.1, p.2) (table_so _ _ _ _ _ _ _ (le-ltb _ _ c.if-size-lt-ROOM.false) (read_bad _ _ (sym c.in_err-names.ensures)))

pub returns-then-is_unused-clause-opened : goal.returns-then-is_unused-clause-opened
returns-then-is_unused-clause-opened c =
    refused_so _ _ _ _ _ _ Interface
    (next (le-ltb _ _ c.if-size-lt-ROOM.false)
    (next (ap is_bad (read_names _ _ (sym c.in_ok-names.ensures)))
    (stop (sym c.is_unused.ensures ∙ c.if-is_unused.true))))

pub returns-then-bad_clock-clause-opened : goal.returns-then-bad_clock-clause-opened
returns-then-bad_clock-clause-opened c =
    refused_so _ _ _ _ _ _ Clock
    (next (le-ltb _ _ c.if-size-lt-ROOM.false)
    (next (ap is_bad (read_names _ _ (sym c.in_ok-names.ensures)))
    (next (sym c.is_unused.ensures ∙ c.if-is_unused.false) (stop (sym c.bad_clock.ensures ∙ c.if-bad_clock.true)))))

pub returns-clause-opened : goal.returns-clause-opened
returns-clause-opened c =
    let e = read_names _ _ (sym c.in_ok-names.ensures) in
    opens_so _ _ _ _ _ _ _ e
    (next (le-ltb _ _ c.if-size-lt-ROOM.false)
    (next (ap is_bad e)
    (next (sym c.is_unused.ensures ∙ c.if-is_unused.false) (next (sym c.bad_clock.ensures ∙ c.if-bad_clock.false) done))))
