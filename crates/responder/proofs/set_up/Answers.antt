use Rattle.std.proofs.Common.{rules, sym, ◌∙◌}
use Rattle.std.proofs.lemmas.Result.{err_from_is_err_and}
use Rattle.name_table.proofs.Read.{read_names}
use Rattle.responder.proofs.OpeningLaws.{read_bad}
use Rattle.responder.proofs.SettingsLaws.{any_of_four}
use Rattle.responder.proofs.SetUpLaws.{table_refused, clock_refused, settings_refused, accepted}
use Rattle.responder.proofs.set_up.Goals as goal

pub returns-in_err-read : goal.returns-in_err-read
returns-in_err-read c =
    let p = err_from_is_err_and c.from_residual.result c.from_residual.ensures.1 in
    rw (p.1, p.2) (table_refused _ _ _ _ _ (read_bad _ _ (sym c.in_err-read.ensures)))

pub returns-then-moment-gt-LATEST : goal.returns-then-moment-gt-LATEST
returns-then-moment-gt-LATEST c =
    clock_refused _ _ _ _ _ (read_names _ _ (sym c.in_ok-read.ensures)) c.if-moment-gt-LATEST.true

pub returns-then-any_bad : goal.returns-then-any_bad
returns-then-any_bad c =
    settings_refused _ _ _ _ _ (read_names _ _ (sym c.in_ok-read.ensures)) c.if-moment-gt-LATEST.false
    (sym (c.any_bad.ensures ∙ any_of_four _ (search rules)) ∙ c.if-any_bad.true)

pub returns : goal.returns
returns c =
    rw c.fresh.ensures
    (accepted _ _ _ _ _ (read_names _ _ (sym c.in_ok-read.ensures)) c.if-moment-gt-LATEST.false
    (sym (c.any_bad.ensures ∙ any_of_four _ (search rules)) ∙ c.if-any_bad.false))
