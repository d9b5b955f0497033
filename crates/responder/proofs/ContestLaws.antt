-- What a message for a name is judged to be, and how a contest ends, against the last checks of receive and its decision.
use Rattle.std.specs.Prelude.{Result, Ok, Err}
use Rattle.std.proofs.Common.{rules, ◌≡◌, Bool, true, false, cond, not, List}
use Rattle.octets.specs.Tests.{◌and◌, ◌or◌}
use Rattle.octets.specs.Addresses.{ours_among, is_ours}
use Rattle.octets.specs.declared.Address.{Address}
use Rattle.refusal.specs.Numbers.{number, report_of}
use Rattle.refusal.specs.Checks.{Checks, fail, pass, Verdict, refused, passed, verdict}
use Rattle.refusal.specs.declared.Refusal.{Refusal}
use Rattle.refusal.specs.declared.Refusal.TheVariants.{Unmatched}
use Rattle.host.specs.State.{settings_of, four_settings, off, unique, stopped, is}
use Rattle.host.specs.Receive.{Decision, answer, defend, stop, keep}
use Rattle.host.specs.declared.Interface.{Interface}
use Rattle.host.specs.declared.NameState.{NameState}
use Rattle.host.proofs.Laws.{setting_there}
use Rattle.responder.specs.Contest.{why_unknown, query_judged, unless_own}
use Rattle.responder.specs.declared.contest.Judged.{Judged}
use Rattle.responder.specs.declared.contest.Judged.TheVariants.{Answer, Contest}
use Rattle.responder.specs.declared.contest.Ending.{Ending}
use Rattle.responder.specs.declared.contest.Ending.TheVariants.{Defended, Lost, Kept}

-- the settings of four interfaces are read one by one
pub own_settings : (is : List Interface) (a : Address) → is_ours (four_settings is) a ≡ is_ours (settings_of is) a
unfolding ours_among
own_settings is a = rw (setting_there is 0, setting_there is 1, setting_there is 2, setting_there is 3)

-- the last checks: of the QR bit and C, whether the table has the name, its state, whether that waits for this, and whether the source is
-- ourselves
abbrev pub last_checks : Bool → Bool → Bool → NameState → Bool → Bool → Checks
last_checks response conflict found state waits own =
    cond response (fail (not found or not waits) (number 15) (fail own (number 16) pass))
    (fail (not found or is off state) (number 12)
    (fail (is stopped state) (number 13)
    (fail (conflict and (not (is unique state) or own)) (number 14) pass)))

abbrev pub judged_by : Bool → Bool → NameState → Bool → Bool → Result Judged Refusal
judged_by response conflict state waits own = unless_own own response (cond response (cond waits (Ok Contest) (Err Unmatched)) (query_judged state conflict))

-- what is judged, as a verdict
abbrev pub verdict_of : Result Judged Refusal → Verdict
verdict_of (Err why) = refused (report_of why)
verdict_of (Ok Answer) = passed
verdict_of (Ok Contest) = passed

pub not_found : (response conflict : Bool) (state : NameState) (waits own : Bool)
    → verdict (last_checks response conflict false state waits own) ≡ refused (report_of (why_unknown response))
unfolding verdict
not_found response conflict state waits own = search rules

pub judged_so : (response conflict : Bool) (state : NameState) (waits own : Bool)
    → verdict (last_checks response conflict true state waits own) ≡ verdict_of (judged_by response conflict state waits own)
unfolding verdict
judged_so response conflict state waits own = search rules

-- ---- decisions

abbrev pub decided : Bool → Bool → Bool → Decision
decided response conflict lost = cond response (cond lost stop keep) (cond conflict defend answer)

abbrev pub decision_of : Ending → Decision
decision_of Defended = defend
decision_of Lost = stop
decision_of Kept = keep

pub answers_so : (response conflict : Bool) (state : NameState) (waits own lost : Bool) → judged_by response conflict state waits own ≡ Ok Answer
    → decided response conflict lost ≡ answer
answers_so response conflict state waits own lost e = search rules

pub ends_so : (response conflict : Bool) (state : NameState) (waits own lost : Bool) → judged_by response conflict state waits own ≡ Ok Contest
    → decided response conflict lost ≡ decision_of (cond response (cond lost Lost Kept) Defended)
ends_so response conflict state waits own lost e = search rules
