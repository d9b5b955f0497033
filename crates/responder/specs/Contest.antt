-- What a datagram for a name calls for, in the steps of the code: judged by the name's state; then, where it is a contest that does not come
-- from ourselves, how that ends.
use Rattle.std.specs.Prelude.{ℕ, Bool, cond, not, List, length, Some, None, Result, Ok, Err}
use Rattle.octets.specs.Tests.{◌and◌, ◌or◌}
use Rattle.octets.specs.Octets.{put}
use Rattle.octets.specs.Addresses.{address_of, below_address, group_endpoint}
use Rattle.octets.specs.declared.Address.{Address}
use Rattle.octets.specs.declared.Setting.{Setting}
use Rattle.refusal.specs.declared.Refusal.{Refusal}
use Rattle.refusal.specs.declared.Refusal.TheVariants as refusal
use Rattle.message.specs.declared.Header.{Header}
use Rattle.message.specs.declared.Question.{Question}
use Rattle.message.specs.Query.{query_octets}
use Rattle.host.specs.State.{verifying, is}
use Rattle.host.specs.Receive.{awaits}
use Rattle.host.specs.declared.Outcome.TheVariants as outcome
use Rattle.host.specs.declared.NameState.{NameState}
use Rattle.host.specs.declared.NameState.TheVariants.{Off, Verifying, Unique, Defending, Stopped, Shared}
use Rattle.responder.specs.declared.contest.Judged.{Judged}
use Rattle.responder.specs.declared.contest.Judged.TheVariants.{Answer, Contest}
use Rattle.responder.specs.declared.contest.Ending.{Ending}
use Rattle.responder.specs.declared.contest.Ending.TheVariants.{Defended, Lost, Kept}
use Rattle.responder.specs.declared.heard.Heard.{Heard}
use Rattle.responder.specs.declared.served.Served.{Served}

-- the table has no such name; and a contest that comes from ourselves
abbrev pub why_unknown : Bool → Refusal
why_unknown response = cond response refusal.Unmatched refusal.NotOurs

abbrev pub why_own : Bool → Refusal
why_own response = cond response refusal.Own refusal.Notification

-- a query for a name in a state, with C set or clear
abbrev pub query_judged : NameState → Bool → Result Judged Refusal
query_judged Off conflict = Err refusal.NotOurs
query_judged (Verifying sends id timer) conflict = cond conflict (Err refusal.Notification) (Ok Answer)
query_judged Unique conflict = cond conflict (Ok Contest) (Ok Answer)
query_judged (Defending id qtype qclass timer) conflict = cond conflict (Err refusal.Notification) (Ok Answer)
query_judged (Stopped until) conflict = Err refusal.Stopped
query_judged Shared conflict = cond conflict (Err refusal.Notification) (Ok Answer)

unfoldable pub state_judged : NameState → Header → Question → Result Judged Refusal
state_judged state x q =
    cond x.response
    (cond (awaits state x.id q.qtype q.class) (Ok Contest) (Err refusal.Unmatched))
    (query_judged state x.conflict)

-- a contest that comes from ourselves is refused
abbrev pub unless_own : Bool → Bool → Result Judged Refusal → Result Judged Refusal
unless_own own response (Ok Contest) = cond own (Err (why_own response)) (Ok Contest)
unless_own own response (Ok Answer) = Ok Answer
unless_own own response (Err why) = Err why

unfoldable pub judged : NameState → Header → Question → Bool → Result Judged Refusal
judged state x q own = unless_own own x.response (state_judged state x q)

abbrev pub is_lost : NameState → Bool → Address → Setting → Bool
is_lost state tentative source own = is verifying state and not tentative or below_address source (address_of own)

unfoldable pub ending : NameState → Header → Address → Setting → Ending
ending state x source own = cond x.response (cond (is_lost state x.tentative source own) Lost Kept) Defended

-- what the end of a contest comes to, of a family, an ID, the octets of the question and a time until which the name is not tried again
abbrev pub ended_as : Ending → Heard → ℕ → ℕ → List ℕ → ℕ → Served
ended_as Defended r family id asked until =
    record {
      outcome = outcome.Query r.name (length (query_octets id 0 asked)) (group_endpoint family);
      change = Some (record { name = r.name; state = Defending id r.question.qtype r.question.class r.timer });
    }
ended_as Lost r family id asked until =
    record { outcome = outcome.Stopped r.name; change = Some (record { name = r.name; state = Stopped until }) }
ended_as Kept r family id asked until = record { outcome = outcome.Kept r.name; change = None }

-- every octet of the buffer then
abbrev pub written_at_end : Ending → ℕ → List ℕ → List ℕ → List ℕ
written_at_end Defended id asked out = put out 0 (query_octets id 0 asked)
written_at_end Lost id asked out = out
written_at_end Kept id asked out = out
