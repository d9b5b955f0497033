-- What a call gives, and the number and values of each outcome: rules A of docs/RULES.md.
use Rattle.std.specs.Prelude.{ℕ, List, Bool, true, false, length, Result, Ok, Err}
use Rattle.octets.specs.Octets.{put}
use Rattle.octets.specs.Addresses.{group_endpoint}
use Rattle.octets.specs.declared.Endpoint.{Endpoint}
use Rattle.refusal.specs.Numbers.{Report, report_of}
use Rattle.message.specs.Bounds.{class_in}
use Rattle.message.specs.Question.{question_octets}
use Rattle.message.specs.Query.{query_octets}
use Rattle.host.specs.Outcomes.{nowhere}
use Rattle.refusal.specs.declared.Refusal.{Refusal}
use Rattle.lookup.specs.State.{setting_of, ended_lookup}
use Rattle.lookup.specs.declared.Lookup.{Lookup}
use Rattle.lookup.specs.declared.Outcome.{Outcome}
use Rattle.lookup.specs.declared.Outcome.TheVariants.{Quiet, Query, Part, Found, Collected, NoSuchName}
use Rattle.lookup.specs.declared.FirstQuery.{FirstQuery}

-- what an outcome tells: a refusal's number; the octets written; of a response the offset where its answers begin, and ANCOUNT. A lookup
-- that has collected responses ends as found, with no numbers.
pub data CallResult : Type 0 where
  refused : Report → CallResult
  quiet : CallResult
  query : ℕ → CallResult
  part found : ℕ → ℕ → CallResult
  collected no_such_name : CallResult

abbrev pub result_of : Outcome → CallResult
result_of Quiet = quiet
result_of (Query len to) = query len
result_of (Part at answers) = part at answers
result_of (Found at answers) = found at answers
result_of Collected = collected
result_of NoSuchName = no_such_name

abbrev pub is_refused : CallResult → Bool
is_refused (refused t) = true
is_refused quiet = false
is_refused (query len) = false
is_refused (part at answers) = false
is_refused (found at answers) = false
is_refused collected = false
is_refused no_such_name = false

-- what a call gives: the next state, what it tells, the destination, and every octet of the lent buffer
pub record Done : Type 0 where
  pub lookup : Lookup
  pub result : CallResult
  pub to : Endpoint
  pub octets : List ℕ

-- nothing is sent
abbrev pub silent : Lookup → List ℕ → CallResult → Done
silent l out r = record { lookup = l; result = r; to = nowhere; octets = out }

-- a refusal leaves the state, its clock too, and every octet
abbrev pub refusal : Lookup → List ℕ → Report → Done
refusal l out t = silent l out (refused t)

-- the query of a lookup: an ID, flags 0, a name and a type, class 1
abbrev pub query_for : ℕ → List ℕ → ℕ → List ℕ
query_for id name qtype = query_octets id 0 (question_octets name qtype class_in)

-- it goes out to the group of the interface's family
abbrev pub asking : Lookup → List ℕ → List ℕ → Done
asking l octets out =
    record { lookup = l; result = query (length octets); to = group_endpoint (setting_of l).family; octets = put out 0 octets }

-- where the octets written are to be sent; nowhere where none are
abbrev pub to_of : Outcome → Endpoint
to_of Quiet = nowhere
to_of (Query len to) = to
to_of (Part at answers) = nowhere
to_of (Found at answers) = nowhere
to_of Collected = nowhere
to_of NoSuchName = nowhere

-- what a call tells: what its outcome does, or a refusal's number
abbrev pub told : Result Outcome Refusal → CallResult
told (Ok o) = result_of o
told (Err why) = refused (report_of why)

abbrev pub sent_to : Result Outcome Refusal → Endpoint
sent_to (Ok o) = to_of o
sent_to (Err why) = nowhere

-- what a function gives, and the lookup and the buffer that it leaves, are those of a definition
abbrev pub done_after : Lookup → Result Outcome Refusal → List ℕ → Done
done_after l r out = record { lookup = l; result = told r; to = sent_to r; octets = out }

-- what a start gives, and the buffer that it leaves, are those of a definition: where it is refused, of a lookup that has ended
abbrev pub started_after : Result FirstQuery Refusal → List ℕ → Done
started_after (Ok s) out = record { lookup = s.lookup; result = query s.len; to = s.to; octets = out }
started_after (Err why) out = refusal ended_lookup out (report_of why)
