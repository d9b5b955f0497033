-- What a call gives, and the number and values of each outcome: rules O of docs/RULES.md.
use Rattle.std.specs.Prelude.{ℕ, List, Bool, true, false, replicate, Result, Ok, Err}
use Rattle.octets.specs.Bounds.{used_by6}
use Rattle.octets.specs.declared.Endpoint.{Endpoint}
use Rattle.refusal.specs.Numbers.{Report, report_of}
use Rattle.refusal.specs.declared.Refusal.{Refusal}
use Rattle.host.specs.declared.Host.{Host}
use Rattle.host.specs.declared.Outcome.{Outcome}
use Rattle.host.specs.declared.Outcome.TheVariants.{Quiet, Kept, Query, Reply, Unique, Shared, Stopped}

-- what an outcome tells: a refusal's number, or what was done, with the name's number and the octets written
pub data CallResult : Type 0 where
  refused : Report → CallResult
  ready quiet : CallResult
  kept unique shared stopped : ℕ → CallResult
  query : ℕ → ℕ → CallResult
  reply : ℕ → CallResult

abbrev pub result_of : Outcome → CallResult
result_of Quiet = quiet
result_of (Kept k) = kept k
result_of (Query k len to) = query k len
result_of (Reply len to) = reply len
result_of (Unique k) = unique k
result_of (Shared k) = shared k
result_of (Stopped k) = stopped k

abbrev pub is_refused : CallResult → Bool
is_refused (refused t) = true
is_refused ready = false
is_refused quiet = false
is_refused (kept k) = false
is_refused (unique k) = false
is_refused (shared k) = false
is_refused (stopped k) = false
is_refused (query k len) = false
is_refused (reply len) = false

-- nothing is sent: every field of the destination is zero
abbrev pub nowhere : Endpoint
nowhere = record { address = record { family = 0; octets = replicate used_by6 0 }; port = 0 }

-- what a call gives: the next state, what it tells, the destination, and every octet of the lent buffer
pub record Done : Type 0 where
  pub host : Host
  pub result : CallResult
  pub to : Endpoint
  pub octets : List ℕ

-- a refusal leaves the state, its clock too, and every octet
abbrev pub refusal : Host → List ℕ → Report → Done
refusal h out t = record { host = h; result = refused t; to = nowhere; octets = out }

-- nothing is sent
abbrev pub silent : Host → List ℕ → CallResult → Done
silent h out r = record { host = h; result = r; to = nowhere; octets = out }

-- where the octets written are to be sent; nowhere where none are
abbrev pub to_of : Outcome → Endpoint
to_of Quiet = nowhere
to_of (Kept k) = nowhere
to_of (Query k len to) = to
to_of (Reply len to) = to
to_of (Unique k) = nowhere
to_of (Shared k) = nowhere
to_of (Stopped k) = nowhere

-- what a call tells: what its outcome does, or a refusal's number
abbrev pub told : Result Outcome Refusal → CallResult
told (Ok o) = result_of o
told (Err why) = refused (report_of why)

abbrev pub sent_to : Result Outcome Refusal → Endpoint
sent_to (Ok o) = to_of o
sent_to (Err why) = nowhere

-- what a function gives, and the host and the buffer that it leaves, are those of a definition
abbrev pub done_after : Host → Result Outcome Refusal → List ℕ → Done
done_after h r out = record { host = h; result = told r; to = sent_to r; octets = out }
