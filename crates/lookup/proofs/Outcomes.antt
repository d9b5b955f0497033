-- What a lookup's call tells, and where it sends, determines what the function gives: two that tell the same are the same.
use Rattle.std.proofs.Common.{Result, Ok, Err, ◌≡◌, refl, sym, ap, ◌∙◌, ℕ, List}
use Rattle.octets.specs.declared.Endpoint.{Endpoint}
use Rattle.refusal.specs.declared.Refusal.{Refusal}
use Rattle.refusal.proofs.Numbers.{refusal_of, refusal_back}
use Rattle.lookup.specs.Outcomes.{CallResult, refused, quiet, query, part, found, collected, no_such_name, told, sent_to, started_after, Done}
use Rattle.lookup.specs.declared.Lookup.{Lookup}
use Rattle.lookup.specs.declared.FirstQuery.{FirstQuery}
use Rattle.lookup.specs.declared.Outcome.{Outcome}
use Rattle.lookup.specs.declared.Outcome.TheVariants.{Quiet, Query, Part, Found, Collected, NoSuchName}

-- what a function gives that tells a result and sends to an endpoint
abbrev outcome_of : CallResult → Endpoint → Result Outcome Refusal
outcome_of (refused t) to = Err (refusal_of t)
outcome_of quiet to = Ok Quiet
outcome_of (query len) to = Ok (Query len to)
outcome_of (part at answers) to = Ok (Part at answers)
outcome_of (found at answers) to = Ok (Found at answers)
outcome_of collected to = Ok Collected
outcome_of no_such_name to = Ok NoSuchName

back : (r : Result Outcome Refusal) → outcome_of (told r) (sent_to r) ≡ r
back (Err why) = ap Err (refusal_back why)
back (Ok Quiet) = refl
back (Ok (Query len to)) = refl
back (Ok (Part at answers)) = refl
back (Ok (Found at answers)) = refl
back (Ok Collected) = refl
back (Ok NoSuchName) = refl

pub outcome_one : (r s : Result Outcome Refusal) → told r ≡ told s → sent_to r ≡ sent_to s → r ≡ s
outcome_one r s e f = sym (back r) ∙ ap (λ (x : CallResult). outcome_of x (sent_to r)) e ∙ ap (outcome_of (told s)) f ∙ back s

-- the same, but a query that is sent goes to the endpoint t; what sends nothing stays as it is
abbrev pub sent_elsewhere : Endpoint → Result Outcome Refusal → Result Outcome Refusal
sent_elsewhere t (Ok (Query len to)) = Ok (Query len t)
sent_elsewhere t r = r

elsewhere : (t : Endpoint) (r : Result Outcome Refusal) → outcome_of (told r) t ≡ sent_elsewhere t r
elsewhere t (Err why) = ap Err (refusal_back why)
elsewhere t (Ok Quiet) = refl
elsewhere t (Ok (Query len to)) = refl
elsewhere t (Ok (Part at answers)) = refl
elsewhere t (Ok (Found at answers)) = refl
elsewhere t (Ok Collected) = refl
elsewhere t (Ok NoSuchName) = refl

-- what is told alone determines the result, but for where it sends
pub told_one : (r s : Result Outcome Refusal) → told r ≡ told s → r ≡ sent_elsewhere (sent_to r) s
told_one r s e = sym (back r) ∙ ap (λ (x : CallResult). outcome_of x (sent_to r)) e ∙ elsewhere (sent_to r) s

-- what a start gives that comes to a result
abbrev start_of : CallResult → Lookup → Endpoint → Result FirstQuery Refusal
start_of (refused t) l to = Err (refusal_of t)
start_of quiet l to = Ok (record { lookup = l; len = 0; to = to })
start_of (query len) l to = Ok (record { lookup = l; len = len; to = to })
start_of (part at answers) l to = Ok (record { lookup = l; len = 0; to = to })
start_of (found at answers) l to = Ok (record { lookup = l; len = 0; to = to })
start_of collected l to = Ok (record { lookup = l; len = 0; to = to })
start_of no_such_name l to = Ok (record { lookup = l; len = 0; to = to })

start_back : (r : Result FirstQuery Refusal) (out : List ℕ)
    → start_of (started_after r out).result (started_after r out).lookup (started_after r out).to ≡ r
start_back (Err why) out = ap Err (refusal_back why)
start_back (Ok q) out = refl

pub started_one : (r s : Result FirstQuery Refusal) (out : List ℕ) → started_after r out ≡ started_after s out → r ≡ s
started_one r s out e = sym (start_back r out) ∙ ap (λ (d : Done). start_of d.result d.lookup d.to) e ∙ start_back s out
