-- What a call tells, and where it sends, determines what the function gives: two that tell the same are the same.
use Rattle.std.proofs.Common.{Result, Ok, Err, ◌≡◌, refl, sym, ap, ◌∙◌}
use Rattle.octets.specs.declared.Endpoint.{Endpoint}
use Rattle.refusal.specs.declared.Refusal.{Refusal}
use Rattle.refusal.proofs.Numbers.{refusal_of, refusal_back}
use Rattle.host.specs.SetUp.{set_up_after}
use Rattle.host.specs.Outcomes.{CallResult, refused, ready, quiet, kept, unique, shared, stopped, query, reply, told, sent_to, Done}
use Rattle.host.specs.declared.Host.{Host}
use Rattle.host.specs.declared.Outcome.{Outcome}
use Rattle.host.specs.declared.Outcome.TheVariants.{Quiet, Kept, Query, Reply, Unique, Shared, Stopped}

-- what a function gives that tells a result and sends to an endpoint; of a set-up that is ready nothing is given here
abbrev outcome_of : CallResult → Endpoint → Result Outcome Refusal
outcome_of (refused t) to = Err (refusal_of t)
outcome_of ready to = Ok Quiet
outcome_of quiet to = Ok Quiet
outcome_of (kept k) to = Ok (Kept k)
outcome_of (query k len) to = Ok (Query k len to)
outcome_of (reply len) to = Ok (Reply len to)
outcome_of (unique k) to = Ok (Unique k)
outcome_of (shared k) to = Ok (Shared k)
outcome_of (stopped k) to = Ok (Stopped k)

back : (r : Result Outcome Refusal) → outcome_of (told r) (sent_to r) ≡ r
back (Err why) = ap Err (refusal_back why)
back (Ok Quiet) = refl
back (Ok (Kept k)) = refl
back (Ok (Query k len to)) = refl
back (Ok (Reply len to)) = refl
back (Ok (Unique k)) = refl
back (Ok (Shared k)) = refl
back (Ok (Stopped k)) = refl

pub outcome_one : (r s : Result Outcome Refusal) → told r ≡ told s → sent_to r ≡ sent_to s → r ≡ s
outcome_one r s e f = sym (back r) ∙ ap (λ (x : CallResult). outcome_of x (sent_to r)) e ∙ ap (outcome_of (told s)) f ∙ back s

-- the same, but what is sent goes to the endpoint t; what sends nothing stays as it is
abbrev pub sent_elsewhere : Endpoint → Result Outcome Refusal → Result Outcome Refusal
sent_elsewhere t (Ok (Query k len to)) = Ok (Query k len t)
sent_elsewhere t (Ok (Reply len to)) = Ok (Reply len t)
sent_elsewhere t r = r

elsewhere : (t : Endpoint) (r : Result Outcome Refusal) → outcome_of (told r) t ≡ sent_elsewhere t r
elsewhere t (Err why) = ap Err (refusal_back why)
elsewhere t (Ok Quiet) = refl
elsewhere t (Ok (Kept k)) = refl
elsewhere t (Ok (Query k len to)) = refl
elsewhere t (Ok (Reply len to)) = refl
elsewhere t (Ok (Unique k)) = refl
elsewhere t (Ok (Shared k)) = refl
elsewhere t (Ok (Stopped k)) = refl

-- what is told alone determines the result, but for where it sends
pub told_one : (r s : Result Outcome Refusal) → told r ≡ told s → r ≡ sent_elsewhere (sent_to r) s
told_one r s e = sym (back r) ∙ ap (λ (x : CallResult). outcome_of x (sent_to r)) e ∙ elsewhere (sent_to r) s

-- what a set-up gives that comes to a result
abbrev set_up_of : CallResult → Host → Result Host Refusal
set_up_of (refused t) h = Err (refusal_of t)
set_up_of ready h = Ok h
set_up_of quiet h = Ok h
set_up_of (kept k) h = Ok h
set_up_of (query k len) h = Ok h
set_up_of (reply len) h = Ok h
set_up_of (unique k) h = Ok h
set_up_of (shared k) h = Ok h
set_up_of (stopped k) h = Ok h

set_up_back : (r : Result Host Refusal) → set_up_of (set_up_after r).result (set_up_after r).host ≡ r
set_up_back (Err why) = ap Err (refusal_back why)
set_up_back (Ok h) = refl

pub set_up_one : (r s : Result Host Refusal) → set_up_after r ≡ set_up_after s → r ≡ s
set_up_one r s e = sym (set_up_back r) ∙ ap (λ (d : Done). set_up_of d.result d.host) e ∙ set_up_back s
