-- What a call comes to, as numbers: what it says, and the values that go with it. All else is zero.
use Rattle.std.specs.Prelude.{ℕ, cond, eqb}
use Rattle.refusal.specs.Numbers.{Report, number, number_at, number_in}
use Rattle.host.specs.Outcomes.{CallResult, refused, ready, quiet, kept, unique, shared, stopped, query, reply}
use Rattle.lookup.specs.Outcomes as lookups
use Rattle.llmnr_c.specs.Numbers.{says_refused, says_ready, says_quiet, says_kept, says_query, says_reply, says_unique, says_shared, says_stopped, says_part, says_found, says_collected, says_no_such_name}
use Rattle.llmnr_c.specs.declared.outcome.FlatOutcome.{FlatOutcome}

-- with a refusal its number, and its offset; 0 if it has none
abbrev pub offset_in : Report → ℕ
offset_in (number n) = 0
offset_in (number_at n at) = at

abbrev pub flat_refusal : Report → FlatOutcome
flat_refusal t = record { what = says_refused; refusal = number_in t; answers = 0; at = offset_in t; name = 0; len = 0 }

-- with a name's number, and the octets written
abbrev pub said : ℕ → ℕ → ℕ → FlatOutcome
said what name len = record { what = what; refusal = 0; answers = 0; at = 0; name = name; len = len }

-- of a response: where its answers begin, and how many there are
abbrev pub heard : ℕ → ℕ → ℕ → FlatOutcome
heard what at answers = record { what = what; refusal = 0; answers = answers; at = at; name = 0; len = 0 }

-- of a host
abbrev pub flat_outcome : CallResult → FlatOutcome
flat_outcome (refused t) = flat_refusal t
flat_outcome ready = said says_ready 0 0
flat_outcome quiet = said says_quiet 0 0
flat_outcome (kept k) = said says_kept k 0
flat_outcome (query k len) = said says_query k len
flat_outcome (reply len) = said says_reply 0 len
flat_outcome (unique k) = said says_unique k 0
flat_outcome (shared k) = said says_shared k 0
flat_outcome (stopped k) = said says_stopped k 0

-- of a lookup
abbrev pub flat_lookup_outcome : lookups.CallResult → FlatOutcome
flat_lookup_outcome (lookups.refused t) = flat_refusal t
flat_lookup_outcome lookups.quiet = said says_quiet 0 0
flat_lookup_outcome (lookups.query len) = said says_query 0 len
flat_lookup_outcome (lookups.part at answers) = heard says_part at answers
flat_lookup_outcome (lookups.found at answers) = heard says_found at answers
flat_lookup_outcome lookups.collected = said says_collected 0 0
flat_lookup_outcome lookups.no_such_name = said says_no_such_name 0 0

-- and back: what numbers tell. Refusal 2 has an offset; any other number of what a call says is a refusal.
abbrev pub report_from : FlatOutcome → Report
report_from o = cond (eqb o.refusal 2) (number_at 2 o.at) (number o.refusal)

abbrev pub result_from : FlatOutcome → CallResult
result_from o =
    cond (eqb o.what says_ready) ready
    (cond (eqb o.what says_quiet) quiet
    (cond (eqb o.what says_kept) (kept o.name)
    (cond (eqb o.what says_query) (query o.name o.len)
    (cond (eqb o.what says_reply) (reply o.len)
    (cond (eqb o.what says_unique) (unique o.name)
    (cond (eqb o.what says_shared) (shared o.name)
    (cond (eqb o.what says_stopped) (stopped o.name)
    (refused (report_from o)))))))))

abbrev pub lookup_result_from : FlatOutcome → lookups.CallResult
lookup_result_from o =
    cond (eqb o.what says_quiet) lookups.quiet
    (cond (eqb o.what says_query) (lookups.query o.len)
    (cond (eqb o.what says_part) (lookups.part o.at o.answers)
    (cond (eqb o.what says_found) (lookups.found o.at o.answers)
    (cond (eqb o.what says_collected) lookups.collected
    (cond (eqb o.what says_no_such_name) lookups.no_such_name
    (lookups.refused (report_from o)))))))
