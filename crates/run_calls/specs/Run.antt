-- The lines of a file.
use Rattle.std.specs.Prelude.{ℕ, zero, suc, ◌+◌, ◌-◌, List, [], ◌∷◌, ◌++◌, cond, length, take}
use Rattle.std.specs.Prelude.{drop, ltb, Result, Ok, Err}
use Rattle.host.specs.SetUp.{zero_host}
use Rattle.host.specs.declared.Host.{Host}
use Rattle.run_calls.specs.Calls.{entry_line, host_after, lookups_after}
use Rattle.run_calls.specs.Entries.{entry_at, entry_head, lent_by}
use Rattle.run_calls.specs.Lookups.{fresh_lookups}
use Rattle.run_calls.specs.Pieces.{end_line}
use Rattle.run_calls.specs.declared.entry.Entry.{Entry}
use Rattle.run_calls.specs.declared.entry.Why.{Why}
use Rattle.run_calls.specs.declared.entry.Why.TheVariants.{Long}
use Rattle.run_calls.specs.declared.lookups.Lookups.{Lookups}

-- octets of a file, and of a buffer that is lent to a call, at the most
abbrev pub longest_file : ℕ
longest_file = 262144

abbrev pub most_room : ℕ
most_room = 65536

-- the body of the entry at the start of s
abbrev pub body_of : Entry → List ℕ → List ℕ
body_of e s = drop entry_head (take e.len s)

-- the line of the end at an offset, or what an entry gives
abbrev pub entry_or_end : Result Entry Why → ℕ → (Entry → List (List ℕ)) → List (List ℕ)
entry_or_end (Ok e) offset lines = lines e
entry_or_end (Err why) offset lines = end_line offset (Err why)

-- The lines of s, which is left of a file of so many octets, from the n-th entry on, with a table, a
-- host and lookups. The first number is no less than that of the entries that are left: each has an
-- octet at least.
unfoldable pub lines_from : ℕ → ℕ → ℕ → List ℕ → Host → Lookups → List ℕ → List (List ℕ)
lines_from zero size n table h l s = []
lines_from (suc more) size n table h l [] = []
lines_from (suc more) size n table h l (c ∷ s) =
    entry_or_end (entry_at (c ∷ s)) (size - length (c ∷ s))
    (λ e.
    entry_line n e.kind h l table (body_of e (c ∷ s)) most_room
    ++ lines_from more size (n + 1) (lent_by e.kind table (body_of e (c ∷ s)))
    (host_after e.kind h table (body_of e (c ∷ s)) most_room)
    (lookups_after e.kind l (host_after e.kind h table (body_of e (c ∷ s)) most_room)
    (body_of e (c ∷ s)) most_room)
    (drop e.len (c ∷ s)))

-- before the first entry the table is empty, and the host and the lookups are those of refused
-- calls
abbrev pub lines_of : List ℕ → List (List ℕ)
lines_of s = lines_from (length s) (length s) 0 [] zero_host (fresh_lookups zero_host) s

-- of a file that is too long no entry is read
abbrev pub printed : List ℕ → List (List ℕ)
printed s = cond (ltb longest_file (length s)) (end_line longest_file (Err Long)) (lines_of s)
