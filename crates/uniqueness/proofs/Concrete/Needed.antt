-- Five premises are needed: one interval, addresses that differ, a clock that never goes back, ticks that are not late, and starts of the
-- name alone, one for each host. Without each of them a list of two hosts' calls ends with two owners, while all other conditions hold,
-- all other rules are kept, and all that is sent is delivered.
use Rattle.std.proofs.Common.{ℕ, zero, suc, ◌+◌, ◌<◌, ◌≡◌, refl, ◌≢◌, inl, List, [], ◌∷◌, ◌++◌, true, false, cond, arith, eqb}
use Rattle.octets.specs.Addresses.{same_address}
use Rattle.name_table.specs.Check.{Held}
use Rattle.host.specs.Bounds.{short, long}
use Rattle.host.specs.Outcomes.{ready}
use Rattle.host.specs.SetUp.{set_up}
use Rattle.uniqueness.specs.Link.{Station, address_of, starts, ticks, Call, owning, OnLink, Conditions, observed, first}
use Rattle.uniqueness.specs.Play.{Rules, in_time, the_rules, plays, all_keep}
use Rattle.uniqueness.proofs.Concrete.Parts.{computing, receipt, call, lower, name, link_of, probe, station, unique_entry, plain, on_link_lem}

abbrev two : Station → Station → ℕ → Station
two a b k = cond (eqb k 0) a b

-- host k of two owns the name at the end of a list
abbrev Owning : (ℕ → Station) → ℕ → List Call → ℕ → Type 0
Owning stations interval cs k =
    observed (link_of 2 stations interval) (plays (link_of 2 stations interval) receipt (first (link_of 2 stations interval)) cs) k
    (probe 2 stations interval) ≡ owning

abbrev TwoOwners : (ℕ → Station) → ℕ → List Call → Type 0
TwoOwners stations interval cs = Owning stations interval cs 0 × Owning stations interval cs 1

-- all rules; all but that the clock never goes back; all, but the clock may pass a due time by an interval; all but the one for starts
abbrev rules : (ℕ → Station) → ℕ → Rules
rules stations interval = the_rules (link_of 2 stations interval) receipt (probe 2 stations interval)

abbrev clock_free : Rules → Rules
clock_free R = record { forward = λ m c. true; due = R.due; start = R.start }

abbrev tick_late : (ℕ → Station) → ℕ → Rules → Rules
tick_late stations interval R = record {
  forward = R.forward;
  due = λ m c. in_time (link_of 2 stations interval) receipt (probe 2 stations interval) (interval + interval) 2 m c.time;
  start = R.start;
}

abbrev start_free : Rules → Rules
start_free R = record { forward = R.forward; due = R.due; start = λ m c. true }

-- each call keeps these rules, and all that it sends is delivered
abbrev Keep : (ℕ → Station) → ℕ → Rules → List Call → Type 0
Keep stations interval R cs = all_keep (link_of 2 stations interval) receipt R (first (link_of 2 stations interval)) cs ≡ true

-- a host with the name alone is on a link of its interval, whatever the others are
alone : List Held
alone = record { kind = 1; start = 4; end = 12; octets = name lower } ∷ []

plain_on : (stations : ℕ → Station) (n interval : ℕ) → n < 256 → interval < 65536
    → (set_up (unique_entry lower) (plain n interval).settings 0 0).result ≡ ready → OnLink (link_of 2 stations interval) (plain n interval)
unfolding computing alone
plain_on stations n interval l li e =
    on_link_lem (unique_entry lower) 0 0 n interval 0 0 (omega arith) 2 stations lower alone
    l li (omega arith) (omega arith) (omega arith) (omega arith)
    (record { octets = refl; label_octets = refl; read = refl; unique = refl; is = refl; same = refl; set_up = e })

-- the addresses of the two differ
abbrev Apart : (ℕ → Station) → Type 0
Apart stations =
    (same_address (address_of (link_of 2 stations short) 0) (address_of (link_of 2 stations short) 1) ≡ false)
    × (same_address (address_of (link_of 2 stations short) 1) (address_of (link_of 2 stations short) 0) ≡ false)

conditions : (stations : ℕ → Station) → OnLink (link_of 2 stations short) (stations 0) → OnLink (link_of 2 stations short) (stations 1)
    → Apart stations → Conditions (link_of 2 stations short)
conditions stations a b (d, e) = record { some = omega arith; family = inl refl; stations = all; apart = apart }
  where
    all : (k : ℕ) → k < 2 → OnLink (link_of 2 stations short) (stations k)
    all zero h = a
    all (suc zero) h = b
    all (suc (suc k)) h = absurd (omega arith)

    apart : (j k : ℕ) → j < 2 → k < 2 → j ≢ k
        → same_address (address_of (link_of 2 stations short) j) (address_of (link_of 2 stations short) k) ≡ false
    apart zero zero h g n = absurd (n refl)
    apart zero (suc zero) h g n = d
    apart zero (suc (suc k)) h g n = absurd (omega arith)
    apart (suc zero) zero h g n = e
    apart (suc zero) (suc zero) h g n = absurd (n refl)
    apart (suc zero) (suc (suc k)) h g n = absurd (omega arith)
    apart (suc (suc j)) k h g n = absurd (omega arith)

-- 1. TWO INTERVALS. Host 0 repeats each 100 ms, host 1, above it, each 1,000. Host 1 starts at 0, host 0 at 2,500, after host 1's last
-- query; so host 1 never asks while host 0 is there to tell it.
abbrev two_intervals : ℕ → Station
two_intervals = two (plain 1 short) (plain 2 long)

abbrev interval_calls : List Call
interval_calls =
    call 1 (starts 0) 0 0 ∷ call 1 ticks 0 1000 ∷ call 1 ticks 0 2000 ∷ call 0 (starts 0) 0 2500 ∷ call 0 ticks 0 2600
    ∷ call 0 ticks 0 2700 ∷ call 0 ticks 0 2800 ∷ call 1 ticks 0 3000 ∷ []

pub two_intervals_lem : Keep two_intervals long (rules two_intervals long) interval_calls × TwoOwners two_intervals long interval_calls
unfolding computing
two_intervals_lem = (refl, (refl, refl))

-- all conditions but the one interval
pub two_intervals_else : OnLink (link_of 2 two_intervals short) (two_intervals 0) × OnLink (link_of 2 two_intervals long) (two_intervals 1)
    × Apart two_intervals
unfolding computing
two_intervals_else = (
  plain_on two_intervals 1 short (omega arith) (omega arith) refl,
  plain_on two_intervals 2 long (omega arith) (omega arith) refl,
  (refl, refl),
)

-- 2. EQUAL ADDRESSES. Host 1 refuses host 0's reply with 16, own: it comes from an address that is its own too.
abbrev twins : ℕ → Station
twins = two (plain 1 short) (plain 1 short)

abbrev equal_calls : List Call
equal_calls =
    call 0 (starts 0) 0 0 ∷ call 0 ticks 0 100 ∷ call 0 ticks 0 200 ∷ call 0 ticks 0 300 ∷ call 1 (starts 0) 0 400
    ∷ call 1 ticks 0 500 ∷ call 1 ticks 0 600 ∷ call 1 ticks 0 700 ∷ []

pub equal_addresses : Keep twins short (rules twins short) equal_calls × TwoOwners twins short equal_calls
unfolding computing
equal_addresses = (refl, (refl, refl))

-- all conditions but that addresses differ
pub equal_addresses_else : OnLink (link_of 2 twins short) (twins 0) × OnLink (link_of 2 twins short) (twins 1)
unfolding computing
equal_addresses_else = (plain_on twins 1 short (omega arith) (omega arith) refl, plain_on twins 1 short (omega arith) (omega arith) refl)

-- 3. A CLOCK THAT GOES BACK. Host 0 becomes Unique at 1,300. Host 1 then starts at 0: host 0 refuses its queries with 4, the clock.
abbrev pair : ℕ → Station
pair = two (plain 1 short) (plain 2 short)

pub pair_conditions : Conditions (link_of 2 pair short)
unfolding computing
pair_conditions =
    conditions pair (plain_on pair 1 short (omega arith) (omega arith) refl) (plain_on pair 2 short (omega arith) (omega arith) refl) (refl, refl)

abbrev back_calls : List Call
back_calls =
    call 0 (starts 0) 0 1000 ∷ call 0 ticks 0 1100 ∷ call 0 ticks 0 1200 ∷ call 0 ticks 0 1300 ∷ call 1 (starts 0) 0 0
    ∷ call 1 ticks 0 100 ∷ call 1 ticks 0 200 ∷ call 1 ticks 0 300 ∷ call 0 ticks 0 1400 ∷ []

pub clock_back : Keep pair short (clock_free (rules pair short)) back_calls × TwoOwners pair short back_calls
unfolding computing
clock_back = (refl, (refl, refl))

-- 4. A TICK THAT IS LATE BY AN INTERVAL. Host 1, above host 0, sends its third query at 200, just before host 0 starts. Its tick is due at
-- 300 and comes at 400, after host 0's third query, which it still answers as verifying.
abbrev late_calls : List Call
late_calls =
    call 1 (starts 0) 0 0 ∷ call 1 ticks 0 100 ∷ call 1 ticks 0 200 ∷ call 0 (starts 0) 0 200 ∷ call 0 ticks 0 300
    ∷ call 0 ticks 0 400 ∷ call 1 ticks 0 400 ∷ call 0 ticks 0 500 ∷ []

pub late_tick : Keep pair short (tick_late pair short (rules pair short)) late_calls × TwoOwners pair short late_calls
unfolding computing
late_tick = (refl, (refl, refl))

-- 5. A SECOND START, OF ANOTHER NAME. As in 4, but at 300 host 1 starts a second unique name, x. That sends a query too, so host 1 counts as
-- due at 400.
abbrev other_table : List ℕ
other_table = unique_entry lower ++ (7 ∷ 0 ∷ 1 ∷ 0 ∷ 1 ∷ 0x78 ∷ 0 ∷ [])

abbrev two_names : ℕ → Station
two_names = two (plain 1 short) (station other_table 0 0 2 short 0 0)

other_names : List Held
other_names =
    record { kind = 1; start = 4; end = 12; octets = name lower } ∷ record { kind = 1; start = 16; end = 19; octets = 1 ∷ 0x78 ∷ 0 ∷ [] } ∷ []

pub two_names_conditions : Conditions (link_of 2 two_names short)
unfolding computing other_names
two_names_conditions =
    conditions two_names (plain_on two_names 1 short (omega arith) (omega arith) refl)
    (on_link_lem other_table 0 0 2 short 0 0 (omega arith) 2 two_names lower other_names
    (omega arith) (omega arith) (omega arith) (omega arith) (omega arith) (omega arith)
    (record { octets = refl; label_octets = refl; read = refl; unique = refl; is = refl; same = refl; set_up = refl }))
    (refl, refl)

abbrev other_calls : List Call
other_calls =
    call 1 (starts 0) 0 0 ∷ call 1 ticks 0 100 ∷ call 1 ticks 0 200 ∷ call 0 (starts 0) 0 200 ∷ call 0 ticks 0 300
    ∷ call 1 (starts 1) 0 300 ∷ call 0 ticks 0 400 ∷ call 1 ticks 0 400 ∷ call 0 ticks 0 500 ∷ []

pub other_start : Keep two_names short (start_free (rules two_names short)) other_calls × TwoOwners two_names short other_calls
unfolding computing
other_start = (refl, (refl, refl))
