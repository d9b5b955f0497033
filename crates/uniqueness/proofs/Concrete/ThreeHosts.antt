-- Three hosts, with tables, spellings, interfaces and set-up times of their own, meet every condition of the order. A list of their calls
-- keeps every rule, and ends with one owner, whose address is the lowest.
use Rattle.std.proofs.Common.{ℕ, zero, suc, ◌≤◌, ◌<◌, ◌≡◌, refl, ◌≢◌, ◌⊎◌, inl, inr, List, [], ◌∷◌, ◌++◌, true, false, cond, arith, eqb}
use Rattle.octets.specs.Addresses.{same_address}
use Rattle.name_table.specs.Check.{Held}
use Rattle.host.specs.Bounds.{short, latest as latest_time}
use Rattle.uniqueness.specs.Link.{Link, Station, address_of, starts, ticks, Call, latest, Moment, Observed, off, verifying, owning, stopped, Settled, OnLink, Conditions, Probe, observed, EveryProbe, AnyOrder, Run, OneOwner, first}
use Rattle.uniqueness.specs.Play.{plays, the_rules, all_keep}
use Rattle.uniqueness.proofs.Theorem.Views.{settled_by}
use Rattle.uniqueness.proofs.Demand3.{demand_3_holds}
use Rattle.uniqueness.proofs.Concrete.Play.{plays_run}
use Rattle.uniqueness.proofs.Concrete.Parts.{computing, receipt, call, lower, upper, mixed, name, link_of, probe, station, unique_entry, plain, on_link_lem}
use Rattle.uniqueness.proofs.Model.{clash}

-- host 0: scale3 alone, on interface 0 at 192.0.2.3
abbrev host_a : Station
host_a = plain 3 short

names_a : List Held
names_a = record { kind = 1; start = 4; end = 12; octets = name lower } ∷ []

-- host 1: the shared name x before SCALE3, on interface 2 at 192.0.2.1
abbrev table_b : List ℕ
table_b = (7 ∷ 0 ∷ 2 ∷ 0 ∷ 1 ∷ 0x78 ∷ 0 ∷ []) ++ unique_entry upper

abbrev host_b : Station
host_b = station table_b 1 2 1 short 5 1

names_b : List Held
names_b = record { kind = 2; start = 4; end = 7; octets = 1 ∷ 0x78 ∷ 0 ∷ [] } ∷ record { kind = 1; start = 11; end = 19; octets = name upper } ∷ []

-- host 2: Scale3 with an address, on interface 3 at 192.0.2.2
abbrev table_c : List ℕ
table_c = unique_entry mixed ++ (8 ∷ 0 ∷ 3 ∷ 0 ∷ 192 ∷ 0 ∷ 2 ∷ 2 ∷ [])

abbrev host_c : Station
host_c = station table_c 0 3 2 short 7 2

names_c : List Held
names_c = record { kind = 1; start = 4; end = 12; octets = name mixed } ∷ []

abbrev pub three : ℕ → Station
three k = cond (eqb k 0) host_a (cond (eqb k 1) host_b host_c)

abbrev pub three_link : Link
three_link = link_of 3 three short

-- all start within 10 ms; calls that are refused (busy, an unused interface) and quiet ones are among them
abbrev pub three_calls : List Call
three_calls =
    call 0 (starts 0) 0 10 ∷ call 1 (starts 1) 2 15 ∷ call 2 (starts 0) 3 20 ∷ call 0 ticks 0 50 ∷ call 0 (starts 0) 0 60
    ∷ call 1 ticks 0 70 ∷ call 0 ticks 0 110 ∷ call 1 ticks 2 115 ∷ call 2 ticks 3 200 ∷ call 1 ticks 2 215
    ∷ call 1 ticks 2 315 ∷ []

abbrev pub three_end : Moment
three_end = plays three_link receipt (first three_link) three_calls

abbrev pub three_probe : Probe three_link
three_probe = probe 3 three short

on_link_a : OnLink three_link host_a
unfolding computing names_a
on_link_a =
    on_link_lem host_a.table 0 0 3 short 0 0 (omega arith) 3 three lower names_a
    (omega arith) (omega arith) (omega arith) (omega arith) (omega arith) (omega arith)
    (record { octets = refl; label_octets = refl; read = refl; unique = refl; is = refl; same = refl; set_up = refl })

on_link_b : OnLink three_link host_b
unfolding computing names_b
on_link_b =
    on_link_lem table_b 1 2 1 short 5 1 (omega arith) 3 three upper names_b
    (omega arith) (omega arith) (omega arith) (omega arith) (omega arith) (omega arith)
    (record { octets = refl; label_octets = refl; read = refl; unique = refl; is = refl; same = refl; set_up = refl })

on_link_c : OnLink three_link host_c
unfolding computing names_c
on_link_c =
    on_link_lem table_c 0 3 2 short 7 2 (omega arith) 3 three mixed names_c
    (omega arith) (omega arith) (omega arith) (omega arith) (omega arith) (omega arith)
    (record { octets = refl; label_octets = refl; read = refl; unique = refl; is = refl; same = refl; set_up = refl })

apart : (j k : ℕ) → j < 3 → k < 3 → j ≢ k → same_address (address_of three_link j) (address_of three_link k) ≡ false
unfolding computing
apart zero zero h g d = absurd (d refl)
apart zero (suc zero) h g d = refl
apart zero (suc (suc zero)) h g d = refl
apart zero (suc (suc (suc k))) h g d = absurd (omega arith)
apart (suc zero) zero h g d = refl
apart (suc zero) (suc zero) h g d = absurd (d refl)
apart (suc zero) (suc (suc zero)) h g d = refl
apart (suc zero) (suc (suc (suc k))) h g d = absurd (omega arith)
apart (suc (suc zero)) zero h g d = refl
apart (suc (suc zero)) (suc zero) h g d = refl
apart (suc (suc zero)) (suc (suc zero)) h g d = absurd (d refl)
apart (suc (suc zero)) (suc (suc (suc k))) h g d = absurd (omega arith)
apart (suc (suc (suc j))) k h g d = absurd (omega arith)

-- every condition of the order is met
pub three_conditions : Conditions three_link
three_conditions = record { some = omega arith; family = inl refl; stations = stations; apart = apart }
  where
    stations : (k : ℕ) → k < 3 → OnLink three_link (three k)
    stations zero h = on_link_a
    stations (suc zero) h = on_link_b
    stations (suc (suc zero)) h = on_link_c
    stations (suc (suc (suc k))) h = absurd (omega arith)

-- the list keeps every rule
three_keep : all_keep three_link receipt (the_rules three_link receipt three_probe) (first three_link) three_calls ≡ true
unfolding computing
three_keep = refl

pub three_run : Run three_link (EveryProbe three_link) AnyOrder (first three_link) three_calls three_end
unfolding latest
three_run = plays_run three_link receipt three_probe (omega arith) (first three_link) three_calls (omega arith) three_keep

-- and ends with host 1, whose address is the lowest, as the owner
pub three_observed : (observed three_link three_end 0 three_probe ≡ stopped) × (observed three_link three_end 1 three_probe ≡ owning)
    × (observed three_link three_end 2 three_probe ≡ stopped)
unfolding computing
three_observed = (refl, refl, refl)

three_in_range : three_end.time ≤ latest_time
unfolding computing
three_in_range = omega arith

pub three_settled : Settled three_link (EveryProbe three_link) three_end
three_settled = settled_by three_link three_end (λ k. three_probe) (λ k. three_in_range) (λ k h. ended (observed three_link three_end k three_probe) (end k h))
  where
    ended : (x : Observed) → (x ≡ stopped) ⊎ (x ≡ owning) → (x ≢ off) × (x ≢ verifying)
    ended x (inl e) = (λ f. clash cc, λ f. clash cc)
    ended x (inr e) = (λ f. clash cc, λ f. clash cc)

    end : (k : ℕ) → k < 3 → (observed three_link three_end k three_probe ≡ stopped) ⊎ (observed three_link three_end k three_probe ≡ owning)
    end zero h = inl three_observed.0
    end (suc zero) h = inr three_observed.1
    end (suc (suc zero)) h = inl three_observed.2
    end (suc (suc (suc k))) h = absurd (omega arith)

-- so the theorem speaks of this list: its end has one owner, and that is host 1
pub three_owner : OneOwner three_link three_end
three_owner = (demand_3_holds three_link three_conditions).one_owner three_calls three_end three_run three_settled

pub three_owner_is : 1 ≡ three_owner.owner
three_owner_is = three_owner.only 1 (omega arith) (three_probe, three_in_range, three_observed.1)
