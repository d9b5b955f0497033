-- A call on an interface, as the code makes it of the library's call in terms of one name.
use Rattle.std.proofs.Common.{Option, Some, None, is_some, Result, Ok, Err, rules, ℕ, zero, suc, ◌<◌, ◌≡◌, refl, sym, ap, ◌∙◌, List, map, true, false, arith, length, get_or, get_or-set_same, ltb, le-ltb}
use Rattle.std.proofs.lemmas.List.{length-map}
use Rattle.octets.specs.Bounds.{interfaces}
use Rattle.octets.specs.Addresses.{ours_among, is_ours, unused}
use Rattle.octets.specs.declared.Address.{Address}
use Rattle.refusal.specs.declared.Refusal.{Refusal}
use Rattle.name_table.specs.Bounds.{most_names}
use Rattle.host.specs.State.{off_name, interface_of as interface_at, setting_of, state_of as state_at, is_own, with_state}
use Rattle.host.specs.Outcomes.{CallResult, result_of}
use Rattle.host.specs.declared.NameState.{NameState}
use Rattle.checks.specs.Messages.{slot_of}
use Rattle.responder.specs.Served.{Sees, name_told, served_by, ChangeIsWithin, IsWithin}
use Rattle.responder.specs.declared.served.Site.{Site}
use Rattle.responder.specs.declared.served.NamedState.{NamedState}
use Rattle.responder.specs.declared.served.Served.{Served}
use Rattle.llmnr_c.specs.Outcomes.{flat_outcome}
use Rattle.llmnr_c.specs.FlatHost.{state_of, seen, site_in, flat_served, done, step_on}
use Rattle.llmnr_c.specs.declared.flat.FlatSettings.{FlatSettings}
use Rattle.llmnr_c.specs.declared.flat.FlatNames.{FlatNames}

-- ---- what the call looks at

past : (i : ℕ) → ltb (suc (suc (suc (suc i)))) interfaces ≡ false
past i = le-ltb (suc (suc (suc (suc i)))) interfaces (omega arith)

module _ (s : FlatSettings) (clock : ℕ) (n : FlatNames) where
  setting_seen : (i : ℕ) → setting_of (seen s clock n) (slot_of i) ≡ get_or s.interfaces (slot_of i) unused
  setting_seen zero = refl
  setting_seen (suc zero) = refl
  setting_seen (suc (suc zero)) = refl
  setting_seen (suc (suc (suc zero))) = refl
  setting_seen (suc (suc (suc (suc i)))) = rw (past i)

  pub names_seen : (i : ℕ) → (interface_at (seen s clock n) (slot_of i)).names ≡ map state_of n.names
  names_seen zero = refl
  names_seen (suc zero) = refl
  names_seen (suc (suc zero)) = refl
  names_seen (suc (suc (suc zero))) = refl
  names_seen (suc (suc (suc (suc i)))) = rw (past i)

  pub sees : (i : ℕ) (x : Site) → x ≡ site_in s clock i → Sees (seen s clock n) x.interface x.setting x.clock
  sees i x e = rw e (record { setting = setting_seen i; clock_is = refl })

  pub state_seen : (i k : ℕ) (x : NameState) → x ≡ get_or (map state_of n.names) k off_name → state_at (seen s clock n) (slot_of i) k ≡ x
  state_seen i k x e = ap (λ (l : List NameState). get_or l k off_name) (names_seen i) ∙ sym e

  pub own_seen : (a : Address) → is_ours s.interfaces a ≡ is_own (seen s clock n) a
  unfolding ours_among
  own_seen a = refl

  -- ---- what it gives

  -- the state that a name was given is there
  stays : (i k c : ℕ) (x : NameState) → i < interfaces → k < length n.names → state_at (with_state (seen s clock n) i k x c) i k ≡ x
  stays zero k c x l m = get_or-set_same (map state_of n.names) k _ off_name (omega (arith, m, length-map n.names state_of))
  stays (suc zero) k c x l m = get_or-set_same (map state_of n.names) k _ off_name (omega (arith, m, length-map n.names state_of))
  stays (suc (suc zero)) k c x l m = get_or-set_same (map state_of n.names) k _ off_name (omega (arith, m, length-map n.names state_of))
  stays (suc (suc (suc zero))) k c x l m = get_or-set_same (map state_of n.names) k _ off_name (omega (arith, m, length-map n.names state_of))
  stays (suc (suc (suc (suc i)))) k c x l m = absurd (omega (arith, l))

  module _ (time : ℕ) (out : List ℕ) (i : ℕ) (long : length n.names ≡ most_names) where
    pub flattens : (r : Result Served Refusal) → IsWithin r i → done (flat_served clock time r) out ≡ step_on i (served_by r out (seen s clock n) i time)
    flattens (Err why) w = refl
    flattens (Ok r) w = go r.change w
      where
        go : (c : Option NamedState) → ChangeIsWithin c (result_of r.outcome) i
            → done (flat_served clock time (Ok (record { outcome = r.outcome; change = c }))) out
            ≡ step_on i (served_by (Ok (record { outcome = r.outcome; change = c })) out (seen s clock n) i time)
        go None v = rw v
        go (Some x) v = rw (v.0, v.1, stays i x.name time x.state v.2 (omega (arith, v.3, long)))

-- the number of the name that a result tells
pub told_number : (x : CallResult) → name_told x ≡ (flat_outcome x).name
told_number x = search rules

-- a name that has a new state is there
pub within : (clock time : ℕ) (r : Result Served Refusal) (i : ℕ) → IsWithin r i → (flat_served clock time r).changed ≡ true
    → (i < interfaces) × ((flat_served clock time r).outcome.name < most_names)
within clock time (Err why) i w e = search rules
within clock time (Ok r) i w e = go r.change w e
  where
    go : (c : Option NamedState) → ChangeIsWithin c (result_of r.outcome) i → is_some c ≡ true
        → (i < interfaces) × ((flat_outcome (result_of r.outcome)).name < most_names)
    go None v e = search rules
    go (Some x) v e = (v.2, rw (← told_number (result_of r.outcome), v.1) v.3)
