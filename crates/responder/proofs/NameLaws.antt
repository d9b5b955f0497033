-- Laws for the names of a table that the code has read.
use Rattle.std.proofs.Common.{None, Some, ◌≡◌, ℕ, zero, suc, ◌<◌, ◌≤◌, leb, List, [], ◌∷◌, length, get_or, refl, sym, ap, arith, leb-false, leb-true}
use Rattle.std.proofs.Math.ListN.{get_or-eq_default}
use Rattle.octets.specs.Octets.{part_of}
use Rattle.octets.proofs.Tests.{split}
use Rattle.name_table.specs.Kinds.{kind_of}
use Rattle.name_table.specs.Check.{Held, no_name}
use Rattle.name_table.specs.Shown.{held_all, places_of, names_of, name_of}
use Rattle.name_table.specs.declared.Place.{Place}
use Rattle.name_table.specs.declared.Table.{Table}
use Rattle.name_table.specs.declared.Named.{Named}
use Rattle.name_table.proofs.Numbers.{name_is, name_none}

-- the octets of a name are a part of the table
part_is : (s : List ℕ) (ps : List Place) (k : ℕ) → k < length (held_all s ps)
    → part_of s (get_or (held_all s ps) k no_name).start (get_or (held_all s ps) k no_name).end ≡ (get_or (held_all s ps) k no_name).octets
part_is s [] k h = absurd (omega arith)
part_is s (p ∷ ps) zero h = refl
part_is s (p ∷ ps) (suc k) h = part_is s ps k (omega arith)

-- what the name with a number is found to be
module _ (s : List ℕ) (v : Table) (k : ℕ) where
  abbrev held : Held
  held = get_or (names_of s v) k no_name

  pub none_there : name_of v k ≡ None → length (names_of s v) ≤ k
  none_there e = split (leb (length (names_of s v)) k) (λ p. leb-true _ _ p) λ p.
      let z : ◌≡◌ {A = ℕ} 0 1 = cc (name_is s v k (leb-false _ _ p)) in absurd (omega arith)

  -- no records begin at none
  pub no_end : name_of v k ≡ None → 0 ≡ held.end
  no_end e = ap (λ (x : Held). x.end) (sym (get_or-eq_default (names_of s v) no_name (none_there e)))

  module _ (n : Named) (e : name_of v k ≡ Some n) where
    pub one_there : k < length (names_of s v)
    one_there = split (leb (length (names_of s v)) k) (λ p. let z : ◌≡◌ {A = ℕ} 0 1 = cc (name_none s v k (leb-true _ _ p)) in absurd (omega arith)) λ p. leb-false _ _ p

    pub kind_is : n.kind ≡ kind_of held.kind
    kind_is = cc (name_is s v k one_there)

    pub end_is : n.end ≡ held.end
    end_is = cc (name_is s v k one_there)

    pub octets_are : part_of s n.start n.end ≡ held.octets
    octets_are =
        let a : n.start ≡ held.start = cc (name_is s v k one_there) in
        rw (a, end_is) (part_is s (places_of v) k one_there)
