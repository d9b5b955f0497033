-- What a good table holds, for callers: each of its names is a name, there are at most 8, and one is found by every spelling of it.
use Rattle.std.proofs.Common.{Some, ℕ, zero, suc, ◌+◌, ◌<◌, ◌≤◌, ◌≡◌, refl, sym, ap, ◌∙◌, subst, List, [], ◌∷◌, arith, length, get_or}
use Rattle.octets.specs.Octets.{Octets}
use Rattle.octets.proofs.Tests.{split}
use Rattle.names.specs.Names.{Labels, IsName, encode}
use Rattle.names.specs.Folding.{folded_name, same_name}
use Rattle.names.proofs.Names.{same_labels}
use Rattle.name_table.specs.Bounds.{most_names, entry_head}
use Rattle.name_table.specs.Check.{Held, Checked, no_name, names_in, good, check_table, find_from, find_name}
use Rattle.name_table.specs.Entries.{Entry, name, resource, mask, data_octets, names, GoodTable, located}
use Rattle.name_table.proofs.Entries.{AreNames, located_length}
use Rattle.name_table.proofs.Meaning.{all_names, good_iff}
use Rattle.name_table.proofs.Numbers.{finds}
use Rattle.name_table.proofs.Read.{read_few}

-- the labels of the k-th of some names that stand from an offset on
named_at : (o : ℕ) (es : List Entry) (k : ℕ) → AreNames (names es) → k < length (names es)
    → IsName (get_or (names es) k []) × ((get_or (located o es) k no_name).octets ≡ encode (get_or (names es) k []))
named_at o [] k x h = absurd (omega arith)
named_at o (name j n ∷ es) zero x h = (x.0, refl)
named_at o (name j n ∷ es) (suc k) x h = named_at (o + (entry_head + length (encode n))) es k x.1 (omega arith)
named_at o (resource d ∷ es) k x h = named_at (o + (entry_head + length (data_octets d))) es k x h
named_at o (mask m ∷ es) k x h = named_at (o + 5) es k x h

-- The number of a name that is found is below the number of names.
found_from : (j : ℕ) (hs : List Held) (x : List ℕ) (k : ℕ) → find_from j hs x ≡ Some k → k < j + length hs
unfolding find_from
found_from j [] x k e = let z : ◌≡◌ {A = ℕ} 0 1 = cc in absurd (omega arith)
found_from j (h ∷ hs) x k e =
    split (same_name h.octets x)
    (λ p. let f : Some j ≡ Some k = rw p at e in let g : j ≡ k = cc in omega arith)
    (λ p. let f : find_from (j + 1) hs x ≡ Some k = rw p at e in omega (arith, found_from (j + 1) hs x k f))

pub found_below : (hs : List Held) (x : List ℕ) (k : ℕ) → find_name hs x ≡ Some k → k < length hs
found_below hs x k e = omega (arith, found_from 0 hs x k e)

module _ (table : List ℕ) (hs : List Held) (o : Octets table) (e : check_table table ≡ good hs) where
  entries_of : (t : GoodTable table) × (hs ≡ located 0 t.entries)
  entries_of = (good_iff table hs o).0 e

  many : length hs ≡ length (names entries_of.0.entries)
  many = ap length entries_of.1 ∙ located_length 0 entries_of.0.entries

  -- There are at most 8 names.
  pub few_held : length hs ≤ most_names
  few_held = subst (λ (c : Checked). length (names_in c) ≤ most_names) e (read_few table)

  module _ (k : ℕ) (l : k < length hs) where
    there : IsName (get_or (names entries_of.0.entries) k []) × ((get_or (located 0 entries_of.0.entries) k no_name).octets ≡ encode (get_or (names entries_of.0.entries) k []))
    there = named_at 0 entries_of.0.entries k (all_names [] entries_of.0.entries tt entries_of.0.keep) (omega (arith, many))

    octets_are : (get_or hs k no_name).octets ≡ encode (get_or (names entries_of.0.entries) k [])
    octets_are = ap (λ (x : List Held). (get_or x k no_name).octets) entries_of.1 ∙ there.1

    -- The k-th name is a name.
    pub held_name : (n : Labels) × IsName n × ((get_or hs k no_name).octets ≡ encode n)
    held_name = (get_or (names entries_of.0.entries) k [], there.0, octets_are)

    -- It is found by every name that equals it.
    pub found_by : (n m : Labels) → IsName n → IsName m → (get_or hs k no_name).octets ≡ encode m → folded_name m ≡ folded_name n → find_name hs (encode n) ≡ Some k
    found_by n m a b q f =
        let t = entries_of.0 in
        let p : get_or (names t.entries) k [] ≡ m = same_labels _ m there.0.labels b.labels (sym octets_are ∙ q) in
        ap (λ (x : List Held). find_name x (encode n)) entries_of.1
        ∙ (finds table t n a k).1 (omega (arith, many), ap folded_name p ∙ f)
