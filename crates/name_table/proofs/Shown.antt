-- Laws for the code: the names that it keeps, and the search among them.
use Rattle.std.proofs.Common.{Some, position, drop, take, replicate, set, ℕ, ◌+◌, ◌-◌, ◌<◌, ◌≤◌, ◌≡◌, refl, sym, ap, ◌∙◌, List, [], ◌∷◌, ◌++◌, map, cond, arith, length, drop-drop}
use Rattle.std.proofs.lemmas.List.{map-append, length-map, length-take-le, take-append-drop, length-set, drop-set-lt, drop-replicate, take_more_set}
use Rattle.std.specs.List.{position_from}
use Rattle.std.proofs.lemmas.Iterator.Adapters.{position_from-zero}
use Rattle.octets.specs.Octets.{part_of}
use Rattle.name_table.specs.Bounds.{most_names}
use Rattle.name_table.specs.Check.{find_name, find_from}
use Rattle.name_table.specs.declared.Place.{Place}
use Rattle.name_table.specs.declared.Table.{Table}
use Rattle.name_table.specs.Shown.{held_of, held_all, is_place, count_of, places_of, names_of, place_of, padded, table_of}

-- the search for a name is that of its place
find_places : (s x : List ℕ) (k : ℕ) (ps : List Place) → find_from k (held_all s ps) x ≡ position_from (is_place s x) k ps
unfolding find_from
find_places s x k [] = refl
find_places s x k (p ∷ ps) = ap (cond (is_place s x p) (Some k)) (find_places s x (k + 1) ps)

pub found_at : (s x : List ℕ) (ps : List Place) → position (is_place s x) ps ≡ find_name (held_all s ps) x
found_at s x ps = position_from-zero (is_place s x) ps ∙ sym (find_places s x 0 ps)

-- names as they are kept show themselves
places_back : (s : List ℕ) (ps : List Place) → map place_of (held_all s ps) ≡ ps
places_back s [] = refl
places_back s (p ∷ ps) = ap (λ (qs : List Place). p ∷ qs) (places_back s ps)

-- a table whose places past its names are those of no name
pub record IsPadded (t : Table) : Type 0 where
  pub few : t.names ≤ most_names
  pub size : length t.places ≡ most_names
  pub past : drop t.names t.places ≡ replicate (most_names - t.names) (record { kind = 0; start = 0; end = 0 })

-- a table with room for all its names has so many as it says
module _ (t : Table) (few : t.names ≤ most_names) (size : length t.places ≡ most_names) where
  counted_so : count_of t ≡ t.names
  counted_so = omega (arith, few)

  places_so : places_of t ≡ take t.names t.places
  places_so = ap (λ (n : ℕ). take n t.places) counted_so

  places_length : length (places_of t) ≡ t.names
  places_length = ap length places_so ∙ length-take-le t.names t.places (omega (arith, few, size))

  pub names_length : (s : List ℕ) → length (names_of s t) ≡ t.names
  names_length s = length-map (places_of t) (held_of s) ∙ places_length

module _ (s : List ℕ) (t : Table) (p : IsPadded t) where
  pub table_back : table_of (names_of s t) ≡ t
  table_back =
      let q : padded (map place_of (names_of s t)) ≡ t.places
      = ap padded (places_back s (places_of t) ∙ places_so t p.few p.size)
      ∙ ap (λ (n : ℕ). take t.names t.places ++ replicate (most_names - n) (record { kind = 0; start = 0; end = 0 })) (length-take-le t.names t.places (omega (arith, p.few, p.size)))
      ∙ ap (λ (ps : List Place). take t.names t.places ++ ps) (sym p.past) ∙ take-append-drop t.names t.places in
      rw (q, names_length t p.few p.size s)

-- one name more
abbrev pub added : Table → ℕ → ℕ → ℕ → Table
added t kind start end =
    record { places = set t.places t.names (record { kind = kind; start = start; end = end }); names = t.names + 1 }

pub still_padded : (t : Table) (kind start end : ℕ) → IsPadded t → t.names < most_names → IsPadded (added t kind start end)
still_padded t kind start end p l =
    let x : Place = record { kind = kind; start = start; end = end } in
    let none : Place = record { kind = 0; start = 0; end = 0 } in
    let n : ℕ = t.names in
    record {
      few = omega (arith, l);
      size = length-set t.places n x ∙ p.size;
      past =
          drop-set-lt (n + 1) t.places n x (omega arith)
          ∙ sym (drop-drop 1 n t.places)
          ∙ ap (drop 1) p.past ∙ drop-replicate 1 (most_names - n) none ∙ ap (λ (k : ℕ). replicate k none) (omega arith);
    }

pub names_added : (s : List ℕ) (t : Table) (kind start end : ℕ) → length t.places ≡ most_names → t.names < most_names
    → names_of s (added t kind start end) ≡ names_of s t ++ (record { kind = kind; start = start; end = end; octets = part_of s start end } ∷ [])
names_added s t kind start end size l =
    let x : Place = record { kind = kind; start = start; end = end } in
    let n : ℕ = t.names in
    let e : places_of (added t kind start end) ≡ places_of t ++ (x ∷ [])
    = places_so (added t kind start end) (omega (arith, l)) (length-set t.places n x ∙ size)
    ∙ take_more_set t.places n x (omega (arith, l, size)) ∙ ap (λ (ps : List Place). ps ++ (x ∷ [])) (sym (places_so t (omega (arith, l)) size)) in
    ap (held_all s) e ∙ map-append (held_of s) (places_of t) (x ∷ [])
