-- Equality of two names in records: what it means in plain words, that it is symmetric and transitive, and that without pointers it is the
-- equality of the octets where they stand.
use Rattle.std.proofs.Common.{None, Option, Some, ℕ, ◌+◌, ◌-◌, ◌≤◌, ◌≡◌, refl, sym, ap, ◌∙◌, List, map, Bool, true, false, ◌↔◌, arith, length, take, drop}
use Rattle.octets.specs.Octets.{Octets, part_of}
use Rattle.octets.proofs.Octets.{part_in}
use Rattle.octets.proofs.Tests.{both_is, cond_same, never, not_is}
use Rattle.names.specs.Names.{Labels, encode, NameAt}
use Rattle.names.specs.Folding.{folded, same_name}
use Rattle.names.specs.Readings.{labels}
use Rattle.names.specs.declared.RecordName.{RecordName}
use Rattle.names.specs.RecordNameWalk.{record_name_at, expanded_at}
use Rattle.names.specs.Comparison.{is_good, same_record_name, SameNames}
use Rattle.names.proofs.Names.{name_inside}
use Rattle.names.proofs.Folding.{same_name_is, same_names, same_lengths}
use Rattle.names.proofs.Expansion.{expanded_length}
use Rattle.names.proofs.Readings.{reads_a_reading, expands, reading_is_name}
use Rattle.names.proofs.Plain.{plain_reading, reading_labels, plain_is_packed}

-- Two names that can be read are equal exactly if their expanded names are; one that cannot equals nothing.
pub same_read : (s : List ℕ) (p : ℕ) (t : List ℕ) (q : ℕ) (r u : RecordName) → record_name_at s p ≡ Some r → record_name_at t q ≡ Some u
    → same_record_name s p t q ≡ same_name (expanded_at s p) (expanded_at t q)
unfolding same_record_name
same_read s p t q r u e f = rw (e, f)

pub first_bad : (s : List ℕ) (p : ℕ) (t : List ℕ) (q : ℕ) → record_name_at s p ≡ None → same_record_name s p t q ≡ false
unfolding same_record_name
first_bad s p t q e = rw e

pub second_bad : (s : List ℕ) (p : ℕ) (t : List ℕ) (q : ℕ) → record_name_at t q ≡ None → same_record_name s p t q ≡ false
unfolding same_record_name
second_bad s p t q e = rw e (cond_same (is_good (record_name_at s p)) false)

good_one : (x : Option RecordName) → is_good x ≡ true → (r : RecordName) × (x ≡ Some r)
good_one (Some r) e = (r, refl)
good_one None e = never e refl

-- both can be read, and the folded octets of their expanded names are equal
record Same (s : List ℕ) (p : ℕ) (t : List ℕ) (q : ℕ) : Type 0 where
  first : is_good (record_name_at s p) ≡ true
  second : is_good (record_name_at t q) ≡ true
  octets : map folded (expanded_at s p) ≡ map folded (expanded_at t q)

same_is : (s : List ℕ) (p : ℕ) (t : List ℕ) (q : ℕ) → (same_record_name s p t q ≡ true) ↔ Same s p t q
unfolding same_record_name
same_is s p t q =
    let i =
    both_is (is_good (record_name_at s p)) _ (λ e. e, λ e. e)
    (both_is (is_good (record_name_at t q)) _ (λ e. e, λ e. e) (same_name_is (expanded_at s p) (expanded_at t q))) in (
      λ e. let x = i.0 e in record { first = x.0; second = x.1.0; octets = x.1.1 },
      λ x. i.1 (x.first, (x.second, x.octets)),
    )

-- two tests that hold together
alike : (b c : Bool) → (b ≡ true → c ≡ true) → (c ≡ true → b ≡ true) → b ≡ c
alike true c f g = sym (f refl)
alike false true f g = never (g refl) refl
alike false false f g = refl

turned : {s : List ℕ} {p : ℕ} {t : List ℕ} {q : ℕ} → Same s p t q → Same t q s p
turned x = record { first = x.second; second = x.first; octets = sym x.octets }

-- The order of the two does not matter.
pub symmetric : (s : List ℕ) (p : ℕ) (t : List ℕ) (q : ℕ) → same_record_name s p t q ≡ same_record_name t q s p
symmetric s p t q =
    alike
    (same_record_name s p t q)
    (same_record_name t q s p)
    (λ e. (same_is t q s p).1 (turned ((same_is s p t q).0 e)))
    (λ e. (same_is s p t q).1 (turned ((same_is t q s p).0 e)))

-- A name equals itself exactly if it can be read.
pub itself : (s : List ℕ) (p : ℕ) → same_record_name s p s p ≡ is_good (record_name_at s p)
itself s p =
    alike
    (same_record_name s p s p)
    (is_good (record_name_at s p))
    (λ e. ((same_is s p s p).0 e).first)
    (λ e. (same_is s p s p).1 (record { first = e; second = e; octets = refl }))

-- Two that equal a third are equal.
pub transitive : (s : List ℕ) (p : ℕ) (t : List ℕ) (q : ℕ) (u : List ℕ) (k : ℕ) → same_record_name s p t q ≡ true → same_record_name t q u k ≡ true
    → same_record_name s p u k ≡ true
transitive s p t q u k e f =
    let x = (same_is s p t q).0 e in
    let y = (same_is t q u k).0 f in
    (same_is s p u k).1 (record { first = x.first; second = y.second; octets = x.octets ∙ y.octets })

module _ (s : List ℕ) (p : ℕ) (t : List ℕ) (q : ℕ) where
  -- Equal names have expanded names of one length.
  pub same_record_lengths : (r u : RecordName) → record_name_at s p ≡ Some r → record_name_at t q ≡ Some u → same_record_name s p t q ≡ true → r.len ≡ u.len
  same_record_lengths r u e f h =
      sym (expanded_length s p r e)
      ∙ same_lengths (expanded_at s p) (expanded_at t q) (sym (same_read s p t q r u e f) ∙ h)
      ∙ expanded_length t q u f

  module _ (o : Octets s) (w : Octets t) where
    -- Two names are equal exactly if both have a reading, and the labels of the readings are the same once folded.
    pub same_names_plain : (same_record_name s p t q ≡ true) ↔ SameNames s p t q
    same_names_plain = (to, from)
      where
        to : same_record_name s p t q ≡ true → SameNames s p t q
        to h =
            let x = (same_is s p t q).0 h in
            let e = good_one (record_name_at s p) x.first in
            let g = good_one (record_name_at t q) x.second in
            let f = (reads_a_reading s p e.0 o).0 e.1 in
            let k = (reads_a_reading t q g.0 w).0 g.1 in
            let y : same_name (encode (labels f.steps)) (encode (labels k.steps)) ≡ true =
            ap (λ (l : List ℕ). same_name l (encode (labels k.steps))) (sym (expands s p e.0 o f))
            ∙ ap (same_name (expanded_at s p)) (sym (expands t q g.0 w k))
            ∙ (same_name_is (expanded_at s p) (expanded_at t q)).1 x.octets in
            record {
              one = e.0;
              other = g.0;
              reading = f;
              other_reading = k;
              same = (same_names (labels f.steps) (labels k.steps) (reading_is_name s p e.0 f) (reading_is_name t q g.0 k)).0 y;
            }

        from : SameNames s p t q → same_record_name s p t q ≡ true
        from x =
            let f = x.reading in
            let k = x.other_reading in
            same_read s p t q x.one x.other ((reads_a_reading s p x.one o).1 f) ((reads_a_reading t q x.other w).1 k)
            ∙ ap (λ (l : List ℕ). same_name l (expanded_at t q)) (expands s p x.one o f)
            ∙ ap (same_name (encode (labels f.steps))) (expands t q x.other w k)
            ∙ (same_names (labels f.steps) (labels k.steps) (reading_is_name s p x.one f) (reading_is_name t q x.other k)).1 x.same

    -- They differ exactly if that is not so.
    pub differ_plain : (same_record_name s p t q ≡ false) ↔ (SameNames s p t q → ⊥)
    differ_plain = not_is (same_record_name s p t q) same_names_plain

-- a name without pointers is expanded to its octets where they stand
stands : (s : List ℕ) (p len : ℕ) → Octets s → NameAt s p len → expanded_at s p ≡ part_of s p (p + len)
stands s p len o f =
    let n : Labels = f.name in
    let h : p ≤ p + len = omega arith in
    let z : length (encode n) ≡ p + len - p = omega (arith, f.len_is) in
    expands s p _ o (plain_reading s p len f)
    ∙ ap encode (reading_labels s p len f)
    ∙ sym f.octets
    ∙ ap (λ (k : ℕ). take k (drop p s)) z
    ∙ sym (part_in s p (p + len) h (name_inside s p len f))

-- Names without pointers are compared as the octets where they stand are.
pub without_pointers : (s : List ℕ) (p : ℕ) (t : List ℕ) (q m n : ℕ) → Octets s → Octets t → NameAt s p m → NameAt t q n
    → same_record_name s p t q ≡ same_name (part_of s p (p + m)) (part_of t q (q + n))
without_pointers s p t q m n o w f g =
    same_read s p t q _ _ (plain_is_packed s p m o f) (plain_is_packed t q n w g)
    ∙ ap (λ (l : List ℕ). same_name l (expanded_at t q)) (stands s p m o f)
    ∙ ap (same_name (part_of s p (p + m))) (stands t q n w g)
