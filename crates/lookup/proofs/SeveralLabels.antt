-- Names of several labels: the definitions of specs/SeveralLabels.antt in the plain words of specs/Refusals.antt.
use Rattle.std.proofs.Common.{ℕ, zero, suc, ◌+◌, ◌-◌, ◌<◌, ◌≤◌, ◌≡◌, refl, sym, ap, ◌∙◌, ◌↔◌, ◌⊎◌, inl, inr, List, [], ◌∷◌, ◌++◌, map, Bool, true, false, not, arith, add-zero, length, get_or, take, drop, length-append, take-append-drop, drop_of_length-le, leb, drop-drop, drop_at, length-take-le, get_or-drop}
use Rattle.std.proofs.lemmas.List.{map-append, length-map}
use Rattle.std.proofs.Math.Seq.{drop-nil}
use mathlib.Core.Logic.Iff
use Rattle.octets.specs.Octets.{octet_at}
use Rattle.octets.specs.Tests.{◌and◌, ◌or◌}
use Rattle.octets.proofs.Tests.{split, never, cond_same, both, both_is, either_is, upto_number, not_upto, not_true, not_is}
use Rattle.names.specs.Names.{IsLabel, Labels, AreLabels, encode}
use Rattle.names.specs.Folding.{folded, folded_name, same_name}
use Rattle.names.proofs.Names.{same_labels}
use Rattle.names.proofs.Folding.{same_name_is, folded_encode, folded_labels}
use Rattle.lookup.specs.SeveralLabels.{in_addr_arpa, ip6_arpa, after_labels, last_two, is_reverse, several_labels}
use Rattle.lookup.specs.Refusals.{in_addr, ip6, arpa, IsReverse, HasSeveral}

-- ---- the octets after some labels

-- of those from an offset on, the first of so many labels is passed
pub after_label : (left : ℕ) (s : List ℕ) (p : ℕ) → (left ≡ 0 → ⊥) → after_labels left (drop p s) ≡ after_labels (left - 1) (drop (p + 1 + octet_at s p) s)
unfolding after_labels
after_label zero s p h = absurd (h refl)
after_label (suc k) s p h =
    let e : octet_at (drop p s) 0 ≡ octet_at s p = get_or-drop p s 0 0 ∙ ap (λ (x : ℕ). get_or s x 0) (add-zero p) in
    let z : p + (1 + octet_at s p) ≡ p + 1 + octet_at s p = omega arith in
    let l : k ≡ suc k - 1 = omega arith in
    ap (λ (c : ℕ). after_labels k (drop (1 + c) (drop p s))) e
    ∙ ap (after_labels k) (drop-drop (1 + octet_at s p) p s ∙ ap (λ (x : ℕ). drop x s) z)
    ∙ ap (λ (x : ℕ). after_labels x (drop (p + 1 + octet_at s p) s)) l

-- past the end there is nothing
after_none : (k : ℕ) → after_labels k [] ≡ []
unfolding after_labels
after_none zero = refl
after_none (suc k) = ap (after_labels k) (drop-nil 1) ∙ after_none k

pub after_end : (k : ℕ) (s : List ℕ) (p : ℕ) → length s ≤ p → after_labels k (drop p s) ≡ []
after_end k s p h = ap (after_labels k) (drop_of_length-le s h) ∙ after_none k

-- after the labels of a name's front, the rest
pub after_labels_lem : (a b : Labels) → after_labels (length a) (encode (a ++ b)) ≡ encode b
unfolding after_labels
after_labels_lem [] b = refl
after_labels_lem (l ∷ a) b =
    ap (after_labels (length a))
    (sym (drop-drop (length l) 1 (length l ∷ (l ++ encode (a ++ b)))) ∙ drop_at l (encode (a ++ b)) (length l) refl)
    ∙ after_labels_lem a b

drop_labels : (k : ℕ) (n : Labels) → AreLabels n → AreLabels (drop k n)
drop_labels zero n a = a
drop_labels (suc k) [] a = tt
drop_labels (suc k) (l ∷ n) a = drop_labels k n a.1

-- ---- reverse names

-- what decides
module _ (octets : List ℕ) (labels : ℕ) where
  -- so many labels, and the last two of them
  abbrev by : Bool → List ℕ → Bool
  by enough last = enough and (same_name last in_addr_arpa or same_name last ip6_arpa)

  pub reverse_few : labels < 3 → is_reverse octets labels ≡ false
  unfolding is_reverse
  reverse_few h = ap (λ (b : Bool). by b (last_two octets labels)) ((not_upto 3 labels).1 h)

  pub reverse_by : 3 ≤ labels → (last : List ℕ) → last ≡ last_two octets labels
      → is_reverse octets labels ≡ (same_name last in_addr_arpa or same_name last ip6_arpa)
  unfolding is_reverse
  reverse_by h last e = ap (λ (b : Bool). by b (last_two octets labels)) ((upto_number 3 labels).1 h) ∙ ap (by true) (sym e)

  -- and what decides 22
  pub barred_few : (permission : Bool) → labels < 2 → several_labels permission octets labels ≡ false
  barred_few permission h = ap (λ (b : Bool). b and not permission and not (is_reverse octets labels)) ((not_upto 2 labels).1 h)

  pub barred_never : several_labels true octets labels ≡ false
  barred_never = cond_same (leb 2 labels) false

  pub barred_by : 2 ≤ labels → several_labels false octets labels ≡ not (is_reverse octets labels)
  barred_by h = ap (λ (b : Bool). b and not (is_reverse octets labels)) ((upto_number 2 labels).1 h)

arpa_label : IsLabel arpa
arpa_label =
    record {
      some = omega arith;
      short = omega arith;
      octets = (omega arith, (omega arith, (omega arith, (omega arith, tt))));
    }

in_addr_labels : AreLabels (in_addr ∷ arpa ∷ [])
in_addr_labels = (
  record {
    some = omega arith;
    short = omega arith;
    octets = (omega arith, (omega arith, (omega arith, (omega arith, (omega arith, (omega arith, (omega arith, tt)))))));
  },
  (arpa_label, tt),
)

ip6_labels : AreLabels (ip6 ∷ arpa ∷ [])
ip6_labels = (
  record { some = omega arith; short = omega arith; octets = (omega arith, (omega arith, (omega arith, tt))) },
  (arpa_label, tt),
)

module _ (n : Labels) (a : AreLabels n) where
  abbrev front : ℕ
  front = length n - 2

  last_two_lem : last_two (encode n) (length n) ≡ encode (drop front n)
  last_two_lem =
      let l : length (take front n) ≡ front = length-take-le front n (omega arith) in
      let w = after_labels_lem (take front n) (drop front n) in
      rw (l, take-append-drop front n) at w

  folded_split : folded_name n ≡ folded_name (take front n) ++ folded_name (drop front n)
  folded_split = ap folded_name (sym (take-append-drop front n)) ∙ map-append (map folded) (take front n) (drop front n)

  front_length : length (folded_name (take front n)) ≡ front
  front_length = length-map (take front n) (map folded) ∙ length-take-le front n (omega arith)

  -- the last two labels are x and y, whose octets once folded are these
  ends_is : (x y octets : List ℕ) → AreLabels (x ∷ y ∷ []) → map folded octets ≡ encode (x ∷ y ∷ [])
      → (same_name (last_two (encode n) (length n)) octets ≡ true) ↔ (folded_name (drop front n) ≡ (x ∷ y ∷ []))
  ends_is x y octets b e =
      let d : AreLabels (drop front n) = drop_labels front n a in
      Iff.trans (rw last_two_lem (same_name_is (encode (drop front n)) octets)) (
        λ f. same_labels (folded_name (drop front n)) (x ∷ y ∷ []) (folded_labels (drop front n) d) b (sym (folded_encode (drop front n) d) ∙ f ∙ e),
        λ f. folded_encode (drop front n) d ∙ ap encode f ∙ sym e,
      )

  in_addr_is : (same_name (last_two (encode n) (length n)) in_addr_arpa ≡ true) ↔ (folded_name (drop front n) ≡ (in_addr ∷ arpa ∷ []))
  unfolding folded
  in_addr_is = ends_is in_addr arpa in_addr_arpa in_addr_labels refl

  ip6_is : (same_name (last_two (encode n) (length n)) ip6_arpa ≡ true) ↔ (folded_name (drop front n) ≡ (ip6 ∷ arpa ∷ []))
  unfolding folded
  ip6_is = ends_is ip6 arpa ip6_arpa ip6_labels refl

  -- what stands before them
  with_front : (x y : List ℕ) → folded_name (drop front n) ≡ (x ∷ y ∷ []) → folded_name n ≡ folded_name (take front n) ++ (x ∷ y ∷ [])
  with_front x y f = folded_split ∙ ap (λ (t : Labels). folded_name (take front n) ++ t) f

  module _ (x y : List ℕ) (before : Labels) (f : folded_name n ≡ before ++ (x ∷ y ∷ [])) where
    as_long : length n ≡ length before + 2
    as_long = sym (length-map n (map folded)) ∙ ap length f ∙ length-append before (x ∷ y ∷ [])

    without_front : folded_name (drop front n) ≡ (x ∷ y ∷ [])
    without_front =
        let l : length before ≡ front = omega (arith, as_long) in
        sym (drop_at (folded_name (take front n)) (folded_name (drop front n)) front front_length)
        ∙ ap (drop front) (sym folded_split ∙ f)
        ∙ drop_at before (x ∷ y ∷ []) front l

  abbrev EndsSo : Type 0
  EndsSo = (folded_name (drop front n) ≡ (in_addr ∷ arpa ∷ [])) ⊎ (folded_name (drop front n) ≡ (ip6 ∷ arpa ∷ []))

  reverse_ends : (is_reverse (encode n) (length n) ≡ true) ↔ ((3 ≤ length n) × EndsSo)
  unfolding is_reverse
  reverse_ends = both_is _ _ (upto_number 3 (length n)) (either_is _ _ in_addr_is ip6_is)

  -- A name is a reverse name exactly if its folded labels are one or more and then in-addr, arpa or ip6, arpa.
  pub reverse_is : (is_reverse (encode n) (length n) ≡ true) ↔ IsReverse n
  reverse_is = Iff.trans reverse_ends (λ e. to e.0 e.1, λ w. from w.before w.some w.ends)
    where
      to : 3 ≤ length n → EndsSo → IsReverse n
      to h (inl f) = record { before = folded_name (take front n); some = omega (arith, front_length); ends = inl (with_front in_addr arpa f) }
      to h (inr f) = record { before = folded_name (take front n); some = omega (arith, front_length); ends = inr (with_front ip6 arpa f) }

      from : (before : Labels) → 1 ≤ length before
          → (folded_name n ≡ before ++ (in_addr ∷ arpa ∷ [])) ⊎ (folded_name n ≡ before ++ (ip6 ∷ arpa ∷ []))
          → (3 ≤ length n) × EndsSo
      from before s (inl f) = (omega (arith, as_long in_addr arpa before f), inl (without_front in_addr arpa before f))
      from before s (inr f) = (omega (arith, as_long ip6 arpa before f), inr (without_front ip6 arpa before f))

  -- ---- 22

  -- It is given exactly so,
  pub several_is : (permission : Bool) → (several_labels permission (encode n) (length n) ≡ true) ↔ HasSeveral permission n
  several_is permission = (
    λ e.
        let t = (both _ _).0 e in
        let p = (both _ _).0 t.1 in
        record {
          two = (upto_number 2 (length n)).0 t.0;
          no_permission = (not_true permission).0 p.0;
          not_reverse = (not_is _ reverse_is).0 ((not_true _).0 p.1);
        },
    λ w.
        (both _ _).1 (
          (upto_number 2 (length n)).1 w.two,
          (both _ _).1 ((not_true permission).1 w.no_permission, (not_true _).1 ((not_is _ reverse_is).1 w.not_reverse)),
        ),
  )

  -- and not given exactly so.
  pub may_ask_is : (permission : Bool)
      → (several_labels permission (encode n) (length n) ≡ false) ↔ ((length n < 2) ⊎ (permission ≡ true) ⊎ IsReverse n)
  may_ask_is permission = (to, from)
    where
      given : leb 2 (length n) ≡ true → permission ≡ false → is_reverse (encode n) (length n) ≡ false → several_labels permission (encode n) (length n) ≡ true
      given t p r = (both _ _).1 (t, (both _ _).1 ((not_true permission).1 p, (not_true _).1 r))

      to : several_labels permission (encode n) (length n) ≡ false → (length n < 2) ⊎ (permission ≡ true) ⊎ IsReverse n
      to e =
          split (leb 2 (length n))
          (λ t. split permission (λ p. inr (inl p)) (λ p. split (is_reverse (encode n) (length n)) (λ r. inr (inr (reverse_is.0 r))) (λ r. never (given t p r) e)))
          (λ t. inl ((not_upto 2 (length n)).0 t))

      from : (length n < 2) ⊎ (permission ≡ true) ⊎ IsReverse n → several_labels permission (encode n) (length n) ≡ false
      from (inl h) = rw ((not_upto 2 (length n)).1 h)
      from (inr (inl p)) = (not_is _ (several_is permission)).1 (λ w. never p w.no_permission)
      from (inr (inr r)) = (not_is _ (several_is permission)).1 (λ w. w.not_reverse r)
