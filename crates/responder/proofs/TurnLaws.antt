-- The search for the first name that is due, against the definition: its first place among all names.
use Rattle.std.specs.Prelude.{Option, Some, None, position, Bool, ◌++◌}
use Rattle.std.specs.List.{position_from}
use Rattle.std.proofs.lemmas.Iterator.Adapters.{position_from-zero}
use Rattle.std.proofs.Common.{rules, ap, map, ◌≡◌, ℕ, zero, suc, ◌+◌, ◌<◌, ◌≤◌, cond, ltb, List, [], ◌∷◌, length, get_or, sym, refl, ◌∙◌, arith, le-ltb, lt-ltb, length-append, append_assoc, get_or-append-add}
use Rattle.octets.proofs.Tests.{split}
use Rattle.name_table.specs.Bounds.{most_names}
use Rattle.host.specs.State.{off_name}
use Rattle.host.specs.Tick.{is_due, Due, due, none, due_from}
use Rattle.host.specs.declared.NameState.{NameState}
use Rattle.responder.specs.declared.served.NamedState.{NamedState}
use Rattle.responder.specs.Served.{due_state, due_found}

-- Among fewer names it is the same one, if it is among them.
abbrev pub upto : ℕ → Due → Due
upto n none = none
upto n (due k) = cond (ltb k n) (due k) none

module _ (names : List NameState) (time : ℕ) where
  -- none is found before the first that is looked at
  before : (m i n : ℕ) → n ≤ i → upto n (due_from m names i time) ≡ none
  unfolding due_from
  before zero i n l = refl
  before (suc m) i n l =
      split (is_due (get_or names i off_name) time) (λ p. rw (p, le-ltb i n l))
      (λ p. rw p (before m (i + 1) n (omega (arith, l))))

  shorter : (n m i : ℕ) → n ≤ m → due_from n names i time ≡ upto (i + n) (due_from m names i time)
  unfolding due_from
  shorter zero m i l = sym (before m i (i + 0) (omega arith))
  shorter (suc n) zero i l = absurd (omega (arith, l))
  shorter (suc n) (suc m) i l =
      let s : i + suc n ≡ i + 1 + n = omega arith in
      let b : i < i + suc n = omega arith in
      split (is_due (get_or names i off_name) time) (λ p. rw (p, lt-ltb i (i + suc n) b))
      (λ p. rw (p, s) (shorter n m (i + 1) (omega (arith, l))))

  pub due_among : (n m : ℕ) → n ≤ m → due_from n names 0 time ≡ upto n (due_from m names 0 time)
  due_among n m l = let z : 0 + n ≡ n = omega arith in shorter n m 0 l ∙ rw z

-- ---- the first place at which a test of what stands there passes, and the first of these that passes

module _ {A B : Type 0} (p : B → Bool) (f : A → B) where
  from_map : (i : ℕ) (xs : List A) → position_from (λ x. p (f x)) i xs ≡ position_from p i (map f xs)
  from_map i [] = refl
  from_map i (x ∷ xs) = ap (cond (p (f x)) (Some i)) (from_map (i + 1) xs)

  pub position-map : (xs : List A) → position (λ x. p (f x)) xs ≡ position p (map f xs)
  position-map xs = position_from-zero (λ x. p (f x)) xs ∙ from_map 0 xs ∙ sym (position_from-zero p (map f xs))

-- ---- the code's search

abbrev by_place : Option ℕ → Due
by_place None = none
by_place (Some k) = due k

module _ (time : ℕ) where
  abbrev p : NameState → Bool
  p s = is_due s time

  walk : (names before_it : List NameState)
      → due_from (length names) (before_it ++ names) (length before_it) time ≡ by_place (position_from p (length before_it) names)
  unfolding due_from
  walk [] xs = refl
  walk (y ∷ ys) xs =
      let z : get_or (xs ++ y ∷ ys) (length xs + 0) off_name ≡ y = get_or-append-add xs (y ∷ ys) 0 off_name in
      let a : length xs + 0 ≡ length xs = omega arith in
      let b : get_or (xs ++ y ∷ ys) (length xs) off_name ≡ y = rw a at z in
      let l : length (xs ++ y ∷ []) ≡ length xs + 1 = length-append xs (y ∷ []) in
      let v : due_from (length ys) ((xs ++ y ∷ []) ++ ys) (length (xs ++ y ∷ [])) time ≡ by_place (position_from p (length (xs ++ y ∷ [])) ys) = walk ys (xs ++ y ∷ []) in
      let w = rw (l, append_assoc xs (y ∷ []) ys) at v in
      split (is_due y time) (λ q. rw (b, q)) (λ q. rw (b, q) w)

  places : (names : List NameState) → length names ≡ most_names → (f : Option ℕ) → f ≡ position p names
      → due_from most_names names 0 time ≡ by_place f
  places names l f e =
      rw (← l, e, position_from-zero p names) (walk names [])

  pub none_found : (names : List NameState) → length names ≡ most_names → None ≡ position p names → None ≡ due_found names time
  unfolding due_found
  none_found names l e = rw (places names l None e)

  pub one_found : (names : List NameState) → length names ≡ most_names → (k : ℕ) → Some k ≡ position p names
      → ◌≡◌ {A = Option NamedState} (Some (record { name = k; state = get_or names k off_name })) (due_found names time)
  unfolding due_found
  one_found names l k e = rw (places names l (Some k) e)

-- ---- what it says

pub state_none : (d : Due) (names : List NameState) → None ≡ due_state d names → d ≡ none
state_none none names e = refl
state_none (due k) names e = search rules

pub state_one : (d : Due) (names : List NameState) (n : NamedState) → Some n ≡ due_state d names
    → (d ≡ due n.name) × (get_or names n.name off_name ≡ n.state)
state_one none names n e = search rules
state_one (due k) names n e = let q : n ≡ record { name = k; state = get_or names k off_name } = cc in (rw q, rw q)
