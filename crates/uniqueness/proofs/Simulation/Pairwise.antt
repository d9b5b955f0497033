-- Two lists that agree place by place (mathlib's Forall₂): cutting one at a place cuts the other.
use Rattle.std.proofs.Common.{◌≡◌, refl, ◌∙◌, ap, List, [], ◌∷◌, ◌++◌}
use mathlib.Core.List.{Forall₂}
use mathlib.Mathlib.Data.List.Forall2.{rel-append}
use Rattle.uniqueness.proofs.Model.{unless}

pub append : {A B : Type 0} {R : A → B → Type 0} {l r : List A} {l' r' : List B} → Forall₂ R l l' → Forall₂ R r r' → Forall₂ R (l ++ r) (l' ++ r')
append {l = l} {r} {l'} {r'} f g = rel-append l l' f r r' g

-- ms cut where l, p and r are
pub record Cut {A B : Type 0} (R : A → B → Type 0) (l : List A) (p : A) (r : List A) (ms : List B) : Type 0 where
  pub before : List B
  pub at : B
  pub behind : List B
  pub is : ms ≡ before ++ (at ∷ behind)
  pub left : Forall₂ R l before
  pub here : R p at
  pub right : Forall₂ R r behind

record First {A B : Type 0} (R : A → B → Type 0) (p : A) (r : List A) (ms : List B) : Type 0 where
  at : B
  behind : List B
  is : ms ≡ at ∷ behind
  here : R p at
  right : Forall₂ R r behind

first : {A B : Type 0} {R : A → B → Type 0} {p : A} {r : List A} {ms : List B} → Forall₂ R (p ∷ r) ms → First R p r ms
first (Forall₂.cons {b = b} {l₂ = m} x f) = record { at = b; behind = m; is = refl; here = x; right = f }

pub cut : {A B : Type 0} {R : A → B → Type 0} (l : List A) (p : A) (r : List A) (ms : List B) → Forall₂ R (l ++ (p ∷ r)) ms → Cut R l p r ms
cut [] p r ms f =
    let u = first f in
    record { before = []; at = u.at; behind = u.behind; is = u.is; left = Forall₂.nil; here = u.here; right = u.right }
cut (x ∷ l) p r ms f =
    let u = first f in
    let t = cut l p r u.behind u.right in
    record {
      before = u.at ∷ t.before;
      at = t.at;
      behind = t.behind;
      is = u.is ∙ ap (λ z. u.at ∷ z) t.is;
      left = Forall₂.cons u.here t.left;
      here = t.here;
      right = t.right;
    }

pub pair_unless : {A B D : Type 0} {R : A → B → Type 0} (c : Dec D) (a : A) (b : B) {l : List A} {m : List B} → (¬ D → R a b) → Forall₂ R l m
    → Forall₂ R (unless c a l) (unless c b m)
pair_unless (yes p) a b x f = f
pair_unless (no p) a b x f = Forall₂.cons (x p) f
