-- What the reader of a question means.
use Rattle.std.proofs.Common.{None, Option, Some, ℕ, ◌+◌, ◌-◌, ◌<◌, ◌≤◌, ◌≡◌, refl, sym, ap, ◌∙◌, subst, List, ◌++◌, append_assoc, ◌↔◌, ◌⊎◌, inl, inr, arith, ltb, length, take, drop, length-append, take-append-drop, drop_at, take_at, drop-drop, lt-ltb, le-ltb, ltb-true, ltb-false}
use Rattle.octets.specs.Octets.{Octets, part_of, runs_past}
use Rattle.octets.specs.Words.{big_at, big_octets}
use Rattle.octets.proofs.Tests.{split}
use Rattle.octets.proofs.Octets.{octets_append, part_in}
use Rattle.octets.proofs.Readers.{finds_none}
use Rattle.octets.proofs.Words.{big_octets_lem, big_there}
use Rattle.names.specs.declared.Name.{Name}
use Rattle.names.specs.Names.{Labels, encode, IsName}
use Rattle.names.specs.NameWalk.{name_at}
use Rattle.names.proofs.Lists.{here, behind, past, stand_drop}
use Rattle.names.proofs.Names.{reads_a_name, finds_name, reads_back}
use Rattle.message.specs.declared.Question.{Question}
use Rattle.message.specs.Question.{question_of, after_name, question_at, question_or, IsQuestion, question_octets}

-- ---- the reader, by what it finds

module _ (s : List ℕ) (at : ℕ) where
  pub question_no_name : name_at s at ≡ None → question_at s at ≡ None
  unfolding question_at
  question_no_name e = rw e

  pub question_cut : (n : Name) → name_at s at ≡ Some n → length s < at + n.len + 4 → question_at s at ≡ None
  unfolding question_at
  question_cut n e h = rw (e, lt-ltb _ _ h)

  pub question_good : (n : Name) → name_at s at ≡ Some n → at + n.len + 4 ≤ length s → question_at s at ≡ Some (question_of s at n)
  unfolding question_at
  question_good n e h = rw (e, le-ltb _ _ h)

-- a question's name has no more octets than the slice
pub name_within : (s : List ℕ) (at : ℕ) → (question_or (question_at s at)).name ≤ length s
unfolding question_at
name_within s at = go (name_at s at)
  where
    go : (r : Option Name) → (question_or (after_name s at r)).name ≤ length s
    go None = omega arith
    go (Some n) =
        split (runs_past (length s) (at + n.len) 4) (λ p. rw p (omega arith)) (λ p. rw p (omega (arith, ltb-false (length s) (at + n.len + 4) p)))

-- ---- in plain words

is_question : (s : List ℕ) (at : ℕ) (n : Name) → Octets s → name_at s at ≡ Some n → at + n.len + 4 ≤ length s
    → IsQuestion s at (question_of s at n)
is_question s at n o e h =
    let r = (reads_a_name s at n o).0 e in
    record { name = r.name_at; labels = r.labels_are; whole = h; qtype = refl; class = refl; end = refl }

found : (s : List ℕ) (at : ℕ) (q : Question) → Octets s → question_at s at ≡ Some q → IsQuestion s at q
found s at q o e = go (name_at s at) refl
  where
    go : (r : Option Name) → name_at s at ≡ r → IsQuestion s at q
    go None f = absurd (let z : ◌≡◌ {A = ℕ} 0 1 = cc (question_no_name s at f) in omega arith)
    go (Some n) f =
        split
        (ltb (length s) (at + n.len + 4))
        (λ t. absurd (let z : ◌≡◌ {A = ℕ} 0 1 = cc (question_cut s at n f (ltb-true _ _ t)) in omega arith))
        (λ t.
        let h : at + n.len + 4 ≤ length s = ltb-false _ _ t in
        let g : question_of s at n ≡ q = cc (question_good s at n f h) in
        subst (λ (x : Question). IsQuestion s at x) g (is_question s at n o f h))

pub same_question : {n l t c e m u d f : ℕ} → l ≡ m → t ≡ u → c ≡ d → e ≡ f
    → ◌≡◌ {A = Question} (record { name = n; labels = l; qtype = t; class = c; end = e }) (record { name = n; labels = m; qtype = u; class = d; end = f })
same_question p q r s = cc

read : (s : List ℕ) (at : ℕ) (q : Question) → Octets s → IsQuestion s at q → question_at s at ≡ Some q
read s at q o f =
    question_good s at _ (finds_name s at q.name o f.name) f.whole
    ∙ ap Some (same_question (sym f.labels) (sym f.qtype) (sym f.class) (sym f.end))

-- The reader finds a question exactly if one stands there: a name, and type and class after it, all inside.
pub reads_a_question : (s : List ℕ) (at : ℕ) (q : Question) → Octets s → (question_at s at ≡ Some q) ↔ IsQuestion s at q
reads_a_question s at q o = (found s at q o, read s at q o)

-- It answers "bad" exactly if none does.
pub reads_no_question : (s : List ℕ) (at : ℕ) → Octets s → (question_at s at ≡ None) ↔ ((q : Question) → IsQuestion s at q → ⊥)
reads_no_question s at o = finds_none (λ q. reads_a_question s at q o) (λ q e. let z : ◌≡◌ {A = ℕ} 0 1 = cc in omega arith) (either (question_at s at))
  where
    either : (r : Option Question) → ((q : Question) × (r ≡ Some q)) ⊎ (r ≡ None)
    either (Some q) = inl (q, refl)
    either None = inr refl

-- ---- where its octets stand

-- the octets of a question are those of its name and four more
pub question_length : (name : List ℕ) (qtype class : ℕ) → length (question_octets name qtype class) ≡ length name + 4
question_length name qtype class =
    omega (arith, length-append (name ++ big_octets qtype) (big_octets class), length-append name (big_octets qtype))

-- and are octets
pub question_octets_lem : (name : List ℕ) (qtype class : ℕ) → Octets name → qtype < 65536 → class < 65536 → Octets (question_octets name qtype class)
question_octets_lem name qtype class o h k =
    octets_append (name ++ big_octets qtype) (big_octets class) (octets_append name (big_octets qtype) o (big_octets_lem qtype h)) (big_octets_lem class k)

-- a word whose octets stand at p
pub big_here : (s : List ℕ) (p v : ℕ) (t : List ℕ) → drop p s ≡ big_octets v ++ t → big_at s p ≡ v
big_here s p v t e =
    let a = here s p _ _ e in
    let b = here s (p + 1) _ _ (behind s p _ _ e) in
    omega arith

-- The octets of a question are read back as that question, whatever stands before and after them.
pub question_back : (b : List ℕ) (n : Labels) (qtype class : ℕ) (r : List ℕ) → IsName n
    → question_at (b ++ (question_octets (encode n) qtype class ++ r)) (length b)
    ≡ Some (record { name = length (encode n); labels = length n; qtype = qtype; class = class; end = length b + length (encode n) + 4 })
question_back b n qtype class r h =
    let u : List ℕ = big_octets class ++ r in
    let t : List ℕ = big_octets qtype ++ u in
    let s : List ℕ = b ++ (encode n ++ t) in
    let p : ℕ = length b + length (encode n) in
    let same : question_octets (encode n) qtype class ++ r ≡ encode n ++ t = simp append_assoc in
    let e : drop p s ≡ t = past s (length b) (encode n) t (drop_at b (encode n ++ t) (length b) refl) in
    let f : drop (p + 2) s ≡ u = past s p (big_octets qtype) u e in
    let l : length s ≡ length b + (length (encode n) + length t) = simp length-append in
    rw same
    (question_good s (length b) _ (reads_back b n t h) (omega arith)
    ∙ ap Some (same_question refl (big_here s p qtype u e) (big_here s (p + 2) class r f) refl))

-- the octets of the word at p, and the rest
word_there : (s : List ℕ) (p : ℕ) → Octets s → p + 2 ≤ length s → drop p s ≡ big_octets (big_at s p) ++ drop (p + 2) s
word_there s p o h =
    sym (take-append-drop 2 (drop p s))
    ∙ ap (λ (l : List ℕ). l ++ drop 2 (drop p s)) (sym (big_there s p o h))
    ∙ ap (λ (l : List ℕ). big_octets (big_at s p) ++ l) (drop-drop 2 p s)

-- The octets of a question that stands in s are those of its name, its type and its class.
pub question_part : (s : List ℕ) (at : ℕ) (q : Question) → Octets s → (f : IsQuestion s at q)
    → part_of s at q.end ≡ question_octets (encode f.name.name) q.qtype q.class
question_part s at q o f =
    let n : List ℕ = encode f.name.name in
    let p : ℕ = at + length n in
    let u : List ℕ = drop (p + 2 + 2) s in
    let xs : List ℕ = question_octets n (big_at s p) (big_at s (p + 2)) in
    let l : q.name ≡ length n = f.name.len_is in
    let k : q.end ≡ p + 4 = omega (arith, f.end) in
    let w : p + 4 ≤ length s = omega (arith, f.whole) in
    let a : at ≤ q.end = omega arith in
    let z : q.end ≤ length s = omega arith in
    let m : length xs ≡ q.end - at = omega (arith, question_length n (big_at s p) (big_at s (p + 2))) in
    let e : drop at s ≡ xs ++ u =
    stand_drop s at n f.name.octets
    ∙ rw (drop-drop (length n) at s, word_there s p o (omega arith), word_there s (p + 2) o (omega arith)) (simp append_assoc) in
    let g : take (q.end - at) (drop at s) ≡ xs = rw e (take_at xs u (q.end - at) m) in
    part_in s at q.end a z ∙ g ∙ rw (f.qtype, f.class, l)

-- A question reads the same wherever its octets stand.
pub question_moves : (s : List ℕ) (at : ℕ) (q : Question) → Octets s → IsQuestion s at q → (b r : List ℕ)
    → question_at (b ++ (part_of s at q.end ++ r)) (length b)
    ≡ Some (record { name = q.name; labels = q.labels; qtype = q.qtype; class = q.class; end = length b + q.name + 4 })
question_moves s at q o f b r =
    rw (question_part s at q o f, f.name.len_is, f.labels)
    (question_back b f.name.name q.qtype q.class r f.name.is_name)
