-- Determined: of the answers that are asked for there is one list that is taken. Answers that stand in a message determine its octets
-- there, all but the two of each owner, which are a pointer; and the octets determine the answers.
use Rattle.std.proofs.Common.{ℕ, ◌+◌, ◌-◌, ◌<◌, ◌≤◌, ◌≡◌, refl, sym, ap, ◌∙◌, subst, List, [], ◌∷◌, ◌++◌, append_assoc, Bool, ◌↔◌, ◌⊎◌, inl, inr, arith, length, take, drop, length-append, take-append-drop, take_at, drop_at, drop-drop, ltb, ltb-true, ltb-false}
use Rattle.octets.specs.Octets.{Octets, part_of}
use Rattle.octets.specs.Words.{big_at, big_octets}
use Rattle.octets.proofs.Tests.{split, never}
use Rattle.octets.proofs.Octets.{part_in, part_past, part_rest}
use Rattle.octets.proofs.Words.{big_there, big_drop}
use Rattle.names.specs.Names.{Stand}
use Rattle.names.specs.Readings.{Step, label, pointer, Reads, after}
use Rattle.name_table.specs.Entries.{Answer}
use Rattle.message.specs.declared.ResourceRecord.{ResourceRecord}
use Rattle.message.specs.declared.ReplyHead.{ReplyHead}
use Rattle.message.specs.Records.{IsRecord, AreRecords}
use Rattle.message.specs.Reply.{answer_octets, answers_octets, Taken, taken_from, asked_of, LeftOut, AreTaken, taken_of, reply_to, IsAnswer, AreAnswers, Answered}
use Rattle.message.proofs.Reply.{octets_count, taken_are}
use Rattle.message.proofs.ReplyLaws.{body_is, answers_stand}
use Rattle.witness.specs.Determined.{after_owner, answers_with, owners_in, PointTo12, PointBack}

-- ---- which answers are taken

-- nothing is left, or what is left begins with an answer that would pass the limit
abbrev Ends : ℕ → ℕ → List Answer → Type 0
Ends limit end rest = (rest ≡ []) ⊎ LeftOut limit end rest

ends : {limit used : ℕ} {asked : List Answer} (t : Taken) (f : AreTaken limit used asked t)
    → Ends limit (used + length (answers_octets t.answers)) f.rest
ends t f = split t.cut (λ e. inr (f.left_out e)) (λ e. inl (f.whole.0 e))

-- what ends there cannot go on with an answer that stays within the limit
no_more : (limit used : ℕ) (b : Answer) (rest more : List Answer) → Ends limit used rest → rest ≡ b ∷ more → limit < used + length (answer_octets b)
no_more limit used b rest more (inl e) q = let z : ◌≡◌ {A = ℕ} 0 1 = cc in absurd (omega arith)
no_more limit used b rest more (inr o) q =
    let w : o.first ∷ o.more ≡ b ∷ more = sym o.are ∙ q in
    let z : o.first ≡ b = cc in
    subst (λ (x : Answer). limit < used + length (answer_octets x)) z o.passes

-- two such first parts of one list are the same
same_first : (limit used : ℕ) (xs ys p q : List Answer) → xs ++ p ≡ ys ++ q
    → used + length (answers_octets xs) ≤ limit → used + length (answers_octets ys) ≤ limit
    → Ends limit (used + length (answers_octets xs)) p → Ends limit (used + length (answers_octets ys)) q
    → (xs ≡ ys) × (p ≡ q)
same_first limit used [] [] p q e f g h k = (refl, e)
same_first limit used [] (b ∷ ys) p q e f g h k =
    absurd (omega (arith, no_more limit (used + 0) b p (ys ++ q) h e, length-append (answer_octets b) (answers_octets ys)))
same_first limit used (a ∷ xs) [] p q e f g h k =
    absurd (omega (arith, no_more limit (used + 0) a q (xs ++ p) k (sym e), length-append (answer_octets a) (answers_octets xs)))
same_first limit used (a ∷ xs) (b ∷ ys) p q e f g h k =
    let c : a ≡ b = cc in
    let d : xs ++ p ≡ ys ++ q = cc in
    let u : ℕ = used + length (answer_octets a) in
    let l : used + length (answers_octets (a ∷ xs)) ≡ u + length (answers_octets xs) =
    omega (arith, length-append (answer_octets a) (answers_octets xs)) in
    let m : used + length (answers_octets (b ∷ ys)) ≡ u + length (answers_octets ys) =
    omega (arith, length-append (answer_octets b) (answers_octets ys), ap (λ (x : Answer). length (answer_octets x)) c) in
    let r = same_first limit u xs ys p q d (omega (arith, f, l)) (omega (arith, g, m))
    (subst (λ (n : ℕ). Ends limit n p) l h) (subst (λ (n : ℕ). Ends limit n q) m k) in
    let s = r.0 in
    (cc, r.1)

same_taken : (t u : Taken) → t.answers ≡ u.answers → t.cut ≡ u.cut → t ≡ u
same_taken t u e f = both e f
  where
    both : {x y : List Answer} {c d : Bool} → x ≡ y → c ≡ d
        → ◌≡◌ {A = Taken} (record { answers = x; cut = c }) (record { answers = y; cut = d })
    both e f = cc

-- Of the answers that are asked for there is one list that is taken within a limit, and it is cut or it is not.
pub taken_one : (limit used : ℕ) (asked : List Answer) (t u : Taken) → AreTaken limit used asked t → AreTaken limit used asked u → t ≡ u
taken_one limit used asked t u f g =
    let r = same_first limit used t.answers u.answers f.rest g.rest (sym f.first ∙ g.first) f.within g.within (ends t f) (ends u g) in
    same_taken t u r.0
    (split t.cut
    (λ e. split u.cut (λ d. e ∙ sym d) (λ d. never e (f.whole.1 (r.1 ∙ g.whole.0 d))))
    (λ e. sym (g.whole.1 (sym r.1 ∙ f.whole.0 e) ∙ sym e)))

-- So those are taken in plain words that the definition takes, and no others.
pub taken_exactly : (limit qtype used : ℕ) (answers : List Answer) (t : Taken) → used ≤ limit
    → AreTaken limit used (asked_of qtype answers) t ↔ (t ≡ taken_from limit qtype used answers)
taken_exactly limit qtype used answers t h =
    let r = taken_are limit qtype used answers h in (
      λ f. taken_one limit used (asked_of qtype answers) t (taken_from limit qtype used answers) f r,
      λ e. subst (λ (u : Taken). AreTaken limit used (asked_of qtype answers) u) (sym e) r,
    )

-- ---- one answer in a message

-- a word and what follows it
word_then : (s : List ℕ) (p q v : ℕ) → Octets s → q ≡ p + 2 → q ≤ length s → big_at s p ≡ v → drop p s ≡ big_octets v ++ drop q s
word_then s p q v o e h w =
    let t : big_octets v ≡ take 2 (drop p s) = ap big_octets (sym w) ∙ big_there s p o (omega arith) in
    let d : drop 2 (drop p s) ≡ drop q s = drop-drop 2 p s ∙ ap (λ (i : ℕ). drop i s) (sym e) in
    sym (take-append-drop 2 (drop p s)) ∙ ap (λ (l : List ℕ). l ++ drop 2 (drop p s)) (sym t) ∙ ap (λ (l : List ℕ). big_octets v ++ l) d

module _ (s : List ℕ) (at : ℕ) (name : List ℕ) (a : Answer) (r : ResourceRecord) (f : IsRecord s at r) (g : IsAnswer s at name a r) where
  data_start : r.start ≡ at + 12
  data_start = omega (arith, f.start, g.owner_end)

  answer_end : r.next ≡ at + 12 + length a.octets
  answer_end = omega (arith, f.next, data_start, g.len)

  data_then : drop (at + 12) s ≡ a.octets ++ drop r.next s
  data_then =
      let n : ℕ = r.next - r.start in
      let h : r.start ≤ r.next = omega (arith, f.next) in
      let z : at + 12 + n ≡ r.next = omega (arith, data_start) in
      let t : take n (drop (at + 12) s) ≡ a.octets =
      ap (λ (i : ℕ). take n (drop i s)) (sym data_start) ∙ sym (part_in s r.start r.next h f.whole) ∙ g.octets in
      sym (take-append-drop n (drop (at + 12) s))
      ∙ ap (λ (l : List ℕ). l ++ drop n (drop (at + 12) s)) t
      ∙ ap (λ (l : List ℕ). a.octets ++ l) (drop-drop n (at + 12) s ∙ ap (λ (i : ℕ). drop i s) z)

  -- An answer that stands in a message is its owner's two octets and those of its type, class, TTL, data length and data.
  pub answer_then : Octets s → drop at s ≡ big_octets (big_at s at) ++ after_owner a ++ drop r.next s
  answer_then o =
      let w = f.whole in
      let e = answer_end in
      word_then s at (at + 2) (big_at s at) o refl (omega arith) refl
      ∙ ap (λ (l : List ℕ). big_octets (big_at s at) ++ l)
      (word_then s (at + 2) (at + 4) a.rtype o (omega arith) (omega arith) (ap (λ (i : ℕ). big_at s i) (sym g.owner_end) ∙ sym f.rtype ∙ g.rtype)
      ∙ ap (λ (l : List ℕ). big_octets a.rtype ++ l)
      (word_then s (at + 4) (at + 6) 1 o (omega arith) (omega arith) (field 2 (at + 4) (omega (arith, g.owner_end)) ∙ sym f.class ∙ g.class)
      ∙ ap (λ (l : List ℕ). big_octets 1 ++ l)
      (word_then s (at + 6) (at + 8) 0 o (omega arith) (omega arith) (field 4 (at + 6) (omega (arith, g.owner_end)) ∙ omega (arith, f.ttl, g.ttl))
      ∙ ap (λ (l : List ℕ). big_octets 0 ++ l)
      (word_then s (at + 8) (at + 10) 30 o (omega arith) (omega arith) (field 6 (at + 8) (omega (arith, g.owner_end)) ∙ omega (arith, f.ttl, g.ttl))
      ∙ ap (λ (l : List ℕ). big_octets 30 ++ l)
      (word_then s (at + 10) (at + 12) (length a.octets) o (omega arith) (omega arith) (field 8 (at + 10) (omega (arith, g.owner_end)) ∙ sym f.len ∙ g.len)
      ∙ ap (λ (l : List ℕ). big_octets (length a.octets) ++ l) data_then)))))
    where
      field : (k p : ℕ) → p ≡ r.owner.next + k → big_at s p ≡ big_at s (r.owner.next + k)
      field k p e = ap (λ (i : ℕ). big_at s i) e

-- a name that ends two octets on is a pointer back

after_some : (at : ℕ) (steps : List Step) → at + 1 ≤ after at steps
after_some at [] = omega arith
after_some at (label l ∷ r) = omega (arith, after_some (at + 1 + length l) r)
after_some at (pointer to ∷ r) = omega arith

points_back : (s : List ℕ) (at run : ℕ) (steps : List Step) → Reads s at run steps → after at steps ≡ at + 2
    → (to : ℕ) × (big_at s at ≡ 0xC000 + to) × (12 ≤ to) × (to < run)
points_back s at run [] x e = absurd (omega arith)
points_back s at run (label l ∷ r) x e = absurd (omega (arith, after_some (at + 1 + length l) r, x.0.some))
points_back s at run (pointer to ∷ r) x e = (to, x.0.word, x.0.after_header, x.0.backwards)

-- ---- answers in a message, one after another

-- their end, whatever their owners are
ends_at : (s : List ℕ) (at end : ℕ) (name : List ℕ) (xs : List Answer) (rs : List ResourceRecord)
    → AreRecords s at rs end → AreAnswers s at name xs rs → end ≡ at + length (answers_octets xs)
ends_at s at end name [] [] f g = omega (arith, f)
ends_at s at end name [] (r ∷ rs) f g = absurd g
ends_at s at end name (a ∷ xs) [] f g = absurd g
ends_at s at end name (a ∷ xs) (r ∷ rs) f g =
    omega
    (arith, ends_at s r.next end name xs rs f.1 g.1, answer_end s at name a r f.0 g.0, length-append (answer_octets a) (answers_octets xs))

ends_inside : (s : List ℕ) (at end : ℕ) (rs : List ResourceRecord) → AreRecords s at rs end → at ≤ length s → end ≤ length s
ends_inside s at end [] f h = omega (arith, f)
ends_inside s at end (r ∷ rs) f h = ends_inside s r.next end rs f.1 f.0.whole

all_then : (s : List ℕ) (at end : ℕ) (name : List ℕ) (xs : List Answer) (rs : List ResourceRecord) → Octets s
    → AreRecords s at rs end → AreAnswers s at name xs rs → drop at s ≡ answers_with (owners_in s at xs) xs ++ drop end s
all_then s at end name [] [] o f g = ap (λ (i : ℕ). drop i s) f
all_then s at end name [] (r ∷ rs) o f g = absurd g
all_then s at end name (a ∷ xs) [] o f g = absurd g
all_then s at end name (a ∷ xs) (r ∷ rs) o f g =
    let i : drop r.next s ≡ answers_with (owners_in s (at + 12 + length a.octets) xs) xs ++ drop end s =
    all_then s r.next end name xs rs o f.1 g.1
    ∙ ap (λ (j : ℕ). answers_with (owners_in s j xs) xs ++ drop end s) (answer_end s at name a r f.0 g.0) in
    answer_then s at name a r f.0 g.0 o
    ∙ ap (λ (l : List ℕ). big_octets (big_at s at) ++ after_owner a ++ l) i
    ∙ sym (append_assoc (big_octets (big_at s at) ++ after_owner a) (answers_with (owners_in s (at + 12 + length a.octets) xs) xs) (drop end s))

length_with : (s : List ℕ) (at : ℕ) (xs : List Answer) → length (answers_with (owners_in s at xs) xs) ≡ length (answers_octets xs)
length_with s at [] = refl
length_with s at (a ∷ xs) =
    omega
    (arith, length_with s (at + 12 + length a.octets) xs, length-append (after_owner a) (answers_with (owners_in s (at + 12 + length a.octets) xs) xs), length-append (answer_octets a) (answers_octets xs))

-- each owner points back
all_back : (s : List ℕ) (at end : ℕ) (name : List ℕ) (xs : List Answer) (rs : List ResourceRecord)
    → AreRecords s at rs end → AreAnswers s at name xs rs → PointBack s at xs
all_back s at end name [] [] f g = tt
all_back s at end name [] (r ∷ rs) f g = absurd g
all_back s at end name (a ∷ xs) [] f g = absurd g
all_back s at end name (a ∷ xs) (r ∷ rs) f g =
    let o = f.0.owner in (
      points_back s at at o.steps o.reads (sym o.next_is ∙ g.0.owner_end),
      subst (λ (i : ℕ). PointBack s i xs) (answer_end s at name a r f.0 g.0) (all_back s r.next end name xs rs f.1 g.1),
    )

with_12 : (s : List ℕ) (at : ℕ) (xs : List Answer) → PointTo12 s at xs → answers_with (owners_in s at xs) xs ≡ answers_octets xs
with_12 s at [] f = refl
with_12 s at (a ∷ xs) f =
    let q : ℕ = at + 12 + length a.octets in
    ap (λ (w : ℕ). big_octets w ++ after_owner a ++ answers_with (owners_in s q xs) xs) f.0
    ∙ ap (λ (l : List ℕ). answer_octets a ++ l) (with_12 s q xs f.1)

none_there : (s : List ℕ) (at : ℕ) → part_of s at at ≡ []
none_there s at =
    split (ltb (length s) at)
    (λ e. part_past s at at (ltb-true _ _ e))
    (λ e.
    let z : at - at ≡ 0 = omega arith in
    part_in s at at (omega arith) (ltb-false _ _ e) ∙ ap (λ (n : ℕ). take n (drop at s)) z)

part_with : (s : List ℕ) (at end : ℕ) (name : List ℕ) (xs : List Answer) (rs : List ResourceRecord) → Octets s
    → AreRecords s at rs end → AreAnswers s at name xs rs → part_of s at end ≡ answers_with (owners_in s at xs) xs
part_with s at end name [] [] o f g = ap (λ (i : ℕ). part_of s at i) (sym f) ∙ none_there s at
part_with s at end name [] (r ∷ rs) o f g = absurd g
part_with s at end name (a ∷ xs) [] o f g = absurd g
part_with s at end name (a ∷ xs) (r ∷ rs) o f g =
    let e = ends_at s at end name (a ∷ xs) (r ∷ rs) f g in
    let l = length_with s at (a ∷ xs) in
    part_in s at end (omega arith) (ends_inside s r.next end rs f.1 f.0.whole)
    ∙ ap (take (end - at)) (all_then s at end name (a ∷ xs) (r ∷ rs) o f g)
    ∙ take_at (answers_with (owners_in s at (a ∷ xs)) (a ∷ xs)) (drop end s) (end - at) (omega arith)

-- ---- what the answers determine

module _ {s : List ℕ} {at end : ℕ} {name : List ℕ} {xs : List Answer} (f : Answered s at end name xs) where
  -- Where the answers end.
  pub answered_end : end ≡ at + length (answers_octets xs)
  answered_end = ends_at s at end name xs f.records f.are_records f.are_answers

  -- Each owner is a pointer back.
  pub answered_back : PointBack s at xs
  answered_back = all_back s at end name xs f.records f.are_records f.are_answers

  -- All octets but the two of each owner.
  pub answered_part : Octets s → part_of s at end ≡ answers_with (owners_in s at xs) xs
  answered_part o = part_with s at end name xs f.records o f.are_records f.are_answers

  -- All octets, where each owner is the pointer C0 0C.
  pub answered_is : Octets s → PointTo12 s at xs → part_of s at end ≡ answers_octets xs
  answered_is o p = answered_part o ∙ with_12 s at xs p

-- So answers that stand in two messages, with the same pointers as owners, stand there as the same octets.
pub answered_one : {s t : List ℕ} {at end from to : ℕ} {name other : List ℕ} {xs : List Answer} → Octets s → Octets t
    → Answered s at end name xs → Answered t from to other xs → owners_in s at xs ≡ owners_in t from xs
    → (part_of s at end ≡ part_of t from to) × (end - at ≡ to - from)
answered_one {s} {t} {at} {end} {from} {to} {name} {other} {xs} o u f g e = (
  answered_part f o ∙ ap (λ (ws : List ℕ). answers_with ws xs) e ∙ sym (answered_part g u),
  omega (arith, answered_end f, answered_end g),
)

-- ---- what the octets determine

-- two answers at one offset are the same, and end at the same offset
same_answer : (s : List ℕ) (at : ℕ) (name other : List ℕ) (a b : Answer) (q r : ResourceRecord) → IsRecord s at q → IsRecord s at r
    → IsAnswer s at name a q → IsAnswer s at other b r → (a ≡ b) × (q.next ≡ r.next)
same_answer s at name other a b q r f g h k =
    let o : q.owner.next ≡ r.owner.next = h.owner_end ∙ sym k.owner_end in
    let t : a.rtype ≡ b.rtype = sym h.rtype ∙ f.rtype ∙ ap (λ (i : ℕ). big_at s i) o ∙ sym g.rtype ∙ k.rtype in
    let l : q.len ≡ r.len = f.len ∙ ap (λ (i : ℕ). big_at s (i + 8)) o ∙ sym g.len in
    let p : q.start ≡ r.start = omega (arith, f.start, g.start) in
    let n : q.next ≡ r.next = omega (arith, f.next, g.next) in
    let d : a.octets ≡ b.octets =
    sym h.octets ∙ ap (λ (i : ℕ). part_of s i q.next) p ∙ ap (λ (i : ℕ). part_of s r.start i) n ∙ k.octets in
    (both t d, n)
  where
    both : {x y : ℕ} {v w : List ℕ} → x ≡ y → v ≡ w
        → ◌≡◌ {A = Answer} (record { rtype = x; octets = v }) (record { rtype = y; octets = w })
    both e f = cc

same_answers : (s : List ℕ) (at end : ℕ) (name other : List ℕ) (xs ys : List Answer) (qs rs : List ResourceRecord)
    → AreRecords s at qs end → AreRecords s at rs end → AreAnswers s at name xs qs → AreAnswers s at other ys rs → xs ≡ ys
same_answers s at end name other [] [] qs rs f g h k = refl
same_answers s at end name other [] (b ∷ ys) qs rs f g h k =
    absurd
    (omega
    (arith, ends_at s at end name [] qs f h, ends_at s at end other (b ∷ ys) rs g k, octets_count (b ∷ ys)))
same_answers s at end name other (a ∷ xs) [] qs rs f g h k =
    absurd
    (omega
    (arith, ends_at s at end name (a ∷ xs) qs f h, ends_at s at end other [] rs g k, octets_count (a ∷ xs)))
same_answers s at end name other (a ∷ xs) (b ∷ ys) [] rs f g h k = absurd h
same_answers s at end name other (a ∷ xs) (b ∷ ys) (q ∷ qs) [] f g h k = absurd k
same_answers s at end name other (a ∷ xs) (b ∷ ys) (q ∷ qs) (r ∷ rs) f g h k =
    let e = same_answer s at name other a b q r f.0 g.0 h.0 k.0 in
    let c = e.0 in
    let n = sym e.1 in
    let d = same_answers s q.next end name other xs ys qs rs f.1
    (subst (λ (i : ℕ). AreRecords s i rs end) n g.1) h.1 (subst (λ (i : ℕ). AreAnswers s i other ys rs) n k.1) in
    cc

-- Other answers do not stand in a message from the same offset up to the same end.
pub answers_one : {s : List ℕ} {at end : ℕ} {name other : List ℕ} {xs ys : List Answer} → Answered s at end name xs → Answered s at end other ys
    → xs ≡ ys
answers_one {s} {at} {end} {name} {other} {xs} {ys} f g =
    same_answers s at end name other xs ys f.records g.records f.are_records g.are_records f.are_answers g.are_answers

-- ---- replies

-- answers as they are written have the pointer to offset 12 as owner
written_12 : (s : List ℕ) (p : ℕ) (xs : List Answer) → drop p s ≡ answers_octets xs → PointTo12 s p xs
written_12 s p [] e = tt
written_12 s p (a ∷ xs) e =
    let l : length (answer_octets a) ≡ 12 + length a.octets = omega arith in
    let y : p ≡ p + 0 = omega arith in
    let w : big_at s p ≡ 0xC00C = ap (λ (i : ℕ). big_at s i) y ∙ big_drop s p 0 ∙ ap (λ (x : List ℕ). big_at x 0) e in
    let z : p + (12 + length a.octets) ≡ p + 12 + length a.octets = omega arith in
    let d : drop (p + 12 + length a.octets) s ≡ answers_octets xs =
    ap (λ (i : ℕ). drop i s) (sym z) ∙ sym (drop-drop (12 + length a.octets) p s) ∙ ap (drop (12 + length a.octets)) e
    ∙ drop_at (answer_octets a) (answers_octets xs) (12 + length a.octets) l in
    (w, written_12 s (p + 12 + length a.octets) xs d)

module _ (limit : ℕ) (head : ReplyHead) (question : List ℕ) (qtype : ℕ) (answers : List Answer) where
  -- The owners in our replies are that pointer.
  pub reply_12 : PointTo12 (reply_to limit head question qtype answers) (12 + length question) (taken_of limit qtype question answers).answers
  reply_12 =
      written_12 (reply_to limit head question qtype answers) (12 + length question) (taken_of limit qtype question answers).answers
      (answers_stand limit head question qtype answers)

  -- A message is our reply behind the header if the question stands there as received, and behind it, up to the end, answers that are
  -- taken of those asked for, with that pointer as owners.
  pub reply_body_one : (m name : List ℕ) (t : Taken) → Octets m → AreTaken limit (12 + length question) (asked_of qtype answers) t
      → Stand m 12 question → Answered m (12 + length question) (length m) name t.answers → PointTo12 m (12 + length question) t.answers
      → drop 12 m ≡ drop 12 (reply_to limit head question qtype answers)
  reply_body_one m name t o f g h p =
      let u : 12 + length question ≤ limit = omega (arith, f.within) in
      let e = (taken_exactly limit qtype (12 + length question) answers t u).0 f in
      sym (take-append-drop (length question) (drop 12 m))
      ∙ ap (λ (l : List ℕ). l ++ drop (length question) (drop 12 m)) g
      ∙ ap (λ (l : List ℕ). question ++ l)
      (drop-drop (length question) 12 m ∙ sym (part_rest m (12 + length question)) ∙ answered_is h o p ∙ ap (λ (v : Taken). answers_octets v.answers) e)
      ∙ sym (body_is limit head question qtype answers)
