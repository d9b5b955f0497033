-- What the reader of a header means.
use Rattle.std.proofs.Common.{None, Some, ℕ, ◌+◌, ◌*◌, ◌/◌, ◌%◌, ◌<◌, ◌≤◌, ◌≡◌, refl, sym, ap, ◌∙◌, subst, List, Bool, true, false, cond, ◌↔◌, arith, ltb, eqb, length, get_or, lt-ltb, le-ltb, ltb-true, ltb-false, eqb-true}
use Rattle.std.proofs.lemmas.Bool.{eqb-false}
use Rattle.octets.specs.Octets.{Octets}
use Rattle.octets.specs.Words.{big_at}
use Rattle.octets.proofs.Tests.{split}
use Rattle.octets.proofs.Octets.{octet_at_lem}
use Rattle.octets.proofs.Words.{big_word}
use Rattle.message.specs.Bounds.{header_octets}
use Rattle.message.specs.declared.Header.{Header}
use Rattle.message.specs.Header.{bits, is_set, header_of, header_at, bit, Layout, IsHeader}

-- fewer than 12 octets, and 12 or more
pub header_short : (s : List ℕ) → length s < header_octets → header_at s ≡ None
unfolding header_at
header_short s h = rw (lt-ltb _ _ h)

pub header_good : (s : List ℕ) → header_octets ≤ length s → header_at s ≡ Some (header_of s)
unfolding header_at
header_good s h = rw (le-ltb _ _ h)

pub header_is : (s : List ℕ) (x : Header) → header_at s ≡ Some x → header_of s ≡ x
header_is s x e =
    split
    (ltb (length s) header_octets)
    (λ t. let z : ◌≡◌ {A = ℕ} 0 1 = cc (header_short s (ltb-true _ _ t)) in absurd (omega arith))
    (λ t. cc (header_good s (ltb-false _ _ t)))

-- The header is short exactly if there are fewer than 12 octets.
pub short_header : (s : List ℕ) → (header_at s ≡ None) ↔ (length s < 12)
short_header s = (
  λ e. split
      (ltb (length s) header_octets)
      (λ t. ltb-true _ _ t)
      (λ t. let z : ◌≡◌ {A = ℕ} 0 1 = cc (header_good s (ltb-false _ _ t)) in absurd (omega arith)),
  header_short s,
)

-- a bit as a flag and back
bit_back : (x : ℕ) → x < 2 → bit (eqb x 1) ≡ x
bit_back x h =
    split
    (eqb x 1)
    (λ t. rw t (sym (eqb-true _ _ t)))
    (λ t. let n : x ≡ 1 → ⊥ = eqb-false _ _ t in rw t (omega arith))

bit_set : (word place : ℕ) → bit (is_set word place) ≡ bits word place 2
bit_set word place = bit_back (bits word place 2) (omega arith)

-- T is the lowest bit of the third octet.
pub tentative_bit : (b : List ℕ) (x : Header) → Octets b → header_at b ≡ Some x → get_or b 2 0 % 2 ≡ cond x.tentative 1 0
unfolding header_of
tentative_bit b x o e =
    let h = octet_at_lem b 3 o in
    let p : get_or b 2 0 % 2 ≡ bits (big_at b 2) 0x100 2 = omega arith in
    p ∙ sym (bit_set (big_at b 2) 0x100) ∙ ap (λ (y : Header). bit y.tentative) (header_is b x e)

-- a word, field by field from the top
fields_sum : (w q1 q2 q3 q4 q5 response opcode conflict truncated tentative reserved rcode : ℕ)
    → q1 ≡ response * 16 + opcode → q2 ≡ q1 * 2 + conflict → q3 ≡ q2 * 2 + truncated → q4 ≡ q3 * 2 + tentative
    → q5 ≡ q4 * 16 + reserved → w ≡ q5 * 16 + rcode
    → w
    ≡ response * 0x8000 + opcode * 0x800 + conflict * 0x400 + truncated * 0x200 + tentative * 0x100 + reserved * 16
    + rcode
fields_sum w q1 q2 q3 q4 q5 response opcode conflict truncated tentative reserved rcode e1 e2 e3 e4 e5 e6 = omega arith

word_sum : (w : ℕ) → w < 65536
    → w
    ≡ bits w 0x8000 2 * 0x8000 + bits w 0x800 16 * 0x800 + bits w 0x400 2 * 0x400 + bits w 0x200 2 * 0x200
    + bits w 0x100 2 * 0x100 + bits w 16 16 * 16 + bits w 1 16
word_sum w h =
    fields_sum w (w / 0x800) (w / 0x400) (w / 0x200) (w / 0x100) (w / 16) _ _ _ _ _ _ _
    (omega arith)
    (omega arith)
    (omega arith)
    (omega arith)
    (omega arith)
    (omega arith)

-- The flags word is made of the fields that are read from it and of the reserved bits, each at its place and of its width.
pub layout : (s : List ℕ) → Octets s → Layout (header_of s) (bits (big_at s 2) 16 16) (big_at s 2)
unfolding header_of
layout s o =
    record {
      opcode = omega arith;
      reserved_bits = omega arith;
      rcode = omega arith;
      sum =
          word_sum (big_at s 2) (big_word s 2 o)
          ∙ rw (bit_set (big_at s 2) 0x8000, bit_set (big_at s 2) 0x400, bit_set (big_at s 2) 0x200, bit_set (big_at s 2) 0x100);
    }

-- a flag is less than 2 as a bit, and told by its bit
bit_small : (b : Bool) → bit b < 2
bit_small true = omega arith
bit_small false = omega arith

bit_tells : (a b : Bool) → bit a ≡ bit b → a ≡ b
bit_tells true true e = refl
bit_tells true false e = absurd (omega arith)
bit_tells false true e = absurd (omega arith)
bit_tells false false e = refl

-- the fields of two headers that the flags word holds are the same
pub record SameFlags (g h : Header) : Type 0 where
  pub response : g.response ≡ h.response
  pub opcode : g.opcode ≡ h.opcode
  pub conflict : g.conflict ≡ h.conflict
  pub truncated : g.truncated ≡ h.truncated
  pub tentative : g.tentative ≡ h.tentative
  pub rcode : g.rcode ≡ h.rcode

-- A word has one layout: what is read from it is all that it can be made of.
pub layout_one : (g h : Header) (p q word : ℕ) → Layout g p word → Layout h q word → SameFlags g h × (p ≡ q)
layout_one g h p q word a b =
    let g1 = bit_small g.response in
    let g2 = bit_small g.conflict in
    let g3 = bit_small g.truncated in
    let g4 = bit_small g.tentative in
    let h1 = bit_small h.response in
    let h2 = bit_small h.conflict in
    let h3 = bit_small h.truncated in
    let h4 = bit_small h.tentative in (
      record {
        response = bit_tells _ _ (omega (arith, a.sum, b.sum));
        opcode = omega (arith, a.sum, b.sum);
        conflict = bit_tells _ _ (omega (arith, a.sum, b.sum));
        truncated = bit_tells _ _ (omega (arith, a.sum, b.sum));
        tentative = bit_tells _ _ (omega (arith, a.sum, b.sum));
        rcode = omega (arith, a.sum, b.sum);
      },
      omega (arith, a.sum, b.sum),
    )

-- ---- the header, whole

stands : (s : List ℕ) → Octets s → 12 ≤ length s → IsHeader s (header_of s)
unfolding header_of
stands s o h =
    record {
      whole = h;
      id = refl;
      reserved = bits (big_at s 2) 16 16;
      flags = layout s o;
      questions = refl;
      answers = refl;
      authorities = refl;
      additionals = refl;
    }

-- two headers with the same flags and the same words are one
same_header : (g h : Header) → SameFlags g h → g.id ≡ h.id → g.questions ≡ h.questions → g.answers ≡ h.answers
    → g.authorities ≡ h.authorities → g.additionals ≡ h.additionals → g ≡ h
same_header g h f i q n a d =
    let e : ◌≡◌ {A = Header} (record {
      id = g.id;
      response = g.response;
      opcode = g.opcode;
      conflict = g.conflict;
      truncated = g.truncated;
      tentative = g.tentative;
      rcode = g.rcode;
      questions = g.questions;
      answers = g.answers;
      authorities = g.authorities;
      additionals = g.additionals;
    }) (record {
      id = h.id;
      response = h.response;
      opcode = h.opcode;
      conflict = h.conflict;
      truncated = h.truncated;
      tentative = h.tentative;
      rcode = h.rcode;
      questions = h.questions;
      answers = h.answers;
      authorities = h.authorities;
      additionals = h.additionals;
    }) = cc (f.response, f.opcode, f.conflict, f.truncated, f.tentative, f.rcode, i, q, n, a, d) in
    e

-- Octets begin with one header.
pub one_header : (s : List ℕ) (g h : Header) → IsHeader s g → IsHeader s h → g ≡ h
one_header s g h x y =
    same_header g h (layout_one g h _ _ _ x.flags y.flags).0 (x.id ∙ sym y.id) (x.questions ∙ sym y.questions)
    (x.answers ∙ sym y.answers) (x.authorities ∙ sym y.authorities) (x.additionals ∙ sym y.additionals)

-- The reader finds a header exactly if one stands at the start: where each word stands, and each flag in its word.
pub reads_a_header : (s : List ℕ) (h : Header) → Octets s → (header_at s ≡ Some h) ↔ IsHeader s h
reads_a_header s h o = (
  λ e. split
      (ltb (length s) header_octets)
      (λ t. let z : ◌≡◌ {A = ℕ} 0 1 = cc (header_short s (ltb-true _ _ t)) in absurd (omega arith))
      (λ t. subst (λ (x : Header). IsHeader s x) (header_is s h e) (stands s o (ltb-false _ _ t))),
  λ x. header_good s x.whole ∙ ap Some (one_header s (header_of s) h (stands s o x.whole) x),
)
