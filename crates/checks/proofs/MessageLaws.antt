-- Laws of the place of an interface, and of what the code reads of a datagram: its header, after check 5; its question, after the checks
-- 6 to 11.
use Rattle.std.proofs.Common.{None, Some, ℕ, ◌<◌, ◌≡◌, refl, ap, List, true, false, arith, get_or, leb, lt-ltb, leb-false}
use Rattle.octets.specs.Bounds.{interfaces}
use Rattle.octets.specs.Addresses.{unused}
use Rattle.octets.specs.declared.Address.{Address}
use Rattle.octets.specs.declared.Setting.{Setting}
use Rattle.octets.proofs.Tests.{split}
use Rattle.refusal.specs.Numbers.{report_of}
use Rattle.refusal.specs.Checks.{Checks, pass, Verdict, refused, passed, verdict, Gives}
use Rattle.refusal.proofs.Checks.{stays, goes_on}
use Rattle.refusal.specs.declared.Refusal.{Refusal}
use Rattle.message.specs.Bounds.{header_octets}
use Rattle.message.specs.declared.Header.{Header}
use Rattle.message.specs.declared.Question.{Question}
use Rattle.message.specs.Header.{header_of}
use Rattle.message.specs.Question.{question_at, question_or}
use Rattle.host.specs.Early.{no_interface}
use Rattle.host.specs.Receive.{bad_length}
use Rattle.checks.specs.Messages.{slot_of, header_in, address_checks, refuses, reads, read_if, message_read}

-- ---- the place of an interface

pub slot_is : (i : ℕ) → i < interfaces → slot_of i ≡ i
slot_is i l = rw (lt-ltb _ _ l)

-- a number above the last is unused, whatever family stands at its place
pub slot_unused : (family : ℕ → ℕ) (i : ℕ) → no_interface i (family (slot_of i)) ≡ no_interface i (family i)
slot_unused family i = split (leb interfaces i) (λ p. rw p) (λ p. ap (λ (x : ℕ). no_interface i (family x)) (slot_is i (leb-false _ _ p)))

pub slot_family : (settings : List Setting) (i : ℕ) → no_interface i (get_or settings (slot_of i) unused).family ≡ no_interface i (get_or settings i unused).family
slot_family settings = slot_unused (λ x. (get_or settings x unused).family)

-- ---- the header

module _ (s : List ℕ) where
  pub header_bad : header_in s ≡ None → bad_length s ≡ true
  unfolding header_in
  header_bad e = split (bad_length s) (λ p. p) (λ p. let q = rw p at e in let z : ◌≡◌ {A = ℕ} 0 1 = cc in absurd (omega arith))

  pub header_good : (x : Header) → header_in s ≡ Some x → (bad_length s ≡ false) × (header_of s ≡ x)
  unfolding header_in
  header_good x e =
      split (bad_length s)
      (λ p. let q = rw p at e in let z : ◌≡◌ {A = ℕ} 0 1 = cc in absurd (omega arith))
      (λ p. let q = rw p at e in (p, cc))

-- ---- the question

module _ (family source : ℕ) (to : Address) (x : Header) (s : List ℕ) where
  abbrev checks : Checks
  checks = address_checks family source to x s pass

  pub read_refused : (why : Refusal) → refuses (report_of why) ≡ message_read family source to x s
      → (rest : Checks) → verdict (address_checks family source to x s rest) ≡ refused (report_of why)
  unfolding message_read
  read_refused why e rest = stays checks rest _ (go (verdict checks) e)
    where
      go : (v : Verdict) → refuses (report_of why) ≡ read_if v s → v ≡ refused (report_of why)
      go (refused t) q = cc
      go passed q = let z : ◌≡◌ {A = ℕ} 0 1 = cc in absurd (omega arith)

  module _ (q : Question) (e : reads q ≡ message_read family source to x s) where
    pub read_passed : (verdict checks ≡ passed) × (question_or (question_at s header_octets) ≡ q)
    unfolding message_read
    read_passed = go (verdict checks) e
      where
        go : (v : Verdict) → reads q ≡ read_if v s → (v ≡ passed) × (question_or (question_at s header_octets) ≡ q)
        go (refused t) f = let z : ◌≡◌ {A = ℕ} 0 1 = cc in absurd (omega arith)
        go passed f = (refl, cc)

    -- what passes is left to the checks that follow
    pub read_on : {v : Verdict} {rest : Checks} → Gives rest v → Gives (address_checks family source to x s rest) v
    read_on {rest = rest} g = goes_on checks rest read_passed.0 g
