-- What the code's reading of a datagram says: the checks refuse it, or its header and question were read.
use Rattle.std.proofs.Common.{None, Some, ℕ, ◌≤◌, ◌≡◌, refl, sym, ap, ◌∙◌, subst, List, Bool, true, false, arith, length}
use Rattle.octets.specs.declared.Address.{Address}
use Rattle.refusal.specs.Numbers.{report_of}
use Rattle.refusal.specs.Checks.{Checks, pass, Verdict, refused, passed, verdict, Gives}
use Rattle.refusal.proofs.Checks.{stays, goes_on}
use Rattle.refusal.specs.declared.Refusal.{Refusal}
use Rattle.refusal.specs.declared.Refusal.TheVariants.{Length, Unmatched}
use Rattle.message.specs.Bounds.{header_octets}
use Rattle.message.specs.declared.Header.{Header}
use Rattle.message.specs.declared.Question.{Question}
use Rattle.message.specs.Header.{header_of}
use Rattle.message.specs.Question.{question_at, question_or}
use Rattle.message.proofs.Questions.{name_within}
use Rattle.checks.specs.declared.Datagram.{Datagram}
use Rattle.checks.specs.Messages.{header_in, address_checks, message_read, refuses, reads, unasked, read_checks, refused_so, read_so, datagram_if, datagram_read}
use Rattle.checks.proofs.MessageLaws.{header_bad, header_good, read_refused, read_passed}

module _ (responses : Bool) (family source : ℕ) (to : Address) (s : List ℕ) where
  abbrev checks : Checks
  checks = read_checks responses family source to s pass

  -- ---- how the code reads

  -- 5
  pub length_so : header_in s ≡ None → refused_so (report_of Length) ≡ datagram_read responses family source to s
  unfolding datagram_read verdict
  length_so e = rw (header_bad s e)

  module _ (x : Header) (e : header_in s ≡ Some x) where
    -- 15 for a query
    pub query_so : unasked responses x.response ≡ true → refused_so (report_of Unmatched) ≡ datagram_read responses family source to s
    unfolding datagram_read verdict
    query_so b = rw ((header_good s x e).0, (header_good s x e).1, b)

    -- 6 to 11
    module _ (b : unasked responses x.response ≡ false) where
      since : verdict checks ≡ verdict (address_checks family source to x s pass)
      unfolding verdict
      since = rw ((header_good s x e).0, (header_good s x e).1, b)

      pub message_refused : (why : Refusal) → refuses (report_of why) ≡ message_read family source to x s
          → refused_so (report_of why) ≡ datagram_read responses family source to s
      unfolding datagram_read
      message_refused why r = sym (ap (λ (v : Verdict). datagram_if v s) (since ∙ read_refused family source to x s why r pass))

      pub message_read_lem : (q : Question) → reads q ≡ message_read family source to x s
          → read_so x q ≡ datagram_read responses family source to s
      unfolding datagram_read
      message_read_lem q r =
          let p = read_passed family source to x s q r in
          sym
          (ap (λ (v : Verdict). datagram_if v s) (since ∙ p.0)
          ∙ ap (λ (y : Header). read_so y (question_or (question_at s header_octets))) (header_good s x e).1
          ∙ ap (read_so x) p.1)

  -- ---- what that says of a datagram

  pub datagram_refused : (why : Refusal) → refused_so (report_of why) ≡ datagram_read responses family source to s
      → (rest : Checks) → verdict (read_checks responses family source to s rest) ≡ refused (report_of why)
  unfolding datagram_read
  datagram_refused why e rest = stays checks rest _ (go (verdict checks) e)
    where
      go : (v : Verdict) → refused_so (report_of why) ≡ datagram_if v s → v ≡ refused (report_of why)
      go (refused t) q = cc
      go passed q = let z : ◌≡◌ {A = ℕ} 0 1 = cc in absurd (omega arith)

  module _ (d : Datagram) (e : read_so d.header d.question ≡ datagram_read responses family source to s) where
    -- its header and its question were read
    pub record IsRead : Type 0 where
      pub passes : verdict checks ≡ passed
      pub header_is : header_of s ≡ d.header
      pub question_is : question_or (question_at s header_octets) ≡ d.question

    pub datagram_read_lem : IsRead
    unfolding datagram_read
    datagram_read_lem = go (verdict checks) refl e
      where
        go : (v : Verdict) → verdict checks ≡ v → read_so d.header d.question ≡ datagram_if v s → IsRead
        go (refused t) p q = let z : ◌≡◌ {A = ℕ} 0 1 = cc in absurd (omega arith)
        go passed p q = record { passes = p; header_is = cc; question_is = cc }

    -- what passes is left to the checks that follow
    pub datagram_on : IsRead → {v : Verdict} (rest : Checks) → Gives rest v → Gives (read_checks responses family source to s rest) v
    datagram_on w rest g = goes_on checks rest w.passes g

    pub name_inside : IsRead → d.question.name ≤ length s
    name_inside w = subst (λ (q : Question). q.name ≤ length s) w.question_is (name_within s header_octets)
