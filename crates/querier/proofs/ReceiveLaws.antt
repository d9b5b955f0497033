-- What a datagram makes of a lookup that takes one on a used interface, with room and at a good time: it is refused when it is read, or when it
-- is matched, or it is the response that the lookup waits for.
use Rattle.std.proofs.Common.{Ok, rules, ℕ, ◌≡◌, true, false, List, length, get_or, sym}
use Rattle.octets.specs.Addresses.{unused}
use Rattle.octets.specs.declared.Setting.{Setting}
use Rattle.octets.proofs.Tests.{split}
use Rattle.refusal.specs.Numbers.{report_of}
use Rattle.refusal.specs.Checks.{Checks, Verdict, refused, passed, verdict, Gives, next}
use Rattle.refusal.specs.declared.Refusal.{Refusal}
use Rattle.refusal.proofs.Checks.{gives, by_verdict}
use Rattle.host.specs.declared.Timer.{Timer}
use Rattle.host.specs.Early.{no_room, no_interface, bad_clock}
use Rattle.checks.specs.Messages.{datagram_read, refused_so, read_so}
use Rattle.checks.specs.declared.Datagram.{Datagram}
use Rattle.checks.proofs.DatagramLaws.{datagram_refused, datagram_read_lem, datagram_on}
use Rattle.lookup.specs.State.{with_phase}
use Rattle.lookup.specs.Outcomes.{refusal, silent, found, part}
use Rattle.lookup.specs.Receive.{Arrival, header, question, awaits, match_checks, collecting, heard, response_checks, receive_checks, receive}
use Rattle.lookup.specs.declared.Lookup.{Lookup}
use Rattle.lookup.specs.declared.Phase.TheVariants.{Asking, Ended}
use Rattle.lookup.specs.declared.Phase.{Phase}
use Rattle.lookup.proofs.Laws.{receive_by}
use Rattle.querier.specs.Steps.{opening}

opening_is : (size : ℕ) (settings : List Setting) (i : ℕ) (s : Setting) → Ok s ≡ opening size settings i
    → (no_room size ≡ false) × (no_interface i (get_or settings i unused).family ≡ false) × (get_or settings i unused ≡ s)
opening_is size settings i s e =
    split (no_room size)
    (λ p. search rules)
    (λ p. split (no_interface i (get_or settings i unused).family)
    (λ q. search rules)
    (λ q. let w = rw (p, q) at e in (p, q, cc)))

-- a lookup that does not ask stays in its phase
pub stays_collecting : (p : Phase) → ((sends : ℕ) (timer : Timer) → p ≡ Asking sends timer → ⊥) → collecting p ≡ p
stays_collecting p n = search rules

module _ (l : Lookup) (a : Arrival) (s : Setting) (o : Ok s ≡ opening (length a.out) l.settings l.interface)
    (t : false ≡ bad_clock l.clock a.time) where
  abbrev last : Checks
  last = match_checks (awaits l (header a) (question a) a.datagram) l.settings a.from.address (header a) (question a) a.datagram

  from_5 : {v : Verdict} → Gives (response_checks s.family a.from.address.family a.to a.datagram last) v → Gives (receive_checks l a) v
  from_5 g =
      let w = opening_is (length a.out) l.settings l.interface s o in
      next w.0 (next w.1 (next (sym t) (rw w.2 g)))

  refuses : (why : Refusal) → Gives (response_checks s.family a.from.address.family a.to a.datagram last) (refused (report_of why))
      → refusal l a.out (report_of why) ≡ receive l a
  refuses why g = sym (receive_by l a (refused (report_of why)) (sym (gives (from_5 g))))

  -- when it is read
  pub read_refuses : (why : Refusal) → refused_so (report_of why) ≡ datagram_read true s.family a.from.address.family a.to a.datagram
      → refusal l a.out (report_of why) ≡ receive l a
  read_refuses why e = refuses why (by_verdict (datagram_refused true _ _ _ _ why e last))

  -- it was read
  module _ (d : Datagram) (e : read_so d.header d.question ≡ datagram_read true s.family a.from.address.family a.to a.datagram) where
    abbrev matching : Checks
    matching = match_checks (awaits l d.header d.question a.datagram) l.settings a.from.address d.header d.question a.datagram

    from_15 : {v : Verdict} → v ≡ verdict matching → Gives (receive_checks l a) v
    from_15 m =
        let w = datagram_read_lem true _ _ _ _ d e in
        from_5 (datagram_on true _ _ _ _ d e w last (rw (w.header_is, w.question_is) (by_verdict (sym m))))

    pub match_refuses : (why : Refusal) → refused (report_of why) ≡ verdict matching → refusal l a.out (report_of why) ≡ receive l a
    match_refuses why m = sym (receive_by l a (refused (report_of why)) (sym (gives (from_15 m))))

    match_passes : passed ≡ verdict matching → heard l d.header d.question a.time a.out ≡ receive l a
    match_passes m =
        let w = datagram_read_lem true _ _ _ _ d e in
        rw (← w.header_is, ← w.question_is) (sym (receive_by l a passed (sym (gives (from_15 m)))))

    -- with C clear it is found; with C set it is a part of what is collected
    pub finds : d.header.conflict ≡ false → passed ≡ verdict matching
        → silent (with_phase l Ended a.time) a.out (found d.question.end d.header.answers) ≡ receive l a
    finds c m = let w = match_passes m in rw c at w

    pub collects : (p : Phase) → collecting l.phase ≡ p → d.header.conflict ≡ true → passed ≡ verdict matching
        → silent (with_phase l p a.time) a.out (part d.question.end d.header.answers) ≡ receive l a
    collects p f c m = let w = match_passes m in rw (← f) (rw c at w)
