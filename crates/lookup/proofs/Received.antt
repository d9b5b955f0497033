-- A response is found, or is a part of what is collected, exactly under the conditions of specs/ExactlyWhen.antt, and what each then
-- gives, whole.
use Rattle.std.proofs.Common.{Result, Ok, Err, ℕ, ◌≡◌, refl, sym, ap, ◌∙◌, subst, ◌↔◌, List, Bool, true, false, cond, not, arith, length, eqb}
use Rattle.octets.specs.Tests.{◌and◌, ◌or◌}
use Rattle.octets.specs.Octets.{Octets}
use Rattle.octets.specs.Addresses.{is_group}
use Rattle.octets.proofs.Tests.{split, never, not_below, not_not, not_is, neither, same_number}
use Rattle.octets.proofs.PlainAddresses.{group_address, ours_plain}
use Rattle.refusal.specs.Numbers.{Report}
use Rattle.refusal.specs.Checks.{Clear, passed, Gives, next, done}
use Rattle.refusal.proofs.Checks.{gives}
use Rattle.message.specs.declared.Question.{Question}
use Rattle.message.specs.declared.ResourceRecord.{ResourceRecord}
use Rattle.message.specs.Header.{header_of}
use Rattle.message.specs.Question.{question_or, is_bad_question}
use Rattle.message.specs.Records.{walk_from, AreRecords}
use Rattle.message.proofs.Questions.{reads_a_question}
use Rattle.message.proofs.Records.{walks}
use Rattle.host.specs.declared.Timer.{Timer}
use Rattle.host.specs.Receive.{bad_class}
use Rattle.host.proofs.Conditions.{question_good}
use Rattle.lookup.specs.State.{setting_of, with_phase}
use Rattle.lookup.specs.Outcomes.{CallResult, refused, Done, silent, found, part}
use Rattle.lookup.specs.Receive.{Arrival, header, question, is_stopped, collecting, heard, receive_checks, receive}
use Rattle.lookup.specs.Refusals.{Waits}
use Rattle.lookup.specs.ExactlyWhen.{Comes, HearsWhen, Waiting, asking as asks_for, collecting as collects_for, FoundWhen, PartWhen}
use Rattle.lookup.specs.declared.Phase.{Phase}
use Rattle.lookup.specs.declared.Phase.TheVariants.{Asking, Collecting, Ended}
use Rattle.lookup.specs.declared.Lookup.{Lookup}
use Rattle.lookup.proofs.Laws.{receive_by, Receives, receive_is}
use Rattle.lookup.proofs.Conditions.{used_is, clock_good, awaited_is}

module _ (l : Lookup) (a : Arrival) (o : Octets a.datagram) where
  hears_when : Clear (receive_checks l a) → HearsWhen l a (question a)
  hears_when c =
      let c5 = c.1.1.1 in
      let e : (header a).response ≡ true = (not_not _).0 c5.1.0 in
      let c6 = c5.1.1 in
      let t = (clock_good l.clock a.time).0 c.1.1.0 in
      let s = (neither _ _).0 c5.0 in
      let f = (neither _ _).0 c6.0 in
      let g = (neither _ _).0 f.1 in
      let group = g.1 in
      let c8 = c6.1.1 in
      let rcode = c8.0 in
      let c10 = c8.1.1 in
      let r = (reads_a_question a.datagram 12 (question a) o).0 (question_good _ c10.0) in
      let c15 = c10.1.1 in
      let w = walked_to (walk_from (header a).answers a.datagram (question a).end) refl c15.1.1.1.0 in
      record {
        room = (not_below (length a.out) 512).0 c.0;
        used = (used_is l.interface (setting_of l)).0 c.1.0;
        latest = t.0;
        in_order = t.1;
        shortest = (not_below (length a.datagram) 12).0 s.0;
        longest = (not_below 9194 (length a.datagram)).0 s.1;
        is_response = e;
        from_family = (same_number _ _).0 ((not_not _).0 f.0);
        to_family = (same_number _ _).0 ((not_not _).0 g.0);
        not_to_group = (not_is _ (group_address a.to)).0 (rw e at group);
        opcode = (same_number _ 0).0 ((not_not _).0 c6.1.0);
        rcode = (same_number _ 0).0 ((not_not _).0 (rw e at rcode));
        one_question = (same_number _ 1).0 ((not_not _).0 ((neither _ _).0 c8.1.0).0);
        question = r;
        awaited = (awaited_is l a (question a)).0 ((not_not _).0 c15.0);
        not_ours = (not_is _ (ours_plain l.settings a.from.address)).0 c15.1.0;
        t_clear = c15.1.1.0;
        records = w.1.0;
        end = w.0;
        are_records = w.1.2;
        as_many = w.1.1;
      }
    where
      walked_to : (w : Result ℕ ℕ) → walk_from (header a).answers a.datagram (question a).end ≡ w → is_stopped w ≡ false
          → (e : ℕ) × ((rs : List ResourceRecord) × (length rs ≡ (header a).answers) × AreRecords a.datagram (question a).end rs e)
      walked_to (Ok e) f s = (e, (walks _ _ _ e o).0 f)
      walked_to (Err p) f s = never refl s

  same_question : (q : Question) → HearsWhen l a q → question a ≡ q
  same_question q w = ap question_or ((reads_a_question a.datagram 12 q o).1 w.question)

  hears_passes : HearsWhen l a (question a) → Gives (receive_checks l a) passed
  hears_passes w =
      let e = w.is_response in
      let group : is_group a.to ≡ false = (not_is _ (group_address a.to)).1 w.not_to_group in
      let to : cond (header a).response (is_group a.to) (not (is_group a.to)) ≡ false = rw e group in
      let counts : (not (header a).response and (not (eqb (header a).answers 0) or not (eqb (header a).authorities 0))) ≡ false = rw e in
      let rcode : ((header a).response and not (eqb (header a).rcode 0)) ≡ false = rw e ((not_not _).1 ((same_number _ 0).1 w.rcode)) in
      let class : (not (header a).response and bad_class (question a).class) ≡ false = rw e in
      let walk = (walks (header a).answers a.datagram (question a).end w.end o).1 (w.records, w.as_many, w.are_records) in
      next ((not_below (length a.out) 512).1 w.room)
      (next ((used_is l.interface (setting_of l)).1 w.used)
      (next ((clock_good l.clock a.time).1 (w.latest, w.in_order))
      (next ((neither _ _).1 ((not_below (length a.datagram) 12).1 w.shortest, (not_below 9194 (length a.datagram)).1 w.longest))
      (next ((not_not _).1 e)
      (next
      ((neither _ _).1 ((not_not _).1 ((same_number _ _).1 w.from_family), (neither _ _).1 ((not_not _).1 ((same_number _ _).1 w.to_family), to)))
      (next ((not_not _).1 ((same_number _ 0).1 w.opcode))
      (next rcode
      (next ((neither _ _).1 ((not_not _).1 ((same_number _ 1).1 w.one_question), counts))
      (next (ap is_bad_question ((reads_a_question a.datagram 12 (question a) o).1 w.question))
      (next class
      (next ((not_not _).1 ((awaited_is l a (question a)).1 w.awaited))
      (next ((not_is _ (ours_plain l.settings a.from.address)).1 w.not_ours)
      (next w.t_clear
      (next (ap is_stopped walk)
      done))))))))))))))

  heard_is : (q : Question) → HearsWhen l a q → receive l a ≡ heard l (header a) q a.time a.out
  heard_is q w =
      let e = same_question q w in
      receive_by l a passed (sym (gives (hears_passes (subst (HearsWhen l a) (sym e) w))))
      ∙ ap (λ (x : Question). heard l (header a) x a.time a.out) e

  -- A response with C clear ends the lookup: the offset after its question and ANCOUNT are handed out.
  pub found_is : (q : Question) → FoundWhen l a q → Comes l Ended a.time a.out (found q.end (header_of a.datagram).answers) (receive l a)
  found_is q w = heard_is q w.hears ∙ rw w.c_clear

  -- With C set both numbers are handed out, and it collects until its timer runs out.
  pub part_is : (q : Question) (timer : Timer) → PartWhen l a q timer
      → Comes l (Collecting timer) a.time a.out (part q.end (header_of a.datagram).answers) (receive l a)
  part_is q timer w = heard_is q w.hears ∙ rw w.c_set (ap (λ (p : Phase). silent (with_phase l p a.time) a.out (part q.end (header a).answers)) (stays w.waiting))
    where
      stays : {p : Phase} {t : Timer} → Waiting p t → collecting p ≡ Collecting t
      stays (asks_for sends t) = refl
      stays (collects_for t) = refl

  -- A call gives these two numbers as found exactly then,
  pub found_exactly : (at n : ℕ) → ((receive l a).result ≡ found at n) ↔ ((q : Question) × FoundWhen l a q × (at ≡ q.end) × (n ≡ (header_of a.datagram).answers))
  found_exactly at n = (
    to (receive_is l a),
    λ x. ap (λ (d : Done). d.result) (found_is x.0 x.1) ∙ rw (x.2, x.3),
  )
    where
      to : {d : Done} → Receives l a d → d.result ≡ found at n → (q : Question) × FoundWhen l a q × (at ≡ q.end) × (n ≡ (header_of a.datagram).answers)
      to (Receives.refuses t) e = let z : ◌≡◌ {A = ℕ} 0 1 = cc in absurd (omega arith)
      to (Receives.hears c) e =
          split (header a).conflict
          (λ x. let z : ◌≡◌ {A = ℕ} 0 1 = cc (rw x at e) in absurd (omega arith))
          (λ x.
          let f : found (question a).end (header a).answers ≡ found at n = rw x at e in
          (question a, record { hears = hears_when c; c_clear = x }, cc, cc))

  -- and as a part exactly then.
  pub part_exactly : (at n : ℕ) → ((receive l a).result ≡ part at n)
      ↔ ((q : Question) × (timer : Timer) × PartWhen l a q timer × (at ≡ q.end) × (n ≡ (header_of a.datagram).answers))
  part_exactly at n = (
    to (receive_is l a),
    λ x. ap (λ (d : Done). d.result) (part_is x.0 x.1 x.2) ∙ rw (x.3, x.4),
  )
    where
      has_timer : (p : Phase) (c : Bool) → Waits p c → (timer : Timer) × Waiting p timer
      has_timer (Asking sends timer) c w = (timer, asks_for sends timer)
      has_timer (Collecting timer) c w = (timer, collects_for timer)
      has_timer Ended c w = absurd w

      to : {d : Done} → Receives l a d → d.result ≡ part at n
          → (q : Question) × (timer : Timer) × PartWhen l a q timer × (at ≡ q.end) × (n ≡ (header_of a.datagram).answers)
      to (Receives.refuses t) e = let z : ◌≡◌ {A = ℕ} 0 1 = cc in absurd (omega arith)
      to (Receives.hears c) e =
          split (header a).conflict
          (λ x.
          let f : part (question a).end (header a).answers ≡ part at n = rw x at e in
          let h = hears_when c in
          let w = has_timer l.phase _ h.awaited.waits in
          (question a, w.0, record { hears = h; c_set = x; waiting = w.1 }, cc, cc))
          (λ x. let z : ◌≡◌ {A = ℕ} 0 1 = cc (rw x at e) in absurd (omega arith))

  -- A call is refused, or gives the one or the other.
  pub data Came : CallResult → Type 0 where
    refused_so : (t : Report) → Came (refused t)
    found_so : (at n : ℕ) → Came (found at n)
    part_so : (at n : ℕ) → Came (part at n)

  pub came_is : Came (receive l a).result
  came_is = go (receive_is l a)
    where
      go : {d : Done} → Receives l a d → Came d.result
      go (Receives.refuses t) = refused_so t
      go (Receives.hears c) = split (header a).conflict (λ x. rw x (part_so _ _)) (λ x. rw x (found_so _ _))
