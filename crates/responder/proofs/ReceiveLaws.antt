-- Each way that a receive can end, by what was heard of the datagram.
use Rattle.std.specs.Prelude.{None, Option, Some, Result, Ok, Err}
use Rattle.std.proofs.Common.{rules, ◌≡◌, ℕ, ◌<◌, Bool, sym, refl, ap, ◌∙◌, subst, arith}
use Rattle.octets.specs.Octets.{part_of}
use Rattle.octets.specs.Bounds.{interfaces}
use Rattle.octets.specs.declared.Setting.{Setting}
use Rattle.refusal.specs.Numbers.{Report, report_of}
use Rattle.refusal.specs.Checks.{pass, Verdict, refused, passed, verdict, Gives}
use Rattle.refusal.proofs.Checks.{given, clear, passes, stays, goes_on}
use Rattle.refusal.specs.declared.Refusal.{Refusal}
use Rattle.name_table.specs.Bounds.{most_names}
use Rattle.name_table.specs.Check.{names_in, name_in, check_table, is_found, number_or}
use Rattle.name_table.proofs.Held.{found_below}
use Rattle.name_table.proofs.Read.{read_few}
use Rattle.message.specs.Bounds.{header_octets}
use Rattle.message.specs.Reply.{Written, answers_in, reply_written}
use Rattle.host.specs.Bounds.{reply_limit}
use Rattle.host.specs.State.{setting_of, state_of, verifying, shared, is, timer_from}
use Rattle.host.specs.Outcomes.{Done, refusal}
use Rattle.host.specs.Receive.{Arrival, header, question, found, state, from_us, loses, awaits, Decision, replied, effect, receive_if, receive}
use Rattle.host.specs.Stopping.{stopped_until}
use Rattle.host.specs.ExactlyWhen.{CalledWell}
use Rattle.host.specs.declared.NameState.{NameState}
use Rattle.host.specs.declared.Host.{Host}
use Rattle.host.proofs.Called.{called_is, called_gives}
use Rattle.host.proofs.Arrives.{last, receive_by}
use Rattle.checks.specs.Messages.{slot_of}
use Rattle.checks.proofs.MessageLaws.{slot_is}
use Rattle.responder.specs.declared.contest.Judged.{Judged}
use Rattle.responder.specs.declared.contest.Judged.TheVariants.{Answer, Contest}
use Rattle.responder.specs.declared.contest.Ending.{Ending}
use Rattle.responder.specs.declared.contest.Ending.TheVariants.{Defended, Lost, Kept}
use Rattle.responder.specs.Contest.{why_unknown, state_judged, judged, ending, ended_as, written_at_end}
use Rattle.responder.specs.Stopping.{until_by}
use Rattle.responder.specs.Served.{served_by}
use Rattle.responder.specs.declared.heard.Heard.{Heard}
use Rattle.responder.specs.Heard.{refuses, hears, named_by, heard_if, hearing}
use Rattle.responder.proofs.HeardLaws.{checks_read, checks_heard}
use Rattle.responder.proofs.StoppingLaws.{until_is}
use Rattle.responder.proofs.ContestLaws.{last_checks, verdict_of, not_found, judged_so, decision_of, answers_so, ends_so}

module _ (h : Host) (a : Arrival) where
  -- the name's state waits for this
  abbrev waits : Bool
  waits = awaits (state h a) (header a).id (question a).qtype (question a).class

  -- the checks 1 to 11 pass
  module _ (e : verdict (checks_heard h a pass) ≡ passed) where
    well : CalledWell h a.table a.interface a.time a.out (names_in (check_table a.table))
    well = called_is h a.table a.interface a.time a.out (checks_read h a pass) (clear (checks_heard h a pass) e)

    by_last : (v : Verdict) → verdict (last h a) ≡ v → receive_if v h a ≡ receive h a
    by_last v w =
        sym
        (receive_by h a v
        (called_gives h a.table a.interface a.time a.out (names_in (check_table a.table)) well
        (goes_on (checks_read h a pass) (last h a) (passes (checks_read h a pass) (clear (checks_heard h a pass) e).1.1.1.1) (subst (Gives (last h a)) w (given (last h a))))))

    -- the last checks, where it is known whether the table has the name
    last_so : (f : Option ℕ) → found a ≡ f
        → verdict (last h a) ≡ verdict (last_checks (header a).response (header a).conflict (is_found f) (state h a) waits (from_us h a))
    last_so f w =
        ap (λ (x : Option ℕ). verdict (last_checks (header a).response (header a).conflict (is_found x) (state h a) waits (from_us h a))) w

  -- ---- refused before any name's state is looked at

  pub unheard : (t : Report) → refuses t ≡ hearing h a → refusal h a.out t ≡ receive h a
  unfolding hearing receive
  unheard t q = go (verdict (checks_heard h a pass)) refl q
    where
      named : verdict (checks_heard h a pass) ≡ passed → (f : Option ℕ) → found a ≡ f → refuses t ≡ named_by f h a → refusal h a.out t ≡ receive h a
      named p None w s =
          let z : t ≡ report_of (why_unknown (header a).response) = cc in
          rw z
          (by_last p _ (last_so p None w ∙ not_found (header a).response (header a).conflict (state h a) waits (from_us h a)))
      named p (Some k) w s = search rules

      go : (v : Verdict) → verdict (checks_heard h a pass) ≡ v → refuses t ≡ heard_if v h a → refusal h a.out t ≡ receive h a
      go (refused u) p s =
          let z : t ≡ u = cc in
          rw z (ap (λ (v : Verdict). receive_if v h a) (sym (stays (checks_heard h a pass) (last h a) u p)))
      go passed p s = named p (found a) refl s

  -- ---- heard, for the k-th name of the table

  -- what is then known of the datagram
  abbrev whole : ℕ → Heard
  whole k =
      record {
        name = k;
        records = (name_in a.table k).end;
        timer = timer_from (setting_of h a.interface) a.time;
        header = header a;
        question = question a;
      }

  pub record IsHeard (r : Heard) : Type 0 where
    pub passes_all : verdict (checks_heard h a pass) ≡ passed
    pub found_is : found a ≡ Some r.name
    pub heard_is : whole r.name ≡ r

  pub is_heard : (r : Heard) → hears r.name r.records r.timer r.header r.question ≡ hearing h a → IsHeard r
  unfolding hearing
  is_heard r s = go (verdict (checks_heard h a pass)) refl s
    where
      named : verdict (checks_heard h a pass) ≡ passed → (f : Option ℕ) → found a ≡ f → hears r.name r.records r.timer r.header r.question ≡ named_by f h a → IsHeard r
      named p None w u = search rules
      named p (Some j) w u =
          let z : r.name ≡ j = cc in
          let y : r.records ≡ (name_in a.table j).end = cc in
          let t : r.timer ≡ timer_from (setting_of h a.interface) a.time = cc in
          let x : r.header ≡ header a = cc in
          let q : r.question ≡ question a = cc in
          record {
            passes_all = p;
            found_is = w ∙ ap Some (sym z);
            heard_is = rw (z, ← y, ← t, ← x, ← q);
          }

      go : (v : Verdict) → verdict (checks_heard h a pass) ≡ v → hears r.name r.records r.timer r.header r.question ≡ heard_if v h a → IsHeard r
      go (refused u) p w = search rules
      go passed p w = named p (found a) refl w

  module _ (k : ℕ) (passes_all : verdict (checks_heard h a pass) ≡ passed) (found_is : found a ≡ Some k) where
    pub interface_there : a.interface < interfaces
    interface_there = (well passes_all).interface

    pub name_there : k < most_names
    name_there = omega (arith, read_few a.table, found_below (names_in (check_table a.table)) _ k found_is)

    same : slot_of a.interface ≡ a.interface
    same = slot_is a.interface interface_there

    number_is : number_or (found a) ≡ k
    number_is = ap number_or found_is

    state_is : state h a ≡ state_of h (slot_of a.interface) k
    state_is = ap (λ (y : ℕ). state_of h a.interface y) number_is ∙ ap (λ (y : ℕ). state_of h y k) (sym same)

    module _ (s : NameState) (s_is : state_of h (slot_of a.interface) k ≡ s) (j : Result Judged Refusal)
        (j_is : j ≡ judged s (header a) (question a) (from_us h a)) where
      judged_is : judged (state h a) (header a) (question a) (from_us h a) ≡ j
      judged_is = ap (λ (y : NameState). judged y (header a) (question a) (from_us h a)) (state_is ∙ s_is) ∙ sym j_is

      verdict_is : verdict (last h a) ≡ verdict_of j
      unfolding judged state_judged
      verdict_is =
          last_so passes_all (Some k) found_is ∙ judged_so (header a).response (header a).conflict (state h a) waits (from_us h a)
          ∙ ap verdict_of judged_is

      refused_whole : (why : Refusal) → j ≡ Err why → refusal h a.out (report_of why) ≡ receive h a
      refused_whole why u = by_last passes_all _ (verdict_is ∙ ap verdict_of u)

      -- the reply that is written
      abbrev written : NameState → ℕ → Written
      written t e =
          reply_written a.out reply_limit (record { id = (header a).id; conflict = is shared t; tentative = is verifying t })
          (part_of a.datagram header_octets (question a).end) (question a).qtype (answers_in a.interface a.table e)

      answers_whole : j ≡ Ok Answer → (v : Written) → v ≡ written s (name_in a.table k).end → replied h a v ≡ receive h a
      unfolding judged state_judged
      answers_whole u v g =
          ap (replied h a)
          (g ∙ ap (λ (y : NameState). written y (name_in a.table k).end) (sym (state_is ∙ s_is))
          ∙ ap (λ (y : ℕ). written (state h a) (name_in a.table y).end) (sym number_is))
          ∙ ap (λ (y : Decision). effect y h a (question a) (number_or (found a)))
          (sym (answers_so (header a).response (header a).conflict (state h a) waits (from_us h a) (loses h a) (judged_is ∙ u)))
          ∙ by_last passes_all passed (verdict_is ∙ ap verdict_of u)

      -- how a contest ends, of an interface's settings
      abbrev ended : Ending → ℕ → Setting → Done
      ended z until own =
          served_by
          (Ok (ended_as z (whole k) own.family a.id (part_of a.datagram header_octets (question a).end) until))
          (written_at_end z a.id (part_of a.datagram header_octets (question a).end) a.out) h a.interface a.time

      effect_is : (z : Ending)
          → ended z (stopped_until a.time (header a).answers a.datagram (question a).end) (setting_of h a.interface)
          ≡ effect (decision_of z) h a (question a) k
      effect_is Defended = refl
      effect_is Lost = refl
      effect_is Kept = refl

      settles_whole : j ≡ Ok Contest → (own : Setting) → setting_of h (slot_of a.interface) ≡ own
          → (z : Ending) → z ≡ ending s (header a) a.from.address own
          → ended z (until_by a.time (header a).answers a.datagram (question a).end) own ≡ receive h a
      unfolding judged state_judged ending
      settles_whole u own x z g =
          let o : own ≡ setting_of h a.interface = sym x ∙ ap (setting_of h) same in
          ap (ended z (until_by a.time (header a).answers a.datagram (question a).end)) o
          ∙ ap (λ (y : ℕ). ended z y (setting_of h a.interface)) (until_is a.time (header a).answers a.datagram (question a).end (well passes_all).latest)
          ∙ effect_is z
          ∙ ap (λ (y : ℕ). effect (decision_of z) h a (question a) y) (sym number_is)
          ∙ ap (λ (y : Ending). effect (decision_of y) h a (question a) (number_or (found a)))
          (g ∙ ap (λ (y : Setting). ending s (header a) a.from.address y) o
          ∙ ap (λ (y : NameState). ending y (header a) a.from.address (setting_of h a.interface)) (sym (state_is ∙ s_is)))
          ∙ ap (λ (y : Decision). effect y h a (question a) (number_or (found a)))
          (sym (ends_so (header a).response (header a).conflict (state h a) waits (from_us h a) (loses h a) (judged_is ∙ u)))
          ∙ by_last passes_all passed (verdict_is ∙ ap verdict_of u)

  -- the same of what the code has heard
  module _ (r : Heard) (w : IsHeard r) (s : NameState) (s_is : state_of h (slot_of a.interface) r.name ≡ s) where
    abbrev of : (Heard → Type 0) → Type 0
    of P = P (whole r.name) → P r

    back : (P : Heard → Type 0) → of P
    back P = subst P w.heard_is

    pub refused_judged : (why : Refusal) → Err why ≡ judged s r.header r.question (from_us h a) → refusal h a.out (report_of why) ≡ receive h a
    refused_judged why =
        back (λ y. Err why ≡ judged s y.header y.question (from_us h a) → refusal h a.out (report_of why) ≡ receive h a)
        (λ e. refused_whole r.name w.passes_all w.found_is s s_is (Err why) e why refl)

    pub answers : Ok Answer ≡ judged s r.header r.question (from_us h a) → (v : Written)
        → v ≡ reply_written a.out reply_limit (record { id = r.header.id; conflict = is shared s; tentative = is verifying s })
        (part_of a.datagram header_octets r.question.end) r.question.qtype (answers_in a.interface a.table r.records)
        → replied h a v ≡ receive h a
    answers =
        back
        (λ y. Ok Answer ≡ judged s y.header y.question (from_us h a) → (v : Written)
        → v ≡ reply_written a.out reply_limit (record { id = y.header.id; conflict = is shared s; tentative = is verifying s })
        (part_of a.datagram header_octets y.question.end) y.question.qtype (answers_in a.interface a.table y.records)
        → replied h a v ≡ receive h a)
        (λ e. answers_whole r.name w.passes_all w.found_is s s_is (Ok Answer) e refl)

    pub settles : Ok Contest ≡ judged s r.header r.question (from_us h a) → (own : Setting) → setting_of h (slot_of a.interface) ≡ own
        → (z : Ending) → z ≡ ending s r.header a.from.address own
        → served_by
        (Ok (ended_as z r own.family a.id (part_of a.datagram header_octets r.question.end) (until_by a.time r.header.answers a.datagram r.question.end)))
        (written_at_end z a.id (part_of a.datagram header_octets r.question.end) a.out) h a.interface a.time
        ≡ receive h a
    settles =
        back
        (λ y. Ok Contest ≡ judged s y.header y.question (from_us h a) → (own : Setting) → setting_of h (slot_of a.interface) ≡ own
        → (z : Ending) → z ≡ ending s y.header a.from.address own
        → served_by
        (Ok (ended_as z y own.family a.id (part_of a.datagram header_octets y.question.end) (until_by a.time y.header.answers a.datagram y.question.end)))
        (written_at_end z a.id (part_of a.datagram header_octets y.question.end) a.out) h a.interface a.time
        ≡ receive h a)
        (λ e. settles_whole r.name w.passes_all w.found_is s s_is (Ok Contest) e refl)

  -- the interface and the name are there
  pub there : (r : Heard) → IsHeard r → (a.interface < interfaces) × (r.name < most_names)
  there r w = (interface_there r.name w.passes_all w.found_is, name_there r.name w.passes_all w.found_is)
