-- Each way that the hearing of a datagram can end.
use Rattle.std.specs.Prelude.{None, Option, Some}
use Rattle.std.proofs.Common.{◌≡◌, ℕ, ◌+◌, ◌≤◌, false, ltb, List, length, get_or, sym, ap, ◌∙◌, arith}
use Rattle.octets.specs.Octets.{part_of}
use Rattle.octets.specs.declared.Address.{Address}
use Rattle.octets.specs.declared.Setting.{Setting}
use Rattle.octets.proofs.Tests.{not_below, neither}
use Rattle.refusal.specs.Numbers.{Report, report_of}
use Rattle.refusal.specs.Checks.{Checks, pass, Verdict, refused, passed, verdict}
use Rattle.refusal.proofs.Checks.{gives, by_verdict, clear}
use Rattle.refusal.specs.declared.Refusal.{Refusal}
use Rattle.name_table.specs.Check.{Held, Checked, no_name, names_in, name_in, check_table, find_name}
use Rattle.message.specs.Bounds.{header_octets}
use Rattle.message.specs.declared.Header.{Header}
use Rattle.message.specs.declared.Question.{Question}
use Rattle.host.specs.Bounds.{shortest, longest}
use Rattle.host.specs.State.{setting_of, timer_from}
use Rattle.host.specs.Early.{early}
use Rattle.host.specs.Receive.{Arrival, header, question, found, datagram_checks}
use Rattle.host.specs.declared.Host.{Host}
use Rattle.host.proofs.Called.{called_gives}
use Rattle.checks.specs.declared.Datagram.{Datagram}
use Rattle.checks.specs.Messages.{slot_of, read_checks, refused_so, read_so, datagram_read}
use Rattle.checks.proofs.DatagramLaws.{IsRead, datagram_refused, datagram_read_lem, name_inside}
use Rattle.responder.specs.Contest.{why_unknown}
use Rattle.responder.specs.Heard.{refuses, hears, named_by, heard_if, hearing}
use Rattle.responder.proofs.OpeningLaws.{Called}

-- The octets of the question's name stand in the datagram, which is short.
pub name_short : (family source : ℕ) (to : Address) (s : List ℕ) (d : Datagram) → read_so d.header d.question ≡ datagram_read false family source to s
    → d.question.name ≤ longest
name_short family source to s d e =
    let w = datagram_read_lem false family source to s d e in
    let l = (not_below longest (length s)).0 ((neither (ltb (length s) shortest) (ltb longest (length s))).0 (clear (read_checks false family source to s pass) w.passes).0).1 in
    omega (arith, l, name_inside false family source to s d e w)

module _ (h : Host) (a : Arrival) where
  -- the checks 5 to 11, and 1 to 11, before those that follow
  abbrev pub checks_read : Checks → Checks
  checks_read rest = datagram_checks (setting_of h a.interface).family a.from.address.family a.to a.datagram rest

  abbrev pub checks_heard : Checks → Checks
  checks_heard rest = early h a.table a.interface a.time a.out (checks_read rest)

  by : (v : Verdict) → verdict (checks_heard pass) ≡ v → heard_if v h a ≡ hearing h a
  unfolding hearing
  by v e = ap (λ (w : Verdict). heard_if w h a) (sym e)

  pub refused_first : (t : Report) → verdict (checks_heard pass) ≡ refused t → refuses t ≡ hearing h a
  refused_first t e = by (refused t) e

  module _ (hs : List Held) (p : Called h a.table a.interface a.time a.out hs) (s : Setting) (x : setting_of h (slot_of a.interface) ≡ s) where
    here : s ≡ setting_of h a.interface
    here = sym x ∙ ap (setting_of h) p.same

    said : datagram_read false s.family a.from.address.family a.to a.datagram
        ≡ datagram_read false (setting_of h a.interface).family a.from.address.family a.to a.datagram
    said = ap (λ (z : Setting). datagram_read false z.family a.from.address.family a.to a.datagram) here

    by_read : (v : Verdict) → verdict (checks_read pass) ≡ v → heard_if v h a ≡ hearing h a
    by_read v w = by v (sym (gives (called_gives h a.table a.interface a.time a.out hs p.well (by_verdict w))))

    pub refused_read : (why : Refusal) → refused_so (report_of why) ≡ datagram_read false s.family a.from.address.family a.to a.datagram
        → refuses (report_of why) ≡ hearing h a
    unfolding verdict
    refused_read why e = by_read _ (datagram_refused false _ _ _ _ why (e ∙ said) pass)

    module _ (d : Datagram) (e : read_so d.header d.question ≡ datagram_read false s.family a.from.address.family a.to a.datagram) where
      is_read : IsRead false (setting_of h a.interface).family a.from.address.family a.to a.datagram d (e ∙ said)
      is_read = datagram_read_lem false _ _ _ _ d (e ∙ said)

      has_read : (verdict (checks_read pass) ≡ passed) × (d.header ≡ header a) × (d.question ≡ question a)
      unfolding verdict
      has_read = (is_read.passes, sym is_read.header_is, sym is_read.question_is)

      module _ (r : Option ℕ) (f : r ≡ find_name hs (part_of a.datagram header_octets (header_octets + d.question.name))) where
        found_is : found a ≡ r
        found_is =
            ap (λ (q : Question). find_name (names_in (check_table a.table)) (part_of a.datagram header_octets (header_octets + q.name))) (sym has_read.2)
            ∙ ap (λ (c : Checked). find_name (names_in c) (part_of a.datagram header_octets (header_octets + d.question.name))) p.well.good_table
            ∙ sym f

        by_found : named_by r h a ≡ hearing h a
        by_found = ap (λ (y : Option ℕ). named_by y h a) (sym found_is) ∙ by_read passed has_read.0

        pub unknown : r ≡ None → refuses (report_of (why_unknown d.header.response)) ≡ hearing h a
        unknown n =
            ap (λ (y : Header). refuses (report_of (why_unknown y.response))) has_read.1
            ∙ ap (λ (y : Option ℕ). named_by y h a) (sym n)
            ∙ by_found

        pub heard : (k : ℕ) → r ≡ Some k → (records : ℕ) → records ≡ (get_or hs k no_name).end
            → hears k records (timer_from s a.time) d.header d.question ≡ hearing h a
        heard k n records w =
            let records_at : records ≡ (name_in a.table k).end = w ∙ ap (λ (c : Checked). (get_or (names_in c) k no_name).end) (sym p.well.good_table) in
            ap (λ (y : ℕ). hears k y (timer_from s a.time) d.header d.question) records_at
            ∙ ap (λ (y : Setting). hears k (name_in a.table k).end (timer_from y a.time) d.header d.question) here
            ∙ ap (λ (y : Header). hears k (name_in a.table k).end (timer_from (setting_of h a.interface) a.time) y d.question) has_read.1
            ∙ ap (hears k (name_in a.table k).end (timer_from (setting_of h a.interface) a.time) (header a)) has_read.2
            ∙ ap (λ (y : Option ℕ). named_by y h a) (sym n)
            ∙ by_found
