-- Each way that a start can end.
use Rattle.std.proofs.Common.{Result, Ok, Err, rules, ◌≡◌, ℕ, ◌<◌, ◌≤◌, not, leb, List, length, get_or, sym, ap, ◌∙◌, subst, le-leb}
use Rattle.std.proofs.lemmas.Bool.{lt-leb}
use Rattle.octets.specs.declared.Setting.{Setting}
use Rattle.octets.proofs.Tests.{split}
use Rattle.refusal.specs.Numbers.{Report, number, report_of}
use Rattle.refusal.specs.declared.Refusal.{Refusal}
use Rattle.refusal.specs.declared.Refusal.TheVariants.{NotOurs}
use Rattle.refusal.specs.Checks.{Checks, fail, pass, Verdict, refused, passed, verdict, Gives, stop, next}
use Rattle.refusal.proofs.Checks.{gives, by_verdict}
use Rattle.name_table.specs.Kinds.{kind_of, is_shared_kind}
use Rattle.name_table.specs.Check.{Held, Checked, no_name, names_in, name_in, check_table}
use Rattle.name_table.specs.declared.Kind.{Kind}
use Rattle.host.specs.State.{setting_of, state_of, timer_from}
use Rattle.host.specs.Outcomes.{refusal}
use Rattle.host.specs.Early.{early}
use Rattle.host.specs.Start.{is_idle, is_too_soon, name_checks, start_checks, started, start_if, start}
use Rattle.host.specs.declared.NameState.{NameState}
use Rattle.host.specs.declared.Host.{Host}
use Rattle.host.proofs.Called.{called_gives}
use Rattle.checks.specs.Messages.{slot_of}
use Rattle.responder.specs.Turn.{first, checked, served_as, written_as}
use Rattle.responder.specs.Served.{served_by}
use Rattle.responder.proofs.OpeningLaws.{Called}

-- 19 and 21, of a name's state
abbrev own_checks : NameState → ℕ → Checks
own_checks s time = fail (not (is_idle s)) (number 19) (fail (is_too_soon s time) (number 21) pass)

abbrev verdict_by : Result Unit Refusal → Verdict
verdict_by (Ok x) = passed
verdict_by (Err why) = refused (report_of why)

checked_so : (s : NameState) (time : ℕ) → verdict (own_checks s time) ≡ verdict_by (checked s time)
unfolding verdict
checked_so s time = search rules

module _ (h : Host) (table : List ℕ) (i k time id : ℕ) (out : List ℕ) where
  by : (v : Verdict) → verdict (start_checks h table i k time out) ≡ v → start_if v h table i k time id out ≡ start h table i k time id out
  unfolding start
  by v e = ap (λ (w : Verdict). start_if w h table i k time id out) (sym e)

  pub refused_first : (t : Report) → verdict (early h table i time out (name_checks h table i k time)) ≡ refused t → refusal h out t ≡ start h table i k time id out
  refused_first t e = by (refused t) e

  module _ (hs : List Held) (p : Called h table i time out hs) where
    by_own : (v : Verdict) → Gives (name_checks h table i k time) v → start_if v h table i k time id out ≡ start h table i k time id out
    by_own v g = by v (sym (gives (called_gives h table i time out hs p.well g)))

    past : leb (length (names_in (check_table table))) k ≡ leb (length hs) k
    past = ap (λ (c : Checked). leb (length (names_in c)) k) p.well.good_table

    pub no_name_lem : length hs ≤ k → refusal h out (report_of NotOurs) ≡ start h table i k time id out
    no_name_lem l = by_own _ (stop (past ∙ le-leb _ _ l))

    module _ (l : k < length hs) (s : NameState) (n : state_of h (slot_of i) k ≡ s) where
      own : (r : Result Unit Refusal) → checked s time ≡ r → Gives (name_checks h table i k time) (verdict_by r)
      own r e =
          next (past ∙ lt-leb _ _ l)
          (subst (λ (y : NameState). Gives (own_checks y time) (verdict_by r))
          (sym n ∙ ap (λ (x : ℕ). state_of h x k) p.same)
          (by_verdict (checked_so s time ∙ ap verdict_by e)))

      pub refused_own : (why : Refusal) → checked s time ≡ Err why → refusal h out (report_of why) ≡ start h table i k time id out
      refused_own why e = by_own _ (own (Err why) e)

      held_is : name_in table k ≡ get_or hs k no_name
      held_is = ap (λ (c : Checked). get_or (names_in c) k no_name) p.well.good_table

      begins : (f : NameState) → f ≡ first (kind_of (name_in table k).kind) id (timer_from (setting_of h i) time)
          → served_by (Ok (served_as f k (name_in table k).octets (setting_of h i).family)) (written_as f (name_in table k).octets out) h i time
          ≡ started h table i k time id out
      begins f e = rw e (split (is_shared_kind (kind_of (name_in table k).kind)) (λ q. rw q) (λ q. rw q))

      pub accepted : checked s time ≡ Ok tt → (kind : Kind) → kind ≡ kind_of (get_or hs k no_name).kind
          → (octets : List ℕ) → octets ≡ (get_or hs k no_name).octets → (setting : Setting) → setting_of h (slot_of i) ≡ setting
          → (f : NameState) → f ≡ first kind id (timer_from setting time)
          → served_by (Ok (served_as f k octets setting.family)) (written_as f octets out) h i time ≡ start h table i k time id out
      accepted e kind w octets o setting x f g =
          let q : kind ≡ kind_of (name_in table k).kind = w ∙ ap (λ (z : Held). kind_of z.kind) (sym held_is) in
          let r : octets ≡ (name_in table k).octets = o ∙ ap (λ (z : Held). z.octets) (sym held_is) in
          let y : setting ≡ setting_of h i = sym x ∙ ap (setting_of h) p.same in
          ap (λ (z : List ℕ). served_by (Ok (served_as f k z setting.family)) (written_as f z out) h i time) r
          ∙ ap (λ (z : Setting). served_by (Ok (served_as f k (name_in table k).octets z.family)) (written_as f (name_in table k).octets out) h i time) y
          ∙ begins f (g ∙ ap (λ (z : Kind). first z id (timer_from setting time)) q ∙ ap (λ (z : Setting). first (kind_of (name_in table k).kind) id (timer_from z time)) y)
          ∙ by_own _ (own (Ok tt) e)
