-- Each way that a tick can end.
use Rattle.std.specs.Prelude.{Ok, Some, None}
use Rattle.std.proofs.Common.{rules, ◌≡◌, ℕ, ◌<◌, ◌≤◌, List, length, get_or, sym, ap, ◌∙◌, subst, le-ltb, lt-ltb}
use Rattle.octets.specs.declared.Setting.{Setting}
use Rattle.refusal.specs.Numbers.{Report}
use Rattle.refusal.specs.Checks.{pass, Verdict, refused, passed, verdict, done}
use Rattle.refusal.proofs.Checks.{gives}
use Rattle.name_table.specs.Bounds.{most_names}
use Rattle.name_table.specs.Check.{Held, Checked, no_name, names_in, name_in, check_table}
use Rattle.name_table.proofs.Read.{read_few}
use Rattle.host.specs.State.{off_name, interface_of, setting_of, with_clock, timer_from}
use Rattle.host.specs.Outcomes.{refusal, silent, quiet}
use Rattle.host.specs.Early.{early}
use Rattle.host.specs.Tick.{Due, due, none, due_from, serve, serve_due, tick_if, tick}
use Rattle.host.specs.declared.NameState.{NameState}
use Rattle.host.specs.declared.Host.{Host}
use Rattle.host.proofs.Called.{called_gives}
use Rattle.checks.specs.Messages.{slot_of}
use Rattle.responder.specs.declared.served.NamedState.{NamedState}
use Rattle.responder.specs.Turn.{again, served_as, written_as}
use Rattle.responder.specs.Served.{due_found, served_by}
use Rattle.responder.proofs.OpeningLaws.{Called}
use Rattle.responder.proofs.TurnLaws.{upto, due_among, state_none, state_one}

-- what a due name is served with
serves : (s f : NameState) (h : Host) (table : List ℕ) (i k time : ℕ) (out : List ℕ) → f ≡ again s (timer_from (setting_of h i) time)
    → served_by (Ok (served_as f k (name_in table k).octets (setting_of h i).family)) (written_as f (name_in table k).octets out) h i time
    ≡ serve s h table i k time out
serves s f h table i k time out e = search rules

module _ (h : Host) (table : List ℕ) (i time id : ℕ) (out : List ℕ) where
  by : (v : Verdict) → verdict (early h table i time out pass) ≡ v → tick_if v h table i time out ≡ tick h table i time id out
  unfolding tick
  by v e = ap (λ (w : Verdict). tick_if w h table i time out) (sym e)

  pub refused_first : (t : Report) → verdict (early h table i time out pass) ≡ refused t → refusal h out t ≡ tick h table i time id out
  refused_first t e = by (refused t) e

  module _ (hs : List Held) (p : Called h table i time out hs) where
    few : length hs ≤ most_names
    few = subst (λ (c : Checked). length (names_in c) ≤ most_names) p.well.good_table (read_few table)

    -- the names of the interface, where the code looks for them
    abbrev names : List NameState
    names = (interface_of h (slot_of i)).names

    found : due_from (length (names_in (check_table table))) (interface_of h i).names 0 time ≡ upto (length hs) (due_from most_names names 0 time)
    found =
        ap (λ (c : Checked). due_from (length (names_in c)) (interface_of h i).names 0 time) p.well.good_table
        ∙ ap (λ (x : ℕ). due_from (length hs) (interface_of h x).names 0 time) (sym p.same)
        ∙ due_among names time (length hs) most_names few

    by_due : (d : Due) → upto (length hs) (due_from most_names names 0 time) ≡ d → serve_due d h table i time out ≡ tick h table i time id out
    by_due d q =
        ap (λ (x : Due). serve_due x h table i time out) (sym (found ∙ q))
        ∙ by passed (sym (gives (called_gives h table i time out hs p.well done)))

    pub none_due : None ≡ due_found names time → silent (with_clock h time) out quiet ≡ tick h table i time id out
    unfolding due_found
    none_due e = by_due none (ap (upto (length hs)) (state_none (due_from most_names names 0 time) names e))

    module _ (n : NamedState) (e : Some n ≡ due_found names time) where
      one : (due_from most_names names 0 time ≡ due n.name) × (get_or names n.name off_name ≡ n.state)
      unfolding due_found
      one = state_one (due_from most_names names 0 time) names n e

      pub past_due : length hs ≤ n.name → silent (with_clock h time) out quiet ≡ tick h table i time id out
      past_due l = by_due none (ap (upto (length hs)) one.0 ∙ rw (le-ltb _ _ l))

      pub one_due : n.name < length hs → (octets : List ℕ) → octets ≡ (get_or hs n.name no_name).octets
          → (setting : Setting) → setting_of h (slot_of i) ≡ setting → (f : NameState) → f ≡ again n.state (timer_from setting time)
          → served_by (Ok (served_as f n.name octets setting.family)) (written_as f octets out) h i time ≡ tick h table i time id out
      one_due l octets o setting x f g =
          let held_is : name_in table n.name ≡ get_or hs n.name no_name = ap (λ (c : Checked). get_or (names_in c) n.name no_name) p.well.good_table in
          let r : octets ≡ (name_in table n.name).octets = o ∙ ap (λ (z : Held). z.octets) (sym held_is) in
          let y : setting ≡ setting_of h i = sym x ∙ ap (setting_of h) p.same in
          let s : n.state ≡ get_or (interface_of h i).names n.name off_name = sym one.1 ∙ ap (λ (j : ℕ). get_or (interface_of h j).names n.name off_name) p.same in
          ap (λ (z : List ℕ). served_by (Ok (served_as f n.name z setting.family)) (written_as f z out) h i time) r
          ∙ ap (λ (z : Setting). served_by (Ok (served_as f n.name (name_in table n.name).octets z.family)) (written_as f (name_in table n.name).octets out) h i time) y
          ∙ serves n.state f h table i n.name time out (g ∙ ap (λ (z : Setting). again n.state (timer_from z time)) y)
          ∙ ap (λ (z : NameState). serve z h table i n.name time out) s
          ∙ by_due (due n.name) (ap (upto (length hs)) one.0 ∙ rw (lt-ltb _ _ l))
