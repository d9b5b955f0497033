-- Obligations of a station: tick.
use Rattle.std.proofs.Common.{ℕ, suc, ◌+◌, ◌≤◌, ◌<◌, ◌≡◌, sym, ◌∙◌, ap, subst, ◌≢◌, arith, add-one}
use Rattle.std.proofs.Math.Decide.{ℕ_discrete}
use Rattle.refusal.specs.Numbers.{number}
use Rattle.host.specs.declared.NameState.{NameState}
use Rattle.host.specs.declared.NameState.TheVariants.{Off, Verifying, Unique, Defending, Stopped, Shared}
use Rattle.host.specs.declared.Timer.{Timer}
use Rattle.host.specs.Bounds.{sends_in_all}
use Rattle.host.specs.State.{state_of, timer_from}
use Rattle.host.specs.State.{setting_of as setting_in}
use Rattle.host.specs.Outcomes.{Done, quiet as Quiet, unique as UniqueName}
use Rattle.host.specs.Served.{DueBy, ServesWhen, HasAsked}
use Rattle.host.proofs.Ticked.{tick_refuses, tick_rests, tick_settles, tick_asks}
use Rattle.uniqueness.specs.Link.{Station, Link, Lent, OnLink, Conditions}
use Rattle.uniqueness.proofs.Obligations.{top, host_with, verifying, Asked, RefusedWith, refused_with, Taken, NotDue, ticking}
use Rattle.uniqueness.proofs.Obligations.HostWith.{state_at, state_else, write_at, clock_at}
use Rattle.uniqueness.proofs.Obligations.Stations.{held, few_is}
use Rattle.uniqueness.proofs.Obligations.Called.{unused_refused, called_well, timer_from_lem, goes_out}

-- the timer of such a state has not run out
not_due : (x : NameState) (t : ℕ) → NotDue x t → DueBy x t → ⊥
not_due Off t r d = d
not_due (Verifying n id timer) t r d = omega arith
not_due Unique t r d = d
not_due (Defending id qtype qclass timer) t r d = r
not_due (Stopped until) t r d = d
not_due Shared t r d = r

module _ (L : Link) (c : Conditions L) (s : Station) (o : OnLink L s) where
  pub tick_unused : (x : NameState) (clock i t : ℕ) (v : Lent) → clock ≤ t → t ≤ top → i ≢ s.interface
      → RefusedWith 3 (host_with s x clock) (ticking L s x clock i t v)
  tick_unused x clock i t v f g ne =
      let e = tick_refuses (host_with s x clock) s.table i t v.out v.id (number 3) (unused_refused L s o x clock i t v.out v.room ne) in
      refused_with 3 (host_with s x clock) v.out _ e

  -- which name is due: none but the name
  this_name : (x : NameState) (clock : ℕ) → state_of (host_with s x clock) s.interface s.name ≡ x
  this_name x clock = state_at s o.four o.used (few_is L s o) x clock

  only_name : (x : NameState) (clock t j : ℕ) → j ≢ s.name → DueBy (state_of (host_with s x clock) s.interface j) t → ⊥
  only_name x clock t j ne d = subst (λ (y : NameState). DueBy y t) (state_else s o.four o.used (few_is L s o) x clock j ne) d

  pub tick_quiet : (x : NameState) (clock t : ℕ) (v : Lent) → clock ≤ t → t ≤ top → NotDue x t
      → Taken (host_with s x t) Quiet (ticking L s x clock s.interface t v)
  tick_quiet x clock t v f g r =
      let e = tick_rests (host_with s x clock) s.table s.interface t v.out v.id
      (record { names = held L s o; called = called_well L s o c x clock t v.out v.room f g; none = λ j l. none j (ℕ_discrete j s.name) }) in
      record { host = ap (λ (d : Done). d.host) e ∙ clock_at s o.four o.used (few_is L s o) x clock t; outcome = ap (λ (d : Done). d.result) e }
    where
      none : (j : ℕ) → Dec (j ≡ s.name) → DueBy (state_of (host_with s x clock) s.interface j) t → ⊥
      none j (yes e) d = not_due x t r (subst (λ (y : NameState). DueBy y t) (ap (state_of (host_with s x clock) s.interface) e ∙ this_name x clock) d)
      none j (no n) d = only_name x clock t j n d

  -- the name is served once it is due
  serves_it : (sends id due clock t : ℕ) (v : Lent) → clock ≤ t → t ≤ top → due ≤ t
      → ServesWhen (host_with s (verifying sends id due) clock) s.table s.interface t v.out s.name
  serves_it sends id due clock t v f g h =
      let x : NameState = verifying sends id due in
      record {
        names = held L s o;
        called = called_well L s o c x clock t v.out v.room f g;
        in_table = o.unique.inside;
        due = subst (λ (y : NameState). DueBy y t) (sym (this_name x clock)) h;
        first = λ j l. only_name x clock t j (λ e. omega arith);
      }

  pub tick_again : (sends id due clock t : ℕ) (v : Lent) → clock ≤ t → t ≤ top → id < 65536 → due ≤ t → sends < sends_in_all
      → Asked L o.spelling id (host_with s (verifying (suc sends) id (t + L.interval)) t)
      (ticking L s (verifying sends id due) clock s.interface t v)
  tick_again sends id due clock t v f g fits h few =
      let x : NameState = verifying sends id due in
      let st : NameState = Verifying (sends + 1) id (timer_from (setting_in (host_with s x clock) s.interface) t) in
      let e = tick_asks (host_with s x clock) s.table s.interface t v.out v.id s.name sends id _
      (record { serves = serves_it sends id due clock t v f g h; verifying = this_name x clock; few = few }) in
      goes_out L s o c x clock id _ v.out _ v.room
      (ap (λ (d : Done). d.host) e
      ∙ write_at s o.four o.used (few_is L s o) x st clock t
      ∙ ap (λ (z : Timer). host_with s (Verifying (sends + 1) id z) t) (timer_from_lem L s o c x clock t)
      ∙ ap (λ (n : ℕ). host_with s (verifying n id (t + L.interval)) t) (add-one sends))
      (ap (λ (d : Done). d.result) e) (ap (λ (d : Done). d.to) e) (ap (λ (d : Done). d.octets) e)

  pub tick_unique : (sends id due clock t : ℕ) (v : Lent) → clock ≤ t → t ≤ top → due ≤ t → sends_in_all ≤ sends
      → Taken (host_with s Unique t) (UniqueName s.name) (ticking L s (verifying sends id due) clock s.interface t v)
  tick_unique sends id due clock t v f g h enough =
      let x : NameState = verifying sends id due in
      let e = tick_settles (host_with s x clock) s.table s.interface t v.out v.id s.name
      (record { serves = serves_it sends id due clock t v f g h; has_asked = subst HasAsked (sym (this_name x clock)) enough }) in
      record { host = ap (λ (d : Done). d.host) e ∙ write_at s o.four o.used (few_is L s o) x Unique clock t; outcome = ap (λ (d : Done). d.result) e }
