-- Obligations of a station: set-up and start.
use Rattle.std.proofs.Common.{ℕ, ◌+◌, ◌≤◌, ◌<◌, ◌≡◌, ◌∙◌, ap, ◌≢◌, inl, ⊎_elim, arith}
use Rattle.refusal.specs.Numbers.{Report, number}
use Rattle.host.specs.declared.Timer.{Timer}
use Rattle.host.specs.declared.NameState.{NameState}
use Rattle.host.specs.declared.NameState.TheVariants.{Off, Verifying}
use Rattle.host.specs.declared.Host.{Host}
use Rattle.host.specs.State.{timer_from}
use Rattle.host.specs.State.{setting_of as setting_in}
use Rattle.host.specs.Outcomes.{Done, refused as Refused}
use Rattle.host.specs.SetUp.{set_up}
use Rattle.host.proofs.Laws as Laws
use Rattle.host.proofs.Started.{start_refuses, start_asks}
use Rattle.uniqueness.specs.Link.{Station, Link, Lent, OnLink, Conditions}
use Rattle.uniqueness.proofs.Obligations.{top, host_with, verifying, Asked, RefusedWith, refused_with, starting}
use Rattle.uniqueness.proofs.Obligations.HostWith.{state_at, write_at, fresh_is}
use Rattle.uniqueness.proofs.Obligations.Stations.{few_is, interval_is, set_up_host}
use Rattle.uniqueness.proofs.Obligations.Called.{unused_refused, called_well, timer_from_lem, goes_out}

module _ (L : Link) (c : Conditions L) (s : Station) (o : OnLink L s) where
  pub interval_some : 0 < L.interval
  interval_some = ⊎_elim (λ e. rw e (omega arith)) (λ e. rw e (omega arith)) (interval_is L s o c)

  pub set_up_off : (set_up s.table s.settings s.time s.id).host ≡ host_with s Off s.time
  set_up_off = set_up_host L s o ∙ fresh_is s o.four o.used (few_is L s o) s.time

  pub start_refused : (x : NameState) (clock i k t : ℕ) (v : Lent) (r : Report) → clock ≤ t → t ≤ top
      → (starting L s x clock i k t v).result ≡ Refused r → (starting L s x clock i k t v).host ≡ host_with s x clock
  start_refused x clock i k t v r f g e = (Laws.start_refused (host_with s x clock) s.table i k t v.id v.out r e).host

  pub start_unused : (x : NameState) (clock i k t : ℕ) (v : Lent) → clock ≤ t → t ≤ top → i ≢ s.interface
      → RefusedWith 3 (host_with s x clock) (starting L s x clock i k t v)
  start_unused x clock i k t v f g ne =
      let e = start_refuses (host_with s x clock) s.table i k t v.id v.out (number 3) (unused_refused L s o x clock i t v.out v.room ne) in
      refused_with 3 (host_with s x clock) v.out _ e

  pub start_off : (clock t : ℕ) (v : Lent) → clock ≤ t → t ≤ top
      → Asked L o.spelling v.id (host_with s (verifying 1 v.id (t + L.interval)) t) (starting L s Off clock s.interface s.name t v)
  start_off clock t v f g =
      let h : Host = host_with s Off clock in
      let e = start_asks h s.table s.interface s.name t v.id v.out
      (record {
        names = o.unique.names;
        called = called_well L s o c Off clock t v.out v.room f g;
        in_table = o.unique.inside;
        may_start = inl (state_at s o.four o.used (few_is L s o) Off clock);
        kind_is = o.unique.kind;
      }) in
      goes_out L s o c Off clock v.id _ v.out _ v.room
      (ap (λ (d : Done). d.host) e
      ∙ write_at s o.four o.used (few_is L s o) Off (Verifying 1 v.id (timer_from (setting_in h s.interface) t)) clock t
      ∙ ap (λ (z : Timer). host_with s (Verifying 1 v.id z) t) (timer_from_lem L s o c Off clock t))
      (ap (λ (d : Done). d.result) e) (ap (λ (d : Done). d.to) e) (ap (λ (d : Done). d.octets) e)
