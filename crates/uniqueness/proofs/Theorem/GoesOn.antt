-- The second part: after every list a call that keeps the rules can be made, and all that it sends delivered.
use Rattle.std.proofs.Common.{◌≡◌, refl, Bool, true, false, not, List, ℕ}
use mathlib.Core.List.{Memᴰ}
use Rattle.octets.proofs.Tests.{never}
use Rattle.host.specs.declared.Host.{Host}
use Rattle.uniqueness.specs.Link as Spec
use Rattle.uniqueness.specs.Link.{sort_of, Link, Call, Moment, AnyOrder, Conditions, EveryProbe, first, Lent, Request, starts, ticks, Keeps, StartRule, Delivered, datagrams, update, is_refused}
use Rattle.uniqueness.proofs.Model.{updated, start, tick}
use Rattle.uniqueness.proofs.Obligations.{Obligations}
use Rattle.uniqueness.proofs.Hosts.{OfName}
use Rattle.uniqueness.proofs.Theorem.Deliveries.{same_copies, from_hosts}
use Rattle.uniqueness.proofs.Theorem.Lists.{call_of}
use Rattle.uniqueness.proofs.Theorem.OneOwner.{shown}

module _ (O : Obligations) (L : Link) (C : Conditions L) (m : Moment) (cs : List Call) (run : Spec.Run L (EveryProbe L) AnyOrder (first L) cs m) where
  abbrev Makes : Call → Type 0
  Makes c =
      (hosts : ℕ → Host) × Delivered L c.time (update m.hosts c.host (Spec.result L m.hosts c).host)
      (datagrams L c.host (Spec.result L m.hosts c)) hosts

  rule_gives : (h k : ℕ) (b : Bool) → StartRule AnyOrder L m h (starts k) b → not b ≡ true → (k ≡ (L.station h).name) × (¬ (Memᴰ h m.started))
  rule_gives h k false (e, new, o) is_accepted = (e, new)
  rule_gives h k true r is_accepted = never is_accepted refl

  makes : (h i t : ℕ) (v : Lent) (r : Request) → Keeps L (EveryProbe L) AnyOrder m (call_of h i t v r)
      → Makes (call_of h i t v r)
  unfolding OfName
  makes h i t v (starts k) K =
      let d = Spec.result L m.hosts (call_of h i t v (starts k)) in
      let (c'', E) = (shown O L C m cs run).can_call (start h t) K.host K.in_range K.forward (record { interface = i; name = k; lent = v })
      (update m.hosts h d.host) (updated m.hosts h d.host)
      (λ is_accepted. rule_gives h k (is_refused (sort_of d)) K.start is_accepted) in
      (c'', from_hosts L t E (datagrams L h d) (same_copies L h d))
  makes h i t v ticks K =
      let d = Spec.result L m.hosts (call_of h i t v ticks) in
      let (c'', E) = (shown O L C m cs run).can_call (tick h t) K.host K.in_range K.forward (record { interface = i; name = 0; lent = v })
      (update m.hosts h d.host) (updated m.hosts h d.host) tt in
      (c'', from_hosts L t E (datagrams L h d) (same_copies L h d))

  pub can_make : (c : Call) → Keeps L (EveryProbe L) AnyOrder m c → Makes c
  can_make c K = makes c.host c.interface c.time c.lent c.request K
