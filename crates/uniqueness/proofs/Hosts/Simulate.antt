-- The hosts of a link simulate the model, however they are observed, if that tells their claims. What is left after files StartTick and
-- Receive: a reply goes to one host.
use Rattle.std.proofs.Common.{◌≡◌, refl, sym, ◌∙◌, ap, ◌≢◌, Bool, false, List, [], ◌∷◌, ℕ, zero, suc, ◌≤◌, ◌<◌, arith}
use Rattle.std.proofs.Math.Logic.{dite}
use Rattle.std.proofs.Math.Decide.{ℕ_discrete}
use Rattle.octets.specs.declared.Address.{Address}
use Rattle.host.specs.Bounds.{latest as latest_time}
use Rattle.host.specs.declared.Host.{Host}
use Rattle.uniqueness.specs.Link.{Link, address_of, those, has_address, Conditions}
use Rattle.uniqueness.proofs.Model.{Claim}
use Rattle.uniqueness.proofs.Simulation.{Kind, kind, Simulates}
use Rattle.uniqueness.proofs.Obligations.{Obligations}
use Rattle.uniqueness.proofs.Hosts.{Sent, some_lent, some_receipt, calls, StandsFor, IsReply, OfName, OnInterface, system}
use Rattle.uniqueness.proofs.Hosts.AddressOrder.{same_refl}
use Rattle.uniqueness.proofs.Hosts.StartTick.{stands, start_accepted, start_open, start_refused, ticked}
use Rattle.uniqueness.proofs.Hosts.Receive.{query_in, reply_in}

module _ (L : Link) (C : Conditions L) where
  another : (a k : ℕ) → k < L.count → a < L.count → k ≢ a → has_address L (address_of L a) k ≡ false
  another a k lk la ne = C.apart a k la lk (λ e. ne (sym e))

  nobody : (a n : ℕ) → a < L.count → n ≤ a → those (has_address L (address_of L a)) n ≡ []
  unfolding those
  nobody a zero la le = refl
  nobody a (suc n) la le = rw (another a n (omega arith) la (λ e. omega (arith, e))) (nobody a n la (omega arith))

  only_one : (a n : ℕ) → a < n → n ≤ L.count → those (has_address L (address_of L a)) n ≡ a ∷ []
  unfolding those
  only_one a zero l le = absurd (omega arith)
  only_one a (suc n) l le =
      dite (ℕ_discrete n a)
      (λ e. rw e (rw (same_refl (address_of L a)) (ap (λ (xs : List ℕ). a ∷ xs) (nobody a a (omega (arith, e)) (omega arith)))))
      (λ ne. rw (another a n (omega arith) (omega arith) ne) (only_one a n (omega (arith, ne)) (omega arith)))

module _ (O : Obligations) (L : Link) (C : Conditions L) where
  routed : (a k : ℕ) (g : ℕ) (f : Bool) (b : Sent) → a < L.count → IsReply L O a k g f b → (calls L).route b ≡ a ∷ []
  routed a k g f b la q = ap (λ (x : Address). those (has_address L x) L.count) q.to ∙ only_one L C a L.count la (omega arith)

  module _ (ObservedAs : ℕ → ℕ → Host → Kind → Type 0)
      (observed : (k t : ℕ) (s : Claim) (c : Host) → k < L.count → t ≤ latest_time → StandsFor L k t s c → ObservedAs k t c (kind s))
      (only : (k t : ℕ) (s : Claim) (c : Host) (x : Kind) → k < L.count → t ≤ latest_time → StandsFor L k t s c → ObservedAs k t c x
      → x ≡ kind s) where
    pub simulates : Simulates (system O L C ObservedAs)
    unfolding OfName OnInterface
    simulates = record {
      later = λ k t t' s c le r. stands L k t' s r.id r.until r.clock c r.id_fits (let e = r.early in omega arith) r.is;
      observed = observed;
      only = only;
      routed = routed;
      start_accepted = λ k c x t l lt. start_accepted O L C ObservedAs k l x t lt c;
      start_refused = λ k s c x t l lt. start_refused O L C ObservedAs k l x t lt s c;
      ticked = λ k s c x t l lt. ticked O L C ObservedAs k l x t lt s c;
      query_in = λ a k s c z t b g la l ne lt. query_in O L C ObservedAs a k la l z t lt g s c b;
      reply_in = λ a k s c z t b f g la l ne lt. reply_in O L C ObservedAs a k la l ne z t lt g s c b f;
      some_inputs = λ k l. (record { interface = (L.station k).interface; name = (L.station k).name; lent = some_lent }, refl, refl);
      some_receipt = some_receipt;
      start_open = λ k c x t l lt. start_open O L C ObservedAs k l x t lt c;
    }
