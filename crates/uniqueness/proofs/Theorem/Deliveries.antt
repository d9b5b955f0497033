-- The statement's datagrams are the simulation's packets, and its deliveries those of the simulation.
use Rattle.std.proofs.Common.{◌≡◌, refl, sym, subst, cond, not, List, [], ◌∷◌, ◌++◌, map, ℕ, zero, suc, eqb, eq-eqb, ne_eqb}
use mathlib.Core.List.{Forall₂}
use Rattle.std.proofs.Math.Decide.{ℕ_discrete}
use mathlib.Core.List.Forall₂
use mathlib.Mathlib.Data.List.Forall2
use Rattle.host.specs.declared.Host.{Host}
use Rattle.host.specs.Outcomes.{Done}
use Rattle.uniqueness.specs.Link as Spec
use Rattle.uniqueness.specs.Link.{sort_of, Link, Receipt, update, those, receivers, Datagram, datagrams, received, Delivered}
use Rattle.uniqueness.proofs.Model.{unless, Put, updated, put_is}
use Rattle.uniqueness.proofs.Simulation.{Packet, broadcast, packets, HostDelivery, got}
use Rattle.uniqueness.proofs.Simulation.Pairwise.{append, cut}
use Rattle.uniqueness.proofs.Hosts.{Sent, output_of, sent_of, outcome_of, calls}

-- a copy on its way, both ways of writing it
abbrev datagram_of : Packet Sent → Datagram
datagram_of q = record { sender = q.sender; receiver = q.receiver; to = q.octets.to; octets = q.octets.octets }

abbrev pub SameCopy : Datagram → Packet Sent → Type 0
SameCopy p q = datagram_of q ≡ p

pair_map : (f : ℕ → Datagram) (g : ℕ → Packet Sent) → ((k : ℕ) → SameCopy (f k) (g k)) → (ks : List ℕ) → Forall₂ SameCopy (map f ks) (map g ks)
pair_map f g e [] = Forall₂.nil
pair_map f g e (k ∷ ks) = Forall₂.cons (e k) (pair_map f g e ks)

module _ (L : Link) where
  abbrev copy : ℕ → Sent → ℕ → Datagram
  copy h b k = record { sender = h; receiver = k; to = b.to; octets = b.octets }

  abbrev on_link : ℕ → Done → List (Packet Sent)
  on_link h d = packets (calls L) L.count h (outcome_of d).output

  pair_others : (h : ℕ) (b : Sent) (n : ℕ) → Forall₂ SameCopy (map (copy h b) (those (λ k. not (eqb k h)) n)) (broadcast h b n)
  unfolding those broadcast
  pair_others h b zero = Forall₂.nil
  pair_others h b (suc n) = go (ℕ_discrete n h) (pair_others h b n)
    where
      go : (c : Dec (n ≡ h)) → Forall₂ SameCopy (map (copy h b) (those (λ k. not (eqb k h)) n)) (broadcast h b n)
          → Forall₂ SameCopy (map (copy h b) (cond (not (eqb n h)) (n ∷ those (λ k. not (eqb k h)) n) (those (λ k. not (eqb k h)) n)))
          (unless c (record { receiver = n; sender = h; octets = b }) (broadcast h b n))
      go (yes e) ih = rw (eq-eqb n h e) ih
      go (no ne) ih = rw (ne_eqb n h ne) (Forall₂.cons refl ih)

  pair_output : (h : ℕ) (o : Spec.Sort) (b : Sent)
      → Forall₂ SameCopy (map (copy h b) (receivers L h o b.to.address)) (packets (calls L) L.count h (output_of o b))
  pair_output h (Spec.refused n) b = Forall₂.nil
  pair_output h (Spec.query len) b = pair_others h b L.count
  pair_output h (Spec.reply len) b = pair_map (copy h b) (λ j. record { receiver = j; sender = h; octets = b }) (λ j. refl) ((calls L).route b)
  pair_output h Spec.silent b = Forall₂.nil

  pub same_copies : (h : ℕ) (d : Done) → Forall₂ SameCopy (datagrams L h d) (on_link h d)
  same_copies h d = pair_output h (sort_of d) (sent_of d)

  module _ (t : ℕ) where
    abbrev got_by : (ℕ → Host) → Datagram → Receipt → Done
    got_by c p x = received L t (c p.receiver) p x

    to_next : (c c'' : ℕ → Host) (l r : List Datagram) (x : Receipt) (l' r' : List (Packet Sent)) (q : Packet Sent) → Forall₂ SameCopy l l'
        → Forall₂ SameCopy r r'
        → ((ps : List (Packet Sent)) → Forall₂ SameCopy (l ++ (datagrams L q.receiver (got_by c (datagram_of q) x) ++ r)) ps
        → HostDelivery (calls L) L.count t (update c q.receiver (got_by c (datagram_of q) x).host) ps c'')
        → HostDelivery (calls L) L.count t c (l' ++ (q ∷ r')) c''
    to_next c c'' l r x l' r' q fl fr ih =
        let d = got_by c (datagram_of q) x in
        got (update c q.receiver d.host) l' r' q x (updated c q.receiver d.host)
        (ih (l' ++ (on_link q.receiver d ++ r')) (append fl (append (same_copies q.receiver d) fr)))

    pub to_hosts : {c c'' : ℕ → Host} {ds : List Datagram} → Delivered L t c ds c'' → (ps : List (Packet Sent)) → Forall₂ SameCopy ds ps
        → HostDelivery (calls L) L.count t c ps c''
    to_hosts Delivered.none ps f = rw (Forall₂.eq-nil_right f) HostDelivery.done
    to_hosts (Delivered.next {hosts = c} {end = c''} l r p x E) ps f =
        let at = cut l p r ps f in
        rw at.is
        (to_next c c'' l r x at.before at.behind at.at at.left at.right
        (subst (λ (p : Datagram). (ps : List (Packet Sent)) → Forall₂ SameCopy (l ++ (datagrams L p.receiver (got_by c p x) ++ r)) ps
        → HostDelivery (calls L) L.count t (update c p.receiver (got_by c p x).host) ps c'') (sym at.here)
        (λ ps₁ f₁. to_hosts E ps₁ f₁)))

    from_next : (c c' c'' : ℕ → Host) (l r : List (Packet Sent)) (q : Packet Sent) (x : Receipt) (l' r' : List Datagram) → Forall₂ SameCopy l' l
        → Forall₂ SameCopy r' r
        → Put c q.receiver (got_by c (datagram_of q) x).host c'
        → ((ds : List Datagram) → Forall₂ SameCopy ds (l ++ (on_link q.receiver (got_by c (datagram_of q) x) ++ r)) → Delivered L t c' ds c'')
        → Delivered L t c (l' ++ (datagram_of q ∷ r')) c''
    from_next c c' c'' l r q x l' r' fl fr pt ih =
        let d = got_by c (datagram_of q) x in
        Delivered.next l' r' (datagram_of q) x
        (subst (λ (f : ℕ → Host). Delivered L t f (l' ++ (datagrams L q.receiver d ++ r')) c'') (put_is c q.receiver d.host c' pt)
        (ih (l' ++ (datagrams L q.receiver d ++ r')) (append fl (append (same_copies q.receiver d) fr))))

    pub from_hosts : {c c'' : ℕ → Host} {ps : List (Packet Sent)} → HostDelivery (calls L) L.count t c ps c'' → (ds : List Datagram)
        → Forall₂ SameCopy ds ps
        → Delivered L t c ds c''
    from_hosts HostDelivery.done ds f = rw (Forall₂.eq-nil_left f) Delivered.none
    from_hosts (got {c = c} {c'' = c''} c' l r q x pt E) ds f =
        let at = cut l q r ds (Forall2.Forall₂.flip f) in
        rw at.is
        (subst (λ (p : Datagram). Delivered L t c (at.before ++ (p ∷ at.behind)) c'') at.here
        (from_next c c' c'' l r q x at.before at.behind (Forall2.Forall₂.flip at.left) (Forall2.Forall₂.flip at.right) pt (λ ds₁ f₁. from_hosts E ds₁ f₁)))
