-- A link played by computation (specs/Play.antt): a list that passes its test keeps the rules, and leads where playing it does.
use Rattle.std.proofs.Common.{ℕ, zero, suc, ◌+◌, ◌<◌, ◌≤◌, ◌≡◌, refl, sym, ap, ◌∙◌, subst, List, [], ◌∷◌, ◌++◌, ◌⊎◌, inl, inr, Bool, true, false, cond, not, arith, ltb, leb, eqb, ltb-true, leb-true, eqb-true}
use Rattle.std.proofs.lemmas.Bool.{eqb-false}
use mathlib.Core.List.{Memᴰ}
use mathlib.Core.List.Memᴰ
use Rattle.host.specs.Bounds.{latest as latest_time}
use Rattle.octets.proofs.Tests.{split, both}
use Rattle.host.specs.declared.Host.{Host}
use Rattle.uniqueness.specs.Link.{Link, Request, starts, ticks, Call, Datagram, Receipt, Moment, verifying, sort_of, datagrams, update, is_refused, result, received, Probe, observed, EveryProbe, AnyOrder, StartRule, Keeps, Delivered, none, next, Run, empty, then}
use Rattle.uniqueness.specs.Play.{is_empty, is_verifying, is_among, deliver, undelivered, called, sending, deliveries, play, plays, in_time, may_start, the_rules, keeps_rules, all_keep}
use Rattle.uniqueness.proofs.Model.{clash}

no_more : (ps : List Datagram) → is_empty ps ≡ true → ps ≡ []
no_more [] e = refl
no_more (p ∷ ps) e = clash cc

not_among : (h : ℕ) (ks : List ℕ) → not (is_among h ks) ≡ true → ¬ (Memᴰ h ks)
unfolding is_among
not_among h [] e m = Memᴰ.not-nil m
not_among h (k ∷ ks) e m =
    split (eqb h k) (λ q. clash (cc (rw q at e)))
    (λ q. go (Memᴰ.cases_cons m) (eqb-false h k q) (not_among h ks (rw q at e)))
  where
    go : (h ≡ k) ⊎ Memᴰ h ks → (h ≡ k → ⊥) → ¬ (Memᴰ h ks) → ⊥
    go (inl i) n f = n i
    go (inr i) n f = f i

module _ (L : Link) (x : Receipt) where
  all_delivered : (n time : ℕ) (hosts : ℕ → Host) (ps : List Datagram) → undelivered L x n time hosts ps ≡ []
      → Delivered L time hosts ps (deliver L x n time hosts ps)
  unfolding deliver undelivered
  all_delivered zero time hosts ps e = subst (λ (qs : List Datagram). Delivered L time hosts qs hosts) (sym e) none
  all_delivered (suc n) time hosts [] e = none
  all_delivered (suc n) time hosts (p ∷ ps) e =
      next [] ps p x
      (all_delivered n time (update hosts p.receiver (received L time (hosts p.receiver) p x).host)
      (datagrams L p.receiver (received L time (hosts p.receiver) p x) ++ ps) e)

  -- the probe is made at the clock's last millisecond
  module _ (p : Probe L) (last : latest_time ≤ p.time) where
    in_time_lem : (n : ℕ) (m : Moment) (time : ℕ) → m.time ≤ latest_time → in_time L x p L.interval n m time ≡ true → (k : ℕ) → k < n → EveryProbe L m k verifying
        → time ≤ m.queried k + L.interval
    unfolding in_time
    in_time_lem zero m time a e k h v = absurd (omega arith)
    in_time_lem (suc n) m time a e k h v =
        let b = (both (cond (is_verifying (observed L m n p)) (leb time (m.queried n + L.interval)) true) (in_time L x p L.interval n m time)).0 e in
        split (eqb k n)
        (λ q. let i : k ≡ n = eqb-true k n q in
        let w : observed L m n p ≡ verifying = ap (λ (j : ℕ). observed L m j p) (sym i) ∙ v p (omega (arith, a, last)) in
        let t : time ≤ m.queried n + L.interval = leb-true _ _ (rw w at b.0) in
        rw i t)
        (λ q. let i : k ≡ n → ⊥ = eqb-false k n q in in_time_lem n m time a b.1 k (omega arith) v)

    may_start_lem : (m : Moment) (h : ℕ) (r : Request) (f : Bool) → may_start L x p m h r f ≡ true → StartRule AnyOrder L m h r f
    may_start_lem m h (starts name) false e =
        let b = (both (eqb name (L.station h).name) (not (is_among h m.started))).0 e in
        (eqb-true _ _ b.0, not_among h m.started b.1, tt)
    may_start_lem m h (starts name) true e = tt
    may_start_lem m h ticks f e = tt

    -- the rules of one call, from the test
    pub call_keeps : (m : Moment) (c : Call) → m.time ≤ latest_time → keeps_rules L x (the_rules L x p) m c ≡ true
        → Keeps L (EveryProbe L) AnyOrder m c × (undelivered L x deliveries c.time (called L m c) (sending L m c) ≡ [])
    unfolding keeps_rules
    call_keeps m c a e =
        let o = (both (ltb c.host L.count) _).0 e in
        let b = (both (leb c.time latest_time) _).0 o.1 in
        let d = (both (leb m.time c.time) _).0 b.1 in
        let f = (both (in_time L x p L.interval L.count m c.time) _).0 d.1 in
        let g = (both (may_start L x p m c.host c.request (is_refused (sort_of (result L m.hosts c)))) _).0 f.1 in (
          record {
            host = ltb-true _ _ o.0;
            in_range = leb-true _ _ b.0;
            forward = leb-true _ _ d.0;
            due = in_time_lem L.count m c.time a f.0;
            start = may_start_lem m c.host c.request (is_refused (sort_of (result L m.hosts c))) g.0;
          },
          no_more _ g.1,
        )

    -- a list that passes the test leads where playing it does
    pub plays_run : (m : Moment) (cs : List Call) → m.time ≤ latest_time → all_keep L x (the_rules L x p) m cs ≡ true → Run L (EveryProbe L) AnyOrder m cs (plays L x m cs)
    unfolding all_keep plays play
    plays_run m [] a e = empty
    plays_run m (c ∷ cs) a e =
        let b = (both (keeps_rules L x (the_rules L x p) m c) (all_keep L x (the_rules L x p) (play L x m c) cs)).0 e in
        let k = call_keeps m c a b.0 in
        then c (deliver L x deliveries c.time (called L m c) (sending L m c)) k.0
        (all_delivered deliveries c.time (called L m c) (sending L m c) k.1) (plays_run (play L x m c) cs k.0.in_range b.1)
