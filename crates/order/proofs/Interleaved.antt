-- Two lists of calls, each on its own interface, all at one time: every way to interleave them gives the same. By moving one call past
-- another, as the theorem about two calls allows.
use Rattle.std.proofs.Common.{ℕ, ◌≡◌, refl, sym, ap, ◌∙◌, ◌≢◌, List, [], ◌∷◌, ◌++◌, eq-eqb, ne_eqb}
use Rattle.octets.specs.declared.Endpoint.{Endpoint}
use Rattle.host.specs.Outcomes.{CallResult}
use Rattle.host.specs.Laws.{SameTold}
use Rattle.host.specs.declared.Host.{Host}
use Rattle.order.specs.Calls.{Call, made, interface_in}
use Rattle.order.specs.Order.{OneMoment}
use Rattle.order.specs.Interleaved.{IsAt, AllAt, Interleaves, ended, from_first, from_second, after, Told, told, all_told, told_on, AsAlone, EachAsAlone, EveryWay}
use Rattle.order.proofs.Order.{either_order}

-- ---- lists

after_both : (h : Host) (xs ys : List Call) → after h (xs ++ ys) ≡ after (after h xs) ys
after_both h [] ys = refl
after_both h (c ∷ xs) ys = after_both (made c h).host xs ys

same_told : (c : Call) (h g : Host) → SameTold (made c h) (made c g) → told c h ≡ told c g
same_told c h g s = all s.result s.to s.octets
  where
    all : {r s : CallResult} {t u : Endpoint} {x y : List ℕ} → r ≡ s → t ≡ u → x ≡ y
        → ◌≡◌ {A = Told} (record { interface = interface_in c; result = r; to = t; octets = x }) (record { interface = interface_in c; result = s; to = u; octets = y })
    all e f k = rw (e, f, k)

told_here : (i : ℕ) (t : Told) (ts : List Told) → t.interface ≡ i → told_on i (t ∷ ts) ≡ t ∷ told_on i ts
told_here i t ts e = rw (eq-eqb t.interface i e)

told_elsewhere : (i : ℕ) (t : Told) (ts : List Told) → t.interface ≢ i → told_on i (t ∷ ts) ≡ told_on i ts
told_elsewhere i t ts n = rw (ne_eqb t.interface i n)

-- ---- a call before a list of calls on another interface, or after it

moment : {i j time : ℕ} {c e : Call} → i ≢ j → IsAt i time c → IsAt j time e → OneMoment c e
moment n a b = record { apart = λ q. n (sym a.interface ∙ q ∙ b.interface); same_time = a.moment ∙ sym b.moment }

record Past (h : Host) (c : Call) (xs : List Call) : Type 0 where
  state : after (made c h).host xs ≡ (made c (after h xs)).host
  they : all_told (made c h).host xs ≡ all_told h xs

past : {i j time : ℕ} → i ≢ j → (c : Call) → IsAt j time c → (xs : List Call) → AllAt i time xs → (h : Host) → Past h c xs
past n c p [] a h = record { state = refl; they = refl }
past n c p (x ∷ xs) a h =
    let o = either_order h x c (moment n a.0 p) in
    let r = past n c p xs a.1 (made x h).host in
    record {
      state = ap (λ (g : Host). after g xs) (sym o.state) ∙ r.state;
      they =
          ap (λ (t : Told). t ∷ all_told (made x (made c h).host).host xs) (sym (same_told x h (made c h).host o.one))
          ∙ ap (λ (l : List Told). told x h ∷ l) (ap (λ (g : Host). all_told g xs) (sym o.state) ∙ r.they);
    }

-- ---- the lists

alone : {i j : ℕ} (time : ℕ) → i ≢ j → {xs ys zs : List Call} → AllAt i time xs → AllAt j time ys → Interleaves xs ys zs → (h : Host)
    → AsAlone h i j xs ys zs
alone time n a b ended h = record { state = refl; first = refl; second = refl }
alone {i} {j} time n a b (from_first {c} {xs} {ys} {zs} m) h =
    let r = alone time n a.1 b m (made c h).host in
    record {
      state = r.state;
      first = told_here i (told c h) (all_told (made c h).host zs) a.0.interface ∙ ap (λ (l : List Told). told c h ∷ l) r.first;
      second =
          told_elsewhere j (told c h) (all_told (made c h).host zs) (λ q. n (sym a.0.interface ∙ q))
          ∙ r.second ∙ (past (λ q. n (sym q)) c a.0 ys b h).they;
    }
alone {i} {j} time n a b (from_second {c} {xs} {ys} {zs} m) h =
    let r = alone time n a b.1 m (made c h).host in
    let p = past n c b.0 xs a h in
    record {
      state = r.state ∙ after_both (made c h).host xs ys ∙ ap (λ (g : Host). after g ys) p.state ∙ sym (after_both h xs (c ∷ ys));
      first = told_elsewhere i (told c h) (all_told (made c h).host zs) (λ q. n (sym q ∙ b.0.interface)) ∙ r.first ∙ p.they;
      second = told_here j (told c h) (all_told (made c h).host zs) b.0.interface ∙ ap (λ (l : List Told). told c h ∷ l) r.second;
    }

-- Each list gives what it gives alone, and the state is that after the first and then the second.
pub as_alone : EachAsAlone
as_alone h i j time xs ys zs n a b m = alone time n a b m h

-- So two ways to interleave them give the same.
pub any_order : EveryWay
any_order h i j time xs ys zs ws n a b m k =
    let r = as_alone h i j time xs ys zs n a b m in
    let s = as_alone h i j time xs ys ws n a b k in
    record { state = r.state ∙ sym s.state; first = r.first ∙ sym s.first; second = r.second ∙ sym s.second }
