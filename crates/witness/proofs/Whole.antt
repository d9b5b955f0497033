-- What a call can come to, in the words of specs/States.antt, leaves nothing open: two results of which the same is said are the same. A
-- host with four interfaces of eight names keeps them.
use Rattle.std.proofs.Common.{ℕ, zero, suc, ◌<◌, ◌≡◌, refl, sym, ap, ◌∙◌, subst, ◌↔◌, ⊎_elim, List, arith, length, get_or, ext_get_or, eqb, eqb-true}
use Rattle.std.proofs.lemmas.Bool.{eqb-false}
use Rattle.octets.specs.declared.Endpoint.{Endpoint}
use Rattle.octets.specs.declared.Setting.{Setting}
use Rattle.octets.proofs.PlainAddresses.{group_one}
use Rattle.octets.proofs.Tests.{split}
use Rattle.refusal.specs.Numbers.{Report, number}
use Rattle.refusal.specs.Cases.{Case, First}
use Rattle.host.specs.State.{off_name, absent, interface_of, state_of}
use Rattle.host.specs.Outcomes.{CallResult, refused, Done}
use Rattle.host.specs.Laws.{Unchanged, Accepted}
use Rattle.host.specs.declared.NameState.{NameState}
use Rattle.host.specs.declared.Interface.{Interface}
use Rattle.host.specs.declared.Host.{Host}
use Rattle.host.proofs.Accepted.{refused_or}
use Rattle.host.proofs.Laws.{as_many, same_host, one_host}
use Rattle.witness.specs.States.{Place, Refuses, Leaves, Moves, Becomes, Asks, host_of}
use Rattle.witness.specs.Whole.{Full, RefusedExactly}

-- ---- hosts

same_interface : {s t : Setting} {l m : List NameState} → s ≡ t → l ≡ m
    → ◌≡◌ {A = Interface} (record { setting = s; names = l }) (record { setting = t; names = m })
same_interface e f = rw (e, f)

same_name : {s t : NameState} → s ≡ t → ◌≡◌ {A = NameState} s t
same_name e = rw e

module _ (h : Host) (i k : ℕ) (s : NameState) (time : ℕ) (d e : Done) (v : Moves h i k s time d) (w : Moves h i k s time e) where
  one_state : (j : ℕ) → state_of d.host i j ≡ state_of e.host i j
  one_state j =
      split (eqb j k)
      (λ t. subst (λ (x : ℕ). state_of d.host i x ≡ state_of e.host i x) (sym (eqb-true j k t)) (v.state ∙ sym w.state))
      (λ t. v.others.names j (eqb-false j k t) ∙ sym (w.others.names j (eqb-false j k t)))

  one_here : interface_of d.host i ≡ interface_of e.host i
  one_here =
      same_interface (v.setting ∙ sym w.setting)
      (ext_get_or off_name (interface_of d.host i).names (interface_of e.host i).names (v.many ∙ sym w.many) (λ j l. same_name (one_state j)))

  one_interface : (j : ℕ) → interface_of d.host j ≡ interface_of e.host j
  one_interface j =
      split (eqb j i)
      (λ t. subst (λ (x : ℕ). interface_of d.host x ≡ interface_of e.host x) (sym (eqb-true j i t)) one_here)
      (λ t. v.others.interfaces j (eqb-false j i t) ∙ sym (w.others.interfaces j (eqb-false j i t)))

  -- One name has moved: the host is determined.
  pub moves_one : d.host ≡ e.host
  moves_one = one_host d.host e.host (v.others.settings ∙ sym w.others.settings) one_interface (v.clock ∙ sym w.clock)

-- ---- a host that is full stays so

pub host_full : (s t u v : Setting) (time : ℕ) → Full (host_of s t u v time)
host_full s t u v time = record { four = refl; eight = go }
  where
    go : (i : ℕ) → i < 4 → length (interface_of (host_of s t u v time) i).names ≡ 8
    go zero l = refl
    go (suc zero) l = refl
    go (suc (suc zero)) l = refl
    go (suc (suc (suc zero))) l = refl
    go (suc (suc (suc (suc i)))) l = absurd (omega arith)

pub moves_full : (h : Host) (i k : ℕ) (s : NameState) (time : ℕ) (d : Done) → Full h → Moves h i k s time d → Full d.host
moves_full h i k s time d f m =
    record {
      four = as_many d.host.interfaces h.interfaces m.others.settings ∙ f.four;
      eight =
          λ j l.
          split (eqb j i)
          (λ t.
          let e = eqb-true j i t in
          subst (λ (x : ℕ). length (interface_of d.host x).names ≡ 8) (sym e) (m.many ∙ f.eight i (subst (λ (x : ℕ). x < 4) e l)))
          (λ t. ap (λ (x : Interface). length x.names) (m.others.interfaces j (eqb-false j i t)) ∙ f.eight j l);
    }

pub same_full : (h g : Host) → Full h → g.interfaces ≡ h.interfaces → Full g
same_full h g f e =
    record {
      four = ap length e ∙ f.four;
      eight = λ j l. ap (λ (x : List Interface). length (get_or x j absent).names) e ∙ f.eight j l;
    }

-- ---- results

same_done : {h g : Host} {r s : CallResult} {t u : Endpoint} {x y : List ℕ} → h ≡ g → r ≡ s → t ≡ u → x ≡ y
    → ◌≡◌ {A = Done} (record { host = h; result = r; to = t; octets = x }) (record { host = g; result = s; to = u; octets = y })
same_done e f g k = rw (e, f, g, k)

pub becomes_one : (h : Host) (i k : ℕ) (s : NameState) (time : ℕ) (out : List ℕ) (r : CallResult) (d e : Done)
    → Becomes h i k s time out r d → Becomes h i k s time out r e → d ≡ e
becomes_one h i k s time out r d e v w =
    same_done (moves_one h i k s time d e v.moves w.moves) (v.result ∙ sym w.result) (v.to ∙ sym w.to) (v.octets ∙ sym w.octets)

pub asks_one : (h : Host) (i k : ℕ) (s : NameState) (time : ℕ) (sent out : List ℕ) (d e : Done)
    → Asks h i k s time sent out d → Asks h i k s time sent out e → d ≡ e
asks_one h i k s time sent out d e v w =
    same_done (moves_one h i k s time d e v.moves w.moves) (v.result ∙ sym w.result) (group_one _ _ _ v.to w.to) (v.octets ∙ sym w.octets)

pub leaves_one : (h : Host) (time : ℕ) (out : List ℕ) (r : CallResult) (d e : Done) → Leaves h time out r d → Leaves h time out r e → d ≡ e
leaves_one h time out r d e v w =
    same_done (same_host (v.states ∙ sym w.states) (v.clock ∙ sym w.clock)) (v.result ∙ sym w.result) (v.to ∙ sym w.to) (v.octets ∙ sym w.octets)

-- ---- refused or not

-- a result that is accepted is not refused with a number
pub not_refused : {A : Type 0} (h : Host) (out : List ℕ) (n : ℕ) (d : Done) → Accepted d → Refuses h out n d → A
not_refused h out n d a r = absurd (a (number n) r.result)

-- Two results that are refused exactly alike, and are the same if accepted, are the same.
pub same_if_accepted : (h : Host) (out : List ℕ) (cases : List Case) (d e : Done) → RefusedExactly h out cases d → RefusedExactly h out cases e
    → (Accepted d → Accepted e → d ≡ e) → d ≡ e
same_if_accepted h out cases d e v w f =
    ⊎_elim
    (λ x. v.nothing_else x.0 ((v.exactly x.0).1 ((w.exactly x.0).0 x.1)) ∙ sym (w.nothing_else x.0 x.1))
    (λ a. f (λ t q. a t ((w.exactly t).1 ((v.exactly t).0 q))) a)
    (refused_or e)

-- a call that is refused leaves the host as it was
pub full_if_accepted : (h : Host) (out : List ℕ) (cases : List Case) (d : Done) → Full h → RefusedExactly h out cases d
    → (Accepted d → Full d.host) → Full d.host
full_if_accepted h out cases d f v g =
    ⊎_elim (λ x. same_full h d.host f (ap (λ (y : Done). y.host.interfaces) (v.nothing_else x.0 x.1))) g (refused_or d)

-- a call that changes nothing where it is refused
pub refused_exactly : (h : Host) (out : List ℕ) (cases : List Case) (d : Done) → ((t : Report) → (d.result ≡ refused t) ↔ First t cases)
    → ((t : Report) → d.result ≡ refused t → Unchanged h out d) → RefusedExactly h out cases d
refused_exactly h out cases d f g =
    record { exactly = f; nothing_else = λ t e. let u = g t e in same_done u.host e u.to u.octets }

-- ---- what a host and a table have

pub place_in : (h : Host) (i k : ℕ) → Full h → i < 4 → k < 8 → Place h i k
place_in h i k f l m = record { interface = omega (arith, f.four); name = omega (arith, f.eight i l) }
