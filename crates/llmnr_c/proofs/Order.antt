-- Two calls for C on different interfaces at one time give the same in either order: from the frame of a call (order/specs/Frame.antt), and
-- since the steps are taken into different places of the flat host. It need not be in normal form.
use Rattle.std.proofs.Common.{ℕ, ◌<◌, ◌≡◌, refl, sym, ap, ◌∙◌, subst, ◌≢◌, ◌↔◌, ⊎_elim, List, Bool, true, false, cond, arith, get_or, set, get_or-set_other}
use Rattle.std.proofs.lemmas.List.{set_comm}
use mathlib.Core.Logic.Iff
use Rattle.octets.proofs.Tests.{split}
use Rattle.host.specs.State.{absent, off_name}
use Rattle.host.specs.Outcomes.{CallResult, Done}
use Rattle.host.specs.Laws.{Accepted, SameButClock}
use Rattle.host.specs.declared.Interface.{Interface}
use Rattle.host.specs.declared.Host.{Host}
use Rattle.host.proofs.Accepted.{refused_or}
use Rattle.responder.specs.Served.{changes, name_told}
use Rattle.order.specs.Calls.{Call, made, interface_in, time_in}
use Rattle.order.specs.Order.{OneMoment}
use Rattle.order.proofs.Frame.{framed}
use Rattle.order.proofs.Order.{IsRefused, turned, still}
use Rattle.llmnr_c.specs.Numbers.{state_off}
use Rattle.llmnr_c.specs.Outcomes.{flat_outcome}
use Rattle.llmnr_c.specs.FlatHost.{seen, flat_state, no_names, bare, step_on, names_after}
use Rattle.llmnr_c.specs.Order.{given, flat_made, taken, SameStep, TwoPorts}
use Rattle.llmnr_c.specs.declared.flat.FlatName.{FlatName}
use Rattle.llmnr_c.specs.declared.flat.FlatNames.{FlatNames}
use Rattle.llmnr_c.specs.declared.flat.FlatHost.{FlatHost}
use Rattle.llmnr_c.specs.declared.outcome.FlatOutcome.{FlatOutcome}

-- ---- a step after another

-- what a step tells of the interfaces and the result
abbrev name_of : ℕ → CallResult → List Interface → FlatName
name_of j r l = cond (changes r) (flat_state (get_or (get_or l j absent).names (name_told r) off_name)) (bare state_off)

same_step : (j : ℕ) (d g : Done) → SameButClock d g → SameStep (step_on j d) (step_on j g)
same_step j d g s =
    record {
      name = ap (λ (r : CallResult). name_of j r d.host.interfaces) s.told.result ∙ ap (name_of j g.result) s.interfaces;
      outcome = ap flat_outcome s.told.result;
      to = s.told.to;
      changed = ap changes s.told.result;
      octets = s.told.octets;
    }

-- the names of the other interfaces stay
names_stay : (c : Call) (f : FlatHost) (j : ℕ) → j ≢ interface_in c → get_or (taken c f).interfaces j no_names ≡ get_or f.interfaces j no_names
names_stay c f j n =
    split (flat_made c f).step.changed (λ p. rw p (get_or-set_other f.interfaces (interface_in c) j _ no_names n)) (λ p. rw p)

-- a refused step changes nothing
refused_taken : (c : Call) (f : FlatHost) → IsRefused (made c (given c f)) → taken c f ≡ f
refused_taken c f x =
    let k : (made c (given c f)).host.clock ≡ f.clock = ap (λ (h : Host). h.clock) ((framed c).refused (given c f) x.0 x.1).host in
    rw (x.1, k)

alike : (c e : Call) (f : FlatHost) → OneMoment c e → (time_in e < f.clock) ↔ (time_in e < (taken c f).clock)
alike c e f m = ⊎_elim after_refused after_accepted (refused_or (made c (given c f)))
  where
    after_refused : IsRefused (made c (given c f)) → (time_in e < f.clock) ↔ (time_in e < (taken c f).clock)
    after_refused x = subst (λ (g : FlatHost). (time_in e < f.clock) ↔ (time_in e < g.clock)) (sym (refused_taken c f x)) Iff.rfl

    after_accepted : Accepted (made c (given c f)) → (time_in e < f.clock) ↔ (time_in e < (taken c f).clock)
    after_accepted a = (
      λ x. absurd (omega (arith, x, (framed c).in_time (given c f) a, m.same_time)),
      λ x. absurd (omega (arith, x, (framed c).clock_set (given c f) a, m.same_time)),
    )

unnoticed : (c e : Call) (f : FlatHost) → OneMoment c e → SameButClock (made e (given e f)) (made e (given e (taken c f)))
unnoticed c e f m =
    subst (λ (n : FlatNames). SameButClock (made e (given e f)) (made e (seen f.settings (taken c f).clock n)))
    (sym (names_stay c f (interface_in e) (λ q. m.apart (sym q))))
    ((framed e).clock_read (given e f) (taken c f).clock (alike c e f m))

-- ---- the host at the end

-- the names put in place, if there are any; in two places in either order
abbrev put : Bool → List FlatNames → ℕ → FlatNames → List FlatNames
put b l i x = cond b (set l i x) l

put_twice : (b d : Bool) (l : List FlatNames) (i j : ℕ) (x y : FlatNames) → i ≢ j → put d (put b l i x) j y ≡ put b (put d l j y) i x
put_twice true true l i j x y n = set_comm l i j x y n
put_twice true false l i j x y n = refl
put_twice false true l i j x y n = refl
put_twice false false l i j x y n = refl

-- what a step puts there is the same before another call and after it
abbrev new_names : Call → FlatHost → FlatNames
new_names c f = names_after (get_or f.interfaces (interface_in c) no_names) (flat_made c f).step

interfaces_after : (c e : Call) (f : FlatHost) → OneMoment c e
    → (taken e (taken c f)).interfaces ≡ put (flat_made e f).step.changed (taken c f).interfaces (interface_in e) (new_names e f)
interfaces_after c e f m =
    let s = same_step (interface_in e) _ _ (unnoticed c e f m) in
    same_put (sym s.changed) (names_stay c f (interface_in e) (λ q. m.apart (sym q))) (sym (ap (λ (o : FlatOutcome). o.name) s.outcome)) (sym s.name)
  where
    same_put : {b d : Bool} {n o : FlatNames} {k p : ℕ} {x y : FlatName} → b ≡ d → n ≡ o → k ≡ p → x ≡ y
        → put b (taken c f).interfaces (interface_in e) (record { names = set n.names k x })
        ≡ put d (taken c f).interfaces (interface_in e) (record { names = set o.names p y })
    same_put u v w z = rw (u, v, w, z)

both_accepted : (c e : Call) (f : FlatHost) → OneMoment c e → Accepted (made c (given c f)) → Accepted (made e (given e f))
    → taken e (taken c f) ≡ taken c (taken e f)
both_accepted c e f m a b =
    one_host
    (interfaces_after c e f m
    ∙ put_twice (flat_made c f).step.changed (flat_made e f).step.changed f.interfaces (interface_in c) (interface_in e) (new_names c f) (new_names e f) m.apart
    ∙ sym (interfaces_after e c f (turned m)))
    ((framed e).clock_set (given e (taken c f)) (still b (unnoticed c e f m).told)
    ∙ sym m.same_time
    ∙ sym ((framed c).clock_set (given c (taken e f)) (still a (unnoticed e c f (turned m)).told)))
  where
    one_host : {l k : List FlatNames} {p q : ℕ} → l ≡ k → p ≡ q
        → ◌≡◌ {A = FlatHost} (record { settings = f.settings; interfaces = l; clock = p }) (record { settings = f.settings; interfaces = k; clock = q })
    one_host u v = rw (u, v)

one_refused : (c e : Call) (f : FlatHost) → OneMoment c e → IsRefused (made c (given c f)) → taken e (taken c f) ≡ taken c (taken e f)
one_refused c e f m x =
    ap (λ (g : FlatHost). taken e g) (refused_taken c f x)
    ∙ sym (refused_taken c (taken e f) (x.0, sym (unnoticed e c f (turned m)).told.result ∙ x.1))

same_end : (c e : Call) (f : FlatHost) → OneMoment c e → taken e (taken c f) ≡ taken c (taken e f)
same_end c e f m =
    ⊎_elim (one_refused c e f m)
    (λ a. ⊎_elim (λ x. sym (one_refused e c f (turned m) x)) (both_accepted c e f m a) (refused_or (made e (given e f))))
    (refused_or (made c (given c f)))

-- Two ports, one moment.
pub either_order : TwoPorts
either_order f c e m =
    record {
      state = same_end c e f m;
      one = same_step (interface_in c) _ _ (unnoticed e c f (turned m));
      other = same_step (interface_in e) _ _ (unnoticed c e f m);
    }
