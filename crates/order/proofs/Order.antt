-- Two calls on different interfaces at one time give the same in either order. From the frame of a call (specs/Frame.antt) alone.
use Rattle.std.proofs.Common.{ℕ, ◌<◌, ◌≡◌, refl, sym, ap, ◌∙◌, subst, ◌≢◌, ◌↔◌, ⊎_elim, List, arith, get_or, eqb, eqb-true}
use Rattle.std.proofs.lemmas.Bool.{eqb-false}
use Rattle.octets.proofs.Tests.{split}
use Rattle.refusal.specs.Numbers.{Report}
use Rattle.host.specs.State.{absent, interface_of, settings_of, with_clock}
use Rattle.host.specs.Outcomes.{refused, Done}
use Rattle.host.specs.Laws.{Accepted, SameTold}
use Rattle.host.specs.declared.Interface.{Interface}
use Rattle.host.specs.declared.Host.{Host}
use Rattle.host.proofs.Accepted.{refused_or}
use Rattle.host.proofs.Laws.{one_host}
use Rattle.order.specs.Calls.{Call, made, interface_in, time_in}
use Rattle.order.specs.Order.{OneMoment, TwoPorts}
use Rattle.order.proofs.Frame.{framed}

-- ---- one call

-- the state after it
abbrev then : Call → Host → Host
then c h = (made c h).host

abbrev pub IsRefused : Done → Type 0
IsRefused d = (t : Report) × (d.result ≡ refused t)

-- of two that tell the same, both are accepted if one is
pub still : {d e : Done} → Accepted d → SameTold d e → Accepted e
still a s t q = a t (s.result ∙ q)

-- the other interfaces, and the settings
others : (c : Call) (h : Host) (n : ℕ) → n ≢ interface_in c → interface_of (then c h) n ≡ interface_of h n
others c h n a = ((framed c).changes h).only.interfaces n a

settings_stay : (c : Call) (h : Host) → settings_of (then c h).interfaces ≡ settings_of h.interfaces
settings_stay c h = ((framed c).changes h).only.settings

-- ---- a call after another

pub turned : {c e : Call} → OneMoment c e → OneMoment e c
turned m = record { apart = λ q. m.apart (sym q); same_time = sym m.same_time }

-- Of two calls of one moment the second does not notice the first: it tells what it tells without it, and its own interface is then the
-- same.
record Unnoticed (c e : Call) (h : Host) : Type 0 where
  tells : SameTold (made e h) (made e (then c h))
  here : interface_of (then e h) (interface_in e) ≡ interface_of (then e (then c h)) (interface_in e)

unnoticed : (c e : Call) (h : Host) → OneMoment c e → Unnoticed c e h
unnoticed c e h m = ⊎_elim after_refused after_accepted (refused_or (made c h))
  where
    after_refused : IsRefused (made c h) → Unnoticed c e h
    after_refused x =
        let s : h ≡ then c h = sym ((framed c).refused h x.0 x.1).host in
        record {
          tells = subst (λ (g : Host). SameTold (made e h) (made e g)) s (record { result = refl; to = refl; octets = refl });
          here = ap (λ (g : Host). interface_of (then e g) (interface_in e)) s;
        }

    -- the time is before neither clock
    alike : Accepted (made c h) → (time_in e < h.clock) ↔ (time_in e < (then c h).clock)
    alike a = (
      λ x. absurd (omega (arith, x, (framed c).in_time h a, m.same_time)),
      λ x. absurd (omega (arith, x, (framed c).clock_set h a, m.same_time)),
    )

    after_accepted : Accepted (made c h) → Unnoticed c e h
    after_accepted a =
        let clock = (then c h).clock in
        let r = (framed e).clock_read h clock (alike a) in
        let l = (framed e).looks (with_clock h clock) (then c h)
        (record { clock = refl; settings = sym (settings_stay c h); here = sym (others c h (interface_in e) (λ q. m.apart (sym q))) }) in
        record {
          tells = record { result = r.told.result ∙ l.result; to = r.told.to ∙ l.to; octets = r.told.octets ∙ l.octets };
          here = ap (λ (x : List Interface). get_or x (interface_in e) absent) r.interfaces ∙ l.after.here;
        }

-- ---- the state at the end

-- every interface but the second call's
but_second : (c e : Call) (h : Host) → OneMoment c e → (n : ℕ) → n ≢ interface_in e
    → interface_of (then e (then c h)) n ≡ interface_of (then c (then e h)) n
but_second c e h m n a =
    split (eqb n (interface_in c))
    (λ t.
    others e (then c h) n a
    ∙ subst (λ (k : ℕ). interface_of (then c h) k ≡ interface_of (then c (then e h)) k) (sym (eqb-true n (interface_in c) t))
    (unnoticed e c h (turned m)).here)
    (λ t.
    let b = eqb-false n (interface_in c) t in
    others e (then c h) n a ∙ others c h n b ∙ sym (others e h n a) ∙ sym (others c (then e h) n b))

everywhere : (c e : Call) (h : Host) → OneMoment c e → (n : ℕ) → interface_of (then e (then c h)) n ≡ interface_of (then c (then e h)) n
everywhere c e h m n =
    split (eqb n (interface_in e))
    (λ t. sym (but_second e c h (turned m) n (λ q. m.apart (sym q ∙ eqb-true n (interface_in e) t))))
    (λ t. but_second c e h m n (eqb-false n (interface_in e) t))

-- a refused call is refused after the other too, and changes nothing in either place
one_refused : (c e : Call) (h : Host) → OneMoment c e → IsRefused (made c h) → then e (then c h) ≡ then c (then e h)
one_refused c e h m x =
    ap (λ (g : Host). then e g) ((framed c).refused h x.0 x.1).host
    ∙ sym ((framed c).refused (then e h) x.0 (sym (unnoticed e c h (turned m)).tells.result ∙ x.1)).host

both_accepted : (c e : Call) (h : Host) → OneMoment c e → Accepted (made c h) → Accepted (made e h) → then e (then c h) ≡ then c (then e h)
both_accepted c e h m a b =
    one_host (then e (then c h)) (then c (then e h))
    (settings_stay e (then c h) ∙ settings_stay c h ∙ sym (settings_stay e h) ∙ sym (settings_stay c (then e h)))
    (everywhere c e h m)
    ((framed e).clock_set (then c h) (still b (unnoticed c e h m).tells)
    ∙ sym m.same_time
    ∙ sym ((framed c).clock_set (then e h) (still a (unnoticed e c h (turned m)).tells)))

same_end : (c e : Call) (h : Host) → OneMoment c e → then e (then c h) ≡ then c (then e h)
same_end c e h m =
    ⊎_elim (one_refused c e h m)
    (λ a. ⊎_elim (λ x. sym (one_refused e c h (turned m) x)) (both_accepted c e h m a) (refused_or (made e h)))
    (refused_or (made c h))

-- Two ports, one moment.
pub either_order : TwoPorts
either_order h c e m =
    record { state = same_end c e h m; one = (unnoticed e c h (turned m)).tells; other = (unnoticed c e h m).tells }
