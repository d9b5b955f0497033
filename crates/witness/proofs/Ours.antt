-- The host's own addresses and those below an interface's, in the plain words of specs/States.antt.
use Rattle.std.proofs.Common.{◌≡◌, sym, ◌∙◌, subst, ◌↔◌, ⊎_elim, true}
use mathlib.Core.Logic.Iff
use Rattle.octets.specs.Addresses.{address_of, below_address}
use Rattle.octets.specs.PlainAddresses.{IsOf}
use Rattle.octets.specs.declared.Address.{Address}
use Rattle.octets.specs.declared.Setting.{Setting}
use Rattle.octets.proofs.Addresses.{below_address_lem}
use Rattle.octets.proofs.PlainAddresses.{ours_plain}
use Rattle.host.specs.State.{is_own, setting_of, settings_of}
use Rattle.host.specs.ExactlyWhen.{IsUsed}
use Rattle.host.specs.Receive.{Arrival}
use Rattle.host.specs.declared.Host.{Host}
use Rattle.host.proofs.Laws.{setting_there}
use Rattle.witness.specs.States.{Ours, FromBelow, below_4, below_6}

-- ---- our own

pub ours_is : (h : Host) (x : Address) → (is_own h x ≡ true) ↔ Ours h x
ours_is h x = Iff.trans (ours_plain (settings_of h.interfaces) x) (
  λ w.
      record {
        interface = w.interface;
        below = w.below;
        same = subst (λ (s : Setting). IsOf s x) (setting_there h.interfaces w.interface) w.same;
      },
  λ w.
      record {
        interface = w.interface;
        below = w.below;
        same = subst (λ (s : Setting). IsOf s x) (sym (setting_there h.interfaces w.interface)) w.same;
      },
)

-- ---- from below

module _ (h : Host) (a : Arrival) (family : a.from.address.family ≡ (setting_of h a.interface).family) where
  pub is_below : FromBelow h a → below_address a.from.address (address_of (setting_of h a.interface)) ≡ true
  is_below (below_4 e b) = let g : a.from.address.family ≡ 4 = family ∙ e in (below_address_lem _ _).1 (family, rw (g, e) b)
  is_below (below_6 e b) = let g : a.from.address.family ≡ 6 = family ∙ e in (below_address_lem _ _).1 (family, rw (g, e) b)

  pub from_below : IsUsed h a.interface → below_address a.from.address (address_of (setting_of h a.interface)) ≡ true → FromBelow h a
  from_below used t =
      let b = ((below_address_lem a.from.address (address_of (setting_of h a.interface))).0 t).1 in
      ⊎_elim
      (λ e. let g : a.from.address.family ≡ 4 = family ∙ e in below_4 e (rw (g, e) at b))
      (λ e. let g : a.from.address.family ≡ 6 = family ∙ e in below_6 e (rw (g, e) at b))
      used
