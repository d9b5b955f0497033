-- When exactly a start is refused with 22; and that the permission lets names of several labels by, and changes nothing else.
use Rattle.std.proofs.Common.{ℕ, ◌≡◌, refl, ◌↔◌, ◌⊎◌, inl, inr, List, Bool, true, false, arith, length, get_or, ltb}
use mathlib.Core.Logic.Iff
use Rattle.octets.specs.Octets.{Octets}
use Rattle.octets.specs.Addresses.{unused}
use Rattle.octets.specs.declared.Setting.{Setting}
use Rattle.octets.proofs.Tests.{split, never, not_is}
use Rattle.refusal.specs.Numbers.{number}
use Rattle.refusal.specs.Checks.{verdict}
use Rattle.refusal.specs.Cases.{First}
use Rattle.names.specs.NameWalk.{labels_of, name_at}
use Rattle.host.specs.Bounds.{latest}
use Rattle.host.specs.Early.{no_room, no_interface}
use Rattle.lookup.specs.Outcomes.{refused, Done}
use Rattle.lookup.specs.SeveralLabels.{several_labels}
use Rattle.lookup.specs.Start.{bad_name, start}
use Rattle.lookup.specs.Refusals.{IsUnused, start_cases}
use Rattle.lookup.specs.ExactlyWhen.{IsUsed, BarredWhen}
use Rattle.lookup.proofs.SeveralLabels.{barred_never}
use Rattle.lookup.proofs.Conditions.{unused_is, used_is}
use Rattle.lookup.proofs.Refusals.{start_refused_exactly}

-- a used interface is one that is not unused
used_not : (i : ℕ) (s : Setting) → (IsUnused i s → ⊥) → IsUsed i s
used_not i s f = (used_is i s).0 ((not_is _ (unused_is i s)).1 f)

not_used : (i : ℕ) (s : Setting) → IsUsed i s → IsUnused i s → ⊥
not_used i s u = (not_is _ (unused_is i s)).0 ((used_is i s).1 u)

module _ (settings : List Setting) (i : ℕ) (name : List ℕ) (qtype : ℕ) (permission : Bool) (time id : ℕ) (out : List ℕ) where
  -- the number 22 stands last in the list
  barred_last : First (number 22) (start_cases settings i name permission time out) ↔ BarredWhen settings i name permission time out
  barred_last = (to, from)
    where
      other : {k : ℕ} → number 22 ≡ number k → 22 ≡ k
      other x = cc

      to : First (number 22) (start_cases settings i name permission time out) → BarredWhen settings i name permission time out
      to (inl x) = let z = other x.0 in absurd (omega arith)
      to (inr (a, inl x)) = let z = other x.0 in absurd (omega arith)
      to (inr (a, inr (b, inl x))) = let z = other x.0 in absurd (omega arith)
      to (inr (a, inr (b, inr (c, inl x)))) = let z = other x.0 in absurd (omega arith)
      to (inr (a, inr (b, inr (c, inr (d, inl x))))) =
          record {
            room = omega (arith, a);
            used = used_not i (get_or settings i unused) b;
            latest = omega (arith, c);
            name_is = x.1.0;
            several = x.1.1;
          }
      to (inr (a, inr (b, inr (c, inr (d, inr (f, x)))))) = absurd x

      from : BarredWhen settings i name permission time out → First (number 22) (start_cases settings i name permission time out)
      from w =
          inr (
            λ h. omega (arith, w.room),
            inr (
              not_used i (get_or settings i unused) w.used,
              inr (
                λ h. omega (arith, w.latest),
                inr (
                  λ h. h w.name_is,
                  inl (refl, (w.name_is, w.several)),
                ),
              ),
            ),
          )

  -- 22 exactly then.
  pub barred_exactly : Octets name → ((start settings i name qtype permission time id out).result ≡ refused (number 22)) ↔ BarredWhen settings i name permission time out
  barred_exactly o = Iff.trans (start_refused_exactly settings i name qtype permission time id out o (number 22)) barred_last

module _ (settings : List Setting) (i : ℕ) (name : List ℕ) (qtype time id : ℕ) (out : List ℕ) where
  abbrev without : Done
  without = start settings i name qtype false time id out

  abbrev with_it : Done
  with_it = start settings i name qtype true time id out

  -- A start without the permission is refused with 22, or gives what it gives with it.
  pub permission_only : (without.result ≡ refused (number 22)) ⊎ (without ≡ with_it)
  unfolding start verdict
  permission_only =
      split (no_room (length out)) (λ a. inr (rw a)) λ a.
      split (no_interface i (get_or settings i unused).family) (λ b. inr (rw (a, b))) λ b.
      split (ltb latest time) (λ c. inr (rw (a, b, c))) λ c.
      split (bad_name name (name_at name 0)) (λ d. inr (rw (a, b, c, d))) λ d.
      split (several_labels false name (labels_of (name_at name 0)))
      (λ e. inl (rw (a, b, c, d, e)))
      (λ e. inr (rw (a, b, c, d, e, barred_never name (labels_of (name_at name 0)))))

  -- With it a start is never refused with 22.
  pub never_barred : Octets name → with_it.result ≡ refused (number 22) → ⊥
  never_barred o e = never refl ((barred_exactly settings i name qtype true time id out o).0 e).several.no_permission
