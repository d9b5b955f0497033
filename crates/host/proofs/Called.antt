-- The checks 1 to 4: they pass exactly where a call is made well, and each refuses where its condition holds.
use Rattle.std.proofs.Common.{ℕ, ◌<◌, ◌≤◌, ◌≡◌, ap, inl, inr, ⊎_elim, List, Bool, true, false, not, length, ltb, leb, lt-ltb, le-leb}
use Rattle.octets.specs.Bounds.{interfaces, ipv4, ipv6}
use Rattle.octets.specs.Addresses.{is_family}
use Rattle.octets.proofs.Tests.{either, either_number, not_below, not_upto, not_not, neither, not_is}
use Rattle.refusal.specs.Numbers.{Report}
use Rattle.refusal.specs.Checks.{Checks, Verdict, refused, Gives, next, stop, Clear}
use Rattle.name_table.specs.Check.{Held, Checked, bad, check_table, is_bad, bad_at, names_in}
use Rattle.host.specs.Bounds.{room, latest}
use Rattle.host.specs.State.{setting_of}
use Rattle.host.specs.Early.{no_interface, bad_clock, early}
use Rattle.host.specs.ExactlyWhen.{IsUsed, CalledWell}
use Rattle.host.specs.Served.{RefusedFirst, first_room, first_table, first_interface, first_clock}
use Rattle.host.specs.declared.Host.{Host}
use Rattle.host.proofs.Conditions.{good_is}

module _ (h : Host) (table : List ℕ) (i time : ℕ) (out : List ℕ) where
  abbrev used : Bool
  used = is_family (setting_of h i).family

  used_is : (i < interfaces) × IsUsed h i → no_interface i (setting_of h i).family ≡ false
  used_is u = (neither (leb interfaces i) (not used)).1 ((not_upto interfaces i).1 u.0, (not_not _).1 ((either_number _ ipv4 ipv6).1 u.1))

  clock_is : (time ≤ latest) × (h.clock ≤ time) → bad_clock h.clock time ≡ false
  clock_is t = (neither (ltb latest time) (ltb time h.clock)).1 ((not_below latest time).1 t.0, (not_below time h.clock).1 t.1)

  pub called_is : (rest : Checks) → Clear (early h table i time out rest) → CalledWell h table i time out (names_in (check_table table))
  called_is rest c =
      let u = (neither (leb interfaces i) (not used)).0 c.1.1.0 in
      let t = (neither (ltb latest time) (ltb time h.clock)).0 c.1.1.1.0 in
      record {
        room = (not_below (length out) room).0 c.0;
        good_table = good_is (check_table table) c.1.0;
        interface = (not_upto interfaces i).0 u.0;
        used = (either_number _ ipv4 ipv6).0 ((not_not _).0 u.1);
        latest = (not_below latest time).0 t.0;
        in_order = (not_below time h.clock).0 t.1;
      }

  pub called_clear : (names : List Held) (rest : Checks) → CalledWell h table i time out names → Clear rest → Clear (early h table i time out rest)
  called_clear names rest w c = (
    (not_below (length out) room).1 w.room,
    (
      ap is_bad w.good_table,
      (
        used_is (w.interface, w.used),
        (
          clock_is (w.latest, w.in_order),
          c,
        ),
      ),
    ),
  )

  -- the checks that follow decide
  pub called_gives : (names : List Held) → CalledWell h table i time out names → {rest : Checks} {v : Verdict}
      → Gives rest v → Gives (early h table i time out rest) v
  called_gives names w g =
      next ((not_below (length out) room).1 w.room)
      (next (ap is_bad w.good_table)
      (next (used_is (w.interface, w.used))
      (next (clock_is (w.latest, w.in_order)) g)))

  refused_table : (at : ℕ) (c : Checked) → c ≡ bad at → (is_bad c ≡ true) × (bad_at c ≡ at)
  refused_table at c e = (ap is_bad e, ap bad_at e)

  -- and before them each of the four, in order
  pub first_gives : {t : Report} (rest : Checks) → RefusedFirst h table i time out t → Gives (early h table i time out rest) (refused t)
  first_gives rest (first_room l) = stop (lt-ltb _ _ l)
  first_gives rest (first_table at r e) =
      let b = refused_table at (check_table table) e in
      rw (← b.1) (next ((not_below (length out) room).1 r) (stop b.0))
  first_gives rest (first_interface names r e n) =
      next ((not_below (length out) room).1 r)
      (next (ap is_bad e)
      (stop
      ((either (leb interfaces i) (not used)).1
      (⊎_elim (λ l. inl (le-leb _ _ l)) (λ u. inr (ap not ((not_is used (either_number _ ipv4 ipv6)).1 u))) n))))
  first_gives rest (first_clock names r e l u n) =
      next ((not_below (length out) room).1 r)
      (next (ap is_bad e)
      (next (used_is (l, u))
      (stop ((either (ltb latest time) (ltb time h.clock)).1 (⊎_elim (λ x. inl (lt-ltb _ _ x)) (λ x. inr (lt-ltb _ _ x)) n)))))
