-- The calls of a station are made well on its used interface, and refused with 3 on any other; and its query goes out.
use Rattle.std.proofs.Common.{ℕ, ◌+◌, ◌≤◌, ◌<◌, ◌≡◌, sym, ◌∙◌, ap, subst, ◌≢◌, ◌⊎◌, inl, inr, ⊎_elim, List, arith, get_or, length, take}
use Rattle.std.proofs.Math.Decide.{dec_lt}
use Rattle.octets.specs.Bounds.{interfaces, ipv4, ipv6}
use Rattle.octets.specs.Octets.{put}
use Rattle.octets.specs.declared.Setting.{Setting}
use Rattle.octets.specs.Addresses.{group_endpoint}
use Rattle.refusal.specs.Numbers.{number}
use Rattle.name_table.specs.Check.{Held, no_name, names_in, name_in}
use Rattle.host.specs.declared.NameState.{NameState}
use Rattle.host.specs.declared.Host.{Host}
use Rattle.host.specs.Bounds.{room as room_octets}
use Rattle.host.specs.State.{timer_from}
use Rattle.host.specs.State.{setting_of as setting_in}
use Rattle.host.specs.Outcomes.{Done, query}
use Rattle.host.specs.Asking.{check_query}
use Rattle.host.specs.ExactlyWhen.{IsUsed, CalledWell}
use Rattle.host.specs.Served.{RefusedFirst, first_interface}
use Rattle.host.proofs.Sent.{check_sent}
use Rattle.uniqueness.specs.Link.{Station, setting_of, Link, OnLink, Conditions}
use Rattle.uniqueness.proofs.Obligations.{top, host_with, Asked}
use Rattle.uniqueness.proofs.Obligations.HostWith.{setting_at, other_at}
use Rattle.uniqueness.proofs.Obligations.Stations.{held, few_is, used_family, timer_is}

module _ (L : Link) (s : Station) (o : OnLink L s) where
  pub setting_is : (x : NameState) (t : ℕ) → setting_in (host_with s x t) s.interface ≡ setting_of s s.interface
  setting_is = setting_at s o.four o.used (few_is L s o)

  -- the name as in the table
  pub name_is : name_in s.table s.name ≡ get_or (held L s o) s.name no_name
  name_is = ap (λ (hs : List Held). get_or hs s.name no_name) (ap names_in o.unique.read)

  spelled : (name_in s.table s.name).octets ≡ o.spelling
  spelled = ap (λ (n : Held). n.octets) name_is ∙ o.unique.is

  pub unused_refused : (x : NameState) (clock i t : ℕ) (out : List ℕ) → room_octets ≤ length out → i ≢ s.interface
      → RefusedFirst (host_with s x clock) s.table i t out (number 3)
  unused_refused x clock i t out room ne = first_interface (held L s o) room o.unique.read (go (dec_lt i interfaces))
    where
      go : Dec (i < interfaces) → (interfaces ≤ i) ⊎ (IsUsed (host_with s x clock) i → ⊥)
      go (no n) = inl (omega arith)
      go (yes l) =
          let u = o.unused i l ne in
          let e = ap (λ (j : Setting). j.family) (other_at s o.four o.used (few_is L s o) x clock i ne) in
          inr (⊎_elim (λ p. u.0 (sym e ∙ p)) (λ p. u.1 (sym e ∙ p)))

  module _ (c : Conditions L) where
    pub called_well : (x : NameState) (clock t : ℕ) (out : List ℕ) → room_octets ≤ length out → clock ≤ t → t ≤ top
        → CalledWell (host_with s x clock) s.table s.interface t out (held L s o)
    unfolding host_with
    called_well x clock t out room f g =
        record {
          room = room;
          good_table = o.unique.read;
          interface = o.used;
          used = subst (λ (j : Setting). (j.family ≡ ipv4) ⊎ (j.family ≡ ipv6)) (sym (setting_is x clock)) (used_family L s o c);
          latest = g;
          in_order = f;
        }

    pub timer_from_lem : (x : NameState) (clock t : ℕ) → timer_from (setting_in (host_with s x clock) s.interface) t ≡ record { due = t + L.interval }
    timer_from_lem x clock t =
        ap (λ (i : Setting). timer_from i t) (setting_is x clock) ∙ ap (λ (n : ℕ). record { due = t + n }) (timer_is L s o c)

    -- a query of its check goes out
    pub goes_out : (x : NameState) (clock id : ℕ) (h : Host) (out : List ℕ) (d : Done) → room_octets ≤ length out
        → d.host ≡ h
        → d.result ≡ query s.name (length (check_query id (name_in s.table s.name).octets))
        → d.to ≡ group_endpoint (setting_in (host_with s x clock) s.interface).family
        → d.octets ≡ put out 0 (check_query id (name_in s.table s.name).octets)
        → Asked L o.spelling id h d
    unfolding group_endpoint
    goes_out x clock id h out d room is result to octets =
        let q : List ℕ = check_query id (name_in s.table s.name).octets in
        record {
          host = is;
          name = s.name;
          len = length q;
          outcome = result;
          to = to ∙ ap group_endpoint (ap (λ (j : Setting). j.family) (setting_is x clock) ∙ o.family);
          octets =
              ap (take (length q)) octets
              ∙ (check_sent s.table (held L s o) s.name id out o.table_fits o.unique.read o.unique.inside room).0
              ∙ ap (check_query id) spelled;
        }
