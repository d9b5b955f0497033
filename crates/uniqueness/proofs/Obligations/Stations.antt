-- What the conditions say of a station: its table and its name, from the laws of tables; its settings, from the law of a set-up that is
-- ready.
use Rattle.std.proofs.Common.{Some, ℕ, ◌≤◌, ◌<◌, ◌≡◌, sym, ◌∙◌, ap, subst, false, ◌⊎◌, ⊎_elim, List, arith}
use Rattle.octets.specs.Bounds.{ipv4, ipv6}
use Rattle.octets.specs.Addresses.{is_group}
use Rattle.names.proofs.Names.{same_labels}
use Rattle.names.specs.Folding.{folded_name}
use Rattle.name_table.specs.Bounds.{most_names}
use Rattle.name_table.specs.Check.{Held, find_name}
use Rattle.name_table.proofs.Held.{few_held, found_by}
use Rattle.host.specs.Bounds.{short, long}
use Rattle.host.specs.State.{interval_of}
use Rattle.host.specs.Outcomes.{Done}
use Rattle.host.specs.SetUp.{fresh_host, set_up}
use Rattle.host.specs.Served.{SettingIsGood, ReadyWhen}
use Rattle.host.proofs.Started.{sets_up, ready_exactly}
use Rattle.uniqueness.specs.Link.{Station, setting_of, Link, SameName, OnLink, Conditions}
use Rattle.uniqueness.proofs.Obligations.{top, own}

module _ (L : Link) (s : Station) (o : OnLink L s) where
  -- ---- its table

  abbrev pub held : List Held
  held = o.unique.names

  pub few_is : s.name < most_names
  few_is = omega (arith, few_held s.table held o.table_fits o.unique.read, o.unique.inside)

  -- the name is found by every spelling of it
  pub finds_it : (y : List ℕ) → SameName y L.name → find_name held y ≡ Some s.name
  finds_it y w =
      let p : o.same.second ≡ w.second =
      same_labels _ _ o.same.second_name.labels w.second_name.labels (sym o.same.second_octets ∙ w.second_octets) in
      ap (find_name held) w.first_octets
      ∙ found_by s.table held o.table_fits o.unique.read s.name o.unique.inside w.first o.same.first w.first_name o.same.first_name
      (o.unique.is ∙ o.same.first_octets) (o.same.equal ∙ ap folded_name p ∙ sym w.equal)

  -- ---- its set-up

  is_ready : ReadyWhen s.table s.settings s.time
  is_ready = (ready_exactly s.table s.settings s.time s.id).0 o.ready

  pub time_fits : s.time ≤ top
  time_fits = is_ready.latest

  pub set_up_host : (set_up s.table s.settings s.time s.id).host ≡ fresh_host s.settings s.time
  set_up_host = ap (λ (d : Done). d.host) (sets_up s.table s.settings s.time s.id is_ready)

  module _ (c : Conditions L) where
    pub used_family : ((setting_of s s.interface).family ≡ ipv4) ⊎ ((setting_of s s.interface).family ≡ ipv6)
    used_family = subst (λ (f : ℕ). (f ≡ ipv4) ⊎ (f ≡ ipv6)) (sym o.family) c.family

    setting_good : SettingIsGood (setting_of s s.interface)
    setting_good = is_ready.settings_good s.interface o.used used_family

    pub not_group : is_group (own L s) ≡ false
    not_group =
        ap (λ (f : ℕ). is_group (record { family = f; octets = (setting_of s s.interface).address })) (sym o.family) ∙ setting_good.not_group

    pub interval_is : (L.interval ≡ short) ⊎ (L.interval ≡ long)
    interval_is = subst (λ (n : ℕ). (n ≡ short) ⊎ (n ≡ long)) o.interval setting_good.interval

    pub timer_is : interval_of (setting_of s s.interface) ≡ L.interval
    timer_is = rw o.interval (⊎_elim (λ e. rw e) (λ e. rw e) interval_is)
