-- Laws of a represented host: what is read in it, and what a write leaves.
use Rattle.std.proofs.Common.{◌≡◌, refl, sym, ◌∙◌, ap, ◌≢◌, List, [], ◌∷◌, map, ℕ, zero, suc, ◌<◌, arith, get_or, set, length, replicate, get_or-set_same, get_or-set_other, set-set}
use Rattle.std.proofs.lemmas.List.{length-map, get_or-replicate}
use Rattle.std.proofs.Math.ListN.{get_or-map}
use Rattle.std.proofs.Math.Seq.{set-get_or}
use Rattle.std.proofs.Math.Decide.{dec_lt}
use Rattle.std.proofs.Math.ListN.{get_or-eq_default}
use Rattle.octets.specs.declared.Setting.{Setting}
use Rattle.octets.specs.Bounds.{interfaces}
use Rattle.octets.specs.Addresses.{unused}
use Rattle.name_table.specs.Bounds.{most_names}
use Rattle.host.specs.declared.NameState.{NameState}
use Rattle.host.specs.declared.NameState.TheVariants.{Off}
use Rattle.host.specs.declared.Interface.{Interface}
use Rattle.host.specs.State.{off_name, absent, interface_of, settings_of, state_of, with_clock, with_state}
use Rattle.host.specs.State.{setting_of as setting_in}
use Rattle.host.specs.SetUp.{fresh_host}
use Rattle.host.proofs.Started.{all_four}
use Rattle.uniqueness.specs.Link.{Station, setting_of}
use Rattle.uniqueness.proofs.Obligations.{unstarted, in_use, host_with}

-- the settings of interfaces with all names Off
setting_there : (l : List Setting) (i : ℕ) → (get_or (map unstarted l) i absent).setting ≡ get_or l i unused
setting_there [] i = refl
setting_there (x ∷ l) zero = refl
setting_there (x ∷ l) (suc i) = setting_there l i

module _ (s : Station) (all : length s.settings ≡ interfaces) (used : s.interface < interfaces) (few : s.name < most_names) where
  inside : s.interface < length (map unstarted s.settings)
  inside = let a = length-map s.settings unstarted in omega (arith, a, all, used)

  -- its used interface, and the settings of all
  pub interface_at : (x : NameState) (t : ℕ) → interface_of (host_with s x t) s.interface ≡ in_use s x
  unfolding host_with
  interface_at x t = get_or-set_same (map unstarted s.settings) s.interface (in_use s x) absent inside

  pub setting_at : (x : NameState) (t : ℕ) → setting_in (host_with s x t) s.interface ≡ setting_of s s.interface
  setting_at x t = ap (λ (i : Interface). i.setting) (interface_at x t)

  pub other_at : (x : NameState) (t i : ℕ) → i ≢ s.interface → setting_in (host_with s x t) i ≡ setting_of s i
  unfolding host_with
  other_at x t i ne =
      ap (λ (j : Interface). j.setting) (get_or-set_other (map unstarted s.settings) s.interface i (in_use s x) absent ne)
      ∙ setting_there s.settings i

  pub among_settings : (x : NameState) (t i : ℕ) → get_or (settings_of (host_with s x t).interfaces) i unused ≡ setting_in (host_with s x t) i
  among_settings x t i = get_or-map (λ (j : Interface). j.setting) (host_with s x t).interfaces i absent

  -- the name on it, and every other name
  pub name_at : (x : NameState) → get_or (in_use s x).names s.name off_name ≡ x
  name_at x = get_or-set_same (replicate most_names off_name) s.name x off_name few

  pub name_else : (x : NameState) (k : ℕ) → k ≢ s.name → get_or (in_use s x).names k off_name ≡ off_name
  name_else x k ne = get_or-set_other (replicate most_names off_name) s.name k x off_name ne ∙ go (dec_lt k most_names)
    where
      go : Dec (k < most_names) → get_or (replicate most_names off_name) k off_name ≡ off_name
      go (yes l) = get_or-replicate most_names k off_name off_name l
      go (no g) = get_or-eq_default (replicate most_names off_name) off_name {n = k} (omega arith)

  pub state_at : (x : NameState) (t : ℕ) → state_of (host_with s x t) s.interface s.name ≡ x
  state_at x t =
      ap (λ (i : Interface). (get_or i.names s.name off_name)) (interface_at x t) ∙ (name_at x)

  -- every other name is Off
  pub state_else : (x : NameState) (t k : ℕ) → k ≢ s.name → state_of (host_with s x t) s.interface k ≡ Off
  state_else x t k ne =
      ap (λ (i : Interface). (get_or i.names k off_name)) (interface_at x t) ∙ (name_else x k ne)

  -- a new state of the name is written
  pub write_at : (x y : NameState) (t u : ℕ) → with_state (host_with s x t) s.interface s.name y u ≡ host_with s y u
  unfolding host_with
  write_at x y t u =
      let l : List Interface = map unstarted s.settings in
      let j : Interface = record { setting = setting_of s s.interface; names = set (in_use s x).names s.name y } in
      ap (λ (i : Interface). record { interfaces = set (set l s.interface (in_use s x)) s.interface (record { setting = i.setting; names = set i.names s.name y }); clock = u })
      (interface_at x t)
      ∙ ap (λ (is : List Interface). record { interfaces = is; clock = u })
      (set-set l s.interface (in_use s x) j
      ∙ ap (λ (ns : List NameState). set l s.interface (record { setting = setting_of s s.interface; names = ns }))
      (set-set (replicate most_names off_name) s.name x y))

  -- the clock alone
  pub clock_at : (x : NameState) (t u : ℕ) → with_clock (host_with s x t) u ≡ host_with s x u
  unfolding host_with
  clock_at x t u = refl

  -- set up: nothing but Off everywhere
  pub fresh_is : (t : ℕ) → fresh_host s.settings t ≡ host_with s Off t
  unfolding host_with
  fresh_is t =
      let at : get_or (replicate most_names off_name) s.name off_name ≡ off_name = get_or-replicate most_names s.name off_name off_name few in
      let n : set (replicate most_names off_name) s.name off_name ≡ replicate most_names off_name = ap (λ (x : NameState). set (replicate most_names off_name) s.name x) (sym at) ∙ set-get_or (replicate most_names off_name) s.name off_name in
      let u : in_use s Off ≡ unstarted (setting_of s s.interface) = ap (λ (ns : List NameState). record { setting = setting_of s s.interface; names = ns }) n in
      let g = get_or-map unstarted s.settings s.interface unused in
      let e = set-get_or (map unstarted s.settings) s.interface (unstarted unused) in
      ap (λ (is : List Interface). record { interfaces = is; clock = t })
      (ap (map unstarted) (all_four s.settings all) ∙ sym e ∙ ap (λ (i : Interface). set (map unstarted s.settings) s.interface i) (g ∙ sym u))
