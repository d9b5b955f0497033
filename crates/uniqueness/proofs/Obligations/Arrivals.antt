-- A datagram with a question for the name arrives at a station.
use Rattle.std.proofs.Common.{ℕ, ◌≤◌, ◌<◌, ◌≡◌, sym, ◌∙◌, ap, Bool, false, List, get_or, ne_eqb}
use Rattle.std.proofs.Math.Decide.{ℕ_discrete}
use Rattle.octets.specs.Bounds.{interfaces}
use Rattle.octets.specs.declared.Address.{Address}
use Rattle.octets.specs.declared.Setting.{Setting}
use Rattle.octets.specs.Addresses.{is_family, same_address, has_address, unused}
use Rattle.octets.specs.Addresses.{address_of as address_in}
use Rattle.octets.specs.Tests.{◌and◌}
use Rattle.octets.proofs.Tests.{split, never, cond_same}
use Rattle.octets.proofs.Addresses.{ours}
use Rattle.name_table.specs.Check.{find_name}
use Rattle.message.specs.declared.Header.{Header}
use Rattle.host.specs.declared.NameState.{NameState}
use Rattle.host.specs.declared.Host.{Host}
use Rattle.host.specs.State.{settings_of, is_own}
use Rattle.host.specs.State.{setting_of as setting_in}
use Rattle.host.specs.Receive.{Arrival}
use Rattle.host.specs.ExactlyWhen.{ArrivesWell, AsksFor, state_here}
use Rattle.uniqueness.specs.Link.{Station, setting_of, Link, Receipt, SameName, OnLink, Conditions}
use Rattle.uniqueness.proofs.Obligations.{top, host_with, address, own, arrival}
use Rattle.uniqueness.proofs.Obligations.HostWith.{other_at, among_settings, state_at}
use Rattle.uniqueness.proofs.Obligations.Stations.{held, few_is, finds_it}
use Rattle.uniqueness.proofs.Obligations.Called.{setting_is, called_well}
use Rattle.uniqueness.proofs.Obligations.Messages.{asks, Reading}

module _ (L : Link) (c : Conditions L) (s : Station) (o : OnLink L s) where
  -- ---- addresses

  pub own_is : (x : NameState) (clock : ℕ) → address_in (setting_in (host_with s x clock) s.interface) ≡ own L s
  own_is x clock =
      ap address_in (setting_is L s o x clock)
      ∙ ap (λ (f : ℕ). record { family = f; octets = (setting_of s s.interface).address }) o.family

  family_is : (x : NameState) (clock : ℕ) → (setting_in (host_with s x clock) s.interface).family ≡ L.family
  family_is x clock = ap (λ (i : Setting). i.family) (setting_is L s o x clock) ∙ o.family

  -- an address that differs from the station's own is none of its addresses
  none_of_ours : (x : NameState) (clock : ℕ) (a : Address) → same_address a (own L s) ≡ false
      → (i : ℕ) → i < interfaces → has_address (get_or (settings_of (host_with s x clock).interfaces) i unused) a ≡ false
  unfolding has_address
  none_of_ours x clock a e i l = among_is (ℕ_discrete i s.interface)
    where
      there : get_or (settings_of (host_with s x clock).interfaces) i unused ≡ setting_in (host_with s x clock) i
      there = among_settings s o.four o.used (few_is L s o) x clock i

      among_is : Dec (i ≡ s.interface) → (is_family (get_or (settings_of (host_with s x clock).interfaces) i unused).family and same_address a (address_in (get_or (settings_of (host_with s x clock).interfaces) i unused))) ≡ false
      among_is (yes q) =
          ap (λ (j : Setting). is_family j.family and same_address a (address_in j)) (there ∙ ap (setting_in (host_with s x clock)) q)
          ∙ ap (λ (b : Bool). is_family (setting_in (host_with s x clock) s.interface).family and b) (ap (same_address a) (own_is x clock) ∙ e)
          ∙ cond_same (is_family (setting_in (host_with s x clock) s.interface).family) false
      among_is (no q) =
          let u = o.unused i l q in
          ap (λ (j : Setting). is_family j.family and same_address a (address_in j))
          (there ∙ other_at s o.four o.used (few_is L s o) x clock i q)
          ∙ rw (ne_eqb _ _ u.0, ne_eqb _ _ u.1)

  pub not_from_us : (x : NameState) (clock : ℕ) (a : List ℕ) → same_address (address L a) (own L s) ≡ false
      → is_own (host_with s x clock) (address L a) ≡ false
  not_from_us x clock a e =
      split (is_own (host_with s x clock) (address L a))
      (λ p. let r = (ours (settings_of (host_with s x clock).interfaces) (address L a)).0 p in never r.2 (none_of_ours x clock (address L a) e r.0 r.1))
      (λ p. p)

  -- ---- a datagram b with a question for the name arrives

  module _ (x : NameState) (clock t : ℕ) (f : clock ≤ t) (g : t ≤ top) (y : List ℕ) (w : SameName y L.name) (to : Address) (b a : List ℕ) (v : Receipt) where
    abbrev host : Host
    host = host_with s x clock

    abbrev here : Arrival
    here = arrival L s t to b a v

    pub state_is : state_here host here s.name ≡ x
    state_is = state_at s o.four o.used (few_is L s o) x clock

    module _ (hd : Header) (rd : Reading b y hd) where
      pub asks_for : AsksFor here (held L s o) (asks y) s.name
      asks_for = ap (find_name (held L s o)) rd.name ∙ finds_it L s o y w

      pub arrives : to.family ≡ L.family → hd.opcode ≡ 0 → hd.questions ≡ 1 → ArrivesWell host here (held L s o) (asks y)
      arrives e p q =
          record {
            called = called_well L s o c x clock t v.lent.out v.lent.room f g;
            shortest = rd.shortest;
            longest = rd.longest;
            from_family = sym (family_is x clock);
            to_family = e ∙ sym (family_is x clock);
            opcode = ap (λ (z : Header). z.opcode) rd.header ∙ p;
            one_question = ap (λ (z : Header). z.questions) rd.header ∙ q;
            question = rd.question;
          }
