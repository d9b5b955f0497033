-- Names of several labels, by computation: which a start without permission refuses with 22, and which it asks for.
use Rattle.std.proofs.Common.{ℕ, ◌≡◌, refl, List, [], ◌∷◌, ◌++◌, Bool, true, false, replicate}
use Rattle.refusal.specs.Numbers.{number}
use Rattle.refusal.specs.Checks.{Verdict, refused, passed, verdict}
use Rattle.names.specs.Names.{Labels, encode}
use Rattle.names.specs.Folding.{folded, same_name}
use Rattle.names.specs.NameWalk.{name_from, name_at}
use Rattle.lookup.specs.SeveralLabels.{after_labels, is_reverse}
use Rattle.lookup.specs.Start.{name_checks}
use Rattle.lookup.specs.Refusals.{in_addr, ip6, arpa}

-- what the checks 10 and 22 say of octets, with permission or without
abbrev judged : Bool → List ℕ → Verdict
judged permission octets = verdict (name_checks permission octets (name_at octets 0))

abbrev Passes : Labels → Type 0
Passes name = judged false (encode name) ≡ passed

abbrev IsBarred : Labels → Type 0
IsBarred name = judged false (encode name) ≡ refused (number 22)

-- the labels a and b, and 1 to 4
abbrev a : List ℕ
a = 0x61 ∷ []

abbrev b : List ℕ
b = 0x62 ∷ []

abbrev digits : Labels
digits = (0x34 ∷ []) ∷ (0x33 ∷ []) ∷ (0x32 ∷ []) ∷ (0x31 ∷ []) ∷ []

-- X.IP6.ARPA
abbrev upper : Labels
upper = (0x58 ∷ []) ∷ (0x49 ∷ 0x50 ∷ 0x36 ∷ []) ∷ (0x41 ∷ 0x52 ∷ 0x50 ∷ 0x41 ∷ []) ∷ []

-- a label that ends in the octets of ip6.arpa, each label with its length
abbrev holding : List ℕ
holding = 0x78 ∷ 3 ∷ ip6 ++ (4 ∷ arpa)

pub record Examples : Type 0 where
  pub one : Passes (a ∷ [])
  pub two : IsBarred (a ∷ b ∷ [])
  pub permitted : judged true (encode (a ∷ b ∷ [])) ≡ passed
  pub most : IsBarred (replicate 127 a)
  pub most_permitted : judged true (encode (replicate 127 a)) ≡ passed
  -- 4.3.2.1.in-addr.arpa
  pub address : Passes (digits ++ (in_addr ∷ arpa ∷ []))
  pub capitals : Passes upper
  -- nothing before the two labels
  pub in_addr_alone : IsBarred (in_addr ∷ arpa ∷ [])
  pub ip6_alone : IsBarred (ip6 ∷ arpa ∷ [])
  -- a.xip6.arpa, a.ip6.arpa.b, and a.a and a label that holds the octets of ip6.arpa
  pub longer_label : IsBarred (a ∷ (0x78 ∷ ip6) ∷ arpa ∷ [])
  pub label_after : IsBarred (a ∷ ip6 ∷ arpa ∷ b ∷ [])
  pub in_one_label : IsBarred (a ∷ a ∷ holding ∷ [])
  -- octets left over, and the root: 10 comes before 22
  pub left_over : judged false (encode (a ∷ b ∷ []) ++ (0 ∷ [])) ≡ refused (number 10)
  pub root : judged true (encode []) ≡ refused (number 10)

pub examples : Examples
unfolding verdict name_from is_reverse after_labels same_name folded
examples =
    record {
      one = refl;
      two = refl;
      permitted = refl;
      most = refl;
      most_permitted = refl;
      address = refl;
      capitals = refl;
      in_addr_alone = refl;
      ip6_alone = refl;
      longer_label = refl;
      label_after = refl;
      in_one_label = refl;
      left_over = refl;
      root = refl;
    }
