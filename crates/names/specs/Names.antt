-- Names, in plain words: a name is a list of labels, each of 1 to 63 octets. Its octets are each label after its length, then a zero
-- octet; they are at most 255 in all.
use Rattle.std.specs.Prelude.{ℕ, ◌≤◌, ◌≡◌, List, [], ◌∷◌, ◌++◌, length, take, drop}
use Rattle.octets.specs.Octets.{Octets}
use Rattle.names.specs.declared.Name.{Name}

pub record IsLabel (l : List ℕ) : Type 0 where
  pub some : 1 ≤ length l
  pub short : length l ≤ 63
  pub octets : Octets l

abbrev pub Labels : Type 0
Labels = List (List ℕ)

abbrev pub AreLabels : Labels → Type 0
AreLabels [] = Unit
AreLabels (l ∷ n) = IsLabel l × AreLabels n

-- the octets of a name
abbrev pub encode : Labels → List ℕ
encode [] = 0 ∷ []
encode (l ∷ n) = length l ∷ (l ++ encode n)

pub record IsName (n : Labels) : Type 0 where
  pub labels : AreLabels n
  pub short : length (encode n) ≤ 255

-- the octets xs stand in s at an offset
abbrev pub Stand : List ℕ → ℕ → List ℕ → Type 0
Stand s at xs = take (length xs) (drop at s) ≡ xs

-- a name without pointers stands in s at an offset, and its octets are len
pub record NameAt (s : List ℕ) (at len : ℕ) : Type 0 where
  pub name : Labels
  pub is_name : IsName name
  pub len_is : len ≡ length (encode name)
  pub octets : Stand s at (encode name)

-- what the reader tells of it: its octets, and as many labels as the name has
pub record PlainReadingAt (s : List ℕ) (at : ℕ) (r : Name) : Type 0 where
  pub name_at : NameAt s at r.len
  pub labels_are : r.labels ≡ length name_at.name
