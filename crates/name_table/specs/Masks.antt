-- Masks, the bodies of kind 6: bit 0 stands for interface 0, bit 1 for interface 1, bit 2 for interface 2, bit 3 for interface 3.
use Rattle.std.specs.Prelude.{ℕ, ◌+◌, ◌*◌, ◌/◌, ◌%◌, ◌<◌, ◌≡◌, Bool, false, cond, ◌⊎◌, leb, eqb}
use Rattle.octets.specs.Tests.{◌and◌}
use Rattle.name_table.specs.Bounds.{everywhere}

-- a mask that a table may hold: neither 0 nor above 15
unfoldable pub is_mask : ℕ → Bool
is_mask m = leb 1 m and leb m everywhere

abbrev pub is_odd : ℕ → Bool
is_odd n = eqb (n % 2) 1

-- a record with this mask is valid on interface i: the mask has the interface's bit
unfoldable pub is_valid : ℕ → ℕ → Bool
is_valid m i =
    cond (eqb i 0) (is_odd m)
    (cond (eqb i 1) (is_odd (m / 2))
    (cond (eqb i 2) (is_odd (m / 4))
    (cond (eqb i 3) (is_odd (m / 8))
    false)))

-- In plain words: m has the bit that counts b. It is what stands below that bit, the bit, and so many times twice the bit.
pub record HasBit (b m : ℕ) : Type 0 where
  pub below : ℕ
  pub above : ℕ
  pub less : below < b
  pub sum : m ≡ below + b + (b + b) * above

-- the bit of interface 0 counts 1, that of interface 1 counts 2, of interface 2 4, of interface 3 8; no other interface has one
abbrev pub Valid : ℕ → ℕ → Type 0
Valid m i = ((i ≡ 0) × HasBit 1 m) ⊎ (((i ≡ 1) × HasBit 2 m) ⊎ (((i ≡ 2) × HasBit 4 m) ⊎ ((i ≡ 3) × HasBit 8 m)))
