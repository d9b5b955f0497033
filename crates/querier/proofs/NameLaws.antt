-- The octets of a name after its labels, one by one.
use Rattle.std.proofs.Common.{ℕ, zero, suc, ◌+◌, ◌-◌, ◌<◌, ◌≡◌, List, drop, arith}
use Rattle.octets.specs.Octets.{octet_at}
use Rattle.lookup.specs.SeveralLabels.{after_labels}

pub after_one : (left : ℕ) (s : List ℕ) → 0 < left → after_labels left s ≡ after_labels (left - 1) (drop (1 + octet_at s 0) s)
unfolding after_labels
after_one zero s h = absurd (omega (arith, h))
after_one (suc k) s h = let e : suc k - 1 ≡ k = omega arith in rw e
