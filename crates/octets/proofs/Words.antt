-- Laws of words.
use Rattle.std.proofs.Common.{ℕ, suc, ◌+◌, ◌/◌, ◌%◌, ◌<◌, ◌≤◌, ◌≡◌, sym, ◌∙◌, List, [], ◌∷◌, ◌++◌, arith, add-zero, add_assoc, add-one, length, take, drop, drop-cons, get_or-drop}
use Rattle.std.proofs.Math.ListN.{get_or-eq_default}
use Rattle.octets.proofs.Octets.{octet_at_lem}
use Rattle.octets.proofs.Splice.{put_there}
use Rattle.octets.specs.Octets.{Octets, octet_at, put}
use Rattle.octets.specs.Words.{big_at, little_at, big_octets, little_octets}

-- the word behind an offset
pub big_drop : (s : List ℕ) (p k : ℕ) → big_at s (p + k) ≡ big_at (drop p s) k
big_drop s p k = rw (add_assoc p k 1, get_or-drop p s k 0, get_or-drop p s (k + 1) 0)

-- a word past the end
module _ (s : List ℕ) (at : ℕ) (h : length s ≤ at) where
  pub big_past : big_at s at ≡ 0
  big_past = let k : length s ≤ at + 1 = omega arith in rw (get_or-eq_default s 0 h, get_or-eq_default s 0 k)

  pub little_past : little_at s at ≡ 0
  little_past = let k : length s ≤ at + 1 = omega arith in rw (get_or-eq_default s 0 h, get_or-eq_default s 0 k)

-- a word that is written reads back the same: at the start of a list, whatever follows
pub big_back : (v : ℕ) (r : List ℕ) → big_at (big_octets v ++ r) 0 ≡ v
big_back v r = omega arith

pub little_back : (v : ℕ) (r : List ℕ) → little_at (little_octets v ++ r) 0 ≡ v
little_back v r = omega arith

-- and where it fits into a buffer
module _ (d : List ℕ) (at v : ℕ) (h : at + 2 ≤ length d) where
  pub put_big_back : big_at (put d at (big_octets v)) at ≡ v
  put_big_back =
      let a = rw (add-zero at) at (put_there d at (big_octets v) h 0 (omega arith)) in
      let b = put_there d at (big_octets v) h 1 (omega arith) in
      omega arith

  pub put_little_back : little_at (put d at (little_octets v)) at ≡ v
  put_little_back =
      let a = rw (add-zero at) at (put_there d at (little_octets v) h 0 (omega arith)) in
      let b = put_there d at (little_octets v) h 1 (omega arith) in
      omega arith

-- a 16-bit word's octets are octets
module _ (v : ℕ) (h : v < 65536) where
  pub big_octets_lem : Octets (big_octets v)
  big_octets_lem = (omega arith, (omega arith, tt))

  pub little_octets_lem : Octets (little_octets v)
  little_octets_lem = (omega arith, (omega arith, tt))

-- a word that is read is written as the octets that stand there, and is one of 16 bits
module _ (s : List ℕ) (at : ℕ) (o : Octets s) where
  pub big_word : big_at s at < 65536
  big_word = omega (arith, octet_at_lem s at o, octet_at_lem s (at + 1) o)

  pub little_word : little_at s at < 65536
  little_word = omega (arith, octet_at_lem s at o, octet_at_lem s (at + 1) o)

  big_two : big_octets (big_at s at) ≡ octet_at s at ∷ octet_at s (at + 1) ∷ []
  big_two =
      let a = octet_at_lem s (at + 1) o in
      let p : big_at s at / 256 ≡ octet_at s at = omega arith in
      let q : big_at s at % 256 ≡ octet_at s (at + 1) = omega arith in
      rw (p, q)

  little_two : little_octets (little_at s at) ≡ octet_at s at ∷ octet_at s (at + 1) ∷ []
  little_two =
      let a = octet_at_lem s at o in
      let p : little_at s at % 256 ≡ octet_at s at = omega arith in
      let q : little_at s at / 256 ≡ octet_at s (at + 1) = omega arith in
      rw (p, q)

  two_there : at + 2 ≤ length s → take 2 (drop at s) ≡ octet_at s at ∷ octet_at s (at + 1) ∷ []
  two_there h =
      let k : at < length s = omega arith in
      let l : suc at < length s = omega arith in
      rw (drop-cons s at 0 k, drop-cons s (suc at) 0 l, add-one)

  pub big_there : at + 2 ≤ length s → big_octets (big_at s at) ≡ take 2 (drop at s)
  big_there h = big_two ∙ sym (two_there h)

  pub little_there : at + 2 ≤ length s → little_octets (little_at s at) ≡ take 2 (drop at s)
  little_there h = little_two ∙ sym (two_there h)
