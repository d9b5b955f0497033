-- Resource records: owner name, type, class, TTL, data length, data; and the walk over some of them, one after another.
use Rattle.std.specs.Prelude.{ℕ, zero, suc, ◌+◌, ◌*◌, ◌<◌, ◌≤◌, ◌≡◌, List, [], ◌∷◌, cond, length, None, Option, Some, Result, Ok, Err}
use Rattle.octets.specs.Octets.{runs_past}
use Rattle.octets.specs.Words.{big_at}
use Rattle.names.specs.declared.RecordName.{RecordName}
use Rattle.names.specs.Readings.{ReadingAt}
use Rattle.names.specs.RecordNameWalk.{record_name_at}
use Rattle.message.specs.Bounds.{fixed_octets}
use Rattle.message.specs.declared.ResourceRecord.{ResourceRecord}

-- the record whose owner name ends at p: type, class, 32-bit TTL and data length stand there, then the data
abbrev pub record_of : List ℕ → RecordName → ℕ → ResourceRecord
record_of s owner p =
    record {
      owner = owner;
      rtype = big_at s p;
      class = big_at s (p + 2);
      ttl = big_at s (p + 4) * 65536 + big_at s (p + 6);
      len = big_at s (p + 8);
      start = p + fixed_octets;
      next = p + fixed_octets + big_at s (p + 8);
    }

abbrev pub after_owner : List ℕ → Option RecordName → Option ResourceRecord
after_owner s (Some n) =
    cond (runs_past (length s) n.next fixed_octets) None
    (cond (runs_past (length s) (n.next + fixed_octets) (big_at s (n.next + 8))) None
    (Some (record_of s n n.next)))
after_owner s None = None

-- the record at an offset; bad if its owner name is, or the ten fixed octets or the data run past the end
unfoldable pub record_at : List ℕ → ℕ → Option ResourceRecord
record_at s at = after_owner s (record_name_at s at)

abbrev pub on_record : Option ResourceRecord → (ResourceRecord → Result ℕ ℕ) → ℕ → Result ℕ ℕ
on_record (Some r) rest at = rest r
on_record None rest at = Err at

-- the walk over so many records from an offset on: the offset after the last, or that of the first bad one
unfoldable pub walk_from : ℕ → List ℕ → ℕ → Result ℕ ℕ
walk_from zero s at = Ok at
walk_from (suc k) s at = on_record (record_at s at) (λ r. walk_from k s r.next) at

abbrev pub on_passed : Option ResourceRecord → (ResourceRecord → List ResourceRecord) → List ResourceRecord
on_passed (Some r) rest = r ∷ rest r
on_passed None rest = []

-- the records that it passes: all of them, or those before the first bad one
unfoldable pub records_from : ℕ → List ℕ → ℕ → List ResourceRecord
records_from zero s at = []
records_from (suc k) s at = on_passed (record_at s at) (λ r. records_from k s r.next)

-- in plain words: a record stands at an offset
pub record IsRecord (s : List ℕ) (at : ℕ) (r : ResourceRecord) : Type 0 where
  pub owner : ReadingAt s at r.owner
  pub rtype : r.rtype ≡ big_at s r.owner.next
  pub class : r.class ≡ big_at s (r.owner.next + 2)
  pub ttl : r.ttl ≡ big_at s (r.owner.next + 4) * 65536 + big_at s (r.owner.next + 6)
  pub len : r.len ≡ big_at s (r.owner.next + 8)
  pub start : r.start ≡ r.owner.next + 10
  pub next : r.next ≡ r.start + r.len
  pub whole : r.next ≤ length s

-- records stand one after another, from an offset up to an end
abbrev pub AreRecords : List ℕ → ℕ → List ResourceRecord → ℕ → Type 0
AreRecords s at [] end = at ≡ end
AreRecords s at (r ∷ rs) end = IsRecord s at r × AreRecords s r.next rs end

-- fewer than k records stand one after another, and after them stands none
pub record StopsAt (s : List ℕ) (at k bad : ℕ) : Type 0 where
  pub records : List ResourceRecord
  pub fewer : length records < k
  pub are : AreRecords s at records bad
  pub none : (r : ResourceRecord) → IsRecord s bad r → ⊥
