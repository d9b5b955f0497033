-- How long a name that a response has taken is not tried again (RFC 4795 section 4.2): the TTL of the response's first answer
-- record, or 30 s if it has none, or one that is bad as in 18. No other record is read. That the plain words below say the same, both ways, is
-- shown in proofs/Stopping.antt.
use Rattle.std.specs.Prelude.{ℕ, ◌+◌, ◌*◌, ◌<◌, ◌≤◌, ◌≡◌, ◌≢◌, List, cond, ltb, eqb, None, Option, Some}
use Rattle.message.specs.Bounds.{top_bit}
use Rattle.message.specs.declared.ResourceRecord.{ResourceRecord}
use Rattle.message.specs.Records.{record_at, IsRecord}
use Rattle.host.specs.Bounds.{second, rest_without}

-- the first of so many answers, which stands at an offset of a message; where there are none it counts as a bad one
abbrev pub first_answer : ℕ → List ℕ → ℕ → Option ResourceRecord
first_answer answers s at = cond (eqb answers 0) None (record_at s at)

-- how long, in milliseconds: the TTL of the record, where one with its top bit set counts as 0; 30 s where the record is bad
abbrev pub rest_by : Option ResourceRecord → ℕ
rest_by (Some r) = cond (ltb r.ttl top_bit) (r.ttl * second) 0
rest_by None = rest_without

-- until when: of the time of the response, its ANCOUNT, its octets, and where its question ends. The sum may pass the clock's range.
unfoldable pub stopped_until : ℕ → ℕ → List ℕ → ℕ → ℕ
stopped_until time answers s at = time + rest_by (first_answer answers s at)

-- in plain words: until so long after the time of the response
pub data StopsUntil (time answers : ℕ) (s : List ℕ) (at : ℕ) : ℕ → Type 0 where
  -- a record stands where the first answer begins: its TTL in seconds; with the top bit set that is 0
  by_ttl : (r : ResourceRecord) → answers ≢ 0 → IsRecord s at r → r.ttl < 2147483648 → StopsUntil time answers s at (time + r.ttl * 1000)
  top_bit_set : (r : ResourceRecord) → answers ≢ 0 → IsRecord s at r → 2147483648 ≤ r.ttl → StopsUntil time answers s at time
  -- there is no answer, or no record stands there: 30 s
  no_answer : answers ≡ 0 → StopsUntil time answers s at (time + 30000)
  bad_answer : ((r : ResourceRecord) → IsRecord s at r → ⊥) → StopsUntil time answers s at (time + 30000)
