-- How deep the owner names of a message's answers can be: together at most ANCOUNT times 127 labels, and ANCOUNT times 16 pointers.
use Rattle.std.proofs.Common.{None, Option, Some, ℕ, zero, suc, ◌≡◌, refl, List, [], ◌∷◌, arith, length}
use Rattle.octets.specs.Octets.{Octets}
use Rattle.names.specs.Depth.{Depth}
use Rattle.names.proofs.Depth.{reading_depth}
use Rattle.message.specs.Header.{header_of}
use Rattle.message.specs.declared.ResourceRecord.{ResourceRecord}
use Rattle.message.specs.Records.{record_at, records_from, AreRecords}
use Rattle.message.specs.Owners.{answers_from, NoDeeper}
use Rattle.message.proofs.Records.{reads_a_record}

-- no record, and one more
none_deep : (k : ℕ) → NoDeeper k []
none_deep k = record { labels = omega arith; pointers = omega arith }

one_deeper : (k : ℕ) (r : ResourceRecord) (rs : List ResourceRecord) → Depth r.owner → NoDeeper k rs → NoDeeper (suc k) (r ∷ rs)
one_deeper k r rs d n =
    record { labels = omega (arith, d.name.few, n.labels); pointers = omega (arith, d.few_pointers, n.pointers) }

-- Records that stand one after another: no deeper than so many names can be.
pub records_depth : (s : List ℕ) (at end : ℕ) (rs : List ResourceRecord) → AreRecords s at rs end → NoDeeper (length rs) rs
records_depth s at end [] a = none_deep 0
records_depth s at end (r ∷ rs) a =
    one_deeper (length rs) r rs (reading_depth s at r.owner a.0.owner) (records_depth s r.next end rs a.1)

module _ (s : List ℕ) (o : Octets s) where
  -- The records that a walk passes are no deeper than the names of all those that it was to pass, whether it ends or stops,
  pub walk_depth : (k at : ℕ) → NoDeeper k (records_from k s at)
  unfolding records_from
  walk_depth zero at = none_deep 0
  walk_depth (suc k) at = go (record_at s at) refl (λ r. walk_depth k r.next)
    where
      go : (m : Option ResourceRecord) → record_at s at ≡ m → ((r : ResourceRecord) → NoDeeper k (records_from k s r.next))
          → NoDeeper (suc k) (records_from (suc k) s at)
      go (Some r) e i =
          rw e (one_deeper k r (records_from k s r.next) (reading_depth s at r.owner ((reads_a_record s at r o).0 e).owner) (i r))
      go None e i = rw e (none_deep (suc k))

  -- and so are the answers of a message: ANCOUNT times 127 labels, and ANCOUNT times 16 pointers, at most.
  pub answers_depth : (at : ℕ) → NoDeeper (header_of s).answers (answers_from s at)
  answers_depth at = walk_depth (header_of s).answers at
