-- A query of ours: what it asks for, and that it goes to the group. Start, tick and receive send one.
use Rattle.std.specs.Prelude.{ℕ, List, length}
use Rattle.octets.specs.Octets.{put}
use Rattle.octets.specs.Addresses.{group_endpoint}
use Rattle.octets.specs.declared.Setting.{Setting}
use Rattle.message.specs.Bounds.{class_in, type_any}
use Rattle.message.specs.Question.{question_octets}
use Rattle.message.specs.Query.{query_octets}
use Rattle.host.specs.Outcomes.{Done, query}
use Rattle.host.specs.declared.Host.{Host}

-- the query of a check: an ID, flags 0, a name as in the table, type 255, class 1
abbrev pub check_query : ℕ → List ℕ → List ℕ
check_query id name = query_octets id 0 (question_octets name type_any class_in)

-- a query for the k-th name goes out to the group of the interface's family
abbrev pub asking : Host → Setting → ℕ → List ℕ → List ℕ → Done
asking h s k octets out =
    record { host = h; result = query k (length octets); to = group_endpoint s.family; octets = put out 0 octets }
