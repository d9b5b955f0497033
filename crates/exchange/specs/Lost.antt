-- A reply of a host of ours arrives at another host of ours, and takes a name from it: how long that one leaves the name alone.
use Rattle.std.specs.Prelude.{ℕ, ◌+◌, ◌*◌, ◌≡◌, take}
use Rattle.octets.specs.Octets.{Octets}
use Rattle.name_table.specs.Entries.{GoodTable}
use Rattle.host.specs.State.{with_state}
use Rattle.host.specs.Outcomes.{Done, reply, silent, stopped}
use Rattle.host.specs.Receive.{Arrival, receive}
use Rattle.host.specs.ExactlyWhen.{RepliesWhen, StopsWhen}
use Rattle.host.specs.declared.NameState.TheVariants.{Stopped}
use Rattle.host.specs.declared.Host.{Host}

-- The host h replies to the query that arrives as a: its table is good. Table and query consist of octets.
pub record Tells (h : Host) (a : Arrival) : Type 0 where
  pub replies : RepliesWhen h a
  pub octets : Octets a.datagram
  pub table : GoodTable a.table
  pub table_octets : Octets a.table

-- Its reply of so many octets arrives as b at the host g, and stops the k-th name there: host/specs/ExactlyWhen.antt says when.
pub record LosesTo (h : Host) (a : Arrival) (g : Host) (b : Arrival) (k : ℕ) : Type 0 where
  pub tells : Tells h a
  pub len : ℕ
  pub reply_is : (receive h a).result ≡ reply len
  pub datagram : b.datagram ≡ take len (receive h a).octets
  pub octets : Octets b.datagram
  pub stops : StopsWhen g b k

-- The name is left alone for 30 seconds, whatever the table of the host that replied holds for it: what we write has TTL 30.
abbrev pub LeftFor30 : Host → Arrival → ℕ → Done → Type 0
LeftFor30 g b k d =
    d ≡ silent (with_state g b.interface k (Stopped (b.time + 30 * 1000)) b.time) b.out (stopped k)
