-- A call of a host after set-up, with all that it is given: a start, a datagram or a tick. It is made by the definition that the
-- contract of the function cites.
use Rattle.std.specs.Prelude.{ℕ, List}
use Rattle.host.specs.Outcomes.{Done}
use Rattle.host.specs.Start.{start}
use Rattle.host.specs.Receive.{Arrival, receive}
use Rattle.host.specs.Tick.{tick}
use Rattle.host.specs.declared.Host.{Host}

pub data Call : Type 0 where
  -- table, interface, name number, time, ID, buffer
  starts : List ℕ → ℕ → ℕ → ℕ → ℕ → List ℕ → Call
  -- table, interface, addresses, datagram, time, ID, buffer
  receives : Arrival → Call
  -- table, interface, time, ID, buffer
  ticks : List ℕ → ℕ → ℕ → ℕ → List ℕ → Call

abbrev pub made : Call → Host → Done
made (starts table i k time id out) h = start h table i k time id out
made (receives a) h = receive h a
made (ticks table i time id out) h = tick h table i time id out

-- the interface, the time and the buffer that a call is given; any numbers, and any octets
abbrev pub interface_in : Call → ℕ
interface_in (starts table i k time id out) = i
interface_in (receives a) = a.interface
interface_in (ticks table i time id out) = i

abbrev pub time_in : Call → ℕ
time_in (starts table i k time id out) = time
time_in (receives a) = a.time
time_in (ticks table i time id out) = time

abbrev pub buffer_in : Call → List ℕ
buffer_in (starts table i k time id out) = out
buffer_in (receives a) = a.out
buffer_in (ticks table i time id out) = out
