-- A started name leaves Verifying by its third served timer, and has then sent three queries with the same octets.
use Rattle.std.specs.Prelude.{ℕ, ◌+◌, ◌<◌, ◌≤◌, ◌≡◌, List, length, take}
use Rattle.host.specs.Bounds.{room as room_octets, latest as latest_time}
use Rattle.host.specs.State.{interface_of, setting_of, state_of, interval_of}
use Rattle.host.specs.Outcomes.{Done, query, unique}
use Rattle.name_table.specs.Check.{name_in}
use Rattle.host.specs.Asking.{check_query}
use Rattle.host.specs.Start.{start}
use Rattle.host.specs.Tick.{tick}
use Rattle.host.specs.Served.{DueBy}
use Rattle.host.specs.declared.NameState.TheVariants.{Unique}
use Rattle.host.specs.declared.Host.{Host}

-- what a start or a tick is given besides the table and the interface
pub record Given : Type 0 where
  pub time : ℕ
  pub id : ℕ
  pub out : List ℕ

-- a start of the k-th name and three ticks, each on the state that the call before it left
pub record Run : Type 0 where
  pub start : Done
  pub first : Done
  pub second : Done
  pub third : Done

abbrev pub ticked : Host → List ℕ → ℕ → Given → Done
ticked h table i g = tick h table i g.time g.id g.out

abbrev pub start_of : Host → List ℕ → ℕ → ℕ → Given → Done
start_of h table i k g = start h table i k g.time g.id g.out

abbrev pub run_of : Host → List ℕ → ℕ → ℕ → Given → Given → Given → Given → Run
run_of h table i k s x y z =
    record {
      start = start_of h table i k s;
      first = ticked (start_of h table i k s).host table i x;
      second = ticked (ticked (start_of h table i k s).host table i x).host table i y;
      third = ticked (ticked (ticked (start_of h table i k s).host table i x).host table i y).host table i z;
    }

-- The ticks serve this name: each comes an interval or more after its last query, with a buffer of 512 octets, and no name with a lower
-- number is due here in that time.
pub record Served (h : Host) (i k : ℕ) (s x y z : Given) : Type 0 where
  -- the state has a place for the name
  pub interface : i < length h.interfaces
  pub place : k < length (interface_of h i).names
  pub first : s.time + interval_of (setting_of h i) ≤ x.time
  pub second : x.time + interval_of (setting_of h i) ≤ y.time
  pub third : y.time + interval_of (setting_of h i) ≤ z.time
  pub latest : z.time ≤ latest_time
  pub first_room : room_octets ≤ length x.out
  pub second_room : room_octets ≤ length y.out
  pub third_room : room_octets ≤ length z.out
  pub alone : (j : ℕ) → j < k → DueBy (state_of h i j) z.time → ⊥

-- The query goes out three times with the same octets: the ID of the start, flags 0, the name as in the table, type 255, class 1. Then
-- the name is Unique.
pub record ThreeQueries (table : List ℕ) (i k id len : ℕ) (r : Run) : Type 0 where
  pub sent : take len r.start.octets ≡ check_query id (name_in table k).octets
  pub again : r.first.result ≡ query k len
  pub same_octets : take len r.first.octets ≡ take len r.start.octets
  pub third_time : r.second.result ≡ query k len
  pub same_again : take len r.second.octets ≡ take len r.start.octets
  pub then_unique : r.third.result ≡ unique k
  pub state : state_of r.third.host i k ≡ Unique
