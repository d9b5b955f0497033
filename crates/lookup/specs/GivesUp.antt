-- A lookup that hears nothing and is ticked when it is due: three queries with the same octets, an interval apart, then no such name.
use Rattle.std.specs.Prelude.{ℕ, ◌+◌, ◌≤◌, ◌≡◌, List, Bool, length, take}
use Rattle.octets.specs.declared.Setting.{Setting}
use Rattle.host.specs.ThreeQueries.{Given}
use Rattle.lookup.specs.Outcomes.{query, no_such_name, Done}
use Rattle.lookup.specs.Start.{start}
use Rattle.lookup.specs.Tick.{tick}
use Rattle.lookup.specs.ExactlyWhen.{lookup_query}
use Rattle.lookup.specs.declared.Phase.TheVariants.{Ended}
use Rattle.lookup.specs.declared.Lookup.{Lookup}

-- a start and three ticks, each with its time, ID and buffer, on the lookup that the call before it left
pub record Run : Type 0 where
  pub start : Done
  pub first : Done
  pub second : Done
  pub third : Done

abbrev pub ticked : Lookup → Given → Done
ticked l g = tick l g.time g.id g.out

abbrev pub begins : List Setting → ℕ → List ℕ → ℕ → Bool → Given → Done
begins settings i name qtype permission g = start settings i name qtype permission g.time g.id g.out

abbrev pub run_of : List Setting → ℕ → List ℕ → ℕ → Bool → Given → Given → Given → Given → Run
run_of settings i name qtype permission s x y z =
    record {
      start = begins settings i name qtype permission s;
      first = ticked (begins settings i name qtype permission s).lookup x;
      second = ticked (ticked (begins settings i name qtype permission s).lookup x).lookup y;
      third = ticked (ticked (ticked (begins settings i name qtype permission s).lookup x).lookup y).lookup z;
    }

-- The ticks come one, two and three intervals of n after the start, within the clock's range, and have room.
pub record TickedWhenDue (n : ℕ) (s x y z : Given) : Type 0 where
  pub first : x.time ≡ s.time + n
  pub second : y.time ≡ s.time + n + n
  pub third : z.time ≡ s.time + n + n + n
  pub latest : z.time ≤ 281474976710655
  pub first_room : 512 ≤ length x.out
  pub second_room : 512 ≤ length y.out
  pub third_room : 512 ≤ length z.out

-- The query goes out at the start and at the first two ticks, each time with the start's ID, flags 0, the name, the type and class 1. The
-- third finds that there is no such name, and the lookup has ended.
pub record GivesUp (id : ℕ) (name : List ℕ) (qtype len : ℕ) (r : Run) : Type 0 where
  pub asks : r.start.result ≡ query len
  pub sent : take len r.start.octets ≡ lookup_query id name qtype
  pub again : r.first.result ≡ query len
  pub same_octets : take len r.first.octets ≡ lookup_query id name qtype
  pub third_time : r.second.result ≡ query len
  pub same_again : take len r.second.octets ≡ lookup_query id name qtype
  pub then_none : r.third.result ≡ no_such_name
  pub ended : r.third.lookup.phase ≡ Ended
