-- A list of calls on one lookup, and the queries that go out in it.
use Rattle.std.specs.Prelude.{ℕ, ◌≤◌, ◌≡◌, List, [], ◌∷◌, ◌++◌, take, replicate}
use Rattle.lookup.specs.Outcomes.{CallResult, refused, quiet, query, part, found, collected, no_such_name, Done}
use Rattle.lookup.specs.Receive.{Arrival, receive}
use Rattle.lookup.specs.Tick.{tick}
use Rattle.lookup.specs.declared.Lookup.{Lookup}

-- a call after the start: a datagram arrives, or a tick with its time, ID and buffer
pub data Call : Type 0 where
  arrives : Arrival → Call
  ticks : ℕ → ℕ → List ℕ → Call

abbrev pub called : Lookup → Call → Done
called l (arrives a) = receive l a
called l (ticks time id out) = tick l time id out

-- what the calls of a list give, each on the lookup that the one before it left
abbrev pub run : Lookup → List Call → List Done
run l [] = []
run l (c ∷ cs) = called l c ∷ run (called l c).lookup cs

-- the octets that a call sends: those of its query, if it gives one
abbrev pub sent_by : CallResult → List ℕ → List (List ℕ)
sent_by (query len) octets = take len octets ∷ []
sent_by (refused t) octets = []
sent_by quiet octets = []
sent_by (part at answers) octets = []
sent_by (found at answers) octets = []
sent_by collected octets = []
sent_by no_such_name octets = []

abbrev pub sent : List Done → List (List ℕ)
sent [] = []
sent (d ∷ ds) = sent_by d.result d.octets ++ sent ds

-- At most so many queries go out, and each has these octets.
pub record SendsAtMost (most : ℕ) (octets : List ℕ) (ds : List Done) : Type 0 where
  pub many : ℕ
  pub few : many ≤ most
  pub same : sent ds ≡ replicate many octets
