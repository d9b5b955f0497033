-- What an entry leaves: the next host, lookups and table, and its line.
use Rattle.std.specs.Prelude.{ℕ, List, cond, length}
use Rattle.octets.specs.Octets.{octet_at, part_of}
use Rattle.host.specs.Outcomes.{Done}
use Rattle.host.specs.SetUp.{set_up}
use Rattle.host.specs.Start.{start}
use Rattle.host.specs.Receive.{receive}
use Rattle.host.specs.Tick.{tick}
use Rattle.host.specs.declared.Host.{Host}
use Rattle.run_calls.specs.Entries.{is_of_lookup, prefix_of, address_at, settings_of, source_of}
use Rattle.run_calls.specs.Lookups.{after_entry, lent_room, taken, taken_line}
use Rattle.run_calls.specs.Pieces.{call_line, table_line, name_line}
use Rattle.run_calls.specs.declared.entry.Kind.{Kind}
use Rattle.run_calls.specs.declared.entry.Kind.TheVariants.{Table, SetUp, Start, Datagram, Tick}
use Rattle.run_calls.specs.declared.entry.Kind.TheVariants.{Settings, Ask, Answer, AskTick, Name}
use Rattle.run_calls.specs.declared.lookups.Lookups.{Lookups}

-- the octets of a body after its prefix
abbrev pub rest_of : List ℕ → List ℕ
rest_of body = part_of body 15 (length body)

-- a set-up, a start, a datagram and a tick, by the bodies of their entries
abbrev pub set_up_of : List ℕ → List ℕ → Done
set_up_of table body =
    set_up table (settings_of (rest_of body)) (prefix_of body).time (prefix_of body).id

abbrev pub start_of : Host → List ℕ → List ℕ → List ℕ → Done
start_of h table body out =
    start h table (prefix_of body).interface (octet_at body 15) (prefix_of body).time
    (prefix_of body).id out

abbrev pub datagram_of : Host → List ℕ → List ℕ → List ℕ → Done
datagram_of h table body out =
    receive h
    (record {
      table = table;
      interface = (prefix_of body).interface;
      from = source_of (rest_of body);
      to = address_at (rest_of body) 19;
      datagram = part_of (rest_of body) 36 (length (rest_of body));
      time = (prefix_of body).time;
      id = (prefix_of body).id;
      out = out;
    })

abbrev pub tick_of : Host → List ℕ → List ℕ → List ℕ → Done
tick_of h table body out =
    tick h table (prefix_of body).interface (prefix_of body).time (prefix_of body).id out

-- the call of an entry that is lent a buffer; a tick where it is no other call of one
abbrev pub lent_call : Kind → Host → List ℕ → List ℕ → List ℕ → Done
lent_call Start h table body out = start_of h table body out
lent_call Datagram h table body out = datagram_of h table body out
lent_call Tick h table body out = tick_of h table body out
lent_call Table h table body out = tick_of h table body out
lent_call SetUp h table body out = tick_of h table body out
lent_call Settings h table body out = tick_of h table body out
lent_call Ask h table body out = tick_of h table body out
lent_call Answer h table body out = tick_of h table body out
lent_call AskTick h table body out = tick_of h table body out
lent_call Name h table body out = tick_of h table body out

-- the call of an entry, in a buffer of the room that it asks for, or of as many octets as there
-- are
abbrev pub host_call : Kind → Host → List ℕ → List ℕ → ℕ → Done
host_call SetUp h table body most = set_up_of table body
host_call kind h table body most = lent_call kind h table body (lent_room body most)

-- the line of what a host's call gives
abbrev pub host_line : ℕ → Kind → List ℕ → Done → List (List ℕ)
host_line n kind body d = call_line n kind (prefix_of body) d.result d.to d.octets

-- the host after an entry
abbrev pub host_after : Kind → Host → List ℕ → List ℕ → ℕ → Host
host_after SetUp h table body most = (host_call SetUp h table body most).host
host_after Start h table body most = (host_call Start h table body most).host
host_after Datagram h table body most = (host_call Datagram h table body most).host
host_after Tick h table body most = (host_call Tick h table body most).host
host_after Table h table body most = h
host_after Settings h table body most = h
host_after Ask h table body most = h
host_after Answer h table body most = h
host_after AskTick h table body most = h
host_after Name h table body most = h

-- the lookups after an entry that leaves a host
abbrev pub lookups_after : Kind → Lookups → Host → List ℕ → ℕ → Lookups
lookups_after kind l h body most =
    cond (is_of_lookup kind) (taken kind l body most) (after_entry kind l h)

-- the line of an entry
abbrev pub entry_line : ℕ → Kind → Host → Lookups → List ℕ → List ℕ → ℕ → List (List ℕ)
entry_line n Table h l table body most = table_line n body
entry_line n SetUp h l table body most = host_line n SetUp body (host_call SetUp h table body most)
entry_line n Start h l table body most = host_line n Start body (host_call Start h table body most)
entry_line n Datagram h l table body most =
    host_line n Datagram body (host_call Datagram h table body most)
entry_line n Tick h l table body most = host_line n Tick body (host_call Tick h table body most)
entry_line n Settings h l table body most = taken_line n Settings l body most
entry_line n Ask h l table body most = taken_line n Ask l body most
entry_line n Answer h l table body most = taken_line n Answer l body most
entry_line n AskTick h l table body most = taken_line n AskTick l body most
entry_line n Name h l table body most = name_line n body
