-- The lookups of a run: one in each slot, and the settings that the next one is started with.
use Rattle.std.specs.Prelude.{ℕ, List, length, get_or, set, replicate, min, not, eqb}
use Rattle.octets.specs.Octets.{octet_at, part_of}
use Rattle.octets.specs.Words.{little_at}
use Rattle.octets.specs.declared.Setting.{Setting}
use Rattle.host.specs.State.{four_settings}
use Rattle.host.specs.declared.Host.{Host}
use Rattle.lookup.specs.Outcomes.{Done}
use Rattle.lookup.specs.Receive.{receive}
use Rattle.lookup.specs.Start.{start}
use Rattle.lookup.specs.State.{ended_lookup}
use Rattle.lookup.specs.Tick.{tick}
use Rattle.lookup.specs.declared.Lookup.{Lookup}
use Rattle.run_calls.specs.Entries.{slots, prefix_of, address_at, settings_of, source_of, slot_of}
use Rattle.run_calls.specs.Pieces.{lookup_line, settings_line}
use Rattle.run_calls.specs.declared.entry.Kind.{Kind}
use Rattle.run_calls.specs.declared.entry.Kind.TheVariants.{Table, SetUp, Start, Datagram, Tick}
use Rattle.run_calls.specs.declared.entry.Kind.TheVariants.{Settings, Ask, Answer, AskTick, Name}
use Rattle.run_calls.specs.declared.lookups.Lookups.{Lookups}

-- before the first entry: each slot has what a refused start gives, and the settings are the host's
abbrev pub fresh_lookups : Host → Lookups
fresh_lookups h = record { settings = four_settings h.interfaces; slots = replicate slots ended_lookup }

abbrev pub with_settings : Lookups → List Setting → Lookups
with_settings l settings = record { settings = settings; slots = l.slots }

-- after an entry of the host: a set-up takes the settings back to the host's
abbrev pub after_entry : Kind → Lookups → Host → Lookups
after_entry SetUp l h = with_settings l (four_settings h.interfaces)
after_entry Table l h = l
after_entry Start l h = l
after_entry Datagram l h = l
after_entry Tick l h = l
after_entry Settings l h = l
after_entry Ask l h = l
after_entry Answer l h = l
after_entry AskTick l h = l
after_entry Name l h = l

-- the octets of a body after its slot and the room of the cache
abbrev pub arrival_of : List ℕ → List ℕ
arrival_of body = part_of body 20 (length body)

-- the start of a lookup, a datagram to it and its tick, by the bodies of their entries
abbrev pub ask_of : List Setting → List ℕ → List ℕ → Done
ask_of settings body out =
    start settings (prefix_of body).interface (part_of body 19 (length body)) (little_at body 17)
    (not (eqb (octet_at body 16) 0)) (prefix_of body).time (prefix_of body).id out

abbrev pub answer_of : Lookup → List ℕ → List ℕ → Done
answer_of l body out =
    receive l
    (record {
      from = source_of (arrival_of body);
      to = address_at (arrival_of body) 19;
      datagram = part_of (arrival_of body) 36 (length (arrival_of body));
      time = (prefix_of body).time;
      id = (prefix_of body).id;
      out = out;
    })

abbrev pub ask_tick_of : Lookup → List ℕ → List ℕ → Done
ask_tick_of l body out = tick l (prefix_of body).time (prefix_of body).id out

-- the call of an entry, with the settings and a lookup; a tick where it is no other call of one
abbrev pub call_of : Kind → List Setting → Lookup → List ℕ → List ℕ → Done
call_of Ask settings l body out = ask_of settings body out
call_of Answer settings l body out = answer_of l body out
call_of AskTick settings l body out = ask_tick_of l body out
call_of Table settings l body out = ask_tick_of l body out
call_of SetUp settings l body out = ask_tick_of l body out
call_of Start settings l body out = ask_tick_of l body out
call_of Datagram settings l body out = ask_tick_of l body out
call_of Tick settings l body out = ask_tick_of l body out
call_of Settings settings l body out = ask_tick_of l body out
call_of Name settings l body out = ask_tick_of l body out

-- the lookup of a slot
abbrev pub lookup_at : Lookups → ℕ → Lookup
lookup_at l k = get_or l.slots k ended_lookup

-- the buffer that is lent: of the room that a body asks for, or of as many octets as there are; each
-- octet is a5
abbrev pub lent_room : List ℕ → ℕ → List ℕ
lent_room body most = replicate (min (prefix_of body).room most) 0xA5

-- the call of an entry, with the lookup of its slot
abbrev pub served : Kind → Lookups → List ℕ → ℕ → Done
served kind l body most =
    call_of kind l.settings (lookup_at l (slot_of body)) body (lent_room body most)

-- after a call: the lookup of the slot is the one that the call gives
abbrev pub after_call : Lookups → ℕ → Done → Lookups
after_call l k d = record { settings = l.settings; slots = set l.slots k d.lookup }

-- the line of what the call of an entry gives
abbrev pub done_line : ℕ → Kind → List ℕ → Done → List (List ℕ)
done_line n kind body d = lookup_line n kind (prefix_of body) d.result d.to d.octets

-- after an entry about lookups: settings for the next ones, or a call
abbrev pub taken : Kind → Lookups → List ℕ → ℕ → Lookups
taken Settings l body most = with_settings l (settings_of body)
taken kind l body most = after_call l (slot_of body) (served kind l body most)

-- and its line
abbrev pub taken_line : ℕ → Kind → Lookups → List ℕ → ℕ → List (List ℕ)
taken_line n Settings l body most = settings_line n
taken_line n kind l body most = done_line n kind body (served kind l body most)
