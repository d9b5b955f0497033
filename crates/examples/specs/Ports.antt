-- Tables with masks, kind 6, and the replies of a host with two ports.
use Rattle.std.specs.Prelude.{ℕ, ◌-◌, List, [], ◌∷◌, ◌++◌, length, take, replicate}
use Rattle.octets.specs.Addresses.{group_of}
use Rattle.name_table.specs.Check.{Checked, good, bad}
use Rattle.host.specs.declared.Interface.{Interface}
use Rattle.host.specs.declared.NameState.TheVariants.{Unique}
use Rattle.host.specs.declared.Host.{Host}
use Rattle.host.specs.State.{off_name, with_clock}
use Rattle.host.specs.SetUp.{fresh_interface, zero_setting}
use Rattle.host.specs.Outcomes.{Done, reply}
use Rattle.host.specs.Receive.{Arrival}
use Rattle.examples.specs.Cases.{scale3, table_s, buffer, Case, table, received, querier, ours, question, question28, query, answer, head, repeated, address6, answer_aaaa}

-- 198.51.100.17, the address of interface 1
abbrev pub office : List ℕ
office = 0xc6 ∷ 0x33 ∷ 0x64 ∷ 0x11 ∷ []

-- an interface with an address and 100 ms, where name 0 is Unique
abbrev pub port : List ℕ → Interface
port address =
    record { setting = record { family = 4; address = address; interval = 100 }; names = Unique ∷ replicate 7 off_name }

-- interface 0 is the hall's, 1 the office's, the others are unused
abbrev pub two_ports : Host
two_ports =
    record { interfaces = port ours ∷ port (office ++ replicate 12 0) ∷ replicate 2 (fresh_interface zero_setting); clock = 7 }

-- entries: a mask; an A record; an AAAA record
abbrev pub mask : ℕ → List ℕ
mask m = 0x05 ∷ 0x00 ∷ 0x06 ∷ 0x00 ∷ m ∷ []

abbrev pub record_a : List ℕ → List ℕ
record_a address = (0x08 ∷ 0x00 ∷ 0x03 ∷ 0x00 ∷ []) ++ address

abbrev pub record_aaaa : List ℕ
record_aaaa = (0x14 ∷ 0x00 ∷ 0x04 ∷ 0x00 ∷ []) ++ address6

-- scale3, and then some entries
abbrev pub named : List ℕ → List ℕ
named entries = take 12 table_s ++ entries

-- such a table is good: its one name stands from 4 up to 12
abbrev pub is_good : Checked
is_good = good (record { kind = 1; start = 4; end = 12; octets = scale3 } ∷ [])

-- interface 0 has A 192.0.2.17, interface 1 A 198.51.100.17
abbrev pub two_addresses : List ℕ
two_addresses = named (mask 1 ++ record_a (take 4 ours) ++ mask 2 ++ record_a office)

abbrev pub office_answer : List ℕ
office_answer = take 12 answer ++ office

-- a question about a table on an interface, and the reply to it
abbrev pub asks : List ℕ → ℕ → List ℕ → Arrival
asks t interface q =
    record { table = t; interface = interface; from = querier; to = group_of 4; datagram = query 0x00 1 0 q; time = 8; id = 77; out = buffer }

abbrev pub replied : List ℕ → Done
replied octets =
    record {
      host = with_clock two_ports 8;
      result = reply (length octets);
      to = querier;
      octets = octets ++ replicate (512 - length octets) 0xa5;
    }

abbrev pub port_cases : List Case
port_cases =
    -- two ports, one with the office address: each answers with its own
    table two_addresses is_good
    ∷ received two_ports (asks two_addresses 0 question) (replied (head 0x80 1 ++ question ++ answer))
    ∷ received two_ports (asks two_addresses 1 question) (replied (head 0x80 1 ++ question ++ office_answer))
    -- a record before any mask is given on both
    ∷ received two_ports (asks (named (record_a office ++ mask 2 ++ record_a (take 4 ours))) 0 question) (replied (head 0x80 1 ++ question ++ office_answer))
    ∷ received two_ports (asks (named (record_a office ++ mask 2 ++ record_a (take 4 ours))) 1 question)
    (replied (head 0x80 2 ++ question ++ office_answer ++ answer))
    -- a type whose records are all of another port: 24 octets, ANCOUNT 0
    ∷ received two_ports (asks (named (mask 2 ++ record_aaaa)) 0 question28) (replied (head 0x80 0 ++ question28))
    -- 18 AAAA of which 17 are valid: 500 octets, TC clear; where all 18 are: the same answers, TC set
    ∷ received two_ports (asks (named (repeated 9 record_aaaa ++ mask 2 ++ record_aaaa ++ mask 3 ++ repeated 8 record_aaaa)) 0 question28)
    (replied (head 0x80 17 ++ question28 ++ repeated 17 answer_aaaa))
    ∷ received two_ports (asks (named (repeated 9 record_aaaa ++ mask 2 ++ record_aaaa ++ mask 3 ++ repeated 8 record_aaaa)) 1 question28)
    (replied (head 0x82 17 ++ question28 ++ repeated 17 answer_aaaa))
    -- masks of 1 and 15 are good; 0 and 16 are refused at their offset
    ∷ table (named (mask 1)) is_good
    ∷ table (named (mask 15)) is_good
    ∷ table (named (mask 0)) (bad 12)
    ∷ table (named (mask 16)) (bad 12)
    -- bodies of no octet and of two
    ∷ table (named (0x04 ∷ 0x00 ∷ 0x06 ∷ 0x00 ∷ [])) (bad 12)
    ∷ table (named (0x06 ∷ 0x00 ∷ 0x06 ∷ 0x00 ∷ 0x01 ∷ 0x01 ∷ [])) (bad 12)
    -- a mask before any name
    ∷ table (mask 1 ++ table_s) (bad 0)
    -- masks count as no record: 24 records with as many are good, a 25th record is refused
    ∷ table (named (repeated 24 (mask 1 ++ record_a office))) is_good
    ∷ table (named (repeated 24 (mask 1 ++ record_a office) ++ record_a office)) (bad 324)
    ∷ []
