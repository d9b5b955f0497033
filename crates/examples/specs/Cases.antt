-- Examples of the rules: a list of cases, each a call or some calls and what they give. Name tables, single calls and short runs, and last
-- those of a name that was lost.
use Rattle.std.specs.Prelude.{ℕ, zero, suc, ◌+◌, ◌-◌, ◌≡◌, List, [], ◌∷◌, ◌++◌, length, take, replicate}
use Rattle.octets.specs.declared.Endpoint.{Endpoint}
use Rattle.octets.specs.Addresses.{group_of}
use Rattle.refusal.specs.Numbers.{number}
use Rattle.name_table.specs.Check.{Checked, good, bad, check_table}
use Rattle.host.specs.declared.NameState.{NameState}
use Rattle.host.specs.declared.NameState.TheVariants.{Off, Verifying, Unique}
use Rattle.host.specs.declared.Host.{Host}
use Rattle.host.specs.State.{off_name, with_clock}
use Rattle.host.specs.SetUp.{fresh_interface, zero_setting}
use Rattle.host.specs.Outcomes.{Done, CallResult, refused, reply, quiet, unique, stopped, nowhere}
use Rattle.host.specs.Outcomes.{query as queried}
use Rattle.host.specs.Start.{start}
use Rattle.host.specs.Tick.{tick}
use Rattle.host.specs.Receive.{Arrival, receive}

-- the name scale3, and table S: unique name scale3 with A 192.0.2.17
abbrev pub scale3 : List ℕ
scale3 = 0x06 ∷ 0x73 ∷ 0x63 ∷ 0x61 ∷ 0x6c ∷ 0x65 ∷ 0x33 ∷ 0x00 ∷ []

abbrev pub table_s : List ℕ
table_s =
    (0x0c ∷ 0x00 ∷ 0x01 ∷ 0x00 ∷ []) ++ scale3 ++ (0x08 ∷ 0x00 ∷ 0x03 ∷ 0x00 ∷ 0xc0 ∷ 0x00 ∷ 0x02 ∷ 0x11 ∷ [])

abbrev pub buffer : List ℕ
buffer = replicate 512 0xa5

-- a start of name 0, a tick, or a response that is received, at a time, and its result
pub data Request : Type 0 where
  starts ticks : Request
  hears : List ℕ → Request

pub record Stage : Type 0 where
  pub request : Request
  pub time : ℕ
  pub result : CallResult

pub data Case : Type 0 where
  -- the check of a table
  table : List ℕ → Checked → Case
  -- a datagram received by a host
  received : Host → Arrival → Done → Case
  -- calls made one after another on interface 0 with table S, and what each comes to
  run : Host → List Stage → Case

-- where queries and responses come from, and the address of interface 0
abbrev pub querier : Endpoint
querier =
    record { address = record { family = 4; octets = 0xc0 ∷ 0x00 ∷ 0x02 ∷ 0x63 ∷ replicate 12 0 }; port = 49152 }

abbrev pub ours : List ℕ
ours = 0xc0 ∷ 0x00 ∷ 0x02 ∷ 0x11 ∷ replicate 12 0

abbrev pub made : Host → Request → ℕ → Done
made h starts time = start h table_s 0 0 time 9 buffer
made h ticks time = tick h table_s 0 time 77 buffer
made h (hears datagram) time =
    receive h
    (record {
      table = table_s;
      interface = 0;
      from = querier;
      to = record { family = 4; octets = ours };
      datagram = datagram;
      time = time;
      id = 77;
      out = buffer;
    })

abbrev pub Runs : Host → List Stage → Type 0
Runs h [] = Unit
Runs h (s ∷ ss) = ((made h s.request s.time).result ≡ s.result) × Runs (made h s.request s.time).host ss

abbrev pub Holds : Case → Type 0
Holds (table s c) = check_table s ≡ c
Holds (received h a d) = receive h a ≡ d
Holds (run h ss) = Runs h ss

abbrev pub AllHold : List Case → Type 0
AllHold [] = Unit
AllHold (c ∷ cs) = Holds c × AllHold cs

-- a host whose interface 0 has 192.0.2.17 and 100 ms, with name 0 in some state
abbrev pub host : NameState → Host
host state =
    record {
      interfaces =
          record {
            setting = record { family = 4; address = ours; interval = 100 };
            names = state ∷ replicate 7 off_name;
          }
          ∷ replicate 3 (fresh_interface zero_setting);
      clock = 7;
    }

abbrev pub verifying : NameState
verifying = Verifying 1 0x0009 (record { due = 107 })

-- a query for scale3 or SCALE3, type and class: ID 12 34, then the flags, QDCOUNT and ARCOUNT of the case
abbrev pub question : List ℕ
question = scale3 ++ (0x00 ∷ 0x01 ∷ 0x00 ∷ 0x01 ∷ [])

abbrev pub scale3_capitals : List ℕ
scale3_capitals = 0x06 ∷ 0x53 ∷ 0x43 ∷ 0x41 ∷ 0x4c ∷ 0x45 ∷ 0x33 ∷ 0x00 ∷ 0x00 ∷ 0x01 ∷ 0x00 ∷ 0x01 ∷ []

abbrev pub question28 : List ℕ
question28 = scale3 ++ (0x00 ∷ 0x1c ∷ 0x00 ∷ 0x01 ∷ [])

abbrev pub query : ℕ → ℕ → ℕ → List ℕ → List ℕ
query flags questions additionals q =
    (0x12 ∷ 0x34 ∷ flags ∷ 0x00 ∷ 0x00 ∷ questions ∷ 0x00 ∷ 0x00 ∷ 0x00 ∷ 0x00 ∷ 0x00 ∷ additionals ∷ []) ++ q

abbrev pub arrival : List ℕ → Arrival
arrival datagram =
    record { table = table_s; interface = 0; from = querier; to = group_of 4; datagram = datagram; time = 8; id = 77; out = buffer }

-- a reply went back to the querier, and the buffer's octets after it are as they were
abbrev pub replied : NameState → List ℕ → Done
replied state octets =
    record {
      host = with_clock (host state) 8;
      result = reply (length octets);
      to = querier;
      octets = octets ++ replicate (512 - length octets) 0xa5;
    }

-- a refusal leaves the state and the buffer
abbrev pub turned_away : NameState → ℕ → Done
turned_away state n = record { host = host state; result = refused (number n); to = nowhere; octets = buffer }

abbrev pub answer : List ℕ
answer =
    0xc0 ∷ 0x0c ∷ 0x00 ∷ 0x01 ∷ 0x00 ∷ 0x01 ∷ 0x00 ∷ 0x00 ∷ 0x00 ∷ 0x1e ∷ 0x00 ∷ 0x04 ∷ 0xc0 ∷ 0x00 ∷ 0x02 ∷ 0x11 ∷ []

abbrev pub head : ℕ → ℕ → List ℕ
head flags answers =
    0x12 ∷ 0x34 ∷ flags ∷ 0x00 ∷ 0x00 ∷ 0x01 ∷ 0x00 ∷ answers ∷ 0x00 ∷ 0x00 ∷ 0x00 ∷ 0x00 ∷ []

-- the same octets so many times
unfoldable pub repeated : ℕ → List ℕ → List ℕ
repeated zero x = []
repeated (suc n) x = x ++ repeated n x

-- a question, type 1 and class 1, for a name of one label of n octets
abbrev pub labelled : ℕ → List ℕ
labelled n = (n ∷ replicate n 0x61) ++ (0x00 ∷ 0x00 ∷ 0x01 ∷ 0x00 ∷ 0x01 ∷ [])

-- scale3 with n times AAAA 2001:db8::1, and such a record as it is answered
abbrev pub address6 : List ℕ
address6 = 0x20 ∷ 0x01 ∷ 0x0d ∷ 0xb8 ∷ replicate 11 0 ++ (0x01 ∷ [])

abbrev pub with_aaaa : ℕ → List ℕ
with_aaaa n = take 12 table_s ++ repeated n ((0x14 ∷ 0x00 ∷ 0x04 ∷ 0x00 ∷ []) ++ address6)

abbrev pub answer_aaaa : List ℕ
answer_aaaa = (0xc0 ∷ 0x0c ∷ 0x00 ∷ 0x1c ∷ 0x00 ∷ 0x01 ∷ 0x00 ∷ 0x00 ∷ 0x00 ∷ 0x1e ∷ 0x00 ∷ 0x10 ∷ []) ++ address6

abbrev pub asked : List ℕ → Arrival
asked t =
    record { table = t; interface = 0; from = querier; to = group_of 4; datagram = query 0x00 1 0 question28; time = 8; id = 77; out = buffer }

-- a response to the query of a start: ID 00 09, T clear, so many answers, and then what stands after the question
abbrev pub response : ℕ → List ℕ → List ℕ
response answers rest =
    (0x00 ∷ 0x09 ∷ 0x80 ∷ 0x00 ∷ 0x00 ∷ 0x01 ∷ 0x00 ∷ answers ∷ 0x00 ∷ 0x00 ∷ 0x00 ∷ 0x00 ∷ []) ++ scale3 ++ (0x00 ∷ 0xff ∷ 0x00 ∷ 0x01 ∷ []) ++ rest

-- A 192.0.2.99 of scale3, with the first and the last octet of its TTL
abbrev pub lasting : ℕ → ℕ → List ℕ
lasting high low =
    0xc0 ∷ 0x0c ∷ 0x00 ∷ 0x01 ∷ 0x00 ∷ 0x01 ∷ high ∷ 0x00 ∷ 0x00 ∷ low ∷ 0x00 ∷ 0x04 ∷ 0xc0 ∷ 0x00 ∷ 0x02 ∷ 0x63 ∷ []

-- a host that is set up and no more
abbrev pub fresh : Host
fresh = record { interfaces = (host Off).interfaces; clock = 0 }

-- started at 0, stopped at 5 by a response: a start at a time is 21, and a millisecond later it asks again
abbrev pub lost : List ℕ → ℕ → Case
lost datagram time =
    run fresh
    (record { request = starts; time = 0; result = queried 0 24 }
    ∷ record { request = hears datagram; time = 5; result = stopped 0 }
    ∷ record { request = starts; time = time; result = refused (number 21) }
    ∷ record { request = starts; time = time + 1; result = queried 0 24 }
    ∷ [])

abbrev pub cases : List Case
cases =
    -- S is good: its one name is unique and stands from 4 up to 12
    table table_s (good (record { kind = 1; start = 4; end = 12; octets = scale3 } ∷ []))
    -- S less its last octet is refused at 12
    ∷ table (take 19 table_s) (bad 12)
    -- S twice is refused at 20
    ∷ table (table_s ++ table_s) (bad 20)
    -- the query, name Unique: 40 octets
    ∷ received (host Unique) (arrival (query 0x00 1 0 question)) (replied Unique (head 0x80 1 ++ question ++ answer))
    -- Verifying: flags 81 00
    ∷ received (host verifying) (arrival (query 0x00 1 0 question)) (replied verifying (head 0x81 1 ++ question ++ answer))
    -- type 28: 24 octets, ANCOUNT 0
    ∷ received (host Unique) (arrival (query 0x00 1 0 question28)) (replied Unique (head 0x80 0 ++ question28))
    -- SCALE3 is answered as SCALE3
    ∷ received (host Unique) (arrival (query 0x00 1 0 scale3_capitals)) (replied Unique (head 0x80 1 ++ scale3_capitals ++ answer))
    -- flags 04 00, Verifying: 14
    ∷ received (host verifying) (arrival (query 0x04 1 0 question)) (turned_away verifying 14)
    -- ARCOUNT 5 with nothing after: answered
    ∷ received (host Unique) (arrival (query 0x00 1 5 question)) (replied Unique (head 0x80 1 ++ question ++ answer))
    -- QDCOUNT 2: 9
    ∷ received (host Unique) (arrival (query 0x00 2 0 question)) (turned_away Unique 9)
    -- the others. A datagram of 11 octets: 5; 9,194 are read; 9,195: 5
    ∷ received (host Unique) (arrival (take 11 (query 0x00 1 0 question))) (turned_away Unique 5)
    ∷ received (host Unique) (arrival (query 0x00 1 0 question ++ replicate 9170 0xff)) (replied Unique (head 0x80 1 ++ question ++ answer))
    ∷ received (host Unique) (arrival (query 0x00 1 0 question ++ replicate 9171 0xff)) (turned_away Unique 5)
    -- a label of 63 octets is read, and its name not found: 12; one of 64: 10
    ∷ received (host Unique) (arrival (query 0x00 1 0 (labelled 63))) (turned_away Unique 12)
    ∷ received (host Unique) (arrival (query 0x00 1 0 (labelled 64))) (turned_away Unique 10)
    -- scale3 with 17 AAAA: 500 octets, TC clear; with 18: the same answers, TC set
    ∷ received (host Unique) (asked (with_aaaa 17)) (replied Unique (head 0x80 17 ++ question28 ++ repeated 17 answer_aaaa))
    ∷ received (host Unique) (asked (with_aaaa 18)) (replied Unique (head 0x82 17 ++ question28 ++ repeated 17 answer_aaaa))
    -- started at 0 with 100 ms: a query of 24 octets; at 99 quiet; at 100 and 200 the query again; at 300 Unique
    ∷ run fresh
    (record { request = starts; time = 0; result = queried 0 24 }
    ∷ record { request = ticks; time = 99; result = quiet }
    ∷ record { request = ticks; time = 100; result = queried 0 24 }
    ∷ record { request = ticks; time = 200; result = queried 0 24 }
    ∷ record { request = ticks; time = 300; result = unique 0 }
    ∷ [])
    -- stopped at 5 by a response whose first answer has TTL 30: a start at 30,004 is 21, at 30,005 it asks
    ∷ lost (response 2 (lasting 0x00 30 ++ lasting 0x00 60)) 30004
    -- TTL 2: the same at 2,004 and 2,005
    ∷ lost (response 1 (lasting 0x00 2)) 2004
    -- with no answer: as with 30, whatever stands after the question
    ∷ lost (response 0 (lasting 0x00 60)) 30004
    -- the TTL's top bit is set: it asks in the same millisecond
    ∷ run fresh
    (record { request = starts; time = 0; result = queried 0 24 }
    ∷ record { request = hears (response 1 (lasting 0x80 30)); time = 5; result = stopped 0 }
    ∷ record { request = starts; time = 5; result = queried 0 24 }
    ∷ [])
    ∷ []
