-- An exchange, octet by octet: 192.0.2.99 looks the A record of scale3 up, the host 192.0.2.17 with table S replies, and the reply arrives. The
-- name is Unique at the host, or still Verifying, or Shared.
use Rattle.std.specs.Prelude.{ℕ, ◌≡◌, List, ◌∷◌, false, take, replicate}
use Rattle.octets.specs.Addresses.{group_of}
use Rattle.octets.specs.declared.Address.{Address}
use Rattle.octets.specs.declared.Setting.{Setting}
use Rattle.refusal.specs.Numbers.{number}
use Rattle.host.specs.SetUp.{zero_setting}
use Rattle.host.specs.Outcomes.{reply, Done as HostDone}
use Rattle.host.specs.Receive.{receive as host_receive}
use Rattle.host.specs.declared.NameState.{NameState}
use Rattle.host.specs.declared.NameState.TheVariants.{Unique, Shared}
use Rattle.lookup.specs.Outcomes.{refused, query as queried, part, found, quiet, collected, no_such_name, Done}
use Rattle.lookup.specs.Start.{start}
use Rattle.lookup.specs.Receive.{receive}
use Rattle.lookup.specs.Tick.{tick}
use Rattle.lookup.specs.declared.Phase.TheVariants.{Asking, Collecting, Ended}
use Rattle.examples.specs.Cases.{scale3, table_s, buffer, host, verifying, query, question, querier}

-- the querier's interface 0 has 192.0.2.99 and 100 ms
abbrev pub settings : List Setting
settings = record { family = 4; address = querier.address.octets; interval = 100 } ∷ replicate 3 zero_setting

-- it asks for type 1 without permission, at time 8, with ID 12 34
abbrev pub asked : Done
asked = start settings 0 scale3 1 false 8 0x1234 buffer

-- what the host gives, with the name in some state
abbrev pub replied : NameState → HostDone
replied state =
    host_receive (host state)
    (record { table = table_s; interface = 0; from = querier; to = group_of 4; datagram = take 24 asked.octets; time = 8; id = 77; out = buffer })

abbrev pub host_address : Address
host_address = record { family = 4; octets = 0xc0 ∷ 0x00 ∷ 0x02 ∷ 0x11 ∷ replicate 12 0 }

-- what the lookup then gives
abbrev pub heard : NameState → Done
heard state =
    receive asked.lookup
    (record {
      from = record { address = host_address; port = 5355 };
      to = querier.address;
      datagram = take 40 (replied state).octets;
      time = 9;
      id = 78;
      out = buffer;
    })

-- and at ticks after that
abbrev pub ticked : Done → ℕ → Done
ticked d time = tick d.lookup time 79 buffer

pub record Exchange : Type 0 where
  pub asks : asked.result ≡ queried 24
  pub query_is : take 24 asked.octets ≡ query 0 1 0 question
  pub replies : (replied Unique).result ≡ reply 40
  -- T and C clear: found, one answer at offset 24
  pub found_it : (heard Unique).result ≡ found 24 1
  pub ended : (heard Unique).lookup.phase ≡ Ended
  -- T set: refused with 17, and the lookup still asks
  pub tentative : (heard verifying).result ≡ refused (number 17)
  pub still_asks : (heard verifying).lookup.phase ≡ Asking 1 (record { due = 108 })
  -- C set: a part, and as found when due
  pub part_of_it : (heard Shared).result ≡ part 24 1
  pub collects : (heard Shared).lookup.phase ≡ Collecting (record { due = 108 })
  pub not_yet : (ticked (heard Shared) 107).result ≡ quiet
  pub as_found : (ticked (heard Shared) 108).result ≡ collected
  -- nothing comes: quiet at 107, asked again at 108 and 208, and no such name at 308
  pub early : (ticked asked 107).result ≡ quiet
  pub second_send : (ticked asked 108).result ≡ queried 24
  pub third_send : (ticked (ticked asked 108) 208).result ≡ queried 24
  pub none : (ticked (ticked (ticked asked 108) 208) 308).result ≡ no_such_name
