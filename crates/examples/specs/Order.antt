-- Calls of which the order matters, and calls of which it does not, by computation. Two calls on different interfaces at one time may change
-- places (order/specs/Order.antt). Two on the same interface may not, nor may two at different times: so neither condition of that
-- theorem can be left out.
use Rattle.std.specs.Prelude.{ℕ, ◌≡◌, List, [], ◌∷◌, map, replicate}
use Rattle.refusal.specs.Numbers.{number}
use Rattle.host.specs.State.{off_name, due_at}
use Rattle.host.specs.SetUp.{fresh_interface, zero_setting}
use Rattle.host.specs.Outcomes.{CallResult, refused, quiet, query}
use Rattle.host.specs.declared.NameState.{NameState}
use Rattle.host.specs.declared.NameState.TheVariants.{Off, Verifying}
use Rattle.host.specs.declared.Interface.{Interface}
use Rattle.host.specs.declared.Host.{Host}
use Rattle.order.specs.Calls.{Call, starts, ticks, made}
use Rattle.order.specs.Order.{EitherOrder}
use Rattle.order.specs.Interleaved.{Told, after, all_told, told_on}
use Rattle.examples.specs.Cases.{table_s, buffer}

-- an interface with 192.0.2.n and 100 ms, with name 0 in some state; and a host with two of them and a clock
abbrev pub port : ℕ → NameState → Interface
port n state =
    record {
      setting = record { family = 4; address = 0xc0 ∷ 0x00 ∷ 0x02 ∷ n ∷ replicate 12 0; interval = 100 };
      names = state ∷ replicate 7 off_name;
    }

abbrev pub two_ports : NameState → NameState → ℕ → Host
two_ports s t clock =
    record { interfaces = port 0x11 s ∷ port 0x12 t ∷ replicate 2 (fresh_interface zero_setting); clock = clock }

abbrev pub idle : Host
idle = two_ports Off Off 7

-- a start of scale3 on an interface at 8, with an ID; a tick of an interface at a time
abbrev pub start_on : ℕ → ℕ → Call
start_on i id = starts table_s i 0 8 id buffer

abbrev pub tick_at : ℕ → ℕ → Call
tick_at i time = ticks table_s i time 77 buffer

-- what two calls come to, made one after the other, and the state that they leave
abbrev pub Come : Call → Call → CallResult → CallResult → Host → Type 0
Come c e r s g = ((made c idle).result ≡ r) × (((made e (made c idle).host).result ≡ s) × ((made e (made c idle).host).host ≡ g))

-- scale3 is asked for with an ID, once, until 108
abbrev pub asked : ℕ → NameState
asked id = Verifying 1 id (due_at 108)

-- what those of a list of calls that are on interface i come to; the state that the list leaves, and what those on 0 and on 1 come to
abbrev pub results_on : ℕ → List Call → List CallResult
results_on i cs = map (λ (t : Told). t.result) (told_on i (all_told idle cs))

abbrev pub Run : List Call → Host → List CallResult → List CallResult → Type 0
Run cs g rs ss = (after idle cs ≡ g) × ((results_on 0 cs ≡ rs) × (results_on 1 cs ≡ ss))

pub record Orders : Type 0 where
  -- two interfaces, one time: either way both ask, each with its own ID, and the state is the same
  pub both_ask : Come (start_on 0 9) (start_on 1 10) (query 0 24) (query 0 24) (two_ports (asked 9) (asked 10) 8)
  pub both_ask_turned : Come (start_on 1 10) (start_on 0 9) (query 0 24) (query 0 24) (two_ports (asked 9) (asked 10) 8)
  -- one interface, one time: the start that comes first asks, and the other is refused with 19
  pub nine_asks : Come (start_on 0 9) (start_on 0 10) (query 0 24) (refused (number 19)) (two_ports (asked 9) Off 8)
  pub ten_asks : Come (start_on 0 10) (start_on 0 9) (query 0 24) (refused (number 19)) (two_ports (asked 10) Off 8)
  pub one_interface : EitherOrder idle (start_on 0 9) (start_on 0 10) → ⊥
  -- two interfaces, two times: the tick at 8 is quiet, but after one at 9 it is refused with 4
  pub forwards : Come (tick_at 0 8) (tick_at 1 9) quiet quiet (two_ports Off Off 9)
  pub backwards : Come (tick_at 1 9) (tick_at 0 8) quiet (refused (number 4)) (two_ports Off Off 9)
  pub two_times : EitherOrder idle (tick_at 0 8) (tick_at 1 9) → ⊥
  -- two starts on interface 0 and one on interface 1, interleaved in two ways
  pub second_last :
      Run (start_on 0 9 ∷ start_on 0 10 ∷ start_on 1 11 ∷ []) (two_ports (asked 9) (asked 11) 8)
      (query 0 24 ∷ refused (number 19) ∷ []) (query 0 24 ∷ [])
  pub second_between :
      Run (start_on 0 9 ∷ start_on 1 11 ∷ start_on 0 10 ∷ []) (two_ports (asked 9) (asked 11) 8)
      (query 0 24 ∷ refused (number 19) ∷ []) (query 0 24 ∷ [])
