-- Set-up: 2 table, 4 clock, 20 settings; then every name is Off on every interface.
use Rattle.std.specs.Prelude.{ℕ, zero, suc, List, [], ◌∷◌, map, Bool, false, not, get_or, replicate, ltb, eqb, Result, Ok, Err}
use Rattle.octets.specs.Tests.{◌and◌, ◌or◌}
use Rattle.octets.specs.Bounds.{interfaces, used_by6}
use Rattle.octets.specs.declared.Setting.{Setting}
use Rattle.octets.specs.Addresses.{is_family, is_group, address_of, unused}
use Rattle.refusal.specs.Numbers.{number, report_of}
use Rattle.refusal.specs.declared.Refusal.{Refusal}
use Rattle.refusal.specs.Checks.{Checks, fail, pass, Verdict, refused, passed, verdict}
use Rattle.name_table.specs.Bounds.{most_names}
use Rattle.host.specs.Bounds.{latest, short, long}
use Rattle.host.specs.State.{off_name}
use Rattle.host.specs.Outcomes.{Done, refusal, silent, ready}
use Rattle.host.specs.Early.{table_checks}
use Rattle.host.specs.declared.Interface.{Interface}
use Rattle.host.specs.declared.Host.{Host}

-- a used interface has a group address, or its interval is neither 100 nor 1,000
abbrev pub is_interval : ℕ → Bool
is_interval interval = eqb interval short or eqb interval long

abbrev pub bad_setting : Setting → Bool
bad_setting s = is_family s.family and (is_group (address_of s) or not (is_interval s.interval))

-- one of the first n settings is bad
unfoldable pub bad_among : ℕ → List Setting → Bool
bad_among zero settings = false
bad_among (suc n) settings = bad_setting (get_or settings n unused) or bad_among n settings

abbrev pub set_up_checks : List ℕ → List Setting → ℕ → Checks
set_up_checks table settings time =
    table_checks table
    (fail (ltb latest time) (number 4)
    (fail (bad_among interfaces settings) (number 20)
    pass))

-- an interface with its settings as given, and all names Off
abbrev pub fresh_interface : Setting → Interface
fresh_interface s = record { setting = s; names = replicate most_names off_name }

-- the settings of the four interfaces
abbrev pub four : List Setting → List Setting
four settings =
    get_or settings 0 unused ∷ get_or settings 1 unused ∷ get_or settings 2 unused ∷ get_or settings 3 unused ∷ []

abbrev pub fresh_host : List Setting → ℕ → Host
fresh_host settings time = record { interfaces = map fresh_interface (four settings); clock = time }

-- what a refused set-up gives: all interfaces unused, and all else zero
abbrev pub zero_setting : Setting
zero_setting = record { family = 0; address = replicate used_by6 0; interval = 0 }

abbrev pub zero_host : Host
zero_host = fresh_host (replicate interfaces zero_setting) 0

abbrev pub set_up_by : Verdict → List Setting → ℕ → Done
set_up_by (refused t) settings time = refusal zero_host [] t
set_up_by passed settings time = silent (fresh_host settings time) [] ready

-- set-up has no earlier time and is lent no buffer
unfoldable pub set_up : List ℕ → List Setting → ℕ → ℕ → Done
set_up table settings time id = set_up_by (verdict (set_up_checks table settings time)) settings time

-- what set-up gives is that of a definition: a host that is ready, or a refusal, where every field of the host is zero
abbrev pub set_up_after : Result Host Refusal → Done
set_up_after (Ok h) = silent h [] ready
set_up_after (Err why) = refusal zero_host [] (report_of why)
