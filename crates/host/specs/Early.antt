-- The checks that every call makes first: 1 room, 2 table, 3 interface, 4 clock.
use Rattle.std.specs.Prelude.{ℕ, List, Bool, not, length, ltb, leb}
use Rattle.octets.specs.Tests.{◌or◌}
use Rattle.octets.specs.Bounds.{interfaces}
use Rattle.octets.specs.Addresses.{is_family}
use Rattle.refusal.specs.Numbers.{number, number_at}
use Rattle.refusal.specs.Checks.{Checks, fail}
use Rattle.name_table.specs.Check.{check_table, is_bad, bad_at}
use Rattle.host.specs.Bounds.{room, latest}
use Rattle.host.specs.State.{setting_of}
use Rattle.host.specs.declared.Host.{Host}

-- the output buffer is below 512 octets
abbrev pub no_room : ℕ → Bool
no_room size = ltb size room

-- the interface's number is above 3, or it is unused: its family is neither 4 nor 6
abbrev pub no_interface : ℕ → ℕ → Bool
no_interface i family = leb interfaces i or not (is_family family)

-- the time is above 2^48 - 1, or before the last accepted time
abbrev pub bad_clock : ℕ → ℕ → Bool
bad_clock clock time = ltb latest time or ltb time clock

-- the table is not good, with the offset of its bad entry; then the checks that follow
abbrev pub table_checks : List ℕ → Checks → Checks
table_checks table rest = fail (is_bad (check_table table)) (number_at 2 (bad_at (check_table table))) rest

-- 1 to 4, then the checks that follow: of the octets of the buffer, the table, the interface and its family, the last accepted time and
-- the call's
abbrev pub first_checks : ℕ → List ℕ → ℕ → ℕ → ℕ → ℕ → Checks → Checks
first_checks size table i family clock time rest =
    fail (no_room size) (number 1)
    (table_checks table
    (fail (no_interface i family) (number 3)
    (fail (bad_clock clock time) (number 4)
    rest)))

abbrev pub early : Host → List ℕ → ℕ → ℕ → List ℕ → Checks → Checks
early h table i time out rest = first_checks (length out) table i (setting_of h i).family h.clock time rest
