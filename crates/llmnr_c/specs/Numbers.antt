-- The numbers that stand for the states of a name, the phases of a lookup, and what a call comes to. include/llmnr.h has the same.
use Rattle.std.specs.Prelude.{ℕ}

-- the state of a name; any other number counts as Off
abbrev pub state_off : ℕ
state_off = 0

abbrev pub state_verifying : ℕ
state_verifying = 1

abbrev pub state_unique : ℕ
state_unique = 2

abbrev pub state_defending : ℕ
state_defending = 3

abbrev pub state_stopped : ℕ
state_stopped = 4

abbrev pub state_shared : ℕ
state_shared = 5

-- the phase of a lookup; any other number counts as Ended
abbrev pub phase_ended : ℕ
phase_ended = 0

abbrev pub phase_asking : ℕ
phase_asking = 1

abbrev pub phase_collecting : ℕ
phase_collecting = 2

-- what a call comes to, of a host or of a lookup
abbrev pub says_refused : ℕ
says_refused = 0

abbrev pub says_ready : ℕ
says_ready = 1

abbrev pub says_quiet : ℕ
says_quiet = 2

abbrev pub says_kept : ℕ
says_kept = 3

abbrev pub says_query : ℕ
says_query = 4

abbrev pub says_reply : ℕ
says_reply = 5

abbrev pub says_unique : ℕ
says_unique = 6

abbrev pub says_shared : ℕ
says_shared = 7

abbrev pub says_stopped : ℕ
says_stopped = 8

abbrev pub says_part : ℕ
says_part = 9

abbrev pub says_found : ℕ
says_found = 10

abbrev pub says_collected : ℕ
says_collected = 11

abbrev pub says_no_such_name : ℕ
says_no_such_name = 12
