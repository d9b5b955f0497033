-- Until when a stopped name is not tried again, in 64 bits. That nothing is lost where the time has passed check 4 is shown in
-- proofs/StoppingLaws.antt.
use Rattle.std.specs.Prelude.{ℕ, ◌+◌, ◌%◌, ◌^◌, List}
use Rattle.host.specs.Stopping.{first_answer, rest_by}

abbrev pub until_by : ℕ → ℕ → List ℕ → ℕ → ℕ
until_by time answers s at = (time + rest_by (first_answer answers s at)) % 2 ^ 64
