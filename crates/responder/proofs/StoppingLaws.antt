-- Until when a stopped name is not tried again: where the time has passed check 4, nothing is lost in 64 bits.
use Rattle.message.specs.declared.ResourceRecord.{ResourceRecord}
use Rattle.std.specs.Prelude.{None, Option, Some}
use Rattle.std.proofs.Common.{◌≡◌, ℕ, ◌<◌, ◌≤◌, ltb, List, arith, ltb-true}
use Rattle.octets.proofs.Tests.{split}
use Rattle.message.specs.Bounds.{top_bit}
use Rattle.host.specs.Bounds.{latest}
use Rattle.host.specs.Stopping.{first_answer, rest_by, stopped_until}
use Rattle.responder.specs.Stopping.{until_by}

-- a rest is shorter than 2^31 seconds
few : (r : Option ResourceRecord) → rest_by r < 2147483648000
few (Some r) = split (ltb r.ttl top_bit) (λ t. let l = ltb-true r.ttl top_bit t in rw t (omega (arith, l))) (λ t. rw t (omega arith))
few None = omega arith

pub until_is : (time answers : ℕ) (s : List ℕ) (at : ℕ) → time ≤ latest → until_by time answers s at ≡ stopped_until time answers s at
unfolding stopped_until
until_is time answers s at l =
    let f = few (first_answer answers s at) in
    omega (arith, f)
