-- Two ports, one moment: whether two calls on different interfaces at one time are made in the one order or in the other cannot be told
-- from anything that they give. Each call has its own ID, name number, datagram, addresses and buffer, and also its own table, which may
-- be the same; the interface numbers may be above 3, the tables bad, the state any value, and each call is refused or not.
-- proofs/Order.antt has the proof; examples/specs/Order.antt shows that neither condition can be left out.
use Rattle.std.specs.Prelude.{◌≡◌, ◌≢◌}
use Rattle.host.specs.Laws.{SameTold}
use Rattle.host.specs.declared.Host.{Host}
use Rattle.order.specs.Calls.{Call, made, interface_in, time_in}

-- on different interfaces, at one time
pub record OneMoment (c e : Call) : Type 0 where
  pub apart : interface_in c ≢ interface_in e
  pub same_time : time_in c ≡ time_in e

-- Made in either order, c and e give the same.
pub record EitherOrder (h : Host) (c e : Call) : Type 0 where
  -- the same state at the end, in every field
  pub state : (made e (made c h).host).host ≡ (made c (made e h).host).host
  -- c made first and c made after e: the same outcome, destination and octets of its buffer
  pub one : SameTold (made c h) (made c (made e h).host)
  -- and e
  pub other : SameTold (made e h) (made e (made c h).host)

-- The theorem.
abbrev pub TwoPorts : Type 0
TwoPorts = (h : Host) (c e : Call) → OneMoment c e → EitherOrder h c e
