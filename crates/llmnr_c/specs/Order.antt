-- Two ports, one moment, in C: two calls on different interfaces at one time, each given what it needs of the host, and the step of the
-- one taken into the host before the other is made. In either order they give the same. proofs/Order.antt has the proof.
use Rattle.std.specs.Prelude.{◌≡◌, get_or}
use Rattle.host.specs.declared.Host.{Host}
use Rattle.order.specs.Calls.{Call, made, interface_in}
use Rattle.order.specs.Order.{OneMoment}
use Rattle.llmnr_c.specs.FlatHost.{seen, no_names, FlatDone, step_on, take_step}
use Rattle.llmnr_c.specs.declared.flat.FlatHost.{FlatHost}

-- what a call is given of a flat host; what it gives, as its contract says; and the flat host after it
abbrev pub given : Call → FlatHost → Host
given c f = seen f.settings f.clock (get_or f.interfaces (interface_in c) no_names)

abbrev pub flat_made : Call → FlatHost → FlatDone
flat_made c f = step_on (interface_in c) (made c (given c f))

abbrev pub taken : Call → FlatHost → FlatHost
taken c f = take_step f (interface_in c) (flat_made c f).step

-- two steps tell the same, and leave the same octets; a refusal gives the clock that it was given
pub record SameStep (s t : FlatDone) : Type 0 where
  pub name : s.step.name ≡ t.step.name
  pub outcome : s.step.outcome ≡ t.step.outcome
  pub to : s.step.to ≡ t.step.to
  pub changed : s.step.changed ≡ t.step.changed
  pub octets : s.octets ≡ t.octets

pub record EitherOrder (f : FlatHost) (c e : Call) : Type 0 where
  -- the same flat host, in every field
  pub state : taken e (taken c f) ≡ taken c (taken e f)
  -- c made first and c made after e; and e
  pub one : SameStep (flat_made c f) (flat_made c (taken e f))
  pub other : SameStep (flat_made e f) (flat_made e (taken c f))

-- The theorem.
abbrev pub TwoPorts : Type 0
TwoPorts = (f : FlatHost) (c e : Call) → OneMoment c e → EitherOrder f c e
