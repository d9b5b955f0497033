-- What a call looks at, and what it changes. It looks at the clock, all settings, the names of its own interface and what it is given; it
-- changes names of its own interface, and the clock. These are the host's laws of single calls, for any call; the theorems of this
-- crate follow from them and from nothing else.
use Rattle.std.specs.Prelude.{ℕ, ◌<◌, ◌≤◌, ◌≡◌, ◌↔◌}
use Rattle.refusal.specs.Numbers.{Report}
use Rattle.host.specs.State.{with_clock}
use Rattle.host.specs.Outcomes.{refused as refused_by}
use Rattle.host.specs.Laws.{Unchanged, Accepted, ChangesOne, SameHere, SameDone, SameButClock}
use Rattle.host.specs.declared.Host.{Host}
use Rattle.order.specs.Calls.{Call, made, interface_in, time_in, buffer_in}

pub record Framed (c : Call) : Type 0 where
  -- it looks at the clock, all settings and its own interface's names: on two hosts that are alike in these it gives the same
  pub looks : (h g : Host) → SameHere h g (interface_in c) → SameDone (made c h) (made c g) (interface_in c)
  -- at the clock only to see whether its time is before it: with two clocks that are alike in this it gives the same
  pub clock_read : (h : Host) (clock : ℕ) → (time_in c < h.clock) ↔ (time_in c < clock) → SameButClock (made c h) (made c (with_clock h clock))
  -- it changes at most one name, on its own interface, and no setting
  pub changes : (h : Host) → ChangesOne h (made c h).host (interface_in c)
  -- if it is accepted, its time is not before the clock, and the clock is then at its time
  pub in_time : (h : Host) → Accepted (made c h) → h.clock ≤ time_in c
  pub clock_set : (h : Host) → Accepted (made c h) → (made c h).host.clock ≡ time_in c
  -- if it is refused, it changes nothing: not the clock, not an octet
  pub refused : (h : Host) (t : Report) → (made c h).result ≡ refused_by t → Unchanged h (buffer_in c) (made c h)
