-- Every call is framed so: the host's laws of start, receive and tick.
use Rattle.host.specs.Receive.{name_number}
use Rattle.host.proofs.Laws.{start_refused, tick_refused, receive_refused, start_clock, tick_clock, receive_clock, start_only, tick_only, receive_only, start_same, tick_same, receive_same}
use Rattle.host.proofs.Clock.{start_in_time, tick_in_time, receive_in_time, start_clock_alike, tick_clock_alike, receive_clock_alike}
use Rattle.order.specs.Calls.{Call, starts, receives, ticks}
use Rattle.order.specs.Frame.{Framed}

pub framed : (c : Call) → Framed c
framed (starts table i k time id out) =
    record {
      looks = λ h g s. start_same h g table i k time id out s;
      clock_read = λ h clock e. start_clock_alike h clock table i k time id out e;
      changes = λ h. record { name = k; only = start_only h table i k time id out };
      in_time = λ h a. start_in_time h table i k time id out a;
      clock_set = λ h a. start_clock h table i k time id out a;
      refused = λ h t e. start_refused h table i k time id out t e;
    }
framed (receives a) =
    record {
      looks = λ h g s. receive_same h g a s;
      clock_read = λ h clock e. receive_clock_alike h clock a e;
      changes = λ h. record { name = name_number a; only = receive_only h a };
      in_time = λ h x. receive_in_time h a x;
      clock_set = λ h x. receive_clock h a x;
      refused = λ h t e. receive_refused h a t e;
    }
framed (ticks table i time id out) =
    record {
      looks = λ h g s. tick_same h g table i time id out s;
      clock_read = λ h clock e. tick_clock_alike h clock table i time id out e;
      changes = λ h. tick_only h table i time id out;
      in_time = λ h a. tick_in_time h table i time id out a;
      clock_set = λ h a. tick_clock h table i time id out a;
      refused = λ h t e. tick_refused h table i time id out t e;
    }
