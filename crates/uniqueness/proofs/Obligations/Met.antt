-- The obligations are met.
use Rattle.uniqueness.specs.Link.{Station, Link, OnLink, Conditions}
use Rattle.uniqueness.proofs.Obligations.{Meets, Obligations}
use Rattle.uniqueness.proofs.Obligations.Stations.{few_is, time_fits}
use Rattle.uniqueness.proofs.Obligations.Messages.{ReplyTo, reply_t}
use Rattle.uniqueness.proofs.Obligations.Start.{interval_some, set_up_off, start_refused, start_unused, start_off}
use Rattle.uniqueness.proofs.Obligations.Tick.{tick_unused, tick_quiet, tick_again, tick_unique}
use Rattle.uniqueness.proofs.Obligations.Queries.{query_off, query_verifying, query_unique, query_stopped}
use Rattle.uniqueness.proofs.Obligations.Replies.{reply_clear, reply_below, reply_above, reply_late}

meets : (L : Link) → Conditions L → (s : Station) (o : OnLink L s) → Meets ReplyTo L s o
meets L c s o =
    record {
      few = few_is L s o;
      set_up_time = time_fits L s o;
      set_up_interval = interval_some L c s o;
      set_up_off = set_up_off L c s o;
      start_refused = start_refused L c s o;
      start_unused = start_unused L c s o;
      start_off = start_off L c s o;
      tick_unused = tick_unused L c s o;
      tick_quiet = tick_quiet L c s o;
      tick_again = tick_again L c s o;
      tick_unique = tick_unique L c s o;
      query_off = query_off L c s o;
      query_verifying = query_verifying L c s o;
      query_unique = query_unique L c s o;
      query_stopped = query_stopped L c s o;
      reply_clear = reply_clear L c s o;
      reply_below = reply_below L c s o;
      reply_above = reply_above L c s o;
      reply_late = reply_late L c s o;
    }

pub obligations : Obligations
obligations = record { ReplyTo = ReplyTo; reply_t = reply_t; meets = meets }
