-- What is heard of a datagram before any name's state is looked at: the checks 1 to 11 refuse it, or the table does not have the name (12, or
-- 15 for a response), or it is for a name of the table.
use Rattle.std.specs.Prelude.{ℕ, List, None, Option, Some, Result, Ok, Err}
use Rattle.refusal.specs.Numbers.{Report, report_of}
use Rattle.refusal.specs.declared.Refusal.{Refusal}
use Rattle.refusal.specs.Checks.{pass, Verdict, refused, passed, verdict}
use Rattle.name_table.specs.Check.{name_in}
use Rattle.message.specs.declared.Header.{Header}
use Rattle.message.specs.declared.Question.{Question}
use Rattle.host.specs.State.{setting_of, timer_from}
use Rattle.host.specs.Early.{early}
use Rattle.host.specs.Receive.{Arrival, header, question, found, datagram_checks}
use Rattle.host.specs.declared.Timer.{Timer}
use Rattle.host.specs.declared.Host.{Host}
use Rattle.responder.specs.Contest.{why_unknown}
use Rattle.responder.specs.declared.heard.Call.{Call}
use Rattle.responder.specs.declared.heard.Heard.{Heard}

-- what a call on an interface is given, with every octet of the lent buffer
abbrev pub arrival_of : Call → ℕ → List ℕ → Arrival
arrival_of c i out =
    record {
      table = c.table.now;
      interface = i;
      from = c.arrival.from;
      to = c.arrival.to;
      datagram = c.arrival.datagram.now;
      time = c.moment.time;
      id = c.moment.id;
      out = out;
    }

-- refused; or the number of the name, where its records begin in the table, a timer that is started now, the header and the question
pub data Hearing : Type 0 where
  refuses : Report → Hearing
  hears : ℕ → ℕ → Timer → Header → Question → Hearing

abbrev pub named_by : Option ℕ → Host → Arrival → Hearing
named_by None h a = refuses (report_of (why_unknown (header a).response))
named_by (Some k) h a =
    hears k (name_in a.table k).end (timer_from (setting_of h a.interface) a.time) (header a) (question a)

abbrev pub heard_if : Verdict → Host → Arrival → Hearing
heard_if (refused t) h a = refuses t
heard_if passed h a = named_by (found a) h a

unfoldable pub hearing : Host → Arrival → Hearing
hearing h a =
    heard_if
    (verdict
    (early h a.table a.interface a.time a.out
    (datagram_checks (setting_of h a.interface).family a.from.address.family a.to a.datagram pass)))
    h a

-- what the code's hearing says
abbrev pub heard_by : Result Heard Refusal → Hearing
heard_by (Ok r) = hears r.name r.records r.timer r.header r.question
heard_by (Err why) = refuses (report_of why)
