-- The cases of specs/Order.antt, by computation.
use Rattle.std.proofs.Common.{refl, ap}
use Rattle.octets.specs.Octets.{part_of, splice, put}
use Rattle.octets.specs.Addresses.{group_of, group_endpoint}
use Rattle.octets.proofs.Tests.{never}
use Rattle.refusal.specs.Checks.{verdict}
use Rattle.names.specs.NameWalk.{name_from}
use Rattle.names.specs.Folding.{folded, same_name}
use Rattle.name_table.specs.Kinds.{kind_of}
use Rattle.name_table.specs.Check.{is_whole, name_fills, name_form, record_form, form_by, form_at, find_from, step, from, check_table}
use Rattle.message.specs.Query.{query_octets}
use Rattle.host.specs.Outcomes.{is_refused}
use Rattle.host.specs.Start.{start}
use Rattle.host.specs.Tick.{due_from, tick}
use Rattle.examples.specs.Order.{Orders}

pub orders : Orders
unfolding part_of splice put group_of group_endpoint verdict name_from folded same_name kind_of is_whole name_fills name_form record_form form_by form_at find_from step from check_table query_octets start due_from tick
orders =
    record {
      both_ask = (refl, (refl, refl));
      both_ask_turned = (refl, (refl, refl));
      nine_asks = (refl, (refl, refl));
      ten_asks = (refl, (refl, refl));
      one_interface = λ o. never (ap is_refused o.one.result) refl;
      forwards = (refl, (refl, refl));
      backwards = (refl, (refl, refl));
      two_times = λ o. never (ap is_refused o.one.result) refl;
      second_last = (refl, (refl, refl));
      second_between = (refl, (refl, refl));
    }
