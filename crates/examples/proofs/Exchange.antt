-- The exchange of specs/Exchange.antt goes so, by computation.
use Rattle.std.proofs.Common.{refl}
use Rattle.octets.specs.Octets.{part_of, splice, put}
use Rattle.octets.specs.Addresses.{same_octets, same_address, group_of, is_group, group_endpoint, has_address, ours_among}
use Rattle.refusal.specs.Checks.{verdict}
use Rattle.names.specs.NameWalk.{name_from}
use Rattle.names.specs.RecordNameWalk.{turn_at, record_name_from}
use Rattle.names.specs.Folding.{folded, same_name}
use Rattle.name_table.specs.Kinds.{kind_of}
use Rattle.name_table.specs.Check.{is_whole, name_fills, name_form, record_form, form_by, form_at, find_from, step, from, check_table}
use Rattle.name_table.specs.Records.{record_by, record_at, records_from, valid_on}
use Rattle.name_table.specs.Masks.{is_valid}
use Rattle.message.specs.Header.{header_of}
use Rattle.message.specs.Question.{question_at}
use Rattle.message.specs.Query.{query_octets}
use Rattle.message.specs.Records.{record_at as answer_at, walk_from}
use Rattle.message.specs.Reply.{taken_from, reply_octets, reply_written}
use Rattle.host.specs.Receive.{receive as host_receive}
use Rattle.lookup.specs.Start.{start}
use Rattle.lookup.specs.Receive.{receive}
use Rattle.lookup.specs.Tick.{tick}
use Rattle.examples.specs.Exchange.{Exchange}

pub exchange : Exchange
unfolding part_of splice put same_octets same_address group_of is_group group_endpoint has_address ours_among verdict name_from turn_at record_name_from folded same_name kind_of is_whole name_fills name_form record_form form_by form_at find_from step from check_table record_by record_at records_from is_valid valid_on header_of question_at query_octets answer_at walk_from taken_from reply_octets reply_written host_receive start receive tick
exchange =
    record {
      asks = refl;
      query_is = refl;
      replies = refl;
      found_it = refl;
      ended = refl;
      tentative = refl;
      still_asks = refl;
      part_of_it = refl;
      collects = refl;
      not_yet = refl;
      as_found = refl;
      early = refl;
      second_send = refl;
      third_send = refl;
      none = refl;
    }
