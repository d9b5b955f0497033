-- Every case of the list holds, by computation.
use Rattle.std.proofs.Common.{refl}
use Rattle.octets.specs.Octets.{part_of, splice, put}
use Rattle.octets.specs.Addresses.{same_octets, same_address, group_of, is_group, group_endpoint, has_address, ours_among}
use Rattle.refusal.specs.Checks.{verdict}
use Rattle.names.specs.NameWalk.{name_from}
use Rattle.names.specs.RecordNameWalk.{turn_at, record_name_from}
use Rattle.names.specs.Folding.{folded, same_name}
use Rattle.name_table.specs.Kinds.{kind_of}
use Rattle.name_table.specs.Check.{is_whole, name_fills, name_form, record_form, mask_fits, mask_form, form_by, form_at, find_from, step, from, check_table}
use Rattle.name_table.specs.Records.{record_by, record_at, records_from, valid_on}
use Rattle.name_table.specs.Masks.{is_mask, is_valid}
use Rattle.message.specs.Header.{header_of}
use Rattle.message.specs.Question.{question_at}
use Rattle.message.specs.Query.{query_octets}
use Rattle.message.specs.Records.{record_at as resource_at}
use Rattle.message.specs.Reply.{taken_from, reply_octets, reply_written}
use Rattle.host.specs.Start.{start}
use Rattle.host.specs.Stopping.{stopped_until}
use Rattle.host.specs.Tick.{due_from, tick}
use Rattle.host.specs.Receive.{receive}
use Rattle.examples.specs.Cases.{AllHold, repeated, cases}

pub all_hold : AllHold cases
unfolding part_of splice put same_octets same_address group_of is_group group_endpoint has_address ours_among verdict name_from folded same_name kind_of is_whole name_fills name_form record_form mask_fits mask_form is_mask form_by form_at find_from step from check_table record_by record_at records_from is_valid valid_on header_of question_at query_octets taken_from reply_octets reply_written start due_from stopped_until tick receive repeated turn_at record_name_from resource_at
all_hold = (refl, (refl, (refl, (refl, (refl, (refl, (refl, (refl, (refl, (refl, (refl, (refl, (refl, (refl, (refl, (refl, (refl, ((refl, (refl, (refl, (refl, (refl, tt))))), ((refl, (refl, (refl, (refl, tt)))), ((refl, (refl, (refl, (refl, tt)))), ((refl, (refl, (refl, (refl, tt)))), ((refl, (refl, (refl, tt))), tt))))))))))))))))))))))
