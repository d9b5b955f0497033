-- The cases of tables with masks hold, by computation.
use Rattle.std.proofs.Common.{refl}
use Rattle.octets.specs.Octets.{part_of, splice, put}
use Rattle.octets.specs.Addresses.{same_octets, same_address, group_of, is_group, has_address, ours_among}
use Rattle.refusal.specs.Checks.{verdict}
use Rattle.names.specs.NameWalk.{name_from}
use Rattle.names.specs.Folding.{folded, same_name}
use Rattle.name_table.specs.Kinds.{kind_of}
use Rattle.name_table.specs.Check.{is_whole, name_fills, name_form, record_form, mask_fits, mask_form, form_by, form_at, find_from, step, from, check_table}
use Rattle.name_table.specs.Records.{record_by, record_at, records_from, valid_on}
use Rattle.name_table.specs.Masks.{is_mask, is_valid}
use Rattle.message.specs.Header.{header_of}
use Rattle.message.specs.Question.{question_at}
use Rattle.message.specs.Reply.{taken_from, reply_octets, reply_written}
use Rattle.host.specs.Receive.{receive}
use Rattle.examples.specs.Cases.{AllHold, repeated}
use Rattle.examples.specs.Ports.{port_cases}

pub ports_hold : AllHold port_cases
unfolding part_of splice put same_octets same_address group_of is_group has_address ours_among verdict name_from folded same_name kind_of is_whole name_fills name_form record_form mask_fits mask_form is_mask form_by form_at find_from step from check_table record_by record_at records_from is_valid valid_on header_of question_at taken_from reply_octets reply_written receive repeated
ports_hold = (refl, (refl, (refl, (refl, (refl, (refl, (refl, (refl, (refl, (refl, (refl, (refl, (refl, (refl, (refl, (refl, (refl, tt)))))))))))))))))
