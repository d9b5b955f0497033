-- The constants of the definitions are the numbers of docs/RULES.md, by computation.
use Rattle.std.proofs.Common.{refl}
use Rattle.octets.specs.Addresses.{group_of}
use Rattle.names.specs.Folding.{folded}
use Rattle.name_table.specs.Kinds.{kind_of}
use Rattle.message.specs.Header.{header_of}
use Rattle.examples.specs.Numbers.{OfTheHost, OfMessages, OfWords, OfFlags, OfNames, OfAddresses, OfTables}

pub numbers_of_the_host : OfTheHost
numbers_of_the_host = (refl, refl, refl, refl, refl, refl, refl, refl, refl, refl, refl)

pub numbers_of_messages : OfMessages
numbers_of_messages = (refl, refl, refl, refl, refl, refl, refl)

pub words : OfWords
words = (refl, refl, refl, refl)

pub flag_bits : OfFlags
unfolding header_of
flag_bits = (refl, refl, refl, refl, refl, refl, refl)

pub numbers_of_names : OfNames
unfolding folded
numbers_of_names = (refl, refl, refl, refl, refl, refl, refl, refl, refl, refl)

pub numbers_of_addresses : OfAddresses
unfolding group_of
numbers_of_addresses = (refl, refl, refl, refl, refl, refl, refl, refl)

pub numbers_of_tables : OfTables
unfolding kind_of
numbers_of_tables = (refl, refl, refl, refl, refl, refl, refl, refl, refl, refl, refl, refl, refl)
