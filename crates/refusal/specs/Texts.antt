-- What is printed of a refusal.
use Rattle.std.specs.Prelude.{ℕ, List, ◌++◌, codes}
use Rattle.std.specs.Fmt.{decimal}
use Rattle.refusal.specs.declared.Refusal.{Refusal}
use Rattle.refusal.specs.declared.Refusal.TheVariants.{Room, Table, Interface, Clock, Length, Address, Opcode, Rcode, Counts, Question, Class, NotOurs, Stopped, Notification, Unmatched, Own, Tentative, Records, Busy, Settings, TooSoon, SeveralLabels}

abbrev pub text_of : Refusal → List ℕ
text_of Room = codes "the buffer is too short"
text_of (Table at) = codes "the table is bad at octet " ++ decimal at
text_of Interface = codes "the interface is unused"
text_of Clock = codes "the time is too early or too late"
text_of Length = codes "the datagram is too short or too long"
text_of Address = codes "an address is of another family or of the wrong kind"
text_of Opcode = codes "the opcode is not 0"
text_of Rcode = codes "the response code is not 0"
text_of Counts = codes "a count in the header is wrong"
text_of Question = codes "the question or the name is bad"
text_of Class = codes "the class is not that of the Internet"
text_of NotOurs = codes "the name is not ours"
text_of Stopped = codes "the name is stopped"
text_of Notification = codes "nobody here is to be notified of the conflict"
text_of Unmatched = codes "nothing waits for the response"
text_of Own = codes "the response comes from one of our addresses"
text_of Tentative = codes "the response is tentative"
text_of Records = codes "a record of the response is bad"
text_of Busy = codes "the name is in use already"
text_of Settings = codes "the settings are bad"
text_of TooSoon = codes "the name may not start again yet"
text_of SeveralLabels = codes "the name has several labels"
