-- What is printed, piece by piece: the fields of docs/CALL-FILES.md, in its words and order. A line
-- is the pieces one after another.
use Rattle.std.specs.Prelude.{ℕ, List, [], ◌∷◌, ◌++◌, length, codes, decimal}
use Rattle.std.specs.Prelude.{None, Option, Some, Result, Ok, Err}
use Rattle.octets.specs.Octets.{part_of}
use Rattle.octets.specs.Words.{little_at}
use Rattle.octets.specs.declared.Endpoint.{Endpoint}
use Rattle.refusal.specs.Numbers.{Report, number, number_at, report_of}
use Rattle.refusal.specs.declared.Refusal.{Refusal}
use Rattle.refusal.specs.declared.Refusal.TheVariants.{Table as TableRefusal}
use Rattle.host.specs.Outcomes.{CallResult, refused, ready, quiet, kept, query, reply}
use Rattle.host.specs.Outcomes.{unique, shared, stopped}
use Rattle.host.specs.declared.Host.{Host}
use Rattle.lookup.specs.Outcomes.{CallResult as LookupResult, refused as lookup_refused}
use Rattle.lookup.specs.Outcomes.{quiet as lookup_quiet, query as lookup_query}
use Rattle.lookup.specs.Outcomes.{part, found, collected, no_such_name}
use Rattle.name_table.specs.Shown.{count_of, table_read}
use Rattle.name_table.specs.declared.BadTable.{BadTable}
use Rattle.name_table.specs.declared.Table.{Table as NameTable}
use Rattle.names.specs.RecordNameWalk.{record_name_at, expanded_at}
use Rattle.names.specs.declared.RecordName.{RecordName}
use Rattle.run_calls.specs.Lines.{hex_of}
use Rattle.run_calls.specs.declared.entry.Entry.{Entry}
use Rattle.run_calls.specs.declared.entry.Why.{Why}
use Rattle.run_calls.specs.declared.entry.Why.TheVariants.{Cut, Short, Kind as KindWhy, Size, Long}
use Rattle.run_calls.specs.declared.entry.Kind.{Kind}
use Rattle.run_calls.specs.declared.entry.Kind.TheVariants.{Table, SetUp, Start, Datagram, Tick}
use Rattle.run_calls.specs.declared.entry.Kind.TheVariants.{Settings, Ask, Answer, AskTick}
use Rattle.run_calls.specs.declared.entry.Kind.TheVariants.{Name}
use Rattle.run_calls.specs.declared.entry.Prefix.{Prefix}

-- a field: its label with the space before it, and its number
abbrev pub field : List ℕ → ℕ → List (List ℕ)
field label n = label ∷ decimal n ∷ []

-- the end of a line
abbrev pub line_end : List (List ℕ)
line_end = codes "\n" ∷ []

-- the word for a kind of entry
unfoldable pub name_of : Kind → List ℕ
name_of Table = codes "table"
name_of SetUp = codes "set-up"
name_of Start = codes "start"
name_of Datagram = codes "datagram"
name_of Tick = codes "tick"
name_of Settings = codes "settings"
name_of Ask = codes "ask"
name_of Answer = codes "answer"
name_of AskTick = codes "ask-tick"
name_of Name = codes "name"

abbrev pub word_of : Kind → List (List ℕ)
word_of kind = (codes " " ++ name_of kind) ∷ []

-- the number and the kind of an entry
abbrev pub entry_pieces : ℕ → Kind → List (List ℕ)
entry_pieces n kind = decimal n ∷ word_of kind

abbrev pub prefix_pieces : Prefix → List (List ℕ)
prefix_pieces p =
    field (codes " if=") p.interface ++ field (codes " t=") p.time ++ field (codes " id=") p.id

-- the number of a refusal; with that of a bad table also the offset of the bad entry
abbrev pub report_pieces : Report → List (List ℕ)
report_pieces (number n) = field (codes " refused no=") n
report_pieces (number_at n at) = field (codes " refused no=") n ++ field (codes " at=") at

abbrev pub refusal_pieces : Refusal → List (List ℕ)
refusal_pieces r = report_pieces (report_of r)

-- a destination: family, all the octets of the address, and port
abbrev pub to_pieces : Endpoint → List (List ℕ)
to_pieces to =
    field (codes " to=") to.address.family ++ (codes "/" ∷ hex_of to.address.octets ∷ [])
    ++ field (codes "/") to.port

-- a word, and what is sent: where it goes, the number of octets, and the octets
abbrev pub sent_pieces : List ℕ → Endpoint → List ℕ → List (List ℕ)
sent_pieces what to sent =
    (what ∷ []) ++ to_pieces to ++ field (codes " len=") (length sent)
    ++ (codes " hex=" ∷ hex_of sent ∷ [])

-- a word, and the number of a name
abbrev pub named_pieces : List ℕ → ℕ → List (List ℕ)
named_pieces what name = (what ∷ []) ++ field (codes " name=") name

-- what a host's call tells that wrote to the start of a buffer
abbrev pub outcome_pieces : CallResult → Endpoint → List ℕ → List (List ℕ)
outcome_pieces (refused t) to out = report_pieces t
outcome_pieces ready to out = codes " ready" ∷ []
outcome_pieces quiet to out = codes " quiet" ∷ []
outcome_pieces (kept name) to out = named_pieces (codes " kept") name
outcome_pieces (query name len) to out =
    sent_pieces (codes " query") to (part_of out 0 len) ++ field (codes " name=") name
outcome_pieces (reply len) to out = sent_pieces (codes " reply") to (part_of out 0 len)
outcome_pieces (unique name) to out = named_pieces (codes " unique") name
outcome_pieces (shared name) to out = named_pieces (codes " shared") name
outcome_pieces (stopped name) to out = named_pieces (codes " stopped") name

-- a word, and a response: where its answers begin, and how many there are
abbrev pub answers_pieces : List ℕ → ℕ → ℕ → List (List ℕ)
answers_pieces what at answers =
    (what ∷ []) ++ field (codes " at=") at ++ field (codes " an=") answers

-- what a lookup's call tells that wrote to the start of a buffer
abbrev pub asked_pieces : LookupResult → Endpoint → List ℕ → List (List ℕ)
asked_pieces (lookup_refused t) to out = report_pieces t
asked_pieces lookup_quiet to out = codes " quiet" ∷ []
asked_pieces (lookup_query len) to out = sent_pieces (codes " query") to (part_of out 0 len)
asked_pieces (part at answers) to out = answers_pieces (codes " part") at answers
asked_pieces (found at answers) to out = answers_pieces (codes " found") at answers
asked_pieces collected to out = codes " found" ∷ []
asked_pieces no_such_name to out = codes " none" ∷ []

-- the line of a host's call
abbrev pub call_line : ℕ → Kind → Prefix → CallResult → Endpoint → List ℕ → List (List ℕ)
call_line n kind p result to out =
    entry_pieces n kind ++ prefix_pieces p ++ outcome_pieces result to out ++ line_end

-- a host that is set up, or the refusal
abbrev pub ready_pieces : Result Host Refusal → List (List ℕ)
ready_pieces (Ok h) = codes " ready" ∷ []
ready_pieces (Err why) = refusal_pieces why

-- the line of a set-up
abbrev pub set_up_line : ℕ → Prefix → Result Host Refusal → List (List ℕ)
set_up_line n p call = entry_pieces n SetUp ++ prefix_pieces p ++ ready_pieces call ++ line_end

-- the line of a lookup's call
abbrev pub lookup_line : ℕ → Kind → Prefix → LookupResult → Endpoint → List ℕ → List (List ℕ)
lookup_line n kind p result to out =
    entry_pieces n kind ++ prefix_pieces p ++ asked_pieces result to out ++ line_end

-- the line of settings for lookups
abbrev pub settings_line : ℕ → List (List ℕ)
settings_line n = entry_pieces n Settings ++ line_end

-- a good table, by its number of names; or the refusal of a bad one
abbrev pub table_pieces : Result NameTable BadTable → List (List ℕ)
table_pieces (Ok t) = field (codes " good names=") (count_of t)
table_pieces (Err bad) = refusal_pieces (TableRefusal bad.at)

-- the line of a table
abbrev pub table_line : ℕ → List ℕ → List (List ℕ)
table_line n table = entry_pieces n Table ++ table_pieces (table_read table) ++ line_end

-- the name of a record: the offset after it, its pointers and labels, and its octets as expanded
abbrev pub name_pieces : RecordName → List ℕ → List (List ℕ)
name_pieces r expanded =
    field (codes " next=") r.next ++ field (codes " pointers=") r.pointers
    ++ field (codes " labels=") r.labels ++ (codes " name=" ∷ hex_of expanded ∷ [])

abbrev pub name_read_pieces : Option RecordName → List ℕ → List (List ℕ)
name_read_pieces (Some r) expanded = name_pieces r expanded ++ line_end
name_read_pieces None expanded = codes " bad\n" ∷ []

-- the message of a body that begins with an offset of two octets
abbrev pub message_of : List ℕ → List ℕ
message_of body = part_of body 2 (length body)

-- the line of a name in a record
abbrev pub name_line : ℕ → List ℕ → List (List ℕ)
name_line n body =
    entry_pieces n Name
    ++ name_read_pieces (record_name_at (message_of body) (little_at body 0))
    (expanded_at (message_of body) (little_at body 0))

-- why a run ends
abbrev pub word_for : Why → List ℕ
word_for Cut = codes "cut"
word_for Short = codes "short"
word_for KindWhy = codes "kind"
word_for Size = codes "size"
word_for Long = codes "long"

abbrev pub why_pieces : Why → List (List ℕ)
why_pieces why = (codes " why=" ++ word_for why ++ codes "\n") ∷ []

-- the line of a run that ends at an offset before its file does; none where an entry was read there
abbrev pub end_line : ℕ → Result Entry Why → List (List ℕ)
end_line offset (Err why) = field (codes "end at=") offset ++ why_pieces why
end_line offset (Ok e) = []
