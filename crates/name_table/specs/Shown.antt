-- How the code's values show those of the definitions: a name's octets are a part of the table. What reading a table gives.
use Rattle.name_table.specs.declared.Named.{Named}
use Rattle.std.specs.Prelude.{ℕ, ◌-◌, min, List, ◌++◌, Bool, map, length, take, replicate, Option, Result, Ok, Err, option_map, slice_get}
use Rattle.octets.specs.Octets.{part_of}
use Rattle.names.specs.Folding.{same_name}
use Rattle.name_table.specs.Bounds.{most_names}
use Rattle.name_table.specs.Kinds.{kind_of}
use Rattle.name_table.specs.Check.{Held, Checked, good, bad, check_table}
use Rattle.name_table.specs.declared.Entry.{Entry}
use Rattle.name_table.specs.declared.Place.{Place}
use Rattle.name_table.specs.declared.Table.{Table}
use Rattle.name_table.specs.declared.BadTable.{BadTable}

-- an entry that the code cuts off, and what follows it
abbrev pub cut : Entry → List ℕ → ℕ × List ℕ × List ℕ
cut e rest = (e.kind, e.body.now, rest)

-- a name that the code keeps, with its octets
abbrev pub held_of : List ℕ → Place → Held
held_of s p = record { kind = p.kind; start = p.start; end = p.end; octets = part_of s p.start p.end }

abbrev pub held_all : List ℕ → List Place → List Held
held_all s ps = map (held_of s) ps

-- a name that is kept equals a given one
abbrev pub is_place : List ℕ → List ℕ → Place → Bool
is_place s x p = same_name (part_of s p.start p.end) x

-- how many names a table has; a number above the most counts as the most
abbrev pub count_of : Table → ℕ
count_of t = min t.names most_names

-- the places that count
abbrev pub places_of : Table → List Place
places_of t = take (count_of t) t.places

-- the names of a table
abbrev pub names_of : List ℕ → Table → List Held
names_of s t = held_all s (places_of t)

-- a name as the code keeps it
abbrev pub place_of : Held → Place
place_of h = record { kind = h.kind; start = h.start; end = h.end }

-- some places, and after them those of no name
abbrev pub padded : List Place → List Place
padded ps = ps ++ replicate (most_names - length ps) (record { kind = 0; start = 0; end = 0 })

-- the table of some names
abbrev pub table_of : List Held → Table
table_of hs = record { places = padded (map place_of hs); names = length hs }

-- what reading a table gives: its names, or the offset of its first bad entry
abbrev pub read_by : Checked → Result Table BadTable
read_by (good hs) = Ok (table_of hs)
read_by (bad at) = Err (record { at = at })

unfoldable pub table_read : List ℕ → Result Table BadTable
table_read s = read_by (check_table s)

-- what a reading of a table says
abbrev pub shown : List ℕ → Result Table BadTable → Checked
shown s (Ok t) = good (names_of s t)
shown s (Err b) = bad b.at

-- a name, its kind by its number
abbrev pub named_of : Place → Named
named_of p = record { kind = kind_of p.kind; start = p.start; end = p.end }

-- the k-th name of a table
unfoldable pub name_of : Table → ℕ → Option Named
name_of t k = option_map named_of (slice_get (places_of t) k)
