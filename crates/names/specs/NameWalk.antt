-- The reading of a name without pointers, label by label, to be computed. What it means: specs/Names.antt.
use Rattle.names.specs.declared.Name.{Name}
use Rattle.std.specs.Prelude.{ℕ, zero, suc, ◌+◌, List, cond, length, ltb, leb, eqb, None, Option, Some}
use Rattle.octets.specs.Octets.{octet_at}
use Rattle.names.specs.Bounds.{longest_label, longest_name}

-- a name with so many labels more
abbrev pub more_labels : ℕ → Option Name → Option Name
more_labels m (Some r) = Some (record { len = r.len; labels = m + r.labels })
more_labels m None = None

-- the labels of a name that was read; none if it was not
abbrev pub labels_of : Option Name → ℕ
labels_of (Some r) = r.labels
labels_of None = 0

-- One turn at p, after n octets of the name: its zero octet, or a label, after which `rest` reads on. A label leaves room for the
-- zero octet, which is no label itself.
abbrev pub name_turn : List ℕ → ℕ → ℕ → (ℕ → ℕ → Option Name) → Option Name
name_turn s p n rest =
    cond (leb (length s) p) None
    (cond (eqb (octet_at s p) 0) (Some (record { len = n + 1; labels = 0 }))
    (cond (ltb longest_label (octet_at s p)) None
    (cond (leb longest_name (n + 1 + octet_at s p)) None
    (more_labels 1 (rest (p + 1 + octet_at s p) (n + 1 + octet_at s p))))))

-- at most k turns
unfoldable pub name_from : ℕ → List ℕ → ℕ → ℕ → Option Name
name_from zero s p n = None
name_from (suc k) s p n = name_turn s p n (name_from k s)

-- the name at an offset: each turn takes at least one of its octets, so the turns never run out
abbrev pub name_at : List ℕ → ℕ → Option Name
name_at s at = name_from longest_name s at 0
