-- Kinds of entries: 1 unique name, 2 shared name (body: a name), 3 A (4 octets), 4 AAAA (16), 5 PTR (a name), 6 mask (1 octet).
use Rattle.std.specs.Prelude.{ℕ, Bool, true, false, cond, eqb}
use Rattle.octets.specs.Bounds.{used_by4, used_by6}
use Rattle.name_table.specs.Bounds.{type_a, type_ptr, type_aaaa}
use Rattle.name_table.specs.declared.Kind.{Kind}
use Rattle.name_table.specs.declared.Kind.TheVariants.{Unique, Shared, Octets, Target, Mask, Unknown}

-- the form of the body, and a record's type
unfoldable pub kind_of : ℕ → Kind
kind_of k =
    cond (eqb k 1) Unique
    (cond (eqb k 2) Shared
    (cond (eqb k 3) (Octets type_a used_by4)
    (cond (eqb k 4) (Octets type_aaaa used_by6)
    (cond (eqb k 5) (Target type_ptr)
    (cond (eqb k 6) Mask
    Unknown)))))

-- a shared name
abbrev pub is_shared_kind : Kind → Bool
is_shared_kind Unique = false
is_shared_kind Shared = true
is_shared_kind (Octets rtype len) = false
is_shared_kind (Target rtype) = false
is_shared_kind Mask = false
is_shared_kind Unknown = false
