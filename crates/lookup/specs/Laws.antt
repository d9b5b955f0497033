-- What holds of every call of a lookup, in plain words.
use Rattle.std.specs.Prelude.{ℕ, ◌≡◌, ◌≢◌, List}
use Rattle.refusal.specs.Numbers.{Report}
use Rattle.host.specs.Outcomes.{nowhere}
use Rattle.lookup.specs.Outcomes.{refused, Done}
use Rattle.lookup.specs.declared.Lookup.{Lookup}

-- A call leaves the lookup l, its clock too, and every octet of the lent buffer; nothing is sent.
pub record Unchanged (l : Lookup) (out : List ℕ) (d : Done) : Type 0 where
  pub lookup : d.lookup ≡ l
  pub octets : d.octets ≡ out
  pub to : d.to ≡ nowhere

-- A call is accepted: what it gives is no refusal, whatever the number.
abbrev pub Accepted : Done → Type 0
Accepted d = (t : Report) → d.result ≢ refused t

-- What a lookup asks, and where, never changes after its start.
pub record SameQuestion (l later : Lookup) : Type 0 where
  pub settings : later.settings ≡ l.settings
  pub interface : later.interface ≡ l.interface
  pub name : later.name ≡ l.name
  pub len : later.len ≡ l.len
  pub qtype : later.qtype ≡ l.qtype
  pub id : later.id ≡ l.id
