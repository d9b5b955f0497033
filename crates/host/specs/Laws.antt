-- What holds of every call, in plain words.
use Rattle.std.specs.Prelude.{ℕ, ◌≡◌, ◌≢◌, List, [], ◌∷◌, cond, eqb}
use Rattle.refusal.specs.Numbers.{Report, number_in}
use Rattle.refusal.specs.Checks.{Checks, fail, pass, verdict}
use Rattle.host.specs.State.{interface_of, settings_of, state_of}
use Rattle.host.specs.Outcomes.{refused, Done, nowhere}
use Rattle.host.specs.declared.Host.{Host}

-- A call changes nothing and sends nothing.
pub record Unchanged (h : Host) (out : List ℕ) (d : Done) : Type 0 where
  -- the state, its clock too
  pub host : d.host ≡ h
  -- every octet of the lent buffer
  pub octets : d.octets ≡ out
  pub to : d.to ≡ nowhere

-- A call is accepted: what it gives is no refusal, whatever the number.
abbrev pub Accepted : Done → Type 0
Accepted d = (t : Report) → d.result ≢ refused t

-- Between the states h and later, only the k-th name of interface i may have changed, and the clock.
pub record OnlyChanges (h later : Host) (i k : ℕ) : Type 0 where
  -- the other interfaces are as they were
  pub interfaces : (j : ℕ) → j ≢ i → interface_of later j ≡ interface_of h j
  -- and the other names of this one
  pub names : (j : ℕ) → j ≢ k → state_of later i j ≡ state_of h i j
  -- the settings never change
  pub settings : settings_of later.interfaces ≡ settings_of h.interfaces

-- At most one name of interface i has changed.
pub record ChangesOne (h later : Host) (i : ℕ) : Type 0 where
  pub name : ℕ
  pub only : OnlyChanges h later i name

-- Two hosts look the same from interface i: the same clock, the same settings of all interfaces, the same names here. What the names on
-- the other interfaces do is left open.
pub record SameHere (h g : Host) (i : ℕ) : Type 0 where
  pub clock : h.clock ≡ g.clock
  pub settings : settings_of h.interfaces ≡ settings_of g.interfaces
  pub here : interface_of h i ≡ interface_of g i

-- Two calls give the same, as far as interface i can tell.
pub record SameDone (d e : Done) (i : ℕ) : Type 0 where
  pub result : d.result ≡ e.result
  pub to : d.to ≡ e.to
  pub octets : d.octets ≡ e.octets
  pub after : SameHere d.host e.host i

-- Two calls tell the same: the outcome, the destination, and every octet of the lent buffer.
pub record SameTold (d e : Done) : Type 0 where
  pub result : d.result ≡ e.result
  pub to : d.to ≡ e.to
  pub octets : d.octets ≡ e.octets

-- Two calls give the same but for the clock.
pub record SameButClock (d e : Done) : Type 0 where
  pub told : SameTold d e
  -- all settings and every name, on every interface
  pub interfaces : d.host.interfaces ≡ e.host.interfaces

-- The refusal numbers of some checks, in the order in which they are made.
abbrev pub numbers_of : Checks → List ℕ
numbers_of (fail test t rest) = number_in t ∷ numbers_of rest
numbers_of pass = []

-- The same checks less those with a number.
abbrev pub without : ℕ → Checks → Checks
without n (fail test t rest) = cond (eqb (number_in t) n) (without n rest) (fail test t (without n rest))
without n pass = pass

-- Checks are made in the order of these numbers: those with the number `never` never refuse, and the others have these numbers.
pub record InOrder (checks : Checks) (never : ℕ) (numbers : List ℕ) : Type 0 where
  pub same : verdict checks ≡ verdict (without never checks)
  pub order : numbers_of (without never checks) ≡ numbers
