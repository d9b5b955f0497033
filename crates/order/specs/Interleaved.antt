-- Two lists of calls, each on its own interface, all at one time: every way to interleave them gives the same, and each list gives what it
-- gives alone. proofs/Interleaved.antt has the proof, from the theorem about two calls.
use Rattle.std.specs.Prelude.{ℕ, ◌≡◌, ◌≢◌, List, [], ◌∷◌, ◌++◌, cond, eqb}
use Rattle.octets.specs.declared.Endpoint.{Endpoint}
use Rattle.host.specs.Outcomes.{CallResult}
use Rattle.host.specs.declared.Host.{Host}
use Rattle.order.specs.Calls.{Call, made, interface_in, time_in}

-- a call is on interface i, at a time; every call of a list is
pub record IsAt (i time : ℕ) (c : Call) : Type 0 where
  pub interface : interface_in c ≡ i
  pub moment : time_in c ≡ time

abbrev pub AllAt : ℕ → ℕ → List Call → Type 0
AllAt i time [] = Unit
AllAt i time (c ∷ cs) = IsAt i time c × AllAt i time cs

-- the third list takes the next call of the first or of the second, until both are at their ends
pub data Interleaves : List Call → List Call → List Call → Type 0 where
  ended : Interleaves [] [] []
  from_first : {c : Call} {xs ys zs : List Call} → Interleaves xs ys zs → Interleaves (c ∷ xs) ys (c ∷ zs)
  from_second : {c : Call} {xs ys zs : List Call} → Interleaves xs ys zs → Interleaves xs (c ∷ ys) (c ∷ zs)

-- the state after the calls of a list, made one after another
abbrev pub after : Host → List Call → Host
after h [] = h
after h (c ∷ cs) = after (made c h).host cs

-- what a call tells: its interface, the outcome, the destination and every octet of its buffer; and what those of a list tell
pub record Told : Type 0 where
  pub interface : ℕ
  pub result : CallResult
  pub to : Endpoint
  pub octets : List ℕ

abbrev pub told : Call → Host → Told
told c h = record { interface = interface_in c; result = (made c h).result; to = (made c h).to; octets = (made c h).octets }

abbrev pub all_told : Host → List Call → List Told
all_told h [] = []
all_told h (c ∷ cs) = told c h ∷ all_told (made c h).host cs

-- what is told on interface i, in the same order
abbrev pub told_on : ℕ → List Told → List Told
told_on i [] = []
told_on i (t ∷ ts) = cond (eqb t.interface i) (t ∷ told_on i ts) (told_on i ts)

-- The calls zs, made of xs on interface i and ys on interface j, leave the state that xs and then ys leave; those on i tell what xs tell
-- alone, and those on j what ys tell alone.
pub record AsAlone (h : Host) (i j : ℕ) (xs ys zs : List Call) : Type 0 where
  pub state : after h zs ≡ after h (xs ++ ys)
  pub first : told_on i (all_told h zs) ≡ all_told h xs
  pub second : told_on j (all_told h zs) ≡ all_told h ys

abbrev pub EachAsAlone : Type 0
EachAsAlone =
    (h : Host) (i j time : ℕ) (xs ys zs : List Call) → i ≢ j → AllAt i time xs → AllAt j time ys → Interleaves xs ys zs
    → AsAlone h i j xs ys zs

-- Two ways to make calls on interfaces i and j give the same: the state, and what is told on each.
pub record SameRun (h : Host) (i j : ℕ) (zs ws : List Call) : Type 0 where
  pub state : after h zs ≡ after h ws
  pub first : told_on i (all_told h zs) ≡ told_on i (all_told h ws)
  pub second : told_on j (all_told h zs) ≡ told_on j (all_told h ws)

abbrev pub EveryWay : Type 0
EveryWay =
    (h : Host) (i j time : ℕ) (xs ys zs ws : List Call) → i ≢ j → AllAt i time xs → AllAt j time ys → Interleaves xs ys zs → Interleaves xs ys ws
    → SameRun h i j zs ws
