-- What a tick calls for, by the phase and the time: each turn with its plain conditions.
use Rattle.std.proofs.Common.{ℕ, ◌<◌, ◌≤◌, ◌≡◌, refl, Bool, true, false, cond, ltb, leb, arith}
use Rattle.octets.proofs.Tests.{split, never, below_number, upto_number, not_below, not_upto}
use Rattle.host.specs.declared.Timer.{Timer}
use Rattle.lookup.specs.Tick.{Turn, rest, again, give_up, finish, turn_of}
use Rattle.lookup.specs.ExactlyWhen.{DueBy}
use Rattle.lookup.specs.declared.Phase.{Phase}
use Rattle.lookup.specs.declared.Phase.TheVariants.{Asking, Collecting, Ended}

-- of a lookup on an unused interface or a used one, in a phase
pub data Serves (unused : Bool) (p : Phase) (time : ℕ) : Turn → Type 0 where
  rests : (unused ≡ false → DueBy p time → ⊥) → Serves unused p time rest
  repeats : (sends : ℕ) (timer : Timer) → unused ≡ false → p ≡ Asking sends timer → timer.due ≤ time → sends < 3 → Serves unused p time (again sends)
  gives_up : (sends : ℕ) (timer : Timer) → unused ≡ false → p ≡ Asking sends timer → timer.due ≤ time → 3 ≤ sends → Serves unused p time give_up
  finishes : (timer : Timer) → unused ≡ false → p ≡ Collecting timer → timer.due ≤ time → Serves unused p time finish

pub serves_is : (unused : Bool) (p : Phase) (time : ℕ) → Serves unused p time (turn_of (cond unused Ended p) time)
serves_is true p time = rests (λ e. never refl e)
serves_is false (Asking sends timer) time =
    split (leb timer.due time)
    (λ d. split (ltb sends 3)
    (λ s. rw (d, s) (repeats sends timer refl refl ((upto_number _ _).0 d) ((below_number _ _).0 s)))
    (λ s. rw (d, s) (gives_up sends timer refl refl ((upto_number _ _).0 d) ((not_below _ _).0 s))))
    (λ d. rw d (rests (λ e l. omega (arith, (not_upto timer.due time).0 d))))
serves_is false (Collecting timer) time =
    split (leb timer.due time)
    (λ d. rw d (finishes timer refl refl ((upto_number _ _).0 d)))
    (λ d. rw d (rests (λ e l. omega (arith, (not_upto timer.due time).0 d))))
serves_is false Ended time = rests (λ e l. l)

-- ---- from the conditions

pub turn_again : (p : Phase) (time sends : ℕ) (timer : Timer) → p ≡ Asking sends timer → timer.due ≤ time → sends < 3 → turn_of p time ≡ again sends
turn_again p time sends timer e d l = rw (e, (upto_number timer.due time).1 d, (below_number sends 3).1 l)

pub turn_gives_up : (p : Phase) (time sends : ℕ) (timer : Timer) → p ≡ Asking sends timer → timer.due ≤ time → 3 ≤ sends → turn_of p time ≡ give_up
turn_gives_up p time sends timer e d l = rw (e, (upto_number timer.due time).1 d, (not_below sends 3).1 l)

pub turn_finishes : (p : Phase) (time : ℕ) (timer : Timer) → p ≡ Collecting timer → timer.due ≤ time → turn_of p time ≡ finish
turn_finishes p time timer e d = rw (e, (upto_number timer.due time).1 d)

pub turn_rests : (unused : Bool) (p : Phase) (time : ℕ) → (unused ≡ false → DueBy p time → ⊥) → turn_of (cond unused Ended p) time ≡ rest
turn_rests true p time n = refl
turn_rests false (Asking sends timer) time n = split (leb timer.due time) (λ d. absurd (n refl ((upto_number _ _).0 d))) (λ d. rw d)
turn_rests false (Collecting timer) time n = split (leb timer.due time) (λ d. absurd (n refl ((upto_number _ _).0 d))) (λ d. rw d)
turn_rests false Ended time n = refl
