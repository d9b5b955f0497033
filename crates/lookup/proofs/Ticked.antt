-- A tick sends the query again, gives up, ends as found or is quiet, exactly under the conditions of specs/ExactlyWhen.antt, and what each
-- then gives, whole.
use Rattle.std.proofs.Common.{ℕ, ◌+◌, ◌≤◌, ◌≡◌, ap, ◌∙◌, subst, ◌↔◌, List, Bool, false, cond, arith, length, take, length-take}
use Rattle.octets.proofs.Tests.{not_below}
use Rattle.refusal.specs.Numbers.{Report}
use Rattle.refusal.specs.Checks.{Clear, passed}
use Rattle.refusal.proofs.Checks.{passes}
use Rattle.host.specs.State.{IsInterval, due_at}
use Rattle.host.specs.Early.{no_interface}
use Rattle.host.proofs.Conditions.{interval_is}
use Rattle.lookup.specs.State.{setting_of, with_phase}
use Rattle.lookup.specs.Outcomes.{Done, refusal, query, quiet, collected, no_such_name}
use Rattle.lookup.specs.Tick.{Turn, rest, again, give_up, finish, tick_checks, turn_of, turned, tick}
use Rattle.lookup.specs.ExactlyWhen.{IsUsed, lookup_query, Comes, Asks, TicksWhen, RepeatsWhen, GivesUpWhen, FinishesWhen, QuietWhen}
use Rattle.lookup.specs.declared.Phase.TheVariants.{Asking, Ended}
use Rattle.lookup.specs.declared.Lookup.{Lookup}
use Rattle.lookup.proofs.Laws.{tick_by, Ticks, tick_is}
use Rattle.lookup.proofs.Conditions.{used_is, clock_good}
use Rattle.lookup.proofs.Turns.{Serves, repeats, gives_up, finishes, rests, serves_is, turn_again, turn_gives_up, turn_finishes, turn_rests}
use Rattle.lookup.proofs.Started.{sent_is}

module _ (l : Lookup) (time id : ℕ) (out : List ℕ) where
  ticks_clear : TicksWhen l time out → Clear (tick_checks l time out)
  ticks_clear w = ((not_below (length out) 512).1 w.room, ((clock_good l.clock time).1 (w.latest, w.in_order), tt))

  ticks_when : Clear (tick_checks l time out) → TicksWhen l time out
  ticks_when c =
      let t = (clock_good l.clock time).0 c.1.0 in
      record { room = (not_below (length out) 512).0 c.0; latest = t.0; in_order = t.1 }

  abbrev unused_here : Bool
  unused_here = no_interface l.interface (setting_of l).family

  -- by the turn
  turned_is : TicksWhen l time out → (u : Turn) → turn_of (cond unused_here Ended l.phase) time ≡ u → tick l time id out ≡ turned u l time out
  turned_is w u e = tick_by l time id out passed (passes _ (ticks_clear w)) ∙ ap (λ (x : Turn). turned x l time out) e

  used_turn : IsUsed l.interface (setting_of l) → (u : Turn) → turn_of l.phase time ≡ u → turn_of (cond unused_here Ended l.phase) time ≡ u
  used_turn v u e = rw ((used_is l.interface (setting_of l)).1 v) e

  -- The same query again: one send more, due an interval of n from now.
  pub repeats_is : (sends n : ℕ) → length l.name ≤ 255 → RepeatsWhen l time out sends → IsInterval (setting_of l) n
      → Asks (with_phase l (Asking (sends + 1) (due_at (time + n))) time) (lookup_query l.id (take l.len l.name) l.qtype) out (tick l time id out)
  repeats_is sends n s w v =
      let e : tick l time id out ≡ turned (again sends) l time out =
      turned_is w.ticks (again sends) (used_turn w.used (again sends) (turn_again l.phase time sends w.timer w.phase w.due w.few)) in
      let k : length (take l.len l.name) ≤ 255 = omega (arith, length-take l.len l.name) in
      rw (e, interval_is _ n v) (sent_is (with_phase l (Asking (sends + 1) (due_at (time + n))) time) l.id (take l.len l.name) l.qtype out w.used.family k w.ticks.room)

  -- No such name: it has ended.
  pub gives_up_is : GivesUpWhen l time out → Comes l Ended time out no_such_name (tick l time id out)
  gives_up_is w =
      turned_is w.ticks give_up (used_turn w.used give_up (turn_gives_up l.phase time w.sends w.timer w.phase w.due w.all_sent))

  -- As found: it has ended.
  pub finishes_is : FinishesWhen l time out → Comes l Ended time out collected (tick l time id out)
  finishes_is w = turned_is w.ticks finish (used_turn w.used finish (turn_finishes l.phase time w.timer w.phase w.due))

  -- Quiet: only the clock moves.
  pub quiet_is : QuietWhen l time out → Comes l l.phase time out quiet (tick l time id out)
  quiet_is w =
      turned_is w.ticks rest
      (turn_rests unused_here l.phase time (λ e d. w.none ((used_is l.interface (setting_of l)).0 e) d))

  -- What a tick comes to, with its conditions.
  pub data Came : Done → Type 0 where
    refused_first : (t : Report) → Came (refusal l out t)
    came : (u : Turn) → TicksWhen l time out → Serves unused_here l.phase time u → Came (turned u l time out)

  pub came_is : Came (tick l time id out)
  came_is = go (tick_is l time id out)
    where
      go : {d : Done} → Ticks l time out d → Came d
      go (Ticks.refuses t) = refused_first t
      go (Ticks.serves u w c) = came u (ticks_when c) (subst (Serves unused_here l.phase time) w (serves_is unused_here l.phase time))

  pub used_here : unused_here ≡ false → IsUsed l.interface (setting_of l)
  used_here e = (used_is l.interface (setting_of l)).0 e

  -- A tick sends a query exactly where the lookup is due and has sent less than three,
  pub repeats_exactly : ((len : ℕ) × ((tick l time id out).result ≡ query len)) ↔ ((sends : ℕ) × RepeatsWhen l time out sends)
  repeats_exactly = (
    λ x. to came_is x.0 x.1,
    λ x.
        let w = x.1 in
        (_, ap (λ (d : Done). d.result) (turned_is w.ticks (again x.0) (used_turn w.used (again x.0) (turn_again l.phase time x.0 w.timer w.phase w.due w.few)))),
  )
    where
      to : {d : Done} → Came d → (len : ℕ) → d.result ≡ query len → (sends : ℕ) × RepeatsWhen l time out sends
      to (refused_first t) len e = let z : ◌≡◌ {A = ℕ} 0 1 = cc in absurd (omega arith)
      to (came v w (rests n)) len e = let z : ◌≡◌ {A = ℕ} 0 1 = cc in absurd (omega arith)
      to (came v w (repeats n timer u p d f)) len e = (n, record { ticks = w; used = used_here u; timer = timer; phase = p; due = d; few = f })
      to (came v w (gives_up n timer u p d f)) len e = let z : ◌≡◌ {A = ℕ} 0 1 = cc in absurd (omega arith)
      to (came v w (finishes timer u p d)) len e = let z : ◌≡◌ {A = ℕ} 0 1 = cc in absurd (omega arith)

  -- there is no such name exactly where it is due after three or more,
  pub gives_up_exactly : ((tick l time id out).result ≡ no_such_name) ↔ GivesUpWhen l time out
  gives_up_exactly = (to came_is, λ w. ap (λ (d : Done). d.result) (gives_up_is w))
    where
      to : {d : Done} → Came d → d.result ≡ no_such_name → GivesUpWhen l time out
      to (refused_first t) e = let z : ◌≡◌ {A = ℕ} 0 1 = cc in absurd (omega arith)
      to (came v w (rests n)) e = let z : ◌≡◌ {A = ℕ} 0 1 = cc in absurd (omega arith)
      to (came v w (repeats n timer u p d f)) e = let z : ◌≡◌ {A = ℕ} 0 1 = cc in absurd (omega arith)
      to (came v w (gives_up n timer u p d f)) e = record { ticks = w; used = used_here u; sends = n; timer = timer; phase = p; due = d; all_sent = f }
      to (came v w (finishes timer u p d)) e = let z : ◌≡◌ {A = ℕ} 0 1 = cc in absurd (omega arith)

  -- it ends as found exactly where it is due after it has collected,
  pub finishes_exactly : ((tick l time id out).result ≡ collected) ↔ FinishesWhen l time out
  finishes_exactly = (to came_is, λ w. ap (λ (d : Done). d.result) (finishes_is w))
    where
      to : {d : Done} → Came d → d.result ≡ collected → FinishesWhen l time out
      to (refused_first t) e = let z : ◌≡◌ {A = ℕ} 0 1 = cc in absurd (omega arith)
      to (came v w (rests n)) e = let z : ◌≡◌ {A = ℕ} 0 1 = cc in absurd (omega arith)
      to (came v w (repeats n timer u p d f)) e = let z : ◌≡◌ {A = ℕ} 0 1 = cc in absurd (omega arith)
      to (came v w (gives_up n timer u p d f)) e = let z : ◌≡◌ {A = ℕ} 0 1 = cc in absurd (omega arith)
      to (came v w (finishes timer u p d)) e = record { ticks = w; used = used_here u; timer = timer; phase = p; due = d }

  -- and it is quiet exactly where nothing is due.
  pub quiet_exactly : ((tick l time id out).result ≡ quiet) ↔ QuietWhen l time out
  quiet_exactly = (to came_is, λ w. ap (λ (d : Done). d.result) (quiet_is w))
    where
      to : {d : Done} → Came d → d.result ≡ quiet → QuietWhen l time out
      to (refused_first t) e = let z : ◌≡◌ {A = ℕ} 0 1 = cc in absurd (omega arith)
      to (came v w (rests n)) e = record { ticks = w; none = λ u d. n ((used_is l.interface (setting_of l)).1 u) d }
      to (came v w (repeats n timer u p d f)) e = let z : ◌≡◌ {A = ℕ} 0 1 = cc in absurd (omega arith)
      to (came v w (gives_up n timer u p d f)) e = let z : ◌≡◌ {A = ℕ} 0 1 = cc in absurd (omega arith)
      to (came v w (finishes timer u p d)) e = let z : ◌≡◌ {A = ℕ} 0 1 = cc in absurd (omega arith)
