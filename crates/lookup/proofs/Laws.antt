-- Laws of the three calls: a refusal changes nothing; an accepted call sets the clock; what a lookup asks never changes after its start; a
-- datagram with T set is refused.
use Rattle.std.proofs.Common.{ℕ, ◌≡◌, refl, ap, List, Bool, true, arith}
use Rattle.octets.specs.declared.Setting.{Setting}
use Rattle.octets.proofs.Tests.{split, never}
use Rattle.refusal.specs.Numbers.{Report}
use Rattle.refusal.specs.Checks.{Verdict, refused as refused_by, passed, verdict, Clear}
use Rattle.refusal.proofs.Checks.{clear}
use Rattle.message.specs.Header.{header_of}
use Rattle.lookup.specs.State.{ended_lookup}
use Rattle.lookup.specs.Outcomes.{refused, is_refused, Done}
use Rattle.lookup.specs.Start.{start_checks, start_if, start}
use Rattle.lookup.specs.Receive.{Arrival, header, receive_checks, receive_if, receive}
use Rattle.lookup.specs.Tick.{tick_checks, Turn, rest, again, give_up, finish, turn_of, turned, tick_if, tick}
use Rattle.lookup.specs.State.{phase_of}
use Rattle.lookup.specs.Laws.{Unchanged, Accepted, SameQuestion}
use Rattle.lookup.specs.declared.Lookup.{Lookup}

-- ---- by the verdict

pub start_by : (settings : List Setting) (i : ℕ) (name : List ℕ) (qtype : ℕ) (permission : Bool) (time id : ℕ) (out : List ℕ) (v : Verdict)
    → verdict (start_checks settings i name permission time out) ≡ v → start settings i name qtype permission time id out ≡ start_if v settings i name qtype time id out
unfolding start
start_by settings i name qtype permission time id out v e = ap (λ (w : Verdict). start_if w settings i name qtype time id out) e

pub receive_by : (l : Lookup) (a : Arrival) (v : Verdict) → verdict (receive_checks l a) ≡ v → receive l a ≡ receive_if v l a
unfolding receive
receive_by l a v e = ap (λ (w : Verdict). receive_if w l a) e

pub tick_by : (l : Lookup) (time id : ℕ) (out : List ℕ) (v : Verdict) → verdict (tick_checks l time out) ≡ v → tick l time id out ≡ tick_if v l time out
unfolding tick
tick_by l time id out v e = ap (λ (w : Verdict). tick_if w l time out) e

-- ---- what a call comes to

pub data Starts (settings : List Setting) (i : ℕ) (name : List ℕ) (qtype : ℕ) (permission : Bool) (time id : ℕ) (out : List ℕ) : Done → Type 0 where
  refuses : (t : Report) → Starts settings i name qtype permission time id out (start_if (refused_by t) settings i name qtype time id out)
  asks : Clear (start_checks settings i name permission time out) → Starts settings i name qtype permission time id out (start_if passed settings i name qtype time id out)

pub start_is : (settings : List Setting) (i : ℕ) (name : List ℕ) (qtype : ℕ) (permission : Bool) (time id : ℕ) (out : List ℕ)
    → Starts settings i name qtype permission time id out (start settings i name qtype permission time id out)
start_is settings i name qtype permission time id out = go (verdict (start_checks settings i name permission time out)) refl
  where
    go : (v : Verdict) → verdict (start_checks settings i name permission time out) ≡ v → Starts settings i name qtype permission time id out (start settings i name qtype permission time id out)
    go (refused_by t) e = rw (start_by settings i name qtype permission time id out (refused_by t) e) (refuses t)
    go passed e = rw (start_by settings i name qtype permission time id out passed e) (asks (clear (start_checks settings i name permission time out) e))

pub data Receives (l : Lookup) (a : Arrival) : Done → Type 0 where
  refuses : (t : Report) → Receives l a (receive_if (refused_by t) l a)
  hears : Clear (receive_checks l a) → Receives l a (receive_if passed l a)

pub receive_is : (l : Lookup) (a : Arrival) → Receives l a (receive l a)
receive_is l a = go (verdict (receive_checks l a)) refl
  where
    go : (v : Verdict) → verdict (receive_checks l a) ≡ v → Receives l a (receive l a)
    go (refused_by t) e = rw (receive_by l a (refused_by t) e) (refuses t)
    go passed e = rw (receive_by l a passed e) (hears (clear (receive_checks l a) e))

pub data Ticks (l : Lookup) (time : ℕ) (out : List ℕ) : Done → Type 0 where
  refuses : (t : Report) → Ticks l time out (tick_if (refused_by t) l time out)
  serves : (u : Turn) → turn_of (phase_of l) time ≡ u → Clear (tick_checks l time out) → Ticks l time out (turned u l time out)

pub tick_is : (l : Lookup) (time id : ℕ) (out : List ℕ) → Ticks l time out (tick l time id out)
tick_is l time id out = go (verdict (tick_checks l time out)) refl
  where
    go : (v : Verdict) → verdict (tick_checks l time out) ≡ v → Ticks l time out (tick l time id out)
    go (refused_by t) e = rw (tick_by l time id out (refused_by t) e) (refuses t)
    go passed e = rw (tick_by l time id out passed e) (serves (turn_of (phase_of l) time) refl (clear (tick_checks l time out) e))

-- ---- a refusal changes nothing

-- A refused start gives an ended lookup on an unused interface, all else zero.
pub start_refused : (settings : List Setting) (i : ℕ) (name : List ℕ) (qtype : ℕ) (permission : Bool) (time id : ℕ) (out : List ℕ) (t : Report)
    → (start settings i name qtype permission time id out).result ≡ refused t → Unchanged ended_lookup out (start settings i name qtype permission time id out)
start_refused settings i name qtype permission time id out t = go (start_is settings i name qtype permission time id out)
  where
    go : {d : Done} → Starts settings i name qtype permission time id out d → d.result ≡ refused t → Unchanged ended_lookup out d
    go (refuses u) e = record { lookup = refl; octets = refl; to = refl }
    go (asks c) e = never (ap is_refused e) refl

pub receive_refused : (l : Lookup) (a : Arrival) (t : Report) → (receive l a).result ≡ refused t → Unchanged l a.out (receive l a)
receive_refused l a t = go (receive_is l a)
  where
    go : {d : Done} → Receives l a d → d.result ≡ refused t → Unchanged l a.out d
    go (refuses u) e = record { lookup = refl; octets = refl; to = refl }
    go (hears c) e =
        split (header a).conflict
        (λ x. absurd (let z : ◌≡◌ {A = ℕ} 0 1 = cc (rw x at e) in omega arith))
        (λ x. absurd (let z : ◌≡◌ {A = ℕ} 0 1 = cc (rw x at e) in omega arith))

pub tick_refused : (l : Lookup) (time id : ℕ) (out : List ℕ) (t : Report) → (tick l time id out).result ≡ refused t → Unchanged l out (tick l time id out)
tick_refused l time id out t = go (tick_is l time id out)
  where
    go : {d : Done} → Ticks l time out d → d.result ≡ refused t → Unchanged l out d
    go (refuses u) e = record { lookup = refl; octets = refl; to = refl }
    go (serves rest w c) e = never (ap is_refused e) refl
    go (serves (again n) w c) e = never (ap is_refused e) refl
    go (serves give_up w c) e = never (ap is_refused e) refl
    go (serves finish w c) e = never (ap is_refused e) refl

-- ---- an accepted call sets the clock

pub start_clock : (settings : List Setting) (i : ℕ) (name : List ℕ) (qtype : ℕ) (permission : Bool) (time id : ℕ) (out : List ℕ) → Accepted (start settings i name qtype permission time id out)
    → (start settings i name qtype permission time id out).lookup.clock ≡ time
start_clock settings i name qtype permission time id out = go (start_is settings i name qtype permission time id out)
  where
    go : {d : Done} → Starts settings i name qtype permission time id out d → Accepted d → d.lookup.clock ≡ time
    go (refuses u) x = absurd (x u refl)
    go (asks c) x = refl

pub receive_clock : (l : Lookup) (a : Arrival) → Accepted (receive l a) → (receive l a).lookup.clock ≡ a.time
receive_clock l a = go (receive_is l a)
  where
    go : {d : Done} → Receives l a d → Accepted d → d.lookup.clock ≡ a.time
    go (refuses u) x = absurd (x u refl)
    go (hears c) x = split (header a).conflict (λ y. rw y) (λ y. rw y)

pub tick_clock : (l : Lookup) (time id : ℕ) (out : List ℕ) → Accepted (tick l time id out) → (tick l time id out).lookup.clock ≡ time
tick_clock l time id out = go (tick_is l time id out)
  where
    go : {d : Done} → Ticks l time out d → Accepted d → d.lookup.clock ≡ time
    go (refuses u) x = absurd (x u refl)
    go (serves rest w c) x = refl
    go (serves (again n) w c) x = refl
    go (serves give_up w c) x = refl
    go (serves finish w c) x = refl

-- ---- what a lookup asks stays

same_question : (l : Lookup) → SameQuestion l l
same_question l = record { settings = refl; interface = refl; name = refl; len = refl; qtype = refl; id = refl }

pub receive_asks_the_same : (l : Lookup) (a : Arrival) → SameQuestion l (receive l a).lookup
receive_asks_the_same l a = go (receive_is l a)
  where
    go : {d : Done} → Receives l a d → SameQuestion l d.lookup
    go (refuses u) = same_question l
    go (hears c) =
        split (header a).conflict
        (λ y. rw y (record { settings = refl; interface = refl; name = refl; len = refl; qtype = refl; id = refl }))
        (λ y. rw y (record { settings = refl; interface = refl; name = refl; len = refl; qtype = refl; id = refl }))

pub tick_asks_the_same : (l : Lookup) (time id : ℕ) (out : List ℕ) → SameQuestion l (tick l time id out).lookup
tick_asks_the_same l time id out = go (tick_is l time id out)
  where
    go : {d : Done} → Ticks l time out d → SameQuestion l d.lookup
    go (refuses u) = same_question l
    go (serves rest w c) = record { settings = refl; interface = refl; name = refl; len = refl; qtype = refl; id = refl }
    go (serves (again n) w c) = record { settings = refl; interface = refl; name = refl; len = refl; qtype = refl; id = refl }
    go (serves give_up w c) = record { settings = refl; interface = refl; name = refl; len = refl; qtype = refl; id = refl }
    go (serves finish w c) = record { settings = refl; interface = refl; name = refl; len = refl; qtype = refl; id = refl }

-- ---- T set

-- A datagram with T set is refused, whatever else it is: it never ends a lookup, nor starts it collecting.
pub tentative_refused : (l : Lookup) (a : Arrival) → (header_of a.datagram).tentative ≡ true → (t : Report) × ((receive l a).result ≡ refused t)
tentative_refused l a e = go (receive_is l a)
  where
    go : {d : Done} → Receives l a d → (t : Report) × (d.result ≡ refused t)
    go (refuses u) = (u, refl)
    go (hears c) = never e c.1.1.1.1.1.1.1.1.1.1.1.1.1.0

pub tentative_unchanged : (l : Lookup) (a : Arrival) → (header_of a.datagram).tentative ≡ true → Unchanged l a.out (receive l a)
tentative_unchanged l a e = let r = tentative_refused l a e in receive_refused l a r.0 r.1
