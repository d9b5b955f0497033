-- The ticks of the table of specs/States.antt; that a check is due exactly an interval after its last send; and what a refused set-up gives.
use Rattle.std.proofs.Common.{ℕ, zero, suc, ◌+◌, ◌<◌, ◌≤◌, ◌≡◌, refl, sym, ap, subst, ◌↔◌, ⊎_elim, List, [], ◌∷◌, true, arith, length, get_or, eqb, ltb, eqb-true, ltb-true, ltb-false}
use Rattle.std.proofs.lemmas.Bool.{eqb-false}
use mathlib.Core.Logic.Iff
use Rattle.octets.specs.Octets.{Octets}
use Rattle.octets.specs.PlainAddresses.{nothing}
use Rattle.octets.specs.declared.Setting.{Setting}
use Rattle.octets.proofs.Tests.{split}
use Rattle.refusal.specs.Numbers.{Report}
use Rattle.refusal.specs.Checks.{pass}
use Rattle.name_table.specs.Check.{Held, good, no_name, check_table, names_in}
use Rattle.message.specs.declared.Question.{Question}
use Rattle.message.specs.Header.{header_of}
use Rattle.host.specs.State.{state_of, IsInterval, due_at, zeros}
use Rattle.host.specs.Outcomes.{Done, refused, ready, quiet, unique as unique_name}
use Rattle.host.specs.SetUp.{set_up}
use Rattle.host.specs.Start.{start}
use Rattle.host.specs.Laws.{Accepted}
use Rattle.host.specs.Tick.{tick}
use Rattle.host.specs.Receive.{Arrival, receive}
use Rattle.host.specs.ExactlyWhen.{CalledWell, QueryArrives, AsksFor, state_here}
use Rattle.host.specs.Served.{ReadyWhen, MayStart, DueBy, ServesWhen, HasAsked}
use Rattle.host.specs.declared.NameState.{NameState}
use Rattle.host.specs.declared.NameState.TheVariants.{Off, Verifying, Unique, Defending, Stopped, Shared}
use Rattle.host.specs.declared.Host.{Host}
use Rattle.host.proofs.Called.{called_is}
use Rattle.host.proofs.Accepted.{tick_checked}
use Rattle.host.proofs.Conditions.{interval_is}
use Rattle.host.proofs.Started.{sets_up}
use Rattle.host.proofs.Ticked.{tick_rests, tick_settles, tick_asks}
use Rattle.host.proofs.Laws.{set_up_refused}
use Rattle.witness.specs.States.{Interval, Place, Leaves, Moves, Becomes, Asks, check_of, IsDue, First, Alone, VerifyingTicks, Ticks, Ours, UniqueStarts, Notification, WaitsUntil, verifying, defending, Serves, asks_again, settles, DueExactly, host_of}
use Rattle.witness.proofs.Comes.{leaves, becomes, asks_check}
use Rattle.witness.proofs.States.{unique_starts, notification}

-- ---- ticks

-- what an accepted tick has been given
pub tick_called : (h : Host) (table : List ℕ) (i time id : ℕ) (out : List ℕ) → Accepted (tick h table i time id out) → (names : List Held)
    → check_table table ≡ good names → CalledWell h table i time out names
tick_called h table i time id out a names g =
    subst (CalledWell h table i time out) (ap names_in g) (called_is h table i time out pass (tick_checked h table i time id out a))

pub tick_good : (h : Host) (table : List ℕ) (i time id : ℕ) (out : List ℕ) → Accepted (tick h table i time id out)
    → check_table table ≡ good (names_in (check_table table))
tick_good h table i time id out a = (called_is h table i time out pass (tick_checked h table i time id out a)).good_table

pub due_by : (s : NameState) (time : ℕ) → DueBy s time ↔ IsDue s time
due_by Off time = Iff.rfl
due_by (Verifying sends id timer) time = Iff.rfl
due_by Unique time = Iff.rfl
due_by (Defending id qtype class timer) time = Iff.rfl
due_by (Stopped until) time = Iff.rfl
due_by Shared time = Iff.rfl

module _ (h : Host) (table : List ℕ) (names : List Held) (i k time id : ℕ) (out : List ℕ) (called : CalledWell h table i time out names) where
  abbrev name : List ℕ
  name = (get_or names k no_name).octets

  -- the k-th name is not due, and no other
  rests : Alone h i k (length names) time → (IsDue (state_of h i k) time → ⊥) → Leaves h time out quiet (tick h table i time id out)
  rests alone n =
      leaves h time out quiet _
      (tick_rests h table i time out id
      (record {
        names = names;
        called = called;
        none =
            λ j l w.
            let due = (due_by (state_of h i j) time).0 w in
            split (eqb j k)
            (λ e. n (subst (λ (m : ℕ). IsDue (state_of h i m) time) (eqb-true j k e) due))
            (λ e. alone j l (eqb-false j k e) due);
      }))

  module _ (in_table : k < length names) (p : Place h i k) where
    serves : First h i k time → IsDue (state_of h i k) time → ServesWhen h table i time out k
    serves first w =
        record {
          names = names;
          called = called;
          in_table = in_table;
          due = (due_by (state_of h i k) time).1 w;
          first = λ j l u. first j l ((due_by (state_of h i j) time).0 u);
        }

    settled : First h i k time → IsDue (state_of h i k) time → HasAsked (state_of h i k) → Becomes h i k Unique time out (unique_name k) (tick h table i time id out)
    settled first w e = becomes h i k p Unique time out (unique_name k) _ (tick_settles h table i time out id k (record { serves = serves first w; has_asked = e }))

    -- Each of the six states: before its due time a name is left as it is, and from then on it is served; four are never due.
    pub ticks : (n : ℕ) → Octets table → Interval h i n → First h i k time
        → Ticks h i k (length names) n time (get_or names k no_name).octets out (state_of h i k) (tick h table i time id out)
    ticks n o v first = go (state_of h i k) refl
      where
        idle : (s : NameState) → state_of h i k ≡ s → (IsDue s time → ⊥) → Alone h i k (length names) time → Leaves h time out quiet (tick h table i time id out)
        idle s e f alone = rests alone (λ w. f (subst (λ (x : NameState). IsDue x time) e w))

        over : (s : NameState) → state_of h i k ≡ s → IsDue s time → HasAsked s → Becomes h i k Unique time out (unique_name k) (tick h table i time id out)
        over s e w f = settled first (subst (λ (x : NameState). IsDue x time) (sym e) w) (subst HasAsked (sym e) f)

        go : (s : NameState) → state_of h i k ≡ s → Ticks h i k (length names) n time name out s (tick h table i time id out)
        go Off e = idle _ e (λ z. z)
        go (Verifying sends own timer) e =
            record {
              before = λ l. idle _ e (λ w. omega arith);
              again =
                  λ w l.
                  subst (λ (m : ℕ). Asks h i k (Verifying (sends + 1) own (due_at (time + m))) time (check_of own name) out (tick h table i time id out)) (interval_is _ n v)
                  (asks_check h i k p _ time own table names out _ o called in_table
                  (tick_asks h table i time out id k sends own timer
                  (record { serves = serves first (subst (λ (x : NameState). IsDue x time) (sym e) w); verifying = e; few = l })));
              then = λ w l. over _ e w l;
            }
        go Unique e = idle _ e (λ z. z)
        go (Defending own qtype class timer) e = record { before = λ l. idle _ e (λ w. omega arith); then = λ w. over _ e w tt }
        go (Stopped until) e = idle _ e (λ z. z)
        go Shared e = idle _ e (λ z. z)

-- ---- after a call that has left the k-th name in a state

-- A later tick finds the name in that state, with the interval as it was: so it is due exactly n after a send.
pub next_tick : (h : Host) (table : List ℕ) (names : List Held) (i k n sent : ℕ) (s : NameState) (d : Done) → Octets table → Interval h i n → Moves h i k s sent d
    → (time id : ℕ) (out : List ℕ) → CalledWell d.host table i time out names → k < length names → First d.host i k time
    → Ticks d.host i k (length names) n time (get_or names k no_name).octets out s (tick d.host table i time id out)
next_tick h table names i k n sent s d o v m time id out called in_table first =
    subst (λ (x : NameState). Ticks d.host i k (length names) n time (get_or names k no_name).octets out x (tick d.host table i time id out)) m.state
    (ticks d.host table names i k time id out called in_table m.place n o (subst (λ (x : Setting). IsInterval x n) (sym m.setting) v) first)

-- ---- due exactly an interval after the last send

lower : (h : Host) (i k m time : ℕ) → k < m → Alone h i k m time → First h i k time
lower h i k m time l a j b = a j (omega arith) (λ e. omega arith)

pub due_exactly : (h : Host) (table : List ℕ) (names : List Held) (i k n sent : ℕ) (s : NameState) (d : Done) → Octets table → Interval h i n → Moves h i k s sent d
    → k < length names → WaitsUntil (sent + n) s → DueExactly table names i k n sent d
due_exactly h table names i k n sent s d o v m in_table (verifying sends own) =
    record {
      quiet_before = λ time id out g c a l. (next_tick h table names i k n sent s d o v m time id out (tick_called d.host table i time id out c names g) in_table (lower d.host i k (length names) time in_table a)).before (omega arith) a;
      serves_then =
          λ time id out g c a l.
          let t = next_tick h table names i k n sent s d o v m time id out (tick_called d.host table i time id out c names g) in_table a in
          split (ltb sends 3)
          (λ e. let r = t.again l (ltb-true sends 3 e) in subst (Serves k) (sym r.result) (asks_again _))
          (λ e. let r = t.then l (ltb-false sends 3 e) in subst (Serves k) (sym r.result) settles);
    }
due_exactly h table names i k n sent s d o v m in_table (defending own qtype class) =
    record {
      quiet_before = λ time id out g c a l. (next_tick h table names i k n sent s d o v m time id out (tick_called d.host table i time id out c names g) in_table (lower d.host i k (length names) time in_table a)).before (omega arith) a;
      serves_then =
          λ time id out g c a l.
          let r = (next_tick h table names i k n sent s d o v m time id out (tick_called d.host table i time id out c names g) in_table a).then l in
          subst (Serves k) (sym r.result) settles;
    }

-- A start that is taken, kind 1.
pub start_due : (h : Host) (table : List ℕ) (names : List Held) (i k n time id : ℕ) (out : List ℕ) → Octets table → CalledWell h table i time out names → k < length names
    → Place h i k → Interval h i n → (get_or names k no_name).kind ≡ 1 → MayStart (state_of h i k) time
    → DueExactly table names i k n time (start h table i k time id out)
start_due h table names i k n time id out o called in_table p v kind idle =
    due_exactly h table names i k n time _ _ o v (sends idle).moves in_table (verifying 1 id)
  where
    row : (s : NameState) → state_of h i k ≡ s → UniqueStarts h i k n time id (get_or names k no_name).octets out s (start h table i k time id out)
    row s e =
        subst (λ (x : NameState). UniqueStarts h i k n time id (get_or names k no_name).octets out x (start h table i k time id out)) e
        (unique_starts h table names i k time id out called in_table n o p v kind)

    sends : MayStart (state_of h i k) time → Asks h i k (Verifying 1 id (due_at (time + n))) time (check_of id (get_or names k no_name).octets) out (start h table i k time id out)
    sends = ⊎_elim (row Off) (λ t. (row (Stopped t.0) t.1).then t.2)

-- A tick that repeats the query.
pub again_due : (h : Host) (table : List ℕ) (names : List Held) (i k n time id : ℕ) (out : List ℕ) (sends own due : ℕ) → Octets table → CalledWell h table i time out names
    → k < length names → Place h i k → Interval h i n → First h i k time → state_of h i k ≡ Verifying sends own (due_at due) → due ≤ time
    → sends < 3 → DueExactly table names i k n time (tick h table i time id out)
again_due h table names i k n time id out sends own due o called in_table p v first e l few =
    let r : VerifyingTicks h i k (length names) n time (get_or names k no_name).octets out sends own due (tick h table i time id out) =
    subst (λ (x : NameState). Ticks h i k (length names) n time (get_or names k no_name).octets out x (tick h table i time id out)) e (ticks h table names i k time id out called in_table p n o v first) in
    due_exactly h table names i k n time _ _ o v (r.again l few).moves in_table (verifying (sends + 1) own)

-- A defence.
pub defence_due : (h : Host) (a : Arrival) (names : List Held) (q : Question) (k n : ℕ) → Octets a.table → Octets a.datagram → QueryArrives h a names q → AsksFor a names q k → k < length names
    → Place h a.interface k → Interval h a.interface n → (header_of a.datagram).conflict ≡ true → (Ours h a.from.address → ⊥)
    → state_here h a k ≡ Unique → DueExactly a.table names a.interface k n a.time (receive h a)
defence_due h a names q k n ot od w f in_table p v c o e =
    let r = subst (λ (x : NameState). Notification h a q k n x (receive h a)) e (notification h a names q k w f n od p v c o) in
    due_exactly h a.table names a.interface k n a.time _ _ ot v r.moves in_table (defending a.id q.qtype q.class)

-- ---- set-up

-- A refused set-up: clock 0, and four unused interfaces of zeros.
pub set_up_zero : (table : List ℕ) (settings : List Setting) (time id : ℕ) (t : Report) → (set_up table settings time id).result ≡ refused t
    → (set_up table settings time id).host ≡ host_of zeros zeros zeros zeros 0
set_up_zero table settings time id t e = (set_up_refused table settings time id t e).host

-- One that is ready: the call's time, the four settings as given, and Off everywhere.
pub set_up_fresh : (table : List ℕ) (s t u v : Setting) (time id : ℕ) → ReadyWhen table (s ∷ t ∷ u ∷ v ∷ []) time
    → set_up table (s ∷ t ∷ u ∷ v ∷ []) time id ≡ record { host = host_of s t u v time; result = ready; to = nothing; octets = [] }
set_up_fresh table s t u v time id w = sets_up table (s ∷ t ∷ u ∷ v ∷ []) time id w

-- It has a place for eight names on each of four interfaces.
pub set_up_places : (s t u v : Setting) (time i k : ℕ) → i < 4 → k < 8 → Place (host_of s t u v time) i k
set_up_places s t u v time zero k l m = record { interface = l; name = m }
set_up_places s t u v time (suc zero) k l m = record { interface = l; name = m }
set_up_places s t u v time (suc (suc zero)) k l m = record { interface = l; name = m }
set_up_places s t u v time (suc (suc (suc zero))) k l m = record { interface = l; name = m }
set_up_places s t u v time (suc (suc (suc (suc i)))) k l m = absurd (omega arith)
