-- A tick is the plain one of specs/Whole.antt, and nothing else is. It leaves a host with four interfaces of eight names.
use Rattle.std.proofs.Common.{ℕ, zero, suc, ◌<◌, ◌≡◌, subst, ◌↔◌, List, true, arith, length, get_or, eqb, ltb, eqb-true, ltb-true, ltb-false}
use Rattle.std.proofs.lemmas.Bool.{eqb-false}
use mathlib.Core.Logic.Iff
use Rattle.octets.specs.Octets.{Octets}
use Rattle.octets.proofs.Tests.{split, never}
use Rattle.name_table.specs.Check.{Held, good, no_name, check_table, names_in}
use Rattle.name_table.proofs.Held.{few_held}
use Rattle.host.specs.State.{setting_of, state_of}
use Rattle.host.specs.Outcomes.{quiet, Done}
use Rattle.host.specs.Laws.{Accepted}
use Rattle.host.specs.Tick.{is_due, tick}
use Rattle.host.specs.ExactlyWhen.{CalledWell}
use Rattle.host.specs.declared.NameState.{NameState}
use Rattle.host.specs.declared.NameState.TheVariants.{Off, Verifying, Unique, Defending, Stopped, Shared}
use Rattle.host.specs.declared.Host.{Host}
use Rattle.host.proofs.Conditions.{has_interval, due_is}
use Rattle.host.proofs.Laws.{tick_refused}
use Rattle.host.proofs.Ticked.{tick_rests}
use Rattle.witness.specs.Refusals.{tick_cases}
use Rattle.witness.specs.States.{Interval, Leaves, IsDue, First, Ticks}
use Rattle.witness.specs.Whole.{Full, PlainTick}
use Rattle.witness.proofs.Refusals.{tick_refused_exactly}
use Rattle.witness.proofs.Comes.{leaves}
use Rattle.witness.proofs.Times.{tick_called, tick_good, due_by, ticks}
use Rattle.witness.proofs.Whole.{moves_full, same_full, becomes_one, asks_one, leaves_one, same_if_accepted, full_if_accepted, refused_exactly, place_in}

-- ---- the lowest that is due

-- none of the first m names is due, or one is and none before it
data Lowest (h : Host) (i m time : ℕ) : Type 0 where
  none : ((j : ℕ) → j < m → IsDue (state_of h i j) time → ⊥) → Lowest h i m time
  one : (k : ℕ) → k < m → IsDue (state_of h i k) time → First h i k time → Lowest h i m time

lowest : (h : Host) (i m time : ℕ) → Lowest h i m time
lowest h i zero time = none (λ j l w. omega arith)
lowest h i (suc m) time = go (lowest h i m time)
  where
    due_now : (j : ℕ) → (is_due (state_of h i j) time ≡ true) ↔ IsDue (state_of h i j) time
    due_now j = Iff.trans (due_is (state_of h i j) time) (due_by (state_of h i j) time)

    go : Lowest h i m time → Lowest h i (suc m) time
    go (one k l w f) = one k (omega arith) w f
    go (none f) =
        split (is_due (state_of h i m) time)
        (λ t. one m (omega arith) ((due_now m).0 t) f)
        (λ t.
        none
        (λ j l w.
        split (eqb j m)
        (λ e. never ((due_now m).1 (subst (λ (x : ℕ). IsDue (state_of h i x) time) (eqb-true j m e) w)) t)
        (λ e. let n = eqb-false j m e in f j (omega arith) w)))

-- ---- what is said of a name that is due leaves nothing open

ticks_one : (h : Host) (i k m n time : ℕ) (name out : List ℕ) (s : NameState) (d e : Done) → IsDue s time
    → Ticks h i k m n time name out s d → Ticks h i k m n time name out s e → d ≡ e
ticks_one h i k m n time name out Off d e w v u = absurd w
ticks_one h i k m n time name out (Verifying sends id timer) d e w v u =
    split (ltb sends 3)
    (λ t. asks_one _ _ _ _ _ _ _ d e (v.again w (ltb-true sends 3 t)) (u.again w (ltb-true sends 3 t)))
    (λ t. becomes_one _ _ _ _ _ _ _ d e (v.then w (ltb-false sends 3 t)) (u.then w (ltb-false sends 3 t)))
ticks_one h i k m n time name out Unique d e w v u = absurd w
ticks_one h i k m n time name out (Defending id qtype class timer) d e w v u = becomes_one _ _ _ _ _ _ _ d e (v.then w) (u.then w)
ticks_one h i k m n time name out (Stopped until) d e w v u = absurd w
ticks_one h i k m n time name out Shared d e w v u = absurd w

ticks_full : (h : Host) (i k m n time : ℕ) (name out : List ℕ) (s : NameState) (d : Done) → IsDue s time → Ticks h i k m n time name out s d → Full h
    → Full d.host
ticks_full h i k m n time name out Off d w v f = absurd w
ticks_full h i k m n time name out (Verifying sends id timer) d w v f =
    split (ltb sends 3)
    (λ t. moves_full h i k _ time d f (v.again w (ltb-true sends 3 t)).moves)
    (λ t. moves_full h i k _ time d f (v.then w (ltb-false sends 3 t)).moves)
ticks_full h i k m n time name out Unique d w v f = absurd w
ticks_full h i k m n time name out (Defending id qtype class timer) d w v f = moves_full h i k _ time d f (v.then w).moves
ticks_full h i k m n time name out (Stopped until) d w v f = absurd w
ticks_full h i k m n time name out Shared d w v f = absurd w

module _ (h : Host) (table : List ℕ) (i time id : ℕ) (out : List ℕ) where
  abbrev done : Done
  done = tick h table i time id out

  abbrev names : List Held
  names = names_in (check_table table)

  good_names : Accepted done → check_table table ≡ good names
  good_names a = tick_good h table i time id out a

  begun : Accepted done → (hs : List Held) → check_table table ≡ good hs → CalledWell h table i time out hs
  begun a hs g = tick_called h table i time id out a hs g

  rests : Accepted done → (names : List Held) → check_table table ≡ good names
      → ((j : ℕ) → j < length names → IsDue (state_of h i j) time → ⊥) → Leaves h time out quiet done
  rests a names g f = leaves h time out quiet _ (tick_rests h table i time out id (record { names = names; called = begun a names g; none = λ j l w. f j l ((due_by (state_of h i j) time).0 w) }))

  module _ (o : Octets table) (f : Full h) where
    serves : Accepted done → (names : List Held) → check_table table ≡ good names → (k : ℕ) → k < length names → First h i k time → (n : ℕ)
        → Interval h i n → Ticks h i k (length names) n time (get_or names k no_name).octets out (state_of h i k) done
    serves a names g k l first n v =
        let c = begun a names g in
        ticks h table names i k time id out c l (place_in h i k f c.interface (omega (arith, few_held table names o g))) n o v first

    -- What a tick gives is plain,
    pub tick_is_plain : PlainTick h table i time out (tick h table i time id out)
    tick_is_plain =
        record {
          refusals = refused_exactly _ _ _ _ (tick_refused_exactly h table i time id out) (tick_refused h table i time id out);
          none_due = rests;
          serves = serves;
        }

    -- and nothing else is.
    pub plain_is_tick : (d : Done) → PlainTick h table i time out d → d ≡ tick h table i time id out
    plain_is_tick d p = same_if_accepted h out (tick_cases h table i time out) d done p.refusals tick_is_plain.refusals same
      where
        same : Accepted d → Accepted done → d ≡ done
        same x a = go (lowest h i (length names) time)
          where
            g : check_table table ≡ good names
            g = good_names a

            go : Lowest h i (length names) time → d ≡ done
            go (none n) = leaves_one _ _ _ _ d done (p.none_due x names g n) (rests a names g n)
            go (one k l w first) =
                let n = has_interval (setting_of h i) in
                ticks_one h i k (length names) n.0 time (get_or names k no_name).octets out (state_of h i k) d done w
                (p.serves x names g k l first n.0 n.1) (serves a names g k l first n.0 n.1)

    -- A full host stays full.
    pub tick_full : Full (tick h table i time id out).host
    tick_full = full_if_accepted h out (tick_cases h table i time out) done f tick_is_plain.refusals stays
      where
        stays : Accepted done → Full done.host
        stays a = go (lowest h i (length names) time)
          where
            go : Lowest h i (length names) time → Full done.host
            go (none n) = same_full h done.host f (rests a names (good_names a) n).states
            go (one k l w first) =
                let n = has_interval (setting_of h i) in
                ticks_full h i k (length names) n.0 time (get_or names k no_name).octets out (state_of h i k) done w
                (serves a names (good_names a) k l first n.0 n.1) f
