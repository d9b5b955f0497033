-- What a tick gives, whole, under the plain conditions of specs/Served.antt; and exactly when a name becomes Unique.
use Rattle.std.proofs.Common.{ℕ, zero, suc, ◌+◌, ◌<◌, ◌≤◌, ◌≡◌, refl, sym, ap, ◌∙◌, subst, ◌↔◌, List, true, false, arith, length, get_or, ltb, eqb, eqb-true, lt-ltb, le-ltb, ltb-false}
use Rattle.std.proofs.lemmas.Bool.{eqb-false}
use Rattle.octets.proofs.Tests.{split, never, not_is}
use Rattle.refusal.specs.Numbers.{Report}
use Rattle.refusal.specs.Checks.{pass, Verdict, refused, passed, verdict, Gives, done, Clear}
use Rattle.refusal.proofs.Checks.{gives, clear}
use Rattle.name_table.specs.Check.{Held, check_table, names_in, name_in}
use Rattle.host.specs.Bounds.{sends_in_all}
use Rattle.host.specs.State.{off_name, interface_of, setting_of, state_of, with_clock, with_state, timer_from}
use Rattle.host.specs.Outcomes.{Done, refusal, silent, quiet, unique as unique_name}
use Rattle.host.specs.Asking.{check_query, asking}
use Rattle.host.specs.Early.{early}
use Rattle.host.specs.Tick.{is_due, Due, due, none, due_from, serve, serve_due, tick_if, tick}
use Rattle.host.specs.ExactlyWhen.{CalledWell}
use Rattle.host.specs.Served.{RefusedFirst, DueBy, ServesWhen, HasAsked, BecomesUniqueWhen, AsksAgainWhen, QuietWhen}
use Rattle.host.specs.declared.Timer.{Timer}
use Rattle.host.specs.declared.NameState.{NameState}
use Rattle.host.specs.declared.NameState.TheVariants.{Off, Verifying, Unique, Defending, Stopped, Shared}
use Rattle.host.specs.declared.Host.{Host}
use Rattle.host.proofs.Conditions.{due_is}
use Rattle.host.proofs.Called.{called_is, called_gives, first_gives}

-- ---- the search for a name that is due

-- the first of n names from the k-th on that is due is the j-th
record FirstDue (n : ℕ) (names : List NameState) (k time j : ℕ) : Type 0 where
  from : k ≤ j
  below : j < k + n
  due : is_due (get_or names j off_name) time ≡ true
  none : (m : ℕ) → k ≤ m → m < j → is_due (get_or names m off_name) time ≡ false

first_is : (n : ℕ) (names : List NameState) (k time j : ℕ) → due_from n names k time ≡ due j → FirstDue n names k time j
unfolding due_from
first_is zero names k time j e = let z : ◌≡◌ {A = ℕ} 0 1 = cc in absurd (omega arith)
first_is (suc n) names k time j e =
    split (is_due (get_or names k off_name) time)
    (λ t.
    let p : k ≡ j = cc (rw t at e) in
    record {
      from = omega arith;
      below = omega arith;
      due = rw (← p) t;
      none = λ m l u. absurd (omega arith);
    })
    (λ t.
    let r = first_is n names (k + 1) time j (rw t at e) in
    let l = r.from in
    let u = r.below in
    record {
      from = omega arith;
      below = omega arith;
      due = r.due;
      none =
          λ m p q.
          split (eqb m k) (λ x. rw (eqb-true m k x) t) (λ x. let y = eqb-false m k x in r.none m (omega arith) (omega arith));
    })

first_found : (n : ℕ) (names : List NameState) (k time j : ℕ) → FirstDue n names k time j → due_from n names k time ≡ due j
unfolding due_from
first_found zero names k time j f = let l = f.from in let u = f.below in absurd (omega arith)
first_found (suc n) names k time j f =
    let l = f.from in
    let u = f.below in
    split (is_due (get_or names k off_name) time)
    (λ t. split (eqb k j) (λ x. rw t (ap due (eqb-true k j x))) (λ x. let y = eqb-false k j x in never t (f.none k (omega arith) (omega arith))))
    (λ t.
    split (eqb k j) (λ x. never (rw (eqb-true k j x) f.due) t)
    (λ x. let y = eqb-false k j x in
    rw t
    (first_found n names (k + 1) time j
    (record { from = omega arith; below = omega arith; due = f.due; none = λ m p q. f.none m (omega arith) q }))))

none_found : (n : ℕ) (names : List NameState) (k time : ℕ) → ((m : ℕ) → m < k + n → is_due (get_or names m off_name) time ≡ false) → due_from n names k time ≡ none
unfolding due_from
none_found zero names k time g = refl
none_found (suc n) names k time g = let e = g k (omega arith) in rw e (none_found n names (k + 1) time (λ m l. g m (omega arith)))

-- ---- what a tick does

module _ (h : Host) (table : List ℕ) (i time : ℕ) (out : List ℕ) where
  abbrev due_here : Due
  due_here = due_from (length (names_in (check_table table))) (interface_of h i).names 0 time

  pub data Ticks : Done → Type 0 where
    refuses : (t : Report) → Ticks (refusal h out t)
    rests : Ticks (silent (with_clock h time) out quiet)
    serves : (k : ℕ) → ServesWhen h table i time out k → Ticks (serve (state_of h i k) h table i k time out)

  -- the k-th name of the table is due, and none before it
  served_is : (k : ℕ) → Clear (early h table i time out pass) → due_here ≡ due k → ServesWhen h table i time out k
  served_is k c e =
      let f = first_is _ _ 0 time k e in
      record {
        names = names_in (check_table table);
        called = called_is h table i time out pass c;
        in_table = let l = f.below in omega arith;
        due = (due_is (state_of h i k) time).0 f.due;
        first = λ m l x. never ((due_is (state_of h i m) time).1 x) (f.none m (omega arith) l);
      }

  served_found : (k : ℕ) → ServesWhen h table i time out k → due_here ≡ due k
  served_found k w =
      let n : names_in (check_table table) ≡ w.names = ap names_in w.called.good_table in
      let b : k < length (names_in (check_table table)) = rw n w.in_table in
      first_found _ _ 0 time k
      (record {
        from = omega arith;
        below = omega arith;
        due = (due_is (state_of h i k) time).1 w.due;
        none = λ m l u. (not_is _ (due_is (state_of h i m) time)).1 (w.first m u);
      })

  module _ (id : ℕ) where
    pub tick_is : Ticks (tick h table i time id out)
    unfolding tick
    tick_is = go (verdict (early h table i time out pass)) refl
      where
        on : (d : Due) → due_here ≡ d → Clear (early h table i time out pass) → Ticks (serve_due d h table i time out)
        on (due k) e c = serves k (served_is k c e)
        on none e c = rests

        go : (v : Verdict) → verdict (early h table i time out pass) ≡ v → Ticks (tick_if v h table i time out)
        go (refused t) e = refuses t
        go passed e = on _ refl (clear _ e)

    tick_by : (v : Verdict) → Gives (early h table i time out pass) v → tick h table i time id out ≡ tick_if v h table i time out
    unfolding tick
    tick_by v g = ap (λ (u : Verdict). tick_if u h table i time out) (sym (gives g))

    due_by : (d : Due) (names : List Held) → CalledWell h table i time out names → due_here ≡ d → tick h table i time id out ≡ serve_due d h table i time out
    due_by d names w e = tick_by passed (called_gives h table i time out names w done) ∙ ap (λ (x : Due). serve_due x h table i time out) e

    -- 1 to 4
    pub tick_refuses : (t : Report) → RefusedFirst h table i time out t → tick h table i time id out ≡ refusal h out t
    tick_refuses t r = tick_by (refused t) (first_gives h table i time out pass r)

    -- No name is due: nothing but the clock changes, and nothing is sent.
    pub tick_rests : QuietWhen h table i time out → tick h table i time id out ≡ silent (with_clock h time) out quiet
    tick_rests w =
        let n : names_in (check_table table) ≡ w.names = ap names_in w.called.good_table in
        due_by none w.names w.called
        (none_found _ _ 0 time λ m l. (not_is _ (due_is (state_of h i m) time)).1 (w.none m (subst (λ (hs : List Held). m < length hs) n (omega arith))))

    -- it serves the k-th name
    served_by_lem : (k : ℕ) → ServesWhen h table i time out k → tick h table i time id out ≡ serve (state_of h i k) h table i k time out
    served_by_lem k w = due_by (due k) w.names w.called (served_found k w)

    settled : (s : NameState) (k : ℕ) → HasAsked s → serve s h table i k time out ≡ silent (with_state h i k Unique time) out (unique_name k)
    settled (Verifying sends own timer) k w = rw (le-ltb sends sends_in_all w)
    settled (Defending own qtype class timer) k w = refl
    settled Off k w = absurd w
    settled Unique k w = absurd w
    settled (Stopped until) k w = absurd w
    settled Shared k w = absurd w

    -- A name whose check is over is Unique, and nothing is sent.
    pub tick_settles : (k : ℕ) → BecomesUniqueWhen h table i time out k
        → tick h table i time id out ≡ silent (with_state h i k Unique time) out (unique_name k)
    tick_settles k w = served_by_lem k w.serves ∙ settled (state_of h i k) k w.has_asked

    -- Below three sends the query goes out again with its first ID, one send more, due an interval from now.
    pub tick_asks : (k sends own : ℕ) (timer : Timer) → AsksAgainWhen h table i time out k sends own timer
        → tick h table i time id out
        ≡ asking (with_state h i k (Verifying (sends + 1) own (timer_from (setting_of h i) time)) time) (setting_of h i) k (check_query own (name_in table k).octets) out
    tick_asks k sends own timer w =
        served_by_lem k w.serves ∙ ap (λ (s : NameState). serve s h table i k time out) w.verifying ∙ rw (lt-ltb sends sends_in_all w.few)

-- ---- exactly when a name becomes Unique

-- what a name that is due comes to
unique_is : (s : NameState) (h : Host) (table : List ℕ) (i j k time : ℕ) (out : List ℕ) → DueBy s time → (serve s h table i j time out).result ≡ unique_name k → (j ≡ k) × HasAsked s
unique_is (Verifying sends id timer) h table i j k time out w e =
    split (ltb sends sends_in_all)
    (λ t. let z : ◌≡◌ {A = ℕ} 0 1 = cc (rw t at e) in absurd (omega arith))
    (λ t. (cc (rw t at e), ltb-false sends sends_in_all t))
unique_is (Defending id qtype class timer) h table i j k time out w e = (cc, tt)
unique_is Off h table i j k time out w e = absurd w
unique_is Unique h table i j k time out w e = absurd w
unique_is (Stopped until) h table i j k time out w e = absurd w
unique_is Shared h table i j k time out w e = absurd w

-- A tick makes the k-th name Unique exactly when the conditions of BecomesUniqueWhen hold.
pub unique_exactly : (h : Host) (table : List ℕ) (i time id : ℕ) (out : List ℕ) (k : ℕ)
    → ((tick h table i time id out).result ≡ unique_name k) ↔ BecomesUniqueWhen h table i time out k
unique_exactly h table i time id out k = (when (tick_is h table i time out id), λ w. ap (λ (x : Done). x.result) (tick_settles h table i time out id k w))
  where
    when : {d : Done} → Ticks h table i time out d → d.result ≡ unique_name k → BecomesUniqueWhen h table i time out k
    when (refuses t) e = let z : ◌≡◌ {A = ℕ} 0 1 = cc in absurd (omega arith)
    when rests r = let z : ◌≡◌ {A = ℕ} 0 1 = cc in absurd (omega arith)
    when (serves j w) r =
        let u = unique_is (state_of h i j) h table i j k time out w.due r in
        subst (BecomesUniqueWhen h table i time out) u.0 (record { serves = w; has_asked = u.1 })
