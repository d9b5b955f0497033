-- What set-up and start give, whole, under the plain conditions of specs/Served.antt.
use Rattle.std.proofs.Common.{ℕ, zero, suc, ◌<◌, ◌≡◌, refl, sym, ap, ◌∙◌, subst, ◌↔◌, ◌⊎◌, List, [], ◌∷◌, Bool, true, false, not, arith, length, get_or, leb, eqb, eqb-true, leb-false, le-leb}
use Rattle.std.proofs.lemmas.Bool.{eqb-false, lt-leb}
use Rattle.octets.specs.Tests.{◌or◌}
use Rattle.octets.specs.Bounds.{interfaces, ipv4, ipv6}
use Rattle.octets.specs.Addresses.{is_family, is_group, address_of, unused}
use Rattle.octets.specs.declared.Setting.{Setting}
use Rattle.octets.proofs.Tests.{split, either_number, not_below, not_not, neither}
use Rattle.refusal.specs.Numbers.{Report, number}
use Rattle.refusal.specs.Checks.{Verdict, refused, passed, verdict, Gives, next, stop, done}
use Rattle.refusal.proofs.Checks.{gives, clear}
use Rattle.name_table.specs.Kinds.{kind_of, is_shared_kind}
use Rattle.name_table.specs.Check.{Held, check_table, no_name, names_in, name_in, is_bad}
use Rattle.host.specs.Bounds.{short, long, latest}
use Rattle.host.specs.State.{setting_of, state_of, with_state, timer_from}
use Rattle.host.specs.Outcomes.{Done, refusal, silent, ready, shared, query}
use Rattle.host.specs.Asking.{check_query, asking}
use Rattle.host.specs.SetUp.{is_interval, bad_setting, bad_among, set_up_checks, four, fresh_host, set_up_by, set_up}
use Rattle.host.specs.Start.{is_idle, name_checks, start_checks, started, start_if, start}
use Rattle.host.specs.ExactlyWhen.{CalledWell}
use Rattle.host.specs.Served.{SettingIsGood, ReadyWhen, RefusedFirst, NoSuchNameWhen, BusyWhen, TooSoonWhen, StartsWhen}
use Rattle.host.specs.declared.NameState.{NameState}
use Rattle.host.specs.declared.NameState.TheVariants.{Verifying, Shared}
use Rattle.host.specs.declared.Host.{Host}
use Rattle.host.proofs.Conditions.{good_is, not_off, not_stopped, soon_is, may_start_is}
use Rattle.host.proofs.Called.{called_is, called_gives, first_gives}

-- ---- set-up

-- a setting that is used is not bad exactly if it is good
setting_is : (s : Setting) → (bad_setting s ≡ false) ↔ ((s.family ≡ ipv4) ⊎ (s.family ≡ ipv6) → SettingIsGood s)
setting_is s = (there, back)
  where
    there : bad_setting s ≡ false → (s.family ≡ ipv4) ⊎ (s.family ≡ ipv6) → SettingIsGood s
    there e u =
        let f : is_family s.family ≡ true = (either_number _ ipv4 ipv6).1 u in
        let b : (is_group (address_of s) or not (is_interval s.interval)) ≡ false = rw f at e in
        let t = (neither _ _).0 b in
        record { not_group = t.0; interval = (either_number _ short long).0 ((not_not _).0 t.1) }

    back : ((s.family ≡ ipv4) ⊎ (s.family ≡ ipv6) → SettingIsGood s) → bad_setting s ≡ false
    back g =
        split (is_family s.family)
        (λ f. let w = g ((either_number _ ipv4 ipv6).0 f) in
        rw f ((neither _ _).1 (w.not_group, (not_not _).1 ((either_number _ short long).1 w.interval))))
        (λ f. rw f)

-- four settings are those of the four interfaces
pub all_four : (l : List Setting) → length l ≡ interfaces → four l ≡ l
all_four [] e = absurd (omega arith)
all_four (a ∷ []) e = absurd (omega arith)
all_four (a ∷ b ∷ []) e = absurd (omega arith)
all_four (a ∷ b ∷ c ∷ []) e = absurd (omega arith)
all_four (a ∷ b ∷ c ∷ d ∷ []) e = refl
all_four (a ∷ b ∷ c ∷ d ∷ f ∷ l) e = absurd (omega arith)

-- none of the first n settings is bad
none_bad : (n : ℕ) (settings : List Setting) → (bad_among n settings ≡ false) ↔ ((i : ℕ) → i < n → bad_setting (get_or settings i unused) ≡ false)
unfolding bad_among
none_bad n settings = (there n, back n)
  where
    there : (n : ℕ) → bad_among n settings ≡ false → (i : ℕ) → i < n → bad_setting (get_or settings i unused) ≡ false
    there zero e i h = absurd (omega arith)
    there (suc n) e i h =
        let t = (neither (bad_setting (get_or settings n unused)) (bad_among n settings)).0 e in
        split (eqb i n)
        (λ q. subst (λ (j : ℕ). bad_setting (get_or settings j unused) ≡ false) (sym (eqb-true i n q)) t.0)
        (λ q. let d = eqb-false i n q in there n t.1 i (omega arith))

    back : (n : ℕ) → ((i : ℕ) → i < n → bad_setting (get_or settings i unused) ≡ false) → bad_among n settings ≡ false
    back zero g = refl
    back (suc n) g = (neither (bad_setting (get_or settings n unused)) (bad_among n settings)).1 (g n (omega arith), back n (λ i h. g i (omega arith)))

module _ (table : List ℕ) (settings : List Setting) (time id : ℕ) where
  -- Set-up is ready: the settings as given, all names Off, the clock at its time.
  pub sets_up : ReadyWhen table settings time → set_up table settings time id ≡ silent (fresh_host settings time) [] ready
  unfolding set_up
  sets_up w =
      let g : Gives (set_up_checks table settings time) passed =
      next (ap is_bad w.good_table)
      (next ((not_below latest time).1 w.latest)
      (next ((none_bad interfaces settings).1 (λ i h. (setting_is (get_or settings i unused)).1 (w.settings_good i h))) done)) in
      ap (λ (v : Verdict). set_up_by v settings time) (sym (gives g))

  -- and only then
  pub ready_exactly : ((set_up table settings time id).result ≡ ready) ↔ ReadyWhen table settings time
  unfolding set_up
  ready_exactly = (when, λ w. ap (λ (d : Done). d.result) (sets_up w))
    where
      passed_is : (v : Verdict) → (set_up_by v settings time).result ≡ ready → v ≡ passed
      passed_is (refused t) e = absurd (let z : ◌≡◌ {A = ℕ} 0 1 = cc in omega arith)
      passed_is passed e = refl

      when : (set_up table settings time id).result ≡ ready → ReadyWhen table settings time
      when e =
          let c = clear (set_up_checks table settings time) (passed_is (verdict (set_up_checks table settings time)) e) in
          record {
            names = names_in (check_table table);
            good_table = good_is (check_table table) c.0;
            latest = (not_below latest time).0 c.1.0;
            settings_good = λ i h. (setting_is (get_or settings i unused)).0 ((none_bad interfaces settings).0 c.1.1.0 i h);
          }

-- ---- start

module _ (h : Host) (table : List ℕ) (i k time id : ℕ) (out : List ℕ) where
  start_by : (v : Verdict) → Gives (start_checks h table i k time out) v → start h table i k time id out ≡ start_if v h table i k time id out
  unfolding start
  start_by v g = ap (λ (u : Verdict). start_if u h table i k time id out) (sym (gives g))

  -- 1 to 4
  pub start_refuses : (t : Report) → RefusedFirst h table i time out t → start h table i k time id out ≡ refusal h out t
  start_refuses t r = start_by (refused t) (first_gives h table i time out _ r)

  names_are : (names : List Held) → CalledWell h table i time out names → names_in (check_table table) ≡ names
  names_are names w = ap names_in w.good_table

  there : (names : List Held) → CalledWell h table i time out names → k < length names → leb (length (names_in (check_table table))) k ≡ false
  there names w l = ap (λ (hs : List Held). leb (length hs) k) (names_are names w) ∙ lt-leb _ _ l

  -- 12
  pub no_such_name : NoSuchNameWhen h table i k time out → start h table i k time id out ≡ refusal h out (number 12)
  no_such_name w =
      start_by (refused (number 12))
      (called_gives h table i time out w.names w.called
      (stop (ap (λ (hs : List Held). leb (length hs) k) (names_are w.names w.called) ∙ le-leb _ _ w.past)))

  -- 19
  pub is_busy : BusyWhen h table i k time out → start h table i k time id out ≡ refusal h out (number 19)
  is_busy w =
      start_by (refused (number 19))
      (called_gives h table i time out w.names w.called
      (next (there w.names w.called w.in_table)
      (stop (ap not ((neither _ _).1 ((not_off (state_of h i k)).1 w.not_off, (not_stopped (state_of h i k)).1 w.not_stopped))))))

  -- 21
  pub is_too_soon_lem : TooSoonWhen h table i k time out → start h table i k time id out ≡ refusal h out (number 21)
  is_too_soon_lem w =
      let e : not (is_idle (state_of h i k)) ≡ false = ap (λ (s : NameState). not (is_idle s)) w.stopped in
      start_by (refused (number 21))
      (called_gives h table i time out w.names w.called
      (next (there w.names w.called w.in_table)
      (next e (stop ((soon_is (state_of h i k) time).1 (w.until, w.stopped, w.before))))))

  starts : (kind : ℕ) → StartsWhen h table i k time out kind → start h table i k time id out ≡ started h table i k time id out
  starts kind w =
      let m = (may_start_is (state_of h i k) time).1 w.may_start in
      start_by passed
      (called_gives h table i time out w.names w.called
      (next (there w.names w.called w.in_table)
      (next (ap not m.0) (next m.1 done))))

  shared_is : (kind : ℕ) → StartsWhen h table i k time out kind → is_shared_kind (kind_of (name_in table k).kind) ≡ is_shared_kind (kind_of kind)
  shared_is kind w = ap (λ (hs : List Held). is_shared_kind (kind_of (get_or hs k no_name).kind)) (names_are w.names w.called) ∙ ap (λ (x : ℕ). is_shared_kind (kind_of x)) w.kind_is

  -- A shared name, kind 2, is Shared, and nothing is sent.
  pub start_shares : StartsWhen h table i k time out 2 → start h table i k time id out ≡ silent (with_state h i k Shared time) out (shared k)
  unfolding kind_of
  start_shares w = let e : is_shared_kind (kind_of (name_in table k).kind) ≡ true = shared_is 2 w in starts 2 w ∙ rw e

  -- A unique name, kind 1, is Verifying with 1 send, due an interval from now, and its query goes out to the group.
  pub start_asks : StartsWhen h table i k time out 1
      → start h table i k time id out
      ≡ asking (with_state h i k (Verifying 1 id (timer_from (setting_of h i) time)) time) (setting_of h i) k (check_query id (name_in table k).octets) out
  unfolding kind_of
  start_asks w = let e : is_shared_kind (kind_of (name_in table k).kind) ≡ false = shared_is 1 w in starts 1 w ∙ rw e

  -- ---- what a start that sends a query has been given, and what it does

  pub record Sends : Type 0 where
    pub called : CalledWell h table i time out (names_in (check_table table))
    pub in_table : k < length (names_in (check_table table))
    pub gives : start h table i k time id out
        ≡ asking (with_state h i k (Verifying 1 id (timer_from (setting_of h i) time)) time) (setting_of h i) k (check_query id (name_in table k).octets) out

  pub start_sends : (len : ℕ) → (start h table i k time id out).result ≡ query k len → Sends
  unfolding start
  start_sends len = go (verdict (start_checks h table i k time out)) refl
    where
      on : (b : Bool) → is_shared_kind (kind_of (name_in table k).kind) ≡ b → (started h table i k time id out).result ≡ query k len
          → started h table i k time id out
          ≡ asking (with_state h i k (Verifying 1 id (timer_from (setting_of h i) time)) time) (setting_of h i) k (check_query id (name_in table k).octets) out
      on true e r = let z : ◌≡◌ {A = ℕ} 0 1 = cc (rw e at r) in absurd (omega arith)
      on false e r = rw e

      go : (v : Verdict) → verdict (start_checks h table i k time out) ≡ v → (start_if v h table i k time id out).result ≡ query k len → Sends
      go (refused t) e r = let z : ◌≡◌ {A = ℕ} 0 1 = cc in absurd (omega arith)
      go passed e r =
          let c = clear (start_checks h table i k time out) e in
          record {
            called = called_is h table i time out (name_checks h table i k time) c;
            in_table = leb-false _ _ c.1.1.1.1.0;
            gives = ap (λ (v : Verdict). start_if v h table i k time id out) e ∙ on _ refl r;
          }
