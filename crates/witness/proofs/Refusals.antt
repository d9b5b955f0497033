-- Refused exactly: set-up, start and tick give a refusal number exactly where its condition holds and those before it do not, as
-- specs/Refusals.antt lists them.
use Rattle.std.proofs.Common.{ℕ, zero, suc, ◌<◌, ◌≤◌, ◌≡◌, refl, sym, ap, ◌∙◌, subst, ◌↔◌, ◌≢◌, inl, inr, ⊎_elim, List, ◌∷◌, Bool, true, false, not, arith, length, get_or, ltb, leb, eqb, eqb-true}
use Rattle.std.proofs.lemmas.Bool.{eqb-false}
use mathlib.Core.Logic.Iff
use Rattle.octets.specs.Addresses.{unused}
use Rattle.octets.specs.declared.Setting.{Setting}
use Rattle.octets.proofs.PlainAddresses.{group_address}
use Rattle.octets.proofs.Tests.{split, either, never, either_is, both_is, below_number, upto_number, either_number, not_true, neither, neither_number}
use Rattle.refusal.specs.Numbers.{Report, number_at}
use Rattle.refusal.specs.Checks.{Checks, fail, pass, Verdict, refused as refused_by, passed, verdict}
use Rattle.refusal.specs.Cases.{Case, case_at, First}
use Rattle.refusal.proofs.Cases.{Exactly, same_report, ends, check, told_by}
use Rattle.name_table.specs.Kinds.{kind_of, is_shared_kind}
use Rattle.name_table.specs.Check.{Held, Checked, good, bad, check_table, names_in, name_in, is_bad, bad_at}
use Rattle.host.specs.Bounds.{sends_in_all}
use Rattle.host.specs.State.{state_of, interface_of, HasStopped, off, stopped, is}
use Rattle.host.specs.Outcomes.{refused, is_refused, Done}
use Rattle.host.specs.Early.{early}
use Rattle.host.specs.SetUp.{bad_setting, bad_among, set_up_checks, set_up_by, set_up}
use Rattle.host.specs.Start.{is_idle, start_checks, started, start_if, start}
use Rattle.host.specs.Tick.{Due, due, none, due_from, serve, serve_due, tick_if, tick}
use Rattle.host.specs.declared.NameState.{NameState}
use Rattle.host.specs.declared.NameState.TheVariants.{Off, Verifying, Unique, Defending, Stopped, Shared}
use Rattle.host.specs.declared.Host.{Host}
use Rattle.host.proofs.Conditions.{not_off, not_stopped, soon_is}
use Rattle.witness.specs.Refusals.{IsBadSetting, set_up_cases, early_cases, start_cases, tick_cases}

-- ---- checks and cases

-- the table's check, with the offset
pub check_table_lem : (c : Checked) {r : Checks} {rest : List Case} → ((names : List Held) → c ≡ good names → Exactly r rest)
    → Exactly (fail (is_bad c) (number_at 2 (bad_at c)) r) (case_at 2 (λ at. c ≡ bad at) ∷ rest)
unfolding verdict
check_table_lem (bad at) f =
    record {
      exactly = λ t. (
        λ e. inl (at, same_report _ _ e, refl),
        ⊎_elim (λ x. ap refused_by (ap (number_at 2) (ap bad_at x.2) ∙ sym x.1)) (λ x. absurd (x.0 at refl)),
      );
    }
check_table_lem (good names) f =
    record {
      exactly = λ t. (
        λ e. inr (λ at x. never (ap is_bad x) refl, ((f names refl).exactly t).0 e),
        ⊎_elim (λ x. never (ap is_bad x.2) refl) (λ x. ((f names refl).exactly t).1 x.1),
      );
    }

-- a call's result is a refusal exactly if its verdict is one
pub refused_by_lem : (done : Verdict → Done) → ((t : Report) → (done (refused_by t)).result ≡ refused t) → is_refused (done passed).result ≡ false
    → (v : Verdict) (t : Report) → ((done v).result ≡ refused t) ↔ (v ≡ refused_by t)
refused_by_lem done r p = told_by refused is_refused (λ v. (done v).result) (λ t. refl) (λ s t e. cc) r p

-- ---- 1 to 4

above_3 : (i : ℕ) → (leb 4 i ≡ true) ↔ (3 < i)
above_3 i = (λ e. omega (arith, (upto_number 4 i).0 e), λ h. (upto_number 4 i).1 (omega arith))

pub early_exactly : (h : Host) (table : List ℕ) (i time : ℕ) (out : List ℕ) {r : Checks} {rest : List Case}
    → ((names : List Held) → check_table table ≡ good names → Exactly r rest)
    → Exactly (early h table i time out r) (early_cases h table i time out rest)
early_exactly h table i time out f =
    check _ 1 (below_number _ _)
    (λ e1. check_table_lem (check_table table)
    (λ names g. check _ 3 (either_is _ _ (above_3 i) (neither_number _ 4 6))
    (λ e3. check _ 4 (either_is _ _ (below_number _ _) (below_number _ _))
    (λ e4. f names g))))

-- ---- set-up

setting_is : (s : Setting) → (bad_setting s ≡ true) ↔ IsBadSetting s
setting_is s = both_is _ _ (either_number _ 4 6) (either_is _ _ (group_address _) (neither_number _ 100 1000))

bad_among_lem : (n : ℕ) (settings : List Setting) → (bad_among n settings ≡ true) ↔ ((i : ℕ) × (i < n) × IsBadSetting (get_or settings i unused))
unfolding bad_among
bad_among_lem zero settings = (λ e. never e refl, λ x. absurd (omega (arith, x.1)))
bad_among_lem (suc n) settings = (
  λ e.
      ⊎_elim (λ b. (n, omega arith, (setting_is (get_or settings n unused)).0 b))
      (λ b. let x = (bad_among_lem n settings).0 b in (x.0, omega (arith, x.1), x.2))
      ((either (bad_setting (get_or settings n unused)) (bad_among n settings)).0 e),
  λ x.
      (either (bad_setting (get_or settings n unused)) (bad_among n settings)).1
      (split (eqb x.0 n)
      (λ q. inl (subst (λ (j : ℕ). bad_setting (get_or settings j unused) ≡ true) (eqb-true x.0 n q) ((setting_is (get_or settings x.0 unused)).1 x.2)))
      (λ q. let d = eqb-false x.0 n q in inr ((bad_among_lem n settings).1 (x.0, omega (arith, x.1), x.2)))),
)

-- Set-up: 2, 4, 20.
pub set_up_refused_exactly : (table : List ℕ) (settings : List Setting) (time id : ℕ) (t : Report)
    → ((set_up table settings time id).result ≡ refused t) ↔ First t (set_up_cases table settings time)
unfolding set_up
set_up_refused_exactly table settings time id t =
    Iff.trans (refused_by_lem (λ v. set_up_by v settings time) (λ u. refl) refl (verdict (set_up_checks table settings time)) t)
    (checks.exactly t)
  where
    checks : Exactly (set_up_checks table settings time) (set_up_cases table settings time)
    checks =
        check_table_lem (check_table table)
        (λ names g. check _ 4 (below_number _ _)
        (λ e4. check _ 20 (bad_among_lem 4 settings)
        (λ e20. ends)))

-- ---- start

idle_is : (s : NameState) → (not (is_idle s) ≡ true) ↔ ((s ≢ Off) × (HasStopped s → ⊥))
idle_is s =
    Iff.trans (not_true _)
    (Iff.trans (neither (is off s) (is stopped s))
    (λ x. ((not_off s).0 x.0, (not_stopped s).0 x.1), λ x. ((not_off s).1 x.0, (not_stopped s).1 x.1)))

-- Start: 1 to 4, 12, 19, 21.
pub start_refused_exactly : (h : Host) (table : List ℕ) (i k time id : ℕ) (out : List ℕ) (t : Report)
    → ((start h table i k time id out).result ≡ refused t) ↔ First t (start_cases h table i k time out)
unfolding start
start_refused_exactly h table i k time id out t =
    Iff.trans
    (refused_by_lem (λ v. start_if v h table i k time id out) (λ u. refl) (accepted _ refl) (verdict (start_checks h table i k time out)) t)
    (checks.exactly t)
  where
    accepted : (b : Bool) → is_shared_kind (kind_of (name_in table k).kind) ≡ b → is_refused (started h table i k time id out).result ≡ false
    accepted true e = rw e
    accepted false e = rw e

    past : (names : List Held) → check_table table ≡ good names
        → (leb (length (names_in (check_table table))) k ≡ true) ↔ ((hs : List Held) × (check_table table ≡ good hs) × (length hs ≤ k))
    past names g = (
      λ e. (names_in (check_table table), rw g, (upto_number _ k).0 e),
      λ x. (upto_number _ k).1 (subst (λ (hs : List Held). length hs ≤ k) (sym (ap names_in x.1)) x.2),
    )

    checks : Exactly (start_checks h table i k time out) (start_cases h table i k time out)
    checks =
        early_exactly h table i time out
        (λ names g. check _ 12 (past names g)
        (λ e12. check _ 19 (idle_is (state_of h i k))
        (λ e19. check _ 21 (soon_is (state_of h i k) time)
        (λ e21. ends))))

-- ---- tick

-- Tick: 1 to 4.
pub tick_refused_exactly : (h : Host) (table : List ℕ) (i time id : ℕ) (out : List ℕ) (t : Report)
    → ((tick h table i time id out).result ≡ refused t) ↔ First t (tick_cases h table i time out)
unfolding tick
tick_refused_exactly h table i time id out t =
    Iff.trans
    (refused_by_lem (λ v. tick_if v h table i time out) (λ u. refl) (accepted (due_from (length (names_in (check_table table))) (interface_of h i).names 0 time))
    (verdict (early h table i time out pass)) t)
    ((early_exactly h table i time out (λ names g. ends)).exactly t)
  where
    by : (s : NameState) (k : ℕ) → is_refused (serve s h table i k time out).result ≡ false
    by (Verifying sends own timer) k = on (ltb sends sends_in_all) refl
      where
        on : (b : Bool) → ltb sends sends_in_all ≡ b → is_refused (serve (Verifying sends own timer) h table i k time out).result ≡ false
        on true e = rw e
        on false e = rw e
    by (Defending own qtype class timer) k = refl
    by Off k = refl
    by Unique k = refl
    by (Stopped until) k = refl
    by Shared k = refl

    accepted : (d : Due) → is_refused (serve_due d h table i time out).result ≡ false
    accepted (due k) = by (state_of h i k) k
    accepted none = refl
