-- What the opening in the code says of a call: the checks 1 to 4 refuse it, or it is made well.
use Rattle.std.proofs.Common.{rules, ◌≡◌, ℕ, ◌<◌, ◌≤◌, false, not, ltb, leb, List, length, sym, refl, ap, ◌∙◌, subst, Err}
use Rattle.octets.specs.Bounds.{interfaces}
use Rattle.octets.specs.Addresses.{is_family}
use Rattle.octets.proofs.Tests.{not_upto, neither}
use Rattle.octets.specs.declared.Setting.{Setting}
use Rattle.refusal.specs.Numbers.{report_of}
use Rattle.refusal.specs.Checks.{Checks, pass, Verdict, refused, passed, verdict, Gives, next, stop}
use Rattle.refusal.proofs.Checks.{clear, gives, stays}
use Rattle.refusal.specs.declared.Refusal.{Refusal}
use Rattle.refusal.specs.declared.Refusal.TheVariants.{Table as BadTableRefusal}
use Rattle.name_table.specs.Bounds.{most_names}
use Rattle.name_table.specs.Check.{Held, Checked, good, bad, is_bad, bad_at, names_in, check_table}
use Rattle.name_table.specs.Shown.{shown, table_read}
use Rattle.name_table.specs.declared.BadTable.{BadTable}
use Rattle.name_table.proofs.Read.{read_shown, read_few}
use Rattle.host.specs.Bounds.{room}
use Rattle.host.specs.State.{setting_of}
use Rattle.host.specs.Early.{early, first_checks}
use Rattle.host.specs.ExactlyWhen.{CalledWell}
use Rattle.host.specs.declared.Host.{Host}
use Rattle.host.proofs.Called.{called_is}
use Rattle.checks.specs.Messages.{slot_of}
use Rattle.checks.proofs.MessageLaws.{slot_is, slot_unused}
use Rattle.responder.specs.Opening.{refuses, opens, opened_if, opening}
use Rattle.responder.specs.Served.{Sees}

-- ---- the reading of a table

pub read_bad : (table : List ℕ) (b : BadTable) → table_read table ≡ Err b → check_table table ≡ bad b.at
read_bad table b e = sym (read_shown table) ∙ ap (shown table) e

-- ---- how the code opens

module _ (size : ℕ) (table : List ℕ) (i family clock time : ℕ) where
  abbrev checks : Checks
  checks = first_checks size table i family clock time pass

  pub refused_so : (why : Refusal) → Gives checks (refused (report_of why)) → refuses (report_of why) ≡ opening size table i family clock time
  unfolding opening
  refused_so why g = ap (λ (v : Verdict). opened_if v table) (gives g)

  pub opens_so : (hs : List Held) → check_table table ≡ good hs → Gives checks passed → opens hs ≡ opening size table i family clock time
  unfolding opening
  opens_so hs e g = sym (ap (λ (c : Checked). opens (names_in c)) e) ∙ ap (λ (v : Verdict). opened_if v table) (gives g)

  pub table_so : (at : ℕ) → ltb size room ≡ false → check_table table ≡ bad at
      → refuses (report_of (BadTableRefusal at)) ≡ opening size table i family clock time
  table_so at l e =
      let a : bad_at (check_table table) ≡ at = ap bad_at e in
      let g : Gives checks (refused (report_of (BadTableRefusal at))) = rw (← a) (next l (stop (ap is_bad e))) in
      refused_so (BadTableRefusal at) g

  -- an interface that is there, and no more names than there may be
  pub opens_there : (hs : List Held) → opens hs ≡ opening size table i family clock time → (i < interfaces) × (length hs ≤ most_names)
  unfolding opening
  opens_there hs e = go (verdict checks) refl e
    where
      go : (v : Verdict) → verdict checks ≡ v → opens hs ≡ opened_if v table → (i < interfaces) × (length hs ≤ most_names)
      go (refused t) p q = search rules
      go passed p q =
          let n : names_in (check_table table) ≡ hs = cc in (
            (not_upto interfaces i).0 ((neither (leb interfaces i) (not (is_family family))).0 (clear checks p).1.1.0).0,
            subst (λ (x : List Held). length x ≤ most_names) n (read_few table),
          )

-- ---- what that says of a call

-- a call that is made well, with the names of the table; its interface stands at its place in the state
pub record Called (h : Host) (table : List ℕ) (i time : ℕ) (out : List ℕ) (hs : List Held) : Type 0 where
  pub same : slot_of i ≡ i
  pub well : CalledWell h table i time out hs

module _ (h : Host) (table : List ℕ) (i time : ℕ) (out : List ℕ) (s : Setting) (clock : ℕ) (x : Sees h i s clock) where
  same_checks : first_checks (length out) table i s.family clock time pass ≡ early h table i time out pass
  same_checks = rw (← x.setting, ← x.clock_is, slot_unused (λ y. (setting_of h y).family) i)

  told : opening (length out) table i s.family clock time ≡ opened_if (verdict (early h table i time out pass)) table
  unfolding opening
  told = ap (λ (c : Checks). opened_if (verdict c) table) same_checks

  pub refusing : (why : Refusal) → refuses (report_of why) ≡ opening (length out) table i s.family clock time
      → (rest : Checks) → verdict (early h table i time out rest) ≡ refused (report_of why)
  refusing why e rest = stays (early h table i time out pass) rest _ (go (verdict (early h table i time out pass)) (e ∙ told))
    where
      go : (v : Verdict) → refuses (report_of why) ≡ opened_if v table → v ≡ refused (report_of why)
      go (refused t) q = cc
      go passed q = search rules

  pub calling : (hs : List Held) → opens hs ≡ opening (length out) table i s.family clock time → Called h table i time out hs
  calling hs e = go (verdict (early h table i time out pass)) refl (e ∙ told)
    where
      go : (v : Verdict) → verdict (early h table i time out pass) ≡ v → opens hs ≡ opened_if v table → Called h table i time out hs
      go (refused t) p q = search rules
      go passed p q =
          let w = called_is h table i time out pass (clear (early h table i time out pass) p) in
          let n : names_in (check_table table) ≡ hs = cc in
          record { same = slot_is i w.interface; well = subst (CalledWell h table i time out) n w }
