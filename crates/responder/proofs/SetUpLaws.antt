-- Each way that set-up can end.
use Rattle.std.proofs.Common.{◌≡◌, ℕ, ◌<◌, ◌≤◌, true, false, List, [], sym, ap, ◌∙◌, le-ltb, lt-ltb}
use Rattle.octets.specs.declared.Setting.{Setting}
use Rattle.octets.specs.Bounds.{interfaces}
use Rattle.refusal.specs.Numbers.{report_of}
use Rattle.refusal.specs.declared.Refusal.TheVariants.{Table, Clock, Settings}
use Rattle.refusal.specs.Checks.{Verdict, Gives, stop, next, done}
use Rattle.refusal.proofs.Checks.{gives}
use Rattle.name_table.specs.Check.{Held, Checked, good, bad, is_bad, bad_at, check_table}
use Rattle.host.specs.Bounds.{latest}
use Rattle.host.specs.Outcomes.{refusal, silent, ready}
use Rattle.host.specs.SetUp.{bad_among, fresh_host, zero_host, set_up_checks, set_up_by, set_up}

module _ (table : List ℕ) (settings : List Setting) (time id : ℕ) where
  by : (v : Verdict) → Gives (set_up_checks table settings time) v → set_up_by v settings time ≡ set_up table settings time id
  unfolding set_up
  by v g = ap (λ (w : Verdict). set_up_by w settings time) (gives g)

  pub table_refused : (at : ℕ) → check_table table ≡ bad at → refusal zero_host [] (report_of (Table at)) ≡ set_up table settings time id
  table_refused at e = ap (λ (c : Checked). refusal zero_host [] (report_of (Table (bad_at c)))) (sym e) ∙ by _ (stop (ap is_bad e))

  module _ (hs : List Held) (e : check_table table ≡ good hs) where
    pub clock_refused : latest < time → refusal zero_host [] (report_of Clock) ≡ set_up table settings time id
    clock_refused h = by _ (next (ap is_bad e) (stop (lt-ltb _ _ h)))

    module _ (h : time ≤ latest) where
      pub settings_refused : bad_among interfaces settings ≡ true → refusal zero_host [] (report_of Settings) ≡ set_up table settings time id
      settings_refused b = by _ (next (ap is_bad e) (next (le-ltb _ _ h) (stop b)))

      pub accepted : bad_among interfaces settings ≡ false → silent (fresh_host settings time) [] ready ≡ set_up table settings time id
      accepted b = by _ (next (ap is_bad e) (next (le-ltb _ _ h) (next b done)))
