-- Flat and back loses nothing: a host, a lookup and an outcome that are made flat stand for themselves; and a flat value in normal form is what
-- its state is made into.
use Rattle.std.proofs.Common.{Result, rules, ℕ, zero, suc, ◌≡◌, refl, ap, ◌∙◌, List, [], ◌∷◌, map, arith, length}
use Rattle.std.proofs.lemmas.List.{length-map}
use Rattle.octets.specs.declared.Setting.{Setting}
use Rattle.refusal.specs.Numbers.{report_of}
use Rattle.refusal.specs.declared.Refusal.{Refusal}
use Rattle.host.specs.Outcomes.{told}
use Rattle.host.specs.SetUp.{set_up_after}
use Rattle.host.specs.declared.NameState.{NameState}
use Rattle.host.specs.declared.NameState.TheVariants.{Off, Verifying, Unique, Defending, Stopped as StoppedState, Shared}
use Rattle.host.specs.declared.Interface.{Interface as HostInterface}
use Rattle.host.specs.declared.Host.{Host}
use Rattle.host.specs.declared.Outcome.{Outcome}
use Rattle.lookup.specs.Outcomes.{told as lookup_told}
use Rattle.lookup.specs.declared.Phase.{Phase}
use Rattle.lookup.specs.declared.Phase.TheVariants.{Asking, Collecting, Ended}
use Rattle.lookup.specs.declared.Lookup.{Lookup}
use Rattle.lookup.specs.declared.Outcome.{Outcome as LookupOutcome}
use Rattle.llmnr_c.specs.Outcomes.{flat_refusal, flat_outcome, flat_lookup_outcome, report_from, result_from, lookup_result_from}
use Rattle.llmnr_c.specs.FlatHost.{state_of, host_of, flat_state, flat_names, flat_host}
use Rattle.llmnr_c.specs.FlatLookup.{phase_of, lookup_of, phase_number, sends_in, due_in, flat_lookup}
use Rattle.llmnr_c.specs.Normal.{IsNormalName, AreNormalNames, AreNormalInterfaces, IsNormalHost, IsNormalLookup}
use Rattle.llmnr_c.specs.declared.flat.FlatName.{FlatName}
use Rattle.llmnr_c.specs.declared.flat.FlatNames.{FlatNames}
use Rattle.llmnr_c.specs.declared.flat.FlatHost.{FlatHost}
use Rattle.llmnr_c.specs.declared.flat_lookup.FlatLookup.{FlatLookup}
use Rattle.llmnr_c.proofs.Lists.{Four, four, fours}

-- ---- A host that is made flat stands for itself.

pub name_back : (s : NameState) → state_of (flat_state s) ≡ s
name_back s = search rules

names_back : (l : List NameState) → map state_of (map flat_state l) ≡ l
names_back [] = refl
names_back (n ∷ l) = rw (name_back n, names_back l)

pub host_back : (h : Host) → length h.interfaces ≡ 4 → host_of (flat_host h) ≡ h
host_back h e = ap (λ (l : List HostInterface). record { interfaces = l; clock = h.clock }) (go (fours h.interfaces e))
  where
    go : {l : List HostInterface} → Four l → (host_of (flat_host (record { interfaces = l; clock = h.clock }))).interfaces ≡ l
    go (four a b c d) = rw (names_back a.names, names_back b.names, names_back c.names, names_back d.names)

-- ---- So does a lookup.

pub phase_back : (p : Phase) → phase_of (phase_number p) (sends_in p) (due_in p) ≡ p
phase_back p = search rules

pub lookup_back : (l : Lookup) → lookup_of (flat_lookup l) ≡ l
lookup_back l = rw (phase_back l.phase)

-- ---- The numbers of an outcome tell what it tells.

report_back : (r : Refusal) → report_from (flat_refusal (report_of r)) ≡ report_of r
report_back r = search rules

pub outcome_back : (o : Result Outcome Refusal) → result_from (flat_outcome (told o)) ≡ told o
outcome_back o = search (rules, report_back)

-- and so do those of a set-up
pub set_up_back : (h : Result Host Refusal) → result_from (flat_outcome (set_up_after h).result) ≡ (set_up_after h).result
set_up_back h = search (rules, report_back)

pub lookup_outcome_back : (o : Result LookupOutcome Refusal) → lookup_result_from (flat_lookup_outcome (lookup_told o)) ≡ lookup_told o
lookup_outcome_back o = search (rules, report_back)

-- ---- A flat host in normal form is what its host is made into.

abbrev name : ℕ → ℕ → ℕ → ℕ → ℕ → ℕ → FlatName
name state sends id qtype qclass due = record { state = state; sends = sends; id = id; qtype = qtype; qclass = qclass; due = due }

name_forth : (state sends id qtype qclass due : ℕ) → IsNormalName (name state sends id qtype qclass due)
    → flat_state (state_of (name state sends id qtype qclass due)) ≡ name state sends id qtype qclass due
name_forth zero sends id qtype qclass due n = rw (n.sends (λ e. omega arith), n.id (λ e. omega arith) (λ e. omega arith), n.qtype (λ e. omega arith), n.qclass (λ e. omega arith), n.due (λ e. omega arith) (λ e. omega arith) (λ e. omega arith))
name_forth (suc zero) sends id qtype qclass due n = rw (n.qtype (λ e. omega arith), n.qclass (λ e. omega arith))
name_forth (suc (suc zero)) sends id qtype qclass due n = rw (n.sends (λ e. omega arith), n.id (λ e. omega arith) (λ e. omega arith), n.qtype (λ e. omega arith), n.qclass (λ e. omega arith), n.due (λ e. omega arith) (λ e. omega arith) (λ e. omega arith))
name_forth (suc (suc (suc zero))) sends id qtype qclass due n = rw (n.sends (λ e. omega arith))
name_forth (suc (suc (suc (suc zero)))) sends id qtype qclass due n = rw (n.sends (λ e. omega arith), n.id (λ e. omega arith) (λ e. omega arith), n.qtype (λ e. omega arith), n.qclass (λ e. omega arith))
name_forth (suc (suc (suc (suc (suc zero))))) sends id qtype qclass due n = rw (n.sends (λ e. omega arith), n.id (λ e. omega arith) (λ e. omega arith), n.qtype (λ e. omega arith), n.qclass (λ e. omega arith), n.due (λ e. omega arith) (λ e. omega arith) (λ e. omega arith))
name_forth (suc (suc (suc (suc (suc (suc state)))))) sends id qtype qclass due n = absurd (omega (arith, n.state))

names_forth : (l : List FlatName) → AreNormalNames l → map flat_state (map state_of l) ≡ l
names_forth [] n = refl
names_forth (f ∷ l) n = rw (name_forth f.state f.sends f.id f.qtype f.qclass f.due n.0, names_forth l n.1)

pub host_forth : (f : FlatHost) → IsNormalHost f → flat_host (host_of f) ≡ f
host_forth f n = go (fours f.settings.interfaces n.settings) (fours f.interfaces n.four) n.names
  where
    go : {l : List Setting} {m : List FlatNames} → Four l → Four m → AreNormalInterfaces m
        → flat_host (host_of (record { settings = record { interfaces = l }; interfaces = m; clock = f.clock }))
        ≡ record { settings = record { interfaces = l }; interfaces = m; clock = f.clock }
    go (four p q r s) (four a b c d) k =
        rw (names_forth a.names k.0, names_forth b.names k.1.0, names_forth c.names k.1.1.0, names_forth d.names k.1.1.1.0)

-- ---- So is a flat lookup.

phase_forth : (phase sends due : ℕ) (f : FlatLookup) → f.phase ≡ phase → f.sends ≡ sends → f.due ≡ due → IsNormalLookup f
    → (phase_number (phase_of phase sends due) ≡ phase) × (sends_in (phase_of phase sends due) ≡ sends) × (due_in (phase_of phase sends due) ≡ due)
phase_forth zero sends due f p q r n = (refl, omega (arith, n.sends (λ e. omega arith)), omega (arith, n.due (omega arith)))
phase_forth (suc zero) sends due f p q r n = (refl, refl, refl)
phase_forth (suc (suc zero)) sends due f p q r n = (refl, omega (arith, n.sends (λ e. omega arith)), refl)
phase_forth (suc (suc (suc phase))) sends due f p q r n = absurd (omega (arith, n.phase))

pub lookup_forth : (f : FlatLookup) → IsNormalLookup f → flat_lookup (lookup_of f) ≡ f
lookup_forth f n =
    let k = phase_forth f.phase f.sends f.due f refl refl refl n in
    rw (k.0, k.1, k.2)

-- ---- What is made flat is in normal form.

pub name_normal : (s : NameState) → IsNormalName (flat_state s)
name_normal Off = record { state = omega arith; sends = λ e. refl; id = λ e g. refl; qtype = λ e. refl; qclass = λ e. refl; due = λ e g k. refl }
name_normal (Verifying sends id timer) =
    record { state = omega arith; sends = λ e. absurd (e refl); id = λ e g. absurd (e refl); qtype = λ e. refl; qclass = λ e. refl; due = λ e g k. absurd (e refl) }
name_normal Unique = record { state = omega arith; sends = λ e. refl; id = λ e g. refl; qtype = λ e. refl; qclass = λ e. refl; due = λ e g k. refl }
name_normal (Defending id qtype qclass timer) =
    record { state = omega arith; sends = λ e. refl; id = λ e g. absurd (g refl); qtype = λ e. absurd (e refl); qclass = λ e. absurd (e refl); due = λ e g k. absurd (g refl) }
name_normal (StoppedState until) = record { state = omega arith; sends = λ e. refl; id = λ e g. refl; qtype = λ e. refl; qclass = λ e. refl; due = λ e g k. absurd (k refl) }
name_normal Shared = record { state = omega arith; sends = λ e. refl; id = λ e g. refl; qtype = λ e. refl; qclass = λ e. refl; due = λ e g k. refl }

names_normal : (l : List NameState) → AreNormalNames (map flat_state l)
names_normal [] = tt
names_normal (n ∷ l) = (name_normal n, names_normal l)

interfaces_normal : (l : List HostInterface) → AreNormalInterfaces (map flat_names l)
interfaces_normal [] = tt
interfaces_normal (i ∷ l) = (names_normal i.names, interfaces_normal l)

pub host_normal : (h : Host) → length h.interfaces ≡ 4 → IsNormalHost (flat_host h)
host_normal h e =
    record {
      settings = length-map h.interfaces (λ (i : HostInterface). i.setting) ∙ e;
      four = length-map h.interfaces flat_names ∙ e;
      names = interfaces_normal h.interfaces;
    }

pub lookup_normal : (l : Lookup) → IsNormalLookup (flat_lookup l)
lookup_normal l = go l.phase
  where
    go : (p : Phase) → IsNormalLookup (flat_lookup (record { settings = l.settings; interface = l.interface; name = l.name; len = l.len; qtype = l.qtype; id = l.id; clock = l.clock; phase = p }))
    go (Asking sends timer) = record { phase = omega arith; sends = λ e. absurd (e refl); due = λ e. absurd (omega arith) }
    go (Collecting timer) = record { phase = omega arith; sends = λ e. refl; due = λ e. absurd (omega arith) }
    go Ended = record { phase = omega arith; sends = λ e. refl; due = λ e. refl }
