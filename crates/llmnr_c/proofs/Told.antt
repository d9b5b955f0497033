-- A call of a host changes at most the name that its outcome tells, and none unless the outcome is one that does.
use Rattle.std.proofs.Common.{ℕ, ◌≡◌, refl, List, Bool, true, false, length, ltb}
use Rattle.refusal.specs.Checks.{pass, Verdict, refused as refused_by, passed, verdict}
use Rattle.name_table.specs.Kinds.{kind_of, is_shared_kind}
use Rattle.name_table.specs.Check.{check_table, names_in, name_in}
use Rattle.host.specs.Bounds.{sends_in_all}
use Rattle.host.specs.State.{interface_of as interface_at, state_of, with_state}
use Rattle.host.specs.Outcomes.{Done}
use Rattle.host.specs.Early.{early}
use Rattle.host.specs.Start.{start_checks, started, start_if, start}
use Rattle.host.specs.Tick.{Due, due, none, due_from, serve, serve_due, tick_if, tick}
use Rattle.host.specs.Receive.{Arrival, question, name_number, receive_checks, Decision, answer, defend, stop, keep, decision, effect, receive_if, receive}
use Rattle.host.specs.declared.NameState.{NameState}
use Rattle.host.specs.declared.NameState.TheVariants.{Off, Verifying, Unique, Defending, Stopped, Shared}
use Rattle.host.specs.declared.Interface.{Interface}
use Rattle.host.specs.declared.Host.{Host}
use Rattle.responder.specs.Served.{changes, name_told}

-- the interfaces of h, with a state of the k-th name of interface i
abbrev pub changed : Host → ℕ → ℕ → NameState → List Interface
changed h i k s = (with_state h i k s 0).interfaces

pub data Tells (h : Host) (i : ℕ) (d : Done) : Type 0 where
  silent : changes d.result ≡ false → d.host.interfaces ≡ h.interfaces → Tells h i d
  tells : (s : NameState) → changes d.result ≡ true → d.host.interfaces ≡ changed h i (name_told d.result) s → Tells h i d

module _ (h : Host) (table : List ℕ) (i time id : ℕ) (out : List ℕ) where
  pub start_tells : (k : ℕ) → Tells h i (start h table i k time id out)
  unfolding start
  start_tells k = go (verdict (start_checks h table i k time out))
    where
      on : (b : Bool) → is_shared_kind (kind_of (name_in table k).kind) ≡ b → Tells h i (started h table i k time id out)
      on true e = rw e (tells Shared refl refl)
      on false e = rw e (tells _ refl refl)

      go : (v : Verdict) → Tells h i (start_if v h table i k time id out)
      go (refused_by t) = silent refl refl
      go passed = on _ refl

  pub tick_tells : Tells h i (tick h table i time id out)
  unfolding tick
  tick_tells = go (verdict (early h table i time out pass))
    where
      by : (s : NameState) (k : ℕ) → Tells h i (serve s h table i k time out)
      by (Verifying sends own timer) k = on (ltb sends sends_in_all) refl
        where
          on : (b : Bool) → ltb sends sends_in_all ≡ b → Tells h i (serve (Verifying sends own timer) h table i k time out)
          on true e = rw e (tells _ refl refl)
          on false e = rw e (tells _ refl refl)
      by (Defending own qtype class timer) k = tells _ refl refl
      by Off k = tells _ refl refl
      by Unique k = tells _ refl refl
      by (Stopped until) k = tells _ refl refl
      by Shared k = tells _ refl refl

      serves : (d : Due) → Tells h i (serve_due d h table i time out)
      serves (due k) = by (state_of h i k) k
      serves none = silent refl refl

      go : (v : Verdict) → Tells h i (tick_if v h table i time out)
      go (refused_by t) = silent refl refl
      go passed = serves (due_from (length (names_in (check_table table))) (interface_at h i).names 0 time)

pub receive_tells : (h : Host) (a : Arrival) → Tells h a.interface (receive h a)
unfolding receive
receive_tells h a = go (verdict (receive_checks h a))
  where
    by : (d : Decision) → Tells h a.interface (effect d h a (question a) (name_number a))
    by answer = silent refl refl
    by defend = tells _ refl refl
    by stop = tells _ refl refl
    by keep = silent refl refl

    go : (v : Verdict) → Tells h a.interface (receive_if v h a)
    go (refused_by t) = silent refl refl
    go passed = by (decision h a)
