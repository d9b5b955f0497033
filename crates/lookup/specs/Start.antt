-- Start of a lookup: 1, 3, 4, 10, 22; then it sends its query. It has no earlier time.
use Rattle.names.specs.declared.Name.{Name}
use Rattle.std.specs.Prelude.{ℕ, List, Bool, true, not, length, get_or, replicate, ltb, eqb, None, Option, Some}
use Rattle.octets.specs.Tests.{◌or◌}
use Rattle.octets.specs.Octets.{put}
use Rattle.octets.specs.Addresses.{unused}
use Rattle.octets.specs.declared.Setting.{Setting}
use Rattle.refusal.specs.Numbers.{number}
use Rattle.refusal.specs.Checks.{Checks, fail, pass, Verdict, refused, passed, verdict}
use Rattle.names.specs.Bounds.{longest_name}
use Rattle.names.specs.NameWalk.{labels_of, name_at}
use Rattle.host.specs.Bounds.{latest}
use Rattle.host.specs.State.{timer_from}
use Rattle.host.specs.Early.{no_room, no_interface}
use Rattle.lookup.specs.State.{ended_lookup}
use Rattle.lookup.specs.Outcomes.{Done, refusal, query_for, asking}
use Rattle.lookup.specs.SeveralLabels.{several_labels}
use Rattle.lookup.specs.declared.Phase.TheVariants.{Asking}
use Rattle.lookup.specs.declared.Lookup.{Lookup}

-- 10: it is not a name, or it is the root, or octets are left over
abbrev pub bad_name : List ℕ → Option Name → Bool
bad_name octets (Some n) = eqb n.len 1 or not (eqb n.len (length octets))
bad_name octets None = true

-- 10, 22: of the start's permission, the name's octets, and what is read there
abbrev pub name_checks : Bool → List ℕ → Option Name → Checks
name_checks permission name read =
    fail (bad_name name read) (number 10)
    (fail (several_labels permission name (labels_of read)) (number 22)
    pass)

abbrev pub start_checks : List Setting → ℕ → List ℕ → Bool → ℕ → List ℕ → Checks
start_checks settings i name permission time out =
    fail (no_room (length out)) (number 1)
    (fail (no_interface i (get_or settings i unused).family) (number 3)
    (fail (ltb latest time) (number 4)
    (name_checks permission name (name_at name 0))))

-- a lookup that has sent its query once; the rest of the array that holds its name is zero
abbrev pub started_lookup : List Setting → ℕ → List ℕ → ℕ → ℕ → ℕ → Lookup
started_lookup settings i name qtype time id =
    record {
      settings = settings;
      interface = i;
      name = put (replicate longest_name 0) 0 name;
      len = length name;
      qtype = qtype;
      id = id;
      clock = time;
      phase = Asking 1 (timer_from (get_or settings i unused) time);
    }

abbrev pub start_if : Verdict → List Setting → ℕ → List ℕ → ℕ → ℕ → ℕ → List ℕ → Done
start_if (refused t) settings i name qtype time id out = refusal ended_lookup out t
start_if passed settings i name qtype time id out =
    asking (started_lookup settings i name qtype time id) (query_for id name qtype) out

-- settings, interface, the name's octets, type, permission, time, ID, buffer
unfoldable pub start : List Setting → ℕ → List ℕ → ℕ → Bool → ℕ → ℕ → List ℕ → Done
start settings i name qtype permission time id out =
    start_if (verdict (start_checks settings i name permission time out)) settings i name qtype time id out
