-- What the steps of the code give.
use Rattle.std.specs.Prelude.{ℕ, List, cond, get_or, Option, Some, None, Result, Ok, Err, ok_or}
use Rattle.octets.specs.Addresses.{unused}
use Rattle.octets.specs.declared.Setting.{Setting}
use Rattle.refusal.specs.Numbers.{report_of}
use Rattle.refusal.specs.Checks.{Verdict, refused, passed}
use Rattle.refusal.specs.declared.Refusal.{Refusal}
use Rattle.refusal.specs.declared.Refusal.TheVariants.{Room, Interface}
use Rattle.host.specs.Early.{no_room, no_interface}
use Rattle.lookup.specs.State.{ended_lookup}
use Rattle.lookup.specs.Outcomes.{Done, refusal, query}
use Rattle.lookup.specs.declared.Lookup.{Lookup}
use Rattle.querier.specs.declared.Sent.{Sent}

-- the settings of an interface, none where it is unused
abbrev pub used_setting : List Setting → ℕ → Option Setting
used_setting settings i = cond (no_interface i (get_or settings i unused).family) None (Some (get_or settings i unused))

-- 1, 3: of a buffer of so many octets, and an interface whose settings are handed out
abbrev pub opening : ℕ → List Setting → ℕ → Result Setting Refusal
opening size settings i = cond (no_room size) (Err Room) (ok_or (used_setting settings i) Interface)

-- what some checks that the code makes say
abbrev pub verdict_by : Result Unit Refusal → Verdict
verdict_by (Ok _) = passed
verdict_by (Err why) = refused (report_of why)

-- what a start in place gives, and the lookup and the buffer that it leaves, are those of a definition: where it is refused, of a lookup that
-- has ended
abbrev pub begun_after : Lookup → Result Sent Refusal → List ℕ → Done
begun_after l (Ok s) out = record { lookup = l; result = query s.len; to = s.to; octets = out }
begun_after l (Err why) out = refusal ended_lookup out (report_of why)
