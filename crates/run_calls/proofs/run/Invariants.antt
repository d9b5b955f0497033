use Rattle.std.proofs.Common.{◌+◌, ◌-◌, ◌≤◌, ◌≡◌, ◌++◌, List, ℕ, length, string_bytes}
use Rattle.std.specs.Io.KnownBytes.{Appends, append_known}
use Rattle.std.specs.List.{concat}
use Rattle.run_calls.specs.Run.{lines_from, lines_of}
use Rattle.run_calls.proofs.run.Given as goal

-- done are the lines that are written out or stand in the text
abbrev pub invariant-loop-state : goal.invariant-loop-state
invariant-loop-state g l = record {
  counted : l.n + length l.rest ≤ length l.file;
  so_far : (done : List ℕ)
      × Appends (g.W.Write.contents l.initial.out)
      (append_known (g.W.Write.contents l.out) (string_bytes l.text)) done
      × (concat (lines_of l.file)
      ≡ done
      ++ concat (lines_from (length l.file - l.n) (length l.file) l.n l.state.table.now l.state.host
      l.state.lookups l.rest));
}

abbrev pub decreases-loop-state : goal.decreases-loop-state
decreases-loop-state g l = length l.rest
