-- `lotstream::log_lines` meets its contract.
use Prim.Native.Nat.{◌-◌}
use mathlib.Core.Path.{◌≡◌}
use lib.ListN.{length}
use Rattle.lotstream.specs.Turns.{Logs}
use Rattle.lotstream.proofs.log_lines.Given as goal

abbrev pub invariant-loop-done : goal.invariant-loop-done
invariant-loop-done l =
    Logs l.initial.done l.piece l.initial.output l.output l.done × (length l.output ≡ length l.initial.output)

abbrev pub decreases-loop-done : goal.decreases-loop-done
decreases-loop-done l = length l.piece - l.done.taken
