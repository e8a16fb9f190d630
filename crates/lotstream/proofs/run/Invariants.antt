-- `lotstream::run` meets its contract.
use mathlib.Core.Path.{◌≡◌}
use lib.ListN.{length}
use Rattle.lotstream.specs.Runs.{scene, Running}
use Rattle.lotstream.proofs.run.Given as goal

abbrev pub invariant-loop-turns : goal.invariant-loop-turns
invariant-loop-turns g l =
    Running l._turns (scene l.turn l.input l.output) × (length l.output ≡ length l.initial.output)
    × (length l.input ≡ length l.initial.input)
