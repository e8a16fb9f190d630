-- `samples::take_items` meets its contract: one law for each exit of the loop.
-- Assumes nothing.
use Prim.Native.Nat.{◌+◌, ◌-◌, ◌*◌, ◌≤◌}
use Rattle.rules.specs.Numbers.{numbers_of}
use Rattle.rules.proofs.SampleSteps.{TakingAt}
use Rattle.samples.proofs.take_items.Given as goal

abbrev pub invariant-loop-i : goal.invariant-loop-i
invariant-loop-i l =
    record {
      few : l.t ≤ l.total + 65535 * (l.i - l.from);
      taking : TakingAt l.column l.k l.total l.from (numbers_of l.sample) l.i l.t;
    }
