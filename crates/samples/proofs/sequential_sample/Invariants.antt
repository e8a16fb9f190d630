-- `samples::sequential_sample` meets its contract. The invariant: the walk has come to the item at place i.
-- Assumes nothing.
use Prim.Native.Nat.{◌≤◌}
use Rattle.rules.proofs.SampleSteps.{SequentialAt}
use Rattle.entry.specs.Paper.{sequential_paper}
use Rattle.samples.proofs.sequential_sample.Given as goal

abbrev pub invariant-loop-i : goal.invariant-loop-i
invariant-loop-i l =
    record {
      near : l.i ≤ 65534;
      few : l.d ≤ l.i;
      walked : SequentialAt (sequential_paper l.plan) l.sample l.i l.d;
    }
