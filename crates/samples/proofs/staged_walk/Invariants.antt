-- `samples::staged_walk` meets its contract. The invariant: the walk has come to the stage at place i.
-- Assumes nothing.
use Prim.Native.Nat.{◌*◌, ◌≤◌}
use lib.ListN.{length}
use Rattle.rules.specs.Numbers.{numbers_of}
use Rattle.rules.proofs.SampleSteps.{StagedAt}
use Rattle.entry.specs.Paper.{staged_paper}
use Rattle.samples.proofs.staged_walk.Given as goal

abbrev pub invariant-loop-i : goal.invariant-loop-i
invariant-loop-i l =
    record {
      there : l.used ≤ length (numbers_of l.sample);
      near : l.used ≤ 65535 * l.i;
      few : l.total ≤ 65535 * l.used;
      walked : StagedAt l.column (staged_paper l.plan) l.sample l.i l.used l.total;
    }
