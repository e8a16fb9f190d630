-- `samples::curtailed_walk` meets its contract: one law for each exit of the loop.
-- Assumes nothing.
use Prim.Native.Nat.{◌≤◌}
use lib.ListN.{length}
use Rattle.rules.specs.Numbers.{numbers_of}
use Rattle.rules.proofs.SampleSteps.{CurtailedAt}
use Rattle.plans.specs.Paper.{plan_paper}
use Rattle.samples.proofs.curtailed_walk.Given as goal

abbrev pub invariant-loop-i : goal.invariant-loop-i
invariant-loop-i l =
    record {
      there : l.i ≤ length (numbers_of l.sample);
      few : l.total ≤ l.plan.ac;
      walked : CurtailedAt l.column (plan_paper l.plan) l.sample l.i l.total;
    }
