-- `samples::sequential_sample` meets its contract. The invariant: the walk has come to the item at place i.
-- Assumes nothing.
use mathlib.Core.Path.{sym}
use native.Mathlib.Omega.{arith}
use Rattle.rules.proofs.SampleSteps.{sequential-over}
use Rattle.samples.proofs.sequential_sample.Goals as goal

pub returns-then-x-gt1 : goal.returns-then-x-gt1
returns-then-x-gt1 c =
    sym (sequential-over c.loop-i.invariant.walked (omega arith) c.number-x.ensures c.if-x-gt1.true)
