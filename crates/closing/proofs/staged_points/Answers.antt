-- `closing::staged_points` meets its contract.
-- Assumes nothing.
use Rattle.closing.proofs.Counting.{staged-three, staged-zero}
use Rattle.closing.proofs.staged_points.Goals as goal

pub returns-then-earns_three : goal.returns-then-earns_three
returns-then-earns_three c =
    staged-three c.args.stage c.args.stages _ c.earns_three.ensures c.if-earns_three.true

pub returns-else-earns_three : goal.returns-else-earns_three
returns-else-earns_three c =
    staged-zero c.args.stage c.args.stages _ c.earns_three.ensures c.if-earns_three.false
