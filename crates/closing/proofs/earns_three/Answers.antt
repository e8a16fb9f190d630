-- `closing::earns_three` meets its contract.
-- Assumes nothing.
use Rattle.std.proofs.Common.{rules}
use Rattle.closing.proofs.Counting.{within-third, outside-third, of-two}
use Rattle.closing.proofs.earns_three.Goals as goal

pub returns-in_default : goal.returns-in_default
returns-in_default c =
    outside-third c.args.stage c.args.stages c.if-stages-lt3.false (λ k. search rules)

pub returns-in_default-2 : goal.returns-in_default-2
returns-in_default-2 c =
    outside-third c.args.stage c.args.stages c.if-stages-lt3.false (λ k. search rules)

pub returns-then-stages-lt3 : goal.returns-then-stages-lt3
returns-then-stages-lt3 c = of-two c.args.stage c.args.stages c.if-stages-lt3.true

pub returns-in-1-to-3 : goal.returns-in-1-to-3
returns-in-1-to-3 c =
    within-third c.args.stage c.args.stages c.if-stages-lt3.false (search rules) (search rules)
