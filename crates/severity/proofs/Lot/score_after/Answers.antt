-- `severity::Lot::score_after` meets its contract. Assumes nothing.
use Rattle.std.proofs.Common.{arith}
use Rattle.severity.proofs.Laws.{score-three, score-two}
use Rattle.severity.proofs.Lot.score_after.Goals as goal

pub returns-in-AddThree : goal.returns-in-AddThree
returns-in-AddThree c = score-three _ _ _ c.in-AddThree.is (omega (arith, c.min.ensures))

pub returns-in-AddTwo : goal.returns-in-AddTwo
returns-in-AddTwo c = score-two _ _ _ c.in-AddTwo.is (omega (arith, c.min-in-AddTwo.ensures))
