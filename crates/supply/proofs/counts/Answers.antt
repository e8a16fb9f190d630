-- `supply::counts` meets its contract. Assumes nothing.
use Rattle.severity.specs.Paper.{lot_paper}
use Rattle.supply.proofs.Laws.{counts-points, counts-zero, counts-bad}
use Rattle.supply.proofs.counts.Goals as goal

pub returns-then-not-accepted : goal.returns-then-not-accepted
returns-then-not-accepted c = counts-bad c.args.severity _ (lot_paper c.args.points) c.if-not-accepted.true

pub returns-then-severity-eq-NORMAL : goal.returns-then-severity-eq-NORMAL
returns-then-severity-eq-NORMAL c = search counts-points

pub returns-else-severity-eq-NORMAL : goal.returns-else-severity-eq-NORMAL
returns-else-severity-eq-NORMAL c = search counts-zero
