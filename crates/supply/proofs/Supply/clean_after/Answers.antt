-- `supply::Supply::clean_after` meets its contract. Assumes nothing.
use Rattle.supply.proofs.Laws.{no-run-made, same-stay, other-stay}
use Rattle.supply.proofs.Supply.clean_after.Goals as goal

pub returns-then-severity-self : goal.returns-then-severity-self
returns-then-severity-self c = search same-stay

pub returns-else-severity-self : goal.returns-else-severity-self
returns-else-severity-self c = search (other-stay, c.if-severity-self.false, no-run-made _ _ _ c.default.ensures)
