-- `supply::fresh` meets its contract. Assumes nothing.
use Rattle.supply.proofs.Laws.{no-run-made, made}
use Rattle.supply.proofs.fresh.Goals as goal

pub returns : goal.returns
returns c = made _ _ _ c.fresh.ensures (no-run-made _ _ _ c.default.ensures)
