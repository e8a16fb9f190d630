-- `supply::Supply::clean_by` meets its contract. Assumes nothing.
use Rattle.supply.proofs.Laws.{lot-cleans}
use Rattle.supply.proofs.Supply.clean_by.Goals as goal

pub returns-in-Lot : goal.returns-in-Lot
returns-in-Lot c = lot-cleans _ _ _ c.in-Lot.is _ _ _ c.clean_from.ensures
