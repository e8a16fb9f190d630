-- `supply::Supply::event_on` meets its contract. Assumes nothing.
use Rattle.supply.specs.Paper.{supply_paper}
use Rattle.supply.proofs.Laws.{lot-counts}
use Rattle.supply.proofs.Supply.event_on.Goals as goal

pub returns-in-Lot : goal.returns-in-Lot
returns-in-Lot c = lot-counts _ _ _ c.in-Lot.is (supply_paper c.args.self) _ c.lot_on.ensures
