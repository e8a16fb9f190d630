-- `severity::Record::lot_normal` meets its contract. Assumes nothing.
use Rattle.severity.proofs.Laws.{normal-accepted, normal-turns, normal-stays}
use Rattle.severity.proofs.Record.lot_normal.Goals as goal

pub returns-then-is_accepted : goal.returns-then-is_accepted
returns-then-is_accepted c = search normal-accepted

pub returns-then-window-ge2 : goal.returns-then-window-ge2
returns-then-window-ge2 c = search normal-turns

pub returns-else-window-ge2 : goal.returns-else-window-ge2
returns-else-window-ge2 c = search normal-stays
