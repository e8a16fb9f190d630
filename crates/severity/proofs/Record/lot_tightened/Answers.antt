-- `severity::Record::lot_tightened` meets its contract. Assumes nothing.
use Rattle.severity.proofs.Laws.{tightened-left, tightened-run, tightened-stopped, tightened-count}
use Rattle.severity.proofs.Record.lot_tightened.Goals as goal

pub returns-then-self-ge4 : goal.returns-then-self-ge4
returns-then-self-ge4 c = search tightened-left

pub returns-else-self-ge4 : goal.returns-else-self-ge4
returns-else-self-ge4 c = search tightened-run

pub returns-then-self-ge4-2 : goal.returns-then-self-ge4-2
returns-then-self-ge4-2 c = search tightened-stopped

pub returns-else-self-ge4-2 : goal.returns-else-self-ge4-2
returns-else-self-ge4-2 c = search tightened-count
