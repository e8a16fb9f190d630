-- `severity::event_of` meets its contract. Assumes nothing.
use Rattle.severity.proofs.Laws.{byte-again, byte-unknown}
use Rattle.severity.proofs.event_of.Goals as goal

pub returns-in-4 : goal.returns-in-4
returns-in-4 c = search byte-again

pub returns-in_default : goal.returns-in_default
returns-in_default c = search byte-again

pub returns-in_default-2 : goal.returns-in_default-2
returns-in_default-2 c = search byte-unknown
