-- `severity::update` meets its contract. Assumes nothing.
use Rattle.severity.proofs.Loop.{event-walked}
use Rattle.severity.proofs.update.Goals as goal

pub returns : goal.returns
returns c = event-walked _ _ _ _ _ _ _ c.ours.ensures c.byte_of.ensures c.walk.ensures
