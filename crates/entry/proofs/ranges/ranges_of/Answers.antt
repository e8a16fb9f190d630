-- `entry::ranges::ranges_of` meets its contract: each arm is the list of its kind.
-- Assumes nothing.
use Rattle.entry.proofs.AnyKind.{list-is, list-last}
use Rattle.entry.proofs.ranges.ranges_of.Goals as goal

pub returns-in-0 : goal.returns-in-0
returns-in-0 c = search list-is

pub returns-in-1 : goal.returns-in-1
returns-in-1 c = search list-is

pub returns-in-2 : goal.returns-in-2
returns-in-2 c = search list-is

pub returns-in_default : goal.returns-in_default
returns-in_default c = search list-last
