-- A number that stands in the book stands within its bytes.
-- Assumes nothing.
use Rattle.rules.proofs.Numbers.{numbers-low}

pub ruleset bounds = (numbers-low)
