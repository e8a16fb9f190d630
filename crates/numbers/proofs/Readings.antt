-- A reading by the half of the range that its number is in.
-- Assumes nothing.
use Rattle.rules.proofs.Numbers.{raised-low, raised-high}

pub ruleset raised = (raised-low, raised-high)
