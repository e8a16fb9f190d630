-- `entry::staged_at` meets its contract.
-- Assumes nothing.
use Rattle.rules.specs.Numbers.{numbers_of}
use Rattle.entry.proofs.staged_at.Given as goal
use Rattle.entry.proofs.Seven.{StagesRead}

abbrev pub invariant-loop-i : goal.invariant-loop-i
invariant-loop-i l = StagesRead (numbers_of l.e) l.m l.i l.stages
