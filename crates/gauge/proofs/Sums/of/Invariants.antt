-- `gauge::Sums::of` meets its contract: the sums are those of the readings so far, which are in range.
-- Assumes nothing.
use Rattle.gauge.proofs.Pass.{Passing}
use Rattle.gauge.proofs.Sums.of.Given as goal

abbrev pub invariant-loop-i : goal.invariant-loop-i
invariant-loop-i l = Passing l.s l.n l.t l.q l.i
