-- `gauge::Margin::passes_known` meets its contract.
-- Assumes nothing.
use Prim.Native.Nat.{◌*◌, ◌≤◌}
use mathlib.Core.Path.{sym}
use native.Mathlib.Omega.{arith}
use Rattle.rules.proofs.Diff.{diff-of}
use Rattle.rules.proofs.Readings.{within-sigma-is}
use Rattle.gauge.proofs.Bounds.{small}
use Rattle.gauge.proofs.Margin.passes_known.Goals as goal
use Rattle.gauge.proofs.Margin.passes_known.Goals.{Start}

-- K · sigma, and n times that
bounds : (c : Start)
    → (c.args.self.k * c.args.sigma ≤ 4000000) × (c.args.self.k * c.args.sigma * c.args.n ≤ 200000000)
bounds c = small c.args.n c.args.self.k c.args.sigma c.requires.0 c.args.self.small.0 c.requires.1

pub overflow_mul-result : goal.overflow_mul-result
overflow_mul-result c = omega (arith, bounds (goal.at.overflow_mul-result c).Start)

pub overflow_mul-result-2 : goal.overflow_mul-result-2
overflow_mul-result-2 c = omega (arith, bounds (goal.at.overflow_mul-result-2 c).Start)

pub overflow_add-result : goal.overflow_add-result
overflow_add-result c = omega (arith, bounds (goal.at.overflow_add-result c).Start)

pub returns : goal.returns
returns c =
    let m = c.args.self in
    sym (within-sigma-is c.args.n m.k c.args.sigma m.high m.low _ (diff-of m.high m.low))
