-- `gauge::Margin::passes` meets its contract.
-- Assumes nothing.
use mathlib.Core.Path.{sym}
use native.Mathlib.Omega.{arith}
use Rattle.rules.proofs.Diff.{diff-of}
use Rattle.rules.proofs.Readings.{rejected-by}
use Rattle.gauge.proofs.Bounds.{Products, products}
use Rattle.gauge.proofs.FromSums.{weighed-from}
use Rattle.gauge.proofs.Margin.passes.Goals as goal
use Rattle.gauge.proofs.Margin.passes.Goals.{After-square-tt}

pub returns-then-self : goal.returns-then-self
returns-then-self c =
    let m = c.args.self in
    sym (rejected-by c.args.sums.n m.k m.high m.low 0 0 _ _ (diff-of _ _) c.if-self.true)

pub returns : goal.returns
returns c =
    let m = c.args.self in
    let s = c.args.sums in
    rw (c.square-d.ensures.0, c.square-tt.ensures.0) (sym (weighed-from s.n s.t m.k m.high m.low s.q c.if-self.false))

bounds : (c : After-square-tt) → Products c.args.sums.n c.args.self.k c.args.sums.q c.square-d.result c.square-tt.result
bounds c =
    let m = c.args.self in
    let s = c.args.sums in
    products _ _ _ _ _ s.few.1 m.small.0 s.small.1 c.square-d.ensures.1 c.square-tt.ensures.1

pub overflow_mul-result-2 : goal.overflow_mul-result-2
overflow_mul-result-2 c = omega (arith, bounds (goal.at.overflow_mul-result-2 c).After-square-tt)

pub overflow_mul-result-5 : goal.overflow_mul-result-5
overflow_mul-result-5 c = omega (arith, bounds (goal.at.overflow_mul-result-5 c).After-square-tt)

pub overflow_add-result : goal.overflow_add-result
overflow_add-result c = omega (arith, bounds (goal.at.overflow_add-result c).After-square-tt)
