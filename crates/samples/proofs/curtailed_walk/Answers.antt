-- `samples::curtailed_walk` meets its contract: one law for each exit of the loop.
-- Assumes nothing.
use mathlib.Core.Path.{refl, sym}
use native.Mathlib.Omega.{arith}
use Rattle.std.proofs.lemmas.Result.{err_from_is_err_and}
use Rattle.rules.proofs.SampleSteps.{curtailed-missing, curtailed-over}
use Rattle.rules.proofs.SampleSteps.{curtailed-goes}
use Rattle.samples.proofs.Reading.{item-legal, item-refused}
use Rattle.samples.proofs.curtailed_walk.Goals as goal

pub returns-in_err-item : goal.returns-in_err-item
returns-in_err-item c =
    let at = c.loop-i.invariant.walked in
    let p = err_from_is_err_and c.from_residual.result c.from_residual.ensures.1 in
    rw (p.1, p.2)
    (sym
    (item-refused _ _ _ _ _ _ c.in_err-item.ensures (λ h. curtailed-missing at (omega arith) h)
    (λ h e. curtailed-over at (omega arith) h refl e)))

pub loop-i-preserved : goal.loop-i-preserved
loop-i-preserved c =
    let item = item-legal _ _ _ _ c.in_ok-item.ensures in
    record {
      there = omega (arith, item.there);
      few = omega arith;
      walked = curtailed-goes c.loop-i.invariant.walked (omega arith) item.there item.is item.legal (omega arith);
    }
