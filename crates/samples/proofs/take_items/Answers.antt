-- `samples::take_items` meets its contract: one law for each exit of the loop.
-- Assumes nothing.
use mathlib.Core.Path.{refl, sym, ap}
use native.Mathlib.Omega.{arith}
use Rattle.std.proofs.lemmas.Result.{err_from_is_err_and}
use Rattle.rules.proofs.SampleSteps.{taking-missing, taking-over}
use Rattle.samples.specs.Paper.{taken_answer}
use Rattle.samples.proofs.Reading.{item-refused}
use Rattle.samples.proofs.take_items.Goals as goal

pub returns-in_err-item-clause-taken : goal.returns-in_err-item-clause-taken
returns-in_err-item-clause-taken c =
    let at = c.loop-i.invariant.taking in
    let p = err_from_is_err_and c.from_residual.result c.from_residual.ensures.1 in
    rw (p.1, p.2)
    (sym
    (item-refused _ _ _ _ _ _ c.in_err-item.ensures (λ h. ap taken_answer (taking-missing at (omega arith) h))
    (λ h e. ap taken_answer (taking-over at (omega arith) h refl e))))
