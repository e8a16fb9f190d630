-- `lotforms::value` meets its contract. Assumes nothing.
use mathlib.Core.Path.{◌∙◌, sym}
use native.Mathlib.Omega.{arith}
use Rattle.lotforms.proofs.Reading.{reads-more}
use Rattle.lotforms.proofs.value.Goals as goal

pub loop-b-preserved : goal.loop-b-preserved
loop-b-preserved c =
    let next = c.in_ok-value.ensures in
    reads-more c.loop-b.invariant c.loop-b-test.true
    (sym c.is_ascii_digit.ensures.value ∙ c.if-not-is_ascii_digit.false)
    (omega (arith, next.1, c.in_ok-checked_mul.ensures.1, c.from.ensures))
    (omega (arith, next.0, next.1))
