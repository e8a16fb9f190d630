-- `lotforms::number` meets its contract. Assumes nothing.
use mathlib.Core.Logic.{inl, inr}
use mathlib.Core.Path.{◌∙◌, sym}
use Rattle.lotforms.proofs.Reading.{empty-field, zero-first, not-zero-led}
use native.Mathlib.Omega.{arith}
use Rattle.lotforms.proofs.number.Goals as goal

pub returns-in_err-first : goal.returns-in_err-first
returns-in_err-first c =
    c.from_residual.ensures ∙ empty-field _ (let none = c.in_err-first.ensures.item in omega (arith, none.3))

pub returns-then-field-gt1 : goal.returns-then-field-gt1
returns-then-field-gt1 c =
    zero-first _ c.if-field-gt1.true (sym (c.in_ok-first.ensures.item.3.1 0) ∙ c.if-first-eq48.true)

pub returns : goal.returns
returns c =
    let first = c.in_ok-first.ensures.item.3 in
    c.value.ensures
    ∙ not-zero-led _ first.0
    (λ more zero. elim c.else-first-eq48.either [
      | inl short ↦ omega (arith, short.1)
      | inr other ↦ other (first.1 0 ∙ zero)
    ])
