-- `choosing::readings_plan` meets its contract.
-- Assumes nothing.
use mathlib.Core.Path.{◌∙◌}
use Rattle.plans.specs.Paper.{asked_paper}
use Rattle.entry.specs.Paper.{variables_paper}
use Rattle.choosing.specs.Paper.{lettered_by}
use Rattle.choosing.proofs.Supplies.{handed-on, readings-place}
use Rattle.choosing.proofs.readings_plan.Goals as goal

pub returns-in_err-found : goal.returns-in_err-found
returns-in_err-found c =
    let a = c.args in
    handed-on (lettered_by variables_paper) _ _ c.from_residual.ensures.1
    ∙ readings-place a.known (asked_paper a.lot) a.book.now _ c.section_for.ensures _ c.in_err-found.ensures.answer

pub returns-in_err-readings_at : goal.returns-in_err-readings_at
returns-in_err-readings_at c =
    let a = c.args in
    handed-on (lettered_by variables_paper) _ _ c.from_residual-in_err-readings_at.ensures.1
    ∙ c.in_err-readings_at.ensures
    ∙ readings-place a.known (asked_paper a.lot) a.book.now _ c.section_for.ensures _ c.in_ok-found.ensures.answer

pub returns : goal.returns
returns c =
    let a = c.args in
    c.in_ok-readings_at.ensures
    ∙ readings-place a.known (asked_paper a.lot) a.book.now _ c.section_for.ensures _ c.in_ok-found.ensures.answer
