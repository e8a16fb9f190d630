-- `choosing::look_up` meets its contract.
-- Assumes nothing.
use mathlib.Core.Path.{sym, ◌∙◌}
use Rattle.refusals.specs.Paper.{itself}
use Rattle.plans.specs.Paper.{asked_paper}
use Rattle.choosing.specs.Paper.{lettered_by}
use Rattle.choosing.proofs.Supplies.{handed-on, looked-up, near}
use Rattle.choosing.proofs.look_up.Goals as goal

pub returns-in_err-plan-clause-answer : goal.returns-in_err-plan-clause-answer
returns-in_err-plan-clause-answer c =
    let a = c.args in
    handed-on (lettered_by itself) _ _ c.from_residual-in_err-plan.ensures.1
    ∙ looked-up a.kind (asked_paper a.lot) a.book.now _ _ (sym c.in-Ok.ensures) c.in_err-plan.ensures

pub returns-clause-answer : goal.returns-clause-answer
returns-clause-answer c =
    let a = c.args in
    looked-up a.kind (asked_paper a.lot) a.book.now _ _ (sym c.in-Ok.ensures) c.in_ok-plan.ensures

pub returns-clause-within : goal.returns-clause-within
returns-clause-within c = near _ _ _ _ _ c.args.book.now (sym c.in_ok-plan.ensures)
