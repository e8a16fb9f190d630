-- `choosing::look_up_again` meets its contract.
-- Assumes nothing.
use mathlib.Core.Path.{sym, ◌∙◌}
use Rattle.refusals.specs.Paper.{itself}
use Rattle.plans.specs.Paper.{asked_paper}
use Rattle.book.proofs.Laid.{laid-held}
use Rattle.choosing.specs.Paper.{lettered_by}
use Rattle.choosing.proofs.Supplies.{handed-on, unasked_sound, looked-up, near}
use Rattle.choosing.proofs.look_up_again.Goals as goal

pub returns-in_err-letter-clause-answer : goal.returns-in_err-letter-clause-answer
returns-in_err-letter-clause-answer c =
    let a = c.args in
    handed-on (lettered_by itself) _ _ c.from_residual.ensures.1
    ∙ unasked_sound a.kind (asked_paper a.lot) a.book.now _ _ c.in_err-letter.ensures (rw c.requires)

pub returns-in_err-plan-clause-answer : goal.returns-in_err-plan-clause-answer
returns-in_err-plan-clause-answer c =
    let a = c.args in
    handed-on (lettered_by itself) _ _ c.from_residual-in_err-plan.ensures.1
    ∙ looked-up a.kind (asked_paper a.lot) a.book.now _ _ (sym c.in_ok-letter.ensures)
    (c.in_err-plan.ensures ∙ laid-held a.kind a.lot.severity _ a.lot.column a.book.now c.requires)

pub returns-clause-answer : goal.returns-clause-answer
returns-clause-answer c =
    let a = c.args in
    looked-up a.kind (asked_paper a.lot) a.book.now _ _ (sym c.in_ok-letter.ensures)
    (c.in_ok-plan.ensures ∙ laid-held a.kind a.lot.severity _ a.lot.column a.book.now c.requires)

pub returns-clause-within : goal.returns-clause-within
returns-clause-within c =
    let a = c.args in
    near _ _ _ _ _ a.book.now
    (sym (c.in_ok-plan.ensures ∙ laid-held a.kind a.lot.severity _ a.lot.column a.book.now c.requires))
