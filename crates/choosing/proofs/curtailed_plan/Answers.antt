-- `choosing::curtailed_plan` meets its contract.
-- Assumes nothing.
use mathlib.Core.Path.{sym, ◌∙◌}
use Rattle.rules.specs.Book.{check_book}
use Rattle.rules.specs.Entries.{curtailed_plan}
use Rattle.rules.proofs.EntryLaws.{broken-first, sound-first}
use Rattle.plans.specs.Paper.{asked_paper, plan_paper}
use Rattle.choosing.proofs.Supplies.{handed-on, untabled}
use Rattle.choosing.proofs.curtailed_plan.Goals as goal

pub returns-in_err-check_book : goal.returns-in_err-check_book
unfolding curtailed_plan
returns-in_err-check_book c =
    handed-on plan_paper _ _ c.from_residual.ensures.1
    ∙ broken-first (check_book c.args.book.now) _ _ _ c.in_err-check_book.ensures

pub returns-in_err-table_plan : goal.returns-in_err-table_plan
returns-in_err-table_plan c =
    let a = c.args in
    handed-on plan_paper _ _ c.from_residual-in_err-table_plan.ensures.1
    ∙ untabled (asked_paper a.lot) a.book.now _ _ _ _ (sym c.in_err-table_plan.ensures)
    (sound-first (check_book a.book.now) _ c.in_ok-check_book.ensures)

pub returns : goal.returns
unfolding curtailed_plan
returns c = c.in_ok-table_plan.ensures ∙ sound-first (check_book c.args.book.now) _ c.in_ok-check_book.ensures
