-- `sentencing::fractional::fractional_plan` meets its contract.
-- Assumes nothing.
use mathlib.Core.Path.{◌∙◌}
use Rattle.plans.specs.Paper.{asked_paper, fractional_paper}
use Rattle.choosing.proofs.Supplies.{handed-on}
use Rattle.sentencing.proofs.Sharing.{whole-refused, whole-given, plan-reduced, plan-broken, plan-sound}
use Rattle.sentencing.proofs.fractional.fractional_plan.Goals as goal

pub returns-in_err-plan : goal.returns-in_err-plan
returns-in_err-plan c =
    let r = c.single_plan.result in
    plan-reduced (asked_paper c.args.lot) c.args.book.now _ r c.if-lot-eq-REDUCED.true c.single_plan.ensures
    (whole-refused r _ _ c.in_err-plan.was (handed-on fractional_paper _ _ c.from_residual.ensures.1))

pub returns-then-lot-eq-REDUCED : goal.returns-then-lot-eq-REDUCED
returns-then-lot-eq-REDUCED c =
    let r = c.single_plan.result in
    plan-reduced (asked_paper c.args.lot) c.args.book.now _ r c.if-lot-eq-REDUCED.true c.single_plan.ensures
    (whole-given r c.in_ok-plan.plan c.in_ok-plan.was)

pub returns-in_err-check_book : goal.returns-in_err-check_book
returns-in_err-check_book c =
    plan-broken (asked_paper c.args.lot) c.args.book.now _ c.if-lot-eq-REDUCED.false _ c.check_book.ensures _
    c.in_err-check_book.was (handed-on fractional_paper _ _ c.from_residual-in_err-check_book.ensures.1)

pub returns-in_err-fractional_table_plan : goal.returns-in_err-fractional_table_plan
returns-in_err-fractional_table_plan c =
    plan-sound (asked_paper c.args.lot) c.args.book.now _ c.if-lot-eq-REDUCED.false _ c.check_book.ensures
    c.in_ok-check_book.was
    (handed-on fractional_paper _ _ c.from_residual-in_err-fractional_table_plan.ensures.1
    ∙ c.in_err-fractional_table_plan.ensures)

pub returns : goal.returns
returns c =
    plan-sound (asked_paper c.args.lot) c.args.book.now _ c.if-lot-eq-REDUCED.false _ c.check_book.ensures
    c.in_ok-check_book.was c.in_ok-fractional_table_plan.ensures
