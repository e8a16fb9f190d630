-- `sentencing::readings::judge_sides` meets its contract. Limits in locals hold their bits.
-- Assumes nothing.
use mathlib.Core.Path.{◌∙◌}
use mir.Syntax.{w32}
use mir.ValLaws.{to_z-of_z}
use Rattle.plans.specs.Paper.{asked_paper, judged_by}
use Rattle.entry.specs.Paper.{sides_paper}
use Rattle.gauge.specs.Paper.{spread_paper}
use Rattle.choosing.proofs.Supplies.{handed-on}
use Rattle.sentencing.proofs.Verdicts.{sides-unplanned, sides-judged}
use Rattle.sentencing.proofs.readings.judge_sides.Goals as goal

pub returns-in_err-plan : goal.returns-in_err-plan
returns-in_err-plan c =
    let a = c.args in
    handed-on (judged_by sides_paper) _ _ c.from_residual.ensures.1
    ∙ sides-unplanned (spread_paper a.method) (asked_paper a.lot) a.book.now a.readings.now a.upper a.lower
    a.lower_column _ _ _ c.is_known.ensures c.in_err-plan.ensures

pub returns-in_err-verdict : goal.returns-in_err-verdict
returns-in_err-verdict c =
    let a = c.args in
    handed-on (judged_by sides_paper) _ _ c.from_residual-in_err-verdict.ensures.1
    ∙ sides-judged (spread_paper a.method) (asked_paper a.lot) a.book.now a.readings.now a.upper a.lower
    a.lower_column _ _ c.is_known.ensures c.in_ok-plan.ensures _
    (rw (to_z-of_z w32 a.upper c.ranges.upper, to_z-of_z w32 a.lower c.ranges.lower) at c.in_err-verdict.ensures)

pub returns : goal.returns
returns c =
    let a = c.args in
    sides-judged (spread_paper a.method) (asked_paper a.lot) a.book.now a.readings.now a.upper a.lower
    a.lower_column _ _ c.is_known.ensures c.in_ok-plan.ensures _
    (rw (to_z-of_z w32 a.upper c.ranges.upper, to_z-of_z w32 a.lower c.ranges.lower) at c.in_ok-verdict.ensures)
