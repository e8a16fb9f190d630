-- `sentencing::readings::judge_limit` meets its contract.
-- Assumes nothing.
use mathlib.Core.Path.{◌∙◌}
use Rattle.plans.specs.Paper.{asked_paper, judged_by}
use Rattle.entry.specs.Paper.{variables_paper}
use Rattle.gauge.specs.Paper.{spread_paper, is_upper, value_of}
use Rattle.choosing.specs.Paper.{lettered_by}
use Rattle.choosing.proofs.Supplies.{handed-on}
use Rattle.sentencing.proofs.Verdicts.{limit-unplanned, limit-judged}
use Rattle.sentencing.proofs.readings.judge_limit.Goals as goal

pub returns-in_err-plan : goal.returns-in_err-plan
returns-in_err-plan c =
    let a = c.args in
    handed-on (judged_by variables_paper) _ _ c.from_residual.ensures.1
    ∙ limit-unplanned (spread_paper a.method) (asked_paper a.lot) a.book.now a.readings.now (is_upper a.limit)
    (value_of a.limit) _ _ _ c.is_known.ensures c.in_err-plan.ensures

pub returns-in_err-verdict : goal.returns-in_err-verdict
returns-in_err-verdict c =
    let a = c.args in
    handed-on (judged_by variables_paper) _ _ c.from_residual-in_err-verdict.ensures.1
    ∙ limit-judged (spread_paper a.method) (asked_paper a.lot) a.book.now a.readings.now (is_upper a.limit)
    (value_of a.limit) (lettered_by variables_paper c.in_ok-plan.field-0) _ c.is_known.ensures c.in_ok-plan.ensures _
    c.sides_of.ensures _ c.in_err-verdict.ensures

pub returns : goal.returns
returns c =
    let a = c.args in
    limit-judged (spread_paper a.method) (asked_paper a.lot) a.book.now a.readings.now (is_upper a.limit)
    (value_of a.limit) (lettered_by variables_paper c.in_ok-plan.field-0) _ c.is_known.ensures c.in_ok-plan.ensures _
    c.sides_of.ensures _ c.in_ok-verdict.ensures
