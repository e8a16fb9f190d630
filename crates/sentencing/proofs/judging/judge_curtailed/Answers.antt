-- `sentencing::judging::judge_curtailed` meets its contract.
-- Assumes nothing.
use mathlib.Core.Path.{◌∙◌}
use Rattle.plans.specs.Paper.{asked_paper, plan_paper, judged_by}
use Rattle.choosing.proofs.Supplies.{handed-on}
use Rattle.sentencing.proofs.Verdicts.{curtailed-unplanned, curtailed-judged}
use Rattle.sentencing.proofs.judging.judge_curtailed.Goals as goal

pub returns-in_err-plan : goal.returns-in_err-plan
returns-in_err-plan c =
    let a = c.args in
    handed-on (judged_by plan_paper) _ _ c.from_residual.ensures.1
    ∙ curtailed-unplanned (asked_paper a.lot) a.book.now a.sample.now _ _ c.in_err-plan.ensures

pub returns-in_err-verdict : goal.returns-in_err-verdict
returns-in_err-verdict c =
    let a = c.args in
    handed-on (judged_by plan_paper) _ _ c.from_residual-in_err-verdict.ensures.1
    ∙ curtailed-judged (asked_paper a.lot) a.book.now a.sample.now _ _ c.in_ok-plan.ensures c.in_err-verdict.ensures

pub returns : goal.returns
returns c =
    let a = c.args in
    curtailed-judged (asked_paper a.lot) a.book.now a.sample.now _ _ c.in_ok-plan.ensures c.in_ok-verdict.ensures
