-- `closing::close_total` meets its contract.
-- Assumes nothing.
use Rattle.std.proofs.lemmas.Result.{err_from_is_err_and}
use Rattle.refusals.specs.Paper.{reason_by}
use Rattle.plans.specs.Paper.{plan_paper, judged_by}
use Rattle.supply.specs.Paper.{supply_paper}
use Rattle.closing.specs.Paper.{offered_paper}
use Rattle.closing.proofs.Closing.{AsTaken, closed-of, refused-of, closed-total, closed-out}
use Rattle.closing.proofs.close_total.Goals as goal

pub returns-then-not-in_range : goal.returns-then-not-in_range
returns-then-not-in_range c =
    let a = c.args in
    closed-out _ (supply_paper a.old) (offered_paper a.lot) a.total _ c.in_range.ensures c.if-not-in_range.true
    (rw c.into.ensures)

pub returns-in_err-take_single : goal.returns-in_err-take_single
returns-in_err-take_single c =
    let a = c.args in
    let p = err_from_is_err_and c.from_residual.result c.from_residual.ensures.1 in
    let h = refused-of (AsTaken a.old a.lot) c.judge_total.result _ _ c.in_err-take_single.was c.take_single.ensures in
    closed-total _ (supply_paper a.old) (offered_paper a.lot) a.total _ c.in_range.ensures _
    (reason_by (judged_by plan_paper) c.judge_total.result) c.if-not-in_range.false c.asked_on.ensures
    c.judge_total.ensures (rw (p.1, p.2, h))

pub returns : goal.returns
returns c =
    let a = c.args in
    let p = closed-of (AsTaken a.old a.lot) c.judge_total.result _ _ c.in_ok-take_single.was c.take_single.ensures in
    closed-total _ (supply_paper a.old) (offered_paper a.lot) a.total _ c.in_range.ensures _
    (reason_by (judged_by plan_paper) c.judge_total.result) c.if-not-in_range.false c.asked_on.ensures
    c.judge_total.ensures (rw p.1 p.2)
