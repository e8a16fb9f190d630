-- `sentencing::fractional::judge_fractional` meets its contract.
-- Assumes nothing.
use mathlib.Core.Path.{◌≡◌, refl, ap}
use Rattle.std.specs.Prelude.{Ok, Err}
use Rattle.rules.specs.Refusals.{given}
use Rattle.rules.specs.Verdict.{Verdict}
use Rattle.plans.specs.Paper.{judged_by, fractional_paper}
use Rattle.supply.specs.Paper.{supply_paper}
use Rattle.closing.specs.Paper.{offered_paper}
use Rattle.choosing.proofs.Supplies.{handed-on}
use Rattle.sentencing.proofs.Sharing.{unjudged, judged-unplanned, judged-by-share, Shared, shared-refused}
use Rattle.sentencing.proofs.fractional.judge_fractional.Goals as goal

pub returns-in_err-on_record : goal.returns-in_err-on_record
returns-in_err-on_record c =
    let a = c.args in
    unjudged (supply_paper a.old) (offered_paper a.lot) a.book.now a.sample.now _ c.on_record.ensures _ _
    c.in_err-on_record.was (handed-on (judged_by fractional_paper) _ _ c.from_residual.ensures.1)

pub returns-in_err-plan : goal.returns-in_err-plan
returns-in_err-plan c =
    let a = c.args in
    judged-unplanned (supply_paper a.old) (offered_paper a.lot) a.book.now a.sample.now _ c.on_record.ensures _
    c.in_ok-on_record.was _ c.asked_on.ensures _ c.fractional_plan.ensures _ c.in_err-plan.was
    (handed-on (judged_by fractional_paper) _ _ c.from_residual-in_err-plan.ensures.1)

pub returns-in_err-counted : goal.returns-in_err-counted
returns-in_err-counted c =
    let a = c.args in
    let p = c.in_ok-plan.plan in
    let e = c.in_err-counted.field-0.0 in
    judged-by-share (supply_paper a.old) (offered_paper a.lot) a.book.now a.sample.now _ c.on_record.ensures _
    c.in_ok-on_record.was _ c.asked_on.ensures _ c.fractional_plan.ensures p _ c.single_sample.result (Err e)
    c.in_ok-plan.was refl c.single_sample.ensures (shared-refused p.share _ c.single_sample.result e c.in_err-counted.was)
    (handed-on (judged_by fractional_paper) _ _ c.from_residual-in_err-counted.ensures.1)

pub returns : goal.returns
returns c =
    let a = c.args in
    let p = c.in_ok-plan.plan in
    let shared : given _ ≡ Shared p.share c.run_on-before.result c.single_sample.result =
    rw c.in_ok-counted.was (ap (λ (v : Verdict). given v) c.by_share-verdict.ensures) in
    judged-by-share (supply_paper a.old) (offered_paper a.lot) a.book.now a.sample.now _ c.on_record.ensures _
    c.in_ok-on_record.was _ c.asked_on.ensures _ c.fractional_plan.ensures p c.run_on-before.result
    c.single_sample.result (Ok c.by_share-verdict.result) c.in_ok-plan.was c.run_on-before.ensures
    c.single_sample.ensures shared refl
