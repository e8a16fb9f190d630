-- `sentencing::closings::close_single` meets its contract.
-- Assumes nothing.
use mathlib.Core.Path.{◌∙◌}
use Rattle.rules.specs.Entries.{asked_on, judge_single, single_event, close_single}
use Rattle.plans.specs.Paper.{plan_paper}
use Rattle.severity.specs.Paper.{record_paper}
use Rattle.supply.specs.Paper.{supply_paper}
use Rattle.closing.specs.Paper.{offered_paper, closed_by}
use Rattle.closing.proofs.Closing.{AsTaken, closed-of, refused-of}
use Rattle.choosing.proofs.Supplies.{handed-on}
use Rattle.sentencing.proofs.Records.{out-of-range, closed, single-checked}
use Rattle.sentencing.proofs.closings.close_single.Goals as goal

pub returns-in_err-on_record : goal.returns-in_err-on_record
unfolding close_single
returns-in_err-on_record c =
    handed-on (closed_by plan_paper) _ _ c.from_residual.ensures.1
    ∙ out-of-range (supply_paper c.args.old) c.args.book.now _ _ _ c.in_err-on_record.ensures

pub returns-in_err-take_single : goal.returns-in_err-take_single
unfolding close_single
returns-in_err-take_single c =
    let a = c.args in
    let r = record_paper a.old.switching in
    let o = offered_paper a.lot in
    let h = refused-of (AsTaken a.old a.lot) c.judge_single-judged.result _ _ c.in_err-take_single.was c.take_single.ensures
    in
    handed-on (closed_by plan_paper) _ _ c.from_residual-in_err-take_single.ensures.1
    ∙ (rw h at
    (closed (supply_paper a.old) a.book.now (λ q. judge_single q a.book.now a.sample.now) (single_event r o)
    (λ q. single-checked q a.book.now a.sample.now) (asked_on r o) c.in_ok-on_record.ensures _ c.asked_on.ensures _
    c.judge_single-judged.ensures))

pub returns : goal.returns
unfolding close_single
returns c =
    let a = c.args in
    let r = record_paper a.old.switching in
    let o = offered_paper a.lot in
    let p = closed-of (AsTaken a.old a.lot) c.judge_single-judged.result _ _ c.in_ok-take_single.was c.take_single.ensures
    in
    p.2
    ∙ (rw p.1 at
    (closed (supply_paper a.old) a.book.now (λ q. judge_single q a.book.now a.sample.now) (single_event r o)
    (λ q. single-checked q a.book.now a.sample.now) (asked_on r o) c.in_ok-on_record.ensures _ c.asked_on.ensures _
    c.judge_single-judged.ensures))
