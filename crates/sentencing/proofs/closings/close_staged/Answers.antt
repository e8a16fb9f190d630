-- `sentencing::closings::close_staged` meets its contract.
-- Assumes nothing.
use mathlib.Core.Path.{◌∙◌}
use Rattle.rules.specs.Entries.{asked_on, judge_staged, staged_event, close_staged}
use Rattle.entry.specs.Paper.{staged_paper}
use Rattle.severity.specs.Paper.{record_paper}
use Rattle.supply.specs.Paper.{supply_paper}
use Rattle.closing.specs.Paper.{offered_paper, closed_by}
use Rattle.closing.proofs.Closing.{taken-given}
use Rattle.choosing.proofs.Supplies.{handed-on}
use Rattle.sentencing.proofs.Records.{out-of-range, closed, staged-checked}
use Rattle.sentencing.proofs.closings.close_staged.Goals as goal

pub returns-in_err-on_record : goal.returns-in_err-on_record
unfolding close_staged
returns-in_err-on_record c =
    handed-on (closed_by staged_paper) _ _ c.from_residual.ensures.1
    ∙ out-of-range (supply_paper c.args.old) c.args.book.now _ _ _ c.in_err-on_record.ensures

pub returns-in_err-judged : goal.returns-in_err-judged
unfolding close_staged
returns-in_err-judged c =
    let a = c.args in
    let r = record_paper a.old.switching in
    let o = offered_paper a.lot in
    handed-on (closed_by staged_paper) _ _ c.from_residual-in_err-judged.ensures.1
    ∙ closed (supply_paper a.old) a.book.now (λ q. judge_staged q a.book.now a.sample.now) (staged_event r o)
    (λ q. staged-checked q a.book.now a.sample.now) (asked_on r o) c.in_ok-on_record.ensures _ c.asked_on.ensures _
    c.in_err-judged.ensures

pub returns : goal.returns
unfolding close_staged
returns c =
    let a = c.args in
    let r = record_paper a.old.switching in
    let o = offered_paper a.lot in
    taken-given staged_paper (supply_paper a.old) (staged_event r o) c.judge_staged.result c.enter.result
    c.in_ok-judged.judged _ c.in_ok-judged.was c.staged_event-event.ensures c.enter.ensures
    ∙ closed (supply_paper a.old) a.book.now (λ q. judge_staged q a.book.now a.sample.now) (staged_event r o)
    (λ q. staged-checked q a.book.now a.sample.now) (asked_on r o) c.in_ok-on_record.ensures _ c.asked_on.ensures _
    c.judge_staged.ensures
