-- `sentencing::fractional::close_fractional` meets its contract.
-- Assumes nothing.
use mathlib.Core.Path.{refl}
use Rattle.plans.specs.Paper.{fractional_paper}
use Rattle.severity.specs.Paper.{origin_paper, event_paper}
use Rattle.supply.specs.Paper.{supply_paper}
use Rattle.closing.specs.Paper.{offered_paper, closed_by}
use Rattle.choosing.proofs.Supplies.{handed-on}
use Rattle.sentencing.proofs.Sharing.{column-stands, unclosed, closed}
use Rattle.sentencing.proofs.fractional.close_fractional.Goals as goal

pub origin_of-from-requires : goal.origin_of-from-requires
origin_of-from-requires c =
    let a = c.args in
    column-stands (supply_paper a.old) (offered_paper a.lot) a.book.now a.sample.now _ c.in_ok-judged.ensures

pub returns-in_err-judged : goal.returns-in_err-judged
returns-in_err-judged c =
    let a = c.args in
    unclosed (supply_paper a.old) (offered_paper a.lot) a.book.now a.sample.now _ c.judge_fractional.ensures _ _
    c.in_err-judged.was (handed-on (closed_by fractional_paper) _ _ c.from_residual.ensures.1)

pub returns : goal.returns
returns c =
    let a = c.args in
    closed (supply_paper a.old) (offered_paper a.lot) a.book.now a.sample.now _ c.judge_fractional.ensures _
    c.in_ok-judged.judged (origin_paper c.origin_of-from.result) (event_paper c.single_event-event.result)
    c.enter.result c.in_ok-judged.was c.origin_of-from.ensures c.single_event-event.ensures c.enter.ensures refl
