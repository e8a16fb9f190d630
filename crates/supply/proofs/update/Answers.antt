-- `supply::update` meets its contract. Assumes nothing.
use Rattle.std.proofs.Common.{ap, not}
use Rattle.std.proofs.lemmas.Result.{err_from_is_err_and}
use Rattle.supply.proofs.Laws.{moved-out, moved-refused, moved-given}
use Rattle.supply.proofs.update.Goals as goal

pub returns-then-not-in_range : goal.returns-then-not-in_range
returns-then-not-in_range c =
    rw c.from.ensures (moved-out _ _ _ c.in_range.ensures (ap not c.if-not-in_range.true))

pub returns-in_err-switching : goal.returns-in_err-switching
returns-in_err-switching c =
    let p = err_from_is_err_and c.from_residual.result c.from_residual.ensures.1 in
    let q = ap not c.if-not-in_range.false in
    rw (p.1, p.2)
    (moved-refused _ _ _ c.in_range.ensures _ _ c.event_on.ensures c.update.ensures q _ c.in_err-switching.was)

pub returns : goal.returns
returns c =
    let q = ap not c.if-not-in_range.false in
    moved-given _ _ _ c.in_range.ensures _ _ c.event_on.ensures c.update.ensures q _ _ c.in_ok-switching.was
    c.clean_after-clean.ensures
