-- `history::list_severities` meets its contract. Assumes nothing.
use Rattle.std.proofs.lemmas.Result.{err_from_is_err_and}
use Rattle.history.proofs.Listing.{list-bad, list-short, list-whole}
use Rattle.history.proofs.list_severities.Goals as goal

pub returns-in_err-walk : goal.returns-in_err-walk
returns-in_err-walk c =
    let p = err_from_is_err_and c.from_residual.result c.from_residual.ensures.1 in
    rw (p.1, p.2) (list-bad _ _ _ _ _ _ c.fresh-first.ensures _ c.in_err-walk.ensures)

pub returns-then-out-history : goal.returns-then-out-history
returns-then-out-history c =
    rw c.from.ensures (list-short _ _ _ _ _ _ c.fresh-first.ensures _ c.in_ok-walk.ensures c.if-out-history.true)

pub returns : goal.returns
returns c =
    list-whole _ _ _ _ _ _ c.fresh-first.ensures _ c.in_ok-walk.ensures _ _ c.if-out-history.false
    c.in_ok-walk-2.ensures
