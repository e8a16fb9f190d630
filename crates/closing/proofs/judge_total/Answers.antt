-- `closing::judge_total` meets its contract.
-- Assumes nothing.
use Rattle.std.proofs.lemmas.Result.{err_from_is_err_and}
use Rattle.rules.specs.Entries.{judge_total}
use Rattle.closing.proofs.judge_total.Goals as goal

pub returns-in_err-table_plan : goal.returns-in_err-table_plan
unfolding judge_total
returns-in_err-table_plan c =
    let p = err_from_is_err_and c.from_residual.result c.from_residual.ensures.1 in
    rw (p.1, p.2, ← c.in_err-table_plan.ensures)

pub returns : goal.returns
unfolding judge_total
returns c = rw (← c.in_ok-table_plan.ensures) c.judge_on_plan.ensures
