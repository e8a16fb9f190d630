-- `samples::single_sample` meets its contract: 4 and 7 by their tests, and then what taking the items comes to.
-- Assumes nothing.
use mathlib.Core.Path.{sym, ap, ◌∙◌}
use Rattle.std.proofs.lemmas.Result.{err_from_is_err_and}
use Rattle.rules.specs.Verdict.{Verdict}
use Rattle.rules.proofs.Singles.{sample-length}
use Rattle.plans.specs.Paper.{plan_paper}
use Rattle.samples.proofs.Reading.{column-legal, verdict-of, single-judged}
use Rattle.samples.proofs.single_sample.Goals as goal

pub returns-then-sample-k : goal.returns-then-sample-k
returns-then-sample-k c =
    sym
    (sample-length _ (plan_paper c.args.plan) _ (column-legal _ c.in_ok-check_column.ensures) c.if-sample-k.true)

pub returns-in_err-total : goal.returns-in_err-total
returns-in_err-total c =
    let a = c.args in
    let p = err_from_is_err_and c.from_residual-in_err-total.result c.from_residual-in_err-total.ensures.1 in
    rw (p.1, p.2)
    (single-judged a.column (plan_paper a.plan) a.sample.now (column-legal _ c.in_ok-check_column.ensures)
    c.if-sample-k.false c.in_err-total.ensures.taken)

pub returns : goal.returns
returns c =
    let a = c.args in
    let v = c.verdict_after.ensures in
    let accepted = ap (λ (x : Verdict). x.accepted) v in
    verdict-of (plan_paper a.plan) _ (search accepted) (ap (λ (x : Verdict). x.used) v)
    (ap (λ (x : Verdict). x.total) v) (ap (λ (x : Verdict). x.stage) v) (ap (λ (x : Verdict). x.stages) v)
    ∙ single-judged a.column (plan_paper a.plan) a.sample.now (column-legal _ c.in_ok-check_column.ensures)
    c.if-sample-k.false c.in_ok-total.ensures.taken
