-- `sentencing::fractional::origin_of` meets its contract.
-- Assumes nothing.
use mathlib.Core.Path.{◌∙◌}
use native.Mathlib.Omega.{arith}
use Rattle.plans.specs.Paper.{verdict_paper, fractional_paper}
use Rattle.closing.specs.Paper.{offered_paper}
use Rattle.sentencing.proofs.Sharing.{from-whole, from-fraction}
use Rattle.sentencing.proofs.fractional.origin_of.Goals as goal

pub returns-then-plan-eq0 : goal.returns-then-plan-eq0
returns-then-plan-eq0 c =
    let j = c.args.judged in
    from-whole (offered_paper c.args.lot) (fractional_paper j.plan) (verdict_paper j.verdict) c.if-plan-eq0.true

pub returns : goal.returns
returns c =
    let j = c.args.judged in
    from-fraction (offered_paper c.args.lot) (fractional_paper j.plan) (verdict_paper j.verdict) _
    c.if-plan-eq0.false (c.min-total.ensures ∙ omega arith)
