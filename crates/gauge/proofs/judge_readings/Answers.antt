-- `gauge::judge_readings` meets its contract.
-- Assumes nothing.
use Prim.Native.Nat.{ℕ}
use mathlib.Core.Path.{◌≡◌, sym, ◌∙◌, ap}
use mathlib.Core.Bool.{Bool, true, false}
use native.Mathlib.Omega.{arith}
use Rattle.rules.specs.Refusals.{given}
use Rattle.rules.specs.Book.{could_hold, variables}
use Rattle.rules.specs.Entries.{variables_entry}
use Rattle.rules.specs.Limits.{SidesPlan, side_of, readings_verdict}
use Rattle.rules.specs.PlanRules.{VariablesRight}
use Rattle.rules.proofs.Bools.{and-left, and-right}
use Rattle.rules.proofs.HeldPlans.{variables-right}
use Rattle.rules.proofs.Readings.{sample-judged}
use Rattle.entry.specs.Paper.{sides_paper}
use Rattle.plans.specs.declared.Verdict.{Verdict}
use Rattle.plans.specs.Paper.{verdict_paper}
use Rattle.gauge.specs.Raised.{sum_from, squares_from}
use Rattle.gauge.specs.Paper.{sides_held}
use Rattle.gauge.proofs.FromSums.{limits-from}
use Rattle.gauge.proofs.judge_readings.Goals as goal
use Rattle.gauge.proofs.judge_readings.Goals.{Else-not-sides_hold}

-- a plan that a sound book could hold, on either side
side-right : (p : SidesPlan) → sides_held p ≡ true → (upper : Bool) → VariablesRight (side_of upper p)
side-right p h true =
    variables-right (side_of true p) (and-left (could_hold variables (variables_entry (side_of true p))) _ h)
side-right p h false =
    variables-right (side_of false p) (and-right (could_hold variables (variables_entry (side_of true p))) _ h)

held : (c : Else-not-sides_hold) → sides_held (sides_paper c.args.plan) ≡ true
held c = sym c.sides_hold.ensures ∙ c.if-not-sides_hold.false

pub of-requires : goal.of-requires
of-requires c =
    let e = (goal.at.of-requires c).Else-not-sides_hold in
    let p = side-right (sides_paper e.args.plan) (held e) true in
    (omega (arith, p.two), omega (arith, p.fifty))

pub accepts-accepted-requires-clause-upper : goal.accepts-accepted-requires-clause-upper
accepts-accepted-requires-clause-upper c =
    let e = (goal.at.accepts-accepted-requires-clause-upper c).Else-not-sides_hold in
    side-right (sides_paper e.args.plan) (held e) true

pub accepts-accepted-requires-clause-lower : goal.accepts-accepted-requires-clause-lower
accepts-accepted-requires-clause-lower c =
    let e = (goal.at.accepts-accepted-requires-clause-lower c).Else-not-sides_hold in
    side-right (sides_paper e.args.plan) (held e) false

pub returns : goal.returns
returns c =
    let p = c.in_ok-sums.ensures in
    let d = c.in_ok-drawing.ensures in
    let r = c.in_ok-drawing.drawing.in_range in
    let n : c.in_ok-sums.sums.n ≡ c.args.plan.n = omega (arith, p.count) in
    let hs = p.sum ∙ ap (λ (k : ℕ). sum_from k c.in_ok-sums.sums.t) n in
    let hw = p.squares ∙ ap (λ (k : ℕ). squares_from k c.in_ok-sums.sums.t c.in_ok-sums.sums.q) n in
    ap (λ (v : Verdict). given (verdict_paper v)) c.of_one_stage.ensures
    ∙ ap (λ (b : Bool). given (readings_verdict c.args.plan.n b))
    (c.accepts-accepted.ensures ∙ rw (d.0, d.1) (limits-from _ _ _ _ _ (sides_paper c.args.plan) hs hw))
    ∙ sym (sample-judged _ _ _ _ (held (goal.at.returns c).Else-not-sides_hold) c.if-readings-plan.false p.range
    (rw d.0 at r.0) (rw d.1 at r.1))
