-- `choosing::sequential_plan` meets its contract.
-- Assumes nothing.
use Prim.Native.Nat.{ℕ}
use mathlib.Core.Path.{◌≡◌, ap, ◌∙◌}
use mathlib.Core.List.{List}
use native.Mathlib.Omega.{arith}
use lib.ListN.{drop}
use Rattle.rules.specs.Numbers.{numbers_of}
use Rattle.rules.specs.Sequential.{SequentialPlan}
use Rattle.rules.specs.Book.{sequential, sequential_of}
use Rattle.rules.specs.Layout.{entry_of}
use Rattle.rules.specs.Entries.{sequential_plan}
use Rattle.rules.proofs.Numbers.{numbers-part}
use Rattle.plans.specs.Paper.{asked_paper}
use Rattle.entry.specs.Paper.{sequential_paper}
use Rattle.choosing.specs.Paper.{lettered_by}
use Rattle.choosing.proofs.Supplies.{handed-on, from-place, planned}
use Rattle.choosing.proofs.sequential_plan.Goals as goal
use Rattle.choosing.proofs.sequential_plan.Goals.{After-sequential_at-plan}

abbrev items : SequentialPlan → ℕ
items p = p.nt

-- the plan that was read is that of the entry
read : (c : After-sequential_at-plan) → sequential_paper c.sequential_at-plan.result
    ≡ sequential_of (entry_of sequential (drop c.in_ok-found.found.plan (numbers_of c.args.book.now)))
read c =
    c.sequential_at-plan.ensures
    ∙ ap (λ (ws : List ℕ). sequential_of (entry_of sequential ws)) (numbers-part c.args.book.now _)

pub returns-in_err-found : goal.returns-in_err-found
unfolding sequential_plan
returns-in_err-found c =
    let a = c.args in
    handed-on (lettered_by sequential_paper) _ _ c.from_residual.ensures.1
    ∙ from-place sequential_of items (asked_paper a.lot) a.book.now 2 (omega arith) _ c.in_err-found.ensures.answer

pub returns-in_err-unless_above : goal.returns-in_err-unless_above
unfolding sequential_plan
returns-in_err-unless_above c =
    let a = c.args in
    handed-on (lettered_by sequential_paper) _ _ c.from_residual-in_err-unless_above.ensures.1
    ∙ planned sequential_of items (asked_paper a.lot) a.book.now 2 (omega arith) _ c.in_ok-found.ensures.answer _
    (read (goal.at.returns-in_err-unless_above c).After-sequential_at-plan) _ c.from.ensures _
    c.in_err-unless_above.ensures

pub returns : goal.returns
unfolding sequential_plan
returns c =
    let a = c.args in
    planned sequential_of items (asked_paper a.lot) a.book.now 2 (omega arith) _ c.in_ok-found.ensures.answer _
    (read (goal.at.returns c).After-sequential_at-plan) _ c.from.ensures _ c.in_ok-unless_above.ensures
