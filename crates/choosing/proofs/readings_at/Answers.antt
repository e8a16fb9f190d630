-- `choosing::readings_at` meets its contract.
-- Assumes nothing.
use Prim.Native.Nat.{ℕ}
use mathlib.Core.Path.{◌≡◌, ap, ◌∙◌}
use mathlib.Core.List.{List}
use lib.ListN.{drop}
use Rattle.std.proofs.lemmas.Result.{err_from_is_err_and}
use Rattle.refusals.specs.Paper.{itself}
use Rattle.rules.specs.Numbers.{numbers_of}
use Rattle.rules.specs.Book.{variables, variables_of}
use Rattle.rules.specs.Layout.{entry_of}
use Rattle.rules.proofs.Numbers.{numbers-part}
use Rattle.plans.specs.Paper.{asked_paper}
use Rattle.entry.specs.Paper.{variables_paper}
use Rattle.choosing.specs.Paper.{lettered_by}
use Rattle.choosing.proofs.Supplies.{at-place}
use Rattle.choosing.proofs.readings_at.Goals as goal
use Rattle.choosing.proofs.readings_at.Goals.{After-variables_at-plan}

-- the plan that was read is that of the entry
read : (c : After-variables_at-plan) → variables_paper c.variables_at-plan.result
    ≡ variables_of (entry_of variables (drop c.args.found.plan (numbers_of c.args.book.now)))
read c =
    c.variables_at-plan.ensures
    ∙ ap (λ (ws : List ℕ). variables_of (entry_of variables ws)) (numbers-part c.args.book.now _)

pub returns-in_err-unless_above : goal.returns-in_err-unless_above
returns-in_err-unless_above c =
    let a = c.args in
    let at = goal.at.returns-in_err-unless_above c in
    let p = err_from_is_err_and c.from_residual.result c.from_residual.ensures.1 in
    rw (p.1, p.2)
    (at-place variables_of (λ v. v.n) (asked_paper a.lot) a.book.now variables (lettered_by itself a.found) _
    (read at.After-variables_at-plan) _ c.from.ensures _ c.in_err-unless_above.ensures)

pub returns : goal.returns
returns c =
    let a = c.args in
    at-place variables_of (λ v. v.n) (asked_paper a.lot) a.book.now variables (lettered_by itself a.found) _
    (read (goal.at.returns c).After-variables_at-plan) _ c.from.ensures _ c.in_ok-unless_above.ensures
