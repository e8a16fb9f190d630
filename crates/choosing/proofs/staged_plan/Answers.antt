-- `choosing::staged_plan` meets its contract.
-- Assumes nothing.
use Prim.Native.Nat.{ℕ, ◌≤◌}
use mathlib.Core.Path.{◌≡◌, sym, ap, subst, ◌∙◌}
use mathlib.Core.List.{List}
use native.Mathlib.Omega.{arith}
use borrow.Author.Rules.{rules}
use lib.ListN.{take, drop}
use Rattle.std.specs.Prelude.{sum_by}
use Rattle.rules.specs.Codes.{letter_of}
use Rattle.rules.specs.Numbers.{numbers_of}
use Rattle.rules.specs.Staged.{StagedPlan, stages_of, total_size}
use Rattle.rules.specs.Book.{staged, staged_of}
use Rattle.rules.specs.Layout.{entry_of}
use Rattle.rules.specs.Entries.{staged_plan}
use Rattle.rules.proofs.Numbers.{numbers-part}
use Rattle.plans.specs.Paper.{asked_paper}
use Rattle.entry.specs.declared.Stage.{Stage}
use Rattle.entry.specs.Paper.{staged_paper, staged_read}
use Rattle.book.proofs.PlaceLaws.{few-stages}
use Rattle.choosing.specs.Paper.{lettered_by}
use Rattle.choosing.proofs.Sizes.{total-is, read-few}
use Rattle.choosing.proofs.Supplies.{handed-on, held, from-place, planned}
use Rattle.choosing.proofs.staged_plan.Goals as goal
use Rattle.choosing.proofs.staged_plan.Goals.{After-staged_at-plan, After-total_size}

abbrev items : StagedPlan → ℕ
items p = total_size (stages_of p)

-- what was read
alone : (c : After-staged_at-plan) → staged_paper c.staged_at-plan.result
    ≡ staged_read (entry_of staged (drop c.in_ok-found.found.plan (numbers_of c.args.book.now)))
alone c =
    c.staged_at-plan.ensures
    ∙ ap (λ (ws : List ℕ). staged_read (entry_of staged ws)) (numbers-part c.args.book.now _)

-- the plan that was read is that of the entry, which has few stages
read : (c : After-staged_at-plan) → staged_paper c.staged_at-plan.result
    ≡ staged_of (entry_of staged (drop c.in_ok-found.found.plan (numbers_of c.args.book.now)))
read c =
    let a = c.args in
    alone c
    ∙ few-stages a.lot.severity (letter_of a.lot.size a.lot.level) a.lot.column a.book.now _
    (held 1 (asked_paper a.lot) a.book.now _ c.in_ok-found.ensures.answer)

-- .. so that there is room for the sum of their sizes, which is the total
few : (c : After-staged_at-plan) → c.staged_at-plan.result.count ≤ 7
few c =
    subst (λ (p : StagedPlan). p.stages ≤ 7) (sym (alone c))
    (read-few (entry_of staged (drop c.in_ok-found.found.plan (numbers_of c.args.book.now))))

total : (c : After-total_size) → c.total_size.result ≡ items (staged_paper c.staged_at-plan.result)
total c =
    let p = c.staged_at-plan.result in
    c.total_size.ensures ∙ ap (λ (n : ℕ). sum_by (λ (s : Stage). s.size) (take n p.stages)) c.from.ensures ∙ total-is p

pub slice_bounds-stages-end : goal.slice_bounds-stages-end
slice_bounds-stages-end c = let f = few (goal.at.slice_bounds-stages-end c).After-staged_at-plan in search rules

pub total_size-requires : goal.total_size-requires
total_size-requires c = let f = few (goal.at.total_size-requires c).After-staged_at-plan in search rules

pub returns-in_err-found : goal.returns-in_err-found
unfolding staged_plan
returns-in_err-found c =
    let a = c.args in
    handed-on (lettered_by staged_paper) _ _ c.from_residual.ensures.1
    ∙ from-place staged_of items (asked_paper a.lot) a.book.now 1 (omega arith) _ c.in_err-found.ensures.answer

pub returns-in_err-unless_above : goal.returns-in_err-unless_above
unfolding staged_plan
returns-in_err-unless_above c =
    let a = c.args in
    let at = goal.at.returns-in_err-unless_above c in
    handed-on (lettered_by staged_paper) _ _ c.from_residual-in_err-unless_above.ensures.1
    ∙ planned staged_of items (asked_paper a.lot) a.book.now 1 (omega arith) _ c.in_ok-found.ensures.answer _
    (read at.After-staged_at-plan) _ (total at.After-total_size) _ c.in_err-unless_above.ensures

pub returns : goal.returns
unfolding staged_plan
returns c =
    let a = c.args in
    let at = goal.at.returns c in
    planned staged_of items (asked_paper a.lot) a.book.now 1 (omega arith) _ c.in_ok-found.ensures.answer _
    (read at.After-staged_at-plan) _ (total at.After-total_size) _ c.in_ok-unless_above.ensures
