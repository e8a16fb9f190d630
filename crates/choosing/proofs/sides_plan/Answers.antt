-- `choosing::sides_plan` meets its contract: what is looked up for each column, joined.
-- Assumes nothing.
use Prim.Native.Nat.{ℕ}
use mathlib.Core.Path.{◌≡◌, sym, ap, ◌∙◌}
use Rattle.refusals.specs.Paper.{answer_by}
use Rattle.rules.specs.Refusals.{Answer}
use Rattle.rules.specs.Variables.{VariablesPlan}
use Rattle.rules.specs.Entries.{under_column, readings_plan, sides_plan}
use Rattle.rules.specs.Planning.{join_sides}
use Rattle.rules.proofs.Joined.{sides-join}
use Rattle.plans.specs.Paper.{asked_paper}
use Rattle.choosing.specs.Paper.{plan_alone, section_if}
use Rattle.choosing.proofs.Supplies.{alone, ok-sound}
use Rattle.choosing.proofs.sides_plan.Goals as goal
use Rattle.choosing.proofs.sides_plan.Goals.{After-join-2, then-sound, else-sound}

pub returns-then-lower-lot : goal.returns-then-lower-lot
returns-then-lower-lot c =
    let a = c.args in
    let q = asked_paper a.lot in
    let j = section_if a.known in
    c.join.ensures
    ∙ ap (λ (x : Answer VariablesPlan). join_sides x x) (alone q _ _ c.readings_plan-upper.ensures)
    ∙ sym (sides-join j q q.column a.book.now)
    ∙ ap (λ (l : ℕ). sides_plan j q l a.book.now) (sym c.if-lower-lot.true)

pub readings_plan_again-lower-requires : goal.readings_plan_again-lower-requires
readings_plan_again-lower-requires c = search ok-sound

lower : (c : After-join-2) → let a = c.args in
    answer_by plan_alone c.if-sound.lower
    ≡ readings_plan (section_if a.known) (under_column (asked_paper a.lot) a.lower) a.book.now
lower c =
    let q = under_column (asked_paper c.args.lot) c.args.lower in
    elim c.if-sound.branch [
      | then-sound w ↦ rw w.lower-is (alone q _ _ w.readings_plan_again-lower.ensures)
      | else-sound w ↦ rw w.lower-is (alone q _ _ w.readings_plan-lower.ensures)
    ]

pub returns : goal.returns
returns c =
    let a = c.args in
    let q = asked_paper a.lot in
    let j = section_if a.known in
    c.join-2.ensures
    ∙ ap (λ (x : Answer VariablesPlan). join_sides x (answer_by plan_alone c.if-sound.lower))
    (alone q _ _ c.readings_plan-upper.ensures)
    ∙ ap (join_sides (readings_plan j q a.book.now)) (lower c) ∙ sym (sides-join j q a.lower a.book.now)
