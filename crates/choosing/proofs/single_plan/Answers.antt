-- `choosing::single_plan` meets its contract.
-- Assumes nothing.
use Prim.Native.Nat.{ℕ}
use mathlib.Core.Path.{ap, ◌∙◌}
use mathlib.Core.List.{List}
use Rattle.rules.specs.Refusals.{given}
use Rattle.rules.specs.Single.{cut_plan}
use Rattle.rules.specs.Book.{reduced_singles, ReducedSingle, reduced_of}
use Rattle.rules.specs.Layout.{entry_of}
use Rattle.rules.proofs.Numbers.{numbers-part}
use Rattle.rules.proofs.Demands.Curtailed.{curtailed-as-single}
use Rattle.plans.specs.Paper.{asked_paper, plan_paper}
use Rattle.choosing.proofs.Supplies.{handed-on, reduced-place}
use Rattle.choosing.proofs.single_plan.Goals as goal

pub returns-then-lot-ne-REDUCED : goal.returns-then-lot-ne-REDUCED
returns-then-lot-ne-REDUCED c =
    let a = c.args in
    c.curtailed_plan.ensures ∙ curtailed-as-single (asked_paper a.lot) a.book.now c.if-lot-ne-REDUCED.true

pub returns-in_err-found : goal.returns-in_err-found
returns-in_err-found c =
    let a = c.args in
    handed-on plan_paper _ _ c.from_residual.ensures.1
    ∙ reduced-place (asked_paper a.lot) a.book.now c.if-lot-ne-REDUCED.false _ c.in_err-found.ensures.answer

pub returns : goal.returns
returns c =
    let a = c.args in
    let read = c.reduced_at-held.ensures
    ∙ ap (λ (ws : List ℕ). reduced_of (entry_of reduced_singles ws)) (numbers-part a.book.now _) in
    ap given c.cut_plan.ensures
    ∙ ap (λ (e : ReducedSingle). given (cut_plan a.lot.size c.in_ok-found.found.letter e.n e.ac)) read
    ∙ reduced-place (asked_paper a.lot) a.book.now c.if-lot-ne-REDUCED.false _ c.in_ok-found.ensures.answer
