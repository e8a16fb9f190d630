-- `entry::numbers_right` meets its contract.
-- Assumes nothing.
use mathlib.Core.Path.{◌≡◌, sym, ap, ◌∙◌}
use native.Mathlib.Omega.{arith}
use Rattle.rules.specs.Book.{ends}
use Rattle.rules.proofs.Steps.{from-done, from-short, from-wrong, from-right}
use Rattle.entry.proofs.numbers_right.Goals as goal

pub returns-then-whole-i : goal.returns-then-whole-i
returns-then-whole-i c =
    let l = c.loop-i in
    sym (l.invariant ∙ from-short _ _ _ l.i (omega arith) (omega arith))

pub returns-then-not-right_at : goal.returns-then-not-right_at
returns-then-not-right_at c =
    let l = c.loop-i in
    let wrong = sym c.right_at.ensures ∙ c.if-not-right_at.true in
    sym (l.invariant ∙ from-wrong _ _ _ l.i (omega arith) (omega arith) wrong)

pub loop-i-preserved : goal.loop-i-preserved
loop-i-preserved c =
    let l = c.loop-i in
    l.invariant ∙ from-right _ _ _ l.i (omega arith) (omega arith) (sym c.right_at.ensures ∙ c.if-not-right_at.false)

pub returns : goal.returns
returns c =
    let l = c.loop-i in
    let q : l.i ≡ c.size_at-size.result = omega arith in
    sym (l.invariant ∙ from-done _ _ _ l.i (omega arith) ∙ ap ends q)
