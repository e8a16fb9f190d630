-- `entry::rises_after` meets its contract.
-- Assumes nothing.
use mathlib.Core.Path.{sym, ◌∙◌}
use native.Mathlib.Omega.{arith}
use borrow.Author.Tests.{lt-ltb, le-ltb}
use Rattle.rules.proofs.Bounded.{by-le}
use Rattle.rules.proofs.Steps.{key-done, key-none, key-less, key-more, key-same}
use Rattle.entry.proofs.rises_after.Goals as goal

pub returns-then-have-i : goal.returns-then-have-i
returns-then-have-i c =
    let l = c.loop-i in
    sym (l.invariant ∙ key-none _ _ _ l.i c.requires (omega arith) (omega arith))

pub returns-then-x-y : goal.returns-then-x-y
returns-then-x-y c =
    let l = c.loop-i in
    by-le c.number-y.result c.number-x.result
    (λ h.
    le-ltb c.number-x.result c.number-y.result h
    ∙ sym (l.invariant ∙ key-more _ _ _ l.i c.requires (omega arith) (omega arith) (omega arith)))
    (λ h.
    lt-ltb c.number-x.result c.number-y.result h
    ∙ sym (l.invariant ∙ key-less _ _ _ l.i c.requires (omega arith) (omega arith) (omega arith)))

pub loop-i-preserved : goal.loop-i-preserved
loop-i-preserved c =
    let l = c.loop-i in
    l.invariant ∙ key-same _ _ _ l.i c.requires (omega arith) (omega arith) (omega arith) (omega arith)

pub returns : goal.returns
returns c = let l = c.loop-i in sym (l.invariant ∙ key-done _ _ _ l.i c.requires (omega arith))
