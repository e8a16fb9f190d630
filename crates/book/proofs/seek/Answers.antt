-- `book::seek` meets its contract.
-- Assumes nothing.
use mathlib.Core.Path.{sym, ◌∙◌}
use native.Mathlib.Omega.{arith}
use Rattle.rules.proofs.Numbers.{numbers-part}
use Rattle.book.proofs.Loops.{key-some}
use Rattle.book.proofs.Laid.{seek-past, seek-here, seek-next, seek-done}
use Rattle.book.proofs.seek.Goals as goal

pub returns-then-end-at : goal.returns-then-end-at
returns-then-end-at c =
    let a = c.args in
    seek-past c.loop-i.invariant (key-some a.kind a.key.severity a.key.letter a.key.column) (omega arith)

pub returns-then-is_under : goal.returns-then-is_under
returns-then-is_under c =
    let a = c.args in
    let under = rw (numbers-part a.part.now c.loop-i.at) at c.is_under.ensures in
    seek-here c.loop-i.invariant (omega arith) (sym under ∙ c.if-is_under.true)

pub loop-i-preserved : goal.loop-i-preserved
loop-i-preserved c =
    let a = c.args in
    let under = rw (numbers-part a.part.now c.loop-i.at) at c.is_under.ensures in
    let size = rw (numbers-part a.part.now c.loop-i.at) at c.size_at-at.ensures.0 in
    seek-next c.loop-i.invariant (omega arith) (sym under ∙ c.if-is_under.false) size

pub returns : goal.returns
returns c = seek-done c.loop-i.invariant (omega arith)
