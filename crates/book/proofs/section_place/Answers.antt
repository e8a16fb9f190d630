-- `book::section_place` meets its contract.
-- Assumes nothing.
use native.Mathlib.Omega.{arith}
use Rattle.book.proofs.Laid.{sections-open, sections-next, sections-done}
use Rattle.book.proofs.section_place.Goals as goal

pub loop-kind-preserved : goal.loop-kind-preserved
loop-kind-preserved c =
    let n = c.number-count.ensures in
    sections-next c.loop-kind.invariant (omega arith) n (omega arith) c.entry_from-at.ensures.0
    c.entry_from-at.ensures.1

pub loop-kind-init : goal.loop-kind-init
loop-kind-init c = sections-open

pub returns : goal.returns
returns c = sections-done c.args.j c.loop-kind.invariant (omega arith)
