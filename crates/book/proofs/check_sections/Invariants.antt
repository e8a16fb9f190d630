-- `book::check_sections` meets its contract.
-- Assumes nothing.
use Rattle.book.specs.Paper.{InWhole}
use Rattle.book.proofs.check_sections.Given as goal

abbrev pub invariant-loop-kind : goal.invariant-loop-kind
invariant-loop-kind l = InWhole l.asked l.key l.book l.kind l.at l.held
