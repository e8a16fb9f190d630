-- `book::section_place` meets its contract.
-- Assumes nothing.
use Rattle.rules.specs.Numbers.{numbers_of}
use Rattle.book.specs.Paper.{AtSection}
use Rattle.book.proofs.section_place.Given as goal

abbrev pub invariant-loop-kind : goal.invariant-loop-kind
invariant-loop-kind l = AtSection (numbers_of l.book) l.at l.kind
