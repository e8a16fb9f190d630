-- `book::check_section` meets its contract.
-- Assumes nothing.
use Rattle.rules.specs.Numbers.{numbers_of}
use Rattle.rules.specs.Book.{kind_at}
use Rattle.entry.specs.Paper.{key_paper}
use Rattle.book.specs.Paper.{InSection}
use Rattle.book.proofs.check_section.Given as goal

abbrev pub invariant-loop-i : goal.invariant-loop-i
invariant-loop-i l =
    InSection (kind_at l.kind) (key_paper (kind_at l.kind) l.key) (numbers_of l.book) l.start l.entries l.prev l.at
    l.seen l._i
