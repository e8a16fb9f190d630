-- `book::seek` meets its contract.
-- Assumes nothing.
use Rattle.rules.specs.Numbers.{numbers_of}
use Rattle.rules.specs.Book.{kind_at}
use Rattle.entry.specs.Paper.{key_paper}
use Rattle.book.specs.Paper.{Seeking}
use Rattle.book.proofs.seek.Given as goal

abbrev pub invariant-loop-i : goal.invariant-loop-i
invariant-loop-i l =
    Seeking (kind_at l.kind) (key_paper (kind_at l.kind) l.key) (numbers_of l.part) l._i-end l.at l._i
