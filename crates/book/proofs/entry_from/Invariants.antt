-- `book::entry_from` meets its contract.
-- Assumes nothing.
use Rattle.rules.specs.Numbers.{numbers_of}
use Rattle.rules.specs.Book.{kind_at}
use Rattle.book.specs.Paper.{AtEntry}
use Rattle.book.proofs.entry_from.Given as goal

abbrev pub invariant-loop-i : goal.invariant-loop-i
invariant-loop-i l = AtEntry (kind_at l.kind) (numbers_of l.book) l.at l.place l._i
