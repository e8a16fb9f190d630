-- `rows::lay` meets its contract.
-- Assumes nothing.
use Rattle.rules.specs.Numbers.{numbers_of}
use Rattle.rules.specs.Book.{kind_at}
use Rattle.rows.specs.Paper.{Laying}
use Rattle.rows.proofs.lay.Given as goal

abbrev pub invariant-loop-i : goal.invariant-loop-i
invariant-loop-i l = Laying (kind_at l.kind) (numbers_of l.row) l.at l.initial.out l.out l.i
