-- `writing::lay_lists` meets its contract.
-- Assumes nothing.
use Rattle.rules.specs.Writing.{lent_rows}
use Rattle.writing.specs.Paper.{lent, LayingLists}
use Rattle.writing.proofs.lay_lists.Given as goal

abbrev pub invariant-loop-kind : goal.invariant-loop-kind
invariant-loop-kind l = LayingLists (lent_rows (lent l.lists)) l.initial.out l.kind l.at l.out
