-- `writing::check_lists` meets its contract.
-- Assumes nothing.
use Rattle.rules.specs.Writing.{lent_rows}
use Rattle.writing.specs.Paper.{lent, InLists}
use Rattle.writing.proofs.check_lists.Given as goal

abbrev pub invariant-loop-kind : goal.invariant-loop-kind
invariant-loop-kind l = InLists (lent_rows (lent l.lists)) l.kind l.before l.size
