-- `rows::show` meets its contract.
-- Assumes nothing.
use Prim.Native.Nat.{◌*◌}
use lib.ListN.{drop}
use Rattle.rules.specs.Numbers.{numbers_of}
use Rattle.rules.specs.Book.{kind_at}
use Rattle.rows.specs.Paper.{Showing}
use Rattle.rows.proofs.show.Given as goal

abbrev pub invariant-loop-i : goal.invariant-loop-i
invariant-loop-i l =
    Showing (kind_at l.kind) (numbers_of l.e) (drop (2 * (kind_at l.kind).width) l.initial.row) l.row l.i
