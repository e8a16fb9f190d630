-- `writing::LentList::check` meets its contract.
-- Assumes nothing.
use Prim.Native.Nat.{◌*◌}
use mathlib.Core.Path.{◌≡◌}
use Rattle.std.specs.Slice.Iter.{chunks_rest, chunks_size}
use Rattle.writing.specs.Paper.{kind_of, InList}
use Rattle.writing.proofs.LentList.check.Given as goal

abbrev pub invariant-loop-row : goal.invariant-loop-row
invariant-loop-row l =
    (chunks_size l.row-iterator ≡ 2 * (kind_of l.fn.self).width)
    × InList (kind_of l.fn.self) l.fn.self.rows.now l.before (chunks_rest l.row-iterator) l.count
