-- `entry::numbers_right` meets its contract.
-- Assumes nothing.
use Prim.Native.Nat.{◌-◌}
use mathlib.Core.Path.{◌≡◌}
use Rattle.rules.specs.Numbers.{numbers_of}
use Rattle.rules.specs.Book.{kind_at, numbers_from}
use Rattle.entry.specs.Paper.{entry_read}
use Rattle.entry.proofs.numbers_right.Given as goal

abbrev pub invariant-loop-i : goal.invariant-loop-i
invariant-loop-i l =
    entry_read l.kind (numbers_of l.e) ≡ numbers_from (kind_at l.kind) (numbers_of l.e) (l.size - l.i) l.i
