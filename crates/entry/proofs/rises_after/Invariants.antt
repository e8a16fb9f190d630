-- `entry::rises_after` meets its contract.
-- Assumes nothing.
use mathlib.Core.Path.{◌≡◌}
use lib.ListN.{drop}
use Rattle.rules.specs.Numbers.{numbers_of}
use Rattle.rules.specs.Book.{kind_at, rises, key_of}
use Rattle.entry.specs.Paper.{rises_after}
use Rattle.entry.proofs.rises_after.Given as goal

abbrev pub invariant-loop-i : goal.invariant-loop-i
invariant-loop-i l =
    rises_after l.kind (numbers_of l.before) (numbers_of l.e)
    ≡ rises (drop l.i (key_of (kind_at l.kind) (numbers_of l.before)))
    (drop l.i (key_of (kind_at l.kind) (numbers_of l.e)))
