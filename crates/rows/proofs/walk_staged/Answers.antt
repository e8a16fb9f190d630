-- `rows::walk_staged` meets its contract.
-- Assumes nothing.
use mathlib.Core.Path.{◌∙◌}
use native.Mathlib.Omega.{arith}
use lib.ListN.{replicate}
use Rattle.rules.specs.Numbers.{numbers_of}
use Rattle.rules.specs.Book.{staged}
use Rattle.rules.proofs.Numbers.{numbers-count}
use Rattle.rows.proofs.AnyRow.{any-rowed}
use Rattle.rows.proofs.Walked.{walk-read, walk-long, walk-laid}
use Rattle.rows.proofs.walk_staged.Goals as goal

pub returns-then-row_width-size_at : goal.returns-then-row_width-size_at
returns-then-row_width-size_at c =
    walk-long staged (any-rowed 1)
    (numbers_of c.args.row.now) (omega arith)

pub lay-requires : goal.lay-requires
lay-requires c =
    record { whole = omega arith; fits = omega arith; room = omega (arith, numbers-count (replicate 50 0)) }

pub returns : goal.returns
returns c =
    walk-read c.entry_numbers.result c.ok.ensures.value c.entry_numbers.ensures
    ∙ walk-laid staged (any-rowed 1)
    (numbers_of c.args.row.now) (replicate 50 0) _ c.requires (omega arith) (omega arith) c.lay.ensures
