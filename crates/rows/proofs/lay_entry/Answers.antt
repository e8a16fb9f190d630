-- `rows::lay_entry` meets its contract.
-- Assumes nothing.
use mathlib.Core.Path.{◌∙◌}
use native.Mathlib.Omega.{arith}
use Rattle.rules.specs.Numbers.{numbers_of}
use Rattle.rules.specs.Book.{kind_at}
use Rattle.rows.proofs.AnyRow.{any-rowed}
use Rattle.rows.proofs.Laid.{lay-is}
use Rattle.rows.proofs.lay_entry.Goals as goal

pub returns : goal.returns
returns c =
    c.lay.ensures
    ∙ lay-is (kind_at c.args.kind) (numbers_of c.args.row.now) c.args.at c.args.out.now
    (any-rowed c.args.kind)
    (record { whole = omega arith; fits = omega arith; room = omega arith })
