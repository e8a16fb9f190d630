-- `rows::lay` meets its contract.
-- Assumes nothing.
use mathlib.Core.Path.{refl}
use native.Mathlib.Omega.{arith}
use Rattle.rules.specs.Book.{kind_at}
use Rattle.rules.proofs.Numbers.{numbers-low}
use Rattle.rows.proofs.AnyRow.{any-rowed, placed}
use Rattle.rows.proofs.Laid.{lay-there, lay-next, lay-done}
use Rattle.rows.proofs.lay.Goals as goal

pub overflow_add-at : goal.overflow_add-at
overflow_add-at c =
    omega (arith, numbers-low c.args.out.now)

pub copy_number-requires : goal.copy_number-requires
copy_number-requires c =
    lay-there c.loop-i.invariant _ (omega arith)
    (placed (kind_at c.args.kind) c.loop-i.i c.row_place.ensures c.after_key-after.ensures)
    (any-rowed c.args.kind) c.requires c.args.row.now refl

pub loop-i-preserved : goal.loop-i-preserved
loop-i-preserved c =
    let kind = c.args.kind in
    lay-next c.loop-i.invariant _ (omega arith)
    (placed (kind_at kind) c.loop-i.i c.row_place.ensures c.after_key-after.ensures) _
    c.copy_number.ensures

pub returns : goal.returns
returns c = lay-done c.loop-i.invariant (omega arith)
