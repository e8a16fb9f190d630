-- `terminal::planning::put_numbers` meets its contract. The invariant: i numbers stand in the part, and with the others
-- stored it is the part with all of them stored.
-- Assumes nothing.
use mathlib.Core.Path.{◌∙◌}
use native.Mathlib.Omega.{arith}
use Rattle.terminal.proofs.Rows.{stored-next, stored-on, stored-all, seven-done}
use Rattle.terminal.proofs.planning.put_numbers.Goals as goal

pub loop-i-preserved : goal.loop-i-preserved
loop-i-preserved c =
    let numbers = c.args.numbers.now in
    let bytes = c.copy_from_slice.ensures.after ∙ c.to_le_bytes.ensures in
    let fits = c.type_inv.numbers c.loop-i.i in (
      stored-next _ numbers _ c.loop-i.i _ (omega arith) (omega (arith, fits)) (omega arith) bytes c.loop-i.invariant.0,
      stored-on _ numbers _ _ c.loop-i.i _ (omega arith) (omega (arith, fits)) (omega arith) (omega arith) bytes
          c.loop-i.invariant.1,
    )

pub returns-clause-stored : goal.returns-clause-stored
returns-clause-stored c =
    seven-done c.loop-i.part c.args.numbers.now 0 c.args.part.now c.loop-i.i (omega arith) c.loop-i.invariant.1

pub returns-clause-whole : goal.returns-clause-whole
returns-clause-whole c = stored-all _ c.args.numbers.now c.loop-i.i (omega arith) (omega arith) c.loop-i.invariant.0
