-- `entry::staged_at` meets its contract.
-- Assumes nothing.
use native.Mathlib.Omega.{arith}
use Rattle.rules.specs.Numbers.{numbers_of}
use Rattle.entry.proofs.Seven.{staged-few, stages-none, stages-next}
use Rattle.entry.proofs.staged_at.Goals as goal

pub loop-i-init : goal.loop-i-init
loop-i-init c = search stages-none

pub loop-i-preserved : goal.loop-i-preserved
loop-i-preserved c =
    stages-next _ c.loop-i.invariant (omega arith) c.number.ensures c.number-in-loop-i.ensures
    c.number-in-loop-i-2.ensures

pub returns : goal.returns
returns c =
    let read = rw c.number-count.ensures at c.loop-i.invariant in
    rw c.number-count.ensures (staged-few (numbers_of c.args.e.now) read (omega arith) (omega arith))
