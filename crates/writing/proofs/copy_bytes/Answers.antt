-- `writing::copy_bytes` meets its contract.
-- Assumes nothing.
use mathlib.Core.Path.{refl, ◌∙◌}
use native.Mathlib.Omega.{arith}
use lib.ListN.{length-set}
use Rattle.writing.proofs.Laying.{copy-first, copy-next, copy-done}
use Rattle.writing.proofs.copy_bytes.Goals as goal

pub loop-i-init : goal.loop-i-init
loop-i-init c = (refl, copy-first c.args.bytes.now c.args.out.now c.args.at)

pub loop-i-preserved : goal.loop-i-preserved
loop-i-preserved c =
    let l = c.loop-i in (
      length-set l.out _ _ ∙ l.invariant.0,
      copy-next _ _ _ l.out l.i (omega arith) l.invariant.1,
    )

pub returns : goal.returns
returns c =
    let a = c.args in
    let l = c.loop-i in
    copy-done a.bytes.now a.out.now a.at l.out l.i (omega arith) l.invariant.1
