-- `severity::walk` meets its contract. Assumes nothing.
use Rattle.std.proofs.Common.{rules, refl}
use Rattle.severity.proofs.Loop.{walking-first, walking-on, walking-past, walked-none, walked-bad, walked-whole}
use Rattle.severity.proofs.walk.Goals as goal
use Rattle.severity.proofs.walk.Goals.{then-i-out, else-i-out}

pub returns-then-not-in_range : goal.returns-then-not-in_range
returns-then-not-in_range c =
    rw c.from.ensures (walked-none _ _ _ _ _ c.in_range.ensures c.if-not-in_range.true)

pub returns-in-Err : goal.returns-in-Err
returns-in-Err c =
    let m = rw (c.event_of.ensures, c.from-in-loop-i.ensures) at c.in-Err.ensures in
    walked-bad _ _ _ _ _ c.in_range.ensures c.if-not-in_range.false _ _ _ c.loop-i.invariant _ _ c.loop-i-test.true m

pub loop-i-preserved : goal.loop-i-preserved
loop-i-preserved c =
    let m = rw (c.event_of.ensures, c.from-in-loop-i.ensures) at c.in-Ok.ensures in
    elim c.if-i-out.branch [
      | then-i-out w ↦ walking-on _ _ _ _ _ _ _ _ _ c.loop-i.invariant m w.out-is
      | else-i-out w ↦ walking-past _ _ _ _ _ _ _ _ _ c.loop-i.invariant m w.out-is w.if-i-out.false
    ]

pub loop-i-init : goal.loop-i-init
loop-i-init c = walking-first _ _ _ _

pub returns : goal.returns
returns c =
    walked-whole _ _ _ _ _ c.in_range.ensures c.if-not-in_range.false _ _ _ c.loop-i.invariant _ refl (search rules)
