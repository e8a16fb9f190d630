-- `gauge::Sums::of` meets its contract.
-- Assumes nothing.
use mathlib.Core.Path.{refl}
use native.Mathlib.Omega.{arith}
use Rattle.rules.proofs.Numbers.{numbers-count}
use Rattle.gauge.proofs.Pass.{passing-starts, stopped, passing-on, passed}
use Rattle.gauge.proofs.Sums.of.Goals as goal

pub loop-i-init : goal.loop-i-init
loop-i-init c = passing-starts _ _ c.count-n.ensures c.requires.1

pub returns-then-v-lt-LOWEST : goal.returns-then-v-lt-LOWEST
returns-then-v-lt-LOWEST c = (
  refl,
  stopped _ _ _ _ _ _ c.loop-i.invariant c.loop-i-test.true c.raised_reading-v.ensures c.then-v-lt-LOWEST.either,
)

pub loop-i-preserved : goal.loop-i-preserved
loop-i-preserved c =
    passing-on _ _ _ _ _ _ c.loop-i.invariant c.loop-i-test.true c.raised_reading-v.ensures _ _
    c.if-v-lt-LOWEST.false c.if-v-gt-HIGHEST.false refl c.square-y.ensures.0

pub invariant_of-result : goal.invariant_of-result
invariant_of-result c =
    let p = c.loop-i.invariant in
    record {
      few = (omega (arith, c.count-n.ensures, numbers-count c.args.s.now), p.few);
      small = (passed _ _ _ _ _ p (omega arith)).1;
    }

pub returns : goal.returns
returns c = (passed _ _ _ _ _ c.loop-i.invariant (omega arith)).0
