-- `gauge::Sums::shown` meets its contract.
-- Assumes nothing.
use mathlib.Core.Path.{refl}
use borrow.Author.Tests.{ne_eqb}
use Rattle.rules.specs.Screen.{shown_of}
use Rattle.gauge.proofs.FromSums.{spread-from}
use Rattle.gauge.proofs.Sums.shown.Goals as goal

pub returns : goal.returns
unfolding shown_of
returns c =
    let s = c.args.self in
    rw (ne_eqb _ _ c.if-n-eq1.false, spread-from s.n s.t s.q)
    (rw (c.ratio-mean.ensures, c.ratio-variance.ensures, c.square.ensures.0) refl)
