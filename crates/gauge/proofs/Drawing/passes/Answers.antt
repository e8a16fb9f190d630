-- `gauge::Drawing::passes` meets its contract.
-- Assumes nothing.
use mathlib.Core.Path.{◌≡◌}
use mathlib.Core.Bool.{true}
use Prim.Native.Nat.{ℕ, ◌≤◌}
use borrow.Author.Tests.{leb-true}
use lib.Dec.{leb}
use Rattle.rules.specs.Limits.{known, spread_in}
use Rattle.rules.proofs.Bools.{and-right}
use Rattle.gauge.proofs.Drawing.passes.Goals as goal

few : (sigma : ℕ) → spread_in (known sigma) ≡ true → sigma ≤ 1000
unfolding spread_in
few sigma h = leb-true sigma 1000 (and-right (leb 1 sigma) (leb sigma 1000) h)

pub passes_known-requires : goal.passes_known-requires
passes_known-requires c =
    let s : spread_in (known c.in-Known.sigma) ≡ true = rw c.in-Known.is at c.args.self.in_range.0 in
    (c.args.sums.few.1, few _ s)
