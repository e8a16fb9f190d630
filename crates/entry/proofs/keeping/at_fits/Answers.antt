-- `entry::keeping::at_fits` meets its contract.
-- Assumes nothing.
use Prim.Native.Nat.{ℕ, ◌+◌, ◌*◌, ◌-◌, ◌/◌}
use mathlib.Core.Path.{◌≡◌}
use native.Mathlib.Omega.{arith}
use borrow.Author.Tests.{ltb-true, leb-true, lt-ltb, le-leb}
use lib.Dec.{leb, ltb}
use Rattle.rules.specs.Book.{at_fits}
use Rattle.rules.proofs.Bools.{same-truth}
use Rattle.entry.proofs.keeping.at_fits.Goals as goal

-- a floor and a ceiling of hundred-thousandths, without division
module _ (gn h x : ℕ) where
  floor-below : ltb gn (100000 * x + 100 * h + 100000) ≡ leb ((gn - 100 * h) / 100000) x
  floor-below =
      same-truth _ _ (λ e. le-leb _ x (omega (arith, ltb-true gn (100000 * x + 100 * h + 100000) e)))
      (λ e. lt-ltb gn _ (omega (arith, leb-true ((gn - 100 * h) / 100000) x e)))

  below-ceiling : ltb (100000 * x) (gn + 100 * h) ≡ ltb x ((gn + 100 * h + 99999) / 100000)
  below-ceiling =
      same-truth _ _ (λ e. lt-ltb x _ (omega (arith, ltb-true (100000 * x) (gn + 100 * h) e)))
      (λ e. lt-ltb (100000 * x) (gn + 100 * h) (omega (arith, ltb-true x ((gn + 100 * h + 99999) / 100000) e)))

pub returns : goal.returns
unfolding at_fits
returns c =
    let a = c.args in rw (floor-below (a.g * a.nt) a.ha a.at, below-ceiling (a.g * a.nt) a.hr a.at)
