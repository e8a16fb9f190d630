-- `entry::variables_holds` meets its contract.
-- Assumes nothing.
use mathlib.Core.Path.{◌≡◌, refl}
use mathlib.Core.Bool.{Bool, true, false, cond, ◌&&◌}
use lib.Dec.{leb}
use Rattle.rules.specs.Book.{could_hold, numbers_from, right, is_end, ends, broken}
use Rattle.entry.proofs.variables_holds.Goals as goal

-- the walk over n and K ends where all four tests pass
ends-where : (a b c d : Bool)
    → (a && b) && (c && d)
    ≡ is_end (cond ((a && b) && true) (cond ((c && d) && true) (ends 5) (broken 4)) (broken 3))
ends-where false b c d = refl
ends-where true false c d = refl
ends-where true true false d = refl
ends-where true true true false = refl
ends-where true true true true = refl

pub returns : goal.returns
unfolding could_hold numbers_from right
returns c =
    let p = c.args.plan in
    rw (c.fits.ensures, c.fits-2.ensures) (ends-where (leb 2 p.n) (leb p.n 50) (leb 1 p.k) (leb p.k 4000))
