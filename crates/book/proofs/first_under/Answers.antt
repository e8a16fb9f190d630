-- `book::first_under` meets its contract.
-- Assumes nothing.
use Prim.Native.Nat.{ℕ}
use mathlib.Core.Path.{◌≡◌, refl, ◌∙◌}
use mathlib.Core.Bool.{Bool, true, false, cond}
use Rattle.std.specs.Prelude.{Some, None}
use Rattle.std.specs.Bool.{then_some}
use Rattle.rules.proofs.Numbers.{numbers-part}
use Rattle.book.proofs.first_under.Goals as goal

-- a test and a value as an option
option-by : (t : Bool) (x : ℕ) → then_some t x ≡ cond t (Some x) None
option-by true x = refl
option-by false x = refl

pub returns-in-None : goal.returns-in-None
returns-in-None c =
    let a = c.args in
    let under = rw (numbers-part a.book.now a.at) at c.is_under.ensures in
    c.then_some.ensures ∙ rw (c.in-None.is, under, option-by) refl
