-- `plans::letter` meets its contract: the code's letters are those of Table 1. Assumes nothing.
use mathlib.Core.Path.{ap}
use borrow.Author.Tests.{le-ltb}
use native.Mathlib.Omega.{arith}
use Rattle.rules.specs.Refusals.{given}
use Rattle.rules.specs.Codes.{table_one_letter}
use Rattle.plans.proofs.Letters.{letter-found}
use Rattle.plans.proofs.letter.Goals as goal

pub returns : goal.returns
unfolding table_one_letter
returns c =
    let a = c.args in
    rw (le-ltb a.size 2 c.if-size-lt2.false, le-ltb 6 a.level c.if-level-gt-LAST_LEVEL.false, c.letters_of.ensures)
    (ap given (letter-found a.size a.level (omega arith)))
