-- `showing::entries_in` meets its contract.
-- Assumes nothing.
use native.Mathlib.Omega.{arith}
use Rattle.rules.specs.Numbers.{numbers_of}
use Rattle.showing.proofs.Places.{none-there, count-there}
use Rattle.showing.proofs.entries_in.Goals as goal

pub returns-then-kind-ge-KINDS : goal.returns-then-kind-ge-KINDS
returns-then-kind-ge-KINDS c = none-there (numbers_of c.args.book.now) _ (omega arith)

pub returns : goal.returns
returns c =
    count-there (numbers_of c.args.book.now) _ _ _ (omega arith) c.section_place.ensures.0 c.number.ensures
