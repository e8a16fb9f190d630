-- `entry::ranges::fits` meets its contract: the pair at the place is its range, and past the list any number fits.
-- Assumes nothing.
use Prim.Native.Nat.{ℕ}
use mathlib.Core.Path.{◌≡◌, refl, ap, ◌∙◌}
use mathlib.Core.Bool.{cond}
use lib.Dec.{leb, ltb, eqb}
use borrow.Author.Tests.{le-leb}
use Rattle.std.proofs.Common.{is_le, Less, Equal, Greater, arith}
use Rattle.std.proofs.lemmas.Bool.Decides.{nat_tests}
use Rattle.rules.specs.Book.{Range, within}
use Rattle.entry.specs.Paper.{range_paper}
use Rattle.entry.proofs.AnyKind.{listed-range, unlisted-range}
use Rattle.entry.proofs.ranges.fits.Goals as goal

le-of : (a b : ℕ) → is_le (cond (ltb a b) Less (cond (eqb a b) Equal Greater)) ≡ leb a b
le-of a b = grind (arith, nat_tests)

pub returns-in-Some : goal.returns-in-Some
returns-in-Some c =
    let s = c.in-Some.ensures.lookup in
    let i = c.args.i in
    let n = c.new.ensures in
    let t = rw (n.start, n.exhausted, n.end) at c.contains.ensures.value in
    let u : c.contains.result ≡ within (range_paper c.in-Some.field-0.now) c.args.x = simp le-of at t in
    u ∙ ap (λ (r : Range). within r c.args.x) (listed-range _ i _ c.ranges_of.ensures _ i refl s.3.0 s.1)

pub returns-in-None : goal.returns-in-None
returns-in-None c =
    let x = c.args.x in
    let i = c.args.i in
    let past = unlisted-range _ i _ c.ranges_of.ensures (search (arith, nat_tests)) in
    rw (← past, le-leb 0 x (omega arith), le-leb x 65535 (omega arith))
