-- `rows::row_place` meets its contract.
-- Assumes nothing.
use borrow.Author.Tests.{lt-ltb, le-ltb, eq-eqb, ne_eqb}
use Rattle.rules.specs.Book.{staged_in_row}
use Rattle.rows.proofs.row_place.Goals as goal

pub returns-then-i-start : goal.returns-then-i-start
unfolding staged_in_row
returns-then-i-start c = rw (c.if-kind-ne-STAGED.false, lt-ltb _ _ c.if-i-start.true)

pub returns-then-j-eq0 : goal.returns-then-j-eq0
unfolding staged_in_row
returns-then-j-eq0 c = rw (c.if-kind-ne-STAGED.false, le-ltb _ _ c.if-i-start.false, eq-eqb _ 0 c.if-j-eq0.true)

pub returns : goal.returns
unfolding staged_in_row
returns c = rw (c.if-kind-ne-STAGED.false, le-ltb _ _ c.if-i-start.false, ne_eqb _ 0 c.if-j-eq0.false)
