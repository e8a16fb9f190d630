-- `supply::fraction_accepts` meets its contract. Assumes nothing.
use Rattle.std.proofs.Common.{◌∙◌}
use borrow.Author.Tests.{eq-eqb, ne_eqb}
use Rattle.supply.proofs.Laws.{clean-passes, one-passes, more-fails}
use Rattle.supply.proofs.fraction_accepts.Goals as goal

pub returns-then-total-eq0 : goal.returns-then-total-eq0
returns-then-total-eq0 c = eq-eqb _ _ c.if-total-eq0.true ∙ clean-passes _ _ _ c.if-total-eq0.true

pub returns-then-total-eq1 : goal.returns-then-total-eq1
returns-then-total-eq1 c =
    rw (c.from.ensures, c.from-then-total-eq1.ensures) (one-passes _ _ _ c.if-total-eq1.true)

pub returns-else-total-eq1 : goal.returns-else-total-eq1
returns-else-total-eq1 c =
    ne_eqb _ _ c.if-total-eq1.false ∙ more-fails _ _ _ c.if-total-eq0.false c.if-total-eq1.false
