-- `lotforms::yes_or_no` meets its contract. Assumes nothing.
use mathlib.Core.Path.{ap, ◌∙◌}
use borrow.Author.Rules.{rules}
use Rattle.lotforms.specs.Reading.{said, numbers_then}
use Rattle.lotforms.proofs.Reading.{first-other, then-known, too-many, one-yes, one-no, one-neither}
use Rattle.lotforms.proofs.yes_or_no.Goals as goal

pub returns-in_err-value : goal.returns-in_err-value
returns-in_err-value c on_yes on_no =
    ap (said on_yes on_no) c.from_residual.ensures ∙ first-other _ 0 0 _ c.number_at.ensures c.in_err-value.was

pub returns-then-end-fields : goal.returns-then-end-fields
returns-then-end-fields c on_yes on_no =
    then-known _ 0 0 _ c.number_at.ensures c.in_ok-value.was
    (too-many _ _ _ c.if-end-fields.true)

pub returns-in-0 : goal.returns-in-0
returns-in-0 c on_yes on_no =
    then-known _ 0 0 _ c.number_at.ensures c.in_ok-value.was
    (one-no _ _ _ _ _ c.if-end-fields.false c.in-0.is)

pub returns-in-1 : goal.returns-in-1
returns-in-1 c on_yes on_no =
    then-known _ 0 0 _ c.number_at.ensures c.in_ok-value.was
    (one-yes _ _ _ _ _ c.if-end-fields.false c.in-1.is)

pub returns-in_default : goal.returns-in_default
unfolding numbers_then
returns-in_default c on_yes on_no =
    then-known _ 0 0 _ c.number_at.ensures c.in_ok-value.was
    (search (rules, one-neither))
