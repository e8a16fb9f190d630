-- `lotforms::lot_line` meets its contract. Assumes nothing.
use mathlib.Core.Path.{ap, ◌∙◌}
use Rattle.lotforms.specs.Reading.{line_paper}
use Rattle.lotforms.proofs.Reading.{first-other, then-known, too-many, as-many}
use Rattle.lotforms.proofs.lot_line.Goals as goal

pub returns-in_err-size : goal.returns-in_err-size
returns-in_err-size c =
    ap line_paper c.from_residual.ensures ∙ first-other _ 0 3 _ c.number_at.ensures c.in_err-size.was

pub returns-in_err-level : goal.returns-in_err-level
returns-in_err-level c =
    ap line_paper c.from_residual-in_err-level.ensures
    ∙ then-known _ 0 3 _ c.number_at.ensures c.in_ok-size.was
    (first-other _ _ 2 _ c.number_at-2.ensures c.in_err-level.was)

pub returns-in_err-column : goal.returns-in_err-column
returns-in_err-column c =
    ap line_paper c.from_residual-in_err-column.ensures
    ∙ then-known _ 0 3 _ c.number_at.ensures c.in_ok-size.was
    (then-known _ _ 2 _ c.number_at-2.ensures c.in_ok-level.was
    (first-other _ _ 1 _ c.number_at-3.ensures c.in_err-column.was))

pub returns-in_err-total : goal.returns-in_err-total
returns-in_err-total c =
    ap line_paper c.from_residual-in_err-total.ensures
    ∙ then-known _ 0 3 _ c.number_at.ensures c.in_ok-size.was
    (then-known _ _ 2 _ c.number_at-2.ensures c.in_ok-level.was
    (then-known _ _ 1 _ c.number_at-3.ensures c.in_ok-column.was
    (first-other _ _ 0 _ c.number_at-4.ensures c.in_err-total.was)))

pub returns-then-end-fields : goal.returns-then-end-fields
returns-then-end-fields c =
    then-known _ 0 3 _ c.number_at.ensures c.in_ok-size.was
    (then-known _ _ 2 _ c.number_at-2.ensures c.in_ok-level.was
    (then-known _ _ 1 _ c.number_at-3.ensures c.in_ok-column.was
    (then-known _ _ 0 _ c.number_at-4.ensures c.in_ok-total.was
    (too-many _ _ _ c.if-end-fields.true))))

pub returns : goal.returns
returns c =
    then-known _ 0 3 _ c.number_at.ensures c.in_ok-size.was
    (then-known _ _ 2 _ c.number_at-2.ensures c.in_ok-level.was
    (then-known _ _ 1 _ c.number_at-3.ensures c.in_ok-column.was
    (then-known _ _ 0 _ c.number_at-4.ensures c.in_ok-total.was
    (as-many _ _ _ c.if-end-fields.false))))
