-- `rows::walk_row` meets its contract.
-- Assumes nothing.
use mathlib.Core.Path.{sym, ◌∙◌}
use native.Mathlib.Omega.{arith}
use Rattle.rules.specs.Numbers.{numbers_of}
use Rattle.rules.specs.Book.{kind_at, key_of}
use Rattle.rows.proofs.AnyRow.{any-rowed}
use Rattle.rows.proofs.Walked.{walk-cut, walk-falls, walk-rises}
use Rattle.rows.proofs.walk_row.Goals as goal

pub returns-then-count-row_width : goal.returns-then-count-row_width
returns-then-count-row_width c =
    let k = kind_at c.args.kind in
    walk-cut k (key_of k (numbers_of c.args.before.now)) (numbers_of c.args.row.now) (omega arith)

pub returns-then-key_falls : goal.returns-then-key_falls
returns-then-key_falls c =
    let kind = c.args.kind in
    walk-falls (kind_at kind) (any-rowed kind)
    (key_of (kind_at kind) (numbers_of c.args.before.now)) (numbers_of c.args.row.now) (omega arith)
    (sym c.key_falls.ensures ∙ c.if-key_falls.true)

pub returns : goal.returns
returns c =
    let kind = c.args.kind in
    c.walk_numbers.ensures
    ∙ walk-rises (kind_at kind) (any-rowed kind)
    (key_of (kind_at kind) (numbers_of c.args.before.now)) (numbers_of c.args.row.now) (omega arith)
    (sym c.key_falls.ensures ∙ c.if-key_falls.false)
