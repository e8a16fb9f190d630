-- `entry::right_at` meets its contract.
-- Assumes nothing.
use mathlib.Core.Path.{◌≡◌, sym, ap, ◌∙◌}
use mathlib.Core.Bool.{true, false}
use lib.ListN.{get_or, take}
use Rattle.rules.specs.Numbers.{numbers_of}
use Rattle.rules.specs.Book.{kind_at, within, anything}
use Rattle.rules.proofs.Steps.{right-by, wrong-by}
use Rattle.entry.proofs.right_at.Goals as goal

pub returns-then-fits : goal.returns-then-fits
returns-then-fits c =
    let k = kind_at c.args.kind in
    let e = numbers_of c.args.e.now in
    let i = c.args.i in
    let x = c.number-x.ensures in
    let w : within (get_or k.ranges i anything) (get_or e i 0) ≡ true =
    ap (within (get_or k.ranges i anything)) (sym x) ∙ sym c.fits.ensures
    ∙ c.if-fits.true in
    c.keeps_rule.ensures ∙ ap (k.rule (take i e)) x ∙ sym (right-by k e i w)

pub returns-else-fits : goal.returns-else-fits
returns-else-fits c =
    let k = kind_at c.args.kind in
    let e = numbers_of c.args.e.now in
    let i = c.args.i in
    let x = c.number-x.ensures in
    let w : within (get_or k.ranges i anything) (get_or e i 0) ≡ false =
    ap (within (get_or k.ranges i anything)) (sym x) ∙ sym c.fits.ensures ∙ c.if-fits.false in
    c.if-fits.false ∙ sym (wrong-by k e i w)
