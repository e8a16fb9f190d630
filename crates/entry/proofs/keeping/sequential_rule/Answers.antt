-- `entry::keeping::sequential_rule` meets its contract.
-- Assumes nothing.
use mathlib.Core.Path.{sym, ◌∙◌}
use Rattle.rules.specs.Numbers.{numbers_of}
use Rattle.rules.proofs.Steps.{sequential-at, sequential-free}
use Rattle.entry.proofs.keeping.sequential_rule.Goals as goal

pub returns-then-i-eq7 : goal.returns-then-i-eq7
returns-then-i-eq7 c =
    let e = numbers_of c.args.e.now in
    let q = c.if-i-eq7.true in
    c.at_fits.ensures
    ∙ (rw (
      c.number-ha.ensures,
      c.number-hr.ensures,
      c.number-g.ensures,
      c.number-nt.ensures,
    ))
    ∙ sym (sequential-at e c.args.i c.args.x c.requires q)

pub returns : goal.returns
returns c =
    sym (sequential-free (numbers_of c.args.e.now) c.args.i _ c.requires c.if-i-eq7.false)
