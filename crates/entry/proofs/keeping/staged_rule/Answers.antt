-- `entry::keeping::staged_rule` meets its contract.
-- Assumes nothing.
use mathlib.Core.Path.{sym, ◌∙◌}
use native.Mathlib.Omega.{arith}
use Rattle.rules.specs.Numbers.{numbers_of}
use Rattle.rules.proofs.Steps.{staged-at, staged-free}
use Rattle.entry.proofs.keeping.staged_rule.Goals as goal

pub returns-then-i-lt4 : goal.returns-then-i-lt4
returns-then-i-lt4 c =
    sym (staged-free (numbers_of c.args.e.now) c.args.i _ c.requires c.if-i-lt4.true)

pub returns : goal.returns
returns c =
    let e = numbers_of c.args.e.now in
    c.staged_number.ensures
    ∙ (rw (
      c.number-m.ensures,
      c.number-two.ensures,
      c.number-one.ensures,
    ))
    ∙ sym (staged-at e c.args.i c.args.x c.requires (omega arith))
