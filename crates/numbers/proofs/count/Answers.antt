-- `numbers::count` meets its contract.
-- Assumes nothing.
use mathlib.Core.Path.{sym}
use Rattle.rules.proofs.Numbers.{numbers-count}
use Rattle.numbers.proofs.count.Goals as goal

pub returns : goal.returns
returns c = sym (numbers-count c.args.s.now)
