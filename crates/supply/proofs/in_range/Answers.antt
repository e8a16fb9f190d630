-- `supply::in_range` meets its contract. Assumes nothing.
use Rattle.std.proofs.Common.{◌∙◌}
use Rattle.supply.specs.Paper.{supply_paper}
use Rattle.supply.proofs.Laws.{both-range, out-of-range}
use Rattle.supply.proofs.in_range.Goals as goal

pub returns-then-in_range : goal.returns-then-in_range
returns-then-in_range c =
    both-range (supply_paper c.args.old) _ c.in_range.ensures _ c.if-in_range.true c.clean_in_range.ensures

pub returns-else-in_range : goal.returns-else-in_range
returns-else-in_range c =
    c.if-in_range.false ∙ out-of-range (supply_paper c.args.old) _ c.in_range.ensures c.if-in_range.false
