-- `closing::take_single` meets its contract: which plan it was is no part of what the lot enters.
-- Assumes nothing.
use mathlib.Core.Path.{refl}
use Rattle.std.specs.Prelude.{Ok}
use Rattle.rules.specs.Entries.{single_event}
use Rattle.plans.specs.Paper.{plan_paper}
use Rattle.severity.specs.Paper.{record_paper}
use Rattle.supply.specs.Paper.{supply_paper}
use Rattle.closing.specs.Paper.{offered_paper}
use Rattle.closing.proofs.Closing.{taken-given}
use Rattle.closing.proofs.take_single.Goals as goal

pub returns : goal.returns
returns g c =
    let a = c.args in
    let j = c.in_ok-judged.judged in
    rw c.in_ok-judged.was
    (taken-given plan_paper (supply_paper a.old) (single_event (record_paper a.old.switching) (offered_paper a.lot))
    (Ok j) c.enter.result j _ refl c.single_event-event.ensures c.enter.ensures)
