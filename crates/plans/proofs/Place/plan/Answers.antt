-- `plans::Place::plan` meets its contract: the size and the Ac are those of the letter where the lot's letter lands.
-- Assumes nothing.
use native.Mathlib.Omega.{arith}
use Rattle.plans.specs.Paper.{severity_of}
use Rattle.plans.proofs.Master.{plan-there, of-table}
use Rattle.plans.proofs.Place.plan.Goals as goal

pub returns : goal.returns
returns c =
    let a = c.args.self in
    plan-there (severity_of a.table) c.args.size a.column a.letter _ _ _ _ (of-table a.table) (omega arith)
    (omega arith)
    c.landing_letter-at.ensures
    c.ac_at.ensures
    c.size_of.ensures
    c.cut_plan.ensures
