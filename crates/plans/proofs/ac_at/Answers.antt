-- `plans::ac_at` meets its contract: no number past the last of the column, else that along s. Assumes nothing.
use mathlib.Core.Path.{◌∙◌}
use native.Mathlib.Omega.{arith}
use Rattle.plans.specs.Paper.{severity_of}
use Rattle.plans.proofs.Master.{ac-there, ac-past, of-table}
use Rattle.plans.proofs.ac_at.Goals as goal

pub returns-then-last_number-s : goal.returns-then-last_number-s
returns-then-last_number-s c =
    let a = c.args in
    ac-past (severity_of a.table) a.column a.letter (of-table a.table) (omega (arith, c.last_number.ensures))

pub returns : goal.returns
returns c =
    let a = c.args in
    c.ac_along.ensures
    ∙ ac-there (severity_of a.table) a.column a.letter (of-table a.table)
    (omega (arith, c.last_number.ensures, c.if-last_number-s.false))
