-- `plans::ac_along` meets its contract: the code's numbers are those along s, and there is none before or past them.
-- Assumes nothing.
use Prim.Native.Nat.{◌+◌, ◌-◌}
use mathlib.Core.Path.{refl, sym, ◌∙◌}
use native.Mathlib.Omega.{arith}
use Rattle.plans.specs.Paper.{severity_of}
use Rattle.plans.proofs.Master.{of-table, none-of, ac-in-arm, no-ac, ac-found}
use Rattle.plans.proofs.ac_along.Goals as goal

pub returns-then-s-lt-FIRST_AC : goal.returns-then-s-lt-FIRST_AC
returns-then-s-lt-FIRST_AC c =
    let s = c.args.s in
    let v = severity_of c.args.table in
    let t = of-table c.args.table in
    no-ac v s t refl (none-of s (17 + v) (10 - v) (λ l. omega (arith, t, c.then-s-lt-FIRST_AC.either)))

pub returns : goal.returns
returns c =
    let v = c.severity in
    ac-found v.result c.args.s v.ensures.1 (omega arith) (omega arith) ∙ ac-in-arm v.result (sym v.ensures.0) refl
