-- `rows::walk_numbers` meets its contract.
-- Assumes nothing.
use mathlib.Core.Path.{ap}
use native.Mathlib.Omega.{arith}
use Rattle.rules.specs.Numbers.{numbers_of}
use Rattle.rules.specs.Book.{kind_at}
use Rattle.entry.proofs.AnyKind.{last-kind}
use Rattle.rows.proofs.Walked.{walk-as}
use Rattle.rows.proofs.walk_numbers.Goals as goal

pub returns-in-0 : goal.returns-in-0
returns-in-0 c =
    walk-as c.args.kind 0 (numbers_of c.args.row.now) (ap kind_at c.in-0.is)
    _ (λ e. omega arith) c.ok.ensures.value c.entry_numbers.ensures c.requires

pub returns-in-2 : goal.returns-in-2
returns-in-2 c =
    walk-as c.args.kind 2 (numbers_of c.args.row.now) (ap kind_at c.in-2.is)
    _ (λ e. omega arith) c.ok-in-2.ensures.value c.sequential_numbers.ensures c.requires

pub returns-in_default : goal.returns-in_default
returns-in_default c =
    walk-as c.args.kind 3 (numbers_of c.args.row.now) (last-kind _ c.in_default.in_default-own.rest)
    _ (λ e. omega arith) c.ok-in_default.ensures.value c.entry_numbers-in_default.ensures c.requires
