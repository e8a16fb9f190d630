-- `plans::Place::landing_letter` meets its contract: each return is the landing by the tests before it.
-- Assumes nothing.
use Prim.Native.Nat.{ℕ, ◌+◌, ◌-◌}
use mathlib.Core.Path.{ap, ◌∙◌}
use native.Mathlib.Omega.{arith}
use Rattle.rules.proofs.Landing.{zero-there, last-by-column, to-zero, to-one, to-last, stays}
use Rattle.plans.proofs.Place.landing_letter.Goals as goal

pub overflow_sub-result : goal.overflow_sub-result
overflow_sub-result c =
    let a = c.args.self in
    zero-there (14 + c.severity-severity.result) a.column (a.letter + a.column) (omega arith) (omega arith)
    (omega (arith, c.last_to_zero.ensures, c.if-s-last_to_zero.true))

pub returns-then-s-last_to_zero : goal.returns-then-s-last_to_zero
returns-then-s-last_to_zero c =
    let a = c.args.self in
    rw (← c.severity-severity.ensures.0)
    (to-zero c.severity-severity.result a.column a.letter (omega arith) (omega arith) (omega arith)
    (omega (arith, c.last_to_zero.ensures, c.if-s-last_to_zero.true)))

pub returns-then-s-one_at : goal.returns-then-s-one_at
returns-then-s-one_at c =
    let a = c.args.self in
    rw (← c.severity-severity.ensures.0)
    (to-one c.severity-severity.result a.column a.letter (omega arith) (omega arith) (omega arith)
    (omega (arith, c.last_to_zero.ensures, c.if-s-last_to_zero.false)) (omega (arith, c.if-s-one_at.true)))

pub overflow_sub-result-then-last_at-s : goal.overflow_sub-result-then-last_at-s
overflow_sub-result-then-last_at-s c =
    let e = c.last_number-last_at.ensures in
    last-by-column c.args.self.column (λ p f. omega (arith, e)) (λ p f. omega (arith, e)) (λ p f. omega (arith, e))

pub returns-then-last_at-s : goal.returns-then-last_at-s
returns-then-last_at-s c =
    let a = c.args.self in
    let e = c.last_number-last_at.ensures in
    rw (← c.severity-severity.ensures.0)
    (ap (λ (x : ℕ). x - a.column) e
    ∙ to-last c.severity-severity.result a.column a.letter (omega arith) (omega arith) (omega arith)
    (omega (arith, c.last_to_zero.ensures, c.if-s-last_to_zero.false))
    (omega (arith, c.if-s-one_at.false)) (omega (arith, e, c.if-last_at-s.true)))

pub returns : goal.returns
returns c =
    let a = c.args.self in
    rw (← c.severity-severity.ensures.0)
    (stays c.severity-severity.result a.column a.letter (omega arith) (omega arith) (omega arith)
    (omega (arith, c.last_to_zero.ensures, c.if-s-last_to_zero.false))
    (omega (arith, c.if-s-one_at.false)) (omega (arith, c.last_number-last_at.ensures, c.if-last_at-s.false)))
