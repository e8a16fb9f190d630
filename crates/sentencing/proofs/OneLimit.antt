-- One limit is judged as two are: under the same column on both sides, and on its own side.
-- Assumes nothing.
use Prim.Native.Nat.{ℕ}
use mathlib.Core.Path.{◌≡◌, refl}
use mathlib.Core.Bool.{Bool}
use mathlib.Core.List.{List}
use lib.IntN.{ℤ}
use Rattle.rules.specs.Refusals.{Answer, refused, given, and_then}
use Rattle.rules.specs.Verdict.{Verdict}
use Rattle.rules.specs.Variables.{VariablesPlan}
use Rattle.rules.specs.Limits.{Spread, one, SidesPlan, sides_of, judge_readings}
use Rattle.rules.specs.Entries.{Asked, judged_on, readings_plan, section_for, judge_limit, judge_sides}
use Rattle.rules.proofs.Demands.Limits.{one-column}
use Rattle.sentencing.specs.Paper.{one_of}

-- a verdict on a plan for one limit is that on its plan for two, but for the plan
pub on-verdict : (p : VariablesPlan) (v : Answer Verdict)
    → and_then v (λ w. given (record { plan = p; verdict = w }))
    ≡ one_of (and_then v (λ w. given (record { plan = sides_of p; verdict = w })))
on-verdict p (refused n k) = refl
on-verdict p (given w) = refl

on-plan : (judge : SidesPlan → Answer Verdict) (a : Answer VariablesPlan)
    → and_then a (judged_on (λ p. judge (sides_of p)))
    ≡ one_of (and_then (and_then a (λ p. given (sides_of p))) (judged_on judge))
on-plan judge (refused n k) = refl
on-plan judge (given p) = on-verdict p (judge (sides_of p))

-- a lot judged for one limit is the lot judged for two, but for its plan
pub one-limit : (m : Spread) (upper : Bool) (q : Asked) (book : List ℕ) (limit : ℤ) (readings : List ℕ)
    → judge_limit m upper q book limit readings
    ≡ one_of (judge_sides m (one upper limit) q q.column book readings)
unfolding judge_limit judge_sides
one-limit m upper q book limit readings =
    rw (one-column (section_for m) q book)
    (on-plan (λ p. judge_readings m (one upper limit) p readings) (readings_plan (section_for m) q book))
