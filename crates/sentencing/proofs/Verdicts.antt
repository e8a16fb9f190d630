-- A verdict with its plan, by what planning and judging the sample promise: for each kind of plan how it is refused as
-- its plan is, and how a plan that is given is judged as one that is handed over.
-- Assumes nothing.
use Prim.Native.Nat.{ℕ, ◌<◌}
use mathlib.Core.Path.{◌≡◌, refl, sym, ap, ◌∙◌}
use mathlib.Core.Bool.{Bool, true, false}
use mathlib.Core.List.{List}
use native.Mathlib.Omega.{arith}
use borrow.Author.Tests.{le-ltb}
use lib.IntN.{ℤ}
use Rattle.rules.specs.Refusals.{Answer, refused, given, and_then}
use Rattle.rules.specs.Verdict.{Verdict}
use Rattle.rules.specs.Single.{Plan, judge_items}
use Rattle.rules.specs.Staged.{StagedPlan, judge_stages}
use Rattle.rules.specs.Sequential.{SequentialPlan, judge_sequence}
use Rattle.rules.specs.Variables.{VariablesPlan}
use Rattle.rules.specs.Limits.{Spread, estimated, known, Limits, one, both, SidesPlan, sides_of, side_of}
use Rattle.rules.specs.Limits.{judge_readings}
use Rattle.rules.specs.Entries.{Asked, judged_on, single_plan, curtailed_plan, staged_plan, sequential_plan}
use Rattle.rules.specs.Entries.{readings_plan, sides_plan, section_for, Lettered, lettered, single_sample}
use Rattle.rules.specs.Entries.{curtailed_sample, staged_sample, readings_sample, judge_single, judge_curtailed}
use Rattle.rules.specs.Entries.{judge_staged, judge_sequential, judge_limit, judge_sides}
use Rattle.rules.proofs.Demands.Two.{single-plan-given, staged-plan-given}
use Rattle.rules.proofs.Demands.Curtailed.{in-column, curtailed-plan-given}
use Rattle.rules.proofs.Demands.Limits.{one-column}
use Rattle.rules.proofs.GivenPlans.{sides-given}
use Rattle.rules.proofs.HeldPlans.{variables-could}
use Rattle.choosing.specs.Paper.{section_if}
use Rattle.sentencing.specs.Paper.{is_known, one_of}
use Rattle.sentencing.proofs.OneLimit.{on-verdict, one-limit}

-- a plan without its letter
unlettered : {P : Type 0} (q : Asked) (a : Answer P) (x : Answer (Lettered P)) → x ≡ lettered q a
    → and_then x (λ y. given y.plan) ≡ a
unlettered {P} q a x e = ap (λ (y : Answer (Lettered P)). and_then y (λ z. given z.plan)) e ∙ back a
  where
    back : (a : Answer P) → and_then (lettered q a) (λ z. given z.plan) ≡ a
    back (refused n p) = refl
    back (given y) = refl

-- a plan and then the verdict on it, where a plan that is given has its sample judged as any
module _ {P : Type 0} (plan : Answer P) (sample judge : P → Answer Verdict)
    (same : (x : P) → given x ≡ plan → sample x ≡ judge x) where
  pub judged : (x : P) → given x ≡ plan → (a : Answer Verdict) → a ≡ sample x
      → and_then a (λ v. given (record { plan = x; verdict = v })) ≡ and_then plan (judged_on judge)
  judged x e a h = rw (← e, h ∙ same x e)

pub unplanned : {P : Type 0} (plan : Answer P) (judge : P → Answer Verdict) (n p : ℕ) → refused n p ≡ plan
    → refused n p ≡ and_then plan (judged_on judge)
unplanned plan judge n p e = rw (← e)

-- A sample of a column that stands is judged as on any single plan.
pub items-in-column : (column : ℕ) (p : Plan) (sample : List ℕ) → column < 26
    → single_sample column p sample ≡ judge_items column p sample
unfolding single_sample
items-in-column column p sample h = rw (le-ltb 25 column (omega arith))

-- Each kind of sample: as its plan is refused, ..
module _ (q : Asked) (book sample : List ℕ) (n p : ℕ) where
  pub single-unplanned : refused n p ≡ single_plan q book → refused n p ≡ judge_single q book sample
  unfolding judge_single
  single-unplanned = unplanned _ _ n p

  pub curtailed-unplanned : refused n p ≡ curtailed_plan q book → refused n p ≡ judge_curtailed q book sample
  unfolding judge_curtailed
  curtailed-unplanned = unplanned _ _ n p

  pub staged-unplanned : refused n p ≡ lettered q (staged_plan q book) → refused n p ≡ judge_staged q book sample
  unfolding judge_staged
  staged-unplanned e = unplanned _ _ n p (unlettered q _ _ e)

  pub sequential-unplanned : refused n p ≡ lettered q (sequential_plan q book)
      → refused n p ≡ judge_sequential q book sample
  unfolding judge_sequential
  sequential-unplanned e = unplanned _ _ n p (unlettered q _ _ e)

-- .. and on a plan that is given as it is handed over.
module _ (q : Asked) (book sample : List ℕ) (a : Answer Verdict) where
  pub single-judged : (x : Plan) → given x ≡ single_plan q book → a ≡ single_sample q.column x sample
      → and_then a (λ v. given (record { plan = x; verdict = v })) ≡ judge_single q book sample
  unfolding judge_single
  single-judged x e =
      judged _ _ _ (λ p h. items-in-column q.column p sample ((single-plan-given q book p).0 (sym h)).lot.column) x e a

  pub curtailed-judged : (x : Plan) → given x ≡ curtailed_plan q book → a ≡ curtailed_sample q.column x sample
      → and_then a (λ v. given (record { plan = x; verdict = v })) ≡ judge_curtailed q book sample
  unfolding judge_curtailed
  curtailed-judged x e =
      judged _ _ _
      (λ p h.
      let lot = ((curtailed-plan-given q book p).0 (sym h)).planned.lot in
      in-column q.column p (omega (arith, lot.column)) sample) x e a

  pub staged-judged : (x : Lettered StagedPlan) → given x ≡ lettered q (staged_plan q book)
      → a ≡ staged_sample q.column x.plan sample
      → and_then a (λ v. given (record { plan = x.plan; verdict = v })) ≡ judge_staged q book sample
  unfolding judge_staged staged_sample
  staged-judged x e =
      judged _ (λ p. staged_sample q.column p sample) (λ p. judge_stages q.column p sample)
      (λ p h.
      let lot = ((staged-plan-given q book p).0 (sym h)).lot in
      rw (le-ltb 25 q.column (omega (arith, lot.column)))) x.plan (unlettered q _ _ e) a

  pub sequential-judged : (x : Lettered SequentialPlan) → given x ≡ lettered q (sequential_plan q book)
      → a ≡ judge_sequence x.plan sample
      → and_then a (λ v. given (record { plan = x.plan; verdict = v })) ≡ judge_sequential q book sample
  unfolding judge_sequential
  sequential-judged x e = judged _ _ _ (λ p h. refl) x.plan (unlettered q _ _ e) a

-- A plan for two limits that an entry gives passes the test of plans handed over.
pub readings-sample : (q : Asked) (book sample : List ℕ) (m : Spread) (limits : Limits) (lower : ℕ) (p : SidesPlan)
    → sides_plan (section_for m) q lower book ≡ given p
    → readings_sample m limits p sample ≡ judge_readings m limits p sample
unfolding readings_sample
readings-sample q book sample m limits lower p h =
    let r = sides-given q book m lower p h in
    rw (variables-could (side_of true p) (r true), variables-could (side_of false p) (r false))

-- Readings, in the section of the method: ..
module _ (m : Spread) (q : Asked) (book readings : List ℕ) where
  section-is : (t : Bool) → t ≡ is_known m → section_if t ≡ section_for m
  section-is t e = ap section_if e ∙ on m
    where
      on : (m : Spread) → section_if (is_known m) ≡ section_for m
      on estimated = refl
      on (known sigma) = refl

  -- .. on plans for two sides, ..
  module _ (limits : Limits) (column : ℕ) where
    two-unplanned : (n p : ℕ) → refused n p ≡ sides_plan (section_for m) q column book
        → refused n p ≡ judge_sides m limits q column book readings
    unfolding judge_sides
    two-unplanned n p e = unplanned _ _ n p e

    two-judged : (x : SidesPlan) → given x ≡ sides_plan (section_for m) q column book → (a : Answer Verdict)
        → a ≡ readings_sample m limits x readings
        → and_then a (λ v. given (record { plan = x; verdict = v })) ≡ judge_sides m limits q column book readings
    unfolding judge_sides
    two-judged x e a h =
        judged _ (λ p. readings_sample m limits p readings) _
        (λ p g. readings-sample q book readings m limits column p (sym g)) x e a h

  -- .. for two limits, ..
  pub sides-unplanned : (upper lower : ℤ) (column n p : ℕ) (t : Bool) → t ≡ is_known m
      → refused n p ≡ sides_plan (section_if t) q column book
      → refused n p ≡ judge_sides m (both upper lower) q column book readings
  sides-unplanned upper lower column n p t i e =
      two-unplanned (both upper lower) column n p (rw (section-is t i) at e)

  pub sides-judged : (upper lower : ℤ) (column : ℕ) (x : SidesPlan) (t : Bool) → t ≡ is_known m
      → given x ≡ sides_plan (section_if t) q column book
      → (a : Answer Verdict) → a ≡ readings_sample m (both upper lower) x readings
      → and_then a (λ v. given (record { plan = x; verdict = v }))
      ≡ judge_sides m (both upper lower) q column book readings
  sides-judged upper lower column x t i e a h =
      two-judged (both upper lower) column x (rw (section-is t i) at e) a h

  -- .. and for one, which is judged as two are: under the same column on both sides.
  same-column : (t : Bool) → t ≡ is_known m → (y : Answer (Lettered VariablesPlan))
      → y ≡ lettered q (readings_plan (section_if t) q book)
      → and_then (and_then y (λ z. given z.plan)) (λ p. given (sides_of p)) ≡ sides_plan (section_for m) q q.column book
  same-column t i y e =
      ap (λ (z : Answer VariablesPlan). and_then z (λ p. given (sides_of p)))
      (unlettered q _ y (rw (section-is t i) at e))
      ∙ sym (one-column (section_for m) q book)

  pub limit-unplanned : (upper : Bool) (limit : ℤ) (n p : ℕ) (t : Bool) → t ≡ is_known m
      → refused n p ≡ lettered q (readings_plan (section_if t) q book)
      → refused n p ≡ judge_limit m upper q book limit readings
  limit-unplanned upper limit n p t i e =
      ap one_of (two-unplanned (one upper limit) q.column n p (same-column t i (refused n p) e))
      ∙ sym (one-limit m upper q book limit readings)

  pub limit-judged : (upper : Bool) (limit : ℤ) (x : Lettered VariablesPlan) (t : Bool) → t ≡ is_known m
      → given x ≡ lettered q (readings_plan (section_if t) q book) → (sides : SidesPlan) → sides ≡ sides_of x.plan
      → (a : Answer Verdict) → a ≡ readings_sample m (one upper limit) sides readings
      → and_then a (λ v. given (record { plan = x.plan; verdict = v })) ≡ judge_limit m upper q book limit readings
  limit-judged upper limit x t i e sides s a h =
      on-verdict x.plan a
      ∙ ap one_of
      (two-judged (one upper limit) q.column (sides_of x.plan) (same-column t i (given x) e) a (rw s at h))
      ∙ sym (one-limit m upper q book limit readings)
