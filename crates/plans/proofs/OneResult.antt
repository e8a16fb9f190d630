-- Each promise of a struct or a result admits one: answers with the same numbers and values are the same. (The other
-- public functions promise their result itself.)
-- Assumes nothing.
use Rattle.std.proofs.Common.{ℕ, Result}
use mathlib.Core.Path.{◌≡◌, refl, ap}
use Rattle.rules.specs.Verdict as rules
use Rattle.rules.specs.Single as paper
use Rattle.rules.specs.Fractional as fractional
use Rattle.rules.proofs.Answers.{read-back}
use Rattle.refusals.specs.declared.Reason.{Reason}
use Rattle.refusals.specs.Paper.{reason_by, itself}
use Rattle.refusals.proofs.OneResult.{reason-one}
use Rattle.plans.specs.declared.Asked.{Asked}
use Rattle.plans.specs.declared.SinglePlan.{SinglePlan}
use Rattle.plans.specs.declared.FractionalPlan.{FractionalPlan}
use Rattle.plans.specs.declared.Verdict.{Verdict}
use Rattle.plans.specs.declared.Judged.{Judged}
use Rattle.plans.specs.Paper.{asked_paper, plan_paper, fractional_paper, verdict_paper, judged_by}

pub asked-one : (a b : Asked) → asked_paper a ≡ asked_paper b → a ≡ b
asked-one =
    read-back asked_paper
    (λ q. record { severity = q.severity; size = q.size; level = q.level; column = q.column }) (λ a. refl)

abbrev pub plan_back : paper.Plan → SinglePlan
plan_back p = record { letter = p.letter; n = p.n; ac = p.ac; table_n = p.table_n; cut = p.cut }

pub plan-one : (a b : SinglePlan) → plan_paper a ≡ plan_paper b → a ≡ b
plan-one a b e = ap plan_back e

abbrev pub fractional_back : fractional.FractionalPlan → FractionalPlan
fractional_back p = record { plan = plan_back p.plan; share = p.share }

pub fraction-one : (a b : FractionalPlan) → fractional_paper a ≡ fractional_paper b → a ≡ b
fraction-one a b e = ap fractional_back e

abbrev pub verdict_back : rules.Verdict → Verdict
verdict_back v =
    record { accepted = v.accepted; used = v.used; total = v.total; stage = v.stage; stages = v.stages }

pub verdict-one : (a b : Verdict) → verdict_paper a ≡ verdict_paper b → a ≡ b
verdict-one a b e = ap verdict_back e

-- a verdict beside a plan that its own paper tells
module _ {P A : Type 0} (plan_of : P → A) (back : A → P) (same : (p : P) → back (plan_of p) ≡ p) where
  abbrev pub judged_back : rules.Judged A rules.Verdict → Judged P
  judged_back j = record { plan = back j.plan; verdict = verdict_back j.verdict }

  pub judged-back : (j : Judged P) → judged_back (judged_by plan_of j) ≡ j
  judged-back j = ap (λ (p : P). record { plan = p; verdict = j.verdict }) (same j.plan)

  pub judged-one : (a b : Judged P) → judged_by plan_of a ≡ judged_by plan_of b → a ≡ b
  judged-one = read-back (judged_by plan_of) judged_back judged-back

-- the same of what may be refused
pub letter-one : (a b : Result ℕ Reason) → reason_by itself a ≡ reason_by itself b → a ≡ b
letter-one = reason-one itself itself (λ l. refl)

pub planned-one : (a b : Result SinglePlan Reason) → reason_by plan_paper a ≡ reason_by plan_paper b → a ≡ b
planned-one = reason-one plan_paper plan_back (λ p. refl)

pub fractional-planned-one : (a b : Result FractionalPlan Reason)
    → reason_by fractional_paper a ≡ reason_by fractional_paper b → a ≡ b
fractional-planned-one = reason-one fractional_paper fractional_back (λ p. refl)

-- of samples and readings too
pub verdict-answer-one : (a b : Result Verdict Reason) → reason_by verdict_paper a ≡ reason_by verdict_paper b → a ≡ b
verdict-answer-one = reason-one verdict_paper verdict_back (λ v. refl)
