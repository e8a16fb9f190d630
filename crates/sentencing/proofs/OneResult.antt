-- Each promise of a public function admits one result, since the documents' answer tells the code's, where the plan's
-- own paper tells the plan. Those of plans stand in choosing.
-- Assumes nothing.
use mathlib.Core.Path.{◌≡◌, refl}
use Rattle.std.specs.Prelude.{Result}
use Rattle.refusals.specs.declared.Refusal.{Refusal}
use Rattle.refusals.specs.Paper.{answer_by}
use Rattle.refusals.proofs.OneResult.{answer-one}
use Rattle.plans.specs.declared.SinglePlan.{SinglePlan}
use Rattle.plans.specs.declared.FractionalPlan.{FractionalPlan}
use Rattle.plans.specs.declared.Judged.{Judged}
use Rattle.plans.specs.Paper.{plan_paper, fractional_paper, judged_by}
use Rattle.plans.proofs.OneResult.{plan_back, fractional_back, judged_back, judged-back}
use Rattle.entry.specs.declared.StagedPlan.{StagedPlan}
use Rattle.entry.specs.declared.SequentialPlan.{SequentialPlan}
use Rattle.entry.specs.declared.VariablesPlan.{VariablesPlan}
use Rattle.entry.specs.declared.SidesPlan.{SidesPlan}
use Rattle.entry.specs.Paper.{staged_paper, sequential_paper, variables_paper, sides_paper}
use Rattle.entry.proofs.OneResult.{sequential_back, variables_back, sides_back}
use Rattle.choosing.proofs.OneResult.{staged_back, staged-back}
use Rattle.closing.specs.declared.Closed.{Closed}
use Rattle.closing.specs.Paper.{closed_by}
use Rattle.closing.proofs.OneResult.{closed-one}

pub fractional-planned-one : (a b : Result FractionalPlan Refusal)
    → answer_by fractional_paper a ≡ answer_by fractional_paper b → a ≡ b
fractional-planned-one = answer-one fractional_paper fractional_back (λ p. refl)

module _ {P A : Type 0} (plan_of : P → A) (back : A → P) (same : (p : P) → back (plan_of p) ≡ p) where
  judged-one : (a b : Result (Judged P) Refusal)
      → answer_by (judged_by plan_of) a ≡ answer_by (judged_by plan_of) b → a ≡ b
  judged-one = answer-one (judged_by plan_of) (judged_back plan_of back same) (judged-back plan_of back same)

pub single-judged-one : (a b : Result (Judged SinglePlan) Refusal)
    → answer_by (judged_by plan_paper) a ≡ answer_by (judged_by plan_paper) b → a ≡ b
single-judged-one = judged-one plan_paper plan_back (λ p. refl)

pub staged-judged-one : (a b : Result (Judged StagedPlan) Refusal)
    → answer_by (judged_by staged_paper) a ≡ answer_by (judged_by staged_paper) b → a ≡ b
staged-judged-one = judged-one staged_paper staged_back staged-back

pub sequential-judged-one : (a b : Result (Judged SequentialPlan) Refusal)
    → answer_by (judged_by sequential_paper) a ≡ answer_by (judged_by sequential_paper) b → a ≡ b
sequential-judged-one = judged-one sequential_paper sequential_back (λ p. refl)

pub variables-judged-one : (a b : Result (Judged VariablesPlan) Refusal)
    → answer_by (judged_by variables_paper) a ≡ answer_by (judged_by variables_paper) b → a ≡ b
variables-judged-one = judged-one variables_paper variables_back (λ p. refl)

pub sides-judged-one : (a b : Result (Judged SidesPlan) Refusal)
    → answer_by (judged_by sides_paper) a ≡ answer_by (judged_by sides_paper) b → a ≡ b
sides-judged-one = judged-one sides_paper sides_back (λ p. refl)

pub fractional-judged-one : (a b : Result (Judged FractionalPlan) Refusal)
    → answer_by (judged_by fractional_paper) a ≡ answer_by (judged_by fractional_paper) b → a ≡ b
fractional-judged-one = judged-one fractional_paper fractional_back (λ p. refl)

-- of close_single and close_curtailed
pub single-closed-one : (a b : Result (Closed SinglePlan) Refusal)
    → answer_by (closed_by plan_paper) a ≡ answer_by (closed_by plan_paper) b → a ≡ b
single-closed-one = closed-one plan_paper plan_back (λ p. refl)

pub staged-closed-one : (a b : Result (Closed StagedPlan) Refusal)
    → answer_by (closed_by staged_paper) a ≡ answer_by (closed_by staged_paper) b → a ≡ b
staged-closed-one = closed-one staged_paper staged_back staged-back

pub fractional-closed-one : (a b : Result (Closed FractionalPlan) Refusal)
    → answer_by (closed_by fractional_paper) a ≡ answer_by (closed_by fractional_paper) b → a ≡ b
fractional-closed-one = closed-one fractional_paper fractional_back (λ p. refl)
