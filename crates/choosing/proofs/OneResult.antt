-- Each promise of a public function admits one result, since the documents' answer tells the code's, where the plan's
-- own paper tells the plan.
-- Assumes nothing.
use Prim.Native.Nat.{ℕ}
use mathlib.Core.Path.{◌≡◌, refl, ap}
use mathlib.Core.List.{List, [], ◌∷◌}
use Rattle.std.specs.Prelude.{Result, map}
use Rattle.refusals.specs.declared.Reason.{Reason}
use Rattle.refusals.specs.declared.Refusal.{Refusal}
use Rattle.refusals.specs.Paper.{answer_by}
use Rattle.refusals.proofs.OneResult.{reason_back, reason-back, answer-one}
use Rattle.rules.specs.Refusals.{Answer, refused, given}
use Rattle.rules.specs.Staged as staged
use Rattle.rules.specs.Entries as rules
use Rattle.rules.proofs.Answers.{read-back}
use Rattle.plans.specs.declared.SinglePlan.{SinglePlan}
use Rattle.plans.specs.Paper.{plan_paper}
use Rattle.plans.proofs.OneResult.{plan_back}
use Rattle.entry.specs.declared.Stage.{Stage}
use Rattle.entry.specs.declared.StagedPlan.{StagedPlan}
use Rattle.entry.specs.declared.SequentialPlan.{SequentialPlan}
use Rattle.entry.specs.declared.VariablesPlan.{VariablesPlan}
use Rattle.entry.specs.declared.SidesPlan.{SidesPlan}
use Rattle.entry.specs.Paper.{staged_paper, sequential_paper, variables_paper, sides_paper}
use Rattle.entry.proofs.OneResult.{sequential_back, variables_back, sides_back}
use Rattle.choosing.specs.declared.Lettered.{Lettered}
use Rattle.choosing.specs.Paper.{refusal_paper, lettered_by}

refusal_back : Answer (Unit {0}) → Refusal
refusal_back (refused n p) = record { reason = reason_back n; place = p }
refusal_back (given x) = record { reason = reason_back 0; place = 0 }

-- of every refusal
pub refusal-one : (a b : Refusal) → refusal_paper a ≡ refusal_paper b → a ≡ b
unfolding refusal_back
refusal-one =
    read-back refusal_paper refusal_back
    (λ a. ap (λ (n : Reason). record { reason = n; place = a.place }) (reason-back a.reason))

-- of single_plan and curtailed_plan
pub single-planned-one : (a b : Result SinglePlan Refusal) → answer_by plan_paper a ≡ answer_by plan_paper b → a ≡ b
single-planned-one = answer-one plan_paper plan_back (λ p. refl)

module _ {P A : Type 0} (plan_of : P → A) (back : A → P) (same : (p : P) → back (plan_of p) ≡ p) where
  abbrev lettered_back : rules.Lettered A → Lettered P
  lettered_back x = record { letter = x.letter; plan = back x.plan }

  pub lettered-one : (a b : Result (Lettered P) Refusal)
      → answer_by (lettered_by plan_of) a ≡ answer_by (lettered_by plan_of) b → a ≡ b
  lettered-one =
      answer-one (lettered_by plan_of) lettered_back
      (λ x. ap (λ (p : P). record { letter = x.letter; plan = p }) (same x.plan))

-- the stages of their sizes, Ac and Re
abbrev stages_back : List ℕ → List ℕ → List ℕ → List Stage
stages_back (n ∷ ns) (a ∷ acs) (r ∷ res) = record { size = n; ac = a; re = r } ∷ stages_back ns acs res
stages_back _ _ _ = []

abbrev pub staged_back : staged.StagedPlan → StagedPlan
staged_back p = record { count = p.stages; stages = stages_back p.sizes p.acs p.res }

pub staged-back : (p : StagedPlan) → staged_back (staged_paper p) ≡ p
staged-back p = ap (λ (ss : List Stage). record { count = p.count; stages = ss }) (back p.stages)
  where
    back : (ss : List Stage)
        → stages_back (map (λ (s : Stage). s.size) ss) (map (λ (s : Stage). s.ac) ss) (map (λ (s : Stage). s.re) ss)
        ≡ ss
    back [] = refl
    back (s ∷ ss) = ap (λ (l : List Stage). s ∷ l) (back ss)

pub staged-planned-one : (a b : Result (Lettered StagedPlan) Refusal)
    → answer_by (lettered_by staged_paper) a ≡ answer_by (lettered_by staged_paper) b → a ≡ b
staged-planned-one = lettered-one staged_paper staged_back staged-back

pub sequential-planned-one : (a b : Result (Lettered SequentialPlan) Refusal)
    → answer_by (lettered_by sequential_paper) a ≡ answer_by (lettered_by sequential_paper) b → a ≡ b
sequential-planned-one = lettered-one sequential_paper sequential_back (λ p. refl)

-- of readings_plan too
pub variables-planned-one : (a b : Result (Lettered VariablesPlan) Refusal)
    → answer_by (lettered_by variables_paper) a ≡ answer_by (lettered_by variables_paper) b → a ≡ b
variables-planned-one = lettered-one variables_paper variables_back (λ p. refl)

pub sides-planned-one : (a b : Result SidesPlan Refusal)
    → answer_by sides_paper a ≡ answer_by sides_paper b → a ≡ b
sides-planned-one = answer-one sides_paper sides_back (λ p. refl)
