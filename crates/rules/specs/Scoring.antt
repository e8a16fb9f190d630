-- How a closed lot counts, as documents 01 and 02 say it: its points at normal, and what it counts elsewhere.
-- Definitions only.
use Rattle.std.specs.Prelude.{ℕ, ◌≤◌, ◌<◌, ◌≡◌, Bool, true, false}
use Rattle.rules.specs.Codes.{normal}
use Rattle.rules.specs.Staged.{StagedPlan}
use Rattle.rules.specs.Severity.{Lot, add_three, add_two, score_zero, not_accepted, sampled, lot}
use Rattle.rules.specs.Entries.{Closed}

-- "Ac 2 or more: add 3 if the total is also within the Ac one column tighter .., else score 0. Ac 0 or 1: add 2."
pub record SinglePoints (ac tighter total : ℕ) (l : Lot) : Type 0 where
  pub low-ac : ac ≤ 1 → l ≡ add_two
  pub within-tighter : 2 ≤ ac → total ≤ tighter → l ≡ add_three
  pub beyond-tighter : 2 ≤ ac → tighter < total → l ≡ score_zero

-- "Staged: add 3 if accepted at the first stage, else score 0." Document 02, T-02: "That's right for two stages. For
-- three or more, add 3 when accepted at stage 1, 2 or 3, else score 0."
pub record StagedPoints (stage stages : ℕ) (l : Lot) : Type 0 where
  pub first-of-two : stages ≤ 2 → stage ≡ 1 → l ≡ add_three
  pub later-of-two : stages ≤ 2 → (stage ≡ 1 → ⊥) → l ≡ score_zero
  pub by-third : 3 ≤ stages → 1 ≤ stage → stage ≤ 3 → l ≡ add_three
  pub past-third : 3 ≤ stages → 3 < stage → l ≡ score_zero
  -- a stage that no plan has
  pub before-first : 3 ≤ stages → stage ≡ 0 → l ≡ score_zero

-- How a lot counts that is closed under a severity: only normal keeps a score.
pub record Counts (severity : ℕ) (accepted : Bool) (Points : Lot → Type 0) (l : Lot) : Type 0 where
  pub rejected : accepted ≡ false → l ≡ not_accepted
  pub without-score : accepted ≡ true → (severity ≡ normal → ⊥) → l ≡ score_zero
  pub with-score : accepted ≡ true → severity ≡ normal → Points l

-- An original lot closed in stages, as it enters its record: by the stage that its verdict tells, among the two to
-- seven of its plan.
pub record EntersByStage (severity : ℕ) (c : Closed StagedPlan) : Type 0 where
  pub few : (2 ≤ c.judged.plan.stages) × (c.judged.plan.stages ≤ 7)
  pub among : (1 ≤ c.judged.verdict.stage) × (c.judged.verdict.stage ≤ c.judged.plan.stages)
  pub counts : Lot
  pub enters : c.event ≡ lot sampled counts
  pub as-said : Counts severity c.judged.verdict.accepted
      (StagedPoints c.judged.verdict.stage c.judged.plan.stages)
      counts
