-- Document 01, "The verdict gives the items used": what judging a sample says. Definitions only.
use Rattle.std.specs.Prelude.{ℕ, Bool, true, false, cond, List, [], ◌∷◌}
use Rattle.rules.specs.Refusals.{Answer, refused, given, wrong_length}

-- A verdict on a sample: accepted or not, the items or readings used, the total of the items, the stage that decided,
-- and how many stages the plan has (one, where it is not staged).
pub record Verdict : Type 0 where
  pub accepted : Bool
  pub used : ℕ
  pub total : ℕ
  pub stage : ℕ
  pub stages : ℕ

-- A lot that was judged: the plan that it was judged on, and the verdict.
pub record Judged (Plan Outcome : Type 0) : Type 0 where
  pub plan : Plan
  pub verdict : Outcome

-- What comparing a running total says.
pub data Decision : Type 0 where
  accepts : Decision
  rejects : Decision
  goes_on : Decision

-- "The sample must end at the very item (sequential) or stage (staged) that decides": anything left, half an item
-- too, is a sample of wrong length.
abbrev pub ended : Bool → List ℕ → Verdict → Answer Verdict
ended half [] v = cond half (refused wrong_length 0) (given v)
ended half (x ∷ rest) v = refused wrong_length 0

-- the verdict where the comparison decides, else what comes later
abbrev pub decided : Decision → (Bool → Answer Verdict) → Answer Verdict → Answer Verdict
decided accepts verdict later = verdict true
decided rejects verdict later = verdict false
decided goes_on verdict later = later
