-- Document 01, 'Staged and sequential samples', the staged ones. Definitions only.
use Rattle.std.specs.Prelude.{ℕ, zero, suc, ◌+◌, Bool, cond, ◌&&◌, not, List, [], ◌∷◌, leb, eqb, get_or}
use Rattle.rules.specs.Refusals.{Answer, refused, wrong_length, illegal_item}
use Rattle.rules.specs.Numbers.{numbers_of, half_left}
use Rattle.rules.specs.Codes.{illegal}
use Rattle.rules.specs.Verdict.{Verdict, Decision, accepts, rejects, goes_on, ended, decided}

pub record Stage : Type 0 where
  pub size : ℕ
  pub ac : ℕ
  pub re : ℕ

-- "The stages are few, 2 to 7 of them, and travel with their plan": sizes, Ac and Re, seven places each, 0 past the
-- plan's stages.
pub record StagedPlan : Type 0 where
  pub stages : ℕ
  pub sizes : List ℕ
  pub acs : List ℕ
  pub res : List ℕ

abbrev pub stage_at : StagedPlan → ℕ → Stage
stage_at p i = record { size = get_or p.sizes i 0; ac = get_or p.acs i 0; re = get_or p.res i 0 }

-- k stages, from the place i on
unfoldable pub stages_from : ℕ → ℕ → StagedPlan → List Stage
stages_from zero i p = []
stages_from (suc k) i p = stage_at p i ∷ stages_from k (suc i) p

abbrev pub stages_of : StagedPlan → List Stage
stages_of p = stages_from p.stages 0 p

unfoldable pub total_size : List Stage → ℕ
total_size [] = 0
total_size (s ∷ ss) = s.size + total_size ss

-- "Mark 65,535 as Ac means no acceptance at that stage."
abbrev pub mark : ℕ
mark = 65535

-- "At most Ac accepts, at least Re rejects, else go on."
unfoldable pub stage_decides : Stage → ℕ → Decision
stage_decides s total =
    cond (not (eqb s.ac mark) && leb total s.ac) accepts (cond (leb s.re total) rejects goes_on)

-- A stage's items: one is missing or half there, one is illegal, or the running total and the items that follow.
pub data Taken : Type 0 where
  missing : Taken
  over : Taken
  taken : ℕ → List ℕ → Taken

unfoldable pub take_items : ℕ → ℕ → ℕ → List ℕ → Taken
take_items column zero total items = taken total items
take_items column (suc k) total [] = missing
take_items column (suc k) total (x ∷ items) = cond (illegal column x) over (take_items column k (total + x) items)

-- where the walk stands: the stages of the plan, the present one counted from 1, the items used
pub record Standing : Type 0 where
  pub stages : ℕ
  pub stage : ℕ
  pub used : ℕ

abbrev pub staged_verdict : Standing → ℕ → Bool → Verdict
staged_verdict at total accepted =
    record { accepted = accepted; used = at.used; total = total; stage = at.stage; stages = at.stages }

abbrev pub after_stage : Bool → Taken → Stage → Standing → (ℕ → List ℕ → Answer Verdict) → Answer Verdict
after_stage half missing s at later = refused wrong_length 0
after_stage half over s at later = refused illegal_item 0
after_stage half (taken total rest) s at later =
    decided (stage_decides s total) (λ accepted. ended half rest (staged_verdict at total accepted)) (later total rest)

-- the next stage, with its items
abbrev pub further : Standing → Stage → Standing
further at s = record { stages = at.stages; stage = suc at.stage; used = at.used + s.size }

-- "after each stage compare the running total"; the walk goes item by item and "reports whichever of 7 and 8 it meets
-- first"
unfoldable pub staged_from : ℕ → Bool → List Stage → Standing → ℕ → List ℕ → Answer Verdict
staged_from column half [] at total items = refused wrong_length 0
staged_from column half (s ∷ ss) at total items =
    after_stage half (take_items column s.size total items) s (further at s) (staged_from column half ss (further at s))

unfoldable pub judge_stages : ℕ → StagedPlan → List ℕ → Answer Verdict
judge_stages column plan bytes =
    staged_from column (half_left bytes) (stages_of plan) (record { stages = plan.stages; stage = 0; used = 0 }) 0
    (numbers_of bytes)
