-- Each promise of the terminal admits one status and one state of the memory that is lent.
-- Assumes nothing.
use Prim.Native.Nat.{ℕ}
use mathlib.Core.Path.{◌≡◌, sym, ◌∙◌}
use mathlib.Core.List.{List}
use lib.Ieee.{Float}
use Rattle.rules.specs.Refusals.{Answer}
use Rattle.rules.specs.Verdict.{Verdict}
use Rattle.rules.specs.Single.{Plan}
use Rattle.rules.specs.Staged.{StagedPlan}
use Rattle.rules.specs.Sequential.{SequentialPlan}
use Rattle.rules.specs.Variables.{VariablesPlan}
use Rattle.rules.specs.Fractional.{FractionalPlan}
use Rattle.rules.specs.Supply.{Supply}
use Rattle.rules.specs.Entries.{Lettered, Closed}
use Rattle.rules.specs.Screen.{Shown}
use Rattle.terminal.specs.Lent.{SingleLeft, FractionalPlanLeft}
use Rattle.terminal.specs.Lent.{NumberLeft, StagedPlanLeft, SequentialPlanLeft, VariablesPlanLeft}
use Rattle.terminal.specs.Lent.{OutcomeLeft, ClosedLeft, NextLeft, ListLeft, WrittenLeft, EntryLeft, ScreenLeft}

-- a promise that gives what stands at exit outright gives one (and so of hm_check_book)
pub one : {A : Type 0} {x y v : A} → x ≡ v → y ≡ v → x ≡ y
one e f = e ∙ sym f

-- of hm_letter and hm_count_entries
pub number-one : {a : Answer ℕ} {l r l₁ s l₂ : ℕ} → NumberLeft a r l l₁ → NumberLeft a s l l₂
    → (r ≡ s) × (l₁ ≡ l₂)
number-one c d = (one c.status d.status, one c.number-left d.number-left)

-- of hm_plan
pub plan-one : {A : Type 0} {plan_of : A → Plan} {a : Answer A} {l n k t c r l₁ n₁ k₁ t₁ c₁ s l₂ n₂ k₂ t₂ c₂ : ℕ}
    → SingleLeft plan_of a r l l₁ n n₁ k k₁ t t₁ c c₁ → SingleLeft plan_of a s l l₂ n n₂ k k₂ t t₂ c c₂
    → (r ≡ s) × (l₁ ≡ l₂) × (n₁ ≡ n₂) × (k₁ ≡ k₂) × (t₁ ≡ t₂) × (c₁ ≡ c₂)
plan-one c d = (
  one c.status d.status,
  one c.letter-left d.letter-left,
  one c.n-left d.n-left,
  one c.ac-left d.ac-left,
  one c.table_n-left d.table_n-left,
  one c.cut_left d.cut_left,
)

-- of hm_fractional_plan
pub fractional-plan-one : {a : Answer FractionalPlan}
    {l n k h t c r l₁ n₁ k₁ h₁ t₁ c₁ s l₂ n₂ k₂ h₂ t₂ c₂ : ℕ}
    → FractionalPlanLeft a r l l₁ n n₁ k k₁ h h₁ t t₁ c c₁ → FractionalPlanLeft a s l l₂ n n₂ k k₂ h h₂ t t₂ c c₂
    → ((r ≡ s) × (l₁ ≡ l₂) × (n₁ ≡ n₂) × (k₁ ≡ k₂) × (t₁ ≡ t₂) × (c₁ ≡ c₂)) × (h₁ ≡ h₂)
fractional-plan-one c d = (plan-one c.single d.single, one c.share-left d.share-left)

-- of hm_staged_plan
pub staged-plan-one : (a : Answer (Lettered StagedPlan)) {l k r l₁ k₁ s l₂ k₂ : ℕ} {row row₁ row₂ : List ℕ}
    → StagedPlanLeft a r l l₁ k k₁ row row₁ → StagedPlanLeft a s l l₂ k k₂ row row₂
    → (r ≡ s) × (l₁ ≡ l₂) × (k₁ ≡ k₂) × (row₁ ≡ row₂)
staged-plan-one a c d = (
  one c.status d.status,
  one c.letter-left d.letter-left,
  one c.stages-left d.stages-left,
  one c.row-left d.row-left,
)

-- of hm_sequential_plan
pub sequential-plan-one : {a : Answer (Lettered SequentialPlan)}
    {l u v g n t r l₁ u₁ v₁ g₁ n₁ t₁ s l₂ u₂ v₂ g₂ n₂ t₂ : ℕ}
    → SequentialPlanLeft a r l l₁ u u₁ v v₁ g g₁ n n₁ t t₁ → SequentialPlanLeft a s l l₂ u u₂ v v₂ g g₂ n n₂ t t₂
    → (r ≡ s) × (l₁ ≡ l₂) × (u₁ ≡ u₂) × (v₁ ≡ v₂) × (g₁ ≡ g₂) × (n₁ ≡ n₂) × (t₁ ≡ t₂)
sequential-plan-one c d = (
  one c.status d.status,
  one c.letter-left d.letter-left,
  one c.ha-left d.ha-left,
  one c.hr-left d.hr-left,
  one c.g-left d.g-left,
  one c.nt-left d.nt-left,
  one c.at_left d.at_left,
)

-- of hm_variables_plan
pub variables-plan-one : {a : Answer (Lettered VariablesPlan)} {l n k r l₁ n₁ k₁ s l₂ n₂ k₂ : ℕ}
    → VariablesPlanLeft a r l l₁ n n₁ k k₁ → VariablesPlanLeft a s l l₂ n n₂ k k₂
    → (r ≡ s) × (l₁ ≡ l₂) × (n₁ ≡ n₂) × (k₁ ≡ k₂)
variables-plan-one c d = (
  one c.status d.status,
  one c.letter-left d.letter-left,
  one c.n-left d.n-left,
  one c.k-left d.k-left,
)

-- of hm_single, hm_curtailed, hm_staged, hm_sequential, hm_fractional, and of the six for readings
pub verdict-one : {A : Type 0} {verdict_of : A → Verdict} {a : Answer A} {b u r b₁ u₁ s b₂ u₂ : ℕ}
    → OutcomeLeft verdict_of a r b b₁ u u₁ → OutcomeLeft verdict_of a s b b₂ u u₂ → (r ≡ s) × (b₁ ≡ b₂) × (u₁ ≡ u₂)
verdict-one c d = (
  one c.status d.status,
  one c.accepted-left d.accepted-left,
  one c.used-left d.used-left,
)

-- of hm_close_single, hm_close_curtailed, hm_close_staged and hm_close_fractional
pub closed-one : {P : Type 0} {a : Answer (Closed P)} {m m₁ m₂ : List ℕ} {b u k r b₁ u₁ k₁ s b₂ u₂ k₂ : ℕ}
    → ClosedLeft a r m m₁ b b₁ u u₁ k k₁ → ClosedLeft a s m m₂ b b₂ u u₂ k k₂
    → ((r ≡ s) × (b₁ ≡ b₂) × (u₁ ≡ u₂)) × (m₁ ≡ m₂) × (k₁ ≡ k₂)
closed-one c d = (
  verdict-one c.outcome d.outcome,
  one c.bytes_left d.bytes_left,
  one c.byte_left d.byte_left,
)

-- of hm_next
pub next-one : {a : Answer Supply} {r s : ℕ} {m m₁ m₂ : List ℕ} → NextLeft a r m m₁ → NextLeft a s m m₂
    → (r ≡ s) × (m₁ ≡ m₂)
next-one c d = (one c.status d.status, one c.bytes_left d.bytes_left)

-- of hm_list
pub list-one : {h : List ℕ} {r s : ℕ} {m m₁ m₂ : List ℕ} → ListLeft h r m m₁ → ListLeft h s m m₂
    → (r ≡ s) × (m₁ ≡ m₂)
list-one c d = (one c.status d.status, one c.severities-left d.severities-left)

-- of hm_screen
pub screen-one : {a : Answer Shown} {r s b b₁ b₂ : ℕ} {m v m₁ v₁ m₂ v₂ : Float} → ScreenLeft a r m m₁ v v₁ b b₁
    → ScreenLeft a s m m₂ v v₂ b b₂ → (r ≡ s) × (m₁ ≡ m₂) × (v₁ ≡ v₂) × (b₁ ≡ b₂)
screen-one c d = (
  one c.status d.status,
  one c.mean-left d.mean-left,
  one c.variance-left d.variance-left,
  one c.both_left d.both_left,
)

-- of hm_write_book
pub written-one : {a : Answer (List ℕ)} {r w₁ s w₂ w : ℕ} {out out₁ out₂ : List ℕ}
    → WrittenLeft a r out out₁ w w₁ → WrittenLeft a s out out₂ w w₂ → (r ≡ s) × (out₁ ≡ out₂) × (w₁ ≡ w₂)
written-one c d =
    (one c.status d.status, one c.out-left d.out-left, one c.written-left d.written-left)

-- of hm_read_entry
pub entry-one : {a : Answer (List ℕ)} {r n₁ s n₂ n : ℕ} {row row₁ row₂ : List ℕ}
    → EntryLeft a r row row₁ n n₁ → EntryLeft a s row row₂ n n₂ → (r ≡ s) × (row₁ ≡ row₂) × (n₁ ≡ n₂)
entry-one c d =
    (one c.status d.status, one c.row-left d.row-left, one c.numbers-left d.numbers-left)
