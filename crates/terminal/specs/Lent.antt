-- What a call promises, of the answer that a definition gives: the status that it returns, and what each out-parameter
-- and the lent memory hold then. A primed name is what stands at exit. Definitions only.
use Rattle.std.specs.Prelude.{ℕ, ◌*◌, ◌≤◌, ◌≡◌, Bool, false, not, List, ◌++◌, eqb, Float, length, drop}
use Rattle.rules.specs.Refusals.{Answer, refused, given, and_then}
use Rattle.rules.specs.Numbers.{number_bytes}
use Rattle.rules.specs.Book.{check_book, on_sound}
use Rattle.rules.specs.Verdict.{Verdict, Judged}
use Rattle.rules.specs.Single.{Plan}
use Rattle.rules.specs.Staged.{StagedPlan}
use Rattle.rules.specs.Sequential.{SequentialPlan}
use Rattle.rules.specs.Variables.{VariablesPlan}
use Rattle.rules.specs.Fractional.{FractionalPlan}
use Rattle.rules.specs.Supply.{Supply}
use Rattle.rules.specs.History.{ours, byte_of, listed, left_in}
use Rattle.rules.specs.Entries.{Asked, Offered, Lettered, Closed}
use Rattle.rules.specs.Screen.{Shown, mean, mean_and_variance}
use Rattle.rules.specs.Terminal.{status_of, wide_status_of, left_by, flag, record_bytes, bytes_of, into_row, row_left}

-- a lot by the numbers that a call names it with
abbrev pub asked : ℕ → ℕ → ℕ → ℕ → Asked
asked severity size level column = record { severity = severity; size = size; level = level; column = column }

abbrev pub offered : Bool → ℕ → ℕ → ℕ → Offered
offered again size level column = record { again = again; size = size; level = level; column = column }

-- a lot that is only judged
abbrev pub once : ℕ → ℕ → ℕ → Offered
once size level column = offered false size level column

-- 0 is an original lot, anything else a resubmitted one
abbrev pub again : ℕ → Bool
again resubmitted = not (eqb resubmitted 0)

-- one number: a letter, or how many entries there are
pub record NumberLeft (answer : Answer ℕ) (r number number' : ℕ) : Type 0 where
  pub status : r ≡ status_of answer
  pub number-left : number' ≡ left_by (λ n. n) answer number

-- a single plan, of whatever was planned
pub record SingleLeft {A : Type 0} (plan_of : A → Plan) (answer : Answer A)
    (r letter letter' n n' ac ac' table_n table_n' cut cut' : ℕ) : Type 0 where
  pub status : r ≡ status_of answer
  pub letter-left : letter' ≡ left_by (λ a. (plan_of a).letter) answer letter
  pub n-left : n' ≡ left_by (λ a. (plan_of a).n) answer n
  pub ac-left : ac' ≡ left_by (λ a. (plan_of a).ac) answer ac
  pub table_n-left : table_n' ≡ left_by (λ a. (plan_of a).table_n) answer table_n
  pub cut_left : cut' ≡ left_by (λ a. flag (plan_of a).cut) answer cut

abbrev pub PlanLeft : Answer Plan → ℕ → ℕ → ℕ → ℕ → ℕ → ℕ → ℕ → ℕ → ℕ → ℕ → ℕ → Type 0
PlanLeft = SingleLeft (λ p. p)

pub record FractionalPlanLeft (answer : Answer FractionalPlan)
    (r letter letter' n n' ac ac' share share' table_n table_n' cut cut' : ℕ) : Type 0 where
  pub single : SingleLeft (λ p. p.plan) answer r letter letter' n n' ac ac' table_n table_n' cut cut'
  pub share-left : share' ≡ left_by (λ p. p.share) answer share

-- the plan of an answer that has a letter too
abbrev pub plan_alone : {P : Type 0} → Answer (Lettered P) → Answer P
plan_alone answer = and_then answer (λ x. given x.plan)

pub record RowLeft (answer : Answer (Lettered StagedPlan)) (r letter letter' stages stages' : ℕ) (row row' : List ℕ) :
    Type 0 where
  pub status : r ≡ status_of answer
  pub letter-left : letter' ≡ left_by (λ x. x.letter) answer letter
  pub stages-left : stages' ≡ left_by (λ x. x.plan.stages) answer stages
  pub row-left : row' ≡ row_left (plan_alone answer) row

abbrev pub StagedPlanLeft : Answer (Lettered StagedPlan) → ℕ → ℕ → ℕ → ℕ → ℕ → List ℕ → List ℕ → Type 0
StagedPlanLeft answer r letter letter' stages stages' row row' =
    RowLeft (into_row (length row) answer) r letter letter' stages stages' row row'

pub record SequentialPlanLeft (answer : Answer (Lettered SequentialPlan))
    (r letter letter' ha ha' hr hr' g g' nt nt' at at' : ℕ) : Type 0 where
  pub status : r ≡ status_of answer
  pub letter-left : letter' ≡ left_by (λ x. x.letter) answer letter
  pub ha-left : ha' ≡ left_by (λ x. x.plan.h_a) answer ha
  pub hr-left : hr' ≡ left_by (λ x. x.plan.h_r) answer hr
  pub g-left : g' ≡ left_by (λ x. x.plan.g) answer g
  pub nt-left : nt' ≡ left_by (λ x. x.plan.nt) answer nt
  pub at_left : at' ≡ left_by (λ x. x.plan.at_nt) answer at

pub record VariablesPlanLeft (answer : Answer (Lettered VariablesPlan)) (r letter letter' n n' k k' : ℕ) : Type 0 where
  pub status : r ≡ status_of answer
  pub letter-left : letter' ≡ left_by (λ x. x.letter) answer letter
  pub n-left : n' ≡ left_by (λ x. x.plan.n) answer n
  pub k-left : k' ≡ left_by (λ x. x.plan.k) answer k

-- what is given says accepted or not, and the items or readings used
pub record OutcomeLeft {A : Type 0} (verdict_of : A → Verdict) (answer : Answer A)
    (r accepted accepted' used used' : ℕ) : Type 0 where
  pub status : r ≡ status_of answer
  pub accepted-left : accepted' ≡ left_by (λ a. flag (verdict_of a).accepted) answer accepted
  pub used-left : used' ≡ left_by (λ a. (verdict_of a).used) answer used

abbrev pub VerdictLeft : {P : Type 0} → Answer (Judged P Verdict) → ℕ → ℕ → ℕ → ℕ → ℕ → Type 0
VerdictLeft = OutcomeLeft (λ j. j.verdict)

pub record ClosedLeft {P : Type 0} (answer : Answer (Closed P)) (r : ℕ) (bytes bytes' : List ℕ)
    (accepted accepted' used used' byte byte' : ℕ) : Type 0 where
  pub outcome : OutcomeLeft (λ c. c.judged.verdict) answer r accepted accepted' used used'
  pub bytes_left : bytes' ≡ left_by (λ c. bytes_of c.supply_after) answer bytes
  pub byte_left : byte' ≡ left_by (λ c. byte_of c.event) answer byte

-- What is told has room: a place up to 32,768, up to 14,000 items or readings used, and a lent record of ten bytes.
abbrev pub VerdictFits : {P : Type 0} → Answer (Judged P Verdict) → Type 0
VerdictFits (refused n p) = p ≤ 32768
VerdictFits (given j) = j.verdict.used ≤ 14000

abbrev pub ClosedFits : {P : Type 0} → Answer (Closed P) → List ℕ → Type 0
ClosedFits (refused n p) bytes = p ≤ 32768
ClosedFits (given c) bytes = (c.judged.verdict.used ≤ 14000) × (length bytes ≡ record_bytes)

pub record NextLeft (answer : Answer Supply) (r : ℕ) (bytes bytes' : List ℕ) : Type 0 where
  pub status : r ≡ status_of answer
  pub bytes_left : bytes' ≡ left_by bytes_of answer bytes

pub record ListLeft (history : List ℕ) (r : ℕ) (severities severities' : List ℕ) : Type 0 where
  pub status : r ≡ wide_status_of (listed ours history (length severities))
  pub severities-left : severities' ≡ left_in (listed ours history (length severities)) ours history severities

-- a book that is sound, or 12 with its byte
abbrev pub book_checked : List ℕ → Answer (Unit {0})
book_checked book = on_sound (check_book book) (given tt)

-- a book that is written, its bytes past it as they were, and how many bytes it has
pub record WrittenLeft (answer : Answer (List ℕ)) (r : ℕ) (out out' : List ℕ) (written written' : ℕ) : Type 0 where
  pub status : r ≡ status_of answer
  pub out-left : out' ≡ left_by (λ b. b ++ drop (length b) out) answer out
  pub written-left : written' ≡ left_by length answer written

-- an entry as a row, the rest of the lent memory as it was, and how many numbers the row has
pub record EntryLeft (answer : Answer (List ℕ)) (r : ℕ) (row row' : List ℕ) (numbers numbers' : ℕ) : Type 0 where
  pub status : r ≡ status_of answer
  pub row-left : row' ≡ left_by (λ x. number_bytes x ++ drop (2 * length x) row) answer row
  pub numbers-left : numbers' ≡ left_by length answer numbers

abbrev pub mean_of : Shown → Float
mean_of (mean m) = m
mean_of (mean_and_variance m v) = m

-- "A single reading has a mean and no variance": its place stays as it was
abbrev pub variance_over : Float → Shown → Float
variance_over before (mean m) = before
variance_over before (mean_and_variance m v) = v

-- 1 where there is a variance
abbrev pub both_of : Shown → ℕ
both_of (mean m) = 0
both_of (mean_and_variance m v) = 1

pub record ScreenLeft (answer : Answer Shown) (r : ℕ) (mean mean' variance variance' : Float) (both both' : ℕ) : Type 0
  where
    pub status : r ≡ status_of answer
    pub mean-left : mean' ≡ left_by mean_of answer mean
    pub variance-left : variance' ≡ left_by (variance_over variance) answer variance
    pub both_left : both' ≡ left_by both_of answer both
