-- What demand 2 says of a sample, with no walk in it: which samples are judged, with which verdict, and by which number
-- the others are refused. Definitions only.
use Rattle.std.specs.Prelude.{ℕ, suc, ◌*◌, ◌≤◌, ◌<◌, ◌≡◌, ◌↔◌, ◌⊎◌, Bool, true, false, cond, List, ◌++◌, leb, ℤ, pos}
use Rattle.std.specs.Prelude.{◌-ℤ◌, ◌*ℤ◌, length, get_or, take}
use Rattle.std.specs.Int.Signed.{le_z}
use Rattle.rules.specs.Numbers.{numbers_of, sum_of}
use Rattle.rules.specs.Codes.{illegal, any_illegal}
use Rattle.rules.specs.Verdict.{Verdict, Decision, accepts, rejects, goes_on}
use Rattle.rules.specs.Single.{Plan}
use Rattle.rules.specs.Fractional.{FractionalPlan}
use Rattle.rules.specs.Staged.{StagedPlan, stage_at, stages_from, total_size, stage_decides}
use Rattle.rules.specs.Sequential.{SequentialPlan, item_decides}
use Rattle.rules.specs.Variables.{in_gauge, readings_of, accepts_readings, sum_z, squares_z}
use Rattle.rules.specs.Limits.{Spread, estimated, known, Limits, one, both, SidesPlan}
use Rattle.rules.specs.Screen.{Shown, shown_of}
use Rattle.rules.specs.Reporting.{Row, NoRow}

-- An "item over 1 where items are 0 or 1", at a place.
pub record IllegalAt (column : ℕ) (xs : List ℕ) : Type 0 where
  pub place : ℕ
  pub there : place < length xs
  pub counts : column ≤ 15
  pub too_much : 1 < get_or xs place 0

abbrev pub says : Bool → Decision
says accepted = cond accepted accepts rejects

-- A single sample. 7 where it is not exactly the plan's n items, 8 for an item over 1 where items are 0 or 1.
abbrev pub ItemRows : ℕ → List ℕ → Plan → ℕ → Type 0
ItemRows column sample plan =
    Row 7 (length sample ≡ 2 * plan.n → ⊥) (Row 8 (IllegalAt column (numbers_of sample)) NoRow)

pub record ItemsJudged (column : ℕ) (sample : List ℕ) (plan : Plan) (v : Verdict) : Type 0 where
  pub whole : length sample ≡ 2 * plan.n
  pub legal : IllegalAt column (numbers_of sample) → ⊥
  pub verdict :
      record {
        accepted = leb (sum_of (numbers_of sample)) plan.ac;
        used = plan.n;
        total = sum_of (numbers_of sample);
        stage = 1;
        stages = 1;
      }
      ≡ v

-- Document 02, T-04: of these items the first k are read. "stops at the item where the total passes Ac": no earlier
-- item is one, and "The sample lent ends at the deciding item, or at n."
pub record StopsAfter (column : ℕ) (plan : Plan) (items : List ℕ) (k : ℕ) : Type 0 where
  pub there : k ≤ length items
  pub within : k ≤ plan.n
  pub legal : any_illegal column (take k items) ≡ false
  pub earlier : (i : ℕ) → i < k → sum_of (take i items) ≤ plan.ac
  pub ends : (plan.ac < sum_of (take k items)) ⊎ (k ≡ plan.n)

-- A curtailed sample is all read, and its verdict. "its items used .. are the items read"
pub record CurtailedJudged (column : ℕ) (sample : List ℕ) (plan : Plan) (v : Verdict) : Type 0 where
  pub whole : length sample ≡ 2 * length (numbers_of sample)
  pub stops : StopsAfter column plan (numbers_of sample) (length (numbers_of sample))
  pub verdict :
      record {
        accepted = leb (sum_of (numbers_of sample)) plan.ac;
        used = length (numbers_of sample);
        total = sum_of (numbers_of sample);
        stage = 1;
        stages = 1;
      }
      ≡ v

-- "7 when the sample ends before", at an item that is missing or half there, "or goes on past its end", were it by half
-- an item.
pub data WrongEnd (column : ℕ) (plan : Plan) (sample : List ℕ) : Type 0 where
  ends-before : length (numbers_of sample) < plan.n → any_illegal column (numbers_of sample) ≡ false
      → sum_of (numbers_of sample) ≤ plan.ac → WrongEnd column plan sample
  goes-past : (k : ℕ) → StopsAfter column plan (numbers_of sample) k → 2 * k < length sample
      → WrongEnd column plan sample

-- The walk meets an illegal item: it is the first, and the items before it do not end the sample. No sample has both a
-- wrong end and such an item, so that the lowest number is the one that is met first.
pub record MeetsIllegal (column : ℕ) (plan : Plan) (items : List ℕ) : Type 0 where
  pub place : ℕ
  pub there : place < length items
  pub reached : place < plan.n
  pub legal-before : any_illegal column (take place items) ≡ false
  pub illegal-there : illegal column (get_or items place 0) ≡ true
  pub undecided : sum_of (take place items) ≤ plan.ac

abbrev pub CurtailedRows : ℕ → List ℕ → Plan → ℕ → Type 0
CurtailedRows column sample plan =
    Row 7 (WrongEnd column plan sample) (Row 8 (MeetsIllegal column plan (numbers_of sample)) NoRow)

-- "every legal full sample that begins so"
pub record Begins (sample full : List ℕ) : Type 0 where
  pub rest : List ℕ
  pub joined : sample ++ rest ≡ full

pub record LegalFull (column : ℕ) (plan : Plan) (full : List ℕ) : Type 0 where
  pub whole : length full ≡ 2 * plan.n
  pub legal : IllegalAt column (numbers_of full) → ⊥

-- "Accepted or not .. equal those of the full count"; "the score needs the total", and an accepted sample has the full
-- count's whole verdict.
pub record SameVerdict (curtailed full : Verdict) : Type 0 where
  pub same-accepted : curtailed.accepted ≡ full.accepted
  pub same-when-accepted : curtailed.accepted ≡ true → curtailed ≡ full

-- "its items used .. are the items read: the deciding item, or n when accepted. It must not stop early to accept": in a
-- full sample that begins so, no item before the last of them passes Ac, and of a lost lot that one does.
pub record UsedAs (plan : Plan) (sample full : List ℕ) (v : Verdict) : Type 0 where
  pub read : length sample ≡ 2 * v.used
  pub n-when-accepted : v.accepted ≡ true → v.used ≡ plan.n
  pub deciding : v.accepted ≡ false → plan.ac < sum_of (take v.used (numbers_of full))
  pub none-earlier : (i : ℕ) → i < v.used → sum_of (take i (numbers_of full)) ≤ plan.ac

-- "whichever of 7 and 8 it meets first", by beginnings alone: there is an illegal item, and neither the sample nor a
-- beginning of it is answered.
pub record IllegalFirst (column : ℕ) (Answered : List ℕ → Type 0) (sample : List ℕ) : Type 0 where
  pub illegal-item : IllegalAt column (numbers_of sample)
  pub none-answered : (part : List ℕ) → Begins part sample → Answered part → ⊥

-- One beginning of a full sample, and no other, is answered.
pub record OneBeginning (Answered : List ℕ → Type 0) (full : List ℕ) : Type 0 where
  pub sample : List ℕ
  pub begins : Begins sample full
  pub is-answered : Answered sample
  pub no_other : (other : List ℕ) → Begins other full → Answered other → other ≡ sample

-- A staged or sequential sample: 8 for an illegal item that a walk meets; 7 where it meets none and there is no
-- verdict.
abbrev pub SampleRows : (Verdict → Type 0) → Type 0 → ℕ → Type 0
SampleRows Ends Meeting = Row 7 ((Meeting → ⊥) × ((v : Verdict) → Ends v → ⊥)) (Row 8 Meeting NoRow)

-- A sequential sample, and its verdict: "accept when .., reject when .."; "Each item is 0 or 1"; "The sample must end
-- at the very item .. that decides."
pub record EndsAtItem (p : SequentialPlan) (sample : List ℕ) (v : Verdict) : Type 0 where
  pub whole : length sample ≡ 2 * length (numbers_of sample)
  pub some : 0 < length (numbers_of sample)
  pub legal : IllegalAt 0 (numbers_of sample) → ⊥
  pub last : item_decides p (length (numbers_of sample)) (sum_of (numbers_of sample)) ≡ says v.accepted
  pub earlier : (i : ℕ) → 0 < i → i < length (numbers_of sample)
      → item_decides p i (sum_of (take i (numbers_of sample))) ≡ goes_on
  pub verdict :
      record {
        accepted = v.accepted;
        used = length (numbers_of sample);
        total = sum_of (numbers_of sample);
        stage = 1;
        stages = 1;
      }
      ≡ v

-- A sequential walk meets an item over 1 before any item decides.
pub record MeetsItem (p : SequentialPlan) (sample : List ℕ) : Type 0 where
  pub place : ℕ
  pub there : place < length (numbers_of sample)
  pub legal-before : any_illegal 0 (take place (numbers_of sample)) ≡ false
  pub too_much : 1 < get_or (numbers_of sample) place 0
  pub undecided : (i : ℕ) → 0 < i → i ≤ place → item_decides p i (sum_of (take i (numbers_of sample))) ≡ goes_on

-- The items of the first j stages.
abbrev pub size_of_first : ℕ → StagedPlan → ℕ
size_of_first j plan = total_size (stages_from j 0 plan)

-- A staged sample, and its verdict: "after each stage compare the running total"; "The sample must end at the very ..
-- stage .. that decides."
pub record EndsAtStage (column : ℕ) (plan : StagedPlan) (sample : List ℕ) (v : Verdict) : Type 0 where
  -- the stages before the one that decides
  pub done : ℕ
  pub among : done < plan.stages
  pub whole : length sample ≡ 2 * length (numbers_of sample)
  pub ends : length (numbers_of sample) ≡ size_of_first (suc done) plan
  pub legal : IllegalAt column (numbers_of sample) → ⊥
  pub last : stage_decides (stage_at plan done) (sum_of (numbers_of sample)) ≡ says v.accepted
  pub earlier : (i : ℕ) → i < done
      → stage_decides (stage_at plan i) (sum_of (take (size_of_first (suc i) plan) (numbers_of sample))) ≡ goes_on
  pub verdict :
      record {
        accepted = v.accepted;
        used = length (numbers_of sample);
        total = sum_of (numbers_of sample);
        stage = suc done;
        stages = plan.stages;
      }
      ≡ v

-- A staged walk meets an illegal item, among its stages, before any stage decides.
pub record MeetsInStage (column : ℕ) (plan : StagedPlan) (sample : List ℕ) : Type 0 where
  pub place : ℕ
  pub there : place < length (numbers_of sample)
  pub reached : place < size_of_first plan.stages plan
  pub legal-before : any_illegal column (take place (numbers_of sample)) ≡ false
  pub illegal-there : illegal column (get_or (numbers_of sample) place 0) ≡ true
  pub undecided : (i : ℕ) → i < plan.stages → size_of_first (suc i) plan ≤ place
      → stage_decides (stage_at plan i) (sum_of (take (size_of_first (suc i) plan) (numbers_of sample))) ≡ goes_on

-- A reading out of range, at a place.
pub record OutAt (xs : List ℤ) : Type 0 where
  pub place : ℕ
  pub there : place < length xs
  pub out : in_gauge (get_or xs place (pos 0)) ≡ false

-- Readings. 7 where there are not exactly the plan's n; 9 for a reading out of range, "when sigma is out of range or
-- the lower limit is not below the upper", and for a limit out of range.
abbrev pub LimitsOut : Limits → Type 0
LimitsOut (one upper limit) = in_gauge limit ≡ false
LimitsOut (both upper lower) = (in_gauge upper ≡ false) ⊎ ((in_gauge lower ≡ false) ⊎ (le_z upper lower ≡ true))

abbrev pub SigmaOut : Spread → Type 0
SigmaOut estimated = ⊥
SigmaOut (known sigma) = (sigma < 1) ⊎ (1000 < sigma)

pub data OutOfGauge (m : Spread) (limits : Limits) (bytes : List ℕ) : Type 0 where
  reading : OutAt (readings_of bytes) → OutOfGauge m limits bytes
  the-limits : LimitsOut limits → OutOfGauge m limits bytes
  the-sigma : SigmaOut m → OutOfGauge m limits bytes

abbrev pub ReadingRows : Spread → Limits → List ℕ → SidesPlan → ℕ → Type 0
ReadingRows m limits bytes plan = Row 7 (length bytes ≡ 2 * plan.n → ⊥) (Row 9 (OutOfGauge m limits bytes) NoRow)

-- A side accepts: by the s method as document 01 says, and by the sigma method where "1,000,000 (nU − S) ≥ K · sigma ·
-- n, and likewise from below".
abbrev pub SideAccepts : Spread → Bool → ℕ → ℕ → ℤ → List ℤ → Type 0
SideAccepts estimated upper n k limit xs = accepts_readings upper (record { n = n; k = k }) limit xs ≡ true
SideAccepts (known sigma) true n k limit xs =
    le_z (pos (k * sigma * n)) (pos 1000000 *ℤ (pos n *ℤ limit -ℤ sum_z xs)) ≡ true
SideAccepts (known sigma) false n k limit xs =
    le_z (pos (k * sigma * n)) (pos 1000000 *ℤ (sum_z xs -ℤ pos n *ℤ limit)) ≡ true

-- "accept only if both sides accept"
abbrev pub LimitsAccept : Spread → Limits → SidesPlan → List ℤ → Type 0
LimitsAccept m (one true limit) p xs = SideAccepts m true p.n p.upper_k limit xs
LimitsAccept m (one false limit) p xs = SideAccepts m false p.n p.lower_k limit xs
LimitsAccept m (both upper lower) p xs =
    SideAccepts m true p.n p.upper_k upper xs × SideAccepts m false p.n p.lower_k lower xs

pub record ReadingsJudged (m : Spread) (limits : Limits) (bytes : List ℕ) (plan : SidesPlan) (v : Verdict) : Type 0
  where
    pub whole : length bytes ≡ 2 * plan.n
    pub readings-in : OutAt (readings_of bytes) → ⊥
    pub limits-in : LimitsOut limits → ⊥
    pub sigma-in : SigmaOut m → ⊥
    pub accepted-exactly : (v.accepted ≡ true) ↔ LimitsAccept m limits plan (readings_of bytes)
    pub verdict : record { accepted = v.accepted; used = plan.n; total = 0; stage = 1; stages = 1 } ≡ v

-- The readings that a screen shows: 1 to 50, none half there. 7 for others, 9 for a reading out of range.
pub record Fits (bytes : List ℕ) (n : ℕ) : Type 0 where
  pub some : 1 ≤ n
  pub few : n ≤ 50
  pub whole : length bytes ≡ 2 * n

abbrev pub ScreenRows : List ℕ → ℕ → Type 0
ScreenRows bytes = Row 7 ((n : ℕ) → Fits bytes n → ⊥) (Row 9 (OutAt (readings_of bytes)) NoRow)

pub record Screened (bytes : List ℕ) (s : Shown) : Type 0 where
  pub count : ℕ
  pub fits-so : Fits bytes count
  pub readings-in : OutAt (readings_of bytes) → ⊥
  pub shows : shown_of count (sum_z (readings_of bytes)) (squares_z (readings_of bytes)) ≡ s

-- Document 02, T-01: when a sample accepts on a plan of that mode, by its total and how many samples just before it
-- were clean on that plan. "A clean sample accepts. One nonconforming item accepts under 1/2 if the previous lot's
-- sample was clean, under 1/3 if the previous two were .. Two or more never accept."; where Ac is whole, at most that.
pub data Passes (p : FractionalPlan) (before total : ℕ) : Type 0 where
  at_most : p.share ≡ 0 → total ≤ p.plan.ac → Passes p before total
  clean-sample : (p.share ≡ 0 → ⊥) → total ≡ 0 → Passes p before total
  under-half : p.share ≡ 2 → total ≡ 1 → 1 ≤ before → Passes p before total
  under-third : p.share ≡ 3 → total ≡ 1 → 2 ≤ before → Passes p before total

-- The sample is refused as on any single plan (ItemRows); and else its verdict.
pub record SharedJudged (before column : ℕ) (sample : List ℕ) (p : FractionalPlan) (v : Verdict) : Type 0 where
  pub whole : length sample ≡ 2 * p.plan.n
  pub legal : IllegalAt column (numbers_of sample) → ⊥
  pub accepted-exactly : (v.accepted ≡ true) ↔ Passes p before (sum_of (numbers_of sample))
  pub verdict :
      record {
        accepted = v.accepted;
        used = p.plan.n;
        total = sum_of (numbers_of sample);
        stage = 1;
        stages = 1;
      }
      ≡ v
