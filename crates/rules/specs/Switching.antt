-- What the laws of demand 3 say of stays and of changes of severity: what stays, by what each severity is left, what
-- stands when reduced starts, what a history's stays are, and what a record in range is. Lots and events stand newest
-- first. Definitions only.
use Rattle.std.specs.Prelude.{ℕ, zero, suc, ◌+◌, ◌≤◌, ◌<◌, ◌≡◌, Bool, true, false, List, [], ◌∷◌, ◌++◌, ◌↔◌, ◌⊎◌}
use Rattle.std.specs.Prelude.{length, take}
use Rattle.std.specs.Int.Count.{ones}
use Rattle.rules.specs.Codes.{normal, tightened, reduced, stopped}
use Rattle.rules.specs.Severity.{add_two, Origin, typed, sampled, on_fraction, counted}
use Rattle.rules.specs.Fractional.{has_fractional_plan}
use Rattle.rules.specs.Planning.{OneThird, OneHalf}
use Rattle.rules.specs.Severity.{Lot, accepted, Event, lot, resubmitted, steady_is, permission_is, corrective}
use Rattle.rules.specs.Severity.{unknown, Record, started}
use Rattle.rules.specs.Reading.{steady_in, permission_in, not_accepted_in, points_of, Stay, stay_of, severity_read}
use Rattle.rules.specs.Reading.{stay_after, lots_with, stays_in}

-- "Each change starts a stay with score, run, window and count cleared; steady and permission stay": the record t after
-- r, where steady and permission are st and pe.
pub record CarriedOver (st pe : Bool) (r t : Record) : Type 0 where
  pub steady : t.steady ≡ st
  pub permission : t.permission ≡ pe
  pub cleared : (t.severity ≡ r.severity → ⊥) → t ≡ started t.severity st pe

-- the last k of these lots were all accepted
abbrev pub LastAccepted : ℕ → List Lot → Type 0
LastAccepted k ls = (length (take k ls) ≡ k) × (not_accepted_in (take k ls) ≡ 0)

-- An original lot, with what it and the lots of its stay are then.
abbrev pub ByLot : (Lot → List Lot → Type 0) → Event → List Lot → Type 0
ByLot P (lot o l) ls = P l (l ∷ ls)
ByLot P resubmitted ls = ⊥
ByLot P (steady_is b) ls = ⊥
ByLot P (permission_is b) ls = ⊥
ByLot P corrective ls = ⊥
ByLot P unknown ls = ⊥

-- How an event leaves tightened, where the stay's lots are ls and the severity is then s: for normal exactly by the
-- fifth accepted in a row, for stopped exactly by the fifth not accepted.
pub record LeavesTightened (e : Event) (ls : List Lot) (s : ℕ) : Type 0 where
  pub to-normal : (s ≡ normal) ↔ ByLot (λ l lots. LastAccepted 5 lots) e ls
  pub to-stopped : (s ≡ stopped) ↔ ByLot (λ l lots. (accepted l ≡ false) × (not_accepted_in lots ≡ 5)) e ls
  pub else-stays : (s ≡ normal → ⊥) → (s ≡ stopped → ⊥) → s ≡ tightened

-- an original lot, or an order: "After each original lot and each order: normal, score 30, steady and permission all
-- standing gives reduced." (A corrective order is refused at normal.)
abbrev pub LotOrOrder : Event → Type 0
LotOrOrder (lot o l) = Unit {0}
LotOrOrder resubmitted = ⊥
LotOrOrder (steady_is b) = Unit {0}
LotOrOrder (permission_is b) = Unit {0}
LotOrOrder corrective = ⊥
LotOrOrder unknown = ⊥

-- a lot not accepted, two of the last five of its stay with it: "two not accepted among the last five original lots of
-- this stay (fewer if it is younger) gives tightened"
abbrev pub MakesTwo : Lot → List Lot → Type 0
MakesTwo l lots = (accepted l ≡ false) × (2 ≤ not_accepted_in (take 5 lots))

-- How an event leaves normal, where the stay's lots are ls, steady and permission are st and pe after the event, and
-- the severity is then s: for tightened exactly by a lot not accepted that makes two among the last five of the stay,
-- for reduced exactly by a lot or an order after which the points are 30, steady and permission stand.
pub record LeavesNormal (e : Event) (ls : List Lot) (st pe : Bool) (s : ℕ) : Type 0 where
  pub to-tightened : (s ≡ tightened) ↔ ByLot MakesTwo e ls
  pub to-reduced :
      (s ≡ reduced) ↔ (LotOrOrder e × (30 ≤ points_of (lots_with e ls)) × (st ≡ true) × (pe ≡ true))
  pub else-stays : (s ≡ tightened → ⊥) → (s ≡ reduced → ⊥) → s ≡ normal

-- "a lot not accepted, steady withdrawn or permission withdrawn"
abbrev pub EndsReduced : Event → Type 0
EndsReduced (lot o l) = accepted l ≡ false
EndsReduced resubmitted = ⊥
EndsReduced (steady_is b) = b ≡ false
EndsReduced (permission_is b) = b ≡ false
EndsReduced corrective = ⊥
EndsReduced unknown = ⊥

-- How an event leaves reduced, where the severity is then s: for normal, exactly by these.
abbrev pub LeavesReduced : Type 0 → ℕ → Type 0
LeavesReduced Ends s = ((s ≡ normal) ↔ Ends) × ((s ≡ normal → ⊥) → s ≡ reduced)

-- how an event leaves the severity of a history, where the severity is then s
abbrev pub NormalLeft : Bool → List Event → Event → ℕ → Type 0
NormalLeft start es e s =
    LeavesNormal e (stay_after start es).lots (steady_in (e ∷ es)) (permission_in start (e ∷ es)) s

abbrev pub TightenedLeft : Bool → List Event → Event → ℕ → Type 0
TightenedLeft start es e s = LeavesTightened e (stay_after start es).lots s

abbrev pub ReducedLeft : Event → ℕ → Type 0
ReducedLeft e s = LeavesReduced (EndsReduced e) s

-- What stands when reduced starts by an event: it was normal, steady and permission stand, and the last ten original
-- lots of that normal stay, the history's second newest now, were all accepted.
pub record ReducedStarts (start : Bool) (e : Event) (es : List Event) : Type 0 where
  pub was-normal : severity_read start es ≡ normal
  pub steady-stands : steady_in (e ∷ es) ≡ true
  pub permission-stands : permission_in start (e ∷ es) ≡ true
  pub lots : List Lot
  pub earlier : List Stay
  pub that-stay : stays_in start (e ∷ es) ≡ stay_of reduced [] ∷ stay_of normal lots ∷ earlier
  pub ten-accepted : LastAccepted 10 lots

-- every element of a list
abbrev pub Every : {A : Type 0} → (A → Type 0) → List A → Type 0
Every P [] = Unit {0}
Every P (x ∷ xs) = P x × Every P xs

-- "at most 25 original lots and at most five not accepted"
abbrev pub AtMost25 : Stay → Type 0
AtMost25 y = y.severity ≡ tightened → (length y.lots ≤ 25) × (not_accepted_in y.lots ≤ 5)

-- the original lots of a history, newest first
unfoldable pub original_lots : List Event → List Lot
original_lots [] = []
original_lots (lot o l ∷ es) = l ∷ original_lots es
original_lots (resubmitted ∷ es) = original_lots es
original_lots (steady_is b ∷ es) = original_lots es
original_lots (permission_is b ∷ es) = original_lots es
original_lots (corrective ∷ es) = original_lots es
original_lots (unknown ∷ es) = original_lots es

-- the lots of stays, joined in order
unfoldable pub lots_of_all : List Stay → List Lot
lots_of_all [] = []
lots_of_all (y ∷ ys) = y.lots ++ lots_of_all ys

-- the severity of the first stay
abbrev pub FirstIs : ℕ → List Stay → Type 0
FirstIs severity [] = ⊥
FirstIs severity (y ∷ ys) = y.severity ≡ severity

abbrev pub FirstIsNot : ℕ → List Stay → Type 0
FirstIsNot severity [] = Unit {0}
FirstIsNot severity (y ∷ ys) = severity ≡ y.severity → ⊥

-- each stay and the one before it
abbrev pub NeighboursDiffer : List Stay → Type 0
NeighboursDiffer [] = Unit {0}
NeighboursDiffer (y ∷ ys) = FirstIsNot y.severity ys × NeighboursDiffer ys

-- these stays are the whole of the history, the present one of this severity
pub record Whole (severity : ℕ) (es : List Event) (ys : List Stay) : Type 0 where
  pub all-lots : lots_of_all ys ≡ original_lots es
  pub neighbours : NeighboursDiffer ys
  pub first-present : FirstIs severity ys

-- What a record in range is, in plain inequalities; s is its severity. "every figure that its severity doesn't use is 0
-- (score and window belong to normal, run and count to tightened)"
pub record Within (s : ℕ) (r : Record) : Type 0 where
  pub severity-fits : s ≤ 3
  pub score-fits : r.score ≤ 30
  pub run_fits : r.run ≤ 4
  pub count_fits : r.count ≤ 4
  pub window-fits : r.window < 32
  pub ones-fit : ones r.window ≤ 1
  pub normal-alone : (s ≡ normal → ⊥) → (r.score ≡ 0) × (r.window ≡ 0)
  pub tightened-alone : (s ≡ tightened → ⊥) → (r.run ≡ 0) × (r.count ≡ 0)

-- "if the previous lot's sample was clean", "if the previous two were, all on the same plan": the newest k lots were
-- entered with clean samples on this plan
abbrev pub NewestClean : ℕ → ℕ → ℕ → List Origin → Type 0
NewestClean zero letter column os = Unit {0}
NewestClean (suc k) letter column [] = ⊥
NewestClean (suc k) letter column (o ∷ os) = (o ≡ on_fraction letter column 0) × NewestClean k letter column os

-- accepted exactly with no nonconforming item, or with one after k clean samples on this plan
abbrev pub AcceptedAfter : ℕ → ℕ → ℕ → List Origin → ℕ → Bool → Type 0
AcceptedAfter k letter column os total accepted =
    (accepted ≡ true) ↔ ((total ≡ 0) ⊎ ((total ≡ 1) × NewestClean k letter column os))

-- How a lot on a fractional plan counts, after the lots of its stay and at its severity: "under 1/2 if the previous
-- lot's sample was clean, under 1/3 if the previous two were"; "For the score such a plan counts as Ac 0."
pub record CountsOnFraction (severity : ℕ) (os : List Origin) (letter column total : ℕ) (l : Lot) : Type 0 where
  pub one-half : OneHalf severity (letter + column) → AcceptedAfter 1 letter column os total (accepted l)
  pub one-third : OneThird severity (letter + column) → AcceptedAfter 2 letter column os total (accepted l)
  pub as-ac-0 : accepted l ≡ true → l ≡ counted severity true add_two

-- so of every original lot that stands on a fractional plan at the severity
abbrev pub LotCounts : ℕ → List Origin → Origin → Lot → Type 0
LotCounts severity os typed l = Unit {0}
LotCounts severity os sampled l = Unit {0}
LotCounts severity os (on_fraction letter column total) l =
    has_fractional_plan severity column letter ≡ true → CountsOnFraction severity os letter column total l

abbrev pub FractionCounts : ℕ → List Origin → Event → Type 0
FractionCounts severity os (lot o l) = LotCounts severity os o l
FractionCounts severity os resubmitted = Unit {0}
FractionCounts severity os (steady_is b) = Unit {0}
FractionCounts severity os (permission_is b) = Unit {0}
FractionCounts severity os corrective = Unit {0}
FractionCounts severity os unknown = Unit {0}
