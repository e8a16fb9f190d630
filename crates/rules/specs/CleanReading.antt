-- The written reading of document 02's clean run, which keeps no record: of the original lots since the present stay
-- began, how many of the newest stand without a break on one fraction, entered with their samples and clean. Events and
-- lots stand newest first. Definitions only.
use Rattle.std.specs.Prelude.{ℕ, zero, suc, min, Bool, false, cond, ◌&&◌, List, [], ◌∷◌, eqb}
use Rattle.rules.specs.Severity.{Lot, Origin, typed, sampled, on_fraction, Event, lot, resubmitted, steady_is}
use Rattle.rules.specs.Severity.{permission_is, corrective, unknown}
use Rattle.rules.specs.Reading.{Stay, severity_read, record_read}
use Rattle.rules.specs.Fractional.{has_fractional_plan}
use Rattle.rules.specs.Supply.{CleanRun, no_run, Supply, supply_of}

-- how the original lots entered, with the one that an event may bring
abbrev pub origins_with : Event → List Origin → List Origin
origins_with (lot o l) os = o ∷ os
origins_with resubmitted os = os
origins_with (steady_is b) os = os
origins_with (permission_is b) os = os
origins_with corrective os = os
origins_with unknown os = os

-- "in the same stay": the original lots since the severity last changed
unfoldable pub origins_in : Bool → List Event → List Origin
origins_in start [] = []
origins_in start (e ∷ es) =
    cond (eqb (severity_read start (e ∷ es)) (severity_read start es)) (origins_with e (origins_in start es)) []

-- those of the whole history
unfoldable pub all_origins : List Event → List Origin
all_origins [] = []
all_origins (e ∷ es) = origins_with e (all_origins es)

-- the lots of the present stay, of all that a history contains
abbrev pub present_lots : List Stay → List Lot
present_lots [] = []
present_lots (y ∷ ys) = y.lots

-- is it a clean sample on this plan?
abbrev pub clean_on : ℕ → ℕ → Origin → Bool
clean_on letter column typed = false
clean_on letter column sampled = false
clean_on letter column (on_fraction l c total) = eqb l letter && (eqb c column && eqb total 0)

-- how many of the newest are clean on this plan, up to the first that is not
unfoldable pub unbroken : ℕ → ℕ → List Origin → ℕ
unbroken letter column [] = 0
unbroken letter column (o ∷ os) = cond (clean_on letter column o) (suc (unbroken letter column os)) 0

-- the run on one plan, "held at 2"; a run of 0 has no plan
abbrev pub held_run : ℕ → ℕ → ℕ → ℕ → CleanRun
held_run severity letter column zero = no_run
held_run severity letter column (suc k) =
    cond (has_fractional_plan severity column letter)
    (record { run = min 2 (suc k); letter = letter; column = column })
    no_run

-- The clean run of a stay: on the plan of its newest lot.
unfoldable pub clean_of : ℕ → List Origin → CleanRun
clean_of severity [] = no_run
clean_of severity (typed ∷ os) = no_run
clean_of severity (sampled ∷ os) = no_run
clean_of severity (on_fraction letter column total ∷ os) =
    held_run severity letter column (unbroken letter column (on_fraction letter column total ∷ os))

abbrev pub clean_read : Bool → List Event → CleanRun
clean_read start es = clean_of (severity_read start es) (origins_in start es)

-- the record that the written reading finds, with its clean run
abbrev pub supply_read : Bool → List Event → Supply
supply_read start es = supply_of (record_read start es) (clean_read start es)
