-- Document 01, 'Severity record', the written reading of demand 3, which keeps no record. Events and lots stand
-- newest first. Definitions only.
use Rattle.std.specs.Prelude.{ℕ, zero, suc, ◌+◌, ◌*◌, min, Bool, true, false, cond, ◌&&◌, not, List, [], ◌∷◌, leb, eqb}
use Rattle.std.specs.Prelude.{take}
use Rattle.rules.specs.Codes.{normal, tightened, reduced, stopped}
use Rattle.rules.specs.Severity.{Lot, add_three, add_two, score_zero, not_accepted, accepted, Event, lot}
use Rattle.rules.specs.Severity.{resubmitted, steady_is, permission_is, corrective, unknown, due}
use Rattle.rules.specs.Severity.{Record, started, on_normal, on_tightened, bad_bit}

-- "steady and permission are as last ordered, else as at the start"
abbrev pub steady_by : Event → Bool → Bool
steady_by (lot o l) st = st
steady_by resubmitted st = st
steady_by (steady_is b) st = b
steady_by (permission_is b) st = st
steady_by corrective st = st
steady_by unknown st = st

abbrev pub permission_by : Event → Bool → Bool
permission_by (lot o l) pe = pe
permission_by resubmitted pe = pe
permission_by (steady_is b) pe = pe
permission_by (permission_is b) pe = b
permission_by corrective pe = pe
permission_by unknown pe = pe

unfoldable pub steady_in : List Event → Bool
steady_in [] = false
steady_in (e ∷ es) = steady_by e (steady_in es)

unfoldable pub permission_in : Bool → List Event → Bool
permission_in start [] = start
permission_in start (e ∷ es) = permission_by e (permission_in start es)

-- "the number not accepted"
unfoldable pub not_accepted_in : List Lot → ℕ
not_accepted_in [] = 0
not_accepted_in (l ∷ ls) = cond (accepted l) (not_accepted_in ls) (suc (not_accepted_in ls))

-- "the accepted ones after the last not accepted"
unfoldable pub run_of : List Lot → ℕ
run_of [] = 0
run_of (l ∷ ls) = cond (accepted l) (suc (run_of ls)) 0

-- "the points after the last score 0"; "cut to 30"
unfoldable pub points_of : List Lot → ℕ
points_of [] = 0
points_of (add_three ∷ ls) = points_of ls + 3
points_of (add_two ∷ ls) = points_of ls + 2
points_of (score_zero ∷ ls) = 0
points_of (not_accepted ∷ ls) = 0

abbrev pub score_of : List Lot → ℕ
score_of ls = min 30 (points_of ls)

-- A stay: its severity, and "the original lots since the present stay began".
pub record Stay : Type 0 where
  pub severity : ℕ
  pub lots : List Lot

abbrev pub stay_of : ℕ → List Lot → Stay
stay_of severity ls = record { severity = severity; lots = ls }

-- "normal, score 30, steady and permission all standing gives reduced"
abbrev pub read_settled : List Lot → Bool → Bool → Stay
read_settled ls st pe = cond (due (score_of ls) st pe) (stay_of reduced []) (stay_of normal ls)

-- "it takes the last five"
abbrev pub read_normal : Lot → List Lot → Bool → Bool → Stay
read_normal l ls st pe =
    cond (not (accepted l) && leb 2 (not_accepted_in (take 5 (l ∷ ls)))) (stay_of tightened [])
    (read_settled (l ∷ ls) st pe)

abbrev pub read_tightened : Lot → List Lot → Stay
read_tightened l ls =
    cond (accepted l)
    (cond (leb 5 (run_of (l ∷ ls))) (stay_of normal []) (stay_of tightened (l ∷ ls)))
    (cond (leb 5 (not_accepted_in (l ∷ ls))) (stay_of stopped []) (stay_of tightened (l ∷ ls)))

abbrev pub read_reduced : Lot → List Lot → Stay
read_reduced l ls = cond (accepted l) (stay_of reduced (l ∷ ls)) (stay_of normal [])

unfoldable pub read_lot : ℕ → Lot → List Lot → Bool → Bool → Stay
read_lot zero l ls st pe = read_normal l ls st pe
read_lot (suc zero) l ls st pe = read_tightened l ls
read_lot (suc (suc zero)) l ls st pe = read_reduced l ls
read_lot (suc (suc (suc s))) l ls st pe = stay_of stopped ls

unfoldable pub read_order : ℕ → Bool → List Lot → Bool → Bool → Stay
read_order zero stands ls st pe = read_settled ls st pe
read_order (suc zero) stands ls st pe = stay_of tightened ls
read_order (suc (suc zero)) stands ls st pe = cond stands (stay_of reduced ls) (stay_of normal [])
read_order (suc (suc (suc s))) stands ls st pe = stay_of stopped ls

abbrev pub read_corrective : ℕ → List Lot → Stay
read_corrective severity ls = cond (leb stopped severity) (stay_of tightened []) (stay_of severity ls)

-- what an event makes of the present stay, with steady and permission as they then stand
unfoldable pub read_event : Event → Bool → Bool → Stay → Stay
read_event (lot o l) st pe y = read_lot y.severity l y.lots st pe
read_event resubmitted st pe y = y
read_event (steady_is b) st pe y = read_order y.severity b y.lots st pe
read_event (permission_is b) st pe y = read_order y.severity b y.lots st pe
read_event corrective st pe y = read_corrective y.severity y.lots
read_event unknown st pe y = y

-- the present stay after the events, from a start with that permission
unfoldable pub stay_after : Bool → List Event → Stay
stay_after start [] = stay_of normal []
stay_after start (e ∷ es) = read_event e (steady_in (e ∷ es)) (permission_in start (e ∷ es)) (stay_after start es)

-- the severity that the written reading finds
abbrev pub severity_read : Bool → List Event → ℕ
severity_read start es = (stay_after start es).severity

-- The record that the written reading finds: "it takes the last five, the accepted ones after the last not accepted,
-- the number not accepted, and the points after the last score 0, cut to 30".
unfoldable pub bits_of : List Lot → ℕ
bits_of [] = 0
bits_of (l ∷ ls) = 2 * bits_of ls + bad_bit l

unfoldable pub figures_of : ℕ → List Lot → Bool → Bool → Record
figures_of zero ls st pe = on_normal (score_of ls) (bits_of (take 5 ls)) st pe
figures_of (suc zero) ls st pe = on_tightened (run_of ls) (not_accepted_in ls) st pe
figures_of (suc (suc s)) ls st pe = started (suc (suc s)) st pe

abbrev pub record_of : Bool → Bool → Stay → Record
record_of st pe y = figures_of y.severity y.lots st pe

abbrev pub record_read : Bool → List Event → Record
record_read start es = record_of (steady_in es) (permission_in start es) (stay_after start es)

-- the original lots of a stay, with the one that an event may bring
abbrev pub lots_with : Event → List Lot → List Lot
lots_with (lot o l) ls = l ∷ ls
lots_with resubmitted ls = ls
lots_with (steady_is b) ls = ls
lots_with (permission_is b) ls = ls
lots_with corrective ls = ls
lots_with unknown ls = ls

-- Every stay that a history contains, the present one first: each with all the original lots judged in it, the one
-- that ended it too. A change of severity ends a stay.
abbrev pub stays_by : Event → ℕ → List Stay → List Stay
stays_by e severity [] = []
stays_by e severity (y ∷ ys) =
    cond (eqb severity y.severity) (stay_of y.severity (lots_with e y.lots) ∷ ys)
    (stay_of severity [] ∷ stay_of y.severity (lots_with e y.lots) ∷ ys)

unfoldable pub stays_in : Bool → List Event → List Stay
stays_in start [] = stay_of normal [] ∷ []
stays_in start (e ∷ es) = stays_by e (severity_read start (e ∷ es)) (stays_in start es)

-- "Resubmitted lots .. change nothing": a history without them, and the severities after the events that are left.
abbrev pub is_resubmitted : Event → Bool
is_resubmitted (lot o l) = false
is_resubmitted resubmitted = true
is_resubmitted (steady_is b) = false
is_resubmitted (permission_is b) = false
is_resubmitted corrective = false
is_resubmitted unknown = false

unfoldable pub without_resubmitted : List Event → List Event
without_resubmitted [] = []
without_resubmitted (e ∷ es) = cond (is_resubmitted e) (without_resubmitted es) (e ∷ without_resubmitted es)

unfoldable pub severities_at : (Event → Bool) → Bool → List Event → List ℕ
severities_at left start [] = []
severities_at left start (e ∷ es) =
    cond (left e) (severity_read start (e ∷ es) ∷ severities_at left start es) (severities_at left start es)
