-- Document 01, 'Severity record': the record of one supply, its range, what each event makes of it, and the score of
-- a lot, which in stages is that of document 02, T-02. Definitions only.
use Rattle.std.specs.Prelude.{ℕ, zero, suc, ◌+◌, ◌*◌, ◌%◌, min, Bool, true, false, cond, ◌&&◌, not, [], ◌∷◌, leb, ltb}
use Rattle.std.specs.Prelude.{eqb}
use Rattle.std.specs.Int.Count.{ones}
use Rattle.rules.specs.Refusals.{Answer, refused, given, ◌gives◌, first_of, unknown_form, while_stopped, not_stopped}
use Rattle.rules.specs.Codes.{normal, tightened, reduced, stopped}

-- An original lot, as it counts: accepted and "add 3", "add 2" or "score 0"; or not accepted.
pub data Lot : Type 0 where
  add_three add_two score_zero not_accepted : Lot

abbrev pub accepted : Lot → Bool
accepted add_three = true
accepted add_two = true
accepted score_zero = true
accepted not_accepted = false

-- How an original lot entered the record: typed as a history byte; closed from its plan and sample; or so on a
-- fractional plan of document 02, T-01, by its letter, column and total.
pub data Origin : Type 0 where
  typed sampled : Origin
  on_fraction : ℕ → ℕ → ℕ → Origin

pub data Event : Type 0 where
  lot : Origin → Lot → Event
  resubmitted : Event
  steady_is : Bool → Event
  permission_is : Bool → Event
  corrective : Event
  unknown : Event

pub record Record : Type 0 where
  pub severity : ℕ
  pub score : ℕ
  pub run : ℕ
  pub count : ℕ
  pub window : ℕ
  pub steady : Bool
  pub permission : Bool

-- "Each change starts a stay with score, run, window and count cleared; steady and permission stay."
abbrev pub started : ℕ → Bool → Bool → Record
started severity st pe =
    record { severity = severity; score = 0; run = 0; count = 0; window = 0; steady = st; permission = pe }

-- "Starts: normal, score 0, steady no", and the permission that the start names
abbrev pub fresh : Bool → Record
fresh pe = started normal false pe

-- "score and window belong to normal, run and count to tightened"
abbrev pub on_normal : ℕ → ℕ → Bool → Bool → Record
on_normal score window st pe =
    record { severity = normal; score = score; run = 0; count = 0; window = window; steady = st; permission = pe }

abbrev pub on_tightened : ℕ → ℕ → Bool → Bool → Record
on_tightened run count st pe =
    record { severity = tightened; score = 0; run = run; count = count; window = 0; steady = st; permission = pe }

-- "score 30, steady and permission all standing"
abbrev pub due : ℕ → Bool → Bool → Bool
due score st pe = leb 30 score && (st && pe)

-- "After each original lot and each order: normal, score 30, steady and permission all standing gives reduced."
abbrev pub settled : ℕ → ℕ → Bool → Bool → Record
settled score window st pe = cond (due score st pe) (started reduced st pe) (on_normal score window st pe)

-- "Not accepted: score 0", "add 3", "add 2", "score 0"; "The score is cut to 30."
abbrev pub score_after : Lot → ℕ → ℕ
score_after add_three score = min 30 (score + 3)
score_after add_two score = min 30 (score + 2)
score_after score_zero score = 0
score_after not_accepted score = 0

-- The window: five bits, the newest lot in the lowest, 1 for a lot not accepted.
abbrev pub bad_bit : Lot → ℕ
bad_bit add_three = 0
bad_bit add_two = 0
bad_bit score_zero = 0
bad_bit not_accepted = 1

abbrev pub window_after : Lot → ℕ → ℕ
window_after l window = (2 * window + bad_bit l) % 32

-- "two not accepted among the last five original lots of this stay (fewer if it is younger) gives tightened"
abbrev pub lot_normal : Lot → ℕ → ℕ → Bool → Bool → Record
lot_normal l score window st pe =
    cond (not (accepted l) && leb 2 (ones (window_after l window))) (started tightened st pe)
    (settled (score_after l score) (window_after l window) st pe)

-- "five accepted in a row gives normal; the fifth not accepted in the stay gives stopped, with no wait"
abbrev pub lot_tightened : Lot → ℕ → ℕ → Bool → Bool → Record
lot_tightened l run count st pe =
    cond (accepted l)
    (cond (leb 5 (suc run)) (started normal st pe) (on_tightened (suc run) count st pe))
    (cond (leb 5 (suc count)) (started stopped st pe) (on_tightened 0 (suc count) st pe))

-- "a lot not accepted .. gives normal"
abbrev pub lot_reduced : Lot → Record → Record
lot_reduced l r = cond (accepted l) r (started normal r.steady r.permission)

-- "Stopped: lots are refused"
unfoldable pub on_lot : ℕ → Lot → Record → Answer Record
on_lot zero l r = given (lot_normal l r.score r.window r.steady r.permission)
on_lot (suc zero) l r = given (lot_tightened l r.run r.count r.steady r.permission)
on_lot (suc (suc zero)) l r = given (lot_reduced l r)
on_lot (suc (suc (suc s))) l r = refused while_stopped 0

-- "Resubmitted lots .. change nothing", and are lots: refused while stopped
unfoldable pub on_resubmitted : ℕ → Record → Answer Record
on_resubmitted severity r = cond (leb stopped severity) (refused while_stopped 0) (given r)

-- An order that leaves steady and permission as st and pe; where stands is false it withdraws: "steady withdrawn or
-- permission withdrawn gives normal".
unfoldable pub on_order : ℕ → Bool → Bool → Bool → Record → Record
on_order zero stands st pe r = settled r.score r.window st pe
on_order (suc zero) stands st pe r = on_tightened r.run r.count st pe
on_order (suc (suc zero)) stands st pe r = cond stands (started reduced st pe) (started normal st pe)
on_order (suc (suc (suc s))) stands st pe r = started stopped st pe

-- "a corrective action order gives tightened"; "corrective order when not stopped"
unfoldable pub on_corrective : ℕ → Record → Answer Record
on_corrective severity r =
    cond (leb stopped severity) (given (started tightened r.steady r.permission)) (refused not_stopped 0)

-- What an event makes of a record.
unfoldable pub step : Record → Event → Answer Record
step r (lot o l) = on_lot r.severity l r
step r resubmitted = on_resubmitted r.severity r
step r (steady_is b) = given (on_order r.severity b b r.permission r)
step r (permission_is b) = given (on_order r.severity b r.steady b r)
step r corrective = on_corrective r.severity r
step r unknown = refused unknown_form 0

-- "A lent record is in range when the severity is at most 3, the score at most 30, the run and the not-accepted count
-- of a tightened stay at most 4 each, the window at most five lots with at most one not accepted, and every figure that
-- its severity doesn't use is 0"
abbrev pub score_and_window : Record → Bool
score_and_window r = leb r.score 30 && (ltb r.window 32 && leb (ones r.window) 1)

abbrev pub run_and_count : Record → Bool
run_and_count r = leb r.run 4 && leb r.count 4

abbrev pub no_score_or_window : Record → Bool
no_score_or_window r = eqb r.score 0 && eqb r.window 0

abbrev pub no_run_or_count : Record → Bool
no_run_or_count r = eqb r.run 0 && eqb r.count 0

unfoldable pub figures_in_range : ℕ → Record → Bool
figures_in_range zero r = score_and_window r && no_run_or_count r
figures_in_range (suc zero) r = run_and_count r && no_score_or_window r
figures_in_range (suc (suc zero)) r = no_score_or_window r && no_run_or_count r
figures_in_range (suc (suc (suc zero))) r = no_score_or_window r && no_run_or_count r
figures_in_range (suc (suc (suc (suc s)))) r = false

abbrev pub in_range : Record → Bool
in_range r = figures_in_range r.severity r

-- "a record out of range"
abbrev pub on_record : {A : Type 0} → Record → Answer A → Answer A
on_record r answer = first_of ((not (in_range r) gives unknown_form) ∷ []) answer

-- The score of a lot that is closed under a severity; only normal keeps one.
abbrev pub counted : ℕ → Bool → Lot → Lot
counted severity accepted points = cond accepted (cond (eqb severity normal) points score_zero) not_accepted

-- "single with Ac 2 or more: add 3 if the total is also within the Ac one column tighter at the letter that gives the
-- size, else score 0. Ac 0 or 1: add 2."
abbrev pub single_points : ℕ → ℕ → ℕ → Lot
single_points ac tighter total = cond (leb 2 ac) (cond (leb total tighter) add_three score_zero) add_two

-- Document 01, "Staged: add 3 if accepted at the first stage"; document 02, T-02, "That's right for two stages. For
-- three or more, add 3 when accepted at stage 1, 2 or 3". By the stage, counted from 1, and how many there are.
abbrev pub earns_three : ℕ → ℕ → Bool
earns_three stage stages = cond (leb 3 stages) (leb 1 stage && leb stage 3) (eqb stage 1)

-- "else score 0"
abbrev pub staged_points : ℕ → ℕ → Lot
staged_points stage stages = cond (earns_three stage stages) add_three score_zero
