-- Document 02, T-01, worked: the plans of the mode at the edges of each fraction, verdicts and next records from lent
-- records, runs of calls, lent records on both sides of each new bound, events handed to close_lot, and the example of
-- source 002's Annex A.
-- Assumes nothing.
use Prim.Native.Nat.{ℕ, ◌-◌}
use Prim.Native.String.{String}
use mathlib.Core.Path.{◌≡◌, refl}
use mathlib.Core.Bool.{Bool, true, false}
use mathlib.Core.List.{List, [], ◌∷◌, ◌++◌, map}
use lib.IntN.{pos}
use lib.ListN.{get_or, replicate}
use Rattle.rules.specs.Refusals.{Answer, refused, given}
use Rattle.rules.specs.Codes.{normal, tightened, reduced, stopped, letters, any_illegal, letter_of, row_of, row_from}
use Rattle.rules.specs.Numbers.{numbers_of, number_bytes, sum_of}
use Rattle.rules.specs.Single.{landing, box_at, table_plan, tighter_ac, judge_items}
use Rattle.rules.specs.Staged.{stages_from, total_size, stage_decides, take_items, staged_from, judge_stages}
use Rattle.rules.specs.Severity.{Lot, add_three, add_two, score_zero, not_accepted, typed, sampled, on_fraction, lot}
use Rattle.rules.specs.Severity.{Record, started, on_normal, on_tightened, on_lot, on_resubmitted, on_order}
use Rattle.rules.specs.Severity.{on_corrective, step, figures_in_range}
use Rattle.rules.specs.History.{byte_of, ours, event_of, event_in}
use Rattle.rules.specs.Fractional.{half, third, share_in, share_at, has_fractional_plan, FractionalPlan, plan_of_share}
use Rattle.rules.specs.Fractional.{judge_by_share}
use Rattle.rules.specs.Supply.{CleanRun, no_run, Supply, supply_of, fresh_supply, move, clean_in_range, supply_in_range}
use Rattle.rules.specs.Book.{check_book, checked_as, sections, section, entries, entry, shift, then_from, key_falls}
use Rattle.rules.specs.Book.{rises, numbers_from, right, staged_rule, staged_number, ac_keeps, re_keeps, same_key}
use Rattle.rules.specs.Book.{fifth, all_sections}
use Rattle.rules.specs.Book.{seek, seek_in, look_up, every}
use Rattle.rules.specs.Entries.{Asked, Offered, Closed, single_plan, fractional_plan, staged_plan, plain_plan, moved}
use Rattle.rules.specs.Entries.{next, judge_single, judge_staged, judge_total, judge_fractional, close_single}
use Rattle.rules.specs.Entries.{close_staged, close_total, close_fractional}
use Rattle.rules.specs.Limits.{estimated, known, one, both}
use Rattle.rules.specs.Runs.{Call, single, fractional, staged, total, byte, event, sequential, readings, entered}
use Rattle.rules.specs.Runs.{ran}
use Rattle.rules.proofs.Cases.{Case, ◌is◌, AllAsSaid}

-- a letter by its name
abbrev the : String → ℕ
the name = get_or (letters name) 0 0

-- four empty sections
abbrev no_book : List ℕ
no_book = replicate 8 0

-- one reduced single: B in column 15, n 2, Ac 1
abbrev reduced_book : List ℕ
reduced_book = number_bytes (1 ∷ the "B" ∷ 15 ∷ 2 ∷ 1 ∷ 0 ∷ 0 ∷ 0 ∷ [])

abbrev asked : ℕ → ℕ → ℕ → ℕ → Asked
asked severity size level column = record { severity = severity; size = size; level = level; column = column }

-- the plan that the mode gives (levels 5 and 6 are II and III), and a plan: its letter, n, Ac and share; or a plan that
-- is the whole lot, with the table's own size after n
abbrev planned : ℕ → ℕ → ℕ → ℕ → Answer FractionalPlan
planned severity size level column = fractional_plan (asked severity size level column) no_book

abbrev plan : String → ℕ → ℕ → ℕ → Answer FractionalPlan
plan name n ac share =
    given (plan_of_share (record { letter = the name; n = n; ac = ac; table_n = n; cut = false }) share)

abbrev whole : String → ℕ → ℕ → ℕ → ℕ → Answer FractionalPlan
whole name n table_n ac share =
    given (plan_of_share (record { letter = the name; n = n; ac = ac; table_n = table_n; cut = true }) share)

pub plan_cases : List (Case (Answer FractionalPlan))
plan_cases =
    -- normal, s 15: A to R, columns 15 to 0
    (planned normal 8 5 15 is plan "A" 2 0 third)
    ∷ (planned normal 8 6 14 is plan "B" 3 0 third)
    ∷ (planned normal 1000000 5 1 is plan "Q" 1250 0 third)
    ∷ (planned normal 1000000 6 0 is plan "R" 2000 0 third)
    -- normal, s 16: B to R, columns 15 to 1; at A the column is 16
    ∷ (planned normal 8 5 16 is refused 6 0)
    ∷ (planned normal 8 6 15 is plan "B" 3 0 half)
    ∷ (planned normal 15 6 14 is plan "C" 5 0 half)
    ∷ (planned normal 1000000 6 1 is plan "R" 2000 0 half)
    -- tightened, s 16: B to R, columns 15 to 1; at A the column is 16
    ∷ (planned tightened 8 5 16 is refused 6 0)
    ∷ (planned tightened 8 6 15 is plan "B" 3 0 third)
    ∷ (planned tightened 1000000 6 1 is plan "R" 2000 0 third)
    -- tightened, s 17: C to R, columns 15 to 2; at A and B the column is 17 and 16
    ∷ (planned tightened 8 5 17 is refused 6 0)
    ∷ (planned tightened 8 6 16 is refused 6 0)
    ∷ (planned tightened 15 6 15 is plan "C" 5 0 half)
    ∷ (planned tightened 1000000 6 2 is plan "R" 2000 0 half)
    -- beside them no fraction, and the plan as ever, also over column 15: s 14 to 18
    ∷ (planned normal 8 6 13 is plan "B" 3 0 0)
    ∷ (planned normal 8 6 12 is plan "C" 5 0 0)
    ∷ (planned normal 8 5 17 is plan "A" 2 1 0)
    ∷ (planned normal 8 6 16 is plan "B" 3 1 0)
    ∷ (planned normal 15 6 15 is plan "C" 5 1 0)
    ∷ (planned normal 1000000 6 2 is plan "R" 2000 1 0)
    ∷ (planned tightened 8 5 15 is plan "A" 2 0 0)
    ∷ (planned tightened 8 6 14 is plan "B" 3 0 0)
    ∷ (planned tightened 1000000 6 0 is plan "R" 2000 0 0)
    ∷ (planned tightened 8 6 17 is plan "B" 3 1 0)
    ∷ (planned tightened 1000000 6 3 is plan "R" 2000 1 0)
    -- the size is cut to the lot, on a fraction too; one equal to the lot counts as cut
    ∷ (planned normal 2 6 15 is whole "B" 2 3 0 half)
    ∷ (planned normal 3 6 15 is whole "B" 3 3 0 half)
    ∷ (planned normal 4 6 15 is plan "B" 3 0 half)
    ∷ (planned tightened 2 6 15 is whole "B" 2 3 0 third)
    ∷ (planned normal 2 6 16 is whole "B" 2 3 1 0)
    -- reduced: the book's entry, at a box that is a fraction under normal; none
    ∷ (fractional_plan (asked reduced 8 6 15) reduced_book is plan "B" 2 1 0)
    ∷ (fractional_plan (asked reduced 8 6 14) reduced_book is refused 6 0)
    -- 12 first, then the lowest number: 1, 2, 3, 4 and 5 before the 6 of a column over 15
    ∷ (fractional_plan (asked normal 8 5 16) (replicate 7 0) is refused 12 7)
    ∷ (planned 4 8 5 16 is refused 1 0)
    ∷ (planned normal 1 5 16 is refused 2 0)
    ∷ (planned normal 8 7 16 is refused 3 0)
    ∷ (planned normal 8 5 26 is refused 4 0)
    ∷ (planned stopped 8 5 16 is refused 5 0)
    ∷ []

-- The plans of the mode.
pub plans : AllAsSaid plan_cases
unfolding plan_cases fractional_plan single_plan share_in share_at table_plan landing box_at letter_of row_of row_from
    check_book number_bytes numbers_of checked_as sections fifth all_sections section entries entry shift then_from
    key_falls rises numbers_from right same_key seek seek_in look_up every
plans = refl

-- a record without steady and permission: normal with its score and window, tightened with its run and count
abbrev scored : ℕ → ℕ → Record
scored score window = on_normal score window false false

abbrev tight : ℕ → ℕ → Record
tight run count = on_tightened run count false false

-- a clean run, on the plan of this letter and column
abbrev clean : ℕ → String → ℕ → CleanRun
clean run name column = record { run = run; letter = the name; column = column }

abbrev offered : Bool → ℕ → ℕ → ℕ → Offered
offered again size level column = record { again = again; size = size; level = level; column = column }

-- a sample of n items, so many of them nonconforming
abbrev items : ℕ → ℕ → List ℕ
items n bad = number_bytes (replicate bad 1 ++ replicate (n - bad) 0)

-- a lent record of this severity, its other figures 0, with this clean run
abbrev lent : ℕ → ℕ → ℕ → ℕ → Supply
lent severity run letter column =
    supply_of (started severity false false) (record { run = run; letter = letter; column = column })

-- what closing a lot tells: accepted or not, the history byte that it stands for, and the next record
pub record Told : Type 0 where
  pub accepted : Bool
  pub stands : ℕ
  pub left : Supply

abbrev told : Bool → ℕ → Record → CleanRun → Answer Told
told accepted stands r c = given (record { accepted = accepted; stands = stands; left = supply_of r c })

abbrev accepts : ℕ → Record → CleanRun → Answer Told
accepts = told true

abbrev rejects : ℕ → Record → CleanRun → Answer Told
rejects = told false

abbrev told_by : Answer (Closed FractionalPlan) → Answer Told
told_by (refused n p) = refused n p
told_by (given c) =
    let s = c.supply_after in
    told c.judged.verdict.accepted (byte_of c.event) s.switching s.clean

abbrev closed : Record → CleanRun → Offered → List ℕ → Answer Told
closed r c o sample = told_by (close_fractional (supply_of r c) o no_book sample)

-- lots of 8 closed at normal with a score of 4, with this clean run and so many nonconforming items: on 1/2 (B, column
-- 15), on 1/3 (B, column 14); the same resubmitted on 1/2
abbrev on_half : CleanRun → ℕ → Answer Told
on_half c bad = closed (scored 4 0) c (offered false 8 6 15) (items 3 bad)

abbrev on_third : CleanRun → ℕ → Answer Told
on_third c bad = closed (scored 4 0) c (offered false 8 6 14) (items 3 bad)

abbrev again_on_half : CleanRun → ℕ → Answer Told
again_on_half c bad = closed (scored 4 0) c (offered true 8 6 15) (items 3 bad)

-- the same at tightened, with one lot accepted: on 1/3 (B, column 15), and a lot of 15 on 1/2 (C, column 15)
abbrev on_tight_third : CleanRun → ℕ → Answer Told
on_tight_third c bad = closed (tight 1 0) c (offered false 8 6 15) (items 3 bad)

abbrev on_tight_half : CleanRun → ℕ → Answer Told
on_tight_half c bad = closed (tight 1 0) c (offered false 15 6 15) (items 5 bad)

pub closed_cases : List (Case (Answer Told))
closed_cases =
    -- 1/2: a clean run of 0, 1 and 2 with a total of 0, 1 and 2
    (on_half no_run 0 is accepts 1 (scored 6 0) (clean 1 "B" 15))
    ∷ (on_half no_run 1 is rejects 3 (scored 0 1) no_run)
    ∷ (on_half no_run 2 is rejects 3 (scored 0 1) no_run)
    ∷ (on_half (clean 1 "B" 15) 0 is accepts 1 (scored 6 0) (clean 2 "B" 15))
    ∷ (on_half (clean 1 "B" 15) 1 is accepts 1 (scored 6 0) no_run)
    ∷ (on_half (clean 1 "B" 15) 2 is rejects 3 (scored 0 1) no_run)
    ∷ (on_half (clean 2 "B" 15) 0 is accepts 1 (scored 6 0) (clean 2 "B" 15))
    ∷ (on_half (clean 2 "B" 15) 1 is accepts 1 (scored 6 0) no_run)
    ∷ (on_half (clean 2 "B" 15) 2 is rejects 3 (scored 0 1) no_run)
    -- 1/3 likewise
    ∷ (on_third no_run 0 is accepts 1 (scored 6 0) (clean 1 "B" 14))
    ∷ (on_third no_run 1 is rejects 3 (scored 0 1) no_run)
    ∷ (on_third no_run 2 is rejects 3 (scored 0 1) no_run)
    ∷ (on_third (clean 1 "B" 14) 0 is accepts 1 (scored 6 0) (clean 2 "B" 14))
    ∷ (on_third (clean 1 "B" 14) 1 is rejects 3 (scored 0 1) no_run)
    ∷ (on_third (clean 1 "B" 14) 2 is rejects 3 (scored 0 1) no_run)
    ∷ (on_third (clean 2 "B" 14) 0 is accepts 1 (scored 6 0) (clean 2 "B" 14))
    ∷ (on_third (clean 2 "B" 14) 1 is accepts 1 (scored 6 0) no_run)
    ∷ (on_third (clean 2 "B" 14) 2 is rejects 3 (scored 0 1) no_run)
    -- a run on another plan, by its letter, by its column, by both: no run on this one
    ∷ (on_half (clean 2 "A" 15) 0 is accepts 1 (scored 6 0) (clean 1 "B" 15))
    ∷ (on_half (clean 2 "A" 15) 1 is rejects 3 (scored 0 1) no_run)
    ∷ (on_half (clean 2 "B" 14) 0 is accepts 1 (scored 6 0) (clean 1 "B" 15))
    ∷ (on_half (clean 2 "B" 14) 1 is rejects 3 (scored 0 1) no_run)
    ∷ (on_half (clean 2 "C" 14) 1 is rejects 3 (scored 0 1) no_run)
    ∷ (on_third (clean 2 "C" 14) 0 is accepts 1 (scored 6 0) (clean 1 "B" 14))
    ∷ (on_third (clean 2 "C" 14) 1 is rejects 3 (scored 0 1) no_run)
    ∷ (on_third (clean 2 "B" 15) 1 is rejects 3 (scored 0 1) no_run)
    -- a lot of another size under the same letter, cut or not, is on the same plan
    ∷ (closed (scored 4 0) (clean 1 "B" 15) (offered false 2 6 15) (items 2 0)
    is accepts 1 (scored 6 0) (clean 2 "B" 15))
    ∷ (closed (scored 4 0) (clean 1 "B" 15) (offered false 2 6 15) (items 2 1) is accepts 1 (scored 6 0) no_run)
    ∷ (closed (scored 4 0) (clean 1 "B" 15) (offered false 15 5 15) (items 3 1) is accepts 1 (scored 6 0) no_run)
    -- a resubmitted lot is judged by the run and leaves the record as it was
    ∷ (again_on_half no_run 0 is accepts 4 (scored 4 0) no_run)
    ∷ (again_on_half no_run 1 is rejects 4 (scored 4 0) no_run)
    ∷ (again_on_half (clean 1 "B" 15) 0 is accepts 4 (scored 4 0) (clean 1 "B" 15))
    ∷ (again_on_half (clean 1 "B" 15) 1 is accepts 4 (scored 4 0) (clean 1 "B" 15))
    ∷ (again_on_half (clean 1 "B" 15) 2 is rejects 4 (scored 4 0) (clean 1 "B" 15))
    ∷ (again_on_half (clean 2 "A" 15) 1 is rejects 4 (scored 4 0) (clean 2 "A" 15))
    -- tightened: no score, and the run of accepted lots beside the clean one
    ∷ (on_tight_third no_run 0 is accepts 2 (tight 2 0) (clean 1 "B" 15))
    ∷ (on_tight_third (clean 1 "B" 15) 1 is rejects 3 (tight 0 1) no_run)
    ∷ (on_tight_third (clean 2 "B" 15) 1 is accepts 2 (tight 2 0) no_run)
    ∷ (on_tight_third (clean 2 "B" 15) 2 is rejects 3 (tight 0 1) no_run)
    ∷ (on_tight_half no_run 1 is rejects 3 (tight 0 1) no_run)
    ∷ (on_tight_half (clean 1 "C" 15) 1 is accepts 2 (tight 2 0) no_run)
    ∷ (on_tight_half (clean 1 "C" 15) 0 is accepts 2 (tight 2 0) (clean 2 "C" 15))
    ∷ (on_tight_half (clean 2 "B" 15) 1 is rejects 3 (tight 0 1) no_run)
    -- the lot that changes the severity clears the run, clean or not; a score that is cut to 30 changes nothing
    ∷ (closed (on_normal 28 0 true true) (clean 2 "B" 15) (offered false 8 6 15) (items 3 0)
    is accepts 1 (started reduced true true) no_run)
    ∷ (closed (scored 29 0) (clean 2 "B" 15) (offered false 8 6 15) (items 3 0)
    is accepts 1 (scored 30 0) (clean 2 "B" 15))
    ∷ (closed (tight 4 0) (clean 2 "B" 15) (offered false 8 6 15) (items 3 0)
    is accepts 2 (started normal false false) no_run)
    ∷ (closed (scored 4 1) no_run (offered false 8 6 15) (items 3 1) is rejects 3 (started tightened false false)
    no_run)
    ∷ (closed (tight 1 4) (clean 2 "B" 15) (offered false 8 6 15) (items 3 2)
    is rejects 3 (started stopped false false) no_run)
    -- a whole Ac in the mode is as ever and clears the run: Ac 1; Ac 2 in column 16, with its three points or none
    ∷ (closed (scored 4 0) (clean 2 "B" 15) (offered false 15 6 15) (items 5 0) is accepts 1 (scored 6 0) no_run)
    ∷ (closed (scored 4 0) (clean 2 "B" 15) (offered false 15 6 15) (items 5 1) is accepts 1 (scored 6 0) no_run)
    ∷ (closed (scored 4 0) (clean 2 "B" 15) (offered false 15 6 16) (items 5 1) is accepts 0 (scored 7 0) no_run)
    ∷ (closed (scored 4 0) (clean 2 "B" 15) (offered false 15 6 16) (items 5 2) is accepts 2 (scored 0 0) no_run)
    -- reduced is by the book, at the box that is a fraction elsewhere
    ∷ (told_by (close_fractional (lent reduced 0 0 0) (offered false 8 6 15) reduced_book (items 2 1))
    is accepts 2 (started reduced false false) no_run)
    -- a record out of range before 2; 5, 6, 7 and 8
    ∷ (closed (scored 4 0) (clean 3 "B" 15) (offered false 1 6 15) [] is refused 1 0)
    ∷ (closed (scored 4 0) (clean 2 "B" 15) (offered false 1 6 15) [] is refused 2 0)
    ∷ (closed (started stopped false false) no_run (offered false 8 5 16) [] is refused 5 0)
    ∷ (closed (scored 4 0) no_run (offered false 8 5 16) [] is refused 6 0)
    ∷ (closed (scored 4 0) no_run (offered false 8 6 15) (items 4 0) is refused 7 0)
    ∷ (closed (scored 4 0) no_run (offered false 8 6 15) (number_bytes (2 ∷ 0 ∷ 0 ∷ [])) is refused 8 0)
    ∷ []

-- Verdicts, bytes and next records, from lent records.
pub closings : AllAsSaid closed_cases
unfolding closed_cases close_fractional judge_fractional judge_by_share fractional_plan single_plan share_in share_at
    has_fractional_plan table_plan landing box_at tighter_ac letter_of row_of row_from check_book number_bytes
    numbers_of checked_as sections fifth all_sections section entries entry shift then_from key_falls rises numbers_from
    right same_key seek seek_in look_up every judge_items any_illegal sum_of move clean_in_range step on_lot
    on_resubmitted figures_in_range lib.Count.ones
closings = refl

-- one staged entry: normal, B in column 15, two stages of 2 with (0,2)(1,2)
abbrev staged_book : List ℕ
staged_book = number_bytes (0 ∷ 1 ∷ 0 ∷ the "B" ∷ 15 ∷ 2 ∷ 2 ∷ 2 ∷ 0 ∷ 2 ∷ 1 ∷ 2 ∷ 0 ∷ 0 ∷ [])

-- a lot of 8 closed in the mode, so many items nonconforming: B in column 15, 1/2 at normal and 1/3 at tightened
abbrev on_b : ℕ → Call
on_b bad = fractional (offered false 8 6 15) no_book (items 3 bad)

-- two clean ones before these calls, which stand newest first
abbrev after_two : List Call → Supply
after_two calls = ran ours (calls ++ (on_b 0 ∷ on_b 0 ∷ []))

-- five clean ones, all at tightened
abbrev five_tight : List Call
five_tight = replicate 5 (on_b 0) ++ (byte 3 ∷ byte 3 ∷ [])

-- fifteen clean ones
abbrev fifteen : List Call
fifteen = replicate 15 (on_b 0)

pub run_cases : List (Case Supply)
run_cases =
    -- one clean lot, two, three
    (ran ours (on_b 0 ∷ []) is supply_of (scored 2 0) (clean 1 "B" 15))
    ∷ (after_two [] is supply_of (scored 4 0) (clean 2 "B" 15))
    ∷ (after_two (on_b 0 ∷ []) is supply_of (scored 6 0) (clean 2 "B" 15))
    -- broken by an original lot typed as a byte
    ∷ (after_two (byte 0 ∷ []) is supply_of (scored 7 0) no_run)
    ∷ (after_two (byte 1 ∷ []) is supply_of (scored 6 0) no_run)
    ∷ (after_two (byte 2 ∷ []) is supply_of (scored 0 0) no_run)
    ∷ (after_two (byte 3 ∷ []) is supply_of (scored 0 1) no_run)
    ∷ (after_two (on_b 1 ∷ byte 0 ∷ []) is supply_of (scored 0 1) no_run)
    -- by a staged lot, and by the same box in the old mode, from its sample and by its total
    ∷ (after_two (staged (offered false 8 6 15) staged_book (items 2 0) ∷ []) is supply_of (scored 7 0) no_run)
    ∷ (after_two (single (offered false 8 6 15) no_book (items 5 0) ∷ []) is supply_of (scored 6 0) no_run)
    ∷ (after_two (total (offered false 8 6 15) 0 ∷ []) is supply_of (scored 6 0) no_run)
    -- by an event handed over that is on no fraction; one that is on this one adds to it
    ∷ (after_two (event (lot sampled add_two) ∷ []) is supply_of (scored 6 0) no_run)
    ∷ (after_two (event (lot typed add_two) ∷ []) is supply_of (scored 6 0) no_run)
    ∷ (ran ours (event (lot (on_fraction (the "B") 15 0) not_accepted) ∷ on_b 0 ∷ [])
    is supply_of (scored 4 0) (clean 2 "B" 15))
    -- by a sample not clean, accepted or not; then there is no run for the next
    ∷ (after_two (on_b 1 ∷ []) is supply_of (scored 6 0) no_run)
    ∷ (after_two (on_b 2 ∷ []) is supply_of (scored 0 1) no_run)
    ∷ (after_two (on_b 1 ∷ on_b 1 ∷ []) is supply_of (scored 0 1) no_run)
    ∷ (after_two (on_b 1 ∷ on_b 0 ∷ on_b 1 ∷ []) is supply_of (scored 10 0) no_run)
    -- a lot of another letter or column restarts the run at 1, and so does the next on the old plan
    ∷ (after_two (fractional (offered false 8 5 15) no_book (items 2 0) ∷ []) is supply_of (scored 6 0)
    (clean 1 "A" 15))
    ∷ (after_two (fractional (offered false 8 6 14) no_book (items 3 0) ∷ []) is supply_of (scored 6 0)
    (clean 1 "B" 14))
    ∷ (after_two (on_b 0 ∷ fractional (offered false 8 5 15) no_book (items 2 0) ∷ [])
    is supply_of (scored 8 0) (clean 1 "B" 15))
    -- kept through an order that changes no severity
    ∷ (after_two (byte 5 ∷ []) is supply_of (on_normal 4 0 true false) (clean 2 "B" 15))
    ∷ (after_two (byte 6 ∷ []) is supply_of (scored 4 0) (clean 2 "B" 15))
    ∷ (after_two (byte 7 ∷ []) is supply_of (on_normal 4 0 false true) (clean 2 "B" 15))
    ∷ (after_two (byte 8 ∷ []) is supply_of (scored 4 0) (clean 2 "B" 15))
    -- through a resubmitted lot, typed or closed, and a sequential lot and lots judged by readings
    ∷ (after_two (byte 4 ∷ []) is supply_of (scored 4 0) (clean 2 "B" 15))
    ∷ (after_two (fractional (offered true 8 6 15) no_book (items 3 1) ∷ []) is supply_of (scored 4 0) (clean 2 "B" 15))
    ∷ (after_two (single (offered true 8 6 15) no_book (items 5 2) ∷ []) is supply_of (scored 4 0) (clean 2 "B" 15))
    ∷ (after_two (staged (offered true 8 6 15) staged_book (items 2 2) ∷ []) is supply_of (scored 4 0) (clean 2 "B" 15))
    ∷ (ran ours (fractional (offered true 8 6 15) no_book (items 3 0) ∷ on_b 0 ∷ [])
    is supply_of (scored 2 0) (clean 1 "B" 15))
    ∷ (after_two (sequential (asked normal 8 6 15) no_book [] ∷ []) is supply_of (scored 4 0) (clean 2 "B" 15))
    ∷ (after_two (readings estimated (one true (pos 0)) (asked normal 8 6 15) 15 no_book [] ∷ [])
    is supply_of (scored 4 0) (clean 2 "B" 15))
    ∷ (after_two (readings (known 1) (both (pos 1) (pos 0)) (asked normal 8 6 15) 14 no_book [] ∷ [])
    is supply_of (scored 4 0) (clean 2 "B" 15))
    -- through what is refused: 10, 1, 6 and 7
    ∷ (after_two (byte 9 ∷ []) is supply_of (scored 4 0) (clean 2 "B" 15))
    ∷ (after_two (byte 10 ∷ []) is supply_of (scored 4 0) (clean 2 "B" 15))
    ∷ (after_two (fractional (offered false 8 5 16) no_book (items 2 0) ∷ []) is supply_of (scored 4 0)
    (clean 2 "B" 15))
    ∷ (after_two (fractional (offered false 8 6 15) no_book (items 4 0) ∷ []) is supply_of (scored 4 0)
    (clean 2 "B" 15))
    -- tightened: one nonconforming item after two clean lots, after one
    ∷ (ran ours (on_b 1 ∷ on_b 0 ∷ on_b 0 ∷ byte 3 ∷ byte 3 ∷ []) is supply_of (tight 3 0) no_run)
    ∷ (ran ours (on_b 1 ∷ on_b 0 ∷ byte 3 ∷ byte 3 ∷ []) is supply_of (tight 0 1) no_run)
    -- a change of severity, by the fifth clean lot at tightened, two lots not accepted, the fifteenth clean lot, an
    -- order: no run is left to the plan of the same letter and column
    ∷ (ran ours five_tight is supply_of (started normal false false) no_run)
    ∷ (ran ours (on_b 1 ∷ five_tight) is supply_of (scored 0 1) no_run)
    ∷ (ran ours (on_b 1 ∷ on_b 0 ∷ five_tight) is supply_of (scored 4 0) no_run)
    ∷ (after_two (on_b 2 ∷ on_b 2 ∷ []) is supply_of (started tightened false false) no_run)
    ∷ (ran ours (fifteen ++ (byte 7 ∷ byte 5 ∷ [])) is supply_of (started reduced true true) no_run)
    ∷ (ran ours (byte 7 ∷ byte 6 ∷ byte 5 ∷ fifteen) is supply_of (on_normal 30 0 false true) (clean 2 "B" 15))
    ∷ (ran ours (byte 7 ∷ byte 5 ∷ fifteen) is supply_of (started reduced true true) no_run)
    ∷ (ran ours (on_b 0 ∷ byte 8 ∷ byte 7 ∷ byte 5 ∷ fifteen) is supply_of (on_normal 2 0 true false) (clean 1 "B" 15))
    ∷ []

-- Runs of calls from a fresh record.
pub runs : AllAsSaid run_cases
unfolding run_cases ran entered next close_fractional judge_fractional judge_by_share fractional_plan single_plan
    share_in share_at has_fractional_plan table_plan landing box_at tighter_ac letter_of row_of row_from check_book
    number_bytes numbers_of checked_as sections fifth all_sections section entries entry shift then_from key_falls rises
    numbers_from right staged_rule staged_number ac_keeps re_keeps same_key seek seek_in look_up every judge_items
    any_illegal sum_of judge_single close_single judge_total close_total plain_plan staged_plan total_size judge_stages
    staged_from stages_from stage_decides take_items judge_staged close_staged move clean_in_range step on_lot
    on_resubmitted on_order on_corrective figures_in_range event_in event_of lib.Count.ones
runs = refl

pub inside : List Supply
inside =
    -- normal: no run; 1/3 from A in column 15 to R in column 0; 1/2 from B in 15 to R in 1
    lent normal 0 0 0
    ∷ lent normal 1 0 15
    ∷ lent normal 2 15 0
    ∷ lent normal 2 1 15
    ∷ lent normal 1 15 1
    -- tightened: no run; 1/3 from B in column 15 to R in 1; 1/2 from C in 15 to R in 2
    ∷ lent tightened 0 0 0
    ∷ lent tightened 1 1 15
    ∷ lent tightened 2 15 1
    ∷ lent tightened 2 2 15
    ∷ lent tightened 1 15 2
    -- reduced and stopped: no run
    ∷ lent reduced 0 0 0
    ∷ lent stopped 0 0 0
    ∷ []

pub outside : List Supply
outside =
    -- "clean run is over 2"
    lent normal 3 1 15
    ∷ lent tightened 3 1 15
    -- "its plan is no fractional box of its severity beside a run of 1 or 2": beside the fractions of normal
    ∷ lent normal 1 0 0
    ∷ lent normal 2 0 14
    ∷ lent normal 1 2 15
    ∷ lent normal 2 15 2
    -- beside those of tightened
    ∷ lent tightened 1 0 0
    ∷ lent tightened 2 0 15
    ∷ lent tightened 1 15 0
    ∷ lent tightened 2 3 15
    ∷ lent tightened 1 15 3
    -- the letter S, which Table 1 does not give, and a letter past it
    ∷ lent normal 1 16 0
    ∷ lent tightened 1 16 0
    ∷ lent tightened 2 16 1
    ∷ lent tightened 2 17 0
    -- a column over 15
    ∷ lent normal 1 0 16
    ∷ lent tightened 1 0 16
    ∷ lent tightened 1 0 17
    ∷ lent tightened 2 1 16
    -- "or not 0 beside a run of 0": its letter, its column, both
    ∷ lent normal 0 1 0
    ∷ lent normal 0 0 1
    ∷ lent normal 0 0 15
    ∷ lent normal 0 15 0
    ∷ lent normal 0 1 15
    ∷ lent tightened 0 1 15
    -- reduced, stopped, and a severity over 3
    ∷ lent reduced 1 1 15
    ∷ lent reduced 2 1 15
    ∷ lent reduced 0 1 15
    ∷ lent stopped 1 1 15
    ∷ lent stopped 2 1 15
    ∷ lent stopped 0 1 15
    ∷ lent 4 0 0 0
    -- a clean run mends no other figure
    ∷ supply_of (scored 31 0) (clean 1 "B" 15)
    ∷ supply_of (tight 5 0) (clean 1 "B" 15)
    ∷ []

-- Lent records on both sides of each new bound.
pub within-range : map (λ s. supply_in_range s) inside ≡ replicate 12 true
unfolding inside clean_in_range has_fractional_plan share_at share_in figures_in_range lib.Count.ones
within-range = refl

pub out-of-range : map (λ s. supply_in_range s) outside ≡ replicate 34 false
unfolding outside clean_in_range has_fractional_plan share_at share_in figures_in_range lib.Count.ones
out-of-range = refl

-- a lot handed to close_lot, as on the fraction of this letter, column and total
abbrev handed : Record → CleanRun → String → ℕ → ℕ → Lot → Answer Supply
handed r c name column d l = moved (supply_of r c) (lot (on_fraction (the name) column d) l)

abbrev leaves : Record → CleanRun → Answer Supply
leaves r c = given (supply_of r c)

pub handed_cases : List (Case (Answer Supply))
handed_cases =
    -- on a fraction it counts by its total and the run, whatever it is handed over as
    (handed (scored 4 0) no_run "B" 15 0 not_accepted is leaves (scored 6 0) (clean 1 "B" 15))
    ∷ (handed (scored 4 0) no_run "B" 15 0 add_three is leaves (scored 6 0) (clean 1 "B" 15))
    ∷ (handed (scored 4 0) no_run "B" 15 1 add_two is leaves (scored 0 1) no_run)
    ∷ (handed (scored 4 0) (clean 1 "B" 15) "B" 15 1 not_accepted is leaves (scored 6 0) no_run)
    ∷ (handed (scored 4 0) (clean 1 "B" 14) "B" 14 1 add_two is leaves (scored 0 1) no_run)
    ∷ (handed (scored 4 0) (clean 2 "B" 14) "B" 14 1 score_zero is leaves (scored 6 0) no_run)
    ∷ (handed (scored 4 0) (clean 2 "A" 15) "B" 15 1 add_two is leaves (scored 0 1) no_run)
    ∷ (handed (scored 4 0) (clean 2 "B" 15) "B" 15 2 add_two is leaves (scored 0 1) no_run)
    ∷ (handed (scored 4 0) (clean 2 "B" 15) "B" 15 3 add_two is leaves (scored 0 1) no_run)
    ∷ (handed (scored 4 1) no_run "B" 15 1 add_two is leaves (started tightened false false) no_run)
    ∷ (handed (tight 1 0) (clean 1 "B" 15) "B" 15 1 add_two is leaves (tight 0 1) no_run)
    ∷ (handed (tight 1 0) (clean 2 "B" 15) "B" 15 1 not_accepted is leaves (tight 2 0) no_run)
    ∷ (handed (tight 4 0) (clean 2 "B" 15) "B" 15 0 not_accepted is leaves (started normal false false) no_run)
    -- a plan that is no fraction at the severity counts as handed over and clears the run: in column 15 C at normal
    -- and A at tightened; A in column 16; the letter S; reduced
    ∷ (handed (scored 4 0) (clean 2 "B" 15) "C" 15 0 add_three is leaves (scored 7 0) no_run)
    ∷ (handed (scored 4 0) (clean 2 "B" 15) "C" 15 0 not_accepted is leaves (scored 0 1) no_run)
    ∷ (handed (scored 4 0) (clean 2 "B" 15) "C" 15 2 add_two is leaves (scored 6 0) no_run)
    ∷ (handed (tight 1 0) (clean 2 "B" 15) "A" 15 0 not_accepted is leaves (tight 0 1) no_run)
    ∷ (handed (scored 4 0) (clean 2 "B" 15) "A" 16 0 add_three is leaves (scored 7 0) no_run)
    ∷ (handed (scored 4 0) (clean 2 "B" 15) "S" 0 0 add_three is leaves (scored 7 0) no_run)
    ∷ (handed (started reduced true true) no_run "B" 15 0 not_accepted is leaves (started normal true true) no_run)
    -- while stopped, and on a record out of range
    ∷ (handed (started stopped false false) no_run "B" 15 0 add_two is refused 5 0)
    ∷ (handed (scored 4 0) (clean 3 "B" 15) "B" 15 0 add_two is refused 1 0)
    ∷ []

-- Events handed to close_lot.
pub handings : AllAsSaid handed_cases
unfolding handed_cases move clean_in_range has_fractional_plan share_at share_in step on_lot figures_in_range
    lib.Count.ones
handings = refl

-- A line of Annex A: the lot's size, its letter, n, Ac and share, the nonconforming items, acceptable or not, the
-- switching score and the severity after.
pub record AnnexLine : Type 0 where
  pub size : ℕ
  pub letter : ℕ
  pub n : ℕ
  pub ac : ℕ
  pub share : ℕ
  pub bad : ℕ
  pub acceptable : Bool
  pub score : ℕ
  pub after : ℕ

abbrev line : ℕ → String → ℕ → ℕ → ℕ → ℕ → Bool → ℕ → ℕ → AnnexLine
line size name n ac share bad acceptable score after =
    record {
      size = size;
      letter = the name;
      n = n;
      ac = ac;
      share = share;
      bad = bad;
      acceptable = acceptable;
      score = score;
      after = after;
    }

-- "an AQL of 1 % nonconforming items with general inspection level II": a sample of the printed size, closed
abbrev closed_line : Supply → AnnexLine → Answer (Closed FractionalPlan)
closed_line s l = close_fractional s (offered false l.size 5 10) no_book (items l.n l.bad)

-- the line that a closed lot makes
abbrev line_by : AnnexLine → Answer (Closed FractionalPlan) → Answer AnnexLine
line_by l (refused n p) = refused n p
line_by l (given c) =
    given
    (record {
      size = l.size;
      letter = c.judged.plan.plan.letter;
      n = c.judged.verdict.used;
      ac = c.judged.plan.plan.ac;
      share = c.judged.plan.share;
      bad = c.judged.verdict.total;
      acceptable = c.judged.verdict.accepted;
      score = c.supply_after.switching.score;
      after = c.supply_after.switching.severity;
    })

abbrev supply_left : Supply → Answer (Closed FractionalPlan) → Supply
supply_left s (refused n p) = s
supply_left s (given c) = c.supply_after

-- each lot closed on what the one before it left
abbrev in_turn : Supply → List AnnexLine → List (Case (Answer AnnexLine))
in_turn s [] = []
in_turn s (l ∷ ls) =
    let c = closed_line s l in
    (line_by l c is given l) ∷ in_turn (supply_left s c) ls

-- Lots 1 to 10.
pub annex_to_ten : List AnnexLine
annex_to_ten =
    line 180 "G" 32 0 half 0 true 2 normal
    ∷ line 200 "G" 32 0 half 1 true 4 normal
    ∷ line 250 "G" 32 0 half 1 false 0 normal
    ∷ line 450 "H" 50 1 0 1 true 2 normal
    ∷ line 300 "H" 50 1 0 1 true 4 normal
    ∷ line 80 "E" 13 0 0 1 false 0 tightened
    ∷ line 800 "J" 80 1 0 1 true 0 tightened
    ∷ line 300 "H" 50 0 half 0 true 0 tightened
    ∷ line 100 "F" 20 0 0 0 true 0 tightened
    ∷ line 600 "J" 80 1 0 0 true 0 tightened
    ∷ []

-- Lot 11 (200, G, 1/3, one nonconforming item) is acceptable there by the acceptance score of 13.2.1.2, which T-01
-- leaves out; it restores normal. Lots 12 to 24, from a fresh record; the score of 30 leads to reduced where steady and
-- permission stand. Lot 25 is on a fraction of reduced inspection, which T-01 leaves out too.
pub annex_from_twelve : List AnnexLine
annex_from_twelve =
    line 250 "G" 32 0 half 0 true 2 normal
    ∷ line 600 "J" 80 2 0 1 true 5 normal
    ∷ line 80 "E" 13 0 0 0 true 7 normal
    ∷ line 200 "G" 32 0 half 0 true 9 normal
    ∷ line 500 "H" 50 1 0 0 true 11 normal
    ∷ line 100 "F" 20 0 third 0 true 13 normal
    ∷ line 120 "F" 20 0 third 0 true 15 normal
    ∷ line 85 "E" 13 0 0 0 true 17 normal
    ∷ line 300 "H" 50 1 0 1 true 19 normal
    ∷ line 500 "H" 50 1 0 0 true 21 normal
    ∷ line 700 "J" 80 2 0 1 true 24 normal
    ∷ line 600 "J" 80 2 0 0 true 27 normal
    ∷ line 550 "J" 80 2 0 0 true 30 normal
    ∷ []

-- "Switch to reduced": lot 24 where steady and permission stand; the change clears the score
pub annex_twenty_four : List AnnexLine
annex_twenty_four = line 550 "J" 80 2 0 0 true 0 reduced ∷ []

pub annex_cases : List (Case (Answer AnnexLine))
annex_cases =
    in_turn (fresh_supply false) annex_to_ten
    ++ (in_turn (fresh_supply false) annex_from_twelve
    ++ in_turn (supply_of (on_normal 27 0 true true) no_run) annex_twenty_four)

-- Annex A of source 002.
pub annex : AllAsSaid annex_cases
unfolding annex_cases annex_to_ten annex_from_twelve annex_twenty_four close_fractional judge_fractional judge_by_share
    fractional_plan single_plan share_in share_at has_fractional_plan table_plan landing box_at tighter_ac letter_of
    row_of row_from check_book number_bytes numbers_of checked_as sections fifth all_sections section entries entry
    shift then_from key_falls rises numbers_from right judge_items any_illegal sum_of move clean_in_range step on_lot
    figures_in_range lib.Count.ones
annex = refl
