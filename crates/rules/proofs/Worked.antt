-- Document 01, 'Worked at the edges': the starred cases together, as one list under one claim, of the definitions; the
-- other cases, and edges beside them, as a second list; what the screen shows; then lotlog's whole listing, and two of
-- its edges.
-- Assumes nothing.
use Prim.Native.Nat.{ℕ}
use mathlib.Core.Path.{◌≡◌, refl}
use mathlib.Core.Bool.{Bool, true, false}
use mathlib.Core.List.{List, [], ◌∷◌, ◌++◌}
use lib.IntN.{ℤ, pos, negsuc}
use lib.Ieee.{binary64, fin, of_bits}
use lib.ListN.{length, get_or, replicate}
use Rattle.rules.specs.Refusals.{Answer, refused, given}
use Rattle.rules.specs.Ascii.{ascii}
use Rattle.rules.specs.Codes.{normal, tightened, reduced, letter_of, row_of, row_from}
use Rattle.rules.specs.Verdict.{Verdict}
use Rattle.rules.specs.Single.{Landing, Plan, landing_of, landing, box_at, sizes, table_plan, tighter_ac}
use Rattle.rules.specs.Sequential.{SequentialPlan, sequential_from, item_decides, judge_sequence}
use Rattle.rules.specs.Numbers.{numbers_of, signed_of, number_bytes}
use Rattle.rules.specs.Staged.{StagedPlan, mark, stages_from, stage_decides, take_items, staged_from, judge_stages}
use Rattle.rules.specs.Screen.{Shown, mean, mean_and_variance, quotient, shown_of, screen}
use Rattle.rules.specs.Variables.{accepts_readings, within_spread, margin, spread, sum_z, squares_z, in_gauge}
use Rattle.rules.specs.Variables.{all_in_gauge}
use Rattle.rules.specs.Supply.{move, clean_in_range}
use Rattle.rules.specs.Severity.{on_lot, on_resubmitted, on_order, on_corrective, step, figures_in_range}
use Rattle.rules.specs.Reading.{severity_read, stay_after, steady_in, permission_in, not_accepted_in, run_of}
use Rattle.rules.specs.Reading.{points_of, read_lot, read_order, read_event}
use Rattle.rules.specs.History.{ours, past, event_in, event_of}
use Rattle.rules.specs.Entries.{next, close_total, judge_total, plain_plan}
use Rattle.rules.specs.Log.{log, log_from, logged_as, line_of, split_at, dropping_empty_last, all_digits, value_from}
use Rattle.rules.specs.Log.{is_number, digits_from, printed, letter_name}
use Rattle.rules.proofs.Cases.{Case, ◌is◌, AllAsSaid}

-- the letter that gives the size, the size, and Ac
landed_at : Landing → List ℕ
landed_at l = l.letter ∷ get_or sizes l.letter 0 ∷ l.ac ∷ []

yes_no : Bool → ℕ
yes_no true = 1
yes_no false = 0

-- a refusal is its number; a verdict is 1 or 0 and the items used
verdict_of : Answer Verdict → List ℕ
verdict_of (refused n p) = n ∷ []
verdict_of (given v) = yes_no v.accepted ∷ v.used ∷ []

-- hA 1.750, hR 2.247, g 0.0957, nt 98, At 9
sequence : SequentialPlan
sequence = record { h_a = 1750; h_r = 2247; g = 9570; nt = 98; at_nt = 9 }

-- a bad item at each tenth, up to the ninetieth, which keeps the total between the lines; then the last eight
after_ninety : List ℕ → List ℕ
after_ninety last =
    let ten : List ℕ = replicate 9 0 ++ (1 ∷ []) in
    ten ++ (ten ++ (ten ++ (ten ++ (ten ++ (ten ++ (ten ++ (ten ++ (ten ++ last))))))))

readings : List ℤ → ℕ → ℕ → List ℕ
readings xs u k = yes_no (accepts_readings true (record { n = 3; k = k }) (pos u) xs) ∷ []

-- the severity that a history ends with, by the written reading
unfoldable pub ends : List ℕ → List ℕ
ends h = severity_read ours.permission (past ours h (length h)) ∷ []

-- what the definitions give at each starred case, and what document 01 says, in its order
pub starred_cases : List (Case (List ℕ))
starred_cases =
    (letter_name (letter_of 8 6) is ascii "B")
    ∷ (letter_name (letter_of 9 6) is ascii "C")
    ∷ (letter_name (letter_of 500 5) is ascii "H")
    ∷ (letter_name (letter_of 501 5) is ascii "J")
    ∷ (landed_at (landing_of normal 9 10) is (10 ∷ 200 ∷ 3 ∷ []))
    ∷ (landed_at (landing_of normal 11 9) is (9 ∷ 125 ∷ 5 ∷ []))
    ∷ (landed_at (landing_of tightened 11 9) is (9 ∷ 125 ∷ 3 ∷ []))
    ∷ (landed_at (landing_of normal 1 15) is (13 ∷ 800 ∷ 0 ∷ []))
    ∷ (landed_at (landing_of tightened 2 15) is (16 ∷ 3150 ∷ 1 ∷ []))
    ∷ (landed_at (landing_of normal 15 0) is (2 ∷ 5 ∷ 1 ∷ []))
    ∷ (verdict_of (sequential_from sequence false 0 0 (replicate 19 0)) is (1 ∷ 19 ∷ []))
    ∷ (verdict_of (sequential_from sequence false 0 0 (replicate 18 0)) is (7 ∷ []))
    ∷ (verdict_of (sequential_from sequence false 0 0 (replicate 3 1)) is (0 ∷ 3 ∷ []))
    ∷ (verdict_of (sequential_from sequence false 0 0 (after_ninety (replicate 8 0))) is (1 ∷ 98 ∷ []))
    ∷ (verdict_of (sequential_from sequence false 0 0 (after_ninety (replicate 7 0 ++ (1 ∷ [])))) is (0 ∷ 98 ∷ []))
    ∷ (readings (pos 10 ∷ pos 12 ∷ pos 14 ∷ []) 20 4000 is (1 ∷ []))
    ∷ (readings (pos 10 ∷ pos 12 ∷ pos 14 ∷ []) 19 3500 is (1 ∷ []))
    ∷ (readings (pos 10 ∷ pos 12 ∷ pos 14 ∷ []) 19 3501 is (0 ∷ []))
    ∷ (readings (pos 10 ∷ pos 12 ∷ pos 14 ∷ []) 11 1 is (0 ∷ []))
    ∷ (readings (pos 20 ∷ pos 20 ∷ pos 20 ∷ []) 20 4000 is (1 ∷ []))
    ∷ (ends (3 ∷ 0 ∷ 0 ∷ 0 ∷ 3 ∷ []) is (tightened ∷ []))
    ∷ (ends (3 ∷ 0 ∷ 0 ∷ 0 ∷ 0 ∷ 3 ∷ []) is (normal ∷ []))
    ∷ (ends (5 ∷ 7 ∷ replicate 10 0) is (reduced ∷ []))
    ∷ (ends (5 ∷ 7 ∷ replicate 9 0) is (normal ∷ []))
    ∷ []

-- The starred cases, together.
pub starred : AllAsSaid starred_cases
unfolding starred_cases landed_at yes_no verdict_of sequence after_ninety readings ends letter_of row_of row_from
    landing box_at sequential_from item_decides accepts_readings within_spread margin spread sum_z squares_z stay_after
    steady_in permission_in not_accepted_in run_of points_of read_lot read_order read_event past event_in event_of
starred = refl

-- stages of 3 with (#,2)(0,3)(0,3)(1,3)(3,4)
five_stages : StagedPlan
five_stages =
    record {
      stages = 5;
      sizes = 3 ∷ 3 ∷ 3 ∷ 3 ∷ 3 ∷ 0 ∷ 0 ∷ [];
      acs = mark ∷ 0 ∷ 0 ∷ 1 ∷ 3 ∷ 0 ∷ 0 ∷ [];
      res = 2 ∷ 3 ∷ 3 ∷ 3 ∷ 4 ∷ 0 ∷ 0 ∷ [];
    }

staged : List ℕ → List ℕ
staged items = verdict_of (judge_stages 10 five_stages (number_bytes items))

-- both lines met exactly: hA 1, g 0.1, so that 10 clean items stand on the first; hR 1.8, so that 2 bad ones stand on
-- the second
on_the_lines : SequentialPlan
on_the_lines = record { h_a = 1000; h_r = 1800; g = 10000; nt = 50; at_nt = 4 }

-- "For a lower limit L use S − nL."
from_below : List ℤ → ℕ → ℕ → List ℕ
from_below xs l k = yes_no (accepts_readings false (record { n = 3; k = k }) (pos l) xs) ∷ []

planned : Plan → List ℕ
planned p = p.letter ∷ p.n ∷ p.ac ∷ p.table_n ∷ yes_no p.cut ∷ []

-- a refusal of the screen; what it shows stands in a list of its own
not_shown : Answer Shown → List ℕ
not_shown (refused n p) = n ∷ []
not_shown (given s) = []

pub edge_cases : List (Case (List ℕ))
edge_cases =
    (planned (table_plan normal 10 5 5) is (9 ∷ 10 ∷ 0 ∷ 125 ∷ 1 ∷ []))
    ∷ (staged (replicate 6 0) is (1 ∷ 6 ∷ []))
    ∷ (staged (1 ∷ 0 ∷ 0 ∷ 1 ∷ 0 ∷ 0 ∷ 0 ∷ 0 ∷ 0 ∷ 0 ∷ 0 ∷ 0 ∷ 1 ∷ 0 ∷ 0 ∷ []) is (1 ∷ 15 ∷ []))
    -- at least Re rejects; nothing may follow; a half item; whichever of 7 and 8 is met first
    ∷ (staged (1 ∷ 1 ∷ 0 ∷ []) is (0 ∷ 3 ∷ []))
    ∷ (staged (replicate 7 0) is (7 ∷ []))
    ∷ (verdict_of (judge_stages 10 five_stages (number_bytes (replicate 6 0) ++ (0 ∷ []))) is (7 ∷ []))
    ∷ (staged (2 ∷ []) is (8 ∷ []))
    ∷ (staged (replicate 6 0 ++ (2 ∷ [])) is (7 ∷ []))
    -- compared exactly
    ∷ (verdict_of (judge_sequence on_the_lines (number_bytes (replicate 10 0))) is (1 ∷ 10 ∷ []))
    ∷ (verdict_of (judge_sequence on_the_lines (number_bytes (replicate 9 0))) is (7 ∷ []))
    ∷ (verdict_of (judge_sequence on_the_lines (number_bytes (1 ∷ 1 ∷ []))) is (0 ∷ 2 ∷ []))
    -- a lower limit, the same readings seen from below
    ∷ (from_below (pos 10 ∷ pos 12 ∷ pos 14 ∷ []) 4 4000 is (1 ∷ []))
    ∷ (from_below (pos 10 ∷ pos 12 ∷ pos 14 ∷ []) 5 3500 is (1 ∷ []))
    ∷ (from_below (pos 10 ∷ pos 12 ∷ pos 14 ∷ []) 5 3501 is (0 ∷ []))
    ∷ (from_below (pos 10 ∷ pos 12 ∷ pos 14 ∷ []) 13 1 is (0 ∷ []))
    -- the screen: no reading, half a reading, 50, 51; 1,000, 1,001, −1,000, −1,001
    ∷ (not_shown (screen []) is (7 ∷ []))
    ∷ (not_shown (screen (7 ∷ [])) is (7 ∷ []))
    ∷ (not_shown (screen (replicate 100 0)) is [])
    ∷ (not_shown (screen (replicate 102 0)) is (7 ∷ []))
    ∷ (not_shown (screen (232 ∷ 3 ∷ [])) is [])
    ∷ (not_shown (screen (233 ∷ 3 ∷ [])) is (9 ∷ []))
    ∷ (not_shown (screen (24 ∷ 252 ∷ [])) is [])
    ∷ (not_shown (screen (23 ∷ 252 ∷ [])) is (9 ∷ []))
    ∷ []

-- The cases that are not starred, and edges beside them.
pub edges : AllAsSaid edge_cases
unfolding edge_cases planned staged five_stages from_below accepts_readings within_spread margin spread number_bytes
    on_the_lines verdict_of yes_no not_shown table_plan letter_of row_of row_from landing box_at judge_stages
    staged_from stages_from stage_decides take_items judge_sequence sequential_from item_decides numbers_of screen
    shown_of all_in_gauge in_gauge signed_of sum_z squares_z
edges = refl

-- The screen's figures: 7 alone; 7 and 9, mean 8 and variance 2; −1 and 0, −1/2 and 1/2; and 1, 2, 2, whose mean 5/3
-- and variance 1/3 are rounded, by their bits.
pub screen_cases : List (Case (Answer Shown))
screen_cases =
    (screen (7 ∷ 0 ∷ []) is given (mean (fin false 7 (pos 0))))
    ∷ (screen (7 ∷ 0 ∷ 9 ∷ 0 ∷ []) is given (mean_and_variance (fin false 1 (pos 3)) (fin false 1 (pos 1))))
    ∷ (screen (255 ∷ 255 ∷ 0 ∷ 0 ∷ []) is given (mean_and_variance (fin true 1 (negsuc 0)) (fin false 1 (negsuc 0))))
    ∷ (screen (1 ∷ 0 ∷ 2 ∷ 0 ∷ 2 ∷ 0 ∷ [])
    is given (mean_and_variance (of_bits binary64 4610184818551597739) (of_bits binary64 4599676419421066581)))
    ∷ []

pub screens : AllAsSaid screen_cases
unfolding screen_cases screen shown_of quotient spread numbers_of all_in_gauge in_gauge signed_of sum_z squares_z
    lib.Ieee.div lib.Ieee.of_int lib.Ieee.of_bits
screens = refl

pub input : List ℕ
input =
    ascii "L 1000 5 10 1\nL 1000 5 10 2\nL 1000 5 10 3\nR 1000 5 10 0\nL 1000 5 10 4\nL 1000 5 10 1\nL 1 5 10 0\nC\n"

pub output : List ℕ
output =
    ascii "no sev let n ac verdict next score\n"
    ++ ascii "1 N J 80 2 accept N 3\n2 N J 80 2 accept N 0\n3 N J 80 2 reject N 0\n4 N J 80 2 accept N 0\n"
    ++ ascii "5 N J 80 2 reject T 0\n6 T J 80 1 accept T 0\n7 refused 2\n8 refused 10\n"

-- lotlog's "Output, whole".
pub listing : log ours input ≡ output
unfolding input output log log_from logged_as line_of split_at dropping_empty_last all_digits value_from is_number
    digits_from printed next move clean_in_range close_total judge_total plain_plan table_plan landing box_at tighter_ac
    letter_of row_of row_from step on_lot on_resubmitted on_order on_corrective figures_in_range event_in event_of
    lib.Count.ones
listing = refl

pub other_input : List ℕ
other_input = ascii "S 1\nS 2\nP 1\nL 1000 5 10 01\n\nL 1000 5 10  1\nC 1\nL 1000 5 10 81\nL 1000 5 10 0"

-- Orders; a number over 1, a leading zero, a blank line, two spaces, a field too many; a total over n; the last line
-- without its newline.
pub other_output : List ℕ
other_output =
    ascii "no sev let n ac verdict next score\n"
    ++ ascii "1 order N 0\n2 refused 1\n3 order N 0\n4 refused 1\n5 refused 1\n6 refused 1\n7 refused 1\n8 refused 8\n"
    ++ ascii "9 N J 80 2 accept N 3\n"

pub other-listing : log ours other_input ≡ other_output
unfolding other_input other_output log log_from logged_as line_of split_at dropping_empty_last all_digits value_from
    is_number digits_from printed next move clean_in_range close_total judge_total plain_plan table_plan landing box_at
    tighter_ac letter_of row_of row_from step on_lot on_resubmitted on_order on_corrective figures_in_range event_in
    event_of lib.Count.ones
other-listing = refl

-- Ten lots to reduced, where a lot has no book; steady withdrawn; sizes over and at the largest number, landing on Q, P
-- and R, and under tightened on S; two not accepted, then five to stopped; a corrective order.
pub third_input : List ℕ
third_input =
    ascii "S 1\nP 1\nL 1000 5 10 0\nL 1000 5 10 0\nL 1000 5 10 0\nL 1000 5 10 0\nL 1000 5 10 0\nL 1000 5 10 0\n"
    ++ ascii "L 1000 5 10 0\nL 1000 5 10 0\nL 1000 5 10 0\nL 1000 5 10 0\nL 1000 5 10 0\nS 0\n"
    ++ ascii "L 4294967295 6 0 0\nL 4294967295 6 1 0\nL 4294967295 6 2 0\nL 4294967296 6 2 0\nS 2\nP 0\n"
    ++ ascii "L 1000 5 10 3\nL 1000 5 10 3\nL 4294967295 6 2 2\nL 1000 5 10 2\nL 1000 5 10 2\nL 1000 5 10 2\n"
    ++ ascii "L 1000 5 10 2\nL 1000 5 10 0\nR 1000 5 10 0\nC\n"

pub third_output : List ℕ
third_output =
    ascii "no sev let n ac verdict next score\n1 order N 0\n2 order N 0\n"
    ++ ascii "3 N J 80 2 accept N 3\n4 N J 80 2 accept N 6\n5 N J 80 2 accept N 9\n6 N J 80 2 accept N 12\n"
    ++ ascii "7 N J 80 2 accept N 15\n8 N J 80 2 accept N 18\n9 N J 80 2 accept N 21\n10 N J 80 2 accept N 24\n"
    ++ ascii "11 N J 80 2 accept N 27\n12 N J 80 2 accept R 0\n13 refused 6\n14 order N 0\n"
    ++ ascii "15 N Q 1250 0 accept N 2\n16 N P 800 0 accept N 4\n17 N R 2000 1 accept N 6\n18 refused 1\n"
    ++ ascii "19 refused 1\n20 order N 6\n21 N J 80 2 reject N 0\n22 N J 80 2 reject T 0\n"
    ++ ascii "23 T S 3150 1 reject T 0\n24 T J 80 1 reject T 0\n25 T J 80 1 reject T 0\n26 T J 80 1 reject T 0\n"
    ++ ascii "27 T J 80 1 reject X 0\n28 refused 5\n29 refused 5\n30 order T 0\n"

pub third-listing : log ours third_input ≡ third_output
unfolding third_input third_output log log_from logged_as line_of split_at dropping_empty_last all_digits value_from
    is_number digits_from printed next move clean_in_range close_total judge_total plain_plan table_plan landing box_at
    tighter_ac letter_of row_of row_from step on_lot on_resubmitted on_order on_corrective figures_in_range event_in
    event_of lib.Count.ones
third-listing = refl
