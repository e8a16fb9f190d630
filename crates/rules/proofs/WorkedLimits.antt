-- Worked cases of document 02, T-07: readings judged with a known spread and for two limits, on plans handed over and
-- by a book, each list one claim.
-- Assumes nothing.
use Prim.Native.Nat.{ℕ, ◌-◌}
use mathlib.Core.Path.{refl}
use mathlib.Core.Bool.{Bool, true, false, cond}
use mathlib.Core.List.{List, [], ◌∷◌, ◌++◌, map}
use lib.IntN.{ℤ, pos, negsuc}
use Rattle.rules.specs.Refusals.{Answer, refused, given}
use Rattle.rules.specs.Numbers.{numbers_of, number_bytes, signed_of}
use Rattle.rules.specs.Codes.{letter_of, row_of, row_from}
use Rattle.rules.specs.Verdict.{Verdict, Judged}
use Rattle.rules.specs.Variables.{VariablesPlan, in_gauge, all_in_gauge, sum_z, squares_z, spread, margin}
use Rattle.rules.specs.Variables.{within_spread, accepts_readings}
use Rattle.rules.specs.Limits.{Spread, estimated, known, Limits, one, both, within_sigma, side_accepts}
use Rattle.rules.specs.Limits.{SidesPlan, accepts_limits, spread_in, limits_in, judge_readings}
use Rattle.rules.specs.Book.{check_book, checked_as, all_sections, fifth, sections, section, entries, entry}
use Rattle.rules.specs.Book.{key_falls, rises, numbers_from, right, shift, then_from, look_up, seek_in, seek, same_key}
use Rattle.rules.specs.Entries.{Asked, readings_plan, sides_plan, judge_limit, judge_sides}
use Rattle.rules.proofs.Cases.{Case, ◌is◌, AllAsSaid}

-- a reading's 16 bits, in two's complement
coded : ℤ → ℕ
coded (pos n) = n
coded (negsuc n) = 65535 - n

-- accepted and the items used; or a refusal
verdict_of : Answer Verdict → List ℕ
verdict_of (refused n p) = n ∷ []
verdict_of (given v) = cond v.accepted 1 0 ∷ v.used ∷ []

judged : Spread → Limits → ℕ → ℕ → ℕ → List ℤ → List ℕ
judged m limits n upper_k lower_k xs =
    verdict_of
    (judge_readings m limits (record { n = n; upper_k = upper_k; lower_k = lower_k }) (number_bytes (map coded xs)))

-- two readings of 10, for one limit with a known spread
tens : Bool → ℤ → ℕ → ℕ → List ℕ
tens upper limit sigma k = judged (known sigma) (one upper limit) 2 k k (pos 10 ∷ pos 10 ∷ [])

-- 10, 12 and 14, for two limits by the s method
three : ℤ → ℤ → ℕ → ℕ → List ℕ
three upper lower upper_k lower_k =
    judged estimated (both upper lower) 3 upper_k lower_k (pos 10 ∷ pos 12 ∷ pos 14 ∷ [])

-- Source 001, 14.4, in hundredths of a second from 6.50 s: delays of 4 to 9 s.
published : List ℤ
published =
    pos 45 ∷ negsuc 45 ∷ pos 18 ∷ pos 13 ∷ pos 15 ∷ negsuc 9 ∷ negsuc 5 ∷ negsuc 15 ∷ negsuc 45 ∷ negsuc 34
    ∷ negsuc 5 ∷ pos 65 ∷ pos 20 ∷ pos 9 ∷ pos 1 ∷ negsuc 14 ∷ pos 67 ∷ pos 33 ∷ negsuc 24 ∷ pos 46 ∷ pos 30
    ∷ negsuc 65 ∷ negsuc 34 ∷ negsuc 24 ∷ pos 7 ∷ pos 2 ∷ pos 9 ∷ pos 36 ∷ pos 7 ∷ pos 41 ∷ negsuc 20 ∷ pos 13
    ∷ pos 20 ∷ pos 17 ∷ pos 17 ∷ []

pub reading_cases : List (Case (List ℕ))
reading_cases =
    -- K · sigma · n at 1,000,000 (nU − S), and one more; from below; half the spread with twice the K
    (tens true (pos 11) 1000 1000 is (1 ∷ 2 ∷ []))
    ∷ (tens true (pos 11) 1000 1001 is (0 ∷ 2 ∷ []))
    ∷ (tens false (pos 9) 1000 1000 is (1 ∷ 2 ∷ []))
    ∷ (tens false (pos 9) 1000 1001 is (0 ∷ 2 ∷ []))
    ∷ (tens true (pos 11) 500 2000 is (1 ∷ 2 ∷ []))
    ∷ (tens true (pos 11) 500 2001 is (0 ∷ 2 ∷ []))
    -- no margin, a negative one, seen from either side
    ∷ (tens true (pos 10) 1 1 is (0 ∷ 2 ∷ []))
    ∷ (tens true (pos 9) 1 1 is (0 ∷ 2 ∷ []))
    ∷ (tens false (pos 10) 1 1 is (0 ∷ 2 ∷ []))
    ∷ (tens false (pos 11) 1 1 is (0 ∷ 2 ∷ []))
    ∷ (tens true (negsuc 999) 1000 4000 is (0 ∷ 2 ∷ []))
    ∷ (tens false (negsuc 999) 1000 4000 is (1 ∷ 2 ∷ []))
    -- sigma 0, 1, 1,000 and 1,001
    ∷ (tens true (pos 11) 0 1000 is (9 ∷ []))
    ∷ (tens true (pos 11) 1 4000 is (1 ∷ 2 ∷ []))
    ∷ (tens true (pos 14) 1000 4000 is (1 ∷ 2 ∷ []))
    ∷ (tens true (pos 14) 1001 4000 is (9 ∷ []))
    -- the limit out of range
    ∷ (tens true (pos 1001) 1 1 is (9 ∷ []))
    ∷ (tens false (negsuc 1000) 1 1 is (9 ∷ []))
    -- two limits: both sides at equality, and each one more; each K on its own side
    ∷ (three (pos 19) (pos 5) 3500 3500 is (1 ∷ 3 ∷ []))
    ∷ (three (pos 19) (pos 5) 3501 3500 is (0 ∷ 3 ∷ []))
    ∷ (three (pos 19) (pos 5) 3500 3501 is (0 ∷ 3 ∷ []))
    ∷ (three (pos 20) (pos 5) 4000 3500 is (1 ∷ 3 ∷ []))
    ∷ (three (pos 20) (pos 5) 3500 4000 is (0 ∷ 3 ∷ []))
    -- a negative margin on one side, whatever its square
    ∷ (three (pos 20) (pos 19) 1 1 is (0 ∷ 3 ∷ []))
    ∷ (three (pos 5) (pos 4) 1 1 is (0 ∷ 3 ∷ []))
    -- limits equal, crossed, and one apart; at the ends of the range, and past them
    ∷ (three (pos 12) (pos 12) 1 1 is (9 ∷ []))
    ∷ (three (pos 5) (pos 19) 1 1 is (9 ∷ []))
    ∷ (three (pos 13) (pos 12) 1 1 is (0 ∷ 3 ∷ []))
    ∷ (three (pos 1000) (negsuc 999) 4000 4000 is (1 ∷ 3 ∷ []))
    ∷ (three (pos 1001) (negsuc 999) 4000 4000 is (9 ∷ []))
    ∷ (three (pos 1000) (negsuc 1000) 4000 4000 is (9 ∷ []))
    -- both with a known spread
    ∷ (judged (known 1000) (both (pos 11) (pos 9)) 2 1000 1000 (pos 10 ∷ pos 10 ∷ []) is (1 ∷ 2 ∷ []))
    ∷ (judged (known 1000) (both (pos 11) (pos 9)) 2 1001 1000 (pos 10 ∷ pos 10 ∷ []) is (0 ∷ 2 ∷ []))
    ∷ (judged (known 1000) (both (pos 11) (pos 9)) 2 1000 1001 (pos 10 ∷ pos 10 ∷ []) is (0 ∷ 2 ∷ []))
    -- sigma out of range, limits equal, with a known spread
    ∷ (judged (known 0) (both (pos 11) (pos 9)) 2 1 1 (pos 10 ∷ pos 10 ∷ []) is (9 ∷ []))
    ∷ (judged (known 1) (both (pos 10) (pos 10)) 2 1 1 (pos 10 ∷ pos 10 ∷ []) is (9 ∷ []))
    -- 7 before 9
    ∷ (judged (known 0) (both (pos 9) (pos 9)) 2 1 1 (pos 10 ∷ []) is (7 ∷ []))
    ∷ (judged (known 1) (one true (pos 9)) 2 1 1 (pos 1001 ∷ pos 0 ∷ []) is (9 ∷ []))
    -- the published lot is accepted; with 6.30 s for its 9 s it is not
    ∷ (judged estimated (both (pos 250) (negsuc 249)) 35 1570 2540 published is (1 ∷ 35 ∷ []))
    ∷ (judged estimated (both (negsuc 19) (negsuc 249)) 35 1570 2540 published is (0 ∷ 35 ∷ []))
    ∷ []

pub reading-cases : AllAsSaid reading_cases
unfolding reading_cases coded verdict_of judged tens three published judge_readings accepts_limits side_accepts
    within_sigma accepts_readings within_spread margin spread sum_z squares_z spread_in limits_in in_gauge all_in_gauge
    number_bytes numbers_of signed_of
reading-cases = refl

-- three s plans and three sigma plans of letter A under normal; the same without the sigma plans
four_sections : List ℕ
four_sections = 0 ∷ 0 ∷ 0 ∷ 3 ∷ 0 ∷ 0 ∷ 10 ∷ 3 ∷ 3500 ∷ 0 ∷ 0 ∷ 11 ∷ 3 ∷ 4000 ∷ 0 ∷ 0 ∷ 12 ∷ 4 ∷ 3000 ∷ []

five_sections : List ℕ
five_sections =
    four_sections ++ (3 ∷ 0 ∷ 0 ∷ 10 ∷ 2 ∷ 1000 ∷ 0 ∷ 0 ∷ 11 ∷ 2 ∷ 2000 ∷ 0 ∷ 0 ∷ 13 ∷ 3 ∷ 1000 ∷ [])

-- a lot of 8 items, level II
asked : ℕ → ℕ → Asked
asked severity column = record { severity = severity; size = 8; level = 5; column = column }

-- a lot judged for two limits: accepted, the items used and the two K's; or a refusal
sides : Answer (Judged SidesPlan Verdict) → List ℕ
sides (refused n p) = n ∷ []
sides (given j) = cond j.verdict.accepted 1 0 ∷ j.verdict.used ∷ j.plan.upper_k ∷ j.plan.lower_k ∷ []

by_s : ℤ → ℤ → Asked → ℕ → List ℕ
by_s upper lower q column =
    sides
    (judge_sides estimated (both upper lower) q column (number_bytes five_sections) (number_bytes (10 ∷ 12 ∷ 14 ∷ [])))

by_sigma : ℕ → Asked → ℕ → List ℕ → List ℕ
by_sigma sigma q column book =
    sides (judge_sides (known sigma) (both (pos 11) (pos 9)) q column (number_bytes book) (number_bytes (10 ∷ 10 ∷ [])))

-- for one limit: accepted, the items used and K
limited : Spread → Bool → ℤ → Asked → List ℕ → List ℕ
limited m upper limit q book = on (judge_limit m upper q (number_bytes book) limit (number_bytes (10 ∷ 10 ∷ [])))
  where
    on : Answer (Judged VariablesPlan Verdict) → List ℕ
    on (refused n p) = n ∷ []
    on (given j) = cond j.verdict.accepted 1 0 ∷ j.verdict.used ∷ j.plan.k ∷ []

small : Asked
small = record { severity = 0; size = 2; level = 5; column = 10 }

pub lot_cases : List (Case (List ℕ))
lot_cases =
    -- each K under its own column; the columns exchanged; both the same
    (by_s (pos 20) (pos 5) (asked 0 11) 10 is (1 ∷ 3 ∷ 4000 ∷ 3500 ∷ []))
    ∷ (by_s (pos 20) (pos 5) (asked 0 10) 11 is (0 ∷ 3 ∷ 3500 ∷ 4000 ∷ []))
    ∷ (by_s (pos 19) (pos 5) (asked 0 10) 10 is (1 ∷ 3 ∷ 3500 ∷ 3500 ∷ []))
    -- n differs; no entry on either side; n above the lot
    ∷ (by_s (pos 20) (pos 5) (asked 0 10) 12 is (6 ∷ []))
    ∷ (by_s (pos 20) (pos 5) (asked 0 12) 10 is (6 ∷ []))
    ∷ (by_s (pos 20) (pos 5) (asked 0 10) 13 is (6 ∷ []))
    ∷ (by_s (pos 20) (pos 5) (asked 0 13) 10 is (6 ∷ []))
    ∷ (by_s (pos 20) (pos 5) small 10 is (6 ∷ []))
    -- 4 for either column, before 5 and 6; 5; 1 before 4
    ∷ (by_s (pos 20) (pos 5) (asked 0 13) 26 is (4 ∷ []))
    ∷ (by_s (pos 20) (pos 5) (asked 0 26) 13 is (4 ∷ []))
    ∷ (by_s (pos 20) (pos 5) (asked 3 10) 26 is (4 ∷ []))
    ∷ (by_s (pos 20) (pos 5) (asked 3 10) 10 is (5 ∷ []))
    ∷ (by_s (pos 20) (pos 5) (asked 4 26) 10 is (1 ∷ []))
    -- 6 before 9
    ∷ (by_s (pos 5) (pos 20) (asked 0 10) 12 is (6 ∷ []))
    ∷ (by_s (pos 5) (pos 20) (asked 0 10) 10 is (9 ∷ []))
    -- a known spread, from the fifth section; a book without one
    ∷ (by_sigma 1000 (asked 0 10) 10 five_sections is (1 ∷ 2 ∷ 1000 ∷ 1000 ∷ []))
    ∷ (by_sigma 1000 (asked 0 11) 10 five_sections is (0 ∷ 2 ∷ 2000 ∷ 1000 ∷ []))
    ∷ (by_sigma 1001 (asked 0 10) 10 five_sections is (9 ∷ []))
    ∷ (by_sigma 1000 (asked 0 12) 12 five_sections is (6 ∷ []))
    ∷ (by_sigma 1000 (asked 0 10) 13 five_sections is (6 ∷ []))
    ∷ (by_sigma 1000 (asked 0 10) 10 four_sections is (6 ∷ []))
    ∷ (limited (known 1000) true (pos 11) (asked 0 10) five_sections is (1 ∷ 2 ∷ 1000 ∷ []))
    ∷ (limited (known 1000) false (pos 9) (asked 0 11) five_sections is (0 ∷ 2 ∷ 2000 ∷ []))
    ∷ (limited (known 1000) true (pos 11) (asked 0 10) four_sections is (6 ∷ []))
    ∷ (limited estimated true (pos 11) (asked 0 10) five_sections is (7 ∷ []))
    ∷ []

pub lot-cases : AllAsSaid lot_cases
unfolding lot_cases coded sides by_s by_sigma limited small asked four_sections five_sections judge_sides judge_limit
    sides_plan readings_plan look_up seek_in seek same_key letter_of row_of row_from check_book checked_as all_sections
    fifth sections section entries entry key_falls rises numbers_from right shift then_from judge_readings
    accepts_limits side_accepts within_sigma accepts_readings within_spread margin spread sum_z squares_z spread_in
    limits_in in_gauge all_in_gauge number_bytes numbers_of signed_of
lot-cases = refl
