-- Document 02, T-05, worked: plans whose size is below, at and above the lot, of the tables and of a book, the plans
-- that closed lots have, and the lines that lotlog prints of such lots.
-- Assumes nothing.
use Prim.Native.Nat.{ℕ}
use mathlib.Core.Path.{◌≡◌, refl}
use mathlib.Core.Bool.{cond, false}
use mathlib.Core.List.{List, [], ◌∷◌, ◌++◌}
use lib.ListN.{replicate}
use Rattle.rules.specs.Ascii.{ascii}
use Rattle.rules.specs.Refusals.{Answer, refused, given}
use Rattle.rules.specs.Codes.{normal, tightened, reduced, letter_of, row_of, row_from, any_illegal}
use Rattle.rules.specs.Numbers.{numbers_of, number_bytes, sum_of}
use Rattle.rules.specs.Single.{Plan, landing, box_at, table_plan, tighter_ac, judge_items}
use Rattle.rules.specs.Curtailed.{curtailed_from, judge_until_lost}
use Rattle.rules.specs.Fractional.{share_in, share_at, has_fractional_plan, judge_by_share}
use Rattle.rules.specs.Severity.{on_lot, on_resubmitted, on_order, on_corrective, step, figures_in_range}
use Rattle.rules.specs.Supply.{Supply, fresh_supply, move, clean_in_range}
use Rattle.rules.specs.History.{ours, event_in, event_of}
use Rattle.rules.specs.Book.{check_book, checked_as, sections, section, entries, entry, shift, then_from, key_falls}
use Rattle.rules.specs.Book.{rises, numbers_from, right, look_up, same_key, seek, seek_in, every, fifth, all_sections}
use Rattle.rules.specs.Entries.{Offered, single_plan, plain_plan, curtailed_plan, fractional_plan, judge_single}
use Rattle.rules.specs.Entries.{judge_curtailed, judge_fractional, judge_total, close_single, close_curtailed}
use Rattle.rules.specs.Entries.{close_fractional, close_total, next}
use Rattle.rules.specs.Log.{log, log_from, logged_as, line_of, split_at, dropping_empty_last, all_digits, value_from}
use Rattle.rules.specs.Log.{is_number, digits_from, printed}
use Rattle.rules.proofs.Cases.{Case, ◌is◌, AllAsSaid}

-- two reduced singles at 1.0: A, n 1, Ac 0; C, n 20, Ac 1
book : List ℕ
book = number_bytes (2 ∷ 0 ∷ 10 ∷ 1 ∷ 0 ∷ 2 ∷ 10 ∷ 20 ∷ 1 ∷ 0 ∷ 0 ∷ 0 ∷ [])

-- letter, n, Ac, the table's own size, and 1 where that is cut; a refusal is its number and place
figures : Answer Plan → List ℕ
figures (refused n p) = n ∷ p ∷ []
figures (given p) = p.letter ∷ p.n ∷ p.ac ∷ p.table_n ∷ cond p.cut 1 0 ∷ []

-- level 5 is II
planned : ℕ → ℕ → ℕ → List ℕ
planned severity size column =
    figures (single_plan (record { severity = severity; size = size; level = 5; column = column }) book)

pub size_cases : List (Case (List ℕ))
size_cases =
    -- normal, 0.10: K, 125
    (planned normal 10 5 is (9 ∷ 10 ∷ 0 ∷ 125 ∷ 1 ∷ []))
    ∷ (planned normal 124 5 is (9 ∷ 124 ∷ 0 ∷ 125 ∷ 1 ∷ []))
    ∷ (planned normal 125 5 is (9 ∷ 125 ∷ 0 ∷ 125 ∷ 1 ∷ []))
    ∷ (planned normal 126 5 is (9 ∷ 125 ∷ 0 ∷ 125 ∷ 0 ∷ []))
    -- tightened: L, 200
    ∷ (planned tightened 199 5 is (10 ∷ 199 ∷ 0 ∷ 200 ∷ 1 ∷ []))
    ∷ (planned tightened 200 5 is (10 ∷ 200 ∷ 0 ∷ 200 ∷ 1 ∷ []))
    ∷ (planned tightened 201 5 is (10 ∷ 200 ∷ 0 ∷ 200 ∷ 0 ∷ []))
    -- the smallest lot, and its own letter's size
    ∷ (planned normal 2 14 is (0 ∷ 2 ∷ 0 ∷ 2 ∷ 1 ∷ []))
    ∷ (planned normal 3 14 is (0 ∷ 2 ∷ 0 ∷ 2 ∷ 0 ∷ []))
    -- the table's own size is that of the letter where the arrows end
    ∷ (planned normal 4 15 is (2 ∷ 4 ∷ 1 ∷ 5 ∷ 1 ∷ []))
    ∷ (planned normal 6 15 is (2 ∷ 5 ∷ 1 ∷ 5 ∷ 0 ∷ []))
    -- reduced: the book's
    ∷ (planned reduced 19 10 is (2 ∷ 19 ∷ 1 ∷ 20 ∷ 1 ∷ []))
    ∷ (planned reduced 20 10 is (2 ∷ 20 ∷ 1 ∷ 20 ∷ 1 ∷ []))
    ∷ (planned reduced 21 10 is (2 ∷ 20 ∷ 1 ∷ 20 ∷ 0 ∷ []))
    ∷ (planned reduced 2 10 is (0 ∷ 1 ∷ 0 ∷ 1 ∷ 0 ∷ []))
    -- the largest lot
    ∷ (planned normal 4294967295 5 is (14 ∷ 1250 ∷ 3 ∷ 1250 ∷ 0 ∷ []))
    ∷ []

pub whole-lots-worked : AllAsSaid size_cases
unfolding size_cases planned figures book single_plan table_plan landing box_at letter_of row_of row_from check_book
    number_bytes numbers_of checked_as sections fifth all_sections section entries entry shift then_from key_falls rises
    numbers_from right look_up same_key seek seek_in every
whole-lots-worked = refl

-- n, the table's own size, and 1 where that is cut, of the plan that a closed lot has
sizes_of : Plan → List ℕ
sizes_of p = p.n ∷ p.table_n ∷ cond p.cut 1 0 ∷ []

told : {A : Type 0} → (A → Plan) → Answer A → List ℕ
told plan_of (refused n p) = n ∷ p ∷ []
told plan_of (given a) = sizes_of (plan_of a)

ten : Offered
ten = record { again = false; size = 10; level = 5; column = 5 }

new : Supply
new = fresh_supply false

clean : ℕ → List ℕ
clean n = number_bytes (replicate n 0)

-- 10, II, 0.10, in full, curtailed, by its total, and in the mode of fractions, where it is on none; and two items,
-- III, 10, which are on one half
pub closed_cases : List (Case (List ℕ))
closed_cases =
    (told (λ c. c.judged.plan) (close_single new ten book (clean 10)) is (10 ∷ 125 ∷ 1 ∷ []))
    ∷ (told (λ c. c.judged.plan) (close_curtailed new ten book (clean 10)) is (10 ∷ 125 ∷ 1 ∷ []))
    ∷ (told (λ c. c.judged.plan) (close_total new ten 0) is (10 ∷ 125 ∷ 1 ∷ []))
    ∷ (told (λ c. c.judged.plan.plan) (close_fractional new ten book (clean 10)) is (10 ∷ 125 ∷ 1 ∷ []))
    ∷ (told (λ c. c.judged.plan.plan)
    (close_fractional new (record { again = false; size = 2; level = 6; column = 15 }) book (clean 2))
    is (2 ∷ 3 ∷ 1 ∷ []))
    ∷ []

pub whole-lots-closed : AllAsSaid closed_cases
unfolding closed_cases told sizes_of ten new clean book close_single close_curtailed close_total close_fractional
    judge_single judge_curtailed judge_total judge_fractional judge_items judge_until_lost curtailed_from judge_by_share
    single_plan curtailed_plan plain_plan fractional_plan share_in share_at has_fractional_plan table_plan landing
    box_at tighter_ac letter_of row_of row_from check_book number_bytes numbers_of checked_as sections fifth
    all_sections section entries entry shift then_from key_falls rises numbers_from right any_illegal sum_of move
    clean_in_range step on_lot figures_in_range lib.Count.ones
whole-lots-closed = refl

pub input : List ℕ
input = ascii "L 10 5 5 0\nL 125 5 5 1\nL 126 5 5 0\nR 124 5 5 1\nL 10 5 5 11\n"

pub output : List ℕ
output =
    ascii "no sev let n ac verdict next score\n1 N K 10W 0 accept N 2\n2 N K 125W 0 reject N 0\n"
    ++ ascii "3 N K 125 0 accept N 2\n4 N K 124W 0 reject N 2\n5 refused 8\n"

pub whole-lots-logged : log ours input ≡ output
unfolding input output log log_from logged_as line_of split_at dropping_empty_last all_digits value_from is_number
    digits_from printed next move clean_in_range close_total judge_total plain_plan table_plan landing box_at tighter_ac
    letter_of row_of row_from step on_lot on_resubmitted on_order on_corrective figures_in_range event_in event_of
    lib.Count.ones
whole-lots-logged = refl
