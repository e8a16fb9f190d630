-- Document 02, T-04, worked: samples on the tables' plans at each end of the walk, its refusals, and lots closed.
-- Assumes nothing.
use Prim.Native.Nat.{ℕ, suc}
use mathlib.Core.Path.{refl}
use mathlib.Core.Bool.{Bool, true, false, cond}
use mathlib.Core.List.{List, [], ◌∷◌, ◌++◌}
use lib.ListN.{replicate}
use Rattle.rules.specs.Refusals.{Answer, refused, given}
use Rattle.rules.specs.Codes.{normal, tightened, reduced, stopped, letter_of, row_of, row_from}
use Rattle.rules.specs.Numbers.{numbers_of, number_bytes}
use Rattle.rules.specs.Verdict.{Verdict, Judged}
use Rattle.rules.specs.Single.{Plan, cut_plan, landing, box_at, table_plan, tighter_ac}
use Rattle.rules.specs.Curtailed.{curtailed_from, judge_until_lost}
use Rattle.rules.specs.Fractional.{share_in, share_at, has_fractional_plan}
use Rattle.rules.specs.Severity.{on_normal, on_tightened, on_lot, on_resubmitted, step, figures_in_range}
use Rattle.rules.specs.Supply.{no_run, Supply, supply_of, move, clean_in_range}
use Rattle.rules.specs.History.{byte_of}
use Rattle.rules.specs.Book.{check_book, checked_as, sections, section, entries, entry, shift, then_from, key_falls}
use Rattle.rules.specs.Book.{rises, numbers_from, right, fifth, all_sections}
use Rattle.rules.specs.Entries.{Closed, plain_plan, curtailed_plan, curtailed_sample, judge_curtailed}
use Rattle.rules.specs.Entries.{close_curtailed}
use Rattle.rules.proofs.Cases.{Case, ◌is◌, AllAsSaid}

abbrev no_book : List ℕ
no_book = replicate 8 0

-- one reduced single: J at 1.0, n 32, Ac 1
reduced_book : List ℕ
reduced_book = number_bytes (1 ∷ 8 ∷ 10 ∷ 32 ∷ 1 ∷ 0 ∷ 0 ∷ 0 ∷ [])

flag : Bool → ℕ
flag b = cond b 1 0

-- accepted or not, items used and total; a refusal is its number and place
verdict_as : Answer Verdict → List ℕ
verdict_as (refused n p) = n ∷ p ∷ []
verdict_as (given v) = flag v.accepted ∷ v.used ∷ v.total ∷ []

judged_as : Answer (Judged Plan Verdict) → List ℕ
judged_as (refused n p) = n ∷ p ∷ []
judged_as (given j) = verdict_as (given j.verdict)

judged_in : List ℕ → ℕ → ℕ → ℕ → ℕ → List ℕ → List ℕ
judged_in book severity size level column sample =
    judged_as (judge_curtailed (record { severity = severity; size = size; level = level; column = column }) book
    sample)

-- the bench's seals: a lot of 1,000, II, 1.0: J, 80 items, Ac 2 under normal, 1 under tightened
seals : ℕ → List ℕ → List ℕ
seals severity items = judged_in no_book severity 1000 5 10 (number_bytes items)

-- a lot of 8, II, 150: A, 2 items, nonconformities, Ac 7; and 10, II, 0.10: K, Ac 0, cut to the lot
counts : List ℕ → List ℕ
counts items = judged_in no_book normal 8 5 21 (number_bytes items)

whole_lot : List ℕ → List ℕ
whole_lot items = judged_in no_book normal 10 5 5 (number_bytes items)

-- a plan handed over: so many items, from a lot that has one more, and Ac
on_plan : ℕ → ℕ → ℕ → List ℕ → List ℕ
on_plan column n ac items =
    verdict_as (curtailed_sample column (cut_plan (suc n) 0 n ac) (number_bytes items))

three_bad : List ℕ
three_bad = replicate 7 0 ++ (1 ∷ 1 ∷ 1 ∷ [])

pub sample_cases : List (Case (List ℕ))
sample_cases =
    -- the third bad seal, at item 10; under tightened the second, at item 9
    (seals normal three_bad is (0 ∷ 10 ∷ 3 ∷ []))
    ∷ (seals tightened (replicate 7 0 ++ (1 ∷ 1 ∷ [])) is (0 ∷ 9 ∷ 2 ∷ []))
    -- Ac passed at the last item; not passed; no sooner accepted than at n
    ∷ (seals normal (replicate 77 0 ++ (1 ∷ 1 ∷ 1 ∷ [])) is (0 ∷ 80 ∷ 3 ∷ []))
    ∷ (seals normal (1 ∷ 1 ∷ replicate 78 0) is (1 ∷ 80 ∷ 2 ∷ []))
    ∷ (seals normal (replicate 79 0) is (7 ∷ 0 ∷ []))
    ∷ (seals normal [] is (7 ∷ 0 ∷ []))
    -- past its end: at n; after the deciding item, and what follows is not looked at
    ∷ (seals normal (replicate 81 0) is (7 ∷ 0 ∷ []))
    ∷ (seals normal (replicate 80 0 ++ (2 ∷ [])) is (7 ∷ 0 ∷ []))
    ∷ (seals normal (three_bad ++ (0 ∷ [])) is (7 ∷ 0 ∷ []))
    ∷ (seals normal (three_bad ++ (2 ∷ [])) is (7 ∷ 0 ∷ []))
    -- half an item: after the deciding one, at n, in place of the next
    ∷ (judged_in no_book normal 1000 5 10 (number_bytes three_bad ++ (0 ∷ [])) is (7 ∷ 0 ∷ []))
    ∷ (judged_in no_book normal 1000 5 10 (replicate 161 0) is (7 ∷ 0 ∷ []))
    ∷ (judged_in no_book normal 1000 5 10 (replicate 159 0) is (7 ∷ 0 ∷ []))
    -- an illegal item before the end, before one that is missing, and in place of the deciding one
    ∷ (seals normal (2 ∷ three_bad) is (8 ∷ 0 ∷ []))
    ∷ (seals normal (0 ∷ 2 ∷ []) is (8 ∷ 0 ∷ []))
    ∷ (seals normal (1 ∷ 1 ∷ 2 ∷ []) is (8 ∷ 0 ∷ []))
    -- an illegal item that is met comes first, also in a sample that goes on past n or by half an item; half an item
    -- is missing, whatever it holds
    ∷ (seals normal (2 ∷ replicate 80 0) is (8 ∷ 0 ∷ []))
    ∷ (judged_in no_book normal 1000 5 10 (number_bytes (0 ∷ 2 ∷ []) ++ (0 ∷ [])) is (8 ∷ 0 ∷ []))
    ∷ (judged_in no_book normal 1000 5 10 (0 ∷ 0 ∷ 2 ∷ []) is (7 ∷ 0 ∷ []))
    -- nonconformities: Ac passed at the first item, at the last, met at the last
    ∷ (counts (65535 ∷ []) is (0 ∷ 1 ∷ 65535 ∷ []))
    ∷ (counts (8 ∷ []) is (0 ∷ 1 ∷ 8 ∷ []))
    ∷ (counts (7 ∷ 1 ∷ []) is (0 ∷ 2 ∷ 8 ∷ []))
    ∷ (counts (7 ∷ 0 ∷ []) is (1 ∷ 2 ∷ 7 ∷ []))
    ∷ (counts (7 ∷ []) is (7 ∷ 0 ∷ []))
    -- a lot cut to its size
    ∷ (whole_lot (replicate 10 0) is (1 ∷ 10 ∷ 0 ∷ []))
    ∷ (whole_lot (replicate 9 0 ++ (1 ∷ [])) is (0 ∷ 10 ∷ 1 ∷ []))
    ∷ (whole_lot (1 ∷ []) is (0 ∷ 1 ∷ 1 ∷ []))
    ∷ (whole_lot (replicate 9 0) is (7 ∷ 0 ∷ []))
    -- reduced, with an entry under the key and without; stopped; no severity; a broken book first
    ∷ (judged_in reduced_book reduced 1000 5 10 (replicate 64 0) is (6 ∷ 0 ∷ []))
    ∷ (seals reduced three_bad is (6 ∷ 0 ∷ []))
    ∷ (seals stopped three_bad is (5 ∷ 0 ∷ []))
    ∷ (seals 4 three_bad is (1 ∷ 0 ∷ []))
    ∷ (judged_in [] reduced 1 7 26 [] is (12 ∷ 0 ∷ []))
    -- plans handed over: no items, at which nothing is read; a column over 25
    ∷ (on_plan 0 0 0 [] is (1 ∷ 0 ∷ 0 ∷ []))
    ∷ (on_plan 0 0 0 (2 ∷ []) is (7 ∷ 0 ∷ []))
    ∷ (on_plan 26 1 0 (1 ∷ []) is (4 ∷ 0 ∷ []))
    ∷ []

pub curtailed-worked : AllAsSaid sample_cases
unfolding sample_cases seals counts whole_lot on_plan three_bad judged_in judged_as verdict_as flag reduced_book
    number_bytes numbers_of judge_curtailed curtailed_plan curtailed_sample plain_plan table_plan landing box_at
    letter_of row_of row_from judge_until_lost curtailed_from check_book checked_as sections fifth all_sections section
    entries entry shift then_from key_falls rises numbers_from right
curtailed-worked = refl

-- lots closed on a normal record with score 5 and a clean run of 1, on K at 0.15, or on a tightened one with four not
-- accepted
from_five : Supply
from_five = supply_of (on_normal 5 0 false false) (record { run = 1; letter = 9; column = 6 })

four_bad : Supply
four_bad = supply_of (on_tightened 0 4 false false) no_run

-- the byte that a lot stands for; severity, score, count and window after it, and the clean run
closed_as : Answer (Closed Plan) → List ℕ
closed_as (refused n p) = n ∷ p ∷ []
closed_as (given c) =
    let r = c.supply_after.switching in
    byte_of c.event ∷ r.severity ∷ r.score ∷ r.count ∷ r.window ∷ c.supply_after.clean.run ∷ []

closes : Supply → Bool → List ℕ → List ℕ
closes s again items =
    closed_as
    (close_curtailed s (record { again = again; size = 1000; level = 5; column = 10 }) no_book (number_bytes items))

pub closed_cases : List (Case (List ℕ))
closed_cases =
    -- not accepted; accepted with the total within the tighter Ac, 1, and beyond it: the score has the total
    (closes from_five false three_bad is (3 ∷ 0 ∷ 0 ∷ 0 ∷ 1 ∷ 0 ∷ []))
    ∷ (closes from_five false (1 ∷ replicate 79 0) is (0 ∷ 0 ∷ 8 ∷ 0 ∷ 0 ∷ 0 ∷ []))
    ∷ (closes from_five false (1 ∷ 1 ∷ replicate 78 0) is (2 ∷ 0 ∷ 0 ∷ 0 ∷ 0 ∷ 0 ∷ []))
    -- resubmitted
    ∷ (closes from_five true three_bad is (4 ∷ 0 ∷ 5 ∷ 0 ∷ 0 ∷ 1 ∷ []))
    -- the fifth not accepted of a tightened stay, by two bad items
    ∷ (closes four_bad false (1 ∷ 1 ∷ []) is (3 ∷ 3 ∷ 0 ∷ 0 ∷ 0 ∷ 0 ∷ []))
    ∷ (closes four_bad false three_bad is (7 ∷ 0 ∷ []))
    -- a record out of range
    ∷ (closes (supply_of (on_normal 31 0 false false) no_run) false three_bad is (1 ∷ 0 ∷ []))
    ∷ []

pub curtailed-closed : AllAsSaid closed_cases
unfolding closed_cases closes closed_as from_five four_bad three_bad number_bytes numbers_of close_curtailed
    judge_curtailed curtailed_plan plain_plan table_plan landing box_at tighter_ac letter_of row_of row_from
    judge_until_lost curtailed_from check_book checked_as sections fifth all_sections section entries shift then_from
    move clean_in_range step on_lot on_resubmitted figures_in_range has_fractional_plan share_at share_in lib.Count.ones
curtailed-closed = refl
