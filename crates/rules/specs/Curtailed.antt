-- Document 02, T-04, 'Stop counting when the lot is lost': a single sample on a whole Ac that ends at the item where
-- its total passes Ac, or at n. Definitions only.
use Rattle.std.specs.Prelude.{ℕ, zero, suc, ◌+◌, Bool, cond, List, [], ◌∷◌, leb, ltb}
use Rattle.rules.specs.Refusals.{Answer, refused, wrong_length, illegal_item}
use Rattle.rules.specs.Numbers.{numbers_of, half_left}
use Rattle.rules.specs.Codes.{illegal}
use Rattle.rules.specs.Verdict.{Verdict, ended}
use Rattle.rules.specs.Single.{Plan}

-- the verdict on the items read, and their total
abbrev pub verdict_after : Plan → ℕ → ℕ → Verdict
verdict_after plan used total =
    record { accepted = leb total plan.ac; used = used; total = total; stage = 1; stages = 1 }

-- "stops at the item where the total passes Ac. The sample lent ends at the deciding item, or at n.": the walk over the
-- items left, so many of them still to read, after those used with their total. "its items used .. are the items read";
-- "It must not stop early to accept". "7 when the sample ends before or goes on past its end as given here, and the
-- walk reports whichever of 7 and 8 it meets first"
unfoldable pub curtailed_from : ℕ → Plan → Bool → ℕ → ℕ → ℕ → List ℕ → Answer Verdict
curtailed_from column plan half zero used total items = ended half items (verdict_after plan used total)
curtailed_from column plan half (suc left) used total [] = refused wrong_length 0
curtailed_from column plan half (suc left) used total (x ∷ items) =
    cond (illegal column x) (refused illegal_item 0)
    (cond (ltb plan.ac (total + x)) (ended half items (verdict_after plan (suc used) (total + x)))
    (curtailed_from column plan half left (suc used) (total + x) items))

unfoldable pub judge_until_lost : ℕ → Plan → List ℕ → Answer Verdict
judge_until_lost column plan bytes = curtailed_from column plan (half_left bytes) plan.n 0 0 (numbers_of bytes)
