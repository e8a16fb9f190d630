-- Document 01's numbers and values for each case of the code's types. Definitions only.
use Rattle.std.specs.Prelude.{ℕ, cond, Bool, Option, Some, None, List, [], ◌∷◌, ltb, leb, get_or, length, drop}
use Rattle.rules.specs.Refusals.{Answer, refused, given, ◌gives◌, first_of, no_such_column, wrong_length, illegal_item}
use Rattle.rules.specs.Numbers.{numbers_of, half_left}
use Rattle.rules.specs.Codes.{illegal}
use Rattle.rules.specs.Verdict as paper
use Rattle.rules.specs.Staged as staged
use Rattle.plans.specs.declared.Verdict.{Verdict}
use Rattle.plans.specs.Paper.{verdict_paper}
use Rattle.entry.specs.declared.Stage.{Stage}

-- what comparing a running total says: accept or reject, else go on
abbrev pub decision_paper : Option Bool → paper.Decision
decision_paper (Some accepted) = cond accepted paper.accepts paper.rejects
decision_paper None = paper.goes_on

abbrev pub stage_paper : Stage → staged.Stage
stage_paper s = record { size = s.size; ac = s.ac; re = s.re }

-- the verdict, where the sample ends at the item that decides
abbrev pub ended_after : List ℕ → Verdict → Answer paper.Verdict
ended_after s v = paper.ended (half_left s) (drop v.used (numbers_of s)) (verdict_paper v)

-- "column over 25"
abbrev pub column_checked : ℕ → Answer (Unit {0})
column_checked column = first_of ((ltb 25 column gives no_such_column) ∷ []) (given tt)

-- the item at a place: 7 where it is missing, 8 where it is illegal
abbrev pub item_read : ℕ → List ℕ → ℕ → Answer ℕ
item_read column items i =
    cond (leb (length items) i) (refused wrong_length 0)
    (cond (illegal column (get_or items i 0)) (refused illegal_item 0) (given (get_or items i 0)))

-- what taking items comes to: the running total
abbrev pub taken_answer : staged.Taken → Answer ℕ
taken_answer staged.missing = refused wrong_length 0
taken_answer staged.over = refused illegal_item 0
taken_answer (staged.taken total rest) = given total
