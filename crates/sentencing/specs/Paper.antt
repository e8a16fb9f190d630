-- What the entries promise beside the documents' definitions. Definitions only.
use Rattle.std.specs.Prelude.{ℕ, Bool, true, false, cond, List}
use Rattle.rules.specs.Refusals.{Answer, refused, given, and_then, unknown_form}
use Rattle.rules.specs.Verdict.{Verdict, Judged}
use Rattle.rules.specs.Variables.{VariablesPlan}
use Rattle.rules.specs.Supply.{Supply, supply_in_range}
use Rattle.rules.specs.Limits as limits
use Rattle.rules.specs.Book.{check_book, on_sound}

-- a record out of range is refused by 1, after a broken book by 12; the book of one in range is left to the look-up
abbrev pub on_record : Supply → List ℕ → Answer (Unit {0})
on_record s book = cond (supply_in_range s) (given tt) (on_sound (check_book book) (refused unknown_form 0))

-- is the spread known?
abbrev pub is_known : limits.Spread → Bool
is_known limits.Spread.estimated = false
is_known (limits.Spread.known sigma) = true

-- for one limit, whose K stands on both sides
abbrev pub one_of : Answer (Judged limits.SidesPlan Verdict) → Answer (Judged VariablesPlan Verdict)
one_of a = and_then a (λ j. given (record { plan = limits.side_of true j.plan; verdict = j.verdict }))
