-- lotlog's listing where lots are offered again: judged at the present severity, normal and then tightened, and
-- changing nothing; and which order each letter is.
-- Assumes nothing.
use Prim.Native.Nat.{ℕ}
use mathlib.Core.Path.{◌≡◌, refl}
use mathlib.Core.List.{List, [], ◌∷◌, ◌++◌}
use Rattle.rules.specs.Ascii.{ascii}
use Rattle.rules.specs.Codes.{letter_of, row_of, row_from}
use Rattle.rules.specs.Single.{landing, box_at, table_plan, tighter_ac}
use Rattle.rules.specs.Supply.{Supply, fresh_supply, move, clean_in_range}
use Rattle.rules.specs.Severity.{on_lot, on_resubmitted, on_order, on_corrective, step, figures_in_range}
use Rattle.rules.specs.History.{ours, event_in, event_of}
use Rattle.rules.specs.Entries.{next, close_total, judge_total, plain_plan}
use Rattle.rules.specs.Log.{log, log_from, logged_as, line_of, split_at, dropping_empty_last, all_digits, value_from}
use Rattle.rules.specs.Log.{is_number, digits_from, printed, lines_of}
use Rattle.rules.specs.Terminal.{flag}
use Rattle.rules.specs.LogRuns.{held_from}
use Rattle.rules.proofs.Cases.{Case, ◌is◌, AllAsSaid}

pub input : List ℕ
input =
    ascii "L 1000 5 10 3\nR 1000 5 10 2\nL 1000 5 10 3\nR 1000 5 10 1\nR 1000 5 10 2\nL 1000 5 10 1\nR 1000 5 10 2\n"

pub output : List ℕ
output =
    ascii "no sev let n ac verdict next score\n"
    ++ ascii "1 N J 80 2 reject N 0\n2 N J 80 2 accept N 0\n3 N J 80 2 reject T 0\n4 T J 80 1 accept T 0\n"
    ++ ascii "5 T J 80 1 reject T 0\n6 T J 80 1 accept T 0\n7 T J 80 1 reject T 0\n"

pub listing : log ours input ≡ output
unfolding input output log log_from logged_as line_of split_at dropping_empty_last all_digits value_from is_number
    digits_from printed next move clean_in_range close_total judge_total plain_plan table_plan landing box_at tighter_ac
    letter_of row_of row_from step on_lot on_resubmitted on_order on_corrective figures_in_range event_in event_of
    lib.Count.ones
listing = refl

-- "S (steady) and P (permission), each with 0 for no or 1 for yes": what is held after such lines, 1 for yes
standing : Supply → List ℕ
standing s = flag s.switching.steady ∷ flag s.switching.permission ∷ []

held_at : List ℕ → List ℕ
held_at lines = standing (held_from ours 1 (fresh_supply ours.permission) (lines_of lines))

pub order_cases : List (Case (List ℕ))
order_cases =
    (held_at (ascii "S 1") is (1 ∷ 0 ∷ []))
    ∷ (held_at (ascii "P 1") is (0 ∷ 1 ∷ []))
    ∷ (held_at (ascii "S 1\nP 1\nS 0") is (0 ∷ 1 ∷ []))
    ∷ (held_at (ascii "S 1\nP 1\nP 0") is (1 ∷ 0 ∷ []))
    ∷ []

pub orders-by-line : AllAsSaid order_cases
unfolding order_cases held_at standing held_from logged_as line_of split_at dropping_empty_last all_digits value_from
    is_number digits_from printed next move clean_in_range step on_order figures_in_range event_in event_of
    lib.Count.ones
orders-by-line = refl
