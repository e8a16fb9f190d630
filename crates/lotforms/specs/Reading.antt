-- A line read from left to right: its fields from a place on, and what they say. Definitions only.
use Rattle.std.specs.Prelude.{ℕ, zero, suc, ◌+◌, Bool, false, cond, ◌&&◌, List, [], ◌∷◌, leb, eqb, length}
use Rattle.std.specs.Prelude.{get_or, drop, Option, Some, None}
use Rattle.rules.specs.Severity.{Event, steady_is, permission_is, corrective}
use Rattle.rules.specs.History.{Work, byte_of}
use Rattle.rules.specs.Log as log
use Rattle.rules.specs.Log.{split_at, space, all_digits, largest_number, is_number, value_of, lot_line, order_line}
use Rattle.rules.specs.Log.{unknown_line, line_of}
use Rattle.rules.specs.Feeding.{up_to}
use Rattle.lotforms.specs.declared.Order.{Order}
use Rattle.lotforms.specs.declared.Order.TheVariants.{Steady, Permission, Corrective}
use Rattle.lotforms.specs.declared.Line.{Line}
use Rattle.lotforms.specs.declared.Line.TheVariants as line

abbrev pub order_paper : Order → Event
order_paper (Steady b) = steady_is b
order_paper (Permission b) = permission_is b
order_paper Corrective = corrective

abbrev pub line_paper : Option Line → log.Line
line_paper (Some (line.Lot again size level column total)) =
    lot_line (record { again = again; size = size; level = level; column = column }) total
line_paper (Some (line.Order order)) = order_line (byte_of (order_paper order))
line_paper None = unknown_line

-- a work by the one thing that the form of a line depends on
abbrev pub work_with : Bool → Work
work_with resubmission = record { permission = false; resubmission = resubmission }

abbrev pub form_of : Bool → List ℕ → log.Line
form_of resubmission line = line_of (work_with resubmission) (split_at space line)

-- the field that starts at a place, empty past the end
abbrev pub up_to_from : List ℕ → ℕ → List ℕ
up_to_from line from = up_to space (drop from line)

-- a run of digits by what it is worth, where that fits
unfoldable pub value_in : List ℕ → Option ℕ
value_in digits =
    cond (all_digits digits && leb (value_of digits) largest_number) (Some (value_of digits)) None

-- a field as a number, where it is one
unfoldable pub number_in : List ℕ → Option ℕ
number_in field = cond (is_number field) (Some (value_of field)) None

-- .. and where the next field starts
abbrev pub then_at : ℕ → Option ℕ → Option (ℕ × ℕ)
then_at next (Some v) = Some (v, next)
then_at next None = None

unfoldable pub field_from : List ℕ → ℕ → Option (ℕ × ℕ)
field_from line from = then_at (from + length (up_to_from line from) + 1) (number_in (up_to_from line from))

-- the fields that start at a place, none past the end
unfoldable pub fields_from : List ℕ → ℕ → List (List ℕ)
fields_from line from = cond (leb from (length line)) (split_at space (drop from line)) []

-- so many numbers and nothing after them
unfoldable pub numbers_then : ℕ → List (List ℕ) → (List ℕ → log.Line) → log.Line
numbers_then zero [] give = give []
numbers_then zero (f ∷ fs) give = unknown_line
numbers_then (suc k) [] give = unknown_line
numbers_then (suc k) (f ∷ fs) give =
    cond (is_number f) (numbers_then k fs (λ vs. give (value_of f ∷ vs))) unknown_line

abbrev pub lot_of : Bool → List ℕ → log.Line
lot_of again vs =
    lot_line (record { again = again; size = get_or vs 0 0; level = get_or vs 1 0; column = get_or vs 2 0 })
    (get_or vs 3 0)

abbrev pub order_of : ℕ → ℕ → List ℕ → log.Line
order_of on_yes on_no vs =
    cond (leb (get_or vs 0 0) 1) (order_line (cond (eqb (get_or vs 0 0) 1) on_yes on_no)) unknown_line

-- a yes or no as an order, by the byte for each
abbrev pub said : ℕ → ℕ → Option Bool → log.Line
said on_yes on_no (Some b) = order_line (cond b on_yes on_no)
said on_yes on_no None = unknown_line

abbrev pub lot_from : Bool → List ℕ → log.Line
lot_from again fields = numbers_then 4 (fields_from fields 0) (lot_of again)

abbrev pub order_from : ℕ → ℕ → List ℕ → log.Line
order_from on_yes on_no fields = numbers_then 1 (fields_from fields 0) (order_of on_yes on_no)

-- a letter by itself, and the fields after it
abbrev pub letter_from : Bool → ℕ → List ℕ → log.Line
letter_from resubmission letter fields = line_of (work_with resubmission) ((letter ∷ []) ∷ split_at space fields)
