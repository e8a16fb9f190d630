-- Document 01, lotlog: its output as a function from input bytes to output bytes. Definitions only.
use Rattle.std.specs.Prelude.{ℕ, zero, suc, ◌+◌, ◌*◌, ◌-◌, ◌/◌, ◌%◌, min, Bool, true, false, cond, ◌&&◌, ◌||◌, not}
use Rattle.std.specs.Prelude.{List, [], ◌∷◌, ◌++◌, leb, ltb, eqb, length, get_or}
use Rattle.rules.specs.Refusals.{Answer, refused, given, unknown_form}
use Prim.Native.Char.{code}
use Rattle.rules.specs.Ascii.{ascii}
use Rattle.rules.specs.Codes.{letter_names}
use Rattle.rules.specs.Single.{Plan}
use Rattle.rules.specs.Severity.{resubmitted, steady_is, permission_is, corrective}
use Rattle.rules.specs.Supply.{Supply, fresh_supply}
use Rattle.rules.specs.History.{byte_of, Work, knows}
use Rattle.rules.specs.Entries.{Offered, Closed, close_total, next}

-- the bytes of a stretch between separators, one stretch more than there are separators
abbrev pub join_first : ℕ → List (List ℕ) → List (List ℕ)
join_first b [] = (b ∷ []) ∷ []
join_first b (p ∷ ps) = (b ∷ p) ∷ ps

unfoldable pub split_at : ℕ → List ℕ → List (List ℕ)
split_at separator [] = [] ∷ []
split_at separator (b ∷ bs) = cond (eqb b separator) ([] ∷ split_at separator bs) (join_first b (split_at separator bs))

abbrev pub newline : ℕ
newline = 10

abbrev pub space : ℕ
space = 32

-- "The last line may lack its newline": nothing after the last newline is no line
unfoldable pub dropping_empty_last : List (List ℕ) → List (List ℕ)
dropping_empty_last [] = []
dropping_empty_last ([] ∷ []) = []
dropping_empty_last ([] ∷ (l ∷ ls)) = [] ∷ dropping_empty_last (l ∷ ls)
dropping_empty_last ((b ∷ bs) ∷ ls) = (b ∷ bs) ∷ dropping_empty_last ls

abbrev pub lines_of : List ℕ → List (List ℕ)
lines_of input = dropping_empty_last (split_at newline input)

-- "Numbers are decimal without leading zeros, each at most 4,294,967,295"
abbrev pub digit_zero : ℕ
digit_zero = 48

abbrev pub digit_nine : ℕ
digit_nine = 57

abbrev pub is_digit : ℕ → Bool
is_digit b = leb digit_zero b && leb b digit_nine

unfoldable pub all_digits : List ℕ → Bool
all_digits [] = true
all_digits (b ∷ bs) = is_digit b && all_digits bs

unfoldable pub value_from : ℕ → List ℕ → ℕ
value_from v [] = v
value_from v (b ∷ bs) = value_from (10 * v + (b - digit_zero)) bs

abbrev pub value_of : List ℕ → ℕ
value_of field = value_from 0 field

abbrev pub largest_number : ℕ
largest_number = 4294967295

unfoldable pub is_number : List ℕ → Bool
is_number field =
    not (eqb (length field) 0)
    && (all_digits field
    && ((eqb (length field) 1 || not (eqb (get_or field 0 0) digit_zero)) && leb (value_of field) largest_number))

-- A line: a lot with its total, an order as its history byte, or nothing known.
pub data Line : Type 0 where
  lot_line : Offered → ℕ → Line
  order_line : ℕ → Line
  unknown_line : Line

-- "fields one space apart"
abbrev pub field_at : List (List ℕ) → ℕ → List ℕ
field_at fields i = get_or fields i []

-- is the first field this letter, with so many fields after it?
abbrev pub opens : ℕ → ℕ → List (List ℕ) → Bool
opens letter more fields =
    eqb (length fields) (suc more)
    && (eqb (length (field_at fields 0)) 1 && eqb (get_or (field_at fields 0) 0 0) letter)

-- "L or R (original, resubmitted), size, level, column, total"
abbrev pub numbers_after : List (List ℕ) → Bool
numbers_after fields =
    is_number (field_at fields 1)
    && (is_number (field_at fields 2) && (is_number (field_at fields 3) && is_number (field_at fields 4)))

abbrev pub lot_in : Bool → List (List ℕ) → Line
lot_in again fields =
    lot_line
    (record {
      again = again;
      size = value_of (field_at fields 1);
      level = value_of (field_at fields 2);
      column = value_of (field_at fields 3);
    })
    (value_of (field_at fields 4))

-- "each with 0 for no or 1 for yes"
abbrev pub yes_or_no : List ℕ → Bool
yes_or_no field = is_number field && leb (value_of field) 1

abbrev pub order_in : ℕ → ℕ → List (List ℕ) → Line
order_in on_yes on_no fields = order_line (cond (eqb (value_of (field_at fields 1)) 1) on_yes on_no)

-- "L or R (original, resubmitted)"
abbrev pub original_letter : ℕ
original_letter = code "L"

abbrev pub resubmitted_letter : ℕ
resubmitted_letter = code "R"

-- "S (steady) and P (permission)", "C (corrective)"
abbrev pub steady_letter : ℕ
steady_letter = code "S"

abbrev pub permission_letter : ℕ
permission_letter = code "P"

abbrev pub corrective_letter : ℕ
corrective_letter = code "C"

-- a line's form by its letter; R lines are known where byte 4 is
unfoldable pub line_of : Work → List (List ℕ) → Line
line_of w fields =
    cond (opens original_letter 4 fields && numbers_after fields) (lot_in false fields)
    (cond (opens resubmitted_letter 4 fields && (numbers_after fields && knows w (byte_of resubmitted)))
    (lot_in true fields)
    (cond (opens steady_letter 1 fields && yes_or_no (field_at fields 1))
    (order_in (byte_of (steady_is true)) (byte_of (steady_is false)) fields)
    (cond (opens permission_letter 1 fields && yes_or_no (field_at fields 1))
    (order_in (byte_of (permission_is true)) (byte_of (permission_is false)) fields)
    (cond (opens corrective_letter 0 fields) (order_line (byte_of corrective)) unknown_line))))

-- a number in decimal, of at most 20 digits
unfoldable pub digits_from : ℕ → ℕ → List ℕ → List ℕ
digits_from zero n after = after
digits_from (suc k) n after =
    cond (ltb n 10) ((digit_zero + n) ∷ after) (digits_from k (n / 10) ((digit_zero + n % 10) ∷ after))

abbrev pub decimal : ℕ → List ℕ
decimal n = digits_from 20 n []

-- a letter by its name; "N, T, R, or X stopped"
abbrev pub letter_name : ℕ → List ℕ
letter_name letter = get_or letter_names letter 0 ∷ []

abbrev pub severity_name : ℕ → List ℕ
severity_name severity = get_or (ascii "NTRX") severity 0 ∷ []

abbrev pub verdict_name : Bool → List ℕ
verdict_name accepted = cond accepted (ascii "accept") (ascii "reject")

-- fields one space apart, and a newline
unfoldable pub printed : List ℕ → List (List ℕ) → List ℕ
printed field [] = field ++ (newline ∷ [])
printed field (f ∷ fs) = field ++ (space ∷ printed f fs)

abbrev pub refused_line : ℕ → ℕ → List ℕ
refused_line line number = printed (decimal line) (ascii "refused" ∷ decimal number ∷ [])

-- document 02, T-05: "lotlog prints a W straight after n on a cut line"
abbrev pub cut_mark : List ℕ
cut_mark = ascii "W"

abbrev pub size_text : Plan → List ℕ
size_text plan = decimal plan.n ++ cond plan.cut cut_mark []

-- "line, severity used (N, T, R), letter, size, Ac, verdict, severity after (N, T, R, or X stopped), score after"
abbrev pub lot_printed : ℕ → ℕ → Plan → Bool → ℕ → ℕ → List ℕ
lot_printed line used plan accepted severity score =
    printed (decimal line)
    (severity_name used
    ∷ letter_name plan.letter
    ∷ size_text plan
    ∷ decimal plan.ac
    ∷ verdict_name accepted
    ∷ severity_name severity
    ∷ decimal score
    ∷ [])

abbrev pub lot_text : ℕ → Supply → Closed Plan → List ℕ
lot_text line s c =
    lot_printed line s.switching.severity c.judged.plan c.judged.verdict.accepted
    c.supply_after.switching.severity
    c.supply_after.switching.score

-- "An accepted order prints its line number, "order", severity and score after."
abbrev pub order_printed : ℕ → ℕ → ℕ → List ℕ
order_printed line severity score =
    printed (decimal line) (ascii "order" ∷ severity_name severity ∷ decimal score ∷ [])

abbrev pub order_text : ℕ → Supply → List ℕ
order_text line s = order_printed line s.switching.severity s.switching.score

-- What a line prints, and the record after it.
pub record Logged : Type 0 where
  pub held : Supply
  pub text : List ℕ

abbrev pub logged : Supply → List ℕ → Logged
logged s text = record { held = s; text = text }

abbrev pub logged_lot : ℕ → Supply → Answer (Closed Plan) → Logged
logged_lot line s (refused number p) = logged s (refused_line line number)
logged_lot line s (given c) = logged c.supply_after (lot_text line s c)

abbrev pub logged_order : ℕ → Supply → Answer Supply → Logged
logged_order line s (refused number p) = logged s (refused_line line number)
logged_order line s (given t) = logged t (order_text line t)

unfoldable pub logged_as : Work → ℕ → Supply → Line → Logged
logged_as w line s (lot_line o total) = logged_lot line s (close_total s o total)
logged_as w line s (order_line byte) = logged_order line s (next w s byte)
logged_as w line s unknown_line = logged s (refused_line line unknown_form)

abbrev pub logged_line : Work → ℕ → Supply → List ℕ → Logged
logged_line w line s bytes = logged_as w line s (line_of w (split_at space bytes))

-- the line's number sticks at 2⁶⁴ − 1
abbrev pub largest_line : ℕ
largest_line = 18446744073709551615

abbrev pub line_after : ℕ → ℕ
line_after line = min (line + 1) largest_line

unfoldable pub log_from : Work → ℕ → Supply → List (List ℕ) → List ℕ
log_from w line s [] = []
log_from w line s (l ∷ ls) =
    (logged_line w line s l).text ++ log_from w (line_after line) (logged_line w line s l).held ls

abbrev pub header : List ℕ
header = ascii "no sev let n ac verdict next score\n"

-- the whole output for a whole input
unfoldable pub log : Work → List ℕ → List ℕ
log w input = header ++ log_from w 1 (fresh_supply w.permission) (lines_of input)
