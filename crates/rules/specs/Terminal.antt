-- Document 01, "The C terminal calls the plan, the verdict and the next severity with numbers and byte slices": the
-- status that a call returns, a lent record's bytes, a staged plan's row, and what lent memory then holds. Definitions
-- only.
use Rattle.std.specs.Prelude.{ℕ, ◌+◌, ◌*◌, min, Bool, false, cond, ◌&&◌, List, [], ◌∷◌, ◌++◌, leb, ltb, eqb, length}
use Rattle.std.specs.Prelude.{get_or, drop}
use Rattle.rules.specs.Refusals.{Answer, refused, given, ◌gives◌, first_of, and_then, buffer_short}
use Rattle.rules.specs.Numbers.{number_bytes}
use Rattle.rules.specs.Staged.{StagedPlan}
use Rattle.rules.specs.Severity.{started}
use Rattle.rules.specs.Supply.{Supply, supply_of, no_run}

-- 0 answered; else the refusal's number in the low byte and its place above it
abbrev pub status_of : {A : Type 0} → Answer A → ℕ
status_of (refused n p) = n + 256 * p
status_of (given a) = 0

-- The status of a list of severities, in 64 bits: its place has the 56 above the low byte; one past them is told as the
-- last.
abbrev pub largest_place : ℕ
largest_place = 72057594037927935

abbrev pub wide_status_of : {A : Type 0} → Answer A → ℕ
wide_status_of (refused n p) = n + 256 * min p largest_place
wide_status_of (given a) = 0

-- what an out-parameter holds at exit: "A refusal .. writes nothing"
abbrev pub left_by : {A B : Type 0} → (A → B) → Answer A → B → B
left_by value (refused n p) before = before
left_by value (given a) before = value a

-- a record's bytes: severity, score, run, count, window, steady, permission, clean run, its plan's letter and column
abbrev pub record_bytes : ℕ
record_bytes = 10

abbrev pub flag : Bool → ℕ
flag b = cond b 1 0

abbrev pub bytes_of : Supply → List ℕ
bytes_of s =
    s.switching.severity
    ∷ s.switching.score
    ∷ s.switching.run
    ∷ s.switching.count
    ∷ s.switching.window
    ∷ flag s.switching.steady
    ∷ flag s.switching.permission
    ∷ s.clean.run
    ∷ s.clean.letter
    ∷ s.clean.column
    ∷ []

-- another length, or a steady or permission byte over 1, is a record out of range
unfoldable pub has_form : List ℕ → Bool
has_form bytes = eqb (length bytes) record_bytes && (leb (get_or bytes 5 0) 1 && leb (get_or bytes 6 0) 1)

abbrev pub out_of_form : Supply
out_of_form = supply_of (started 4 false false) no_run

unfoldable pub supply_in : List ℕ → Supply
supply_in bytes =
    cond (has_form bytes)
    (supply_of
    (record {
      severity = get_or bytes 0 0;
      score = get_or bytes 1 0;
      run = get_or bytes 2 0;
      count = get_or bytes 3 0;
      window = get_or bytes 4 0;
      steady = eqb (get_or bytes 5 0) 1;
      permission = eqb (get_or bytes 6 0) 1;
    })
    (record { run = get_or bytes 7 0; letter = get_or bytes 8 0; column = get_or bytes 9 0 }))
    out_of_form

-- A staged plan's row: seven sizes, seven Ac and seven Re, of 16 bits each.
abbrev pub row_length : ℕ
row_length = 42

abbrev pub row_bytes : StagedPlan → List ℕ
row_bytes p = number_bytes (p.sizes ++ (p.acs ++ p.res))

-- a plan for a lent row of so many bytes: after every refusal of the plan, 11 for a row that is too short
abbrev pub into_row : {A : Type 0} → ℕ → Answer A → Answer A
into_row room plan = and_then plan (λ p. first_of ((ltb room row_length gives buffer_short) ∷ []) (given p))

-- what the lent row then holds: the plan's row, and the rest as it was
abbrev pub row_left : Answer StagedPlan → List ℕ → List ℕ
row_left plan row = left_by (λ p. row_bytes p ++ drop row_length row) plan row
