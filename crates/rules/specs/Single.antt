-- Document 01, 'Single plans': sizes, the two master tables as printed, arrows, the cut to the lot, acceptance; and
-- document 02, T-05, 'Say when it is the whole lot'.
-- Definitions only.
use Rattle.std.specs.Prelude.{ℕ, zero, suc, ◌+◌, ◌*◌, ◌-◌, Bool, cond, ◌&&◌, not, List, [], ◌∷◌, map, leb, eqb, length}
use Rattle.std.specs.Prelude.{get_or}
use Rattle.rules.specs.Refusals.{Answer, given, first_of, ◌gives◌, wrong_length, illegal_item}
use Rattle.rules.specs.Numbers.{numbers_of, sum_of}
use Rattle.rules.specs.Codes.{normal, letter_a, letter_e, letter_r, letter_of, any_illegal}
use Rattle.rules.specs.Verdict.{Verdict}

-- "Sizes A to S"
abbrev pub sizes : List ℕ
sizes = 2 ∷ 3 ∷ 5 ∷ 8 ∷ 13 ∷ 20 ∷ 32 ∷ 50 ∷ 80 ∷ 125 ∷ 200 ∷ 315 ∷ 500 ∷ 800 ∷ 1250 ∷ 2000 ∷ 3150 ∷ []

-- A box holds an arrow or an acceptance number.
pub data Box : Type 0 where
  down : Box
  up : Box
  number : ℕ → Box

-- A row of a master table, for one s: the box at the letters first to last, and the box at all others.
pub record Row : Type 0 where
  pub first : ℕ
  pub last : ℕ
  pub there : Box
  pub elsewhere : Box

abbrev pub all : Box → Row
all b = record { first = letter_a; last = letter_a; there = b; elsewhere = b }

-- "up; down at A", "down; up at R"
abbrev pub but_at : Box → Box → ℕ → Row
but_at b other letter = record { first = letter; last = letter; there = other; elsewhere = b }

-- "30, 44 for A to E; else up"
abbrev pub for_a_to_e : ℕ → Row
for_a_to_e ac = record { first = letter_a; last = letter_e; there = number ac; elsewhere = up }

-- A printed line of the table: the last s that it speaks of, and the row at each s.
pub record Line : Type 0 where
  pub last : ℕ
  pub row : ℕ → Row

-- "under 14"
abbrev pub under : ℕ → Row → Line
under s row = record { last = s - 1; row = λ _. row }

-- "14"
abbrev pub at : ℕ → Row → Line
at s row = record { last = s; row = λ _. row }

-- "17 to 24", "25, 26": one after the other
abbrev pub along : ℕ → ℕ → List Row → Line
along first last rows = record { last = last; row = λ s. get_or rows (s - first) (all up) }

-- "1 2 3 5 7 10 14 21"
abbrev pub numbers : List ℕ → List Row
numbers acs = map (λ ac. all (number ac)) acs

-- "| normal s | box |"
abbrev pub normal_table : List Line
normal_table =
    under 14 (all down)
    ∷ at 14 (all (number 0))
    ∷ at 15 (but_at up down letter_a)
    ∷ at 16 (but_at down up letter_r)
    ∷ along 17 24 (numbers (1 ∷ 2 ∷ 3 ∷ 5 ∷ 7 ∷ 10 ∷ 14 ∷ 21 ∷ []))
    ∷ along 25 26 (for_a_to_e 30 ∷ for_a_to_e 44 ∷ [])
    ∷ []

-- "| tightened s | box |"
abbrev pub tightened_table : List Line
tightened_table =
    under 15 (all down)
    ∷ at 15 (all (number 0))
    ∷ at 16 (but_at up down letter_a)
    ∷ at 17 (all down)
    ∷ along 18 24 (numbers (1 ∷ 2 ∷ 3 ∷ 5 ∷ 8 ∷ 12 ∷ 18 ∷ []))
    ∷ along 25 26 (for_a_to_e 27 ∷ for_a_to_e 41 ∷ [])
    ∷ []

-- the two master tables, by severity
abbrev pub master_table : List (List Line)
master_table = normal_table ∷ tightened_table ∷ []

-- the first line that goes up to s; "over 26": up
abbrev pub row_in : List Line → ℕ → Row
row_in [] s = all up
row_in (line ∷ lines) s = cond (leb s line.last) (line.row s) (row_in lines s)

abbrev pub row_at : ℕ → ℕ → Row
row_at severity s = row_in (get_or master_table severity []) s

abbrev pub box_of : Row → ℕ → Box
box_of row letter = cond (leb row.first letter && leb letter row.last) row.there row.elsewhere

-- the Ac of a box; an arrow has none
abbrev pub ac_of : Box → ℕ
ac_of down = 0
ac_of up = 0
ac_of (number ac) = ac

-- "Let s be letter plus column."
unfoldable pub box_at : ℕ → ℕ → ℕ → Box
box_at severity column letter = box_of (row_at severity (letter + column)) letter

-- Where the arrows end: the letter that gives the size, and Ac.
pub record Landing : Type 0 where
  pub letter : ℕ
  pub ac : ℕ

abbrev pub landed : ℕ → ℕ → Landing
landed letter ac = record { letter = letter; ac = ac }

-- "An arrow goes to the next letter in the same column"
abbrev pub follow : Box → ℕ → (ℕ → Landing) → Landing
follow down letter next = next (letter + 1)
follow up letter next = next (letter - 1)
follow (number ac) letter next = landed letter ac

-- "follow arrows until a box holds a number, and that letter gives the size": from a letter, with so many arrows left;
-- where none is left, the box there is read. From the letters A to R it holds a number then (proofs/Landing).
unfoldable pub landing : ℕ → ℕ → ℕ → ℕ → Landing
landing zero severity column letter = landed letter (ac_of (box_at severity column letter))
landing (suc left) severity column letter = follow (box_at severity column letter) letter (landing left severity column)

-- at most 15 arrows
abbrev pub arrows : ℕ
arrows = 15

abbrev pub landing_of : ℕ → ℕ → ℕ → Landing
landing_of severity column letter = landing arrows severity column letter

-- A single plan: the letter that gives the size, the size as it is drawn from the lot, and Ac; "the table's own size",
-- which is the book's under reduced inspection, and "whether the size was cut to the lot".
pub record Plan : Type 0 where
  pub letter : ℕ
  pub n : ℕ
  pub ac : ℕ
  pub table_n : ℕ
  pub cut : Bool

-- "If the size equals or exceeds the lot"; "A table size equal to the lot counts as cut."
abbrev pub is_cut : ℕ → ℕ → Bool
is_cut lot table_n = leb lot table_n

-- "it becomes the lot size and Ac stays"
abbrev pub cut_to : ℕ → ℕ → ℕ
cut_to lot table_n = cond (is_cut lot table_n) lot table_n

-- the plan of a lot: a letter, the size there and Ac, of a table or of a book
abbrev pub cut_plan : ℕ → ℕ → ℕ → ℕ → Plan
cut_plan lot letter table_n ac =
    record { letter = letter; n = cut_to lot table_n; ac = ac; table_n = table_n; cut = is_cut lot table_n }

abbrev pub plan_at : ℕ → Landing → Plan
plan_at lot l = cut_plan lot l.letter (get_or sizes l.letter 0) l.ac

-- the plan of a lot that the tables hold: normal or tightened
unfoldable pub table_plan : ℕ → ℕ → ℕ → ℕ → Plan
table_plan severity size level column = plan_at size (landing_of severity column (letter_of size level))

-- "the Ac one column tighter at the letter that gives the size", normal inspection; where it is asked for, at Ac 2 or
-- more, the box holds a number (proofs/Tables)
unfoldable pub tighter_ac : ℕ → ℕ → ℕ
tighter_ac letter column = ac_of (box_at normal (column - 1) letter)

-- "Accept when the total is at most Ac": the sample is the plan's n items.
abbrev pub single_verdict : Plan → ℕ → Verdict
single_verdict plan total =
    record { accepted = leb total plan.ac; used = plan.n; total = total; stage = 1; stages = 1 }

-- 7 where the sample is not exactly n items, then 8 for an item over 1 where items are 0 or 1
unfoldable pub judge_items : ℕ → Plan → List ℕ → Answer Verdict
judge_items column plan bytes =
    first_of
    ((not (eqb (length bytes) (2 * plan.n)) gives wrong_length)
    ∷ (any_illegal column (numbers_of bytes) gives illegal_item)
    ∷ [])
    (given (single_verdict plan (sum_of (numbers_of bytes))))
