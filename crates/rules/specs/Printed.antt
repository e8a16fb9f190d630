-- The tables a second time: the sizes of each row of Table 1, the box of the master tables at each letter and s, and
-- arrows as the table has them. Definitions only.
use Rattle.std.specs.Prelude.{ℕ, zero, suc, ◌+◌, ◌-◌, ◌≡◌, List, [], ◌∷◌, ◌++◌, get_or, replicate}
use Rattle.rules.specs.Ascii.{ascii}
use Rattle.rules.specs.Codes.{SizeRow, table_one, above}
use Rattle.rules.specs.Single.{Box, down, up, number, box_at, Landing, landed}
use Rattle.rules.specs.Log.{split_at, space, decimal}

-- The rows of Table 1 from both sides: the first and the last size of each, the last row that of the lots above.
abbrev pub size_row : ℕ → SizeRow
size_row i = get_or table_one i above

abbrev pub first_size : ℕ → ℕ
first_size zero = 2
first_size (suc i) = suc (size_row i).last

-- The master tables, normal and tightened: for each letter, the box of each s from 0 to 26, v for down and ^ for up.
abbrev pub printed_boxes : List (List (List ℕ))
printed_boxes =
    ((ascii "v v v v v v v v v v v v v v 0 v v 1 2 3 5 7 10 14 21 30 44" ∷ [])
    ++ replicate 4 (ascii "v v v v v v v v v v v v v v 0 ^ v 1 2 3 5 7 10 14 21 30 44")
    ++ replicate 10 (ascii "v v v v v v v v v v v v v v 0 ^ v 1 2 3 5 7 10 14 21 ^ ^")
    ++ (ascii "v v v v v v v v v v v v v v 0 ^ ^ 1 2 3 5 7 10 14 21 ^ ^" ∷ [])
    ++ (ascii "v v v v v v v v v v v v v v 0 ^ v 1 2 3 5 7 10 14 21 ^ ^" ∷ []))
    ∷ ((ascii "v v v v v v v v v v v v v v v 0 v v 1 2 3 5 8 12 18 27 41" ∷ [])
    ++ replicate 4 (ascii "v v v v v v v v v v v v v v v 0 ^ v 1 2 3 5 8 12 18 27 41")
    ++ replicate 12 (ascii "v v v v v v v v v v v v v v v 0 ^ v 1 2 3 5 8 12 18 ^ ^"))
    ∷ []

-- "over 26": up
abbrev pub printed_box : ℕ → ℕ → ℕ → List ℕ
printed_box severity letter s =
    get_or (split_at space (get_or (get_or printed_boxes severity []) letter [])) s (ascii "^")

abbrev pub box_name : Box → List ℕ
box_name down = ascii "v"
box_name up = ascii "^"
box_name (number ac) = decimal ac

-- Arrows as the table has them, counted: so many lead from a letter to a box with a number.
pub data Leads (severity column : ℕ) : ℕ → ℕ → Landing → Type 0 where
  there : (letter ac : ℕ) → box_at severity column letter ≡ number ac
      → Leads severity column letter 0 (landed letter ac)
  downward : (letter k : ℕ) (l : Landing) → box_at severity column letter ≡ down
      → Leads severity column (letter + 1) k l
      → Leads severity column letter (suc k) l
  upward : (letter k : ℕ) (l : Landing) → box_at severity column letter ≡ up → Leads severity column (letter - 1) k l
      → Leads severity column letter (suc k) l
