-- Document 01, 'Codes': levels, letters, columns, and Table 1. Definitions only.
use Rattle.std.specs.Prelude.{ℕ, suc, Bool, false, cond, ◌&&◌, ◌||◌, List, [], ◌∷◌, ◌++◌, map, leb, ltb, eqb, get_or}
use Prim.Native.String.{String}
use Rattle.rules.specs.Ascii.{ascii}
use Rattle.rules.specs.Refusals.{Answer, given, Check, ◌gives◌, first_of, lot_too_small, no_such_level, no_such_column}

-- "Severities: 0 normal, 1 tightened, 2 reduced, 3 stopped."
abbrev pub normal : ℕ
normal = 0

abbrev pub tightened : ℕ
tightened = 1

abbrev pub reduced : ℕ
reduced = 2

abbrev pub stopped : ℕ
stopped = 3

-- "Letters 0 to 16: A B C D E F G H J K L M N P Q R S"
abbrev pub letter_names : List ℕ
letter_names = ascii "ABCDEFGHJKLMNPQRS"

-- the number of a letter: its place among the names
abbrev pub place_in : List ℕ → ℕ → ℕ
place_in [] name = 0
place_in (x ∷ xs) name = cond (eqb name x) 0 (suc (place_in xs name))

abbrev pub letters : String → List ℕ
letters names = map (place_in letter_names) (ascii names)

-- the letters that document 01 names by themselves
abbrev pub letter_a : ℕ
letter_a = 0

abbrev pub letter_e : ℕ
letter_e = 4

abbrev pub letter_r : ℕ
letter_r = 15

-- "Columns 0 to 15 count nonconforming items (each item 0 or 1); above 15, nonconformities per item, 0 to 65,535."
abbrev pub counts_items : ℕ → Bool
counts_items column = leb column 15

abbrev pub illegal : ℕ → ℕ → Bool
illegal column item = counts_items column && ltb 1 item

unfoldable pub any_illegal : ℕ → List ℕ → Bool
any_illegal column [] = false
any_illegal column (x ∷ xs) = illegal column x || any_illegal column xs

-- "Lot size is 2 to 4,294,967,295" (an entry takes no larger number), "level over 6", "column over 25"
abbrev pub letter_checks : ℕ → ℕ → List Check
letter_checks size level = (ltb size 2 gives lot_too_small) ∷ (ltb 6 level gives no_such_level) ∷ []

abbrev pub lot_checks : ℕ → ℕ → ℕ → List Check
lot_checks size level column = letter_checks size level ++ ((ltb 25 column gives no_such_column) ∷ [])

-- "Letter by size up to (Table 1 of 002), in level order": the last size of a row, and its seven letters
pub record SizeRow : Type 0 where
  pub last : ℕ
  pub levels : String

infix 25 ◌has◌
abbrev pub ◌has◌ : ℕ → String → SizeRow
last has levels = record { last = last; levels = levels }

abbrev pub table_one : List SizeRow
table_one =
    (8 has "AAAAAAB")
    ∷ (15 has "AAAAABC")
    ∷ (25 has "AABBBCD")
    ∷ (50 has "ABBCCDE")
    ∷ (90 has "BBCCCEF")
    ∷ (150 has "BBCDDFG")
    ∷ (280 has "BCDEEGH")
    ∷ (500 has "BCDEFHJ")
    ∷ (1200 has "CCEFGJK")
    ∷ (3200 has "CDEGHKL")
    ∷ (10000 has "CDFGJLM")
    ∷ (35000 has "CDFHKMN")
    ∷ (150000 has "DEGJLNP")
    ∷ (500000 has "DEGJMPQ")
    ∷ []

-- "above": up to the largest lot
abbrev pub above : SizeRow
above = 4294967295 has "DEHKNQR"

abbrev pub goes_up_to : SizeRow → ℕ → Bool
goes_up_to row size = leb size row.last

-- the first row that goes up to the size
unfoldable pub row_from : List SizeRow → ℕ → SizeRow
row_from [] size = above
row_from (row ∷ rows) size = cond (goes_up_to row size) row (row_from rows size)

unfoldable pub row_of : ℕ → SizeRow
row_of size = row_from table_one size

unfoldable pub letter_of : ℕ → ℕ → ℕ
letter_of size level = get_or (letters (row_of size).levels) level 0

-- letter
unfoldable pub table_one_letter : ℕ → ℕ → Answer ℕ
table_one_letter size level = first_of (letter_checks size level) (given (letter_of size level))
