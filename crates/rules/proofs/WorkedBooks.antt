-- Small books and what checking them finds, together, as one list under one claim: each kind of fault at its byte, and
-- the numbers on both sides of each bound of each kind of section (the 16 bits of a number are a bound of their own).
-- "At most 32,768 bytes" is proved of every book: `book-long` and `book-is` of Steps.
-- Assumes nothing.
use Prim.Native.Nat.{ℕ, ◌-◌}
use mathlib.Core.Path.{refl}
use mathlib.Core.List.{List, [], ◌∷◌, ◌++◌}
use lib.ListN.{set, replicate}
use Rattle.rules.specs.Numbers.{numbers_of, number_bytes}
use Rattle.rules.specs.Book.{Checked, sound, broken_at, check_book, checked_as, sections, section, entries, entry}
use Rattle.rules.specs.Book.{key_falls, rises, numbers_from, right, staged_rule, staged_number, ac_keeps, re_keeps}
use Rattle.rules.specs.Book.{sequential_rule, at_fits, shift, then_from, fifth, all_sections}
use Rattle.rules.proofs.Cases.{Case, AllAsSaid}

-- a sound book of 44 numbers: two reduced singles, a staged plan, a sequential and a variables plan
whole : List ℕ
whole =
    (2 ∷ 0 ∷ 0 ∷ 5 ∷ 0 ∷ 0 ∷ 1 ∷ 5 ∷ 0 ∷ [])
    ++ (1 ∷ 0 ∷ 3 ∷ 10 ∷ 5 ∷ 3 ∷ 3 ∷ 3 ∷ 3 ∷ 3 ∷ 65535 ∷ 2 ∷ 0 ∷ 3 ∷ 0 ∷ 3 ∷ 1 ∷ 3 ∷ 3 ∷ 4 ∷ [])
    ++ (1 ∷ 1 ∷ 3 ∷ 10 ∷ 1750 ∷ 2247 ∷ 9570 ∷ 98 ∷ 9 ∷ [])
    ++ (1 ∷ 2 ∷ 15 ∷ 15 ∷ 3 ∷ 4000 ∷ [])

-- the same with another number at a place
with : ℕ → ℕ → List ℕ
with place x = number_bytes (set whole place x)

-- one entry, in the section at a place of the order
alone : ℕ → List ℕ → List ℕ
alone j e = number_bytes (replicate j 0 ++ ((1 ∷ e) ++ replicate (3 - j) 0))

-- what checking a book finds
infix 20 ◌is◌
abbrev ◌is◌ : List ℕ → Checked → Case Checked
book is answer = record { computed = check_book book; said = answer }

pub cases : List (Case Checked)
cases =
    -- four empty sections, and a whole book
    (replicate 8 0 is sound)
    ∷ (number_bytes whole is sound)
    -- "the book's length where a number is missing or half there": no number, half a number, a column, an entry
    ∷ ([] is broken_at 0)
    ∷ (replicate 7 0 is broken_at 7)
    ∷ (number_bytes (2 ∷ 1 ∷ 0 ∷ 5 ∷ 0 ∷ 0 ∷ []) is broken_at 12)
    ∷ (with 38 2 is broken_at 88)
    -- "the entry's first number where its whole key doesn't rise": the same key, one lower by its second and by its
    -- first number, and a second number that is lower where the first rises
    ∷ (with 6 0 is broken_at 10)
    ∷ (number_bytes (2 ∷ 0 ∷ 1 ∷ 5 ∷ 0 ∷ 0 ∷ 0 ∷ 5 ∷ 0 ∷ 0 ∷ 0 ∷ 0 ∷ []) is broken_at 10)
    ∷ (number_bytes (2 ∷ 1 ∷ 0 ∷ 5 ∷ 0 ∷ 0 ∷ 99 ∷ 5 ∷ 0 ∷ 0 ∷ 0 ∷ 0 ∷ []) is broken_at 10)
    ∷ (number_bytes (2 ∷ 0 ∷ 1 ∷ 5 ∷ 0 ∷ 1 ∷ 0 ∷ 5 ∷ 0 ∷ 0 ∷ 0 ∷ 0 ∷ []) is sound)
    -- reduced singles: letter, column, n, Ac
    ∷ (with 5 15 is sound)
    ∷ (with 5 16 is broken_at 10)
    ∷ (with 6 25 is sound)
    ∷ (with 6 26 is broken_at 12)
    ∷ (with 3 0 is broken_at 6)
    ∷ (with 3 1 is sound)
    ∷ (with 3 3150 is sound)
    ∷ (with 3 3151 is broken_at 6)
    ∷ (with 4 65534 is sound)
    ∷ (with 4 65535 is broken_at 8)
    -- staged: severity, letter, column, stages, sizes
    ∷ (with 10 2 is sound)
    ∷ (with 10 3 is broken_at 20)
    ∷ (with 11 15 is sound)
    ∷ (with 11 16 is broken_at 22)
    ∷ (with 12 25 is sound)
    ∷ (with 12 26 is broken_at 24)
    ∷ (with 13 1 is broken_at 26)
    ∷ (with 13 8 is broken_at 26)
    ∷ (with 14 0 is broken_at 28)
    ∷ (with 14 1 is sound)
    ∷ (with 18 2000 is sound)
    ∷ (with 18 2001 is broken_at 36)
    -- two stages, each number as low as it goes; seven, as high; "Re up to 65,534"
    ∷ (alone 1 (0 ∷ 0 ∷ 0 ∷ 2 ∷ 1 ∷ 1 ∷ 0 ∷ 1 ∷ 0 ∷ 1 ∷ []) is sound)
    ∷ (alone 1
    ((2 ∷ 15 ∷ 25 ∷ 7 ∷ replicate 7 2000)
    ++ (0 ∷ 1 ∷ 0 ∷ 1 ∷ 0 ∷ 1 ∷ 0 ∷ 1 ∷ 0 ∷ 1 ∷ 0 ∷ 1 ∷ 0 ∷ 1 ∷ []))
    is sound)
    ∷ (alone 1 (0 ∷ 0 ∷ 0 ∷ 2 ∷ 1 ∷ 1 ∷ 0 ∷ 65534 ∷ 65533 ∷ 65534 ∷ []) is sound)
    ∷ (alone 1 (0 ∷ 0 ∷ 0 ∷ 2 ∷ 1 ∷ 1 ∷ 0 ∷ 65534 ∷ 65534 ∷ 65535 ∷ []) is broken_at 22)
    -- a mark is exempt, stands only before numbers, and not at the last stage; it is no Re
    ∷ (with 20 0 is sound)
    ∷ (with 20 65535 is broken_at 40)
    ∷ (with 21 65535 is sound)
    ∷ (with 23 65535 is broken_at 46)
    ∷ (with 27 65535 is broken_at 54)
    -- Ac falls, Re falls, Ac is not under Re, the last Re is not Ac + 1
    ∷ (with 23 1 is sound)
    ∷ (with 23 2 is broken_at 50)
    ∷ (with 26 2 is broken_at 52)
    ∷ (with 25 2 is sound)
    ∷ (with 25 3 is broken_at 52)
    ∷ (with 28 3 is broken_at 56)
    ∷ (with 28 5 is broken_at 56)
    -- sequential: severity, letter, column, hA, hR, g, nt, At; each as low as it goes, and as high
    ∷ (with 30 2 is sound)
    ∷ (with 30 3 is broken_at 60)
    ∷ (with 31 15 is sound)
    ∷ (with 31 16 is broken_at 62)
    ∷ (with 32 15 is sound)
    ∷ (with 32 16 is broken_at 64)
    ∷ (with 33 0 is broken_at 66)
    ∷ (with 34 0 is broken_at 68)
    ∷ (with 35 0 is broken_at 70)
    ∷ (with 35 60001 is broken_at 70)
    ∷ (with 36 0 is broken_at 72)
    ∷ (with 36 3151 is broken_at 72)
    ∷ (with 37 6 is broken_at 74)
    ∷ (with 37 7 is sound)
    ∷ (with 37 11 is sound)
    ∷ (with 37 12 is broken_at 74)
    ∷ (alone 2 (0 ∷ 0 ∷ 0 ∷ 1 ∷ 1 ∷ 1 ∷ 1 ∷ 0 ∷ []) is sound)
    ∷ (alone 2 (2 ∷ 15 ∷ 15 ∷ 65535 ∷ 65535 ∷ 60000 ∷ 3150 ∷ 1890 ∷ []) is sound)
    -- variables: severity, letter, column, n, K; the whole book has each but n as high as it goes
    ∷ (alone 3 (0 ∷ 0 ∷ 0 ∷ 2 ∷ 1 ∷ []) is sound)
    ∷ (with 39 3 is broken_at 78)
    ∷ (with 40 16 is broken_at 80)
    ∷ (with 41 16 is broken_at 82)
    ∷ (with 42 1 is broken_at 84)
    ∷ (with 42 2 is sound)
    ∷ (with 42 50 is sound)
    ∷ (with 42 51 is broken_at 84)
    ∷ (with 43 0 is broken_at 86)
    ∷ (with 43 1 is sound)
    ∷ (with 43 4001 is broken_at 86)
    -- document 02, T-07: "at the fifth count when it is 0", whatever follows it; half of it is "half there"
    ∷ (replicate 10 0 is broken_at 8)
    ∷ (replicate 10 0 ++ (1 ∷ 2 ∷ 3 ∷ []) is broken_at 8)
    ∷ (number_bytes (whole ++ (0 ∷ [])) is broken_at 88)
    ∷ (replicate 9 0 is broken_at 9)
    -- "a fifth book section laid out as the fourth": each number as low as it goes, and as high; after a whole book
    ∷ (alone 4 (0 ∷ 0 ∷ 0 ∷ 2 ∷ 1 ∷ []) is sound)
    ∷ (alone 4 (2 ∷ 15 ∷ 15 ∷ 50 ∷ 4000 ∷ []) is sound)
    ∷ (number_bytes (whole ++ (1 ∷ 0 ∷ 0 ∷ 0 ∷ 2 ∷ 1 ∷ [])) is sound)
    ∷ (alone 4 (3 ∷ 0 ∷ 0 ∷ 2 ∷ 1 ∷ []) is broken_at 10)
    ∷ (alone 4 (0 ∷ 16 ∷ 0 ∷ 2 ∷ 1 ∷ []) is broken_at 12)
    ∷ (alone 4 (0 ∷ 0 ∷ 16 ∷ 2 ∷ 1 ∷ []) is broken_at 14)
    ∷ (alone 4 (0 ∷ 0 ∷ 0 ∷ 1 ∷ 1 ∷ []) is broken_at 16)
    ∷ (alone 4 (0 ∷ 0 ∷ 0 ∷ 51 ∷ 1 ∷ []) is broken_at 16)
    ∷ (alone 4 (0 ∷ 0 ∷ 0 ∷ 2 ∷ 0 ∷ []) is broken_at 18)
    ∷ (alone 4 (0 ∷ 0 ∷ 0 ∷ 2 ∷ 4001 ∷ []) is broken_at 18)
    -- a key that rises, one that stays and one that falls
    ∷ (number_bytes (0 ∷ 0 ∷ 0 ∷ 0 ∷ 2 ∷ 0 ∷ 0 ∷ 0 ∷ 2 ∷ 1 ∷ 0 ∷ 0 ∷ 1 ∷ 2 ∷ 1 ∷ []) is sound)
    ∷ (number_bytes (0 ∷ 0 ∷ 0 ∷ 0 ∷ 2 ∷ 0 ∷ 0 ∷ 1 ∷ 2 ∷ 1 ∷ 0 ∷ 0 ∷ 1 ∷ 2 ∷ 1 ∷ []) is broken_at 20)
    ∷ (number_bytes (0 ∷ 0 ∷ 0 ∷ 0 ∷ 2 ∷ 0 ∷ 0 ∷ 1 ∷ 2 ∷ 1 ∷ 0 ∷ 0 ∷ 0 ∷ 2 ∷ 1 ∷ []) is broken_at 20)
    -- "the book's length where a number is missing or half there": an entry, a number, half a number
    ∷ (number_bytes (0 ∷ 0 ∷ 0 ∷ 0 ∷ 1 ∷ []) is broken_at 10)
    ∷ (alone 4 (0 ∷ 0 ∷ 0 ∷ 2 ∷ []) is broken_at 18)
    ∷ (alone 4 (0 ∷ 0 ∷ 0 ∷ 2 ∷ []) ++ (1 ∷ []) is broken_at 19)
    -- "at the first byte after the fifth section in place of the fourth": a byte, a number; what stood after the fourth
    -- is now the fifth, its count at 78
    ∷ (alone 4 (0 ∷ 0 ∷ 0 ∷ 2 ∷ 1 ∷ []) ++ (0 ∷ []) is broken_at 20)
    ∷ (alone 4 (0 ∷ 0 ∷ 0 ∷ 2 ∷ 1 ∷ []) ++ (0 ∷ 0 ∷ []) is broken_at 20)
    ∷ (with 38 0 is broken_at 80)
    ∷ []

pub worked-books : AllAsSaid cases
unfolding cases whole with alone check_book number_bytes numbers_of checked_as sections section entries entry shift
    then_from key_falls rises numbers_from right staged_rule staged_number ac_keeps re_keeps sequential_rule at_fits
    fifth all_sections
worked-books = refl
