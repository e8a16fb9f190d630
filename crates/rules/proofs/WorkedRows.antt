-- Document 02, T-03: lists of entries, what writing them gives, and an entry shown, each computed from the definitions
-- and held to what was written from the documents first; together, as one list under one claim.
-- Assumes nothing.
use Prim.Native.Nat.{ℕ}
use mathlib.Core.Path.{refl}
use mathlib.Core.List.{List, [], ◌∷◌, ◌++◌}
use lib.ListN.{take, set, replicate}
use Rattle.rules.specs.Refusals.{Answer, refused, given}
use Rattle.rules.specs.Numbers.{numbers_of, number_bytes}
use Rattle.rules.specs.Book.{check_book, checked_as, sections, section, entries, entry, key_falls, rises}
use Rattle.rules.specs.Book.{numbers_from, fifth, all_sections}
use Rattle.rules.specs.Book.{right, staged_rule, staged_number, ac_keeps, re_keeps, sequential_rule, at_fits, shift}
use Rattle.rules.specs.Book.{then_from, staged_in_row}
use Rattle.rules.specs.Layout.{entry_at, section_at}
use Rattle.rules.specs.Writing.{Rows, gathered, entry_in_row, filled, row_of, rows_in, lent_rows, row_right, check_rows}
use Rattle.rules.specs.Writing.{check_lists, laid, laid_section, laid_lists, write_book, shown, read_entries}
use Rattle.rules.specs.Writing.{read_entry}
use Rattle.rules.proofs.Cases.{Case, ◌is◌, AllAsSaid}

-- two reduced singles
reduced : List ℕ
reduced = 8 ∷ 10 ∷ 32 ∷ 1 ∷ 9 ∷ 0 ∷ 50 ∷ 2 ∷ []

-- document 01's five stages of 3, with (#,2)(0,3)(0,3)(1,3)(3,4), and anything past them
staged : List ℕ
staged =
    (0 ∷ 3 ∷ 10 ∷ 5 ∷ [])
    ++ (3 ∷ 3 ∷ 3 ∷ 3 ∷ 3 ∷ 9999 ∷ 0 ∷ [])
    ++ (65535 ∷ 0 ∷ 0 ∷ 1 ∷ 3 ∷ 65535 ∷ 7 ∷ [])
    ++ (2 ∷ 3 ∷ 3 ∷ 3 ∷ 4 ∷ 1 ∷ 65535 ∷ [])

-- document 01's sequential plan, and three readings with k 3.5
sequential : List ℕ
sequential = 1 ∷ 3 ∷ 10 ∷ 1750 ∷ 2247 ∷ 9570 ∷ 98 ∷ 9 ∷ []

variables : List ℕ
variables = 2 ∷ 15 ∷ 15 ∷ 3 ∷ 3500 ∷ []

-- the lists as they are lent
lists : List (List ℕ)
lists = number_bytes reduced ∷ number_bytes staged ∷ number_bytes sequential ∷ number_bytes variables ∷ []

-- their book: counts, and the stages' Ac and Re by turns
book : List ℕ
book =
    number_bytes
    ((2 ∷ 8 ∷ 10 ∷ 32 ∷ 1 ∷ 9 ∷ 0 ∷ 50 ∷ 2 ∷ [])
    ++ (1 ∷ 0 ∷ 3 ∷ 10 ∷ 5 ∷ 3 ∷ 3 ∷ 3 ∷ 3 ∷ 3 ∷ 65535 ∷ 2 ∷ 0 ∷ 3 ∷ 0 ∷ 3 ∷ 1 ∷ 3 ∷ 3 ∷ 4 ∷ [])
    ++ (1 ∷ 1 ∷ 3 ∷ 10 ∷ 1750 ∷ 2247 ∷ 9570 ∷ 98 ∷ 9 ∷ [])
    ++ (1 ∷ 2 ∷ 15 ∷ 15 ∷ 3 ∷ 3500 ∷ []))

-- document 02, T-07: the same lists with a fifth, and its book
sigma : List ℕ
sigma = 0 ∷ 0 ∷ 0 ∷ 2 ∷ 1 ∷ []

abbrev five : List ℕ → List (List ℕ)
five fifth_list = lists ++ (number_bytes fifth_list ∷ [])

abbrev five_book : List ℕ
five_book = book ++ number_bytes (1 ∷ sigma)

-- the same lists with another one at a place of the order
abbrev other : ℕ → List ℕ → ℕ → Rows
other j list = lent_rows (set lists j list)

-- one number changed, in a list at a place of the order
abbrev changed : ℕ → List ℕ → ℕ → ℕ → ℕ → Rows
changed j list place x = other j (number_bytes (set list place x))

pub cases : List (Case (Answer (List ℕ)))
cases =
    -- no entries: the book of a bench without one
    (write_book (lent_rows []) 8 is given (replicate 8 0))
    ∷ (write_book (lent_rows lists) 88 is given book)
    -- 11, and 12 before it
    ∷ (write_book (lent_rows lists) 87 is refused 11 0)
    ∷ (write_book (changed 3 variables 4 0) 0 is refused 12 4)
    -- positions through the lists: a number out of range, a rule broken, eight stages, a key that falls, one that stays
    ∷ (write_book (changed 0 reduced 2 0) 88 is refused 12 0)
    ∷ (write_book (changed 2 sequential 7 12) 88 is refused 12 3)
    ∷ (write_book (changed 1 staged 3 8) 88 is refused 12 2)
    ∷ (write_book (changed 0 reduced 4 8) 88 is refused 12 1)
    ∷ (write_book (other 0 (number_bytes (set (set reduced 4 8) 5 10))) 88 is refused 12 1)
    -- the first of several; a row cut short by a byte, and one of a byte
    ∷ (write_book (lent_rows (set (set lists 3 (0 ∷ [])) 1 (take 49 (number_bytes staged)))) 88 is refused 12 2)
    ∷ (write_book (other 3 (0 ∷ [])) 88 is refused 12 4)
    -- five lists; the fifth of none is left out; a bad entry in it, after the five before; no room
    ∷ (write_book (lent_rows (five sigma)) 100 is given five_book)
    ∷ (write_book (lent_rows (five [])) 88 is given book)
    ∷ (write_book (lent_rows (five (set sigma 4 4001))) 100 is refused 12 5)
    ∷ (write_book (lent_rows (five sigma)) 99 is refused 11 0)
    ∷ (read_entry five_book 4 0 10 is given sigma)
    ∷ (read_entry five_book 4 1 10 is refused 6 0)
    ∷ (read_entry five_book 5 0 10 is refused 6 0)
    -- an entry shown, 0 past its stages; none, and a row too short
    ∷ (read_entry book 1 0 50
    is given
    ((0 ∷ 3 ∷ 10 ∷ 5 ∷ [])
    ++ (3 ∷ 3 ∷ 3 ∷ 3 ∷ 3 ∷ 0 ∷ 0 ∷ [])
    ++ (65535 ∷ 0 ∷ 0 ∷ 1 ∷ 3 ∷ 0 ∷ 0 ∷ [])
    ++ (2 ∷ 3 ∷ 3 ∷ 3 ∷ 4 ∷ 0 ∷ 0 ∷ [])))
    ∷ (read_entry book 0 1 8 is given (9 ∷ 0 ∷ 50 ∷ 2 ∷ []))
    ∷ (read_entry book 1 1 0 is refused 6 0)
    ∷ (read_entry book 4 0 50 is refused 6 0)
    ∷ (read_entry book 1 0 49 is refused 11 0)
    ∷ (read_entry (take 87 book) 4 0 0 is refused 12 87)
    ∷ []

pub worked-rows : AllAsSaid cases
unfolding reduced staged sequential variables sigma lists book numbers_of number_bytes check_book checked_as
    all_sections fifth sections section entries entry key_falls rises numbers_from right staged_rule staged_number
    ac_keeps re_keeps sequential_rule at_fits shift then_from staged_in_row entry_at section_at gathered entry_in_row
    filled row_of rows_in row_right check_rows check_lists laid laid_section laid_lists write_book shown read_entries
    read_entry cases
worked-rows = refl
