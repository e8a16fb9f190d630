-- Document 01, 'Numbers the bench sees': what an entry answers, the twelve refusals, and their order. Definitions only.
use Rattle.std.specs.Prelude.{ℕ, Bool, cond, List, [], ◌∷◌}

-- "A refusal carries its number (and place) and writes nothing": the place is 0 where document 01 gives none.
pub data Answer (A : Type 0) : Type 0 where
  refused : ℕ → ℕ → Answer A
  given : A → Answer A

-- 1: line or history byte of no known form; a severity over 3 or a record out of range
abbrev pub unknown_form : ℕ
unknown_form = 1

-- 2: lot size under 2
abbrev pub lot_too_small : ℕ
lot_too_small = 2

-- 3: level over 6
abbrev pub no_such_level : ℕ
no_such_level = 3

-- 4: column over 25; by document 02, T-07, either of two columns
abbrev pub no_such_column : ℕ
no_such_column = 4

-- 5: any lot while stopped
abbrev pub while_stopped : ℕ
while_stopped = 5

-- 6: no book entry under the key, or a staged total, nt or variables n above the lot size; in the mode of document 02,
-- T-01, a fractional box at a column over 15; by T-03 no such entry to read; by T-04 a curtailed sample under reduced;
-- by T-07 two sides' entries that differ in n
abbrev pub no_plan : ℕ
no_plan = 6

-- 7: sample of wrong length; for the screen, 0 or over 50 readings; by document 02, T-04, a curtailed sample that ends
-- before or goes on past its end
abbrev pub wrong_length : ℕ
wrong_length = 7

-- 8: item over 1 where items are 0 or 1; in lotlog, total over n for columns 0 to 15
abbrev pub illegal_item : ℕ
illegal_item = 8

-- 9: reading or limit out of range; by document 02, T-07, sigma out of range, or a lower limit not below the upper
abbrev pub out_of_range : ℕ
out_of_range = 9

-- 10: corrective order when not stopped
abbrev pub not_stopped : ℕ
not_stopped = 10

-- 11: severity buffer shorter than the history; by document 02, T-03, a buffer shorter than the book, a book over its
-- length, a row too short for an entry
abbrev pub buffer_short : ℕ
buffer_short = 11

-- 12: book breaks its layout, with the byte, by document 02, T-07, at a fifth count of 0 too; by T-03, a bad entry,
-- with its position
abbrev pub broken_book : ℕ
broken_book = 12

-- What may be wrong, and the refusal that it then gives.
pub record Check : Type 0 where
  pub wrong : Bool
  pub number : ℕ
  pub place : ℕ

infix 25 ◌gives◌
abbrev pub ◌gives◌ : Bool → ℕ → Check
wrong gives number = record { wrong = wrong; number = number; place = 0 }

-- "12 first, then the lowest number": an entry lists its checks in that order, and the first that finds something
-- wrong refuses.
abbrev pub first_of : {A : Type 0} → List Check → Answer A → Answer A
first_of [] answer = answer
first_of (c ∷ cs) answer = cond c.wrong (refused c.number c.place) (first_of cs answer)

-- What is given goes on; a refusal stays.
abbrev pub and_then : {A B : Type 0} → Answer A → (A → Answer B) → Answer B
and_then (refused n p) next = refused n p
and_then (given a) next = next a
