-- What checking a row, laying its entry, and showing an entry as a row come to. Definitions only.
use Rattle.std.specs.Prelude.{ℕ, ◌+◌, ◌*◌, ◌≤◌, ◌≡◌, Bool, cond, ◌&&◌, List, [], ◌∷◌, ◌++◌, leb, length, take}
use Rattle.std.specs.Prelude.{drop, Option, Some, None}
use Rattle.std.proofs.lemmas.List.Edits.{sets}
use Rattle.rules.specs.Numbers.{numbers_of, number_bytes}
use Rattle.rules.specs.Book.{Kind, Walk, ends, broken, short, size_of}
use Rattle.rules.specs.Writing.{entry_in_row, row_right, filled, row_of}

-- a number at a place of lent memory, counted in numbers
abbrev pub put_number : List ℕ → ℕ → ℕ → List ℕ
put_number bytes at x = sets bytes (2 * at) (number_bytes (x ∷ []))

-- the row that a stretch begins with
abbrev pub row_in : Kind → List ℕ → List ℕ
row_in k ws = take k.width ws

-- how many numbers the entry of a row has, where it is right after one with the key before
abbrev pub row_size : Kind → List ℕ → List ℕ → Option ℕ
row_size k before row = cond (row_right k before row) (Some (size_of k row)) None

-- how many numbers an entry has that ends, by what reading it comes to
abbrev pub end_of : Walk → Option ℕ
end_of (ends p) = Some p
end_of (broken p) = None
end_of short = None

-- is the row whole, its entry no longer than it, and is there room for the entry from place `at` on?
abbrev pub lay_fits : Kind → List ℕ → ℕ → List ℕ → Bool
lay_fits k row at out =
    leb k.width (length row) && (leb (size_of k row) k.width && leb (at + size_of k row) (length (numbers_of out)))

-- the entry of a row, laid from place `at` on; nothing where it does not fit
abbrev pub entry_laid : Kind → List ℕ → ℕ → List ℕ → List ℕ
entry_laid k row at out = cond (lay_fits k row at out) (sets out (2 * at) (number_bytes (entry_in_row k row))) out

-- is the entry whole, no longer than a row, and is there room for a row?
abbrev pub show_fits : Kind → List ℕ → List ℕ → Bool
show_fits k e row =
    leb (size_of k e) (length e) && (leb (size_of k e) k.width && leb k.width (length (numbers_of row)))

-- the entry that a stretch begins with, as a row, and the rest as it was; nothing where it does not fit
abbrev pub entry_shown : Kind → List ℕ → List ℕ → List ℕ
entry_shown k e row = cond (show_fits k e row) (number_bytes (row_of k e) ++ drop (2 * k.width) row) row

-- The row that a stretch begins with is whole, its entry no longer than it, and there is room for the entry from place
-- `at` on.
pub record Layable (k : Kind) (ws : List ℕ) (at : ℕ) (out : List ℕ) : Type 0 where
  pub whole : k.width ≤ length ws
  pub fits : size_of k ws ≤ k.width
  pub room : at + size_of k ws ≤ length (numbers_of out)

-- The loop that lays an entry: i of its numbers are laid, and what is left to lay makes the whole of it.
pub record Laying (k : Kind) (ws : List ℕ) (at : ℕ) (start : List ℕ) (out : List ℕ) (i : ℕ) : Type 0 where
  pub long : length out ≡ length start
  pub left : sets out (2 * (at + i)) (number_bytes (drop i (entry_in_row k ws)))
      ≡ sets start (2 * at) (number_bytes (entry_in_row k ws))

-- The entry that a stretch begins with is whole and no longer than a row, and there is room for a row.
pub record Showable (k : Kind) (ws : List ℕ) (row : List ℕ) : Type 0 where
  pub whole : size_of k ws ≤ length ws
  pub fits : size_of k ws ≤ k.width
  pub room : k.width ≤ length (numbers_of row)

-- The loop that shows an entry: i of its numbers stand in the row, 0 in its other places, and the rest follows.
pub record Showing (k : Kind) (ws : List ℕ) (rest : List ℕ) (row : List ℕ) (i : ℕ) : Type 0 where
  pub shown : row ≡ number_bytes (filled k ws i) ++ rest
