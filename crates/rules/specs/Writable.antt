-- Document 02, T-03: what a bad entry is, with no walk in it, and how entries that were read are handed over again.
-- Words of theorems. Definitions only.
use Rattle.std.specs.Prelude.{ℕ, zero, suc, ◌+◌, ◌≤◌, ◌<◌, ◌≡◌, List, [], ◌∷◌, ◌++◌, length, get_or}
use Rattle.rules.specs.Numbers.{number_bytes}
use Rattle.rules.specs.Book.{Kind, key_of, kinds, kind_at, largest_book}
use Rattle.rules.specs.Faults.{EntryFault}
use Rattle.rules.specs.Writing.{Rows, entry_in_row, row_of, book_of}

-- What makes a row bad, after an entry with the key before: it is cut short at the end of its list, or the reader would
-- refuse its entry for a number out of range, a rule broken, or a key that does not rise.
pub data RowFault (k : Kind) (before row : List ℕ) : Type 0 where
  cut_short : length row < k.width → RowFault k before row
  refused_at : (place : ℕ) → EntryFault k before (entry_in_row k row) place → RowFault k before row

-- the key before the row that is i-th from the first; that one has only what stood before the rows
unfoldable pub key_over : Kind → List ℕ → ℕ → Rows → List ℕ
key_over k before zero rows = before
key_over k before (suc i) rows = key_of k (get_or rows i [])

-- A bad row at position q, of rows whose first is at position p.
pub record BadRow (k : Kind) (p : ℕ) (before : List ℕ) (rows : Rows) (q : ℕ) : Type 0 where
  pub nth : ℕ
  pub among : nth < length rows
  pub stands : q ≡ p + nth
  pub fault : RowFault k (key_over k before nth rows) (get_or rows nth [])

-- "counted from 0 through the sections": how many entries stand in the lists before the j-th
unfoldable pub entries_before : (ℕ → Rows) → ℕ → ℕ
entries_before rows zero = 0
entries_before rows (suc j) = entries_before rows j + length (rows j)

-- A bad entry at a position.
pub record BadEntry (rows : ℕ → Rows) (q : ℕ) : Type 0 where
  pub list : ℕ
  pub known : list < length kinds
  pub bad : BadRow (kind_at list) (entries_before rows list) [] (rows list) q

-- "the first bad entry"
pub record FirstBadEntry (rows : ℕ → Rows) (q : ℕ) : Type 0 where
  pub bad : BadEntry rows q
  pub first : (p : ℕ) → BadEntry rows p → q ≤ p

abbrev pub NoneBad : (ℕ → Rows) → Type 0
NoneBad rows = (q : ℕ) → BadEntry rows q → ⊥

-- "when the buffer is too short or the book would pass 32,768 bytes"
pub data NoRoom (rows : ℕ → Rows) (room : ℕ) : Type 0 where
  buffer_shorter : room < length (book_of rows) → NoRoom rows room
  book_too_long : largest_book < length (book_of rows) → NoRoom rows room

-- A book that is written from rows into so much room.
pub record Writes (rows : ℕ → Rows) (room : ℕ) (book : List ℕ) : Type 0 where
  pub none-bad : NoneBad rows
  pub in-room : length book ≤ room
  pub not-long : length book ≤ largest_book
  pub is-book : book ≡ book_of rows

-- Whole rows with the same entries in the same order: "places past an entry's own stages count for nothing".
pub record Alike (k : Kind) (rows others : Rows) : Type 0 where
  pub many : length rows ≡ length others
  pub whole : (i : ℕ) → i < length rows → k.width ≤ length (get_or rows i [])
  pub whole-too : (i : ℕ) → i < length rows → k.width ≤ length (get_or others i [])
  pub same : (i : ℕ) → i < length rows → entry_in_row k (get_or rows i []) ≡ entry_in_row k (get_or others i [])

-- a row as it is read back: a staged one with 0 in the places past its stages
abbrev pub tidy : Kind → List ℕ → List ℕ
tidy k row = row_of k (entry_in_row k row)

-- rows as they are lent, one behind the other
unfoldable pub joined : Rows → List ℕ
joined [] = []
joined (row ∷ rows) = row ++ joined rows

-- the lists of rows from the j-th on, as they are lent
unfoldable pub lent_from : List Kind → ℕ → (ℕ → Rows) → List (List ℕ)
lent_from [] j rows = []
lent_from (k ∷ ks) j rows = number_bytes (joined (rows j)) ∷ lent_from ks (suc j) rows
