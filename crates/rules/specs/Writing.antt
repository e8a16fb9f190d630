-- Document 02, T-03: a book made from its entries, and a book's entries shown. "Each entry kind gets the same checks as
-- the reader". Definitions only.
-- An entry is handed over, and shown, as a row of numbers; the kinds say where in a row each number of an entry stands.
use Rattle.std.specs.Prelude.{ℕ, zero, suc, ◌+◌, ◌*◌, Bool, cond, ◌&&◌, ◌||◌, List, [], ◌∷◌, ◌++◌, leb, ltb, eqb}
use Rattle.std.specs.Prelude.{length, get_or, take, drop, set, replicate}
use Rattle.rules.specs.Refusals.{Answer, given, ◌gives◌, first_of, no_plan, buffer_short}
use Rattle.rules.specs.Numbers.{numbers_of, number_bytes}
use Rattle.rules.specs.Book.{Kind, size_of, key_of, entry, is_end, always, kinds, kind_at, Checked, sound}
use Rattle.rules.specs.Book.{broken_at, largest_book, check_book, on_sound}
use Rattle.rules.specs.Layout.{section_from}

-- the entries of a section, each as its row
abbrev pub Rows : Type 0
Rows = List (List ℕ)

-- n numbers of a row, those of an entry from place i on
unfoldable pub gathered : (ℕ → ℕ) → ℕ → ℕ → List ℕ → List ℕ
gathered place i zero row = []
gathered place i (suc n) row = get_or row (place i) 0 ∷ gathered place (suc i) n row

-- the entry in a row; "places past an entry's own stages count for nothing"
unfoldable pub entry_in_row : Kind → List ℕ → List ℕ
entry_in_row k row = gathered (k.in_row (get_or row k.key 0)) 0 (size_of k row) row

-- the row of the entry that a stretch begins with: its first i numbers at their places, and 0 elsewhere
unfoldable pub filled : Kind → List ℕ → ℕ → List ℕ
filled k e zero = replicate k.width 0
filled k e (suc i) = set (filled k e i) (k.in_row (get_or e k.key 0) i) (get_or e i 0)

unfoldable pub row_of : Kind → List ℕ → List ℕ
row_of k e = filled k e (size_of k e)

-- the rows of a lent list of bytes, at most as many as it has bytes; a last one that is cut short is a row too
unfoldable pub rows_in : ℕ → ℕ → List ℕ → Rows
rows_in width zero bytes = []
rows_in width (suc most) bytes =
    cond (eqb (length bytes) 0) [] (take width (numbers_of bytes) ∷ rows_in width most (drop (2 * width) bytes))

-- the lent lists in the order of the sections, each as its rows
abbrev pub lent_rows : List (List ℕ) → ℕ → Rows
lent_rows lists j = rows_in (kind_at j).width (length (get_or lists j [])) (get_or lists j [])

-- is the row whole, and would the reader take its entry after one with the key before?
unfoldable pub row_right : Kind → List ℕ → List ℕ → Bool
row_right k before row = leb k.width (length row) && is_end (entry k before (entry_in_row k row))

-- rows, the first of which is at position p, after an entry with the key before: "the position of the first bad entry"
unfoldable pub check_rows : Kind → ℕ → List ℕ → Rows → Checked
check_rows k p before [] = sound
check_rows k p before (row ∷ rows) =
    cond (row_right k before row) (check_rows k (suc p) (key_of k row) rows) (broken_at p)

abbrev pub sound_then : Checked → Checked → Checked
sound_then sound next = next
sound_then (broken_at p) next = broken_at p

-- "counted from 0 through the sections": the lists from the j-th on, whose first entry is at position p
unfoldable pub check_lists : List Kind → ℕ → ℕ → (ℕ → Rows) → Checked
check_lists [] j p rows = sound
check_lists (k ∷ ks) j p rows =
    sound_then (check_rows k p [] (rows j)) (check_lists ks (suc j) (p + length (rows j)) rows)

-- the numbers of a section, after its count
unfoldable pub laid : Kind → Rows → List ℕ
laid k [] = []
laid k (row ∷ rows) = entry_in_row k row ++ laid k rows

-- document 02, T-07: the fifth section, "If present it holds at least one entry", is left out where it would have none
abbrev pub left_out : ℕ → ℕ → Bool
left_out j n = eqb j (length always) && eqb n 0

-- the section at place j of the order, "each after its count"
unfoldable pub laid_section : Kind → ℕ → Rows → List ℕ
laid_section k j rows = cond (left_out j (length rows)) [] (length rows ∷ laid k rows)

-- the sections from the j-th on
unfoldable pub laid_lists : List Kind → ℕ → (ℕ → Rows) → List ℕ
laid_lists [] j rows = []
laid_lists (k ∷ ks) j rows = laid_section k j (rows j) ++ laid_lists ks (suc j) rows

-- "entries in, book out"
abbrev pub book_of : (ℕ → Rows) → List ℕ
book_of rows = number_bytes (laid_lists kinds 0 rows)

-- "the buffer is too short or the book would pass 32,768 bytes"
abbrev pub no_room : (ℕ → Rows) → ℕ → Bool
no_room rows room = ltb room (length (book_of rows)) || ltb largest_book (length (book_of rows))

-- write_book: "12 with the position of the first bad entry .. in place of a byte; 11 .. after 12"
unfoldable pub write_book : (ℕ → Rows) → ℕ → Answer (List ℕ)
write_book rows room =
    on_sound (check_lists kinds 0 0 rows)
    (first_of ((no_room rows room gives buffer_short) ∷ []) (given (book_of rows)))

-- the rows of n entries of a stretch
unfoldable pub shown : Kind → ℕ → List ℕ → Rows
shown k zero ws = []
shown k (suc n) ws = row_of k ws ∷ shown k n (drop (size_of k ws) ws)

-- the entries of the section at place j of the order; one that is not there has none
unfoldable pub read_entries : List ℕ → ℕ → Rows
read_entries ws j =
    cond (ltb j (length kinds)) (shown (kind_at j) (get_or (section_from j ws) 0 0) (drop 1 (section_from j ws))) []

-- count_entries
unfoldable pub count_entries : List ℕ → ℕ → Answer ℕ
count_entries book j = on_sound (check_book book) (given (length (read_entries (numbers_of book) j)))

-- read_entry: 12; then 6 where there is no such entry; then 11 for a row too short
unfoldable pub read_entry : List ℕ → ℕ → ℕ → ℕ → Answer (List ℕ)
read_entry book j nth room =
    let rows = read_entries (numbers_of book) j in
    on_sound (check_book book)
    (first_of
    ((leb (length rows) nth gives no_plan) ∷ (ltb room (2 * (kind_at j).width) gives buffer_short) ∷ [])
    (given (get_or rows nth [])))
