-- What the code's lists are on paper, what its loops keep, and what lent memory then holds. Definitions only.
use Rattle.std.specs.Prelude.{ℕ, ◌+◌, ◌*◌, ◌≤◌, ◌≡◌, cond, List, [], ◌∷◌, ◌++◌, length, map, drop, Result, Ok, Err}
use Rattle.std.specs.Borrow.{Bor}
use Rattle.std.proofs.lemmas.List.Edits.{sets}
use Rattle.rules.specs.Refusals.{Answer, given, and_then}
use Rattle.rules.specs.Numbers.{numbers_of, number_bytes}
use Rattle.rules.specs.Terminal.{left_by}
use Rattle.rules.specs.Book.{Kind, kind_at, key_of, kinds, sound, broken_at}
use Rattle.rules.specs.Writing.{Rows, rows_in, check_rows, check_lists, laid, left_out, laid_section, laid_lists}
use Rattle.refusals.specs.Paper.{itself, answer_by}
use Rattle.refusals.specs.declared.Refusal.{Refusal}
use Rattle.writing.specs.declared.Count.{Count}
use Rattle.writing.specs.declared.LentList.{LentList}

-- the rows of a kind in lent bytes
abbrev pub all_rows : Kind → List ℕ → Rows
all_rows k bytes = rows_in k.width (length bytes) bytes

-- the five lists that are lent, in the order of the sections
abbrev pub lists : List ℕ → List ℕ → List ℕ → List ℕ → List ℕ → List (List ℕ)
lists reduced staged sequential variables sigma = reduced ∷ staged ∷ sequential ∷ variables ∷ sigma ∷ []

-- .. and as an array of references
abbrev pub lent : List (Bor (List ℕ)) → List (List ℕ)
lent lists = map (λ list. list.now) lists

-- the kind of a lent list, and its rows
abbrev pub kind_of : LentList → Kind
kind_of l = kind_at l.kind

abbrev pub rows_of : LentList → Rows
rows_of l = all_rows (kind_at l.kind) l.rows.now

-- how many numbers a section of n entries at place j of the order has, by how many theirs are
abbrev pub section_size : ℕ → ℕ → ℕ → ℕ
section_size j n numbers = cond (left_out j n) 0 (1 + numbers)

-- what checking a list finds, and what checking all lists finds
abbrev pub ListChecked : Kind → Rows → Result Count ℕ → Type 0
ListChecked k rows (Err p) = check_rows k 0 [] rows ≡ broken_at p
ListChecked k rows (Ok count) =
    (check_rows k 0 [] rows ≡ sound) × (count.rows ≡ length rows) × (count.numbers ≡ length (laid k rows))

abbrev pub ListsChecked : (ℕ → Rows) → Result ℕ ℕ → Type 0
ListsChecked rows (Err p) = check_lists kinds 0 0 rows ≡ broken_at p
ListsChecked rows (Ok size) =
    (check_lists kinds 0 0 rows ≡ sound) × (size ≡ length (laid_lists kinds 0 rows)) × (size ≤ 253505)

-- The loop over the rows of a list: those that are right were counted, the last of them is `before`, and the rest is
-- to come.
pub record InList (k : Kind) (list before rest : List ℕ) (count : Count) : Type 0 where
  pub few : count.rows + length rest ≤ length list
  pub short : 2 * count.numbers + length rest ≤ length list
  pub checks : check_rows k 0 [] (all_rows k list)
      ≡ check_rows k count.rows (key_of k (numbers_of before)) (all_rows k rest)
  pub counts : length (all_rows k list) ≡ count.rows + length (all_rows k rest)
  pub sizes : length (laid k (all_rows k list)) ≡ count.numbers + length (laid k (all_rows k rest))

-- The loop over the lists, before the one of a kind: so many entries and numbers were found.
pub record InLists (rows : ℕ → Rows) (kind before size : ℕ) : Type 0 where
  pub few : before ≤ 2028 * kind
  pub short : size ≤ 50701 * kind
  pub checks : check_lists kinds 0 0 rows ≡ check_lists (drop kind kinds) kind before rows
  pub sizes : length (laid_lists kinds 0 rows) ≡ size + length (laid_lists (drop kind kinds) kind rows)

-- A list whose rows are right, and room for its numbers from place `at` on.
pub record Layable (k : Kind) (rows : Rows) (at : ℕ) (out : List ℕ) : Type 0 where
  pub right : check_rows k 0 [] rows ≡ sound
  pub room : at + length (laid k rows) ≤ length (numbers_of out)

-- The same of the section at place j of the order.
pub record SectionLayable (k : Kind) (j : ℕ) (rows : Rows) (at : ℕ) (out : List ℕ) : Type 0 where
  pub right : check_rows k 0 [] rows ≡ sound
  pub room : at + length (laid_section k j rows) ≤ length (numbers_of out)

-- It was laid from place `at` on, and the place after it.
pub record SectionLaid (k : Kind) (j : ℕ) (rows : Rows) (at : ℕ) (before after : List ℕ) (r : ℕ) : Type 0 where
  pub ends : r ≡ at + length (laid_section k j rows)
  pub stored : after ≡ sets before (2 * at) (number_bytes (laid_section k j rows))

-- Lists whose rows are right, and room for their book, which is not too long.
pub record Writable (rows : ℕ → Rows) (out : List ℕ) : Type 0 where
  pub right : check_lists kinds 0 0 rows ≡ sound
  pub room : 2 * length (laid_lists kinds 0 rows) ≤ length out
  pub fits : 2 * length (laid_lists kinds 0 rows) ≤ 32768

-- What is left to lay from place `to` on, of numbers that started at place `at`.
pub record Laying (start : List ℕ) (at : ℕ) (all out : List ℕ) (to : ℕ) (rest : List ℕ) : Type 0 where
  pub stored : sets out (2 * to) (number_bytes rest) ≡ sets start (2 * at) (number_bytes all)
  pub long : length out ≡ length start
  pub upto : to + length rest ≡ at + length all

-- The loop that lays the rows of a list from place `at` on: the rest is to come, from place `to` on.
pub record LayingRows (k : Kind) (list : List ℕ) (at : ℕ) (start out rest : List ℕ) (to : ℕ) : Type 0 where
  pub room : at + length (laid k (all_rows k list)) ≤ length (numbers_of start)
  pub right : (p : ℕ) × (before : List ℕ) × (check_rows k p before (all_rows k rest) ≡ sound)
  pub laying : Laying start at (laid k (all_rows k list)) out to (laid k (all_rows k rest))

-- The loop that lays the sections, before the one of a kind, which is laid from place `at` on.
pub record LayingLists (rows : ℕ → Rows) (start : List ℕ) (kind at : ℕ) (out : List ℕ) : Type 0 where
  pub right : (p : ℕ) × (check_lists (drop kind kinds) kind p rows ≡ sound)
  pub rest : Laying start 0 (laid_lists kinds 0 rows) out at (laid_lists (drop kind kinds) kind rows)

-- What a call of write_book answers, which is how many bytes the book has, and what the lent buffer then holds: the
-- book, and its bytes past the book as they were; on a refusal all of it as it was.
pub record BookLeft (book : Answer (List ℕ)) (r : Result ℕ Refusal) (before after : List ℕ) : Type 0 where
  pub told : answer_by itself r ≡ and_then book (λ b. given (length b))
  pub left : after ≡ left_by (λ b. b ++ drop (length b) before) book before
