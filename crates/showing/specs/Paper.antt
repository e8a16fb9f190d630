-- An entry that is there, and what lent memory then holds. Definitions only.
use Rattle.std.specs.Prelude.{ℕ, ◌*◌, ◌≤◌, ◌<◌, ◌≡◌, List, [], ◌++◌, length, get_or, drop, Result}
use Rattle.rules.specs.Refusals.{Answer, given, and_then}
use Rattle.rules.specs.Numbers.{numbers_of, number_bytes}
use Rattle.rules.specs.Terminal.{left_by}
use Rattle.rules.specs.Book.{kinds, kind_at, check_book, sound}
use Rattle.rules.specs.Writing.{read_entries}
use Rattle.refusals.specs.Paper.{itself, answer_by}
use Rattle.refusals.specs.declared.Refusal.{Refusal}

-- a row, and the rest of the lent memory as it was
abbrev pub row_left : List ℕ → List ℕ → List ℕ
row_left row before = number_bytes row ++ drop (2 * length row) before

-- An entry that is there, and room for its row.
pub record Held (book : List ℕ) (kind nth : ℕ) (row : List ℕ) : Type 0 where
  pub good : check_book book ≡ sound
  pub known : kind < length kinds
  pub there : nth < length (read_entries (numbers_of book) kind)
  pub room : 2 * (kind_at kind).width ≤ length row

abbrev pub ShownAt : List ℕ → ℕ → ℕ → List ℕ → List ℕ → Type 0
ShownAt book kind nth before after = after ≡ row_left (get_or (read_entries (numbers_of book) kind) nth []) before

-- What a call of read_entry answers, which is how many numbers the row has, and what the lent row then holds; on a
-- refusal all of it as it was.
pub record RowLeft (row : Answer (List ℕ)) (r : Result ℕ Refusal) (before after : List ℕ) : Type 0 where
  pub told : answer_by itself r ≡ and_then row (λ x. given (length x))
  pub left : after ≡ left_by (λ x. row_left x before) row before
