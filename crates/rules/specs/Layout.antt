-- Document 01, 'Plan book': where its sections and entries stand, by counts and sizes alone, whether or not the numbers
-- before them are right. Definitions only.
-- Places are counted in numbers from the start of a stretch.
use Rattle.std.specs.Prelude.{ℕ, zero, suc, ◌+◌, ◌*◌, ◌<◌, ◌≡◌, cond, List, [], ◌∷◌, ltb, length, get_or, take, drop}
use Rattle.rules.specs.Numbers.{numbers_of}
use Rattle.rules.specs.Book.{Kind, size_of, key_of, kinds, kind_at}

-- where the entry that is i-th from the first starts: each has its size
unfoldable pub entry_at : Kind → ℕ → List ℕ → ℕ
entry_at k zero ws = 0
entry_at k (suc i) ws = size_of k ws + entry_at k i (drop (size_of k ws) ws)

-- the key of the entry before it; the first one has only what stood before the stretch
unfoldable pub key_before : Kind → List ℕ → ℕ → List ℕ → List ℕ
key_before k before zero ws = before
key_before k before (suc i) ws = key_of k (drop (entry_at k i ws) ws)

-- how many numbers a section has: its count, and those of its entries
abbrev pub section_size : Kind → List ℕ → ℕ
section_size k ws = suc (entry_at k (get_or ws 0 0) (drop 1 ws))

-- where the section that is j-th from the first starts
unfoldable pub section_at : List Kind → ℕ → List ℕ → ℕ
section_at ks zero ws = 0
section_at [] (suc j) ws = 0
section_at (k ∷ ks) (suc j) ws = section_size k ws + section_at ks j (drop (section_size k ws) ws)

-- where the fourth section ends
abbrev pub fourth_end : List ℕ → ℕ
fourth_end bytes = section_at kinds 4 (numbers_of bytes)

-- how many sections a book has: document 02, T-07, a fifth exactly where bytes follow the fourth
abbrev pub sections_in : List ℕ → ℕ
sections_in bytes = cond (ltb (2 * fourth_end bytes) (length bytes)) 5 4

-- where the last of them ends
abbrev pub book_end : List ℕ → ℕ
book_end bytes = section_at kinds (sections_in bytes) (numbers_of bytes)

-- the entry that a stretch begins with
abbrev pub entry_of : Kind → List ℕ → List ℕ
entry_of k ws = take (size_of k ws) ws

-- the numbers from the section at place j of the order on
abbrev pub section_from : ℕ → List ℕ → List ℕ
section_from j ws = drop (section_at kinds j ws) ws

-- An entry of the section at place j of the order.
pub record EntryIn (j : ℕ) (ws e : List ℕ) : Type 0 where
  pub nth : ℕ
  pub among : nth < get_or (section_from j ws) 0 0
  pub stands : e
      ≡ entry_of (kind_at j) (drop (entry_at (kind_at j) nth (drop 1 (section_from j ws))) (drop 1 (section_from j ws)))
