-- Document 01, 'Plan book': what is wrong with a book, as a predicate on its bytes with no walk in it: by the ranges,
-- the rules and the key order of its kinds of section. Definitions only.
-- Places are counted in numbers from the start of a stretch; `BookFault` turns them into bytes.
use Rattle.std.specs.Prelude.{ℕ, suc, ◌+◌, ◌*◌, ◌≤◌, ◌<◌, ◌≡◌, false, List, [], length, get_or, take, drop}
use Rattle.rules.specs.Numbers.{numbers_of}
use Rattle.rules.specs.Book.{Kind, within, anything, size_of, key_of, rises, kinds, variables, largest_book}
use Rattle.rules.specs.Layout.{entry_at, key_before, section_at, fourth_end, book_end}

-- What applies at place p of an entry e, after an entry with the key before.
pub data EntryFault (k : Kind) (before e : List ℕ) (p : ℕ) : Type 0 where
  -- "the start of a number out of range"
  out_of_range : p < size_of k e → p < length e → within (get_or k.ranges p anything) (get_or e p 0) ≡ false
      → EntryFault k before e p
  -- "the later number where two numbers break a rule"
  breaks_rule : p < size_of k e → p < length e → k.rule (take p e) (get_or e p 0) ≡ false → EntryFault k before e p
  -- "the entry's first number where its whole key doesn't rise"
  key_stays : p ≡ 0 → k.key ≤ length e → rises before (key_of k e) ≡ false → EntryFault k before e p

-- at place q of n entries
pub record EntriesFault (k : Kind) (before : List ℕ) (n : ℕ) (ws : List ℕ) (q : ℕ) : Type 0 where
  pub nth : ℕ
  pub among : nth < n
  pub place : ℕ
  pub stands : q ≡ entry_at k nth ws + place
  pub fault : EntryFault k (key_before k before nth ws) (drop (entry_at k nth ws) ws) place

-- at place q of a section: past its count, of its entries, the first of which has no key before it
pub record SectionFault (k : Kind) (ws : List ℕ) (q : ℕ) : Type 0 where
  pub place : ℕ
  pub stands : q ≡ suc place
  pub fault : EntriesFault k [] (get_or ws 0 0) (drop 1 ws) place

-- at place q of sections in their order
pub record SectionsFault (ks : List Kind) (ws : List ℕ) (q : ℕ) : Type 0 where
  pub nth : ℕ
  pub among : nth < length ks
  pub place : ℕ
  pub stands : q ≡ section_at ks nth ws + place
  pub fault : SectionFault (get_or ks nth variables) (drop (section_at ks nth ws) ws) place

-- What applies at byte b of a book.
pub data BookFault (bytes : List ℕ) (b : ℕ) : Type 0 where
  -- "A book over 32,768 bytes answers 12 at 32,768", whatever else is wrong with it.
  too_long : largest_book < length bytes → b ≡ largest_book → BookFault bytes b
  -- a number out of range, the later of two that break a rule, a key that does not rise
  wrong_number : length bytes ≤ largest_book → (q : ℕ) → b ≡ 2 * q → SectionsFault kinds (numbers_of bytes) q
      → BookFault bytes b
  -- document 02, T-07: "at the fifth count when it is 0"
  empty_fifth : length bytes ≤ largest_book → fourth_end bytes < length (numbers_of bytes)
      → get_or (numbers_of bytes) (fourth_end bytes) 0 ≡ 0 → b ≡ 2 * fourth_end bytes → BookFault bytes b
  -- "at the first byte after the fifth section in place of the fourth"
  follows : length bytes ≤ largest_book → 2 * book_end bytes < length bytes → b ≡ 2 * book_end bytes → BookFault bytes b
  -- "the book's length where a number is missing or half there"
  missing : length bytes ≤ largest_book → length (numbers_of bytes) < book_end bytes → b ≡ length bytes
      → BookFault bytes b

-- What is claimed of the check of a book: the byte reported is a fault, and none is lower; a sound book has none.
pub record Lowest (bytes : List ℕ) (b : ℕ) : Type 0 where
  pub applies : BookFault bytes b
  pub least : (c : ℕ) → BookFault bytes c → b ≤ c
