-- Where the entry under a key stands. Definitions only.
-- Places are counted in numbers from the start of a stretch.
use Rattle.std.specs.Prelude.{ℕ, zero, suc, ◌+◌, Bool, cond, Option, Some, None, List, eqb, ltb, length, get_or, take}
use Rattle.std.specs.Prelude.{drop}
use Rattle.rules.specs.Refusals.{Answer, refused, given, no_plan}
use Rattle.rules.specs.Numbers.{numbers_of}
use Rattle.rules.specs.Book.{Walk, ends, broken, short, Kind, size_of, key_of, same_key, sections, kinds, kind_at}
use Rattle.rules.specs.Book.{always, key_for, check_book, on_sound}
use Rattle.rules.specs.Layout.{section_at, section_from}
use Rattle.entry.specs.Paper.{key_paper}
use Rattle.entry.specs.declared.Key.{Key}

-- a place seen, or else a later one
abbrev pub or_else : Option ℕ → Option ℕ → Option ℕ
or_else None later = later
or_else (Some p) later = Some p

-- is the entry at a place under the key?
abbrev pub under_at : ℕ → Key → ℕ → List ℕ → Bool
under_at kind key at ws = same_key (key_of (kind_at kind) (drop at ws)) (key_paper (kind_at kind) key)

-- the first of n entries, from a place on, that is under the key
unfoldable pub under_from : Kind → List ℕ → ℕ → ℕ → List ℕ → Option ℕ
under_from k key zero at ws = None
under_from k key (suc n) at ws =
    cond (same_key (key_of k (drop at ws)) key) (Some at) (under_from k key n (at + size_of k (drop at ws)) ws)

-- in a section, after its count
abbrev pub section_place : Kind → List ℕ → List ℕ → Option ℕ
section_place k key ws = under_from k key (get_or ws 0 0) 1 ws

-- a place of a stretch that starts at a place
abbrev pub onward : ℕ → Option ℕ → Option ℕ
onward at None = None
onward at (Some p) = Some (at + p)

-- where reading ends, a place; else none
abbrev pub at_end : Walk → (ℕ → Option ℕ) → Option ℕ
at_end (ends p) place = place p
at_end (broken p) place = None
at_end short place = None

-- in the section at place j of the order; a section that is not there holds nothing
unfoldable pub place_under : ℕ → (Kind → List ℕ) → List ℕ → Option ℕ
place_under j key ws =
    cond (ltb j (length kinds))
    (at_end (sections (take j kinds) ws) (λ p. onward p (section_place (kind_at j) (key (kind_at j)) (drop p ws))))
    None

abbrev pub place_of : ℕ → Key → List ℕ → Option ℕ
place_of j key ws = place_under j (λ k. key_paper k key) ws

-- .. if that is one of the four that every book has
abbrev pub place_in_four : ℕ → Key → List ℕ → Option ℕ
place_in_four j key ws = cond (ltb j (length always)) (place_of j key ws) None

-- the same by counts and sizes alone, whether or not the book is sound
unfoldable pub place_laid : ℕ → (Kind → List ℕ) → List ℕ → Option ℕ
place_laid j key ws =
    cond (ltb j (length kinds))
    (onward (section_at kinds j ws) (section_place (kind_at j) (key (kind_at j)) (section_from j ws))) None

-- the place held, after a section of a kind that starts at a place
abbrev pub held_past : ℕ → ℕ → Option ℕ → ℕ → Option ℕ → Option ℕ
held_past kind asked held at seen = cond (eqb kind asked) (onward at seen) held

-- "no book entry under the key"
abbrev pub from_place : Option ℕ → Answer ℕ
from_place None = refused no_plan 0
from_place (Some p) = given p

-- "Each entry that takes a book checks it first."
unfoldable pub place_held : ℕ → ℕ → ℕ → ℕ → List ℕ → Answer ℕ
place_held j severity letter column book =
    on_sound (check_book book) (from_place (place_under j (λ k. key_for k severity letter column) (numbers_of book)))

-- the same of a book that is not checked
abbrev pub laid_place : ℕ → ℕ → ℕ → ℕ → List ℕ → Answer ℕ
laid_place j severity letter column book =
    from_place (place_laid j (λ k. key_for k severity letter column) (numbers_of book))
