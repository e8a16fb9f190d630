-- What the code's results are on paper, and what its loops keep. Definitions only.
use Rattle.std.specs.Prelude.{ℕ, ◌+◌, ◌-◌, ◌*◌, ◌≤◌, ◌<◌, ◌≡◌, Bool, ◌&&◌, Option, None, Result, Ok, Err, List}
use Rattle.std.specs.Prelude.{ltb, eqb, length, get_or, take, drop}
use Rattle.rules.specs.Numbers.{numbers_of}
use Rattle.rules.specs.Book.{Kind, always, kinds, kind_at, key_of, shift, section, sections, all_sections}
use Rattle.rules.specs.Book as paper
use Rattle.rules.specs.Layout.{entry_at, section_at}
use Rattle.entry.specs.Paper.{key_paper}
use Rattle.entry.specs.declared.Key.{Key}
use Rattle.entry.specs.declared.Fault.{Fault}
use Rattle.entry.specs.declared.Fault.TheVariants.{Broken, Short}
use Rattle.book.specs.Places.{or_else, under_from, section_place, onward, at_end, place_of, place_in_four}
use Rattle.book.specs.declared.Section.{Section}

-- the key of the entry that stands from one place up to another; none where they are the same
abbrev pub key_between : Kind → ℕ → ℕ → List ℕ → List ℕ
key_between k prev at ws = key_of k (take (at - prev) (drop prev ws))

-- the entry at a place of a section, after the one from prev on
abbrev pub entry_after : ℕ → ℕ → ℕ → List ℕ → paper.Walk
entry_after kind prev at ws = paper.entry (kind_at kind) (key_between (kind_at kind) prev at ws) (drop at ws)

abbrev pub stretch_paper : Result Section Fault → paper.Walk
stretch_paper (Ok s) = paper.ends s.end
stretch_paper (Err (Broken p)) = paper.broken p
stretch_paper (Err Short) = paper.short

-- the place seen on the way to an end
abbrev pub seen_of : Result Section Fault → Option ℕ
seen_of (Ok s) = s.seen
seen_of (Err e) = None

-- Reading came to what `reading` says, and at an end the place seen is the one looked for.
pub record ReadTo (reading : paper.Walk) (look : Option ℕ) (r : Result Section Fault) : Type 0 where
  pub comes : stretch_paper r ≡ reading
  pub seen : seen_of r ≡ at_end reading (λ p. look)

-- of a section of a kind that starts at a place, of the four sections that every book has, and of the whole book; one
-- section is asked for
abbrev pub SectionRead : ℕ → Key → ℕ → List ℕ → Result Section Fault → Type 0
SectionRead kind key at ws r =
    ReadTo (shift at (section (kind_at kind) (drop at ws)))
    (onward at (section_place (kind_at kind) (key_paper (kind_at kind) key) (drop at ws))) r

abbrev pub SectionsRead : ℕ → Key → List ℕ → Result Section Fault → Type 0
SectionsRead asked key ws r = ReadTo (sections always ws) (place_in_four asked key ws) r

abbrev pub BookRead : ℕ → Key → List ℕ → Result Section Fault → Type 0
BookRead asked key bytes r =
    ReadTo (all_sections (length bytes) (numbers_of bytes)) (place_of asked key (numbers_of bytes)) r

-- The four sections end at a place, and this one is held.
pub record SectionsEnd (asked : ℕ) (key : Key) (ws : List ℕ) (at : ℕ) (held : Option ℕ) : Type 0 where
  pub reads : paper.ends at ≡ sections always ws
  pub holds : held ≡ place_in_four asked key ws

-- The loop over the entries of a section of n that starts at a place, before the i-th, which stands at another.
pub record InSection (k : Kind) (key ws : List ℕ) (start n prev at : ℕ) (seen : Option ℕ) (i : ℕ) : Type 0 where
  pub after : prev ≤ at
  pub within : at ≤ length ws
  pub reads : shift start (section k (drop start ws))
      ≡ shift at (paper.entries k (n - i) (key_between k prev at ws) (drop at ws))
  pub looks : onward start (section_place k key (drop start ws)) ≡ or_else seen (under_from k key (n - i) at ws)

-- Among the four sections, before the one of a kind, which starts at a place.
pub record InBook (asked : ℕ) (key : Key) (ws : List ℕ) (kind at : ℕ) (held : Option ℕ) : Type 0 where
  pub counted : kind ≤ length always
  pub within : at ≤ length ws
  pub reads : sections always ws ≡ shift at (sections (drop kind always) (drop at ws))
  -- up to the section asked for nothing is held, and after it what it holds
  pub ahead : kind ≤ asked → asked < length kinds
      → sections (take asked kinds) ws ≡ shift at (sections (drop kind (take asked kinds)) (drop at ws))
  pub none : kind ≤ asked → held ≡ None
  pub behind : asked < kind → held ≡ place_of asked key ws

-- only the fifth section can be missing; and it has at least one entry where it is there
abbrev pub is_absent : ℕ → List ℕ → Bool
is_absent kind bytes = eqb kind (length always) && eqb (length bytes) 0

abbrev pub has_none : ℕ → List ℕ → Bool
has_none kind ws = eqb kind (length always) && (ltb 0 (length ws) && eqb (get_or ws 0 0) 0)

-- The loop over all sections, before the one of a kind, which is one of the four or the fifth; or past the fifth.
pub record InWhole (asked : ℕ) (key : Key) (bytes : List ℕ) (kind at : ℕ) (held : Option ℕ) : Type 0 where
  pub within : at ≤ length (numbers_of bytes)
  pub four : kind ≤ length always → InBook asked key (numbers_of bytes) kind at held
  pub all : length always < kind → BookRead asked key bytes (Ok (record { end = at; seen = held }))

-- The loop over the entries from place `at` on by their sizes alone, before the i-th.
pub record AtEntry (k : Kind) (ws : List ℕ) (at place i : ℕ) : Type 0 where
  pub stands : place ≡ at + entry_at k i (drop at ws)
  pub near : place ≤ at + 200000 * i

-- The loop over the sections by counts and sizes alone, before the one of a kind.
pub record AtSection (ws : List ℕ) (at kind : ℕ) : Type 0 where
  pub stands : at ≡ section_at kinds kind ws
  pub near : at ≤ 13107200000 * kind

-- The loop that seeks a key by sizes alone, before the i-th of n entries, which starts at a place.
pub record Seeking (k : Kind) (key ws : List ℕ) (n at i : ℕ) : Type 0 where
  pub looks : section_place k key ws ≡ under_from k key (n - i) at ws
