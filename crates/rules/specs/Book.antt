-- Document 01, 'Plan book', with the fifth section of document 02, T-07: its numbers, the kinds of section as data, the
-- check with its byte, and the look-up. Definitions only.
-- Places are counted in numbers from the start of a stretch; `check_book` turns them into bytes.
use Rattle.std.specs.Prelude.{ℕ, zero, suc, ◌+◌, ◌*◌, ◌-◌, ◌/◌, ◌%◌, Bool, true, false, cond, ◌&&◌, ◌||◌, not, List, []}
use Rattle.std.specs.Prelude.{◌∷◌, ◌++◌, leb, ltb, eqb, length, get_or, take, drop, replicate}
use Rattle.rules.specs.Refusals.{Answer, refused, broken_book}
use Rattle.rules.specs.Numbers.{numbers_of}
use Rattle.rules.specs.Staged.{StagedPlan, mark}
use Rattle.rules.specs.Sequential.{SequentialPlan}
use Rattle.rules.specs.Variables.{VariablesPlan}

-- What reading a stretch comes to: it ends before the number at a place, it is broken at the number at a place, or a
-- number is missing or half there.
pub data Walk : Type 0 where
  ends : ℕ → Walk
  broken : ℕ → Walk
  short : Walk

-- the same, seen from so many numbers before
unfoldable pub shift : ℕ → Walk → Walk
shift by (ends p) = ends (by + p)
shift by (broken p) = broken (by + p)
shift by short = short

-- one stretch, and then the next from where it ends
unfoldable pub then_from : Walk → (ℕ → Walk) → Walk
then_from (ends p) next = shift p (next p)
then_from (broken p) next = broken p
then_from short next = short

pub record Range : Type 0 where
  pub low : ℕ
  pub high : ℕ

infix 40 ◌to◌
abbrev pub ◌to◌ : ℕ → ℕ → Range
low to high = record { low = low; high = high }

abbrev pub anything : Range
anything = 0 to 65535

abbrev pub within : Range → ℕ → Bool
within r x = leb r.low x && leb x r.high

-- A kind of section.
pub record Kind : Type 0 where
  -- how many numbers its key has
  pub key : ℕ
  -- how many numbers an entry has, by the number after its key
  pub size : ℕ → ℕ
  -- the range of each number of an entry in order; past the list, whatever fits
  pub ranges : List Range
  -- does a number keep the rules that it has with the entry's numbers before it?
  pub rule : List ℕ → ℕ → Bool
  -- document 02, T-03: how many numbers a row has, in which an entry is handed over and shown
  pub width : ℕ
  -- .. and where in its row the entry's number at a place stands, by the number after its key; the key and that number
  -- stand in a row as in an entry
  pub in_row : ℕ → ℕ → ℕ

-- is the number at place i of the entry within its range, and does it keep its rules?
unfoldable pub right : Kind → List ℕ → ℕ → Bool
right k e i = within (get_or k.ranges i anything) (get_or e i 0) && k.rule (take i e) (get_or e i 0)

-- n of the entry's numbers, from place i: the first that is missing or not right
unfoldable pub numbers_from : Kind → List ℕ → ℕ → ℕ → Walk
numbers_from k e zero i = ends i
numbers_from k e (suc n) i = cond (ltb i (length e)) (cond (right k e i) (numbers_from k e n (suc i)) (broken i)) short

abbrev pub size_of : Kind → List ℕ → ℕ
size_of k e = k.size (get_or e k.key 0)

-- "Keys (all numbers before n, stages or hA)"
abbrev pub key_of : Kind → List ℕ → List ℕ
key_of k e = take k.key e

-- "strictly rise within a section, compared number by number from the first"; the first entry has no key before it
unfoldable pub rises : List ℕ → List ℕ → Bool
rises before [] = false
rises [] (b ∷ key) = true
rises (a ∷ before) (b ∷ key) = cond (ltb a b) true (cond (ltb b a) false (rises before key))

-- "the entry's first number where its whole key doesn't rise"
unfoldable pub key_falls : Kind → List ℕ → List ℕ → Bool
key_falls k before e = leb k.key (length e) && not (rises before (key_of k e))

-- an entry, after an entry with the key before; its first number is the lowest that can be reported
unfoldable pub entry : Kind → List ℕ → List ℕ → Walk
entry k before e = cond (key_falls k before e) (broken 0) (numbers_from k e (size_of k e) 0)

-- n entries
unfoldable pub entries : Kind → ℕ → List ℕ → List ℕ → Walk
entries k zero before ws = ends 0
entries k (suc n) before ws = then_from (entry k before ws) (λ size. entries k n (key_of k ws) (drop size ws))

-- "each after its count"
unfoldable pub section : Kind → List ℕ → Walk
section k [] = short
section k (count ∷ ws) = shift 1 (entries k count [] ws)

-- sections "in fixed order"
unfoldable pub sections : List Kind → List ℕ → Walk
sections [] ws = ends 0
sections (k ∷ ks) ws = then_from (section k ws) (λ p. sections ks (drop p ws))

abbrev pub no_rule : List ℕ → ℕ → Bool
no_rule before x = true

-- a row that has the entry's numbers as they stand
abbrev pub as_it_stands : ℕ → ℕ → ℕ
as_it_stands after i = i

abbrev pub severity_range : Range
severity_range = 0 to 2

abbrev pub letter_range : Range
letter_range = 0 to 15

-- "Columns are 0 to 25 in sections 1 and 2, 0 to 15 in 3 and 4."
abbrev pub any_column : Range
any_column = 0 to 25

abbrev pub item_column : Range
item_column = 0 to 15

-- "1. reduced singles: letter 0 to 15, column, n 1 to 3,150, Ac up to 65,534"
abbrev pub reduced_singles : Kind
reduced_singles =
    record {
      key = 2;
      size = λ n. 4;
      ranges = letter_range ∷ any_column ∷ (1 to 3150) ∷ (0 to 65534) ∷ [];
      rule = no_rule;
      width = 4;
      in_row = as_it_stands;
    }

-- Ac at a stage, after the Ac before it: it does not fall; a mark "stands only before numbers, and is out of range at
-- the last stage"
unfoldable pub ac_keeps : Bool → Bool → ℕ → ℕ → Bool
ac_keeps first last before ac =
    cond (eqb ac mark) (not last && (first || eqb before mark)) (first || (eqb before mark || leb before ac))

-- Re at a stage, after the Re before it and the stage's Ac: "Re up to 65,534; neither number falls, Ac under Re, last
-- Re = Ac + 1 (a mark is exempt from these ..)"
unfoldable pub re_keeps : Bool → Bool → ℕ → ℕ → ℕ → Bool
re_keeps first last before ac re =
    leb re 65534 && ((first || leb before re) && (eqb ac mark || cond last (eqb re (ac + 1)) (ltb ac re)))

-- the number x at place i of an entry of m stages, after the numbers two places and one place before it: "sizes (1 to
-- 2,000 each), then Ac and Re per stage"
unfoldable pub staged_number : ℕ → ℕ → ℕ → ℕ → ℕ → Bool
staged_number i m two one x =
    cond (ltb i (4 + m)) (within (1 to 2000) x)
    (cond (eqb ((i - (4 + m)) % 2) 0)
    (ac_keeps (eqb ((i - (4 + m)) / 2) 0) (eqb ((i - (4 + m)) / 2 + 1) m) two x)
    (re_keeps (eqb ((i - (4 + m)) / 2) 0) (eqb ((i - (4 + m)) / 2 + 1) m) two one x))

unfoldable pub staged_rule : List ℕ → ℕ → Bool
staged_rule before x =
    cond (ltb (length before) 4) true
    (staged_number (length before) (get_or before 3 0)
    (get_or before (length before - 2) 0) (get_or before (length before - 1) 0) x)

-- a staged row has severity, letter, column and stages, and then seven sizes, seven Ac and seven Re; in the entry of m
-- stages Ac and Re stand by turns
unfoldable pub staged_in_row : ℕ → ℕ → ℕ
staged_in_row m i =
    cond (ltb i (4 + m)) i
    (cond (eqb ((i - (4 + m)) % 2) 0) (11 + (i - (4 + m)) / 2) (18 + (i - (4 + m)) / 2))

-- "2. staged: severity 0 to 2, letter 0 to 15, column, stages, sizes .., then Ac and Re per stage"
abbrev pub staged : Kind
staged =
    record {
      key = 3;
      size = λ m. 4 + 3 * m;
      ranges = severity_range ∷ letter_range ∷ any_column ∷ (2 to 7) ∷ [];
      rule = staged_rule;
      width = 25;
      in_row = staged_in_row;
    }

-- "At with floor(g·nt − hA) ≤ At < ceiling(g·nt + hR)", in hundred-thousandths; a floor below 0 asks nothing of At
unfoldable pub at_fits : ℕ → ℕ → ℕ → ℕ → ℕ → Bool
at_fits h_a h_r g nt x = leb ((g * nt - 100 * h_a) / 100000) x && ltb x ((g * nt + 100 * h_r + 99999) / 100000)

unfoldable pub sequential_rule : List ℕ → ℕ → Bool
sequential_rule before x =
    cond (eqb (length before) 7) (at_fits (get_or before 3 0) (get_or before 4 0) (get_or before 5 0)
    (get_or before 6 0) x) true

-- "3. sequential: severity 0 to 2, letter 0 to 15, column, hA, hR (both 1 or more), g 1 to 60,000, nt 1 to 3,150, At"
abbrev pub sequential : Kind
sequential =
    record {
      key = 3;
      size = λ n. 8;
      ranges =
          severity_range ∷ letter_range ∷ item_column ∷ (1 to 65535) ∷ (1 to 65535) ∷ (1 to 60000) ∷ (1 to 3150) ∷ [];
      rule = sequential_rule;
      width = 8;
      in_row = as_it_stands;
    }

-- "4. variables: severity 0 to 2, letter 0 to 15, column, n, K", with n 2 to 50 and K 1 to 4,000
abbrev pub variables : Kind
variables =
    record {
      key = 3;
      size = λ n. 5;
      ranges = severity_range ∷ letter_range ∷ item_column ∷ (2 to 50) ∷ (1 to 4000) ∷ [];
      rule = no_rule;
      width = 5;
      in_row = as_it_stands;
    }

-- document 02, T-07: "Sigma plans are a fifth book section laid out as the fourth"
abbrev pub sigma : Kind
sigma = variables

-- "four sections in fixed order", which every book has
abbrev pub always : List Kind
always = reduced_singles ∷ staged ∷ sequential ∷ variables ∷ []

-- and the fifth, which it may have
abbrev pub kinds : List Kind
kinds = reduced_singles ∷ staged ∷ sequential ∷ variables ∷ sigma ∷ []

-- the kind of the section at a place in the order
abbrev pub kind_at : ℕ → Kind
kind_at j = get_or kinds j variables

-- "a book without it is still read, as having none": whatever follows the fourth section, which ends before the number
-- at place p of a book of so many bytes, is the fifth. "If present it holds at least one entry": it is broken at a
-- count of 0; a count that is missing or half there is no 0
unfoldable pub fifth : ℕ → ℕ → List ℕ → Walk
fifth len p rest = cond (leb len (2 * p)) (ends 0) (cond (eqb (get_or rest 0 1) 0) (broken 0) (section sigma rest))

-- all that a book of so many bytes has
unfoldable pub all_sections : ℕ → List ℕ → Walk
all_sections len ws = then_from (sections always ws) (λ p. fifth len p (drop p ws))

-- What checking a book finds: it is sound, or it is broken at a byte (of entries to write: at a position).
pub data Checked : Type 0 where
  sound : Checked
  broken_at : ℕ → Checked

-- "nothing follows": "at the first byte after the fifth section in place of the fourth"; "the book's length where a
-- number is missing or half there"
unfoldable pub checked_as : ℕ → Walk → Checked
checked_as len (ends p) = cond (ltb (2 * p) len) (broken_at (2 * p)) sound
checked_as len (broken p) = broken_at (2 * p)
checked_as len short = broken_at len

-- "At most 32,768 bytes"
abbrev pub largest_book : ℕ
largest_book = 32768

-- "A book over 32,768 bytes answers 12 at 32,768."
unfoldable pub check_book : List ℕ → Checked
check_book bytes =
    cond (ltb largest_book (length bytes)) (broken_at largest_book)
    (checked_as (length bytes) (all_sections (length bytes) (numbers_of bytes)))

-- "Each entry that takes a book checks it first."
abbrev pub on_sound : {A : Type 0} → Checked → Answer A → Answer A
on_sound sound answer = answer
on_sound (broken_at byte) answer = refused broken_book byte

-- What looking up finds: an entry's own numbers, or nothing under the key.
pub data Found : Type 0 where
  found : List ℕ → Found
  nothing : Found

-- "A plan is looked up by severity (sections 2 to 4), Table 1 letter and column"; in the fifth as in the fourth
abbrev pub key_for : Kind → ℕ → ℕ → ℕ → List ℕ
key_for k severity letter column = drop (3 - k.key) (severity ∷ letter ∷ column ∷ [])

unfoldable pub same_key : List ℕ → List ℕ → Bool
same_key [] [] = true
same_key [] (b ∷ ys) = false
same_key (a ∷ xs) [] = false
same_key (a ∷ xs) (b ∷ ys) = eqb a b && same_key xs ys

-- the first of n entries that is under the key
unfoldable pub seek : Kind → List ℕ → ℕ → List ℕ → Found
seek k key zero ws = nothing
seek k key (suc n) ws =
    cond (same_key (key_of k ws) key) (found (take (size_of k ws) ws)) (seek k key n (drop (size_of k ws) ws))

unfoldable pub seek_in : Kind → List ℕ → List ℕ → Found
seek_in k key ws = seek k key (get_or ws 0 0) (drop 1 ws)

-- in the section at place j of the order, which starts where those before it end
abbrev pub from_end : Walk → (ℕ → Found) → Found
from_end (ends p) look = look p
from_end (broken p) look = nothing
from_end short look = nothing

unfoldable pub look_up : ℕ → ℕ → ℕ → ℕ → List ℕ → Found
look_up j severity letter column ws =
    from_end (sections (take j kinds) ws) (λ p. seek_in (kind_at j) (key_for (kind_at j) severity letter column)
    (drop p ws))

-- n numbers of an entry, from place p on, every s places
unfoldable pub every : ℕ → ℕ → ℕ → List ℕ → List ℕ
every p s zero e = []
every p s (suc n) e = get_or e p 0 ∷ every (p + s) s n e

-- seven places, 0 past the numbers
abbrev pub seven : List ℕ → List ℕ
seven xs = xs ++ replicate (7 - length xs) 0

-- A reduced single, as a book holds it.
pub record ReducedSingle : Type 0 where
  pub n : ℕ
  pub ac : ℕ

-- the plans that entries hold
abbrev pub reduced_of : List ℕ → ReducedSingle
reduced_of e = record { n = get_or e 2 0; ac = get_or e 3 0 }

abbrev pub staged_of : List ℕ → StagedPlan
staged_of e =
    record {
      stages = get_or e 3 0;
      sizes = seven (every 4 1 (get_or e 3 0) e);
      acs = seven (every (4 + get_or e 3 0) 2 (get_or e 3 0) e);
      res = seven (every (5 + get_or e 3 0) 2 (get_or e 3 0) e);
    }

abbrev pub sequential_of : List ℕ → SequentialPlan
sequential_of e =
    record { h_a = get_or e 3 0; h_r = get_or e 4 0; g = get_or e 5 0; nt = get_or e 6 0; at_nt = get_or e 7 0 }

abbrev pub variables_of : List ℕ → VariablesPlan
variables_of e = record { n = get_or e 3 0; k = get_or e 4 0 }

-- Could a sound book hold these numbers as an entry of the kind?
abbrev pub is_end : Walk → Bool
is_end (ends p) = true
is_end (broken p) = false
is_end short = false

unfoldable pub could_hold : Kind → List ℕ → Bool
could_hold k e = is_end (numbers_from k e (size_of k e) 0)
