-- The loops that lay the rows of a list, and the sections: a law for each step.
-- Assumes nothing.
use Prim.Native.Nat.{ℕ, zero, suc, ◌+◌, ◌*◌, ◌/◌, ◌%◌, ◌≤◌, ◌<◌}
use mathlib.Core.Path.{◌≡◌, refl, ap, sym, ◌∙◌}
use mathlib.Core.Bool.{true, false}
use mathlib.Core.List.{List, [], ◌∷◌, ◌++◌}
use native.Mathlib.Omega.{arith}
use native.Mathlib.Nat.{mul-div_cancel}
use native.Mathlib.Numerals.{add-one}
use borrow.Author.Tests.{le-leb}
use lib.ListN.{length, get_or, take, drop, length-drop, length-take, length-append, drop_of_length-le}
use lib.ListN.{take-append-drop, get_or-eq_default, set}
use lib.Seq.{sets, length-sets, drop-cons}
use borrow.Rule.Slice.PartMut.{put_mid}
use Rattle.std.specs.Int.{to_le_bytes}
use Rattle.std.specs.List.{between}
use Rattle.std.proofs.Common.{w16}
use Rattle.std.proofs.lemmas.Slice.{between-put_mid}
use Rattle.std.proofs.lemmas.List.Edits.{get_or-between}
use Rattle.rules.specs.Numbers.{numbers_of, number_bytes}
use Rattle.rules.specs.Book.{Kind, size_of, key_of, sound, kinds, kind_at, variables}
use Rattle.rules.specs.Writing.{Rows, entry_in_row, check_rows, laid, left_out, laid_section, laid_lists, book_of}
use Rattle.rules.specs.Writing.{rows_in}
use Rattle.rules.proofs.Numbers.{numbers-count, numbers-low, numbers-high, numbers-drop, bytes-twice, bytes-append}
use Rattle.rules.proofs.Numbers.{bytes-back}
use Rattle.rules.proofs.RowReadings.{plain-entry}
use Rattle.rules.proofs.Bounded.{by-le}
use Rattle.rules.proofs.Stored.{sets-append}
use Rattle.rules.proofs.RowLaws.{Rowed, in-row-length}
use Rattle.rules.proofs.Written.{right-so, RightFirst, right-first, ListsRight, lists-right}
use Rattle.rules.proofs.LentRows.{rows-next, rows-done}
use Rattle.rows.specs.Paper.{entry_laid}
use Rattle.writing.specs.Paper.{all_rows, Layable, Laying, LayingRows, SectionLayable, SectionLaid, Writable}
use Rattle.writing.specs.Paper.{LayingLists}
use Rattle.writing.proofs.Checking.{Chunk, checks-from}

-- as many numbers as before
same_numbers : (a b : List ℕ) → length a ≡ length b → length (numbers_of a) ≡ length (numbers_of b)
same_numbers a b e = numbers-count a ∙ ap (λ (n : ℕ). n / 2) e ∙ sym (numbers-count b)

-- numbers to lay, of which some are laid, and all are
module _ {start : List ℕ} {at : ℕ} {all : List ℕ} where
  pub laying-on : {out : List ℕ} {to : ℕ} (xs rest : List ℕ) → Laying start at all out to (xs ++ rest)
      → Laying start at all (sets out (2 * to) (number_bytes xs)) (to + length xs) rest
  laying-on {out} {to} xs rest l =
      let z : 2 * (to + length xs) ≡ 2 * to + length (number_bytes xs) = omega (arith, bytes-twice xs) in
      record {
        stored =
            rw z
            (sym (sets-append out (number_bytes xs) (number_bytes rest) (2 * to))
            ∙ ap (sets out (2 * to)) (sym (bytes-append xs rest)) ∙ l.stored);
        long = length-sets out (2 * to) (number_bytes xs) ∙ l.long;
        upto = omega (arith, l.upto, length-append xs rest);
      }

  pub laying-done : {out : List ℕ} {to : ℕ} → Laying start at all out to []
      → (to ≡ at + length all) × (out ≡ sets start (2 * at) (number_bytes all))
  unfolding number_bytes
  laying-done l = (omega (arith, l.upto), l.stored)

-- the rows of a list
module _ {k : Kind} (r : Rowed k) (list : List ℕ) where
  module _ {at : ℕ} {start out bytes row rest : List ℕ} {to : ℕ} (s : LayingRows k list at start out bytes to)
      (c : Chunk k bytes row rest) where
    abbrev now : List ℕ
    now = numbers_of row

    first : RightFirst k s.right.0 s.right.1 now (all_rows k rest)
    first = right-first k s.right.0 s.right.1 now (all_rows k rest) (rw c.split at s.right.2)

    ahead : Laying start at (laid k (all_rows k list)) out to (entry_in_row k now ++ laid k (all_rows k rest))
    unfolding laid
    ahead = rw c.split at s.laying

    pub row-near : to + size_of k now ≤ length (numbers_of out)
    row-near =
        omega (
          arith,
          ahead.upto,
          length-append (entry_in_row k now) (laid k (all_rows k rest)),
          in-row-length k now,
          s.room,
          same_numbers out start ahead.long,
        )

    row-laid : entry_laid k (take k.width now) to out ≡ sets out (2 * to) (number_bytes (entry_in_row k now))
    row-laid =
        let t = right-so k r s.right.1 now first.first in
        rw (
          c.own,
          le-leb k.width (length now) t.whole,
          le-leb (size_of k now) k.width t.fits,
          le-leb (to + size_of k now) (length (numbers_of out)) row-near,
        )

    pub rows-go-on : {after : List ℕ} {size : ℕ} → after ≡ entry_laid k (take k.width now) to out → size ≡ size_of k now
        → LayingRows k list at start after rest (to + size)
    rows-go-on {after} {size} e q =
        let z : to + size ≡ to + length (entry_in_row k now) = omega (arith, in-row-length k now) in
        record {
          room = s.room;
          right = (suc s.right.0, key_of k now, first.later);
          laying = rw (e ∙ row-laid, z) (laying-on (entry_in_row k now) (laid k (all_rows k rest)) ahead);
        }

  pub rows-end : {at : ℕ} {start out : List ℕ} {to : ℕ} → LayingRows k list at start out [] to
      → (to ≡ at + length (laid k (all_rows k list)))
      × (out ≡ sets start (2 * at) (number_bytes (laid k (all_rows k list))))
  unfolding laid rows_in
  rows-end s = laying-done s.laying

-- rows that are right are whole: so many bytes
whole-rows : (k : Kind) → Rowed k → (n : ℕ) (list : List ℕ) (p : ℕ) (before : List ℕ) → length (all_rows k list) ≡ n
    → check_rows k p before (all_rows k list) ≡ sound → length list ≡ n * (2 * k.width)
whole-rows k r zero list p before e h =
    by-le (length list) 0 (λ l. omega arith)
    (λ l.
    absurd (omega (arith, ap (length {A = List ℕ}) (rows-next k.width (omega (arith, r.wide)) list 0 l))))
whole-rows k r (suc n) list p before e h =
    by-le (length list) 0
    (λ l.
    absurd (omega (arith, ap (length {A = List ℕ}) (rows-done k.width (omega (arith, r.wide)) list 0 l))))
    (λ l.
    let split = rows-next k.width (omega (arith, r.wide)) list 0 l in
    let row = take k.width (numbers_of list) in
    let later = drop (0 + 2 * k.width) list in
    let d = right-first k p before row (all_rows k later) (rw split at h) in
    let t = right-so k r before row d.first in
    let many : length (all_rows k later) ≡ n = omega (arith, ap (length {A = List ℕ}) split) in
    let ih = whole-rows k r n later (suc p) (key_of k row) many d.later in
    omega (
      arith,
      ih,
      length-drop (0 + 2 * k.width) list,
      t.whole,
      length-take k.width (numbers_of list),
      numbers-low list,
    ))

pub rows-count : {k : Kind} → Rowed k → (list : List ℕ) (width : ℕ) → width ≡ k.width
    → check_rows k 0 [] (all_rows k list) ≡ sound → length list / (2 * width) ≡ length (all_rows k list)
rows-count {k} r list width e h =
    let n = length (all_rows k list) in
    let some : 0 < 2 * k.width = omega (arith, r.wide) in
    ap (λ (w : ℕ). length list / (2 * w)) e
    ∙ ap (λ (x : ℕ). x / (2 * k.width)) (whole-rows k r n list 0 [] refl h) ∙ mul-div_cancel n some

-- rows that stand as their entries do are laid as they are lent
module _ {k : Kind} (r : Rowed k) (long : (m : ℕ) → k.size m ≡ k.width) (plain : (m i : ℕ) → k.in_row m i ≡ i) where
  plain-laid : (n : ℕ) (list : List ℕ) (p : ℕ) (before : List ℕ) → length (all_rows k list) ≡ n
      → check_rows k p before (all_rows k list) ≡ sound → laid k (all_rows k list) ≡ numbers_of list
  unfolding laid numbers_of
  plain-laid zero list p before e h =
      let none : list ≡ [] = drop_of_length-le list {i = 0} (omega (arith, whole-rows k r 0 list p before e h)) in
      rw (none, rows-done k.width (omega (arith, r.wide)) [] 0 (omega arith))
  plain-laid (suc n) list p before e h =
      let some : 0 < length list = omega (arith, whole-rows k r (suc n) list p before e h, r.wide) in
      let split = rows-next k.width (omega (arith, r.wide)) list 0 some in
      let row = take k.width (numbers_of list) in
      let later = drop (0 + 2 * k.width) list in
      let d = right-first k p before row (all_rows k later) (rw split at h) in
      let t = right-so k r before row d.first in
      let whole : length row ≡ k.width = omega (arith, t.whole, length-take k.width (numbers_of list)) in
      let many : length (all_rows k later) ≡ n = omega (arith, ap (length {A = List ℕ}) split) in
      let z : 0 + 2 * k.width ≡ 2 * k.width = omega arith in
      let rest : numbers_of later ≡ drop k.width (numbers_of list) =
      ap (λ (i : ℕ). numbers_of (drop i list)) z ∙ numbers-drop list k.width in
      rw split
      (ap (λ (l : List ℕ). l ++ laid k (all_rows k later)) (plain-entry k r long plain row whole)
      ∙ ap (λ (l : List ℕ). row ++ l) (plain-laid n later (suc p) (key_of k row) many d.later ∙ rest)
      ∙ take-append-drop k.width (numbers_of list))

  module _ (list : List ℕ) (h : check_rows k 0 [] (all_rows k list) ≡ sound) where
    abbrev many : ℕ
    many = length (all_rows k list)

    even : length list ≡ 2 * length (numbers_of list)
    even = omega (arith, whole-rows k r many list 0 [] refl h, numbers-low list, numbers-high list)

    pub plain-long : length list ≡ 2 * length (laid k (all_rows k list))
    plain-long = even ∙ ap (λ (l : List ℕ). 2 * length l) (sym (plain-laid many list 0 [] refl h))

    -- byte for byte
    pub plain-bytes : ((i : ℕ) → get_or list i 0 < 256)
        → (number_bytes (laid k (all_rows k list)) ≡ list) × (length list ≡ 2 * length (laid k (all_rows k list)))
    plain-bytes small =
        (ap number_bytes (plain-laid many list 0 [] refl h) ∙ bytes-back list even small, plain-long)

-- bytes that were put are bytes
pub put-small : (a k : ℕ) (xs ys : List ℕ) → length ys ≡ k → a + k ≤ length xs
    → ((i : ℕ) → get_or (put_mid a k xs ys) i 0 < 256) → (i : ℕ) → get_or ys i 0 < 256
put-small a k xs ys l h each i =
    by-le (length ys) i (λ p. omega (arith, get_or-eq_default ys 0 p))
    (λ p.
    let put : List ℕ = put_mid a k xs ys in
    let same : between a (a + k) put ≡ ys = between-put_mid a k xs ys (a + k) (omega arith) (omega arith) in
    let there : get_or (between a (a + k) put) i 0 ≡ get_or put (a + i) 0 =
    get_or-between put a (a + k) i 0 (omega arith) in
    omega (arith, ap (λ (b : List ℕ). get_or b i 0) same, there, each (a + i)))

-- the two bytes of a count
pub count-bytes : (n : ℕ) → n < 65536 → to_le_bytes w16 n ≡ number_bytes (n ∷ [])
unfolding number_bytes
count-bytes n h = let e : n / 256 % 256 ≡ n / 256 = omega arith in rw e

-- bytes copied one by one from a place on
module _ (bytes start : List ℕ) (at : ℕ) where
  pub copy-first : sets start (at + 0) (drop 0 bytes) ≡ sets start at bytes
  copy-first = let z : at + 0 ≡ at = omega arith in ap (λ (i : ℕ). sets start i bytes) z

  pub copy-next : (out : List ℕ) (i : ℕ) → i < length bytes
      → sets out (at + i) (drop i bytes) ≡ sets start at bytes
      → sets (set out (at + i) (get_or bytes i 0)) (at + (i + 1)) (drop (i + 1) bytes) ≡ sets start at bytes
  copy-next out i h e =
      let z : at + (i + 1) ≡ suc (at + i) = omega arith in
      rw (z, add-one i) (sym (ap (sets out (at + i)) (drop-cons bytes i 0 h)) ∙ e)

  pub copy-done : (out : List ℕ) (i : ℕ) → length bytes ≤ i → sets out (at + i) (drop i bytes) ≡ sets start at bytes
      → out ≡ sets start at bytes
  copy-done out i h e = sym (ap (sets out (at + i)) (drop_of_length-le bytes h)) ∙ e

-- stores leave the room as it was
pub still-layable : {k : Kind} {rows : Rows} {at : ℕ} {before after : List ℕ} → Layable k rows at before → (i : ℕ)
    (xs : List ℕ) → after ≡ sets before i xs → Layable k rows at after
still-layable {before = before} {after = after} l i xs e =
    record {
      right = l.right;
      room = omega (arith, l.room, same_numbers after before (ap length e ∙ length-sets before i xs));
    }

-- a section, which is left out or not
module _ (k : Kind) (j : ℕ) (rows : Rows) (at : ℕ) (start : List ℕ) where
  pub section-left : left_out j (length rows) ≡ true → SectionLaid k j rows at start start at
  unfolding laid_section number_bytes
  section-left e =
      let none : laid_section k j rows ≡ [] = rw e in
      record {
        ends = omega (arith, ap (length {A = ℕ}) none);
        stored = ap (λ (l : List ℕ). sets start (2 * at) (number_bytes l)) (sym none);
      }

  module _ (e : left_out j (length rows) ≡ false) where
    stands : laid_section k j rows ≡ length rows ∷ laid k rows
    unfolding laid_section
    stands = rw e

    pub list-layable : SectionLayable k j rows at start → Layable k rows (at + 1) start
    list-layable l = record { right = l.right; room = omega (arith, l.room, ap (length {A = ℕ}) stands) }

    -- after its count
    pub section-laid : (n : ℕ) (one two : List ℕ) (r : ℕ) → n ≡ length rows
        → one ≡ sets start (2 * at) (number_bytes (n ∷ [])) → r ≡ at + 1 + length (laid k rows)
        → two ≡ sets one (2 * (at + 1)) (number_bytes (laid k rows)) → SectionLaid k j rows at start two r
    unfolding number_bytes
    section-laid n one two r q f g h =
        let z : 2 * (at + 1) ≡ suc (suc (2 * at)) = omega arith in
        record { ends = omega (arith, ap (length {A = ℕ}) stands); stored = h ∙ rw (stands, f, z, q) }

-- the sections
module _ (rows : ℕ → Rows) (start : List ℕ) (w : Writable rows start) where
  module _ {kind at : ℕ} {out : List ℕ} (s : LayingLists rows start kind at out) (h : kind < length kinds) where
    abbrev k : Kind
    k = kind_at kind

    abbrev this : List ℕ
    this = laid_section k kind (rows kind)

    abbrev following : List ℕ
    following = laid_lists (drop (suc kind) kinds) (suc kind) rows

    front : drop kind kinds ≡ k ∷ drop (suc kind) kinds
    front = drop-cons kinds kind variables h

    right : ListsRight k (drop (suc kind) kinds) kind s.right.0 rows
    right = lists-right k (drop (suc kind) kinds) kind s.right.0 rows (rw front at s.right.1)

    laying : Laying start 0 (laid_lists kinds 0 rows) out at (this ++ following)
    unfolding laid_lists
    laying = rw front at s.rest

    section-fits : at + length this ≤ length (numbers_of out)
    section-fits =
        omega (
          arith,
          laying.upto,
          length-append this following,
          w.room,
          same_numbers out start laying.long,
          numbers-high start,
        )

    pub section-layable : SectionLayable k kind (rows kind) at out
    section-layable =
        record { right = checks-from k s.right.0 (rows kind) right.first; room = section-fits }

    pub section-next : {after : List ℕ} {r : ℕ} → SectionLaid k kind (rows kind) at out after r
        → LayingLists rows start (kind + 1) r after
    section-next {after} {r} l =
        record {
          right = (s.right.0 + length (rows kind), rw add-one right.later);
          rest = rw (l.stored, l.ends, add-one kind) (laying-on this following laying);
        }

  pub sections-end : {kind at : ℕ} {out : List ℕ} → LayingLists rows start kind at out → length kinds ≤ kind
      → out ≡ sets start 0 (book_of rows)
  unfolding laid_lists
  sections-end {kind} s h =
      let none : drop kind kinds ≡ [] = drop_of_length-le kinds h in
      (laying-done (rw none at s.rest)).1
