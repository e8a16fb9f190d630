-- A book written from entries, and the entries of a book: what the reader finds in a written book, what reading it back
-- gives, and what writing a read book gives. Proved once over the kinds of section.
-- Assumes nothing.
use Prim.Native.Nat.{ℕ, zero, suc, ◌+◌, ◌*◌, ◌≤◌, ◌<◌}
use mathlib.Core.Path.{◌≡◌, refl, ap, sym, subst, ◌∙◌}
use mathlib.Core.Bool.{Bool, true, false, cond, true≢false, and-false}
use mathlib.Core.List.{List, [], ◌∷◌, ◌++◌, map, append_assoc, append-nil}
use native.Mathlib.Omega.{arith}
use borrow.Author.Tests.{le-leb, leb-true, eq-eqb, ne_eqb}
use lib.Dec.{leb, eqb}
use lib.ListN.{length-map, length, get_or, take, drop, length-append, get_or-append, length-drop}
use lib.ListN.{drop_of_length-le}
use lib.Seq.{take_all, take-add, take_at, drop_at, take-append-le, drop-drop}
use Rattle.rules.specs.Book.{Kind, Walk, ends, broken, short, shift, then_from, size_of, key_of}
use Rattle.rules.specs.Book.{entry, entries, section, sections, is_end, variables, sigma, always, kinds, kind_at}
use Rattle.rules.specs.Book.{fifth, all_sections, Checked, sound, broken_at, check_book}
use Rattle.rules.specs.Numbers.{numbers_of}
use Rattle.rules.specs.Faults.{EntryFault, out_of_range}
use Rattle.rules.specs.Writing.{Rows, entry_in_row, row_of, row_right, check_rows, sound_then, check_lists, laid}
use Rattle.rules.specs.Writing.{laid_section, laid_lists, shown}
use Rattle.rules.specs.Writable.{Alike, tidy}
use Rattle.rules.proofs.Bools.{and-left, and-right, true-unless}
use Rattle.rules.proofs.Bounded.{by-le}
use Rattle.rules.proofs.Numbers.{numbers-low}
use Rattle.rules.proofs.SectionKinds.{always-kind, always-at}
use Rattle.rules.proofs.Steps.{fifth-none, fifth-is, place-fifth}
use Rattle.rules.proofs.Walks.{broken-no-end, short-no-end, entry-ends, place-ends, place-sections}
use Rattle.rules.proofs.Faults.{Tells, Deep, entry-tells}
use Rattle.rules.specs.Layout.{section_size, section_at, entry_at, fourth_end, section_from}
use Rattle.rules.proofs.LookUp.{ends-one, broken-unsound, then-ended, section-ends}
use Rattle.rules.proofs.LookUp.{Whole, sound-whole, no-fifth, fifth-ended}
use Rattle.rules.proofs.RowLaws.{Rowed, rowed, in-row-length, in-row-size, in-row-key, row-length, row-key}
use Rattle.rules.proofs.RowLaws.{row-back, row-same, own-entry}

pub deep-of : {k : Kind} → Rowed k → Deep k
deep-of r = (r.keyed, r.deep)

-- an entry that ends has a number after its key that makes it no longer than a row
pub entry-fits : (k : Kind) → Rowed k → (before e : List ℕ) (p : ℕ) → entry k before e ≡ ends p
    → size_of k e ≤ k.width
entry-fits k r before e p q =
    let t : Tells (EntryFault k before e) (size_of k e) (length e) (ends p) =
    rw q at (entry-tells k (deep-of r) before e) in
    let deep = r.deep (get_or e k.key 0) in
    r.fits (get_or e k.key 0)
    (true-unless _
    (λ w. t.1.1 k.key (out_of_range deep (omega (arith, t.1.0, deep)) w)))

-- ---- a row that is right

pub record Right (k : Kind) (before row : List ℕ) : Type 0 where
  pub whole : k.width ≤ length row
  pub ends_so : entry k before (entry_in_row k row) ≡ ends (size_of k row)
  pub fits : size_of k row ≤ k.width

is-end : (w : Walk) → is_end w ≡ true → (p : ℕ) × (w ≡ ends p)
is-end (ends p) h = (p, refl)
is-end (broken p) h = absurd (true≢false (sym h))
is-end short h = absurd (true≢false (sym h))

module _ (k : Kind) (r : Rowed k) (before row : List ℕ) where
  pub right-so : row_right k before row ≡ true → Right k before row
  unfolding row_right
  right-so h =
      let a = and-left (leb k.width (length row)) _ h in
      let b = is-end _ (and-right (leb k.width (length row)) _ h) in
      let size = (entry-ends k before (entry_in_row k row) b.0 b.1).1 ∙ in-row-size k r row in
      record {
        whole = leb-true k.width (length row) a;
        ends_so = b.1 ∙ ap ends size;
        fits = rw (in-row-size k r row) at (entry-fits k r before (entry_in_row k row) b.0 b.1);
      }

  -- the reader takes its entry, whatever follows it
  module _ (t : Right k before row) (rest : List ℕ) where
    abbrev ws : List ℕ
    ws = entry_in_row k row ++ rest

    key-below : k.key < length (entry_in_row k row)
    key-below = omega (arith, in-row-length k row, r.deep (get_or row k.key 0))

    then-size : size_of k ws ≡ size_of k row
    then-size =
        ap k.size (get_or-append (entry_in_row k row) rest 0 k.key key-below) ∙ in-row-size k r row

    then-entry : entry k before ws ≡ ends (size_of k row)
    then-entry =
        let l : size_of k ws ≤ length ws =
        omega (arith, then-size, length-append (entry_in_row k row) rest, in-row-length k row) in
        let own : take (size_of k ws) ws ≡ entry_in_row k row =
        take_at (entry_in_row k row) rest (size_of k ws) (in-row-length k row ∙ sym then-size) in
        sym (own-entry k r before ws l) ∙ (rw own t.ends_so)

    then-key : key_of k ws ≡ key_of k row
    then-key =
        take-append-le k.key (entry_in_row k row) rest (omega (arith, key-below))
        ∙ in-row-key k r row (omega (arith, t.whole, t.fits, r.deep (get_or row k.key 0)))

    then-rest : drop (size_of k row) ws ≡ rest
    then-rest = drop_at (entry_in_row k row) rest (size_of k row) (in-row-length k row)

-- rows that are right, the first and then the rest
pub record RightFirst (k : Kind) (p : ℕ) (before row : List ℕ) (rows : Rows) : Type 0 where
  pub first : row_right k before row ≡ true
  pub later : check_rows k (suc p) (key_of k row) rows ≡ sound

pub right-first : (k : Kind) (p : ℕ) (before row : List ℕ) (rows : Rows) → check_rows k p before (row ∷ rows) ≡ sound
    → RightFirst k p before row rows
unfolding check_rows
right-first k p before row rows h = go (row_right k before row) refl h
  where
    go : (t : Bool) → row_right k before row ≡ t
        → cond t (check_rows k (suc p) (key_of k row) rows) (broken_at p) ≡ sound → RightFirst k p before row rows
    go true e q = record { first = e; later = q }
    go false e q = broken-unsound q

-- one walk that ends, and then the next
then-ends : (w : Walk) (f : ℕ → Walk) (a b : ℕ) → w ≡ ends a → f a ≡ ends b → then_from w f ≡ ends (a + b)
unfolding then_from shift
then-ends w f a b p q = rw (p, q)

-- ---- the reader takes what was laid

module _ (k : Kind) (r : Rowed k) where
  rows-read : (rows : Rows) (p : ℕ) (before rest : List ℕ) → check_rows k p before rows ≡ sound
      → entries k (length rows) before (laid k rows ++ rest) ≡ ends (length (laid k rows))
  unfolding entries laid
  rows-read [] p before rest h = refl
  rows-read (row ∷ rows) p before rest h =
      let d = right-first k p before row rows h in
      let t = right-so k r before row d.first in
      let e = entry_in_row k row in
      let more = laid k rows ++ rest in
      rw (append_assoc e (laid k rows) rest)
      (then-ends (entry k before (e ++ more)) (λ s. entries k (length rows) (key_of k (e ++ more)) (drop s (e ++ more)))
      (size_of k row) (length (laid k rows)) (then-entry k r before row t more)
      (rw (then-key k r before row t more, then-rest k r before row t more)
      (rows-read rows (suc p) (key_of k row) rest d.later))
      ∙ ap ends (omega (arith, length-append e (laid k rows), in-row-length k row)))

  section-read : (rows : Rows) (p : ℕ) (rest : List ℕ) → check_rows k p [] rows ≡ sound
      → section k (length rows ∷ (laid k rows ++ rest)) ≡ ends (suc (length (laid k rows)))
  unfolding section shift
  section-read rows p rest h = rw (rows-read rows p [] rest h) (ap ends (omega arith))

  -- and each is read back as its row, tidied
  rows-back : (rows : Rows) (p : ℕ) (before rest : List ℕ) → check_rows k p before rows ≡ sound
      → shown k (length rows) (laid k rows ++ rest) ≡ map (tidy k) rows
  unfolding shown laid
  rows-back [] p before rest h = refl
  rows-back (row ∷ rows) p before rest h =
      let d = right-first k p before row rows h in
      let t = right-so k r before row d.first in
      let e = entry_in_row k row in
      let more = laid k rows ++ rest in
      let long : k.key < length e = omega (arith, in-row-length k row, r.deep (get_or row k.key 0)) in
      let same : row_of k (e ++ more) ≡ row_of k e =
      row-same k (e ++ more) e (get_or-append e more 0 k.key long)
      (λ i l.
      get_or-append e more 0 i
      (omega (arith, in-row-length k row, then-size k r before row t more))) in
      rw (
        append_assoc e (laid k rows) rest,
        same,
        then-size k r before row t more,
        then-rest k r before row t more,
        rows-back rows (suc p) (key_of k row) rest d.later,
      )

-- ---- writing what was read

-- the rows of a section
abbrev pub section_rows : Kind → List ℕ → Rows
section_rows k s = shown k (get_or s 0 0) (drop 1 s)

module _ (k : Kind) (r : Rowed k) where
  -- an entry that the reader takes, shown as a row, is right, and has the same key
  shown-right : (before ws : List ℕ) (p : ℕ) → entry k before ws ≡ ends p
      → (row_right k before (row_of k ws) ≡ true) × (key_of k (row_of k ws) ≡ key_of k ws)
      × (entry_in_row k (row_of k ws) ≡ take (size_of k ws) ws)
  unfolding row_right
  shown-right before ws p e =
      let fits = entry-fits k r before ws p e in
      let ended = entry-ends k before ws p e in
      let l : size_of k ws ≤ length ws = omega (arith, ended.0, ended.1) in
      let back = row-back k ws r fits l in (
        rw (
          le-leb k.width (length (row_of k ws)) (omega (arith, row-length k ws)),
          back,
          own-entry k r before ws l,
          e,
        ),
        row-key k ws r fits (omega (arith, r.deep (get_or ws k.key 0))),
        back,
      )

  entries-back : (n : ℕ) (before ws : List ℕ) (p q : ℕ) → entries k n before ws ≡ ends p
      → (length (shown k n ws) ≡ n) × (check_rows k q before (shown k n ws) ≡ sound) × (laid k (shown k n ws)
      ≡ take p ws)
  unfolding entries shown check_rows laid
  entries-back zero before ws p q e = let z : 0 ≡ p = cc in (refl, refl, rw (← z))
  entries-back (suc n) before ws p q e =
      let d = then-ended (entry k before ws) (λ s. entries k n (key_of k ws) (drop s ws)) p e in
      let size = entry-ends k before ws d.first d.ends-first in
      let rest : entries k n (key_of k ws) (drop (size_of k ws) ws) ≡ ends d.second =
      rw size.1 at d.ends-second in
      let s = shown-right before ws d.first d.ends-first in
      let ih = entries-back n (key_of k ws) (drop (size_of k ws) ws) d.second (suc q) rest in
      let sum : p ≡ size_of k ws + d.second =
      ends-one (sym e ∙ then-ends (entry k before ws) (λ s. entries k n (key_of k ws) (drop s ws)) d.first d.second
      d.ends-first d.ends-second) ∙ ap (λ (x : ℕ). x + d.second) size.1 in (
        ap suc ih.0,
        rw (s.0, s.1) ih.1,
        rw (s.2, ih.2) (sym (take-add (size_of k ws) d.second ws) ∙ ap (λ (x : ℕ). take x ws) (sym sum)),
      )

  section-back : (ws : List ℕ) (p q : ℕ) → section k ws ≡ ends p
      → (check_rows k q [] (section_rows k ws) ≡ sound)
      × (length (section_rows k ws) ∷ laid k (section_rows k ws) ≡ take p ws)
  unfolding section shift
  section-back [] p q e = short-no-end e
  section-back (count ∷ ws) p q e = go (entries k count [] ws) refl e
    where
      go : (w : Walk) → entries k count [] ws ≡ w → shift 1 w ≡ ends p
          → (check_rows k q [] (shown k count ws) ≡ sound)
          × (length (shown k count ws) ∷ laid k (shown k count ws) ≡ take p (count ∷ ws))
      go (ends s) f h =
          let b = entries-back count [] ws s q f in
          let z : p ≡ suc s = sym (ends-one h) ∙ omega arith in (b.1, rw (z, b.0, b.2))
      go (broken s) f h = broken-no-end h
      go short f h = short-no-end h

-- ---- the rows that are shown

module _ (k : Kind) where
  pub shown-count : (n : ℕ) (ws : List ℕ) → length (shown k n ws) ≡ n
  unfolding shown
  shown-count zero ws = refl
  shown-count (suc n) ws = ap suc (shown-count n (drop (size_of k ws) ws))

  pub shown-at : (n : ℕ) (ws : List ℕ) (i : ℕ) → i < n
      → get_or (shown k n ws) i [] ≡ row_of k (drop (entry_at k i ws) ws)
  unfolding shown entry_at
  shown-at zero ws i h = absurd (omega arith)
  shown-at (suc n) ws zero h = refl
  shown-at (suc n) ws (suc i) h =
      shown-at n (drop (size_of k ws) ws) i (omega arith)
      ∙ ap (row_of k) (drop-drop (entry_at k i (drop (size_of k ws) ws)) (size_of k ws) ws)

-- ---- lists of rows, of kinds that all keep their rows

abbrev pub AllRowed : List Kind → Type 0
AllRowed ks = (i : ℕ) → i < length ks → Rowed (get_or ks i variables)

-- lists that are right, the first and then the rest
pub record ListsRight (k : Kind) (ks : List Kind) (j p : ℕ) (rows : ℕ → Rows) : Type 0 where
  pub first : check_rows k p [] (rows j) ≡ sound
  pub later : check_lists ks (suc j) (p + length (rows j)) rows ≡ sound

pub lists-right : (k : Kind) (ks : List Kind) (j p : ℕ) (rows : ℕ → Rows) → check_lists (k ∷ ks) j p rows ≡ sound
    → ListsRight k ks j p rows
unfolding check_lists
lists-right k ks j p rows h = go (check_rows k p [] (rows j)) refl h
  where
    go : (c : Checked) → check_rows k p [] (rows j) ≡ c
        → sound_then c (check_lists ks (suc j) (p + length (rows j)) rows) ≡ sound → ListsRight k ks j p rows
    go sound e q = record { first = e; later = q }
    go (broken_at b) e q = broken-unsound q

-- the i-th list is right
pub lists-each : (ks : List Kind) (j p : ℕ) (rows : ℕ → Rows) → check_lists ks j p rows ≡ sound → (i : ℕ)
    → i < length ks
    → (q : ℕ) × (check_rows (get_or ks i variables) q [] (rows (j + i)) ≡ sound)
lists-each [] j p rows h i l = absurd (omega arith)
lists-each (k ∷ ks) j p rows h zero l =
    let z : j + 0 ≡ j = omega arith in (p, rw z (lists-right k ks j p rows h).first)
lists-each (k ∷ ks) j p rows h (suc i) l =
    let z : j + suc i ≡ suc j + i = omega arith in
    rw z (lists-each ks (suc j) (p + length (rows j)) rows (lists-right k ks j p rows h).later i (omega arith))

-- a section is laid, but for a fifth that would have no entry
pub section-laid : (k : Kind) (j : ℕ) (rows : Rows) → (j ≡ 4 → 0 < length rows)
    → laid_section k j rows ≡ length rows ∷ laid k rows
unfolding laid_section
section-laid k j rows some =
    by-le (length rows) 0 (λ h. rw (ne_eqb j 4 (λ e. let z : ⊥ = omega (arith, some e) in absurd z)))
    (λ h. rw (ne_eqb (length rows) 0 (λ e. let z : ⊥ = omega arith in absurd z), and-false (eqb j 4)))

pub section-left : (k : Kind) (rows : Rows) → length rows ≡ 0 → laid_section k 4 rows ≡ []
unfolding laid_section
section-left k rows h = rw (eq-eqb (length rows) 0 h)

-- the first list as it is laid, before what follows it
module _ (k : Kind) (ks : List Kind) (j : ℕ) (rows : ℕ → Rows) (some : j ≡ 4 → 0 < length (rows j)) where
  laid-first : laid_lists (k ∷ ks) j rows ≡ length (rows j) ∷ (laid k (rows j) ++ laid_lists ks (suc j) rows)
  unfolding laid_lists
  laid-first = ap (λ (l : List ℕ). l ++ laid_lists ks (suc j) rows) (section-laid k j (rows j) some)

  laid-before : (rest : List ℕ) → laid_lists (k ∷ ks) j rows ++ rest
      ≡ length (rows j) ∷ (laid k (rows j) ++ (laid_lists ks (suc j) rows ++ rest))
  laid-before rest =
      rw laid-first
      (ap (λ (l : List ℕ). length (rows j) ∷ l) (append_assoc (laid k (rows j)) (laid_lists ks (suc j) rows) rest))

  laid-size : length (laid_lists (k ∷ ks) j rows)
      ≡ suc (length (laid k (rows j))) + length (laid_lists ks (suc j) rows)
  laid-size = rw laid-first (omega (arith, length-append (laid k (rows j)) (laid_lists ks (suc j) rows)))

-- past the first list
laid-later : (k : Kind) (a : ℕ) (xs more : List ℕ) → drop (suc (length xs)) (a ∷ (xs ++ more)) ≡ more
laid-later k a xs more = drop_at xs more (length xs) refl

-- lists before the fifth
lists-read : (ks : List Kind) → AllRowed ks → (j p : ℕ) (rows : ℕ → Rows) (rest : List ℕ) → j + length ks ≤ 4
    → check_lists ks j p rows ≡ sound
    → sections ks (laid_lists ks j rows ++ rest) ≡ ends (length (laid_lists ks j rows))
unfolding sections laid_lists
lists-read [] all j p rows rest four h = refl
lists-read (k ∷ ks) all j p rows rest four h =
    let d = lists-right k ks j p rows h in
    let xs = laid k (rows j) in
    let more = laid_lists ks (suc j) rows ++ rest in
    let some : j ≡ 4 → 0 < length (rows j) = λ e. absurd (omega arith) in
    rw (laid-before k ks j rows some rest, laid-size k ks j rows some)
    (then-ends (section k (length (rows j) ∷ (xs ++ more)))
    (λ s. sections ks (drop s (length (rows j) ∷ (xs ++ more))))
    (suc (length xs)) (length (laid_lists ks (suc j) rows))
    (section-read k (all 0 (omega arith)) (rows j) p more d.first)
    (rw (laid-later k (length (rows j)) xs more)
    (lists-read ks (λ i l. all (suc i) (omega arith)) (suc j) (p + length (rows j)) rows rest (omega arith)
    d.later)))

-- where the i-th list is laid, its rows are read back
lists-back : (ks : List Kind) → AllRowed ks → (j p : ℕ) (rows : ℕ → Rows) → j + length ks ≤ 5
    → check_lists ks j p rows ≡ sound → (i : ℕ) → i < length ks
    → section_rows (get_or ks i variables) (drop (section_at ks i (laid_lists ks j rows)) (laid_lists ks j rows))
    ≡ map (tidy (get_or ks i variables)) (rows (j + i))
unfolding section_at laid_lists shown
lists-back [] all j p rows five h i l = absurd (omega arith)
lists-back (k ∷ ks) all j p rows five h zero l =
    let z : j + 0 ≡ j = omega arith in
    rw z
    (by-le (length (rows j)) 0
    (λ n. by-le 4 j (λ g. none (omega arith) (omega arith)) (λ g. first (λ e. absurd (omega arith))))
    (λ n. first (λ e. n)))
  where
    first : (j ≡ 4 → 0 < length (rows j)) → section_rows k (laid_lists (k ∷ ks) j rows) ≡ map (tidy k) (rows j)
    first some =
        rw (laid-first k ks j rows some)
        (rows-back k (all 0 (omega arith)) (rows j) p [] (laid_lists ks (suc j) rows)
        (lists-right k ks j p rows h).first)

    none : j ≡ 4 → length (rows j) ≡ 0 → section_rows k (laid_lists (k ∷ ks) j rows) ≡ map (tidy k) (rows j)
    none e n =
        let last : ks ≡ [] = drop_of_length-le ks {i = 0} (omega arith) in
        let empty : rows j ≡ [] = drop_of_length-le (rows j) {i = 0} (omega arith) in
        rw (last, empty, e, section-left k [] refl)
lists-back (k ∷ ks) all j p rows five h (suc i) l =
    let d = lists-right k ks j p rows h in
    let r = all 0 (omega arith) in
    let xs = laid k (rows j) in
    let more = laid_lists ks (suc j) rows in
    let ws = length (rows j) ∷ (xs ++ more) in
    let size : suc (length xs) ≡ section_size k ws =
    section-ends k (deep-of r) ws (suc (length xs)) (section-read k r (rows j) p more d.first) in
    let past : drop (section_size k ws) ws ≡ more =
    ap (λ (n : ℕ). drop n ws) (sym size) ∙ laid-later k (length (rows j)) xs more in
    let z : j + suc i ≡ suc j + i = omega arith in
    rw (
      laid-first k ks j rows (λ e. absurd (omega arith)),
      z,
      ← drop-drop (section_at ks i (drop (section_size k ws) ws))
          (section_size k ws) ws,
      past,
    )
    (lists-back ks (λ i l. all (suc i) (omega arith)) (suc j) (p + length (rows j)) rows (omega arith) d.later i
    (omega arith))

-- ---- lists, and then others

laid-append : (ks more : List Kind) (j : ℕ) (rows : ℕ → Rows)
    → laid_lists (ks ++ more) j rows ≡ laid_lists ks j rows ++ laid_lists more (j + length ks) rows
unfolding laid_lists
laid-append [] more j rows = let z : j + 0 ≡ j = omega arith in rw z
laid-append (k ∷ ks) more j rows =
    let z : j + suc (length ks) ≡ suc j + length ks = omega arith in
    rw z
    (ap (λ (l : List ℕ). laid_section k j (rows j) ++ l) (laid-append ks more (suc j) rows)
    ∙ sym (append_assoc (laid_section k j (rows j)) (laid_lists ks (suc j) rows)
    (laid_lists more (suc j + length ks) rows)))

front-right : (ks more : List Kind) (j p : ℕ) (rows : ℕ → Rows) → check_lists (ks ++ more) j p rows ≡ sound
    → check_lists ks j p rows ≡ sound
unfolding check_lists
front-right [] more j p rows h = refl
front-right (k ∷ ks) more j p rows h =
    let d = lists-right k (ks ++ more) j p rows h in
    rw d.first (front-right ks more (suc j) (p + length (rows j)) rows d.later)

both-right : (ks more : List Kind) (j p : ℕ) (rows : ℕ → Rows) → check_lists ks j p rows ≡ sound
    → ((q : ℕ) → check_lists more (j + length ks) q rows ≡ sound) → check_lists (ks ++ more) j p rows ≡ sound
unfolding check_lists
both-right [] more j p rows h f = let z : j + 0 ≡ j = omega arith in rw z at (f p)
both-right (k ∷ ks) more j p rows h f =
    let d = lists-right k ks j p rows h in
    let z : j + suc (length ks) ≡ suc j + length ks = omega arith in
    rw d.first (both-right ks more (suc j) (p + length (rows j)) rows d.later (rw z at f))

always-rowed : AllRowed always
always-rowed i l = rw (always-kind i (omega arith)) (rowed i (omega arith))

pub all-rowed : AllRowed kinds
all-rowed = rowed

-- the four that every book has, and then the fifth
module _ (rows : ℕ → Rows) where
  abbrev written : List ℕ
  written = laid_lists kinds 0 rows

  abbrev front : List ℕ
  front = laid_lists always 0 rows

  abbrev last : List ℕ
  last = laid_section sigma 4 (rows 4)

  front-last : written ≡ front ++ last
  unfolding laid_lists
  front-last = laid-append always (sigma ∷ []) 0 rows ∙ ap (λ (l : List ℕ). front ++ l) (append-nil last)

  module _ (h : check_lists kinds 0 0 rows ≡ sound) where
    last-right : (q : ℕ) × (check_rows sigma q [] (rows 4) ≡ sound)
    last-right = lists-each kinds 0 0 rows h 4 (omega arith)

    last-read : (len : ℕ) → len ≡ 2 * (length front + length last) → fifth len (length front) last ≡ ends (length last)
    last-read len e =
        by-le (length (rows 4)) 0
        (λ n.
        let none : last ≡ [] = section-left sigma (rows 4) (omega arith) in
        fifth-none len (length front) last (omega (arith, ap length none)) ∙ rw none refl)
        (λ n.
        let is : last ≡ length (rows 4) ∷ laid sigma (rows 4) = section-laid sigma 4 (rows 4) (λ z. n) in
        fifth-is len (length front) last (omega (arith, ap length is)) (λ l. rw is n)
        ∙ rw is
        (subst (λ (l : List ℕ). section sigma (length (rows 4) ∷ l) ≡ ends (suc (length (laid sigma (rows 4)))))
        (append-nil (laid sigma (rows 4)))
        (section-read sigma (rowed 4 (omega arith)) (rows 4) last-right.0 [] last-right.1)))

    -- the reader takes them, and nothing follows
    pub all-read : (len : ℕ) → len ≡ 2 * length written → all_sections len written ≡ ends (length written)
    unfolding all_sections
    all-read len e =
        rw (front-last, length-append front last)
        (then-ends (sections always (front ++ last)) (λ p. fifth len p (drop p (front ++ last)))
        (length front) (length last)
        (lists-read always always-rowed 0 0 rows last (omega arith) (front-right always (sigma ∷ []) 0 0 rows h))
        (rw (drop_at front last (length front) refl)
        (last-read len (omega (arith, ap length front-last, length-append front last)))))

    pub all-back : (i : ℕ) → i < length kinds
        → section_rows (kind_at i) (drop (section_at kinds i written) written) ≡ map (tidy (kind_at i)) (rows i)
    all-back i l =
        let z : 0 + i ≡ i = omega arith in
        lists-back kinds all-rowed 0 0 rows (omega arith) h i l ∙ ap (λ (n : ℕ). map (tidy (kind_at i)) (rows n)) z

-- sections before the fifth that the reader takes, shown as rows, are right, and laid again as they stood
lists-again : (ks : List Kind) → AllRowed ks → (ws : List ℕ) (e : ℕ) → sections ks ws ≡ ends e
    → (j p : ℕ) (rows : ℕ → Rows) → j + length ks ≤ 4
    → ((i : ℕ) → i < length ks → rows (j + i) ≡ section_rows (get_or ks i variables) (drop (section_at ks i ws) ws))
    → (check_lists ks j p rows ≡ sound) × (laid_lists ks j rows ≡ take e ws)
unfolding sections check_lists laid_lists section_at
lists-again [] all ws e h j p rows four same = let z : 0 ≡ e = cc in (refl, rw (← z))
lists-again (k ∷ ks) all ws e h j p rows four same =
    let r = all 0 (omega arith) in
    let d = then-ended (section k ws) (λ s. sections ks (drop s ws)) e h in
    let size : d.first ≡ section_size k ws = section-ends k (deep-of r) ws d.first d.ends-first in
    let rest : sections ks (drop (section_size k ws) ws) ≡ ends d.second = rw size at d.ends-second in
    let z : j + 0 ≡ j = omega arith in
    let here : rows j ≡ section_rows k ws = ap rows (sym z) ∙ same 0 (omega arith) in
    let b = section-back k r ws d.first p d.ends-first in
    let ih = lists-again ks (λ i l. all (suc i) (omega arith)) (drop (section_size k ws) ws) d.second rest (suc j)
    (p + length (rows j)) rows (omega arith)
    (λ i l.
    let y : suc j + i ≡ j + suc i = omega arith in
    ap rows y ∙ same (suc i) (omega arith)
    ∙ ap (λ (l : List ℕ). section_rows (get_or ks i variables) l)
    (sym (drop-drop (section_at ks i (drop (section_size k ws) ws)) (section_size k ws) ws))) in
    let sum : e ≡ section_size k ws + d.second =
    ends-one (sym h ∙ then-ends (section k ws) (λ s. sections ks (drop s ws)) d.first d.second
    d.ends-first d.ends-second) ∙ ap (λ (x : ℕ). x + d.second) size in (
      rw (here, b.0) (rw (← here) ih.0),
      rw here
          (ap (λ (l : List ℕ). l ++ laid_lists ks (suc j) rows)
          (section-laid k j (section_rows k ws) (λ e. absurd (omega arith)) ∙ b.1)
          ∙ ap (λ (l : List ℕ). take d.first ws ++ l) ih.1
          ∙ ap (λ (x : ℕ). take x ws ++ take d.second (drop (section_size k ws) ws)) size
          ∙ sym (take-add (section_size k ws) d.second ws) ∙ ap (λ (x : ℕ). take x ws) (sym sum)),
    )

-- and so are all of a sound book's, in which no half number is left
module _ (book : List ℕ) (good : check_book book ≡ sound) (rows : ℕ → Rows)
    (same : (i : ℕ) → i < length kinds → rows i ≡ section_rows (kind_at i) (section_from i (numbers_of book))) where
  abbrev numbers : List ℕ
  numbers = numbers_of book

  abbrev after : List ℕ
  after = section_from 4 numbers

  w : Whole book
  w = sound-whole book good

  front-again : (check_lists always 0 0 rows ≡ sound) × (laid_lists always 0 rows ≡ take (fourth_end book) numbers)
  front-again =
      lists-again always always-rowed numbers (fourth_end book) w.fourth 0 0 rows (omega arith)
      (λ i l.
      let z : 0 + i ≡ i = omega arith in
      rw (z, always-kind i (omega arith), always-at numbers i (omega arith)) (same i (omega arith)))

  last-again : ((q : ℕ) → check_rows sigma q [] (rows 4) ≡ sound)
      × (laid_section sigma 4 (rows 4) ≡ take w.size after)
  unfolding check_rows shown
  last-again =
      fifth-ended (length book) (fourth_end book) after w.size w.after
      (λ h e.
      let none : rows 4 ≡ [] = same 4 (omega arith) ∙ ap (section_rows sigma) (no-fifth book h) in
      (λ q. rw none refl, rw (none, e) (section-left sigma [] refl)))
      (λ h some e.
      let back = section-back sigma (rowed 4 (omega arith)) after w.size in
      rw (same 4 (omega arith)) (
        λ q. (back q e).0,
        section-laid sigma 4 (section_rows sigma after)
            (λ z. omega (arith, shown-count sigma (get_or after 0 0) (drop 1 after)))
            ∙ (back 0 e).1,
      ))

  even : length book ≡ 2 * length numbers
  even =
      omega (
        arith,
        w.up_to,
        place-ends _ (fourth_end book) (sym w.fourth),
        place-sections always numbers,
        place-ends _ w.size (sym w.after),
        place-fifth (length book) (fourth_end book) after,
        numbers-low book,
        length-drop (fourth_end book) numbers,
      )

  pub all-again : (check_lists kinds 0 0 rows ≡ sound) × (laid_lists kinds 0 rows ≡ numbers)
      × (length book ≡ 2 * length numbers)
  unfolding check_lists
  all-again = (
    both-right always (sigma ∷ []) 0 0 rows front-again.0 (λ q. rw (last-again.0 q) refl),
    front-last rows
        ∙ rw (front-again.1, last-again.1)
        (sym (take-add (fourth_end book) w.size numbers)
        ∙ take_all (fourth_end book + w.size) numbers (omega (arith, w.up_to, numbers-low book))),
    even,
  )

-- ---- rows that hold the same entries

later-alike : {k : Kind} {row other : List ℕ} {rows others : Rows} → Alike k (row ∷ rows) (other ∷ others)
    → Alike k rows others
later-alike a =
    record {
      many = omega (arith, a.many);
      whole = λ i h. a.whole (suc i) (omega arith);
      whole-too = λ i h. a.whole-too (suc i) (omega arith);
      same = λ i h. a.same (suc i) (omega arith);
    }

-- are checked and laid alike
pub alike-laid : (k : Kind) → Rowed k → (rows others : Rows) → Alike k rows others → (p : ℕ) (before : List ℕ)
    → (check_rows k p before rows ≡ check_rows k p before others) × (laid k rows ≡ laid k others)
unfolding check_rows laid row_right
alike-laid k r [] [] a p before = (refl, refl)
alike-laid k r [] (other ∷ others) a p before = absurd (omega (arith, a.many))
alike-laid k r (row ∷ rows) [] a p before = absurd (omega (arith, a.many))
alike-laid k r (row ∷ rows) (other ∷ others) a p before =
    let w : k.width ≤ length row = a.whole 0 (omega arith) in
    let v : k.width ≤ length other = a.whole-too 0 (omega arith) in
    let e : entry_in_row k row ≡ entry_in_row k other = a.same 0 (omega arith) in
    let key : key_of k row ≡ key_of k other =
    sym (in-row-key k r row (omega (arith, r.wide))) ∙ ap (key_of k) e
    ∙ in-row-key k r other (omega (arith, r.wide)) in
    let ih = alike-laid k r rows others (later-alike a) (suc p) (key_of k other) in (
      rw (le-leb k.width (length row) w, le-leb k.width (length other) v, e, key, ih.0),
      rw (e, ih.1),
    )

pub alike-lists : (ks : List Kind) → AllRowed ks → (j p : ℕ) (rows others : ℕ → Rows)
    → ((i : ℕ) → i < length ks → Alike (get_or ks i variables) (rows (j + i)) (others (j + i)))
    → (check_lists ks j p rows ≡ check_lists ks j p others) × (laid_lists ks j rows ≡ laid_lists ks j others)
unfolding check_lists laid_lists laid_section
alike-lists [] all j p rows others a = (refl, refl)
alike-lists (k ∷ ks) all j p rows others a =
    let z : j + 0 ≡ j = omega arith in
    let here : Alike k (rows j) (others j) = rw z at (a 0 (omega arith)) in
    let first = alike-laid k (all 0 (omega arith)) (rows j) (others j) here p [] in
    let ih = alike-lists ks (λ i l. all (suc i) (omega arith)) (suc j) (p + length (others j)) rows others
    (λ i l. let y : j + suc i ≡ suc j + i = omega arith in rw y at (a (suc i) (omega arith))) in (
      rw (first.0, here.many, ih.0),
      rw (here.many, first.1, ih.1),
    )

-- every row of lists that are right is, and its tidied row holds the same entry
pub rows-right : (k : Kind) → Rowed k → (rows : Rows) (p : ℕ) (before : List ℕ) → check_rows k p before rows ≡ sound
    → (i : ℕ) → i < length rows → (b : List ℕ) × Right k b (get_or rows i [])
rows-right k r [] p before h i l = absurd (omega arith)
rows-right k r (row ∷ rows) p before h zero l =
    (before, right-so k r before row (right-first k p before row rows h).first)
rows-right k r (row ∷ rows) p before h (suc i) l =
    rows-right k r rows (suc p) (key_of k row) (right-first k p before row rows h).later i (omega arith)

pub mapped : (k : Kind) (rows : Rows) (i : ℕ) → i < length rows
    → get_or (map (tidy k) rows) i [] ≡ tidy k (get_or rows i [])
mapped k [] i h = absurd (omega arith)
mapped k (row ∷ rows) zero h = refl
mapped k (row ∷ rows) (suc i) h = mapped k rows i (omega arith)

pub tidy-alike : (k : Kind) → Rowed k → (rows : Rows) (p : ℕ) → check_rows k p [] rows ≡ sound
    → Alike k rows (map (tidy k) rows)
tidy-alike k r rows p h =
    record {
      many = sym (length-map rows (tidy k));
      whole = λ i l. (rows-right k r rows p [] h i l).1.whole;
      whole-too = λ i l. rw (mapped k rows i l, row-length k (entry_in_row k (get_or rows i []))) (omega arith);
      same = λ i l. rw (mapped k rows i l) (sym (back (get_or rows i []) (rows-right k r rows p [] h i l).1));
    }
  where
    back : (row : List ℕ) {b : List ℕ} → Right k b row → entry_in_row k (tidy k row) ≡ entry_in_row k row
    back row t =
        let e = entry_in_row k row in
        let size = in-row-size k r row in
        let long = in-row-length k row in
        row-back k e r (omega (arith, t.fits)) (omega arith) ∙ take_all (size_of k e) e (omega arith)
