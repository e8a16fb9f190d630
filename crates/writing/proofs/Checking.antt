-- The loops over the rows of a list and over the lists: a law for each step.
-- Assumes nothing.
use Prim.Native.Nat.{ℕ, suc, ◌+◌, ◌*◌, ◌≤◌, ◌<◌}
use mathlib.Core.Path.{◌≡◌, refl, ap, sym, ◌∙◌}
use mathlib.Core.Bool.{Bool, true, false, cond}
use mathlib.Core.List.{List, [], ◌∷◌, ◌++◌}
use native.Mathlib.Omega.{arith}
use native.Mathlib.Numerals.{add-one}
use lib.ListN.{length, get_or, take, drop, length-append, drop_of_length-le}
use lib.Seq.{take-nil, take-take, take_at, drop_at, take_all, drop-cons}
use Rattle.std.proofs.lemmas.List.{nil_from_length, append-nil, get_or-map}
use Rattle.std.specs.Borrow.{Bor}
use Rattle.std.proofs.Common.{min, Some, None, Ok, Err}
use Rattle.rules.proofs.Bounded.{by-le}
use Rattle.rules.specs.Numbers.{numbers_of}
use Rattle.rules.specs.Book.{Kind, size_of, key_of, kinds, kind_at, variables, Checked, sound, broken_at}
use Rattle.rules.specs.Writing.{Rows, entry_in_row, row_right, check_rows, check_lists, laid, left_out, laid_section}
use Rattle.rules.specs.Writing.{laid_lists, rows_in}
use Rattle.rules.proofs.LookUp.{broken-unsound}
use Rattle.rules.proofs.Numbers.{numbers-low, numbers-take}
use Rattle.rules.proofs.RowLaws.{Rowed, rowed, in-row-length}
use Rattle.rules.proofs.Written.{right-so}
use Rattle.rules.proofs.LentRows.{rows-next}
use Rattle.rules.proofs.FewKeys.{few-right, bad-near, laid-short}
use Rattle.rows.specs.Paper.{row_size}
use Rattle.writing.specs.Paper.{lent, all_rows, section_size, InList, InLists, ListChecked, ListsChecked}
use Rattle.writing.specs.declared.Count.{Count}

-- what the size of a row tells: none of one that is not right
module _ (k : Kind) (before row : List ℕ) where
  none-wrong : None ≡ row_size k before row → row_right k before row ≡ false
  none-wrong told = go (row_right k before row) refl told
    where
      go : (t : Bool) → row_right k before row ≡ t → None ≡ cond t (Some (size_of k row)) None
          → row_right k before row ≡ false
      go true e q = cc
      go false e q = e

  some-right : {size : ℕ} → Some size ≡ row_size k before row
      → (row_right k before row ≡ true) × (size ≡ size_of k row)
  some-right {size} told = go (row_right k before row) refl told
    where
      go : (t : Bool) → row_right k before row ≡ t → Some size ≡ cond t (Some (size_of k row)) None
          → (row_right k before row ≡ true) × (size ≡ size_of k row)
      go true e q = (e, cc)
      go false e q = cc

-- The first of the rows that are to come, and the rest of them.
pub record Chunk (k : Kind) (bytes row rest : List ℕ) : Type 0 where
  pub parts : bytes ≡ row ++ rest
  pub split : all_rows k bytes ≡ numbers_of row ∷ all_rows k rest
  pub own : take k.width (numbers_of row) ≡ numbers_of row

-- cut off by a chunk's length
cut-off : (n : ℕ) (row rest : List ℕ) → length row ≡ min n (length (row ++ rest))
    → (take n (row ++ rest) ≡ row) × (drop n (row ++ rest) ≡ rest)
cut-off n row rest h =
    let sum : length (row ++ rest) ≡ length row + length rest = length-append row rest in
    by-le n (length row)
    (λ l.
    let e : length row ≡ n = omega arith in
    (take_at row rest n e, drop_at row rest n e))
    (λ l.
    let none : rest ≡ [] = nil_from_length rest (omega arith) in
    rw (none, append-nil) (take_all n row (omega arith), drop_of_length-le row (omega arith)))

pub chunk-is : {k : Kind} → Rowed k → (size : ℕ) → size ≡ 2 * k.width → (bytes row rest : List ℕ) → bytes ≡ row ++ rest
    → length row ≡ min size (length bytes) → 0 < length bytes → Chunk k bytes row rest
chunk-is {k} r size e bytes row rest parts long some =
    let w = k.width in
    let z : 0 + 2 * w ≡ 2 * w = omega arith in
    let o = cut-off (2 * w) row rest (long ∙ rw (e, parts)) in
    let now : numbers_of row ≡ take w (numbers_of bytes) =
    ap numbers_of (sym o.0) ∙ numbers-take (row ++ rest) w ∙ rw (← parts) in
    record {
      parts = parts;
      split =
          rows-next w (omega (arith, r.wide)) bytes 0 some
          ∙ rw (z, now, ← o.1, ← parts);
      own = rw now (take-take w w (numbers_of bytes) (omega arith));
    }

-- the loop over the rows of a list
module _ {k : Kind} (r : Rowed k) (list : List ℕ) where
  pub list-opens : (count : Count) → (count.rows ≡ 0) × (count.numbers ≡ 0) → InList k list [] list count
  unfolding numbers_of
  list-opens count none =
      record {
        few = omega arith;
        short = omega arith;
        checks = rw (take-nil {A = ℕ} k.key, none.0);
        counts = omega arith;
        sizes = omega arith;
      }

  module _ {before bytes row rest : List ℕ} {count : Count} (s : InList k list before bytes count)
      (c : Chunk k bytes row rest) where
    pub list-bad : None ≡ row_size k (key_of k (numbers_of before)) (take k.width (numbers_of row))
        → ListChecked k (all_rows k list) (Err count.rows)
    unfolding check_rows
    list-bad told =
        let told' = rw c.own at told in
        s.checks ∙ rw (c.split, none-wrong k (key_of k (numbers_of before)) (numbers_of row) told')

    pub list-next : {more : ℕ} → Some more ≡ row_size k (key_of k (numbers_of before)) (take k.width (numbers_of row))
        → InList k list row rest (record { rows = count.rows + 1; numbers = count.numbers + more })
    unfolding check_rows laid
    list-next {more} told =
        let key = key_of k (numbers_of before) in
        let now = numbers_of row in
        let t = some-right k key now (rw c.own at told) in
        let right = right-so k r key now t.0 in
        let long : length bytes ≡ length row + length rest = ap length c.parts ∙ length-append row rest in
        record {
          few = omega (arith, s.few, r.wide, right.whole, numbers-low row);
          short = omega (arith, s.short, t.1, right.fits, right.whole, numbers-low row);
          checks = s.checks ∙ rw (c.split, t.0, add-one count.rows);
          counts = s.counts ∙ rw c.split (omega arith);
          sizes =
              s.sizes
              ∙ rw c.split
              (omega (arith, length-append (entry_in_row k now) (laid k (all_rows k rest)), in-row-length k now, t.1));
        }

  pub list-done : {before : List ℕ} {count : Count} → InList k list before [] count
      → ListChecked k (all_rows k list) (Ok count)
  unfolding check_rows laid rows_in
  list-done s = (s.checks, omega (arith, s.counts), omega (arith, s.sizes))

-- a check from a later position
abbrev moved : ℕ → Checked → Checked
moved p sound = sound
moved p (broken_at q) = broken_at (p + q)

check-moved : (k : Kind) (p q : ℕ) (before : List ℕ) (rows : Rows)
    → check_rows k (p + q) before rows ≡ moved p (check_rows k q before rows)
unfolding check_rows
check-moved k p q before [] = refl
check-moved k p q before (row ∷ rows) = go (row_right k before row) (check-moved k p (suc q) (key_of k row) rows)
  where
    further : p + suc q ≡ suc (p + q)
    further = omega arith

    go : (t : Bool) → check_rows k (p + suc q) (key_of k row) rows ≡ moved p (check_rows k (suc q) (key_of k row) rows)
        → cond t (check_rows k (suc (p + q)) (key_of k row) rows) (broken_at (p + q))
        ≡ moved p (cond t (check_rows k (suc q) (key_of k row) rows) (broken_at q))
    go true ih = sym (ap (λ (n : ℕ). check_rows k n (key_of k row) rows) further) ∙ ih
    go false ih = refl

check-at : (k : Kind) (p : ℕ) (rows : Rows) → check_rows k p [] rows ≡ moved p (check_rows k 0 [] rows)
check-at k p rows = let z : p + 0 ≡ p = omega arith in rw z at (check-moved k p 0 [] rows)

-- right from one position, right from the first
pub checks-from : (k : Kind) (p : ℕ) (rows : Rows) → check_rows k p [] rows ≡ sound → check_rows k 0 [] rows ≡ sound
checks-from k p rows e = go (check_rows k 0 [] rows) (sym (check-at k p rows) ∙ e)
  where
    go : (c : Checked) → moved p c ≡ sound → c ≡ sound
    go sound h = refl
    go (broken_at q) h = broken-unsound h

-- a lent list among the five
pub lent-at : (lists : List (Bor (List ℕ))) (kind : ℕ) (d : Bor (List ℕ)) → kind < length lists
    → get_or (lent lists) kind [] ≡ (get_or lists kind d).now
lent-at lists kind d h = get_or-map (λ list. list.now) lists kind d [] h

-- how many numbers a section has
size-is : (k : Kind) (j : ℕ) (rows : Rows) (n more : ℕ) → n ≡ length rows → more ≡ length (laid k rows)
    → section_size j n more ≡ length (laid_section k j rows)
unfolding laid_section
size-is k j rows n more e f = rw (e, f) (go (left_out j (length rows)))
  where
    go : (t : Bool) → cond t 0 (1 + length (laid k rows)) ≡ length (cond t [] (length rows ∷ laid k rows))
    go true = refl
    go false = omega arith

size-bounded : (j n more : ℕ) → section_size j n more ≤ 1 + more
size-bounded j n more = go (left_out j n)
  where
    go : (t : Bool) → cond t 0 (1 + more) ≤ 1 + more
    go true = omega arith
    go false = omega arith

-- the loop over the lists
module _ (rows : ℕ → Rows) where
  module _ {kind before size : ℕ} (s : InLists rows kind before size) (h : kind < length kinds) where
    abbrev k : Kind
    k = kind_at kind

    front : drop kind kinds ≡ k ∷ drop (suc kind) kinds
    front = drop-cons kinds kind variables h

    pub lists-bad : {p : ℕ} → ListChecked k (rows kind) (Err p) → ListsChecked rows (Err (before + p))
    unfolding check_lists
    lists-bad {p} e = s.checks ∙ rw (front, check-at k before (rows kind), e)

    pub bad-bounded : {p : ℕ} → ListChecked k (rows kind) (Err p) → before + p ≤ 10140
    bad-bounded {p} e = omega (arith, s.few, bad-near k (rowed kind h) 0 (rows kind) p e)

    pub right-bounded : {count : Count} → ListChecked k (rows kind) (Ok count)
        → (count.rows ≤ 2028) × (count.numbers ≤ 50700)
    right-bounded e =
        let few = few-right k (rowed kind h) 0 (rows kind) e.0 in
        (omega (arith, e.1), omega (arith, e.2, laid-short k (rowed kind h) 0 [] (rows kind) e.0))

    pub lists-next : {count : Count} {more : ℕ} → ListChecked k (rows kind) (Ok count)
        → more ≡ section_size kind count.rows count.numbers
        → InLists rows (kind + 1) (before + count.rows) (size + more)
    unfolding check_lists laid_lists
    lists-next {count} e told =
        let b = right-bounded e in
        record {
          few = omega (arith, s.few, b.0);
          short = omega (arith, s.short, told, size-bounded kind count.rows count.numbers, b.1);
          checks = s.checks ∙ rw (front, check-at k before (rows kind), e.0, add-one kind, e.1);
          sizes =
              s.sizes
              ∙ rw (front, add-one kind)
              (omega (
                arith,
                length-append (laid_section k kind (rows kind)) (laid_lists (drop (suc kind) kinds) (suc kind) rows),
                told,
                size-is k kind (rows kind) count.rows count.numbers e.1 e.2,
              ));
        }

  pub lists-done : {kind before size : ℕ} → InLists rows kind before size → kind ≡ length kinds
      → ListsChecked rows (Ok size)
  unfolding check_lists laid_lists
  lists-done {kind} {before} {size} s h =
      let none : drop kind kinds ≡ [] = drop_of_length-le kinds (omega arith) in (
        s.checks ∙ rw none,
        sym (s.sizes ∙ rw none (omega arith)),
        omega (arith, s.short),
      )
