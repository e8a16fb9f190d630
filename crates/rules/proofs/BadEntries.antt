-- The position that the writer tells is that of a bad entry, and no lower one is; where it tells none, no entry is bad.
-- Proved once over the kinds of section.
-- Assumes nothing.
use Prim.Native.Nat.{ℕ, zero, suc, ◌+◌, ◌≤◌, ◌<◌}
use mathlib.Core.Path.{◌≡◌, refl}
use mathlib.Core.Bool.{Bool, true, false, cond, ◌&&◌, true≢false}
use mathlib.Core.List.{List, [], ◌∷◌}
use native.Mathlib.Omega.{arith}
use borrow.Author.Tests.{leb-false}
use lib.Dec.{leb}
use lib.ListN.{length, get_or}
use Rattle.rules.specs.Book.{Kind, Walk, ends, broken, short, size_of, key_of, entry, is_end}
use Rattle.rules.specs.Book.{kinds, variables, Checked, sound, broken_at}
use Rattle.rules.specs.Faults.{EntryFault}
use Rattle.rules.specs.Writing.{Rows, entry_in_row, row_right, check_rows, sound_then, check_lists}
use Rattle.rules.specs.Writable.{RowFault, cut_short, refused_at, key_over, BadRow, entries_before, BadEntry}
use Rattle.rules.proofs.Faults.{Tells, entry-tells}
use Rattle.rules.proofs.RowLaws.{Rowed, in-row-length, in-row-size}
use Rattle.rules.proofs.Written.{deep-of, right-so, AllRowed, all-rowed}

-- What a check finds, of faults at positions: none, or the one at the lowest.
abbrev pub Finds : (ℕ → Type 0) → Checked → Type 0
Finds F sound = (q : ℕ) → F q → ⊥
Finds F (broken_at p) = F p × ((q : ℕ) → F q → p ≤ q)

-- the same faults in other words
same-found : (F G : ℕ → Type 0) (c : Checked) → ((q : ℕ) → F q → G q) → ((q : ℕ) → G q → F q) → Finds F c → Finds G c
same-found F G sound to from f = λ q g. f q (from q g)
same-found F G (broken_at p) to from f = (to p f.0, λ q g. f.1 q (from q g))

-- ---- a row is right exactly where nothing is wrong with it

module _ (k : Kind) (r : Rowed k) (before row : List ℕ) where
  told : Tells (EntryFault k before (entry_in_row k row)) (size_of k (entry_in_row k row)) (length (entry_in_row k row))
      (entry k before (entry_in_row k row))
  told = entry-tells k (deep-of r) before (entry_in_row k row)

  pub right-has-none : row_right k before row ≡ true → RowFault k before row → ⊥
  right-has-none h (cut_short l) = omega (arith, (right-so k r before row h).whole)
  right-has-none h (refused_at p f) =
      let t : Tells (EntryFault k before (entry_in_row k row)) (size_of k (entry_in_row k row))
      (length (entry_in_row k row))
      (ends (size_of k row)) = rw (right-so k r before row h).ends_so at told in
      t.1.1 p f

  pub wrong-has-one : row_right k before row ≡ false → RowFault k before row
  unfolding row_right
  wrong-has-one h = go (leb k.width (length row)) (entry k before (entry_in_row k row)) refl h told
    where
      go : (t : Bool) (w : Walk) → leb k.width (length row) ≡ t → t && is_end w ≡ false
          → Tells (EntryFault k before (entry_in_row k row)) (size_of k (entry_in_row k row))
          (length (entry_in_row k row)) w
          → RowFault k before row
      go false w e q t = cut_short (leb-false k.width (length row) e)
      go true (ends p) e q t = absurd (true≢false q)
      go true (broken p) e q t = refused_at p t.0
      go true short e q t = absurd (omega (arith, t.0, in-row-length k row, in-row-size k r row))

-- ---- the first bad row of a list

next-key : (k : Kind) (before row : List ℕ) (rows : Rows) (i : ℕ)
    → key_over k (key_of k row) i rows ≡ key_over k before (suc i) (row ∷ rows)
unfolding key_over
next-key k before row rows zero = refl
next-key k before row rows (suc i) = refl

pub rows-find : (k : Kind) → Rowed k → (p : ℕ) (before : List ℕ) (rows : Rows)
    → Finds (BadRow k p before rows) (check_rows k p before rows)
unfolding check_rows key_over
rows-find k r p before [] = λ q b. omega (arith, b.among)
rows-find k r p before (row ∷ rows) =
    go (row_right k before row) refl (rows-find k r (suc p) (key_of k row) rows)
  where
    to : (q : ℕ) → BadRow k (suc p) (key_of k row) rows q → BadRow k p before (row ∷ rows) q
    to q b =
        record {
          nth = suc b.nth;
          among = omega (arith, b.among);
          stands = omega (arith, b.stands);
          fault = rw (next-key k before row rows b.nth) at b.fault;
        }

    from : row_right k before row ≡ true → (q : ℕ) → BadRow k p before (row ∷ rows) q
        → BadRow k (suc p) (key_of k row) rows q
    from t q b = at b.nth b.among b.stands b.fault
      where
        at : (i : ℕ) → i < suc (length rows) → q ≡ p + i
            → RowFault k (key_over k before i (row ∷ rows)) (get_or (row ∷ rows) i [])
            → BadRow k (suc p) (key_of k row) rows q
        at zero l e f = absurd (right-has-none k r before row t f)
        at (suc i) l e f =
            record {
              nth = i;
              among = omega arith;
              stands = omega arith;
              fault = rw (← next-key k before row rows i) at f;
            }

    go : (t : Bool) → row_right k before row ≡ t
        → Finds (BadRow k (suc p) (key_of k row) rows) (check_rows k (suc p) (key_of k row) rows)
        → Finds (BadRow k p before (row ∷ rows)) (cond t (check_rows k (suc p) (key_of k row) rows) (broken_at p))
    go true e f =
        same-found (BadRow k (suc p) (key_of k row) rows) (BadRow k p before (row ∷ rows))
        (check_rows k (suc p) (key_of k row) rows) to (from e) f
    go false e f = (
      record { nth = 0; among = omega arith; stands = omega arith; fault = wrong-has-one k r before row e },
      λ q b. omega (arith, b.stands),
    )

-- ---- the first bad entry of lists

-- of the lists from the j-th on
record BadFrom (ks : List Kind) (j : ℕ) (rows : ℕ → Rows) (q : ℕ) : Type 0 where
  list : ℕ
  known : list < length ks
  bad : BadRow (get_or ks list variables) (entries_before rows (j + list)) [] (rows (j + list)) q

before-grows : (rows : ℕ → Rows) (j i : ℕ) → entries_before rows j ≤ entries_before rows (j + i)
unfolding entries_before
before-grows rows j zero = let z : j + 0 ≡ j = omega arith in rw z (omega arith)
before-grows rows j (suc i) =
    let z : j + suc i ≡ suc (j + i) = omega arith in
    rw z (omega (arith, before-grows rows j i))

lists-find : (ks : List Kind) → AllRowed ks → (j p : ℕ) (rows : ℕ → Rows) → p ≡ entries_before rows j
    → Finds (BadFrom ks j rows) (check_lists ks j p rows)
unfolding check_lists entries_before
lists-find [] all j p rows e = λ q b. omega (arith, b.known)
lists-find (k ∷ ks) all j p rows e =
    go (check_rows k p [] (rows j)) (rows-find k (all 0 (omega arith)) p [] (rows j))
    (lists-find ks (λ i l. all (suc i) (omega arith)) (suc j) (p + length (rows j)) rows (omega arith))
  where
    here : j + 0 ≡ j
    here = omega arith

    further : (i : ℕ) → suc j + i ≡ j + suc i
    further i = omega arith

    first : (q : ℕ) → BadRow k p [] (rows j) q → BadFrom (k ∷ ks) j rows q
    first q b = record { list = 0; known = omega arith; bad = rw (here, ← e) b }

    later : (q : ℕ) → BadFrom ks (suc j) rows q → BadFrom (k ∷ ks) j rows q
    later q b =
        record { list = suc b.list; known = omega (arith, b.known); bad = rw (further b.list) at b.bad }

    -- by where it stands
    split : {P : Type 0} (q : ℕ) → (BadRow k p [] (rows j) q → P) → (BadFrom ks (suc j) rows q → P)
        → BadFrom (k ∷ ks) j rows q → P
    split {P} q f g b = at b.list b.known b.bad
      where
        at : (i : ℕ) → i < suc (length ks)
            → BadRow (get_or (k ∷ ks) i variables) (entries_before rows (j + i)) [] (rows (j + i)) q → P
        at zero l c = f (rw (here, ← e) at c)
        at (suc i) l c = g (record { list = i; known = omega arith; bad = rw (← further i) at c })

    go : (c : Checked) → Finds (BadRow k p [] (rows j)) c
        → Finds (BadFrom ks (suc j) rows) (check_lists ks (suc j) (p + length (rows j)) rows)
        → Finds (BadFrom (k ∷ ks) j rows) (sound_then c (check_lists ks (suc j) (p + length (rows j)) rows))
    go sound f g =
        same-found (BadFrom ks (suc j) rows) (BadFrom (k ∷ ks) j rows)
        (check_lists ks (suc j) (p + length (rows j)) rows) later (λ q. split q (λ b. absurd (f q b)) (λ b. b)) g
    go (broken_at b) f g = (
      first b f.0,
      λ q.
          split q (f.1 q)
          (λ c.
          omega (
            arith,
            f.0.stands,
            f.0.among,
            c.bad.stands,
            before-grows rows (suc j) c.list,
          )),
    )

-- the check of the five lists
pub entries-find : (rows : ℕ → Rows) → Finds (BadEntry rows) (check_lists kinds 0 0 rows)
unfolding entries_before
entries-find rows =
    same-found (BadFrom kinds 0 rows) (BadEntry rows) (check_lists kinds 0 0 rows)
    (λ q b.
    let z : 0 + b.list ≡ b.list = omega arith in
    record { list = b.list; known = b.known; bad = rw z at b.bad })
    (λ q b.
    let z : 0 + b.list ≡ b.list = omega arith in
    record { list = b.list; known = b.known; bad = rw z b.bad })
    (lists-find kinds all-rowed 0 0 rows refl)
