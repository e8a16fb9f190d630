-- What reading the entry of a row says of the row.
-- Assumes nothing.
use Prim.Native.Nat.{ℕ, ◌*◌, ◌≤◌, ◌<◌}
use mathlib.Core.Path.{◌≡◌, refl, sym, ap, ◌∙◌}
use mathlib.Core.Bool.{Bool, true, false, cond, ◌&&◌, not, true≢false}
use mathlib.Core.List.{List, [], ◌++◌}
use native.Mathlib.Omega.{arith}
use borrow.Author.Tests.{leb-true, le-leb}
use lib.Dec.{leb}
use Rattle.std.proofs.Common.{Option, Some, None, Result, Ok, Err}
use Rattle.std.specs.Result.{result_ok}
use lib.ListN.{length, get_or, take, drop, length-append, get_or-append}
use lib.Seq.{sets, take_at, take-take, drop-cons, length-take-le}
use Rattle.rules.specs.Numbers.{numbers_of, number_bytes}
use Rattle.rules.specs.Book.{Kind, Walk, ends, broken, short, size_of, right, key_falls, numbers_from, entry, is_end}
use Rattle.rules.specs.Book.{within, anything, could_hold, key_of, rises, kind_at}
use Rattle.rules.specs.Writing.{entry_in_row, row_right}
use Rattle.rules.proofs.Bools.{and-left, and-right, false-unless}
use Rattle.rules.proofs.Steps.{entry-falls, entry-rises}
use Rattle.rules.proofs.Walks.{entry-ends}
use Rattle.rules.proofs.LookUp.{held}
use Rattle.rules.proofs.RowLaws.{Rowed, in-row-key, in-row-size, in-row-length, in-row-taken, in-row-plain, own-entry}
use Rattle.entry.specs.Paper.{walk_paper}
use Rattle.entry.specs.declared.Fault.{Fault}
use Rattle.entry.specs.declared.Fault.TheVariants.{Broken, Short}
use Rattle.rows.specs.Paper.{row_in, row_size, end_of}
use Rattle.rows.proofs.AnyRow.{row-whole, row-cut, row-in-size, any-rowed, plain-place, plain-size}
use Rattle.rows.proofs.Stores.{stored-first}

-- an entry that ends has as many numbers as it says
end-is : (k : Kind) (before e : List ℕ)
    → cond (is_end (entry k before e)) (Some (size_of k e)) None ≡ end_of (entry k before e)
end-is k before e = go (entry k before e) refl
  where
    go : (w : Walk) → entry k before e ≡ w → cond (is_end w) (Some (size_of k e)) None ≡ end_of w
    go (ends p) q = ap (λ (n : ℕ). Some n) (sym (entry-ends k before e p q).1)
    go (broken p) q = refl
    go short q = refl

-- what the reader finds of one
pub walk-read : (w : Result ℕ Fault) {r : Option ℕ} {e : Walk} → r ≡ result_ok w → walk_paper w ≡ e → r ≡ end_of e
walk-read w told read = told ∙ go w ∙ ap end_of read
  where
    go : (w : Result ℕ Fault) → result_ok w ≡ end_of (walk_paper w)
    go (Ok p) = refl
    go (Err (Broken p)) = refl
    go (Err Short) = refl

-- .. and the number after its key is within its range
end-fits : (k : Kind) → Rowed k → (before e : List ℕ) → is_end (entry k before e) ≡ true → size_of k e ≤ k.width
unfolding entry could_hold right
end-fits k r before e h =
    let m = get_or e k.key 0 in
    let could : could_hold k e ≡ true = go (key_falls k before e) h in
    let each : right k e k.key ≡ true = (held k e could).each k.key (r.deep m) in
    r.fits m (and-left (within (get_or k.ranges k.key anything) m) (k.rule (take k.key e) m) each)
  where
    go : (x : Bool) → is_end (cond x (broken 0) (numbers_from k e (size_of k e) 0)) ≡ true
        → is_end (numbers_from k e (size_of k e) 0) ≡ true
    go true h = absurd (true≢false (sym h))
    go false h = h

-- what follows an entry counts for nothing
own-first : (k : Kind) → Rowed k → (before e rest : List ℕ) → length e ≡ size_of k e
    → entry k before (e ++ rest) ≡ entry k before e
own-first k r before e rest l =
    let deep : k.key < length e = omega (arith, r.deep (get_or e k.key 0)) in
    let size : size_of k (e ++ rest) ≡ length e =
    ap k.size (get_or-append e rest 0 k.key deep) ∙ sym l in
    let own = own-entry k r before (e ++ rest) (omega (arith, length-append e rest)) in
    sym own ∙ ap (entry k before) (take_at e rest (size_of k (e ++ rest)) (sym size))

-- a row that is not whole
pub walk-cut : (k : Kind) (before ws : List ℕ) → length ws < k.width → None ≡ row_size k before (row_in k ws)
unfolding row_right
walk-cut k before ws h = rw (row-cut k ws h)

-- the first entry has no key to rise over
first-rises : (k : Kind) → Rowed k → (e : List ℕ) → key_falls k [] e ≡ false
unfolding key_falls rises
first-rises k r e = go (leb k.key (length e)) refl
  where
    go : (t : Bool) → leb k.key (length e) ≡ t → t && not (rises [] (key_of k e)) ≡ false
    go true h =
        let l : k.key ≤ length e = leb-true k.key (length e) h in
        let some : 0 < length (key_of k e) = omega (arith, length-take-le k.key e l, r.keyed) in
        rw (drop-cons (key_of k e) 0 0 some)
    go false h = refl

module _ (k : Kind) (r : Rowed k) (before ws : List ℕ) where
  -- the key of a whole row is that of its entry
  key-same : k.width ≤ length ws → key_falls k before (entry_in_row k (row_in k ws)) ≡ key_falls k before ws
  unfolding key_falls
  key-same w =
      let whole : length (row_in k ws) ≡ k.width = length-take-le k.width ws w in
      let deep : k.key < length (entry_in_row k (row_in k ws)) =
      omega (arith, in-row-length k (row_in k ws), r.deep (get_or (row_in k ws) k.key 0)) in
      rw (
        le-leb k.key (length (entry_in_row k (row_in k ws))) (omega arith),
        le-leb k.key (length ws) (omega arith),
        in-row-key k r (row_in k ws) (omega arith),
        take-take k.key k.width ws (omega arith),
      )

  -- one whose key does not rise
  pub walk-falls : k.width ≤ length ws → key_falls k before ws ≡ true → None ≡ row_size k before (row_in k ws)
  unfolding row_right
  walk-falls w h = rw (entry-falls k before (entry_in_row k (row_in k ws)) (key-same w ∙ h), row-whole k ws w)

  -- one whose key rises is as its numbers are
  pub walk-rises : k.width ≤ length ws → key_falls k before ws ≡ false → row_size k [] (row_in k ws)
      ≡ row_size k before (row_in k ws)
  unfolding row_right
  walk-rises w h =
      rw (
        entry-rises k before (entry_in_row k (row_in k ws)) (key-same w ∙ h),
        entry-rises k [] (entry_in_row k (row_in k ws)) (first-rises k r (entry_in_row k (row_in k ws))),
      )

module _ (k : Kind) (r : Rowed k) (ws : List ℕ) where
  abbrev before : List ℕ
  before = []

  abbrev row : List ℕ
  row = row_in k ws

  numbers-are : (e : List ℕ) → numbers_from k e (size_of k e) 0 ≡ entry k [] e
  numbers-are e = sym (entry-rises k [] e (first-rises k r e))

  -- one that says a longer entry than a row has
  pub walk-long : k.width < size_of k ws → None ≡ row_size k before row
  unfolding row_right
  walk-long h = rw wrong
    where
      wrong : row_right k before row ≡ false
      wrong =
          false-unless (row_right k before row)
          (λ t.
          omega (
            arith,
            end-fits k r before (entry_in_row k row)
                (and-right (leb k.width (length row)) (is_end (entry k before (entry_in_row k row))) t),
            in-row-size k r row,
            row-in-size k ws r.wide,
          ))

  -- one that is whole, by its entry
  walk-is : k.width ≤ length ws → size_of k ws ≤ k.width
      → end_of (entry k before (entry_in_row k ws)) ≡ row_size k before row
  unfolding row_right
  walk-is w s =
      sym (end-is k before (entry_in_row k ws))
      ∙ rw (row-whole k ws w, (in-row-taken k r ws s).1, row-in-size k ws r.wide, in-row-size k r ws)

  -- .. which stands in it as in the book
  pub walk-plain : ((i : ℕ) → k.in_row (get_or ws k.key 0) i ≡ i) → k.width ≤ length ws → size_of k ws ≤ k.width
      → end_of (numbers_from k ws (size_of k ws) 0) ≡ row_size k before row
  walk-plain same w s =
      ap end_of
      (numbers-are ws ∙ sym (own-entry k r before ws (omega arith))
      ∙ ap (entry k before) (sym (in-row-plain k r ws same (omega arith))))
      ∙ walk-is w s

  -- .. which is laid in the order of the book
  pub walk-laid : (blank laid : List ℕ) → k.width ≤ length ws → size_of k ws ≤ k.width → 2 * k.width ≤ length blank
      → laid ≡ sets blank 0 (number_bytes (entry_in_row k ws))
      → end_of (numbers_from k (numbers_of laid) (size_of k (numbers_of laid)) 0) ≡ row_size k before row
  walk-laid blank laid w s h e =
      let d = entry_in_row k ws in
      let rest = numbers_of (drop (2 * length d) blank) in
      let numbers : numbers_of laid ≡ d ++ rest =
      ap numbers_of e ∙ stored-first d blank (omega (arith, in-row-length k ws)) in
      ap end_of
      (numbers-are (numbers_of laid) ∙ ap (entry k before) numbers
      ∙ own-first k r before d rest (in-row-length k ws ∙ sym (in-row-size k r ws)))
      ∙ walk-is w s

-- the numbers of a row that is not staged, read with the number of its kind
pub walk-as : (kind j : ℕ) (ws : List ℕ) {r : Option ℕ} → kind_at kind ≡ kind_at j → (w : Result ℕ Fault)
    → (j ≡ 1 → ⊥) → r ≡ result_ok w → walk_paper w ≡ numbers_from (kind_at j) ws (size_of (kind_at j) ws) 0
    → (kind_at kind).width ≤ length ws → r ≡ row_size (kind_at kind) [] (row_in (kind_at kind) ws)
walk-as kind j ws same w plain told read whole =
    let m = get_or ws (kind_at j).key 0 in
    let l : (kind_at j).width ≤ length ws = rw same at whole in
    rw same
    (walk-read w told read
    ∙ walk-plain (kind_at j) (any-rowed j) ws (λ i. plain-place m i j plain) l
    (omega (arith, plain-size m j plain)))
