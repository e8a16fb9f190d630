-- The entry of a row, laid number by number in the order of the book.
-- Assumes nothing.
use Prim.Native.Nat.{ℕ, suc, ◌+◌, ◌*◌, ◌≤◌, ◌<◌}
use mathlib.Core.Path.{◌≡◌, sym, ap, ◌∙◌}
use mathlib.Core.List.{List, [], ◌∷◌}
use native.Mathlib.Omega.{arith}
use borrow.Author.Tests.{le-leb}
use lib.ListN.{length, get_or, drop_of_length-le}
use lib.Seq.{sets, length-sets, drop-cons}
use Rattle.rules.specs.Numbers.{numbers_of, number_bytes}
use Rattle.rules.specs.Book.{Kind, size_of}
use Rattle.rules.specs.Writing.{entry_in_row}
use Rattle.rules.proofs.Numbers.{numbers-low}
use Rattle.rules.proofs.RowLaws.{Rowed, in-row-length, in-row-at, in-row-taken}
use Rattle.rows.specs.Paper.{put_number, row_in, entry_laid, Layable, Laying}
use Rattle.rows.proofs.AnyRow.{row-whole, row-in-size}

-- The loop, at each number, past each, and past the last.
module _ {k : Kind} {ws : List ℕ} {at : ℕ} {start out : List ℕ} {i : ℕ} (l : Laying k ws at start out i) where
  module _ (p : ℕ) (h : i < size_of k ws) (place : p ≡ k.in_row (get_or ws k.key 0) i) where
    pub lay-there : Rowed k → Layable k ws at start → (row : List ℕ) → numbers_of row ≡ ws
        → (2 * p + 1 < length row) × (2 * (at + i) + 1 < length out)
    lay-there r ready row b = (
      omega (
        arith,
        r.inside (get_or ws k.key 0) i ready.fits h,
        place,
        ready.whole,
        ap length b,
        numbers-low row,
      ),
      omega (arith, numbers-low start, l.long, ready.room),
    )

    pub lay-next : (out' : List ℕ) → out' ≡ put_number out (at + i) (get_or ws p 0) → Laying k ws at start out' (i + 1)
    unfolding number_bytes
    lay-next out' e =
        let x : get_or (entry_in_row k ws) i 0 ≡ get_or ws p 0 =
        in-row-at k ws i h ∙ ap (λ (p : ℕ). get_or ws p 0) (sym place) in
        let deep : i < length (entry_in_row k ws) = omega (arith, in-row-length k ws) in
        let next : 2 * (at + (i + 1)) ≡ suc (suc (2 * (at + i))) = omega arith in
        let more : i + 1 ≡ suc i = omega arith in
        record {
          long = ap length e ∙ length-sets out (2 * (at + i)) (number_bytes (get_or ws p 0 ∷ [])) ∙ l.long;
          left = rw (e, next, more, ← x) (sym (rw (drop-cons (entry_in_row k ws) i 0 deep)) ∙ l.left);
        }

  pub lay-done : size_of k ws ≤ i → out ≡ sets start (2 * at) (number_bytes (entry_in_row k ws))
  unfolding number_bytes
  lay-done h =
      let past : length (entry_in_row k ws) ≤ i = omega (arith, in-row-length k ws) in
      sym (rw (drop_of_length-le (entry_in_row k ws) past)) ∙ l.left

-- an entry that fits is laid
pub lay-is : (k : Kind) (ws : List ℕ) (at : ℕ) (out : List ℕ) → Rowed k → Layable k ws at out
    → sets out (2 * at) (number_bytes (entry_in_row k ws)) ≡ entry_laid k (row_in k ws) at out
lay-is k ws at out r ready =
    rw (
      row-whole k ws ready.whole,
      row-in-size k ws r.wide,
      le-leb (size_of k ws) k.width ready.fits,
      le-leb (at + size_of k ws) (length (numbers_of out)) ready.room,
      (in-row-taken k r ws ready.fits).1,
    )
