-- An entry shown as a row: its numbers put at their places.
-- Assumes nothing.
use Prim.Native.Nat.{ℕ, suc, ◌+◌, ◌*◌, ◌≤◌, ◌<◌}
use mathlib.Core.Path.{◌≡◌, ap, ◌∙◌}
use mathlib.Core.List.{List, ◌++◌}
use native.Mathlib.Omega.{arith}
use lib.ListN.{length, get_or, drop, replicate, length-append, length-replicate}
use lib.Seq.{drop_at}
use Rattle.rules.specs.Numbers.{numbers_of, number_bytes}
use Rattle.rules.specs.Book.{Kind, size_of}
use Rattle.rules.specs.Writing.{filled, row_of}
use Rattle.rules.proofs.Numbers.{numbers-low, bytes-twice}
use Rattle.rules.proofs.RowLaws.{Rowed, filled-length}
use Rattle.rows.specs.Paper.{put_number, Showing}
use Rattle.rows.proofs.Stores.{put-among, zero-bytes}

-- a row whose bytes are 0, and what follows them
module _ (k : Kind) (start row : List ℕ) (blank : row ≡ replicate (2 * k.width) 0 ++ drop (2 * k.width) start) where
  pub rest-kept : drop (2 * k.width) row ≡ drop (2 * k.width) start
  rest-kept = ap (drop n) blank ∙ drop_at (replicate n 0) (drop n start) n (length-replicate n 0)
    where
      n : ℕ
      n = 2 * k.width

  -- The loop starts from it.
  pub show-opens : (ws : List ℕ) → Showing k ws (drop (2 * k.width) row) row 0
  unfolding filled
  show-opens ws = record { shown = blank ∙ rw (zero-bytes k.width, rest-kept) }

-- .. at each number, past each, and past the last.
module _ {k : Kind} {ws rest row : List ℕ} {i : ℕ} (s : Showing k ws rest row i) where
  module _ (r : Rowed k) (fits : size_of k ws ≤ k.width) (p : ℕ) (h : i < size_of k ws)
      (place : p ≡ k.in_row (get_or ws k.key 0) i) where
    inside : p < length (filled k ws i)
    inside = omega (arith, r.inside (get_or ws k.key 0) i fits h, filled-length k ws i)

    pub show-there : (e : List ℕ) → numbers_of e ≡ ws → size_of k ws ≤ length ws
        → (2 * i + 1 < length e) × (2 * p + 1 < length row)
    show-there e b whole = (
      omega (arith, ap length b, numbers-low e),
      omega (
        arith,
        inside,
        ap length s.shown,
        length-append (number_bytes (filled k ws i)) rest,
        bytes-twice (filled k ws i),
      ),
    )

    pub show-next : (row' : List ℕ) → row' ≡ put_number row p (get_or ws i 0) → Showing k ws rest row' (i + 1)
    unfolding filled
    show-next row' e =
        let more : i + 1 ≡ suc i = omega arith in
        record {
          shown =
              e ∙ ap (λ (b : List ℕ). put_number b p (get_or ws i 0)) s.shown
              ∙ put-among (filled k ws i) rest p (get_or ws i 0) inside ∙ rw (more, ← place);
        }

  pub show-done : i ≡ size_of k ws → row ≡ number_bytes (row_of k ws) ++ rest
  unfolding row_of
  show-done e = s.shown ∙ rw e
