-- What each kind keeps of its rows, whatever its number: any number from 3 on is of a kind laid out as the fourth.
-- Assumes nothing.
use Prim.Native.Nat.{ℕ, ◌≤◌, ◌<◌}
use mathlib.Core.Path.{◌≡◌, refl, ap, ◌∙◌}
use mathlib.Core.Bool.{true, false}
use mathlib.Core.List.{List}
use native.Mathlib.Omega.{arith}
use borrow.Author.Tests.{le-leb, lt-leb}
use lib.Dec.{leb}
use lib.ListN.{length, length-take}
use lib.Seq.{get_or-take, length-take-le}
use Rattle.rules.specs.Book.{Kind, kind_at, size_of}
use Rattle.rules.proofs.RowLaws.{Rowed, rowed}
use Rattle.entry.proofs.AnyKind.{by-kind}
use Rattle.rows.specs.Paper.{row_in}

pub any-rowed : (n : ℕ) → Rowed (kind_at n)
any-rowed =
    by-kind (λ n k. Rowed k) (rowed 0 (omega arith)) (rowed 1 (omega arith)) (rowed 2 (omega arith))
    (λ n l. rowed 3 (omega arith))

-- a row that is not staged has the entry's numbers as they stand, and no others
pub plain-place : (m i n : ℕ) → (n ≡ 1 → ⊥) → (kind_at n).in_row m i ≡ i
plain-place m i =
    by-kind (λ n k. (n ≡ 1 → ⊥) → k.in_row m i ≡ i) (λ h. refl) (λ h. absurd (h refl)) (λ h. refl) (λ n l h. refl)

pub plain-size : (m n : ℕ) → (n ≡ 1 → ⊥) → (kind_at n).size m ≡ (kind_at n).width
plain-size m =
    by-kind (λ n k. (n ≡ 1 → ⊥) → k.size m ≡ k.width) (λ h. refl) (λ h. absurd (h refl)) (λ h. refl) (λ n l h. refl)

-- a place by the number after the key
pub placed : (k : Kind) (i : ℕ) {p m n : ℕ} → p ≡ k.in_row m i → m ≡ n → p ≡ k.in_row n i
placed k i q e = q ∙ ap (λ (m : ℕ). k.in_row m i) e

-- the row that a stretch begins with: is it whole, and how many numbers its entry has
module _ (k : Kind) (ws : List ℕ) where
  pub row-whole : k.width ≤ length ws → leb k.width (length (row_in k ws)) ≡ true
  row-whole h = le-leb k.width (length (row_in k ws)) (rw (length-take-le k.width ws h) (omega arith))

  pub row-cut : length ws < k.width → leb k.width (length (row_in k ws)) ≡ false
  row-cut h = lt-leb k.width (length (row_in k ws)) (rw (length-take k.width ws) (omega arith))

  pub row-in-size : k.key < k.width → size_of k (row_in k ws) ≡ size_of k ws
  row-in-size h = ap k.size (get_or-take k.width ws k.key 0 h)
