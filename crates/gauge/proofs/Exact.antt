-- Whole numbers that an i64 and an f64 hold without loss.
-- Assumes nothing.
use mathlib.Core.Path.{◌≡◌, refl, ◌∙◌}
use Prim.Native.Nat.{ℕ, ◌≤◌, ◌^◌}
use native.Mathlib.Omega.{arith}
use lib.Dec.{T, le→leb, lt→ltb}
use lib.IntN.{ℤ, pos, negsuc, ◌-ℤ◌}
use lib.Signed.{mag}
use lib.Ieee.{binary64, in_float}
use mir.Syntax.{w64}
use mir.Val.{SFits, to_z, of_z}
use mir.ValLaws.{to_z-of_z}
use Rattle.rules.proofs.Diff.{Diff, diff-of}

small-by : (z : ℤ) (a b m : ℕ) → Diff z a b → a ≤ m → b ≤ m → mag z ≤ m
small-by (pos n) a b m h p q = omega arith
small-by (negsuc n) a b m h p q = omega arith

small : (a b : ℕ) → a ≤ 10000000000 → b ≤ 10000000000 → mag (pos a -ℤ pos b) ≤ 10000000000
small a b p q = small-by (pos a -ℤ pos b) a b 10000000000 (diff-of a b) p q

fits-small : (z : ℤ) → mag z ≤ 10000000000 → SFits w64 z
fits-small z h = omega arith

float-small : (z : ℤ) → mag z ≤ 10000000000 → T (in_float binary64 z)
unfolding in_float
float-small (pos n) h = le→leb n (2 ^ 53) (omega arith)
float-small (negsuc n) h = lt→ltb n (2 ^ 53) (omega arith)

-- a natural number up to ten thousand million is an f64 ..
pub float-nat : (n : ℕ) → n ≤ 10000000000 → T (in_float binary64 (pos n))
float-nat n h = float-small (pos n) h

same : (a : ℕ) → a ≤ 10000000000 → to_z w64 a ≡ pos a
same a h = to_z-of_z w64 (pos a) (fits-small (pos a) h)

module _ (a b : ℕ) (p : a ≤ 10000000000) (q : b ≤ 10000000000) where
  sub-fits : SFits w64 (to_z w64 a -ℤ to_z w64 b)
  sub-fits = rw (same a p, same b q) (fits-small _ (small a b p q))

  back : to_z w64 (of_z w64 (to_z w64 a -ℤ to_z w64 b)) ≡ pos a -ℤ pos b
  back = to_z-of_z w64 (to_z w64 a -ℤ to_z w64 b) sub-fits ∙ rw (same a p, same b q) refl

  -- .. and so is the difference of two, which an i64 holds
  pub sub-float : T (in_float binary64 (to_z w64 (of_z w64 (to_z w64 a -ℤ to_z w64 b))))
  sub-float = rw back (float-small (pos a -ℤ pos b) (small a b p q))
