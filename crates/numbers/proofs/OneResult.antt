-- `raised_reading` promises `pos r ≡ ..`, which admits a single r.
-- Assumes nothing.
use Prim.Native.Nat.{ℕ}
use mathlib.Core.Path.{◌≡◌}
use lib.IntN.{ℤ, pos}

pub raised-one : (z : ℤ) (a b : ℕ) → pos a ≡ z → pos b ≡ z → a ≡ b
raised-one z a b p q = cc
