-- Runs of bytes stored one behind the other.
-- Assumes nothing.
use Prim.Native.Nat.{ℕ, suc, ◌+◌}
use mathlib.Core.Path.{◌≡◌}
use mathlib.Core.List.{List, [], ◌∷◌, ◌++◌}
use native.Mathlib.Omega.{arith}
use lib.ListN.{length, set}
use lib.Seq.{sets}

pub sets-append : (out xs ys : List ℕ) (i : ℕ) → sets out i (xs ++ ys) ≡ sets (sets out i xs) (i + length xs) ys
sets-append out [] ys i = let e : i + 0 ≡ i = omega arith in rw e
sets-append out (x ∷ xs) ys i =
    let e : i + suc (length xs) ≡ suc i + length xs = omega arith in rw e (sets-append (set out i x) xs ys (suc i))
