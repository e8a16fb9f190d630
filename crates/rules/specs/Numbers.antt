-- Lent memory: bytes; a number in it is 16 bits, little-endian (a reading: two's complement). Definitions only.
use Rattle.std.specs.Prelude.{ℕ, ◌+◌, ◌*◌, ◌/◌, ◌%◌, Bool, cond, List, [], ◌∷◌, ltb, eqb, ℤ, pos, ◌-ℤ◌, length}

-- the whole numbers of a stretch of bytes; a last half number is none
unfoldable pub numbers_of : List ℕ → List ℕ
numbers_of [] = []
numbers_of (low ∷ []) = []
numbers_of (low ∷ high ∷ rest) = (low + 256 * high) ∷ numbers_of rest

-- numbers as they stand in lent memory
unfoldable pub number_bytes : List ℕ → List ℕ
number_bytes [] = []
number_bytes (x ∷ xs) = (x % 256) ∷ (x / 256) ∷ number_bytes xs

-- is a last number half there?
abbrev pub half_left : List ℕ → Bool
half_left bytes = eqb (length bytes % 2) 1

-- a number as a reading, in two's complement
unfoldable pub signed_of : ℕ → ℤ
signed_of v = cond (ltb v 32768) (pos v) (pos v -ℤ pos 65536)

unfoldable pub sum_of : List ℕ → ℕ
sum_of [] = 0
sum_of (x ∷ xs) = x + sum_of xs
