-- Document 01, 'Variables, s method', the screen: mean and variance in f64. Definitions only.
use Rattle.std.specs.Prelude.{ℕ, ◌*◌, ◌-◌, ◌/◌, cond, ◌||◌, not, List, [], ◌∷◌, eqb, ltb, ℤ, pos, length, Float}
use Rattle.std.specs.Float.{binary64}
use Rattle.std.specs.Float.Ieee.{div, of_int}
use Rattle.rules.specs.Refusals.{Answer, given, first_of, ◌gives◌, wrong_length, out_of_range}
use Rattle.rules.specs.Numbers.{half_left}
use Rattle.rules.specs.Variables.{all_in_gauge, readings_of, sum_z, squares_z, spread}

-- "each a single rounded division of exact whole numbers"
unfoldable pub quotient : ℤ → ℕ → Float
quotient a b = div binary64 (of_int binary64 a) (of_int binary64 (pos b))

-- "the mean S/n and the variance (nW − S²)/(n(n − 1))"
pub data Shown : Type 0 where
  mean : Float → Shown
  mean_and_variance : Float → Float → Shown

-- "A single reading has a mean and no variance."
unfoldable pub shown_of : ℕ → ℤ → ℤ → Shown
shown_of n s w =
    cond (eqb n 1) (mean (quotient s n)) (mean_and_variance (quotient s n) (quotient (spread n s w) (n * (n - 1))))

-- "for the screen, 0 or over 50 readings" is 7, as is half a reading; 9 for a reading out of range
unfoldable pub screen : List ℕ → Answer Shown
screen bytes =
    first_of
    ((half_left bytes || (eqb (length bytes) 0 || ltb 100 (length bytes)) gives wrong_length)
    ∷ (not (all_in_gauge (readings_of bytes)) gives out_of_range)
    ∷ [])
    (given (shown_of (length bytes / 2) (sum_z (readings_of bytes)) (squares_z (readings_of bytes))))
