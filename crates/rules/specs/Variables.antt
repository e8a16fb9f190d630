-- Document 01, 'Variables, s method': upper and lower limit, in whole numbers. Definitions only.
use Rattle.std.specs.Prelude.{ℕ, ◌*◌, ◌-◌, Bool, true, cond, ◌&&◌, List, [], ◌∷◌, map, ℤ, pos, negsuc, ◌+ℤ◌, ◌-ℤ◌, ◌*ℤ◌}
use Rattle.std.specs.Int.Signed.{le_z}
use Rattle.rules.specs.Numbers.{numbers_of, signed_of}

-- "Readings are gauge units from nominal, −1,000 to 1,000; so are limits."
unfoldable pub in_gauge : ℤ → Bool
in_gauge x = le_z (negsuc 999) x && le_z x (pos 1000)

unfoldable pub all_in_gauge : List ℤ → Bool
all_in_gauge [] = true
all_in_gauge (x ∷ xs) = in_gauge x && all_in_gauge xs

abbrev pub readings_of : List ℕ → List ℤ
readings_of bytes = map signed_of (numbers_of bytes)

-- "n is 2 to 50, K (k in thousandths) is 1 to 4,000."
pub record VariablesPlan : Type 0 where
  pub n : ℕ
  pub k : ℕ

-- "sum S and sum of squares W"
unfoldable pub sum_z : List ℤ → ℤ
sum_z [] = pos 0
sum_z (x ∷ xs) = x +ℤ sum_z xs

unfoldable pub squares_z : List ℤ → ℤ
squares_z [] = pos 0
squares_z (x ∷ xs) = x *ℤ x +ℤ squares_z xs

-- nW − S²
unfoldable pub spread : ℕ → ℤ → ℤ → ℤ
spread n s w = pos n *ℤ w -ℤ s *ℤ s

-- nU − S; "For a lower limit L use S − nL."
unfoldable pub margin : Bool → ℕ → ℤ → ℤ → ℤ
margin upper n s limit = cond upper (pos n *ℤ limit -ℤ s) (s -ℤ pos n *ℤ limit)

-- "accept exactly when nU − S ≥ 0 and 1,000,000 (nU − S)² (n − 1) ≥ K² n (nW − S²)"
unfoldable pub within_spread : ℕ → ℕ → ℤ → ℤ → Bool
within_spread n k m v = le_z (pos 0) m && le_z (pos (k * k * n) *ℤ v) (pos 1000000 *ℤ (m *ℤ m) *ℤ pos (n - 1))

unfoldable pub accepts_readings : Bool → VariablesPlan → ℤ → List ℤ → Bool
accepts_readings upper p limit xs =
    within_spread p.n p.k (margin upper p.n (sum_z xs) limit) (spread p.n (sum_z xs) (squares_z xs))
