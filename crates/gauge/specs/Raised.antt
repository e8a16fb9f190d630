-- What the code counts: each reading plus 1,000, so that it is a natural number. Definitions only.
use Rattle.std.specs.Prelude.{ℕ, ◌+◌, ◌*◌, ◌/◌, ◌≡◌, Bool, true, false, ◌&&◌, List, ℤ, pos, ◌-ℤ◌, length}
use Rattle.rules.specs.Variables.{VariablesPlan, all_in_gauge, readings_of, sum_z, squares_z, spread, margin}
use Rattle.rules.specs.Variables.{within_spread}
use Rattle.rules.specs.Limits.{Spread, estimated, known, Limits, one, both, SidesPlan, side_of, within_sigma}

-- S and W of n readings, from the sum t of the raised readings and the sum q of their squares
abbrev pub sum_from : ℕ → ℕ → ℤ
sum_from n t = pos t -ℤ pos (1000 * n)

abbrev pub squares_from : ℕ → ℕ → ℕ → ℤ
squares_from n t q = pos (q + 1000000 * n) -ℤ pos (2000 * t)

-- What one pass over the bytes of at most 50 readings in range tells: n, t and q.
pub record Passed (bytes : List ℕ) (n t q : ℕ) : Type 0 where
  pub count : n ≡ length bytes / 2
  pub range : all_in_gauge (readings_of bytes) ≡ true
  pub sum : sum_z (readings_of bytes) ≡ sum_from n t
  pub squares : squares_z (readings_of bytes) ≡ squares_from n t q

-- the test of a method, of a margin and of nW − S²
abbrev pub within_by : Spread → ℕ → ℕ → ℤ → ℤ → Bool
within_by estimated n k m v = within_spread n k m v
within_by (known sigma) n k m v = within_sigma n k sigma m

-- whether a side accepts readings with the sums t and q, and whether the limits do
abbrev pub side_from : Spread → Bool → VariablesPlan → ℤ → ℕ → ℕ → Bool
side_from m upper p limit t q =
    within_by m p.n p.k (margin upper p.n (sum_from p.n t) limit)
    (spread p.n (sum_from p.n t) (squares_from p.n t q))

abbrev pub limits_from : Spread → Limits → SidesPlan → ℕ → ℕ → Bool
limits_from m (one upper limit) p t q = side_from m upper (side_of upper p) limit t q
limits_from m (both upper lower) p t q =
    side_from m true (side_of true p) upper t q && side_from m false (side_of false p) lower t q

-- a margin by which either method judges a side as by its limit, of n readings with the sums t and q
abbrev pub JudgesSide : Bool → ℕ → ℕ → ℤ → ℕ → ℕ → ℤ → Type 0
JudgesSide upper n k limit t q m =
    (method : Spread) → within_by method n k m (spread n (sum_from n t) (squares_from n t q))
    ≡ side_from method upper (record { n = n; k = k }) limit t q
