-- Document 02, T-07: a known spread beside document 01's s method, one limit or two, and the verdict on readings. Its
-- own words are quoted without the document. Definitions only.
use Rattle.std.specs.Prelude.{ℕ, ◌*◌, Bool, true, false, cond, ◌&&◌, ◌||◌, not, List, [], ◌∷◌, eqb, leb, ℤ, pos, ◌*ℤ◌}
use Rattle.std.specs.Prelude.{length}
use Rattle.std.specs.Int.Signed.{le_z, lt_z}
use Rattle.rules.specs.Refusals.{Answer, given, first_of, ◌gives◌, wrong_length, out_of_range}
use Rattle.rules.specs.Variables.{VariablesPlan, in_gauge, all_in_gauge, readings_of, sum_z, margin, accepts_readings}
use Rattle.rules.specs.Verdict.{Verdict}

-- How the spread is had: from the readings, by the s method; or it is known, in thousandths of a gauge unit.
pub data Spread : Type 0 where
  estimated : Spread
  known : ℕ → Spread

-- "accept exactly when 1,000,000 (nU − S) ≥ K · sigma · n, and likewise from below", of the margin
unfoldable pub within_sigma : ℕ → ℕ → ℕ → ℤ → Bool
within_sigma n k sigma m = le_z (pos (k * sigma * n)) (pos 1000000 *ℤ m)

-- does a side accept, seen from above or from below?
unfoldable pub side_accepts : Spread → Bool → VariablesPlan → ℤ → List ℤ → Bool
side_accepts estimated upper p limit xs = accepts_readings upper p limit xs
side_accepts (known sigma) upper p limit xs = within_sigma p.n p.k sigma (margin upper p.n (sum_z xs) limit)

-- The limits of a drawing: one, upper or lower; or both, the upper one first.
pub data Limits : Type 0 where
  one : Bool → ℤ → Limits
  both : ℤ → ℤ → Limits

-- What is looked up for them: n, and "a K each"; for one limit its K stands on both sides.
pub record SidesPlan : Type 0 where
  pub n : ℕ
  pub upper_k : ℕ
  pub lower_k : ℕ

abbrev pub sides_of : VariablesPlan → SidesPlan
sides_of p = record { n = p.n; upper_k = p.k; lower_k = p.k }

abbrev pub side_of : Bool → SidesPlan → VariablesPlan
side_of upper p = record { n = p.n; k = cond upper p.upper_k p.lower_k }

-- "accept only if both sides accept"
unfoldable pub accepts_limits : Spread → Limits → SidesPlan → List ℤ → Bool
accepts_limits m (one upper limit) p xs = side_accepts m upper (side_of upper p) limit xs
accepts_limits m (both upper lower) p xs =
    side_accepts m true (side_of true p) upper xs && side_accepts m false (side_of false p) lower xs

-- "sigma is a whole number 1 to 1,000"
unfoldable pub spread_in : Spread → Bool
spread_in estimated = true
spread_in (known sigma) = leb 1 sigma && leb sigma 1000

-- document 01: "Readings are gauge units from nominal, −1,000 to 1,000; so are limits"; of two, the lower is below the
-- upper
unfoldable pub limits_in : Limits → Bool
limits_in (one upper limit) = in_gauge limit
limits_in (both upper lower) = in_gauge upper && (in_gauge lower && lt_z lower upper)

-- a verdict on n readings: all are used, at the only stage; readings have no total
abbrev pub readings_verdict : ℕ → Bool → Verdict
readings_verdict n accepted = record { accepted = accepted; used = n; total = 0; stage = 1; stages = 1 }

-- 7 where there are not exactly n readings; then 9 for a reading, a limit or sigma out of range, or where the lower
-- limit is not below the upper
unfoldable pub judge_readings : Spread → Limits → SidesPlan → List ℕ → Answer Verdict
judge_readings m limits p bytes =
    first_of
    ((not (eqb (length bytes) (2 * p.n)) gives wrong_length)
    ∷ (not (all_in_gauge (readings_of bytes)) || not (spread_in m && limits_in limits) gives out_of_range)
    ∷ [])
    (given (readings_verdict p.n (accepts_limits m limits p (readings_of bytes))))
