-- Either method from the sums of raised readings.
-- Assumes nothing.
use Prim.Native.Nat.{ℕ, ◌+◌, ◌*◌, ◌-◌, ◌≤◌}
use mathlib.Core.Path.{◌≡◌, refl, sym, ◌∙◌}
use mathlib.Core.Bool.{Bool, true, false}
use mathlib.Core.List.{List}
use lib.IntN.{ℤ, pos, ◌-ℤ◌}
use lib.Dec.{leb}
use Rattle.rules.specs.Variables.{VariablesPlan, sum_z, squares_z, spread, margin, within_spread, accepts_readings}
use Rattle.rules.specs.Limits.{Spread, estimated, known, Limits, one, both, SidesPlan, side_of, side_accepts}
use Rattle.rules.specs.Limits.{accepts_limits}
use Rattle.rules.proofs.Diff.{Diff, diff-of, as-difference}
use Rattle.rules.proofs.Readings.{spread-is, upper-is, lower-is, weighed}
use Rattle.gauge.specs.Raised.{sum_from, squares_from, within_by, side_from, JudgesSide, limits_from}

module _ (n t : ℕ) where
  from-spread : (q : ℕ) → Diff (spread n (sum_from n t) (squares_from n t q)) (n * q) (t * t)
  from-spread q = spread-is n t _ (diff-of t (1000 * n)) q _ (diff-of (q + 1000000 * n) (2000 * t))

  pub spread-from : (q : ℕ) → spread n (sum_from n t) (squares_from n t q) ≡ pos (n * q) -ℤ pos (t * t)
  spread-from q = as-difference (from-spread q)

  -- .. and the margins, of a limit that is u less 1,000
  module _ (u : ℕ) (limit : ℤ) (z : limit ≡ pos u -ℤ pos 1000) where
    pub upper-margin : pos (n * u) -ℤ pos t ≡ margin true n (sum_from n t) limit
    upper-margin = rw z (sym (as-difference (upper-is n t _ (diff-of t (1000 * n)) u _ (diff-of u 1000))))

    pub lower-margin : pos t -ℤ pos (n * u) ≡ margin false n (sum_from n t) limit
    lower-margin = rw z (sym (as-difference (lower-is n t _ (diff-of t (1000 * n)) u _ (diff-of u 1000))))

  pub weighed-from : (k high low q : ℕ) → low ≤ high
      → within_spread n k (pos high -ℤ pos low) (spread n (sum_from n t) (squares_from n t q))
      ≡ leb (k * k * n * (n * q)) (1000000 * ((high - low) * (high - low)) * (n - 1) + k * k * n * (t * t))
  weighed-from k high low q l =
      weighed n k high low (n * q) (t * t) _ _ (diff-of high low) (from-spread q) l

-- a side, from its margin: `u` is the limit plus 1,000
module _ (m : Spread) (n k t q u : ℕ) (limit : ℤ) (z : limit ≡ pos u -ℤ pos 1000) where
  -- that of an upper limit ..
  pub upper-side : within_by m n k (pos (n * u) -ℤ pos t) (spread n (sum_from n t) (squares_from n t q))
      ≡ side_from m true (record { n = n; k = k }) limit t q
  upper-side = rw (upper-margin n t u limit z) refl

  -- .. and of a lower one
  pub lower-side : within_by m n k (pos t -ℤ pos (n * u)) (spread n (sum_from n t) (squares_from n t q))
      ≡ side_from m false (record { n = n; k = k }) limit t q
  lower-side = rw (lower-margin n t u limit z) refl

-- a side of a plan, by a margin that judges it; `local` is the limit as the code holds it
pub side-judged : (m : Spread) (upper : Bool) (p : SidesPlan) (t q : ℕ) {n k : ℕ} {limit local v : ℤ} {r : Bool}
    → local ≡ limit → n ≡ p.n → k ≡ (side_of upper p).k → JudgesSide upper n k local t q v
    → r ≡ within_by m n k v (spread n (sum_from n t) (squares_from n t q))
    → r ≡ side_from m upper (side_of upper p) limit t q
side-judged m upper p t q held same its judges tested = tested ∙ judges m ∙ rw (held, same, its) refl

-- with S and W themselves
module _ (m : Spread) (xs : List ℤ) (t q : ℕ) where
  side-from : (upper : Bool) (p : VariablesPlan) (limit : ℤ) → sum_z xs ≡ sum_from p.n t
      → squares_z xs ≡ squares_from p.n t q → side_from m upper p limit t q ≡ side_accepts m upper p limit xs
  unfolding side_accepts accepts_readings
  side-from = by-method m
    where
      by-method : (m : Spread) (upper : Bool) (p : VariablesPlan) (limit : ℤ) → sum_z xs ≡ sum_from p.n t
          → squares_z xs ≡ squares_from p.n t q → side_from m upper p limit t q ≡ side_accepts m upper p limit xs
      by-method estimated upper p limit hs hw = rw (hs, hw)
      by-method (known sigma) upper p limit hs hw = rw hs

  pub limits-from : (limits : Limits) (p : SidesPlan) → sum_z xs ≡ sum_from p.n t
      → squares_z xs ≡ squares_from p.n t q
      → limits_from m limits p t q ≡ accepts_limits m limits p xs
  unfolding accepts_limits
  limits-from (one upper limit) p hs hw = side-from upper (side_of upper p) limit hs hw
  limits-from (both upper lower) p hs hw =
      rw (side-from true (side_of true p) upper hs hw, side-from false (side_of false p) lower hs hw)
