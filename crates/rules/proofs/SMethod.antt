-- The s method: a negative margin never accepts, equality accepts, and equal readings need only the first part; the
-- screen shows a single reading's mean alone; a reading out of range by its place.
-- Assumes nothing.
use Prim.Native.Nat.{ℕ, zero, suc, ◌+◌, ◌*◌, ◌-◌, ◌≤◌, ◌<◌, suc-le-suc}
use mathlib.Core.Path.{◌≡◌, refl, sym, ◌∙◌}
use mathlib.Core.Logic.{◌↔◌}
use mathlib.Core.Bool.{Bool, true, false, ◌&&◌, false≢true, and-true, and-false}
use mathlib.Core.List.{List, [], ◌∷◌}
use native.Mathlib.Nat.{mul-add, mul_assoc, mul_left_comm, le_refl, le_of_suc-le-suc, suc-mul}
use native.Mathlib.Omega.{arith}
use borrow.Author.Tests.{le-leb, ne_eqb}
use lib.IntN.{ℤ, pos, negsuc, ◌*ℤ◌}
use lib.Signed.{le_z}
use lib.ListN.{length, get_or, replicate}
use Rattle.rules.specs.Variables.{VariablesPlan, in_gauge, all_in_gauge, sum_z, squares_z, spread, margin}
use Rattle.rules.specs.Variables.{within_spread}
use Rattle.rules.specs.Variables.{accepts_readings}
use Rattle.rules.specs.Screen.{mean, mean_and_variance, quotient, shown_of}
use Rattle.rules.specs.Judging.{OutAt}
use Rattle.rules.proofs.Bools.{true-unless}
use Rattle.rules.proofs.Diff.{Diff, move, diff-pos, diff-add, diff-minus, diff-mul, diff-unique}

-- A negative margin never accepts, however large its square.
pub negative-rejects : (n k m : ℕ) (v : ℤ) → within_spread n k (negsuc m) v ≡ false
unfolding within_spread
negative-rejects n k m v = refl

le-self : (z : ℤ) → le_z z z ≡ true
le-self (pos a) = le-leb a a (le_refl a)
le-self (negsuc a) = le-leb a a (le_refl a)

-- "Equality accepts": both tests are met where their sides are equal.
pub equality-accepts : (n k : ℕ) (m v : ℤ) → le_z (pos 0) m ≡ true
    → pos (k * k * n) *ℤ v ≡ pos 1000000 *ℤ (m *ℤ m) *ℤ pos (n - 1) → within_spread n k m v ≡ true
unfolding within_spread
equality-accepts n k m v h e = rw (h, e) (le-self (pos 1000000 *ℤ (m *ℤ m) *ℤ pos (n - 1)))

-- Equal readings have no spread ..
same-sum : (n : ℕ) {x : ℤ} {a b : ℕ} → Diff x a b → Diff (sum_z (replicate n x)) (n * a) (n * b)
unfolding sum_z
same-sum zero h = move _ _ (diff-pos 0) (omega arith)
same-sum (suc n) h = move _ _ (diff-add h (same-sum n h)) (simp suc-mul (omega arith))

same-squares : (n : ℕ) {x : ℤ} {a b : ℕ} → Diff x a b
    → Diff (squares_z (replicate n x)) (n * (a * a + b * b)) (n * (a * b + b * a))
unfolding squares_z
same-squares zero h = move _ _ (diff-pos 0) (omega arith)
same-squares (suc n) h = move _ _ (diff-add (diff-mul h h) (same-squares n h)) (simp suc-mul (omega arith))

-- n (n x²) = (n x)², of x as a difference
no-spread : (n a b : ℕ)
    → n * (n * (a * a + b * b)) + 0 * (n * (a * b + b * a)) + (n * a * (n * b) + n * b * (n * a))
    ≡ n * (n * (a * b + b * a)) + 0 * (n * (a * a + b * b)) + (n * a * (n * a) + n * b * (n * b))
no-spread n a b = simp (mul-add, mul_assoc, mul_left_comm a n, mul_left_comm b n) (omega arith)

equal-as : (n : ℕ) {x : ℤ} {a b : ℕ} → Diff x a b
    → spread n (sum_z (replicate n x)) (squares_z (replicate n x)) ≡ pos 0
unfolding spread
equal-as n {a = a} {b = b} h =
    diff-unique
    (diff-minus (diff-mul (diff-pos n) (same-squares n h)) (diff-mul (same-sum n h) (same-sum n h)))
    (move _ _ (diff-pos 0) (omega (arith, no-spread n a b)))

pub equal-spread : (n : ℕ) (x : ℤ) → spread n (sum_z (replicate n x)) (squares_z (replicate n x)) ≡ pos 0
equal-spread n (pos a) = equal-as n (diff-pos a)
equal-spread n (negsuc b) = equal-as n {a = 0} {b = suc b} (omega arith)

-- .. and then the second part always holds.
square-fits : (n k : ℕ) (m : ℤ) → le_z (pos (k * k * n) *ℤ pos 0) (pos 1000000 *ℤ (m *ℤ m) *ℤ pos (n - 1)) ≡ true
square-fits n k (pos a) = le-leb (k * k * n * 0) _ (omega arith)
square-fits n k (negsuc a) = le-leb (k * k * n * 0) _ (omega arith)

-- "equal readings need only the first part"
pub equal-readings : (upper : Bool) (p : VariablesPlan) (limit x : ℤ)
    → accepts_readings upper p limit (replicate p.n x)
    ≡ le_z (pos 0) (margin upper p.n (sum_z (replicate p.n x)) limit)
unfolding accepts_readings within_spread
equal-readings upper p limit x =
    let m : ℤ = margin upper p.n (sum_z (replicate p.n x)) limit in
    rw (equal-spread p.n x, square-fits p.n p.k m) (and-true (le_z (pos 0) m))

-- "A single reading has a mean and no variance."
pub one-reading : (s w : ℤ) → shown_of 1 s w ≡ mean (quotient s 1)
unfolding shown_of
one-reading s w = refl

pub more-readings : (n : ℕ) (s w : ℤ) → 2 ≤ n
    → shown_of n s w ≡ mean_and_variance (quotient s n) (quotient (spread n s w) (n * (n - 1)))
unfolding shown_of
more-readings n s w h = rw (ne_eqb n 1 (λ e. omega arith))

pub out-means : (xs : List ℤ) → all_in_gauge xs ≡ false → OutAt xs
unfolding all_in_gauge
out-means [] e = absurd (false≢true (sym e))
out-means (x ∷ xs) e = on (in_gauge x) refl e (out-means xs)
  where
    on : (t : Bool) → in_gauge x ≡ t → (t && all_in_gauge xs) ≡ false → (all_in_gauge xs ≡ false → OutAt xs)
        → OutAt (x ∷ xs)
    on true i f more =
        let m = more f in
        record { place = suc m.place; there = suc-le-suc m.there; out = m.out }
    on false i f more = record { place = 0; there = omega arith; out = i }

out-at : (xs : List ℤ) (k : ℕ) → k < length xs → in_gauge (get_or xs k (pos 0)) ≡ false → all_in_gauge xs ≡ false
unfolding all_in_gauge
out-at [] k h o = absurd (omega arith)
out-at (x ∷ xs) zero h o = rw o
out-at (x ∷ xs) (suc k) h o = rw (out-at xs k (le_of_suc-le-suc h) o) (and-false (in_gauge x))

pub out-when : (xs : List ℤ) → OutAt xs → all_in_gauge xs ≡ false
out-when xs o = out-at xs o.place o.there o.out

-- No reading is out of range.
pub all-in : (xs : List ℤ) → (all_in_gauge xs ≡ true) ↔ (OutAt xs → ⊥)
all-in xs =
    (λ e o. false≢true (sym (out-when xs o) ∙ e), λ none. true-unless (all_in_gauge xs) (λ e. none (out-means xs e)))
