-- The s method, a known spread and the screen: the sums of one reading more, each test in natural numbers, where an
-- integer is a difference of two, and each answer.
-- Assumes nothing.
use Prim.Native.Nat.{ℕ, ◌+◌, ◌*◌, ◌-◌, ◌/◌, ◌%◌, ◌≤◌, ◌<◌}
use mathlib.Core.Path.{◌≡◌, refl, sym, ◌∙◌}
use mathlib.Core.Bool.{Bool, true, false, ◌&&◌, not, true≢false, false≢true}
use mathlib.Core.List.{List, [], ◌∷◌, ◌++◌}
use native.Mathlib.Nat.{mul-add, mul_comm, mul_left_comm, mul_assoc}
use native.Mathlib.Omega.{arith}
use borrow.Author.Tests.{le-leb, lt-leb, lt-ltb, le-ltb, eq-eqb, ne_eqb}
use lib.Dec.{leb}
use lib.IntN.{ℤ, pos, negsuc, ◌+ℤ◌, ◌*ℤ◌, +ℤ_idl, +ℤ_idr, +ℤ_assoc}
use lib.ListN.{length}
use Rattle.rules.specs.Refusals.{Answer, refused, given, ◌gives◌, first_of, no_plan, wrong_length, out_of_range}
use Rattle.rules.specs.Verdict.{Verdict}
use Rattle.rules.specs.Book.{could_hold, variables}
use Rattle.rules.specs.Variables.{in_gauge, all_in_gauge, readings_of, sum_z, squares_z, spread, margin}
use Rattle.rules.specs.Variables.{within_spread}
use Rattle.rules.specs.Limits.{Spread, Limits, SidesPlan, side_of, within_sigma, accepts_limits, spread_in, limits_in}
use Rattle.rules.specs.Limits.{readings_verdict, judge_readings}
use Rattle.rules.specs.Screen.{shown_of, screen}
use Rattle.rules.specs.Entries.{variables_entry, readings_sample}
use Rattle.rules.proofs.Diff.{Diff, move, diff-pos, diff-minus, diff-mul, diff-le, diff-unique, leb-same}

pub sum-snoc : (xs : List ℤ) (x : ℤ) → sum_z (xs ++ x ∷ []) ≡ sum_z xs +ℤ x
unfolding sum_z
sum-snoc [] x = +ℤ_idr x ∙ sym (+ℤ_idl x)
sum-snoc (y ∷ ys) x = rw (sum-snoc ys x) (sym (+ℤ_assoc y (sum_z ys) x))

pub squares-snoc : (xs : List ℤ) (x : ℤ) → squares_z (xs ++ x ∷ []) ≡ squares_z xs +ℤ x *ℤ x
unfolding squares_z
squares-snoc [] x = +ℤ_idr (x *ℤ x) ∙ sym (+ℤ_idl (x *ℤ x))
squares-snoc (y ∷ ys) x = rw (squares-snoc ys x) (sym (+ℤ_assoc (y *ℤ y) (squares_z ys) (x *ℤ x)))

negative : Diff (negsuc 999) 0 1000
negative = omega arith

-- where an integer stands to the range
module _ {z : ℤ} (a b : ℕ) (h : Diff z a b) where
  gauge-is : in_gauge z ≡ (leb (0 + b) (a + 1000) && leb (a + 0) (1000 + b))
  unfolding in_gauge
  gauge-is = rw (diff-le negative h, diff-le h (diff-pos 1000)) refl

  pub gauge-in : b ≤ a + 1000 → a ≤ b + 1000 → in_gauge z ≡ true
  gauge-in l u = gauge-is ∙ rw (le-leb (0 + b) (a + 1000) (omega arith), le-leb (a + 0) (1000 + b) (omega arith)) refl

  pub gauge-below : a + 1000 < b → in_gauge z ≡ false
  gauge-below l = gauge-is ∙ rw (lt-leb (0 + b) (a + 1000) (omega arith)) refl

  pub gauge-above : b + 1000 < a → in_gauge z ≡ false
  gauge-above u = gauge-is ∙ rw (le-leb (0 + b) (a + 1000) (omega arith), lt-leb (a + 0) (1000 + b) (omega arith)) refl

-- nW − S², nU − S and S − nL do not change where readings and limit are all 1,000 more
module _ (n t : ℕ) (s : ℤ) (hs : Diff s t (1000 * n)) where
  pub spread-is : (q : ℕ) (w : ℤ) → Diff w (q + 1000000 * n) (2000 * t) → Diff (spread n s w) (n * q) (t * t)
  unfolding spread
  spread-is q w hw =
      move (n * q) (t * t) (diff-minus (diff-mul (diff-pos n) hw) (diff-mul hs hs))
      (simp (mul-add, mul_assoc, mul_left_comm n, mul_left_comm t, mul_comm t n) (omega arith))

  pub upper-is : (u : ℕ) (limit : ℤ) → Diff limit u 1000 → Diff (margin true n s limit) (n * u) t
  unfolding margin
  upper-is u limit h = move (n * u) t (diff-minus (diff-mul (diff-pos n) h) hs) (omega arith)

  pub lower-is : (u : ℕ) (limit : ℤ) → Diff limit u 1000 → Diff (margin false n s limit) t (n * u)
  unfolding margin
  lower-is u limit h = move t (n * u) (diff-minus hs (diff-mul (diff-pos n) h)) (omega arith)

module _ (n k high low a b : ℕ) (m v : ℤ) (hm : Diff m high low) where
  -- "nU − S ≥ 0" fails
  pub rejected-by : high < low → within_spread n k m v ≡ false
  unfolding within_spread
  rejected-by l = rw (diff-le (diff-pos 0) hm, lt-leb (0 + low) (high + 0) (omega arith)) refl

  -- where it holds, the second test is one of naturals
  pub weighed : Diff v a b → low ≤ high
      → within_spread n k m v ≡ leb (k * k * n * a) (1000000 * ((high - low) * (high - low)) * (n - 1) + k * k * n * b)
  unfolding within_spread
  weighed hv l =
      let d : m ≡ pos (high - low) = diff-unique hm (move high low (diff-pos (high - low)) (omega arith)) in
      let w = k * k * n in
      let r = 1000000 * ((high - low) * (high - low)) * (n - 1) in
      rw (d, le-leb 0 (high - low) (omega arith))
      (diff-le (diff-mul (diff-pos w) hv) (diff-pos r)
      ∙ leb-same (w * a + 0 * b + 0) (r + (w * b + 0 * a)) (w * a) (r + w * b) (omega arith) (omega arith))

-- .. and so is that of a known spread: 1,000,000 (nU − S) ≥ K · sigma · n, with no difference taken
pub within-sigma-is : (n k sigma high low : ℕ) (m : ℤ) → Diff m high low
    → within_sigma n k sigma m ≡ leb (k * sigma * n + 1000000 * low) (1000000 * high)
unfolding within_sigma
within-sigma-is n k sigma high low m hm =
    diff-le (diff-pos (k * sigma * n)) (diff-mul (diff-pos 1000000) hm)
    ∙ leb-same (k * sigma * n + (1000000 * low + 0 * high)) (1000000 * high + 0 * low + 0)
    (k * sigma * n + 1000000 * low) (1000000 * high) (omega arith) (omega arith)

-- each answer on a sample, by what is known where it is given
module _ (m : Spread) (limits : Limits) (p : SidesPlan) (bytes : List ℕ) where
  -- could a sound book hold the plan of a side?
  abbrev holds : Bool → Bool
  holds upper = could_hold variables (variables_entry (side_of upper p))

  either-refuses : (a b : Bool) (x : Answer Verdict) → (a && b) ≡ false
      → first_of ((not a gives no_plan) ∷ (not b gives no_plan) ∷ []) x ≡ refused no_plan 0
  either-refuses true true x h = absurd (true≢false h)
  either-refuses true false x h = refl
  either-refuses false b x h = refl

  neither-refuses : (a b : Bool) (x : Answer Verdict) → (a && b) ≡ true
      → first_of ((not a gives no_plan) ∷ (not b gives no_plan) ∷ []) x ≡ x
  neither-refuses true true x h = refl
  neither-refuses true false x h = absurd (false≢true h)
  neither-refuses false b x h = absurd (false≢true h)

  pub sample-unheld : (holds true && holds false) ≡ false → readings_sample m limits p bytes ≡ refused no_plan 0
  unfolding readings_sample
  sample-unheld h = either-refuses (holds true) (holds false) (judge_readings m limits p bytes) h

  module _ (h : (holds true && holds false) ≡ true) where
    on-plan : readings_sample m limits p bytes ≡ judge_readings m limits p bytes
    unfolding readings_sample
    on-plan = neither-refuses (holds true) (holds false) (judge_readings m limits p bytes) h

    pub sample-length : (length bytes ≡ 2 * p.n → ⊥) → readings_sample m limits p bytes ≡ refused wrong_length 0
    unfolding judge_readings
    sample-length e = on-plan ∙ rw (ne_eqb (length bytes) (2 * p.n) e) refl

    module _ (e : length bytes ≡ 2 * p.n) where
      pub sample-reading : all_in_gauge (readings_of bytes) ≡ false
          → readings_sample m limits p bytes ≡ refused out_of_range 0
      unfolding judge_readings
      sample-reading a = on-plan ∙ rw (eq-eqb (length bytes) (2 * p.n) e, a) refl

      module _ (a : all_in_gauge (readings_of bytes) ≡ true) where
        pub sample-sigma : spread_in m ≡ false → readings_sample m limits p bytes ≡ refused out_of_range 0
        unfolding judge_readings
        sample-sigma g = on-plan ∙ rw (eq-eqb (length bytes) (2 * p.n) e, a, g) refl

        module _ (s : spread_in m ≡ true) where
          pub sample-limits : limits_in limits ≡ false → readings_sample m limits p bytes ≡ refused out_of_range 0
          unfolding judge_readings
          sample-limits g = on-plan ∙ rw (eq-eqb (length bytes) (2 * p.n) e, a, s, g) refl

          pub sample-judged : limits_in limits ≡ true
              → readings_sample m limits p bytes
              ≡ given (readings_verdict p.n (accepts_limits m limits p (readings_of bytes)))
          unfolding judge_readings
          sample-judged g = on-plan ∙ rw (eq-eqb (length bytes) (2 * p.n) e, a, s, g) refl

module _ (bytes : List ℕ) where
  pub screen-half : length bytes % 2 ≡ 1 → screen bytes ≡ refused wrong_length 0
  unfolding screen
  screen-half h = rw (eq-eqb (length bytes % 2) 1 h) refl

  module _ (h : length bytes % 2 ≡ 1 → ⊥) where
    pub screen-none : length bytes ≡ 0 → screen bytes ≡ refused wrong_length 0
    unfolding screen
    screen-none e = rw (ne_eqb (length bytes % 2) 1 h, eq-eqb (length bytes) 0 e) refl

    module _ (e : length bytes ≡ 0 → ⊥) where
      pub screen-many : 100 < length bytes → screen bytes ≡ refused wrong_length 0
      unfolding screen
      screen-many m = rw (ne_eqb (length bytes % 2) 1 h, ne_eqb (length bytes) 0 e, lt-ltb 100 (length bytes) m) refl

      module _ (m : length bytes ≤ 100) where
        pub screen-reading : all_in_gauge (readings_of bytes) ≡ false → screen bytes ≡ refused out_of_range 0
        unfolding screen
        screen-reading a =
            rw (ne_eqb (length bytes % 2) 1 h, ne_eqb (length bytes) 0 e, le-ltb 100 (length bytes) m, a) refl

        pub screen-shows : all_in_gauge (readings_of bytes) ≡ true
            → screen bytes
            ≡ given (shown_of (length bytes / 2) (sum_z (readings_of bytes)) (squares_z (readings_of bytes)))
        unfolding screen
        screen-shows a =
            rw (ne_eqb (length bytes % 2) 1 h, ne_eqb (length bytes) 0 e, le-ltb 100 (length bytes) m, a) refl
