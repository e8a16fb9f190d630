-- One pass over the readings: what it keeps, one reading more, and each of its ends.
-- Assumes nothing.
use Prim.Native.Nat.{ℕ, ◌+◌, ◌*◌, ◌-◌, ◌≤◌, ◌<◌}
use mathlib.Core.Path.{◌≡◌, refl, sym, ◌∙◌, ap}
use mathlib.Core.Bool.{false, ◌&&◌}
use mathlib.Core.Logic.{◌⊎◌, inl, inr}
use mathlib.Core.List.{List, [], ◌∷◌, ◌++◌}
use native.Mathlib.Nat.{mul-le-mul}
use native.Mathlib.Numerals.{add-one}
use native.Mathlib.Omega.{arith}
use lib.IntN.{pos, ◌+ℤ◌}
use lib.ListN.{length, get_or, take, drop, length-map, get_or-map, drop_of_length-le}
use lib.Seq.{drop-cons, take-suc, take_all}
use Rattle.rules.specs.Numbers.{numbers_of, signed_of}
use Rattle.rules.specs.Variables.{in_gauge, all_in_gauge, readings_of, sum_z, squares_z}
use Rattle.rules.proofs.Diff.{Diff, move, diff-of, diff-raised, diff-add, diff-mul, as-difference}
use Rattle.rules.proofs.Numbers.{numbers-count}
use Rattle.rules.proofs.Readings.{gauge-in, gauge-below, gauge-above, sum-snoc, squares-snoc}
use Rattle.gauge.specs.Raised.{sum_from, squares_from, Passed}

-- the first i of n readings are in range, and t and q are the sums of them
pub record Passing (s : List ℕ) (n t q i : ℕ) : Type 0 where
  pub all : length (readings_of s) ≡ n
  pub few : n ≤ 50
  pub place : i ≤ n
  pub small-t : t ≤ 2000 * i
  pub small-q : q ≤ 4000000 * i
  pub range : all_in_gauge (readings_of s) ≡ all_in_gauge (drop i (readings_of s))
  pub sum : sum_z (take i (readings_of s)) ≡ sum_from i t
  pub squares : squares_z (take i (readings_of s)) ≡ squares_from i t q

pub passing-starts : (s : List ℕ) (n : ℕ) → n ≡ length (numbers_of s) → length s ≤ 100 → Passing s n 0 0 0
unfolding sum_z squares_z
passing-starts s n e l =
    record {
      all = length-map (numbers_of s) signed_of ∙ sym e;
      few = omega (arith, numbers-count s);
      place = omega arith;
      small-t = omega arith;
      small-q = omega arith;
      range = refl;
      sum = refl;
      squares = refl;
    }

reading-at : (s : List ℕ) (i : ℕ) → get_or (readings_of s) i (pos 0) ≡ signed_of (get_or (numbers_of s) i 0)
unfolding signed_of
reading-at s i = get_or-map signed_of (numbers_of s) i 0

module _ (s : List ℕ) (n t q i v : ℕ) (p : Passing s n t q i) (there : i < n)
    (e : pos v ≡ signed_of (get_or (numbers_of s) i 0) +ℤ pos 32768) where
  here : Diff (get_or (readings_of s) i (pos 0)) v 32768
  here = rw (reading-at s i) (diff-raised (signed_of (get_or (numbers_of s) i 0)) v 32768 e)

  range-next : all_in_gauge (readings_of s)
      ≡ (in_gauge (get_or (readings_of s) i (pos 0)) && all_in_gauge (drop (i + 1) (readings_of s)))
  unfolding all_in_gauge
  range-next =
      let h : i < length (readings_of s) = omega arith in
      p.range ∙ rw (add-one, drop-cons (readings_of s) i (pos 0) h) refl

  stopped-by : in_gauge (get_or (readings_of s) i (pos 0)) ≡ false → all_in_gauge (readings_of s) ≡ false
  stopped-by g = range-next ∙ rw g refl

  -- a reading below the gauge ends the pass ..
  pub stopped-below : v < 31768 → all_in_gauge (readings_of s) ≡ false
  stopped-below l = stopped-by (gauge-below v 32768 here (omega arith))

  -- .. and so does one above it
  pub stopped-above : 33768 < v → all_in_gauge (readings_of s) ≡ false
  stopped-above u = stopped-by (gauge-above v 32768 here (omega arith))

  pub stopped : (v < 31768) ⊎ ((31768 ≤ v) × (33768 < v)) → all_in_gauge (readings_of s) ≡ false
  stopped (inl l) = stopped-below l
  stopped (inr u) = stopped-above u.1

  module _ (x y : ℕ) (l : 31768 ≤ v) (u : v ≤ 33768) (ex : x ≡ v - 31768) (ey : y ≡ x * x) where
    raised-here : Diff (get_or (readings_of s) i (pos 0)) x 1000
    raised-here = move x 1000 here (omega arith)

    more : take (i + 1) (readings_of s) ≡ take i (readings_of s) ++ get_or (readings_of s) i (pos 0) ∷ []
    more = let h : i < length (readings_of s) = omega arith in rw add-one (take-suc (readings_of s) i (pos 0) h)

    sum-on : sum_z (take (i + 1) (readings_of s)) ≡ sum_from (i + 1) (t + x)
    sum-on =
        let d : Diff (sum_z (take i (readings_of s))) t (1000 * i) = rw p.sum (diff-of t (1000 * i)) in
        rw (more, sum-snoc (take i (readings_of s)) (get_or (readings_of s) i (pos 0)))
        (as-difference (move (t + x) (1000 * (i + 1)) (diff-add d raised-here) (omega arith)))

    squares-on : squares_z (take (i + 1) (readings_of s)) ≡ squares_from (i + 1) (t + x) (q + y)
    squares-on =
        let d : Diff (squares_z (take i (readings_of s))) (q + 1000000 * i) (2000 * t) =
        rw p.squares (diff-of (q + 1000000 * i) (2000 * t)) in
        rw (more, squares-snoc (take i (readings_of s)) (get_or (readings_of s) i (pos 0)))
        (as-difference
        (move (q + y + 1000000 * (i + 1)) (2000 * (t + x)) (diff-add d (diff-mul raised-here raised-here))
        (omega arith)))

    pub passing-on : Passing s n (t + x) (q + y) (i + 1)
    passing-on =
        let b : x ≤ 2000 = omega arith in
        let c : x * x ≤ 2000 * 2000 = mul-le-mul b b in
        record {
          all = p.all;
          few = p.few;
          place = omega arith;
          small-t = omega arith;
          small-q = omega arith;
          range = range-next ∙ rw (gauge-in v 32768 here (omega arith) (omega arith)) refl;
          sum = sum-on;
          squares = squares-on;
        }

-- past the last reading the sums are those of all, and small
pub passed : (s : List ℕ) (n t q i : ℕ) → Passing s n t q i → n ≤ i
    → Passed s n t q × ((t ≤ 100000) × (q ≤ 200000000))
unfolding all_in_gauge
passed s n t q i p l =
    let g : length (readings_of s) ≤ i = omega arith in
    let e : i ≡ n = omega arith in
    let w = take_all i (readings_of s) g in (
      record {
        count = omega (arith, length-map (numbers_of s) signed_of, numbers-count s);
        range = p.range ∙ rw (drop_of_length-le (readings_of s) {i = i} g) refl;
        sum = sym (ap sum_z w) ∙ p.sum ∙ ap (λ n. sum_from n t) e;
        squares = sym (ap squares_z w) ∙ p.squares ∙ ap (λ n. squares_from n t q) e;
      },
      (omega arith, omega arith),
    )
