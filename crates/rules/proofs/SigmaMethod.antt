-- A known spread: no margin, or a negative one, never accepts where K, sigma and n are 1 or more; equality accepts; and
-- the mean with k sigma on it is what is held against the limit. What is seen from below is the mirror image of what is
-- seen from above, by either method.
-- Assumes nothing.
use Prim.Native.Nat.{ℕ, suc, ◌+◌, ◌*◌, ◌≤◌}
use mathlib.Core.Path.{◌≡◌, refl, sym, ◌∙◌}
use mathlib.Core.Bool.{true, false}
use mathlib.Core.List.{List, [], ◌∷◌, map}
use native.Mathlib.Nat.{mul-le-mul}
use native.Mathlib.Omega.{arith}
use borrow.Author.Tests.{le-leb, lt-leb}
use lib.IntN.{ℤ, pos, negsuc, neg_ℤ, ◌+ℤ◌, ◌-ℤ◌, ◌*ℤ◌}
use lib.Signed.{le_z}
use Rattle.rules.specs.Variables.{VariablesPlan, sum_z, squares_z, spread, margin, accepts_readings}
use Rattle.rules.specs.Limits.{Spread, estimated, known, within_sigma, side_accepts}
use Rattle.rules.proofs.Diff.{Diff, move, diff-pos, diff-neg, diff-add, diff-minus, diff-mul, diff-le}
use Rattle.rules.proofs.Diff.{diff-unique, leb-same}
use Rattle.rules.proofs.Readings.{within-sigma-is}

-- A negative margin never accepts.
pub sigma-negative : (n k sigma m : ℕ) → within_sigma n k sigma (negsuc m) ≡ false
sigma-negative n k sigma m =
    within-sigma-is n k sigma 0 (suc m) (negsuc m) (omega arith)
    ∙ lt-leb (k * sigma * n + 1000000 * suc m) (1000000 * 0) (omega arith)

-- nor does no margin at all, where K, sigma and n are 1 or more
pub sigma-no-margin : (n k sigma : ℕ) → 1 ≤ n → 1 ≤ k → 1 ≤ sigma → within_sigma n k sigma (pos 0) ≡ false
sigma-no-margin n k sigma a b c =
    let some : 1 * 1 * 1 ≤ k * sigma * n = mul-le-mul (mul-le-mul b c) a in
    within-sigma-is n k sigma 0 0 (pos 0) (diff-pos 0)
    ∙ lt-leb (k * sigma * n + 1000000 * 0) (1000000 * 0) (omega arith)

-- "Equality accepts": K · sigma · n at 1,000,000 (nU − S)
pub sigma-equality : (n k sigma m : ℕ) → k * sigma * n ≡ 1000000 * m → within_sigma n k sigma (pos m) ≡ true
sigma-equality n k sigma m e =
    within-sigma-is n k sigma m 0 (pos m) (diff-pos m)
    ∙ le-leb (k * sigma * n + 1000000 * 0) (1000000 * m) (omega arith)

-- an integer is a difference
parts : (z : ℤ) → (a : ℕ) × (b : ℕ) × Diff z a b
parts (pos n) = (n, 0, diff-pos n)
parts (negsuc n) = (0, suc n, omega arith)

-- A second reading: the sum of the readings and n times k sigma is at most n times the limit, in millionths.
pub mean-and-sigma : (n k sigma : ℕ) (s limit : ℤ)
    → within_sigma n k sigma (margin true n s limit)
    ≡ le_z (pos 1000000 *ℤ s +ℤ pos (k * sigma * n)) (pos 1000000 *ℤ (pos n *ℤ limit))
unfolding margin
mean-and-sigma n k sigma s limit =
    go (parts s).0 (parts s).1 (parts s).2 _ _ (diff-mul (diff-pos n) (parts limit).2)
  where
    go : (a b : ℕ) → Diff s a b → (c d : ℕ) → Diff (pos n *ℤ limit) c d
        → within_sigma n k sigma (pos n *ℤ limit -ℤ s)
        ≡ le_z (pos 1000000 *ℤ s +ℤ pos (k * sigma * n)) (pos 1000000 *ℤ (pos n *ℤ limit))
    go a b x c d y =
        let t = k * sigma * n in
        within-sigma-is n k sigma (c + b) (d + a) _ (diff-minus y x)
        ∙ leb-same (t + 1000000 * (d + a)) (1000000 * (c + b))
        (1000000 * a + 0 * b + t + (1000000 * d + 0 * c)) (1000000 * c + 0 * d + (1000000 * b + 0 * a + 0))
        (omega arith)
        (omega arith)
        ∙ sym (diff-le (diff-add (diff-mul (diff-pos 1000000) x) (diff-pos t)) (diff-mul (diff-pos 1000000) y))

-- "likewise from below": readings and limit with their signs turned
sum-mirror : (xs : List ℤ) → sum_z (map neg_ℤ xs) ≡ neg_ℤ (sum_z xs)
unfolding sum_z
sum-mirror [] = refl
sum-mirror (x ∷ xs) =
    rw (sum-mirror xs)
    (diff-unique (diff-add (diff-neg (parts x).2) (diff-neg (parts (sum_z xs)).2))
    (diff-neg (diff-add (parts x).2 (parts (sum_z xs)).2)))

square-mirror : (x : ℤ) → neg_ℤ x *ℤ neg_ℤ x ≡ x *ℤ x
square-mirror x =
    let p = parts x in
    diff-unique (diff-mul (diff-neg p.2) (diff-neg p.2))
    (move _ _ (diff-mul p.2 p.2) (omega arith))

squares-mirror : (xs : List ℤ) → squares_z (map neg_ℤ xs) ≡ squares_z xs
unfolding squares_z
squares-mirror [] = refl
squares-mirror (x ∷ xs) = rw (square-mirror x, squares-mirror xs)

margin-mirror : (n : ℕ) (s limit : ℤ) → margin false n s limit ≡ margin true n (neg_ℤ s) (neg_ℤ limit)
unfolding margin
margin-mirror n s limit =
    let x = parts s in
    let y = parts limit in
    diff-unique (diff-minus x.2 (diff-mul (diff-pos n) y.2))
    (move _ _ (diff-minus (diff-mul (diff-pos n) (diff-neg y.2)) (diff-neg x.2)) (omega arith))

spread-mirror : (n : ℕ) (s w : ℤ) → spread n (neg_ℤ s) w ≡ spread n s w
unfolding spread
spread-mirror n s w = rw (square-mirror s)

pub mirrored : (m : Spread) (p : VariablesPlan) (limit : ℤ) (xs : List ℤ)
    → side_accepts m false p limit xs ≡ side_accepts m true p (neg_ℤ limit) (map neg_ℤ xs)
unfolding side_accepts accepts_readings
mirrored estimated p limit xs =
    rw (
      sum-mirror xs,
      squares-mirror xs,
      spread-mirror p.n (sum_z xs) (squares_z xs),
      margin-mirror p.n (sum_z xs) limit,
    )
mirrored (known sigma) p limit xs = rw (sum-mirror xs, margin-mirror p.n (sum_z xs) limit)
