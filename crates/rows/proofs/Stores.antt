-- Numbers put into lent memory, and zeros.
-- Assumes nothing.
use Prim.Native.Nat.{ℕ, zero, suc, ◌+◌, ◌*◌, ◌/◌, ◌%◌, ◌≤◌, ◌<◌}
use mathlib.Core.Path.{◌≡◌, refl, sym, ap, ◌∙◌}
use mathlib.Core.List.{List, [], ◌∷◌, ◌++◌}
use native.Mathlib.Omega.{arith}
use borrow.Rule.Slice.PartMut.{put_mid}
use lib.ListN.{length, get_or, set, take, drop, replicate}
use lib.Seq.{sets, sets-eq, drop-drop, drop-cons}
use Rattle.std.proofs.lemmas.List.{append_assoc}
use Rattle.rules.specs.Numbers.{numbers_of, number_bytes}
use Rattle.rules.proofs.Numbers.{bytes-twice, numbers-low, number-at}
use Rattle.rows.specs.Paper.{put_number}

twice-suc : (i : ℕ) → 2 * suc i ≡ suc (suc (2 * i))
twice-suc i = omega arith

-- a part of lent memory that is written over
pub put-sets : (a k : ℕ) (xs ys : List ℕ) → length ys ≡ k → a + k ≤ length xs → put_mid a k xs ys ≡ sets xs a ys
put-sets a k xs ys l h =
    let e : drop k (drop a xs) ≡ drop (a + length ys) xs = drop-drop k a xs ∙ ap (λ (n : ℕ). drop (a + n) xs) (sym l) in
    sym (sets-eq ys xs a (omega arith) ∙ append_assoc (take a xs) ys _ ∙ rw (← e))

-- the two bytes of a number
pub two-bytes : (b : List ℕ) (i : ℕ) → i < length (numbers_of b) → get_or b (2 * i) 0 < 256
    → take 2 (drop (2 * i) b) ≡ number_bytes (get_or (numbers_of b) i 0 ∷ [])
unfolding number_bytes
two-bytes b i h byte =
    let low : ℕ = get_or b (2 * i) 0 in
    let high : ℕ = get_or b (2 * i + 1) 0 in
    let l : 2 * i < length b = omega (arith, numbers-low b) in
    let m : 2 * i + 1 < length b = omega (arith, numbers-low b) in
    let one : suc (2 * i) ≡ 2 * i + 1 = omega arith in
    let x : get_or (numbers_of b) i 0 ≡ low + 256 * high = number-at b i h in
    let p : low ≡ (low + 256 * high) % 256 = omega arith in
    let q : high ≡ (low + 256 * high) / 256 = omega arith in
    let more : drop (suc (2 * i)) b ≡ high ∷ drop (suc (2 * i + 1)) b = rw one (drop-cons b (2 * i + 1) 0 m) in
    rw (drop-cons b (2 * i) 0 l, more, x, ← p, ← q)

-- a number put among the bytes of numbers
pub put-among : (xs rest : List ℕ) (p x : ℕ) → p < length xs
    → put_number (number_bytes xs ++ rest) p x ≡ number_bytes (set xs p x) ++ rest
unfolding number_bytes
put-among [] rest p x h = absurd (omega arith)
put-among (a ∷ xs) rest zero x h = refl
put-among (a ∷ xs) rest (suc p) x h =
    rw (twice-suc p) (ap (λ (l : List ℕ). (a % 256) ∷ (a / 256) ∷ l) (put-among xs rest p x (omega arith)))

pub zero-bytes : (n : ℕ) → replicate (2 * n) 0 ≡ number_bytes (replicate n 0)
unfolding number_bytes
zero-bytes zero = refl
zero-bytes (suc n) = rw (twice-suc n, zero-bytes n)

-- the numbers of bytes that numbers begin
numbers-first : (xs rest : List ℕ) → numbers_of (number_bytes xs ++ rest) ≡ xs ++ numbers_of rest
unfolding number_bytes numbers_of
numbers-first [] rest = refl
numbers-first (x ∷ xs) rest =
    let e : x % 256 + 256 * (x / 256) ≡ x = omega arith in
    rw (e, numbers-first xs rest)

pub stored-first : (xs out : List ℕ) → 2 * length xs ≤ length out
    → numbers_of (sets out 0 (number_bytes xs)) ≡ xs ++ numbers_of (drop (2 * length xs) out)
stored-first xs out h =
    let l : 0 + length (number_bytes xs) ≡ 2 * length xs = omega (arith, bytes-twice xs) in
    ap numbers_of (sets-eq (number_bytes xs) out 0 (omega arith)) ∙ rw l (numbers-first xs (drop (2 * length xs) out))
