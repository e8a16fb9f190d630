-- The numbers of a stretch of bytes: how many there are, which stands where, those from a place on, and a reading.
-- Assumes nothing.
use Prim.Native.Nat.{ℕ, zero, suc, ◌+◌, ◌-◌, ◌*◌, ◌/◌, ◌%◌, ◌≤◌, ◌<◌}
use mathlib.Core.Path.{◌≡◌, refl, ap, ◌∙◌}
use mathlib.Core.List.{List, [], ◌∷◌, ◌++◌}
use native.Mathlib.Omega.{arith}
use borrow.Author.Tests.{lt-ltb, le-ltb}
use lib.IntN.{pos, ◌+ℤ◌}
use lib.ListN.{length, get_or, drop, take, length-drop, drop_of_length-le}
use lib.Seq.{take_all, take-nil, drop-cons}
use Rattle.rules.specs.Numbers.{numbers_of, number_bytes, signed_of}

pub numbers-low : (b : List ℕ) → 2 * length (numbers_of b) ≤ length b
unfolding numbers_of
numbers-low [] = omega arith
numbers-low (a ∷ []) = omega arith
numbers-low (a ∷ b ∷ r) = omega (arith, numbers-low r)

pub numbers-high : (b : List ℕ) → length b ≤ 2 * length (numbers_of b) + 1
unfolding numbers_of
numbers-high [] = omega arith
numbers-high (a ∷ []) = omega arith
numbers-high (a ∷ b ∷ r) = omega (arith, numbers-high r)

pub numbers-count : (b : List ℕ) → length (numbers_of b) ≡ length b / 2
numbers-count b = omega (arith, numbers-low b, numbers-high b)

twice-suc : (i : ℕ) → 2 * suc i ≡ suc (suc (2 * i))
twice-suc i = omega arith

pub number-at : (b : List ℕ) (i : ℕ) → i < length (numbers_of b)
    → get_or (numbers_of b) i 0 ≡ get_or b (2 * i) 0 + 256 * get_or b (2 * i + 1) 0
unfolding numbers_of
number-at [] i h = omega arith
number-at (a ∷ []) i h = omega arith
number-at (a ∷ b ∷ r) zero h = refl
number-at (a ∷ b ∷ r) (suc i) h =
    let e : 2 * suc i + 1 ≡ suc (suc (2 * i + 1)) = omega arith in
    let g : i < length (numbers_of r) = omega arith in
    rw (e, twice-suc i) (number-at r i g)

pub numbers-drop : (b : List ℕ) (i : ℕ) → numbers_of (drop (2 * i) b) ≡ drop i (numbers_of b)
unfolding numbers_of
numbers-drop b zero = refl
numbers-drop [] (suc i) = rw twice-suc
numbers-drop (a ∷ []) (suc i) = rw twice-suc
numbers-drop (a ∷ b ∷ r) (suc i) = rw twice-suc (numbers-drop r i)

pub numbers-take : (b : List ℕ) (n : ℕ) → numbers_of (take (2 * n) b) ≡ take n (numbers_of b)
unfolding numbers_of
numbers-take b zero = refl
numbers-take [] (suc n) = ap numbers_of (take-nil (2 * suc n))
numbers-take (a ∷ []) (suc n) =
    let z : 2 * suc n ≡ suc (suc (2 * n)) = twice-suc n in rw (z, take-nil (suc (2 * n)))
numbers-take (a ∷ b ∷ r) (suc n) = let z : 2 * suc n ≡ suc (suc (2 * n)) = twice-suc n in rw (z, numbers-take r n)

-- whole pairs of bytes before others
pub numbers-append : (b c : List ℕ) → length b ≡ 2 * length (numbers_of b)
    → numbers_of (b ++ c) ≡ numbers_of b ++ numbers_of c
unfolding numbers_of
numbers-append [] c e = refl
numbers-append (x ∷ []) c e = absurd (omega arith)
numbers-append (x ∷ y ∷ b) c e = ap (λ (l : List ℕ). (x + 256 * y) ∷ l) (numbers-append b c (omega arith))

-- any bytes before others
pub numbers-begin : (b c : List ℕ) → numbers_of b ≡ take (length (numbers_of b)) (numbers_of (b ++ c))
unfolding numbers_of
numbers-begin [] c = refl
numbers-begin (x ∷ []) c = refl
numbers-begin (x ∷ y ∷ b) c = ap (λ (l : List ℕ). (x + 256 * y) ∷ l) (numbers-begin b c)

-- of the part of a slice from a place to its end
pub numbers-part : (b : List ℕ) (i : ℕ) → numbers_of (take (length b - 2 * i) (drop (2 * i) b)) ≡ drop i (numbers_of b)
numbers-part b i =
    let l : length (drop (2 * i) b) ≤ length b - 2 * i = omega (arith, length-drop (2 * i) b) in
    rw (take_all (length b - 2 * i) (drop (2 * i) b) l) (numbers-drop b i)

-- the number at a place, and those after it
pub numbers-next : (b : List ℕ) (i : ℕ) → 2 * i + 1 < length b
    → drop i (numbers_of b) ≡ (get_or b (2 * i) 0 + 256 * get_or b (2 * i + 1) 0) ∷ drop (suc i) (numbers_of b)
numbers-next b i h =
    let l : i < length (numbers_of b) = omega (arith, numbers-high b) in
    drop-cons (numbers_of b) i 0 l ∙ ap (λ (x : ℕ). x ∷ drop (suc i) (numbers_of b)) (number-at b i l)

-- fewer than two bytes from a place on hold no number
pub numbers-end : (b : List ℕ) (i : ℕ) → length b ≤ 2 * i + 1 → drop i (numbers_of b) ≡ []
numbers-end b i h =
    let l : length (numbers_of b) ≤ i = omega (arith, numbers-low b) in
    drop_of_length-le (numbers_of b) l

-- a reading plus 32,768, by the half of the range that its number is in
pub raised-low : (v : ℕ) → v < 32768 → pos (v + 32768) ≡ signed_of v +ℤ pos 32768
unfolding signed_of
raised-low v h = rw (lt-ltb v 32768 h) refl

pub raised-high : (v : ℕ) → 32768 ≤ v → v < 65536 → pos (v - 32768) ≡ signed_of v +ℤ pos 32768
unfolding signed_of
raised-high v h l =
    let e : v - 32768 ≡ 32768 - suc (65536 - suc v) = omega arith in
    rw (le-ltb v 32768 h, lt-ltb v 65536 l)
    (rw (le-ltb 32768 (suc (65536 - suc v)) (omega arith)) (ap pos e))

-- Numbers as bytes, two each, are read back as those numbers.
pub bytes-twice : (xs : List ℕ) → length (number_bytes xs) ≡ 2 * length xs
unfolding number_bytes
bytes-twice [] = refl
bytes-twice (x ∷ xs) = omega (arith, bytes-twice xs)

pub numbers-back : (xs : List ℕ) → numbers_of (number_bytes xs) ≡ xs
unfolding number_bytes numbers_of
numbers-back [] = refl
numbers-back (x ∷ xs) = let e : x % 256 + 256 * (x / 256) ≡ x = omega arith in rw (e, numbers-back xs)

pub bytes-append : (xs ys : List ℕ) → number_bytes (xs ++ ys) ≡ number_bytes xs ++ number_bytes ys
unfolding number_bytes
bytes-append [] ys = refl
bytes-append (x ∷ xs) ys = rw (bytes-append xs ys)

-- numbers that were read from whole pairs of bytes are those bytes
pub bytes-back : (b : List ℕ) → length b ≡ 2 * length (numbers_of b) → ((i : ℕ) → get_or b i 0 < 256)
    → number_bytes (numbers_of b) ≡ b
unfolding numbers_of number_bytes
bytes-back [] e small = refl
bytes-back (a ∷ []) e small = absurd (omega arith)
bytes-back (a ∷ c ∷ r) e small =
    let low : (a + 256 * c) % 256 ≡ a = omega (arith, small 0) in
    let high : (a + 256 * c) / 256 ≡ c = omega (arith, small 0) in
    rw (low, high, bytes-back r (omega arith) (λ i. small (suc (suc i))))
