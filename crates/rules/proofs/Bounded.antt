-- A test that antt computes at each number below a bound, turned into a law at each of them.
-- Assumes nothing.
use mathlib.Core.Bool.{Bool, true, false, ◌&&◌}
use mathlib.Core.List.{List, [], ◌∷◌}
use Prim.Native.Nat.{ℕ, zero, suc, ◌<◌, ◌≤◌, zero-le}
use native.Mathlib.Nat.{not-suc-le-zero, le_of_suc-le-suc}
use mathlib.Core.Path.{◌≡◌, refl}
use native.Mathlib.Omega.{arith}
use borrow.Author.Tests.{leb-true, leb-false}
use lib.Dec.{T, leb, leb→le}
use lib.ListN.{get_or}

pub both_left : (a b : Bool) → T (a && b) → T a
both_left true b t = tt
both_left false b t = t

pub both-right : (a b : Bool) → T (a && b) → T b
both-right true b t = t
both-right false b t = absurd t

-- b where a holds
abbrev pub implies : Bool → Bool → Bool
implies true b = b
implies false b = true

pub implies-at : (a b : Bool) → T (implies a b) → T a → T b
implies-at true b t e = t
implies-at false b t e = absurd e

-- the test passes at each number below n
abbrev pub all : ℕ → (ℕ → Bool) → Bool
all zero f = true
all (suc n) f = f 0 && all n (λ i. f (suc i))

pub all-at : (n : ℕ) (f : ℕ → Bool) → T (all n f) → (i : ℕ) → i < n → T (f i)
all-at zero f t i h = absurd (not-suc-le-zero h)
all-at (suc n) f t zero h = both_left (f 0) (all n (λ i. f (suc i))) t
all-at (suc n) f t (suc i) h =
    all-at n (λ j. f (suc j)) (both-right (f 0) (all n (λ j. f (suc j))) t) i (le_of_suc-le-suc h)

-- the same at each pair below two bounds, and each three below three
pub all-at₂ : (n m : ℕ) (f : ℕ → ℕ → Bool) → T (all n (λ i. all m (f i))) → (i j : ℕ) → i < n → j < m → T (f i j)
all-at₂ n m f t i j h g = all-at m (f i) (all-at n (λ i. all m (f i)) t i h) j g

pub all-at₃ : (k n m : ℕ) (f : ℕ → ℕ → ℕ → Bool) → T (all k (λ h. all n (λ i. all m (f h i))))
    → (h i j : ℕ) → h < k → i < n → j < m → T (f h i j)
all-at₃ k n m f t h i j a b c = all-at₂ n m (f h) (all-at k (λ h. all n (λ i. all m (f h i))) t h a) i j b c

-- every entry of a list is at most b, and so is what stands at any place, 0 past its end
abbrev pub each : ℕ → List ℕ → Bool
each b [] = true
each b (x ∷ xs) = leb x b && each b xs

pub each-at : (b : ℕ) (xs : List ℕ) → T (each b xs) → (i : ℕ) → get_or xs i 0 ≤ b
each-at b [] t i = zero-le
each-at b (x ∷ xs) t zero = leb→le x b (both_left (leb x b) (each b xs) t)
each-at b (x ∷ xs) t (suc i) = each-at b xs (both-right (leb x b) (each b xs) t) i

by-le-at : {P : Type 0} (a b : ℕ) (t : Bool) → leb a b ≡ t → (a ≤ b → P) → (b < a → P) → P
by-le-at a b true e f g = f (leb-true a b e)
by-le-at a b false e f g = g (leb-false a b e)

-- by cases on an order
pub by-le : {P : Type 0} (a b : ℕ) → (a ≤ b → P) → (b < a → P) → P
by-le a b f g = by-le-at a b (leb a b) refl f g

-- from two cases that cannot both be
pub never : {P : Type 0} → ◌≡◌ {A = ℕ} 0 1 → P
never e = absurd (omega arith)
