-- The letter that gives the size is the nearest with a number in its column. One test over all boxes of both tables
-- says where the numbers stand; the rest is arithmetic on Straight.
-- Assumes nothing.
use Prim.Native.Nat.{ℕ, ◌+◌, ◌≤◌, ◌<◌}
use mathlib.Core.Path.{◌≡◌, refl}
use mathlib.Core.Bool.{Bool, true, false, ◌&&◌, ◌||◌}
use native.Mathlib.Omega.{arith}
use lib.Dec.{T, leb, leb→le, eqb, eqb→eq}
use Rattle.rules.specs.Single.{Box, number, box_at, landing_of}
use Rattle.rules.specs.Straight.{zero_at, one_at, last_to_zero, last_number}
use Rattle.rules.proofs.Bounded.{both_left, both-right, implies, implies-at, all, all-at₃, by-le}
use Rattle.rules.proofs.Landing.{holds_number, apart, reach-by-column, last-by-column}
use Rattle.rules.proofs.Landing.{to-zero, to-one, to-last, stays}

-- where a box holds a number, by its s: at Ac 0, and from Ac 1 to the column's last
stands_at : ℕ → ℕ → ℕ → Bool
stands_at severity column s = eqb s (zero_at severity) || (leb (one_at severity) s && leb s (last_number column))

numbered : ℕ → ℕ → ℕ → Bool
numbered severity column letter =
    implies (holds_number (box_at severity column letter)) (stands_at severity column (letter + column))

numbered-all : T (all 2 (λ severity. all 26 (λ column. all 17 (numbered severity column))))
unfolding numbered holds_number stands_at box_at
numbered-all = tt

holds-there : (b : Box) (ac : ℕ) → b ≡ number ac → T (holds_number b)
unfolding holds_number
holds-there b ac e = rw e tt

stands : {P : Type 0} (severity column s : ℕ) → T (stands_at severity column s) → (s ≡ zero_at severity → P)
    → (one_at severity ≤ s → s ≤ last_number column → P) → P
unfolding stands_at
stands {P} severity column s t f g = go (eqb s (zero_at severity)) refl t
  where
    go : (b : Bool) → eqb s (zero_at severity) ≡ b → T (b || (leb (one_at severity) s && leb s (last_number column)))
        → P
    go true e t = f (eqb→eq _ _ (rw e tt))
    go false e t =
        g (leb→le _ _ (both_left (leb (one_at severity) s) _ t)) (leb→le _ _ (both-right (leb (one_at severity) s) _ t))

module _ (severity column letter : ℕ) (s : severity < 2) (c : column < 26) (l : letter < 16) where
  abbrev at : ℕ
  at = (landing_of severity column letter).letter

  -- Among A to R and, under tightened, S, no other letter with a number is as near.
  pub nearest : (m ac : ℕ) → m < 16 + severity → box_at severity column m ≡ number ac
      → apart letter m ≤ apart letter at → m ≡ at
  unfolding numbered
  nearest m ac h e near =
      by-le (letter + column) (last_to_zero (zero_at severity) column)
      (λ p. let w = to-zero severity column letter s c l p in
      held (λ z. omega (arith, w))
      (λ o q. reach-by-column (zero_at severity) column (λ r f. omega arith) (λ r u f. omega (arith, w))
      (λ r u f. omega arith)))
      (λ p. by-le (one_at severity) (letter + column)
      (λ r. by-le (letter + column) (last_number column)
      (λ u. omega (arith, stays severity column letter s c l p r u))
      (λ u. let w = to-last severity column letter s c l p r u in
      held (λ z. last-by-column column (λ x f. omega (arith, w)) (λ x f. omega (arith, w)) (λ x f. omega (arith, w)))
      (λ o q. omega (arith, w))))
      (λ r. let w = to-one severity column letter s c l p r in
      held (λ z. reach-by-column (zero_at severity) column (λ x f. omega arith) (λ x y f. omega (arith, w))
      (λ x y f. omega arith)) (λ o q. omega (arith, w))))
    where
      held : (m + column ≡ zero_at severity → m ≡ at)
          → (one_at severity ≤ m + column → m + column ≤ last_number column → m ≡ at) → m ≡ at
      held =
          stands severity column (m + column)
          (implies-at (holds_number (box_at severity column m)) _
          (all-at₃ 2 26 17 numbered numbered-all severity column m s c (omega arith)) (holds-there _ ac e))
