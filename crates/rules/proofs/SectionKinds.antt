-- What holds of each of the five kinds of section, proved once for all of them.
-- Assumes nothing.
use Prim.Native.Nat.{ℕ, zero, suc, ◌<◌, ◌≤◌}
use mathlib.Core.Path.{◌≡◌, refl}
use mathlib.Core.List.{List}
use lib.ListN.{get_or, take}
use native.Mathlib.Omega.{arith}
use Rattle.rules.specs.Book.{always, kinds, kind_at, variables, anything, item_column}
use Rattle.rules.specs.Layout.{section_at}

pub each-kind : (P : ℕ → Type 0) → P 0 → P 1 → P 2 → P 3 → P 4 → (n : ℕ) → n < 5 → P n
each-kind P a b c d e zero h = a
each-kind P a b c d e (suc zero) h = b
each-kind P a b c d e (suc (suc zero)) h = c
each-kind P a b c d e (suc (suc (suc zero))) h = d
each-kind P a b c d e (suc (suc (suc (suc zero)))) h = e
each-kind P a b c d e (suc (suc (suc (suc (suc n))))) h = let z : ⊥ = omega arith in absurd z

pub key-there : (n : ℕ) → n < 5 → 0 < (kind_at n).key
key-there = each-kind (λ n. 0 < (kind_at n).key) (omega arith) (omega arith) (omega arith) (omega arith) (omega arith)

pub key-three : (n : ℕ) → n < 5 → ((kind_at n).key ≡ 2 → ⊥) → (kind_at n).key ≡ 3
key-three =
    each-kind (λ n. ((kind_at n).key ≡ 2 → ⊥) → (kind_at n).key ≡ 3) (λ h. absurd (h refl)) (λ h. refl) (λ h. refl)
    (λ h. refl) (λ h. refl)

-- an entry of each kind is longer than its key
pub entry-deep : (n : ℕ) → n < 5 → (x : ℕ) → (kind_at n).key < (kind_at n).size x
entry-deep =
    each-kind (λ n. (x : ℕ) → (kind_at n).key < (kind_at n).size x) (λ x. omega arith) (λ x. omega arith)
    (λ x. omega arith)
    (λ x. omega arith) (λ x. omega arith)

-- "0 to 15 in 3 and 4", and in the fifth, "laid out as the fourth"
pub item-columns : (n : ℕ) → n < 5 → 2 ≤ n
    → ((kind_at n).key ≡ 3) × (get_or (kind_at n).ranges 2 anything ≡ item_column)
item-columns =
    each-kind (λ n. 2 ≤ n → ((kind_at n).key ≡ 3) × (get_or (kind_at n).ranges 2 anything ≡ item_column))
    (λ h. let z : ⊥ = omega arith in absurd z) (λ h. let z : ⊥ = omega arith in absurd z) (λ h. (refl, refl))
    (λ h. (refl, refl)) (λ h. (refl, refl))

-- the four that every book has are the first four of the five
pub always-kind : (n : ℕ) → n < 5 → get_or always n variables ≡ kind_at n
always-kind = each-kind (λ n. get_or always n variables ≡ kind_at n) refl refl refl refl refl

pub always-take : (n : ℕ) → n < 5 → take n always ≡ take n kinds
always-take = each-kind (λ n. take n always ≡ take n kinds) refl refl refl refl refl

pub always-at : (ws : List ℕ) (n : ℕ) → n < 5 → section_at always n ws ≡ section_at kinds n ws
unfolding section_at
always-at ws = each-kind (λ n. section_at always n ws ≡ section_at kinds n ws) refl refl refl refl refl
