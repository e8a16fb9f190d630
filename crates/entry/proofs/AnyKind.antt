-- What holds of a kind by its number: any number from 3 on is that of a kind laid out as the fourth. And the ranges of
-- a kind by their places.
-- Assumes nothing.
use Prim.Native.Nat.{ℕ, zero, suc, ◌≤◌, ◌<◌, zero-le}
use mathlib.Core.Path.{◌≡◌, refl, ap, sym, ◌∙◌}
use mathlib.Core.List.{List, map}
use native.Mathlib.Omega.{arith}
use lib.ListN.{length, get_or, get_or-eq_default}
use Rattle.std.proofs.lemmas.List.{ext_get_or, get_or-map, length-map}
use Rattle.rules.specs.Book.{Kind, Range, anything, kind_at, reduced_singles, staged, sequential, variables}
use Rattle.entry.specs.Paper.{range_paper}

pub by-kind : (P : ℕ → Kind → Type 0) → P 0 reduced_singles → P 1 staged → P 2 sequential
    → ((n : ℕ) → 3 ≤ n → P n variables) → (n : ℕ) → P n (kind_at n)
by-kind P a b c d zero = a
by-kind P a b c d (suc zero) = b
by-kind P a b c d (suc (suc zero)) = c
by-kind P a b c d (suc (suc (suc zero))) = d 3 (omega arith)
by-kind P a b c d (suc (suc (suc (suc zero)))) = d 4 (omega arith)
by-kind P a b c d (suc (suc (suc (suc (suc n))))) = d (suc (suc (suc (suc (suc n))))) (omega arith)

-- every kind after the first has a key of three
pub key-three : (n : ℕ) → (n ≡ 0 → ⊥) → 3 ≡ (kind_at n).key
key-three =
    by-kind (λ n k. (n ≡ 0 → ⊥) → 3 ≡ k.key) (λ h. absurd (h refl)) (λ h. refl) (λ h. refl) (λ n l h. refl)

-- an entry is longer than its key
pub entry-deep : (n x : ℕ) → (kind_at n).key < (kind_at n).size x
entry-deep n x =
    by-kind (λ n k. k.key < k.size x) (omega arith) (omega arith) (omega arith) (λ n l. omega arith) n

-- what the last arm is told: i is none of the n keys before it
abbrev pub None : ℕ → ℕ → Type 0
None zero i = Unit {0}
None (suc n) i = None n i × (i ≡ n → ⊥)

none-below : (n i : ℕ) → None n i → n ≤ i
none-below zero i h = zero-le
none-below (suc n) i h = let l : n ≤ i = none-below n i h.0 in let e : i ≡ n → ⊥ = h.1 in omega arith

-- and so i is none of the keys below it
none-from : (n i : ℕ) → n ≤ i → None n i
none-from zero i h = tt
none-from (suc n) i h = (none-from n i (omega arith), λ e. omega arith)

pub last-kind : (n : ℕ) → None 3 n → kind_at n ≡ variables
last-kind n h = go n (none-below 3 n h)
  where
    never : {P : Type 0} {n : ℕ} → n < 3 → 3 ≤ n → P
    never h l = let z : ⊥ = omega arith in absurd z

    go : (n : ℕ) → 3 ≤ n → kind_at n ≡ variables
    go = by-kind (λ n k. 3 ≤ n → k ≡ variables) (never (omega arith)) (never (omega arith)) (never (omega arith))
        (λ n l h. refl)

module _ (rs : List Range) (i : ℕ) where
  -- the range at a place of a kind's list ..
  pub range-is : (x : Range) (k : ℕ) → i ≡ k → x ≡ get_or rs k anything → x ≡ get_or rs i anything
  range-is x k e q = rw e q

  -- .. and past it, where any number is let through
  pub range-past : None (length rs) i → anything ≡ get_or rs i anything
  range-past h = sym (get_or-eq_default rs anything {n = i} (none-below (length rs) i h))

  -- So with the code's list of pairs for them ..
  module _ (ps : List (ℕ × ℕ)) (e : map range_paper ps ≡ rs) where
    -- .. the pair at a place is the range there ..
    pub listed-range : (p : ℕ × ℕ) (k : ℕ) → i ≡ k → k < length ps → p ≡ get_or ps k p
        → range_paper p ≡ get_or rs i anything
    listed-range p k same h q =
        range-is (range_paper p) k same
        (ap range_paper q ∙ sym (get_or-map range_paper ps k p anything h)
        ∙ ap (λ (l : List Range). get_or l k anything) e)

    -- .. and past the pairs any number is let through
    pub unlisted-range : length ps ≤ i → anything ≡ get_or rs i anything
    unlisted-range h =
        let same : length ps ≡ length rs = sym (length-map ps range_paper) ∙ ap length e in
        range-past (none-from (length rs) i (omega (arith, same)))

-- the range at a place is that of the kind ..
pub ranges-are : (x : Range) (kind k i : ℕ) → kind ≡ k → x ≡ get_or (kind_at k).ranges i anything
    → x ≡ get_or (kind_at kind).ranges i anything
ranges-are x kind k i e q = rw e q

-- .. and from the fourth kind on that of variables
pub ranges-last : (x : Range) (kind i : ℕ) → None 3 kind → x ≡ get_or variables.ranges i anything
    → x ≡ get_or (kind_at kind).ranges i anything
ranges-last x kind i h q = rw (last-kind kind h) q

-- a list with the kind's range at each place is the kind's ..
pub list-is : (rs : List Range) (kind k : ℕ) → kind ≡ k → rs ≡ (kind_at k).ranges → rs ≡ (kind_at kind).ranges
list-is rs kind k e q =
    ext_get_or anything rs (kind_at kind).ranges (rw e (ap length q))
    (λ i h. ranges-are (get_or rs i anything) kind k i e (ap (λ (l : List Range). get_or l i anything) q))

-- .. and from the fourth kind on that of variables
pub list-last : (rs : List Range) (kind : ℕ) → None 3 kind → rs ≡ variables.ranges → rs ≡ (kind_at kind).ranges
list-last rs kind h q =
    ext_get_or anything rs (kind_at kind).ranges (rw (last-kind kind h) (ap length q))
    (λ i l. ranges-last (get_or rs i anything) kind i h (ap (λ (l : List Range). get_or l i anything) q))
