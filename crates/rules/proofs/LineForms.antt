-- A line read byte by byte: its fields one after another, its numbers, and that a longer line has no known form.
-- Assumes nothing.
use Prim.Native.Nat.{ℕ, suc, ◌+◌, ◌*◌, ◌-◌, ◌^◌, ◌≤◌, ◌<◌}
use native.Mathlib.Omega.{arith}
use native.Mathlib.Nat.{pow-succ', pow-le-pow_right, mul_assoc, mul-le-mul, mul-le-mul_right, le_trans}
use mathlib.Core.Path.{◌≡◌, refl, ◌∙◌}
use mathlib.Core.Bool.{Bool, true, false, cond, ◌&&◌, ◌||◌, not}
use mathlib.Core.List.{List, [], ◌∷◌}
use lib.Dec.{leb, eqb}
use lib.ListN.{length, get_or}
use borrow.Author.Tests.{leb-true, eqb-true, eqb-false, ne_eqb}
use borrow.Author.Tests.{not-true}
use Rattle.rules.specs.History.{Work, knows}
use Rattle.rules.specs.Log.{split_at, join_first, space, is_digit, all_digits, value_from, value_of, largest_number}
use Rattle.rules.specs.Log.{is_number, unknown_line, field_at, opens, numbers_after, yes_or_no, line_of}
use Rattle.rules.specs.Log.{original_letter, resubmitted_letter, steady_letter, permission_letter, corrective_letter}
use Rattle.rules.specs.Feeding.{up_to, longest_line}
use Rattle.rules.proofs.Bools.{and-left, and-right, or-unless}
use Rattle.rules.proofs.Bounded.{by-le}

-- the stretches after the first separator, if there is one
unfoldable pub rest_at : ℕ → List ℕ → List (List ℕ)
rest_at x [] = []
rest_at x (b ∷ bs) = cond (eqb b x) (split_at x bs) (rest_at x bs)

pub split-first : (x : ℕ) (l : List ℕ) → split_at x l ≡ up_to x l ∷ rest_at x l
unfolding split_at up_to rest_at
split-first x [] = refl
split-first x (b ∷ bs) = go (eqb b x) (split-first x bs)
  where
    go : (t : Bool) → split_at x bs ≡ up_to x bs ∷ rest_at x bs
        → cond t ([] ∷ split_at x bs) (join_first b (split_at x bs))
        ≡ cond t [] (b ∷ up_to x bs) ∷ cond t (split_at x bs) (rest_at x bs)
    go true e = refl
    go false e = rw e refl

-- the bytes of stretches, each with a separator
unfoldable spread : List (List ℕ) → ℕ
spread [] = 0
spread (f ∷ fs) = suc (length f) + spread fs

spread-split : (x : ℕ) (l : List ℕ) → spread (split_at x l) ≡ suc (length l)
unfolding split_at spread
spread-split x [] = refl
spread-split x (b ∷ bs) = go (eqb b x) (split_at x bs) (split-first x bs) (spread-split x bs)
  where
    go : (t : Bool) (fs : List (List ℕ)) → fs ≡ up_to x bs ∷ rest_at x bs → spread fs ≡ suc (length bs)
        → spread (cond t ([] ∷ fs) (join_first b fs)) ≡ suc (suc (length bs))
    go true fs e h = omega arith
    go false fs e h = let g = rw e at h in rw e (omega (arith, g))

value-grows : (v : ℕ) (bs : List ℕ) → v * 10 ^ length bs ≤ value_from v bs
unfolding value_from
value-grows v [] = omega arith
value-grows v (b ∷ bs) =
    let ih = value-grows (10 * v + (b - 48)) bs in
    let more : v * 10 ≤ 10 * v + (b - 48) = omega arith in
    rw (pow-succ' 10 (length bs), ← mul_assoc v 10 (10 ^ length bs))
    (le_trans (mul-le-mul_right (10 ^ length bs) more) ih)

-- "each at most 4,294,967,295", so of at most ten digits
pub number-short : (f : List ℕ) → is_number f ≡ true → length f ≤ 10
unfolding is_number all_digits value_from
number-short [] h = omega arith
number-short (b ∷ bs) h = by-le (length bs) 9 (λ e. omega arith) (λ e. absurd (over e))
  where
    value : ℕ
    value = value_from (10 * 0 + (b - 48)) bs

    first : Bool
    first = eqb (suc (length bs)) 1 || not (eqb b 48)

    over : 9 < length bs → ⊥
    over e =
        let d : all_digits (b ∷ bs) && (first && leb value largest_number) ≡ true =
        and-right (not (eqb (suc (length bs)) 0)) (all_digits (b ∷ bs) && (first && leb value largest_number)) h in
        let z : first && leb value largest_number ≡ true =
        and-right (all_digits (b ∷ bs)) (first && leb value largest_number) d in
        let small = leb-true value largest_number (and-right first (leb value largest_number) z) in
        let nonzero =
        or-unless (eqb (suc (length bs)) 1) (not (eqb b 48)) (and-left first (leb value largest_number) z)
        (ne_eqb (suc (length bs)) 1 (λ q. omega arith)) in
        let digit =
        and-left (is_digit b) (all_digits bs) (and-left (all_digits (b ∷ bs)) (first && leb value largest_number) d) in
        let least = leb-true 48 b (and-left (leb 48 b) (leb b 57) digit) in
        let one : 1 ≤ 10 * 0 + (b - 48) =
        by-le b 48 (λ q. absurd (eqb-false b 48 (not-true (eqb b 48) nonzero) (omega arith))) (λ q. omega arith) in
        let power = pow-le-pow_right {n = 10} (omega arith) {i = 10} {j = length bs} (omega arith) in
        let big = mul-le-mul {n₁ = 1} {m₁ = 10 ^ 10} {n₂ = 10 * 0 + (b - 48)} {m₂ = 10 ^ length bs} one power in
        let grows = value-grows (10 * 0 + (b - 48)) bs in
        omega arith

-- five fields, of which the first has one byte and the others are numbers
lot-short : (fs : List (List ℕ)) → eqb (length fs) 5 ≡ true → eqb (length (field_at fs 0)) 1 ≡ true
    → numbers_after fs ≡ true → spread fs ≤ longest_line + 1
unfolding spread
lot-short (f₀ ∷ f₁ ∷ f₂ ∷ f₃ ∷ f₄ ∷ []) e o h =
    let h₀ = eqb-true (length f₀) 1 o in
    let last = is_number f₃ && is_number f₄ in
    let h₁ = number-short f₁ (and-left (is_number f₁) (is_number f₂ && last) h) in
    let t₁ = and-right (is_number f₁) (is_number f₂ && last) h in
    let h₂ = number-short f₂ (and-left (is_number f₂) last t₁) in
    let t₂ = and-right (is_number f₂) last t₁ in
    let h₃ = number-short f₃ (and-left (is_number f₃) (is_number f₄) t₂) in
    let h₄ = number-short f₄ (and-right (is_number f₃) (is_number f₄) t₂) in
    omega arith
lot-short [] e o h = omega (arith, eqb-true 0 5 e)
lot-short (f₀ ∷ []) e o h = omega (arith, eqb-true (length (f₀ ∷ [])) 5 e)
lot-short (f₀ ∷ f₁ ∷ []) e o h = omega (arith, eqb-true (length (f₀ ∷ f₁ ∷ [])) 5 e)
lot-short (f₀ ∷ f₁ ∷ f₂ ∷ []) e o h = omega (arith, eqb-true (length (f₀ ∷ f₁ ∷ f₂ ∷ [])) 5 e)
lot-short (f₀ ∷ f₁ ∷ f₂ ∷ f₃ ∷ []) e o h = omega (arith, eqb-true (length (f₀ ∷ f₁ ∷ f₂ ∷ f₃ ∷ [])) 5 e)
lot-short (f₀ ∷ f₁ ∷ f₂ ∷ f₃ ∷ f₄ ∷ f₅ ∷ fs) e o h = omega (
  arith,
  eqb-true (length (f₀ ∷ f₁ ∷ f₂ ∷ f₃ ∷ f₄ ∷ f₅ ∷
      fs)) 5 e,
)

order-short : (fs : List (List ℕ)) → eqb (length fs) 2 ≡ true → eqb (length (field_at fs 0)) 1 ≡ true
    → yes_or_no (field_at fs 1) ≡ true → spread fs ≤ longest_line + 1
unfolding spread
order-short (f₀ ∷ f₁ ∷ []) e o h =
    let h₀ = eqb-true (length f₀) 1 o in
    let h₁ = number-short f₁ (and-left (is_number f₁) (leb (value_of f₁) 1) h) in
    omega arith
order-short [] e o h = omega (arith, eqb-true 0 2 e)
order-short (f₀ ∷ []) e o h = omega (arith, eqb-true (length (f₀ ∷ [])) 2 e)
order-short (f₀ ∷ f₁ ∷ f₂ ∷ fs) e o h = omega (arith, eqb-true (length (f₀ ∷ f₁ ∷ f₂ ∷ fs)) 2 e)

corrective-short : (fs : List (List ℕ)) → eqb (length fs) 1 ≡ true → eqb (length (field_at fs 0)) 1 ≡ true → spread fs
    ≤ longest_line + 1
unfolding spread
corrective-short (f₀ ∷ []) e o = let h₀ = eqb-true (length f₀) 1 o in omega arith
corrective-short [] e o = omega (arith, eqb-true 0 1 e)
corrective-short (f₀ ∷ f₁ ∷ fs) e o = omega (arith, eqb-true (length (f₀ ∷ f₁ ∷ fs)) 1 e)

-- a test that never passes
never : {A : Type 0} (t : Bool) (x y : A) → (t ≡ true → ⊥) → cond t x y ≡ y
never true x y h = absurd (h refl)
never false x y h = refl

pub long-unknown : (w : Work) (l : List ℕ) → longest_line < length l → line_of w (split_at space l) ≡ unknown_line
unfolding line_of
long-unknown w l h =
    never (opens original_letter 4 fs && numbers_after fs) _ _
    (λ t. lot original_letter (and-left (opens original_letter 4 fs) _ t) (and-right (opens original_letter 4 fs) _ t))
    ∙ never (opens resubmitted_letter 4 fs && (numbers_after fs && knows w 4)) _ _
    (λ t.
    lot resubmitted_letter (and-left (opens resubmitted_letter 4 fs) _ t)
    (and-left (numbers_after fs) (knows w 4) (and-right (opens resubmitted_letter 4 fs) _ t)))
    ∙ never (opens steady_letter 1 fs && yes_or_no (field_at fs 1)) _ _ (order steady_letter)
    ∙ never (opens permission_letter 1 fs && yes_or_no (field_at fs 1)) _ _ (order permission_letter)
    ∙ never (opens corrective_letter 0 fs) _ _
    (λ t. wide (corrective-short fs (size corrective_letter 0 t) (one corrective_letter 0 t)))
  where
    fs : List (List ℕ)
    fs = split_at space l

    wide : spread (split_at space l) ≤ longest_line + 1 → ⊥
    wide s = omega (arith, spread-split space l)

    letter_is : ℕ → Bool
    letter_is x = eqb (length (field_at fs 0)) 1 && eqb (get_or (field_at fs 0) 0 0) x

    size : (x n : ℕ) → opens x n fs ≡ true → eqb (length fs) (suc n) ≡ true
    size x n t = and-left (eqb (length fs) (suc n)) (letter_is x) t

    one : (x n : ℕ) → opens x n fs ≡ true → eqb (length (field_at fs 0)) 1 ≡ true
    one x n t =
        and-left (eqb (length (field_at fs 0)) 1) (eqb (get_or (field_at fs 0) 0 0) x)
        (and-right (eqb (length fs) (suc n)) (letter_is x) t)

    lot : (x : ℕ) → opens x 4 fs ≡ true → numbers_after fs ≡ true → ⊥
    lot x t n = wide (lot-short fs (size x 4 t) (one x 4 t) n)

    order : (x : ℕ) → opens x 1 fs && yes_or_no (field_at fs 1) ≡ true → ⊥
    order x t =
        let o = and-left (opens x 1 fs) (yes_or_no (field_at fs 1)) t in
        wide (order-short fs (size x 1 o) (one x 1 o) (and-right (opens x 1 fs) (yes_or_no (field_at fs 1)) t))
