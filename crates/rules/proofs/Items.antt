-- The items of a sample: their sum and whether they are legal, in parts; an illegal item by its place; and what taking
-- some of them comes to.
-- Assumes nothing.
use Prim.Native.Nat.{ℕ, zero, suc, ◌+◌, ◌*◌, ◌%◌, ◌≤◌, ◌<◌, zero-le, suc-le-suc}
use mathlib.Core.Path.{◌≡◌, refl, sym, ap, ◌∙◌}
use mathlib.Core.Logic.{◌↔◌}
use mathlib.Core.Bool.{Bool, true, false, cond, ◌||◌, false≢true, or_assoc, or-true}
use mathlib.Core.List.{List, [], ◌∷◌, ◌++◌}
use native.Mathlib.Omega.{arith}
use native.Mathlib.Nat.{le_of_suc-le-suc}
use borrow.Author.Tests.{ltb-true, lt-ltb, leb-true, le-leb, eqb-false, ne_eqb}
use lib.Dec.{leb, ltb}
use lib.ListN.{length, get_or, take, drop, take-append-drop}
use lib.Seq.{take-add}
use Rattle.rules.specs.Numbers.{numbers_of, half_left, sum_of}
use Rattle.rules.specs.Codes.{illegal, any_illegal}
use Rattle.rules.proofs.Bools.{and-left, and-right, or-neither, false-unless}
use Rattle.rules.proofs.Numbers.{numbers-low, numbers-high}
use Rattle.rules.specs.Staged.{Taken, missing, over, taken, take_items}
use Rattle.rules.specs.Judging.{IllegalAt}

pub sum-append : (xs ys : List ℕ) → sum_of (xs ++ ys) ≡ sum_of xs + sum_of ys
unfolding sum_of
sum-append [] ys = omega arith
sum-append (x ∷ xs) ys = omega (arith, sum-append xs ys)

pub sum-split : (k : ℕ) (xs : List ℕ) → sum_of xs ≡ sum_of (take k xs) + sum_of (drop k xs)
sum-split k xs = rw take-append-drop at (sum-append (take k xs) (drop k xs))

pub sum-take-add : (k m : ℕ) (xs : List ℕ) → sum_of (take (k + m) xs) ≡ sum_of (take k xs) + sum_of (take m (drop k xs))
sum-take-add k m xs = rw (take-add k m xs) (sum-append (take k xs) (take m (drop k xs)))

any_append : (column : ℕ) (xs ys : List ℕ)
    → any_illegal column (xs ++ ys) ≡ (any_illegal column xs || any_illegal column ys)
unfolding any_illegal
any_append column [] ys = refl
any_append column (x ∷ xs) ys =
    rw (any_append column xs ys) (sym (or_assoc (illegal column x) (any_illegal column xs) (any_illegal column ys)))

-- Items are all legal exactly where those of both parts are.
module _ (column : ℕ) where
  pub legal-parts : (xs ys : List ℕ) → any_illegal column (xs ++ ys) ≡ false
      → (any_illegal column xs ≡ false) × (any_illegal column ys ≡ false)
  legal-parts xs ys e = or-neither (any_illegal column xs) (any_illegal column ys) (sym (any_append column xs ys) ∙ e)

  pub legal-append : (xs ys : List ℕ) → any_illegal column xs ≡ false → any_illegal column ys ≡ false
      → any_illegal column (xs ++ ys) ≡ false
  legal-append xs ys e f = any_append column xs ys ∙ rw (e, f)

  pub legal-split : (k : ℕ) (xs : List ℕ) → any_illegal column xs ≡ false
      → (any_illegal column (take k xs) ≡ false) × (any_illegal column (drop k xs) ≡ false)
  legal-split k xs e = legal-parts (take k xs) (drop k xs) (rw take-append-drop e)

  pub legal-join : (k : ℕ) (xs : List ℕ) → any_illegal column (take k xs) ≡ false
      → any_illegal column (drop k xs) ≡ false
      → any_illegal column xs ≡ false
  legal-join k xs e f = rw take-append-drop at (legal-append (take k xs) (drop k xs) e f)

pub illegal-means : (column x : ℕ) → illegal column x ≡ true → (column ≤ 15) × (1 < x)
illegal-means column x e =
    (leb-true column 15 (and-left (leb column 15) (ltb 1 x) e), ltb-true 1 x (and-right (leb column 15) (ltb 1 x) e))

pub illegal-when : (column x : ℕ) → column ≤ 15 → 1 < x → illegal column x ≡ true
illegal-when column x c h = rw (le-leb column 15 c, lt-ltb 1 x h)

pub any-means : (column : ℕ) (xs : List ℕ) → any_illegal column xs ≡ true → IllegalAt column xs
unfolding any_illegal
any-means column [] e = absurd (false≢true e)
any-means column (x ∷ xs) e = on (illegal column x) refl e (any-means column xs)
  where
    on : (t : Bool) → illegal column x ≡ t → (t || any_illegal column xs) ≡ true
        → (any_illegal column xs ≡ true → IllegalAt column xs) → IllegalAt column (x ∷ xs)
    on true i f more =
        record {
          place = 0;
          there = omega arith;
          counts = (illegal-means column x i).0;
          too_much = (illegal-means column x i).1;
        }
    on false i f more =
        let m = more f in
        record { place = suc m.place; there = suc-le-suc m.there; counts = m.counts; too_much = m.too_much }

any-at : (column : ℕ) (xs : List ℕ) (k : ℕ) → k < length xs → column ≤ 15 → 1 < get_or xs k 0
    → any_illegal column xs ≡ true
unfolding any_illegal
any-at column [] k h c t = absurd (omega arith)
any-at column (x ∷ xs) zero h c t = rw (illegal-when column x c t)
any-at column (x ∷ xs) (suc k) h c t =
    rw (any-at column xs k (le_of_suc-le-suc h) c t) (or-true (illegal column x))

pub any-when : (column : ℕ) (xs : List ℕ) → IllegalAt column xs → any_illegal column xs ≡ true
any-when column xs i = any-at column xs i.place i.there i.counts i.too_much

-- No item is over 1 where items are 0 or 1.
pub all-legal : (column : ℕ) (xs : List ℕ) → (any_illegal column xs ≡ false) ↔ (IllegalAt column xs → ⊥)
all-legal column xs = (
  λ e i. false≢true (sym e ∙ any-when column xs i),
  λ none. false-unless (any_illegal column xs) (λ e. none (any-means column xs e)),
)

-- A sample has no half item exactly where its bytes are twice its items.
pub no-half : (s : List ℕ) → (half_left s ≡ false) ↔ (length s ≡ 2 * length (numbers_of s))
no-half s = (
  λ e.
      let h : length s % 2 ≡ 1 → ⊥ = eqb-false (length s % 2) 1 e in
      omega (arith, numbers-low s, numbers-high s),
  λ e. ne_eqb (length s % 2) 1 (λ h. omega arith),
)

-- Taking k items of xs onto a total: one is missing, one is over, or they are all there and legal.
pub data Takes (column k total : ℕ) (xs : List ℕ) : Taken → Type 0 where
  short : length xs < k → any_illegal column xs ≡ false → Takes column k total xs missing
  meets : (i : ℕ) → i < k → i < length xs → any_illegal column (take i xs) ≡ false
      → illegal column (get_or xs i 0) ≡ true → Takes column k total xs over
  takes : k ≤ length xs → any_illegal column (take k xs) ≡ false → (sum : ℕ) → sum ≡ total + sum_of (take k xs)
      → Takes column k total xs (taken sum (drop k xs))

takes-one : (column k total x : ℕ) (xs : List ℕ) (t : Bool) → illegal column x ≡ t → (o : Taken)
    → Takes column k (total + x) xs o → Takes column (suc k) total (x ∷ xs) (cond t over o)
unfolding any_illegal sum_of
takes-one column k total x xs true e o v = meets 0 (omega arith) (omega arith) refl e
takes-one column k total x xs false e missing (short h l) = short (suc-le-suc h) (rw (e, l))
takes-one column k total x xs false e over (meets i h g l f) =
    meets (suc i) (suc-le-suc h) (suc-le-suc g) (rw (e, l)) f
takes-one column k total x xs false e (taken s r) (takes h l sum f) =
    takes (suc-le-suc h) (rw (e, l)) sum (omega arith)

pub takes-so : (column k total : ℕ) (xs : List ℕ) → Takes column k total xs (take_items column k total xs)
unfolding take_items any_illegal sum_of
takes-so column zero total xs = takes zero-le refl total (omega arith)
takes-so column (suc k) total [] = short (omega arith) refl
takes-so column (suc k) total (x ∷ xs) =
    takes-one column k total x xs (illegal column x) refl _ (takes-so column k (total + x) xs)

-- where they are all there and legal, they are taken
pub takes-when : (column k total : ℕ) (xs : List ℕ) → k ≤ length xs → any_illegal column (take k xs) ≡ false
    → take_items column k total xs ≡ taken (total + sum_of (take k xs)) (drop k xs)
unfolding take_items any_illegal sum_of
takes-when column zero total xs h l = ap (λ (t : ℕ). taken t xs) (omega arith)
takes-when column (suc k) total [] h l = absurd (omega arith)
takes-when column (suc k) total (x ∷ xs) h l =
    let n = or-neither (illegal column x) (any_illegal column (take k xs)) l in
    rw n.0
    (takes-when column k (total + x) xs (le_of_suc-le-suc h) n.1
    ∙ ap (λ (t : ℕ). taken t (drop k xs)) (omega arith))

-- where one before the k-th is the first that is illegal, it is met
pub over-when : (column k total : ℕ) (xs : List ℕ) (i : ℕ) → i < k → i < length xs
    → any_illegal column (take i xs) ≡ false
    → illegal column (get_or xs i 0) ≡ true → take_items column k total xs ≡ over
unfolding take_items any_illegal
over-when column zero total xs i h g l f = absurd (omega arith)
over-when column (suc k) total [] i h g l f = absurd (omega arith)
over-when column (suc k) total (x ∷ xs) zero h g l f = rw f
over-when column (suc k) total (x ∷ xs) (suc i) h g l f =
    let n = or-neither (illegal column x) (any_illegal column (take i xs)) l in
    rw n.0 (over-when column k (total + x) xs i (le_of_suc-le-suc h) (le_of_suc-le-suc g) n.1 f)
