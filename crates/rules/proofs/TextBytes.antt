-- Which bytes stand in a text: of texts one after another, of the digits of a number, of a name; and the first field of
-- a line.
-- Assumes nothing.
use Prim.Native.Nat.{ℕ, zero, suc, ◌+◌, ◌/◌, ◌%◌, ◌<◌}
use native.Mathlib.Omega.{arith}
use mathlib.Core.Path.{◌≡◌, refl}
use mathlib.Core.Bool.{Bool, true, false, cond}
use mathlib.Core.List.{List, [], ◌∷◌, ◌++◌}
use borrow.Author.Tests.{ltb-true, eq-eqb}
use lib.Dec.{ltb, eqb}
use lib.ListN.{get_or}
use Rattle.rules.specs.Log.{split_at, digits_from, decimal}
use Rattle.rules.specs.WholeLot.{has_byte}
use Rattle.rules.proofs.Bools.{or-neither}

module _ (b : ℕ) where
  -- past a text that does not have it
  pub past : (xs ys : List ℕ) → has_byte b xs ≡ false → has_byte b (xs ++ ys) ≡ has_byte b ys
  unfolding has_byte
  past [] ys h = refl
  past (x ∷ xs) ys h =
      let n = or-neither (eqb x b) (has_byte b xs) h in rw n.0 (past xs ys n.1)

  -- .. which, where the byte comes next, is the first stretch before it
  pub split-past : (xs ys : List ℕ) → has_byte b xs ≡ false → split_at b (xs ++ (b ∷ ys)) ≡ xs ∷ split_at b ys
  unfolding has_byte split_at
  split-past [] ys h = rw (eq-eqb b b refl)
  split-past (x ∷ xs) ys h =
      let n = or-neither (eqb x b) (has_byte b xs) h in rw (n.0, split-past xs ys n.1)

  -- digits have no byte but digits
  module _ (other : (d : ℕ) → d < 10 → eqb (48 + d) b ≡ false) where
    digits-without : (k n : ℕ) (after : List ℕ) → has_byte b after ≡ false → has_byte b (digits_from k n after) ≡ false
    unfolding has_byte digits_from
    digits-without zero n after h = h
    digits-without (suc k) n after h =
        go (ltb n 10) refl
        (digits-without k (n / 10) ((48 + n % 10) ∷ after) (rw (other (n % 10) (omega arith), h)))
      where
        go : (t : Bool) → ltb n 10 ≡ t → has_byte b (digits_from k (n / 10) ((48 + n % 10) ∷ after)) ≡ false
            → has_byte b (cond t ((48 + n) ∷ after) (digits_from k (n / 10) ((48 + n % 10) ∷ after))) ≡ false
        go true t more = rw (other n (ltb-true n 10 t), h)
        go false t more = more

    pub no-digit : (n : ℕ) → has_byte b (decimal n) ≡ false
    unfolding has_byte
    no-digit n = digits-without 20 n [] refl

  -- nor has a name out of a text without it
  pub name-without : eqb 0 b ≡ false → (names : List ℕ) → has_byte b names ≡ false → (i : ℕ)
      → has_byte b (get_or names i 0 ∷ []) ≡ false
  unfolding has_byte
  name-without z [] h i = rw z
  name-without z (x ∷ xs) h zero = rw (or-neither (eqb x b) (has_byte b xs) h).0
  name-without z (x ∷ xs) h (suc i) = name-without z xs (or-neither (eqb x b) (has_byte b xs) h).1 i
