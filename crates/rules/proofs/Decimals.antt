-- Numbers in decimal: the last digit and the digits before it, and how many there are.
-- Assumes nothing.
use Prim.Native.Nat.{ℕ, zero, suc, ◌+◌, ◌/◌, ◌%◌, ◌^◌, ◌≤◌, ◌<◌}
use native.Mathlib.Omega.{arith}
use native.Mathlib.Nat.{pow-suc, div-lt_iff_lt-mul}
use mathlib.Core.Path.{◌≡◌, refl, sym, ap, ◌∙◌}
use mathlib.Core.Bool.{Bool, true, false, cond}
use mathlib.Core.List.{List, [], ◌∷◌, ◌++◌, append_assoc}
use lib.Dec.{ltb}
use lib.ListN.{length, length-append}
use borrow.Author.Tests.{lt-ltb, le-ltb}
use Rattle.rules.specs.Log.{digits_from, decimal}

digits-append : (k n : ℕ) (after : List ℕ) → digits_from k n after ≡ digits_from k n [] ++ after
unfolding digits_from
digits-append zero n after = refl
digits-append (suc k) n after =
    go (ltb n 10)
    (digits-append k (n / 10) ((48 + n % 10) ∷ after))
    (digits-append k (n / 10) ((48 + n % 10) ∷ []))
  where
    d : List ℕ
    d = (48 + n % 10) ∷ []

    go : (t : Bool) → digits_from k (n / 10) ((48 + n % 10) ∷ after) ≡ digits_from k (n / 10) [] ++ ((48 + n % 10) ∷
        after)
        → digits_from k (n / 10) d ≡ digits_from k (n / 10) [] ++ d
        → cond t ((48 + n) ∷ after) (digits_from k (n / 10) ((48 + n % 10) ∷ after))
        ≡ cond t ((48 + n) ∷ []) (digits_from k (n / 10) d) ++ after
    go true e f = refl
    go false e f = e ∙ sym (ap (λ (z : List ℕ). z ++ after) f ∙ append_assoc (digits_from k (n / 10) []) d after)

tenth : (n k : ℕ) → n < 10 ^ suc k → n / 10 < 10 ^ k
tenth n k h = (div-lt_iff_lt-mul {k = 10} {x = n} {y = 10 ^ k} (omega arith)).1 (rw (pow-suc 10 k) at h)

-- more room than digits changes nothing
digits-room : (k n : ℕ) (after : List ℕ) → n < 10 ^ suc k → digits_from (suc k) n after ≡ digits_from (suc (suc k)) n
    after
unfolding digits_from
digits-room zero n after h = simp (lt-ltb n 10 (omega arith))
digits-room (suc k) n after h =
    ap (λ (z : List ℕ). cond (ltb n 10) ((48 + n) ∷ after) z)
    (digits-room k (n / 10) ((48 + n % 10) ∷ after) (tenth n (suc k) h))

pub decimal-digit : (n : ℕ) → n < 10 → decimal n ≡ (48 + n) ∷ []
unfolding digits_from
decimal-digit n h = simp (lt-ltb n 10 h)

pub decimal-last : (n : ℕ) → 10 ≤ n → n < 10 ^ 20 → decimal n ≡ decimal (n / 10) ++ ((48 + n % 10) ∷ [])
unfolding digits_from
decimal-last n h l = first ∙ digits-append 19 (n / 10) ((48 + n % 10) ∷ []) ∙ ap (λ (z : List ℕ). z ++ ((48 + n % 10)
    ∷ [])) (digits-room 18 (n / 10) [] (tenth n 19 l))
  where
    first : digits_from 20 n [] ≡ digits_from 19 (n / 10) ((48 + n % 10) ∷ [])
    first = simp (le-ltb n 10 h)

-- a number under 10 to the k has at most k digits
digits-within : (k m n : ℕ) → n < 10 ^ suc k → length (digits_from m n []) ≤ suc k
unfolding digits_from
digits-within k zero n h = omega arith
digits-within zero (suc m) n h = simp (lt-ltb n 10 (omega arith)) (omega arith)
digits-within (suc k) (suc m) n h = go (ltb n 10) (digits-within k m (n / 10) (tenth n (suc k) h))
  where
    d : List ℕ
    d = (48 + n % 10) ∷ []

    go : (t : Bool) → length (digits_from m (n / 10) []) ≤ suc k
        → length (cond t ((48 + n) ∷ []) (digits_from m (n / 10) d)) ≤ suc (suc k)
    go true e = omega arith
    go false e = rw (digits-append m (n / 10) d, length-append (digits_from m (n / 10) []) d) (omega arith)

pub decimal-within : (k n : ℕ) → n < 10 ^ suc k → length (decimal n) ≤ suc k
decimal-within k n h = digits-within k 20 n h
