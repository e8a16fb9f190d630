-- An integer as the difference of two naturals: each operation of ℤ is one on the two naturals, so that omega can
-- finish.
-- Assumes nothing.
use mathlib.Core.Path.{◌≡◌, refl, sym, ap}
use mathlib.Core.Bool.{Bool, true, false, cond}
use Prim.Native.Nat.{ℕ, zero, suc, ◌+◌, ◌*◌, ◌-◌, ◌≤◌}
use native.Mathlib.Nat.{add-mul, mul-add}
use native.Mathlib.Omega.{arith}
use lib.Dec.{ltb, leb}
use borrow.Author.Tests.{le-leb, lt-leb, ltb-true, ltb-false, leb-true}
use lib.IntN.{ℤ, pos, negsuc, sub_ℕ, neg_ℤ, ◌+ℤ◌, ◌-ℤ◌, ◌*ℤ◌}
use lib.Signed.{le_z}
use Rattle.rules.proofs.Bools.{same-truth}

abbrev Is : ℤ → ℕ → ℕ → Type 0
Is (pos n) a b = a ≡ n + b
Is (negsuc n) a b = a + suc n ≡ b

-- z is a - b
pub record Diff (z : ℤ) (a b : ℕ) : Type 0 where
  pub is : Is z a b

-- the same difference of two others
pub move : {z : ℤ} {a b : ℕ} (c d : ℕ) → Diff z a b → a + d ≡ c + b → Diff z c d
move {z = pos n} c d h e = omega arith
move {z = negsuc n} c d h e = omega arith

diff-cond : (t : Bool) (a b : ℕ) → ltb a b ≡ t → Diff (cond t (negsuc (b - suc a)) (pos (a - b))) a b
diff-cond true a b e = omega (arith, ltb-true a b e)
diff-cond false a b e = omega (arith, ltb-false a b e)

pub diff-sub : (a b : ℕ) → Diff (sub_ℕ a b) a b
diff-sub a b = diff-cond (ltb a b) a b refl

pub diff-pos : (n : ℕ) → Diff (pos n) n 0
diff-pos n = omega arith

pub diff-neg : {x : ℤ} {a b : ℕ} → Diff x a b → Diff (neg_ℤ x) b a
diff-neg {x = pos zero} h = omega arith
diff-neg {x = pos (suc n)} h = omega arith
diff-neg {x = negsuc n} h = omega arith

pub diff-add : {x y : ℤ} {a b c d : ℕ} → Diff x a b → Diff y c d → Diff (x +ℤ y) (a + c) (b + d)
diff-add {x = pos n} {y = pos m} h k = omega arith
diff-add {x = pos n} {y = negsuc m} h k = move _ _ (diff-sub n (suc m)) (omega arith)
diff-add {x = negsuc n} {y = pos m} h k = move _ _ (diff-sub m (suc n)) (omega arith)
diff-add {x = negsuc n} {y = negsuc m} h k = omega arith

pub diff-minus : {x y : ℤ} {a b c d : ℕ} → Diff x a b → Diff y c d → Diff (x -ℤ y) (a + d) (b + c)
diff-minus h k = diff-add h (diff-neg k)

-- one difference is of one integer
pub diff-unique : {x y : ℤ} {a b : ℕ} → Diff x a b → Diff y a b → x ≡ y
diff-unique {x = pos n} {y = pos m} h k = ap pos (omega arith)
diff-unique {x = pos n} {y = negsuc m} h k = absurd (omega arith)
diff-unique {x = negsuc n} {y = pos m} h k = absurd (omega arith)
diff-unique {x = negsuc n} {y = negsuc m} h k = ap negsuc (omega arith)

-- the difference itself; and what it is of, where it is known of a sum
pub diff-of : (a b : ℕ) → Diff (pos a -ℤ pos b) a b
diff-of a b = move a b (diff-minus (diff-pos a) (diff-pos b)) (omega arith)

pub as-difference : {z : ℤ} {a b : ℕ} → Diff z a b → z ≡ pos a -ℤ pos b
as-difference {a = a} {b = b} h = diff-unique h (diff-of a b)

pub diff-raised : (z : ℤ) (a b : ℕ) → pos a ≡ z +ℤ pos b → Diff z a b
diff-raised (pos n) a b e = let f : a ≡ n + b = cc in omega arith
diff-raised (negsuc n) a b e =
    let d : Diff (pos a) b (suc n) = rw e (diff-sub b (suc n)) in
    omega arith

pub leb-same : (a b c d : ℕ) → (a ≤ b → c ≤ d) → (c ≤ d → a ≤ b) → leb a b ≡ leb c d
leb-same a b c d f g =
    same-truth (leb a b) (leb c d) (λ e. le-leb c d (f (leb-true a b e))) (λ e. le-leb a b (g (leb-true c d e)))

pub diff-le : {x y : ℤ} {a b c d : ℕ} → Diff x a b → Diff y c d → le_z x y ≡ leb (a + d) (c + b)
diff-le {x = pos n} {y = pos m} {a} {b} {c} {d} h k = leb-same n m (a + d) (c + b) (omega arith) (omega arith)
diff-le {x = pos n} {y = negsuc m} {a} {b} {c} {d} h k = sym (lt-leb (a + d) (c + b) (omega arith))
diff-le {x = negsuc n} {y = pos m} {a} {b} {c} {d} h k = sym (le-leb (a + d) (c + b) (omega arith))
diff-le {x = negsuc n} {y = negsuc m} {a} {b} {c} {d} h k = leb-same m n (a + d) (c + b) (omega arith) (omega arith)

-- the products of the parts, by the signs
prod-pp : (n b m d : ℕ) → (n + b) * (m + d) + b * d ≡ n * m + ((n + b) * d + b * (m + d))
prod-pp n b m d = simp (add-mul, mul-add) (omega arith)

prod-pn : (n b c m : ℕ) → (n + b) * c + b * (c + m) + n * m ≡ (n + b) * (c + m) + b * c
prod-pn n b c m = simp (add-mul, mul-add) (omega arith)

pos-pos : (n b m d : ℕ) → Diff (pos (n * m)) ((n + b) * (m + d) + b * d) ((n + b) * d + b * (m + d))
pos-pos n b m d = record { is = prod-pp n b m d }

neg-of : (n : ℕ) → Diff (neg_ℤ (pos n)) 0 n
neg-of n = diff-neg (diff-pos n)

pub diff-mul : {x y : ℤ} {a b c d : ℕ} → Diff x a b → Diff y c d → Diff (x *ℤ y) (a * c + b * d) (a * d + b * c)
diff-mul {x = pos n} {y = pos m} {a} {b} {c} {d} h k = rw (h.is, k.is) (pos-pos n b m d)
diff-mul {x = pos n} {y = negsuc m} {a} {b} {c} {d} h k =
    rw (h.is, ← k.is) (move _ _ (neg-of (n * suc m)) (omega (arith, prod-pn n b c (suc m))))
diff-mul {x = negsuc n} {y = pos m} {a} {b} {c} {d} h k =
    rw (← h.is, k.is) (move _ _ (neg-of (suc n * m)) (simp (add-mul, mul-add) (omega arith)))
diff-mul {x = negsuc n} {y = negsuc m} {a} {b} {c} {d} h k =
    rw (← h.is, ← k.is) (move _ _ (diff-pos (suc n * suc m)) (simp (add-mul, mul-add) (omega arith)))
