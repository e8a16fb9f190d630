-- The products of both tests fit 64 bits.
-- Assumes nothing.
use Prim.Native.Nat.{ℕ, ◌*◌, ◌-◌, ◌≤◌}
use native.Mathlib.Nat.{mul-le-mul}
use native.Mathlib.Omega.{arith}

-- of the s method
pub record Products (n k q d tt : ℕ) : Type 0 where
  pub kk : k * k ≤ 16000000
  pub kkn : k * k * n ≤ 800000000
  pub nq : n * q ≤ 10000000000
  pub left : k * k * n * (n * q) ≤ 8000000000000000000
  pub right : 1000000 * d * (n - 1) ≤ 490000000000000000
  pub last : k * k * n * tt ≤ 8000000000000000000

pub products : (n k q d tt : ℕ)
    → n ≤ 50 → k ≤ 4000 → q ≤ 200000000 → d ≤ 10000000000 → tt ≤ 10000000000 → Products n k q d tt
products n k q d tt hn hk hq hd ht =
    let a : k * k ≤ 16000000 = mul-le-mul hk hk in
    let b : k * k * n ≤ 800000000 = mul-le-mul a hn in
    let e : n * q ≤ 10000000000 = mul-le-mul hn hq in
    let f : 1000000 * d ≤ 10000000000000000 = omega arith in
    let g : n - 1 ≤ 49 = omega arith in
    record { kk = a; kkn = b; nq = e; left = mul-le-mul b e; right = mul-le-mul f g; last = mul-le-mul b ht }

-- of a known spread: K · sigma, and n times that
pub small : (n k sigma : ℕ) → n ≤ 50 → k ≤ 4000 → sigma ≤ 1000
    → (k * sigma ≤ 4000000) × (k * sigma * n ≤ 200000000)
small n k sigma hn hk hs = let a : k * sigma ≤ 4000000 = mul-le-mul hk hs in (a, mul-le-mul a hn)
