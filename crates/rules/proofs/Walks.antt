-- Laws of the walks over a book: shifts compose, an entry that ends has its size, and every place is within the
-- numbers.
-- Assumes nothing.
use Prim.Native.Nat.{ℕ, zero, suc, ◌+◌, ◌-◌, ◌≤◌}
use mathlib.Core.Path.{◌≡◌, refl, ap, sym}
use mathlib.Core.Bool.{Bool, true, false, cond}
use mathlib.Core.List.{List, [], ◌∷◌}
use native.Mathlib.Omega.{arith}
use native.Mathlib.Nat.{add_assoc, zero-add}
use borrow.Author.Tests.{ltb-true}
use lib.ListN.{length, drop, length-drop}
use lib.Dec.{ltb}
use Rattle.rules.specs.Book.{Walk, ends, broken, short, shift, then_from, Kind, right, numbers_from, size_of}
use Rattle.rules.specs.Book.{key_of, key_falls, entry, entries, section, sections}

-- a walk that is broken or lacks a number does not end
pub broken-no-end : {P : Type 0} {q p : ℕ} → broken q ≡ ends p → P
broken-no-end e = let z : ◌≡◌ {A = ℕ} 0 1 = cc in let y : ⊥ = omega arith in absurd y

pub short-no-end : {P : Type 0} {p : ℕ} → short ≡ ends p → P
short-no-end e = let z : ◌≡◌ {A = ℕ} 0 1 = cc in let y : ⊥ = omega arith in absurd y

pub shift-zero : (w : Walk) → shift 0 w ≡ w
unfolding shift
shift-zero (ends p) = ap ends (zero-add p)
shift-zero (broken p) = ap broken (zero-add p)
shift-zero short = refl

pub shift-shift : (a b : ℕ) (w : Walk) → shift a (shift b w) ≡ shift (a + b) w
unfolding shift
shift-shift a b (ends p) = ap ends (sym (add_assoc a b p))
shift-shift a b (broken p) = ap broken (sym (add_assoc a b p))
shift-shift a b short = refl

-- an entry that ends, ends within the numbers, after as many as it has
pub from-ends : (k : Kind) (e : List ℕ) (n i s : ℕ) → i ≤ length e → numbers_from k e n i ≡ ends s
    → (s ≤ length e) × (s ≡ n + i)
unfolding numbers_from
from-ends k e zero i s h p = let q : i ≡ s = cc in (omega arith, omega arith)
from-ends k e (suc n) i s h p = go (from-ends k e n (suc i) s) (ltb i (length e)) (right k e i) refl p
  where
    go : (suc i ≤ length e → numbers_from k e n (suc i) ≡ ends s → (s ≤ length e) × (s ≡ n + suc i)) → (x y : Bool)
        → ltb i (length e) ≡ x → cond x (cond y (numbers_from k e n (suc i)) (broken i)) short ≡ ends s
        → (s ≤ length e) × (s ≡ suc n + i)
    go ih true true t q = let r = ih (ltb-true _ _ t) q in (r.0, omega arith)
    go ih true false t q = broken-no-end q
    go ih false y t q = short-no-end q

pub entry-ends : (k : Kind) (before e : List ℕ) (s : ℕ) → entry k before e ≡ ends s → (s ≤ length e) × (s ≡ size_of k e)
unfolding entry
entry-ends k before e s p = go (key_falls k before e) p
  where
    go : (x : Bool) → cond x (broken 0) (numbers_from k e (size_of k e) 0) ≡ ends s → (s ≤ length e) × (s ≡ size_of k e)
    go true q = broken-no-end q
    go false q = let r = from-ends k e (size_of k e) 0 s (omega arith) q in (r.0, omega arith)

-- every walk's place is within its numbers
unfoldable pub place : Walk → ℕ
place (ends p) = p
place (broken p) = p
place short = 0

pub place-ends : (w : Walk) (p : ℕ) → ends p ≡ w → p ≡ place w
unfolding place
place-ends w p q = rw (← q)

pub place-broken : (w : Walk) (p : ℕ) → broken p ≡ w → p ≡ place w
unfolding place
place-broken w p q = rw (← q)

place-shift : (s : ℕ) (w : Walk) → place (shift s w) ≤ s + place w
unfolding place shift
place-shift s (ends p) = omega arith
place-shift s (broken p) = omega arith
place-shift s short = omega arith

pub place-then : (m : ℕ) (w : Walk) (f : ℕ → Walk) → place w ≤ m → ((s : ℕ) → s ≤ m → place (f s) ≤ m - s)
    → place (then_from w f) ≤ m
unfolding place then_from
place-then m (ends s) f g h = omega (arith, place-shift s (f s), h s g)
place-then m (broken s) f g h = g
place-then m short f g h = g

place-from : (k : Kind) (e : List ℕ) (n i : ℕ) → i ≤ length e → place (numbers_from k e n i) ≤ length e
unfolding place numbers_from
place-from k e zero i h = h
place-from k e (suc n) i h = go (place-from k e n (suc i)) (ltb i (length e)) (right k e i) refl
  where
    go : (suc i ≤ length e → place (numbers_from k e n (suc i)) ≤ length e) → (x y : Bool) → ltb i (length e) ≡ x
        → place (cond x (cond y (numbers_from k e n (suc i)) (broken i)) short) ≤ length e
    go ih true true t = ih (ltb-true _ _ t)
    go ih true false t = h
    go ih false y t = omega arith

pub place-entry : (k : Kind) (before e : List ℕ) → place (entry k before e) ≤ length e
unfolding place entry
place-entry k before e = go (key_falls k before e)
  where
    go : (x : Bool) → place (cond x (broken 0) (numbers_from k e (size_of k e) 0)) ≤ length e
    go true = omega arith
    go false = place-from k e (size_of k e) 0 (omega arith)

pub place-entries : (k : Kind) (n : ℕ) (before ws : List ℕ) → place (entries k n before ws) ≤ length ws
unfolding place entries
place-entries k zero before ws = omega arith
place-entries k (suc n) before ws =
    place-then (length ws) (entry k before ws) (λ s. entries k n (key_of k ws) (drop s ws)) (place-entry k before ws)
    (λ s l. omega (arith, place-entries k n (key_of k ws) (drop s ws), length-drop s ws))

pub place-section : (k : Kind) (ws : List ℕ) → place (section k ws) ≤ length ws
unfolding place section
place-section k [] = omega arith
place-section k (n ∷ ws) = omega (arith, place-shift 1 (entries k n [] ws), place-entries k n [] ws)

pub place-sections : (ks : List Kind) (ws : List ℕ) → place (sections ks ws) ≤ length ws
unfolding place sections
place-sections [] ws = omega arith
place-sections (k ∷ ks) ws =
    place-then (length ws) (section k ws) (λ s. sections ks (drop s ws)) (place-section k ws)
    (λ s l. omega (arith, place-sections ks (drop s ws), length-drop s ws))
