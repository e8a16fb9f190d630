-- The acceptance numbers that the code reads along s are those of the master tables, and so is the Ac that it reads at
-- each box, and the plan where a letter lands.
-- Assumes nothing.
use Prim.Native.Nat.{ℕ, zero, suc, ◌+◌, ◌-◌, ◌≤◌, ◌<◌}
use mathlib.Core.Path.{◌≡◌, refl, ap, sym, ◌∙◌}
use mathlib.Core.List.{[]}
use mathlib.Core.Bool.{Bool, true, false, cond, ◌&&◌, and-false}
use native.Mathlib.Omega.{arith}
use lib.Dec.{T, leb, eqb, eqb→eq}
use lib.ListN.{get_or}
use borrow.Author.Tests.{le-leb, lt-leb}
use Rattle.rules.specs.Single as paper
use Rattle.rules.specs.Single.{Box, ac_of, row_at, box_at, for_a_to_e, landing_of, Plan, sizes, cut_plan, plan_at}
use Rattle.rules.specs.Straight.{last_number, ac_along}
use Rattle.rules.proofs.Bounded.{all, all-at, all-at₂, by-le}
use Rattle.rules.proofs.Tables.{row-over}
use Rattle.rules.proofs.Landing.{last-by-column, landing-box}
use Rattle.plans.specs.declared.TheConstants.{ACS}
use Rattle.plans.specs.declared.Table.{Table}
use Rattle.plans.specs.declared.Table.TheVariants as tables
use Rattle.plans.specs.Paper.{severity_of}

-- a table of the code is one of the two
pub of-table : (t : Table) → severity_of t < 2
of-table tables.Normal = omega arith
of-table tables.Tightened = omega arith

-- s is none of n numbers from k on
abbrev pub NoneOf : ℕ → ℕ → ℕ → Type 0
NoneOf s k zero = Unit {0}
NoneOf s k (suc n) = NoneOf s k n × (s ≡ k + n → ⊥)

-- the Ac along s at a severity and s that are known ..
pub ac-in-arm : {severity s k : ℕ} (v : ℕ) → severity ≡ v → s ≡ k → ac_along v k ≡ ac_along severity s
ac-in-arm v e f = rw (e, f)

past : (s k n : ℕ) → k ≤ s → NoneOf s k n → k + n ≤ s
past s k zero h u = omega arith
past s k (suc n) h u = let p = past s k n h u.0 in let other : s ≡ k + n → ⊥ = u.1 in omega arith

none_under : ℕ → ℕ → Bool
none_under severity s = eqb 0 (ac_along severity s)

none-under : T (all 2 (λ v. all (17 + v) (none_under v)))
unfolding none_under
none-under = tt

none-over : (severity s : ℕ) → severity < 2 → 26 < s → 0 ≡ ac_along severity s
none-over severity s v h = sym (ap (λ (r : paper.Row). ac_of r.there) (row-over severity s v h))

-- .. and none at any other s: they stand from 17 on, tightened from 18 on, up to 26
pub no-ac : {severity : ℕ} (v s : ℕ) → v < 2 → severity ≡ v → NoneOf s (17 + v) (10 - v) → 0 ≡ ac_along severity s
unfolding none_under
no-ac v s h e u =
    rw e
    (by-le s (16 + v)
    (λ p. eqb→eq _ _
    (all-at (17 + v) (none_under v) (all-at 2 (λ v. all (17 + v) (none_under v)) none-under v h) s (omega arith)))
    (λ p. none-over v s h (omega (arith, past s (17 + v) (10 - v) (omega arith) u))))

-- s before them or past them is none of them
pub none-of : (s k n : ℕ) → (k ≤ s → k + n ≤ s) → NoneOf s k n
none-of s k zero h = tt
none-of s k (suc n) h = (none-of s k n (λ l. omega (arith, h l)), λ e. omega (arith, h (omega arith)))

-- the code's numbers along s are those of the tables, by one computed test
ac_held : ℕ → ℕ → Bool
ac_held v i = eqb (get_or (get_or ACS v []) i 0) (ac_along v (17 + i))

ac-held : T (all 2 (λ v. all 10 (ac_held v)))
unfolding ac_held
ac-held = tt

pub ac-found : (v s : ℕ) → v < 2 → 17 ≤ s → s ≤ 26 → get_or (get_or ACS v []) (s - 17) 0 ≡ ac_along v s
unfolding ac_held
ac-found v s h f l =
    eqb→eq _ _ (all-at₂ 2 10 ac_held ac-held v (s - 17) h (omega arith)) ∙ ac-in-arm v refl (omega arith)

-- up to 24 a row's letters hold one Ac or none
one_ac : ℕ → ℕ → Bool
one_ac severity s = eqb (ac_of (row_at severity s).there) (ac_of (row_at severity s).elsewhere)

one-ac : T (all 2 (λ severity. all 25 (one_ac severity)))
unfolding one_ac
one-ac = tt

either : (t : Bool) (a b : Box) → ac_of a ≡ ac_of b → ac_of a ≡ ac_of (cond t a b)
either true a b e = refl
either false a b e = e

-- 25 and 26 hold theirs at A to E
at-e : (severity s : ℕ) → severity < 2 → 24 < s → s ≤ 26 → for_a_to_e (ac_along severity s) ≡ row_at severity s
at-e severity s v h g =
    by-le severity 0
    (λ p. let e : severity ≡ 0 = omega arith in
    by-le s 25 (λ q. let f : s ≡ 25 = omega arith in rw (e, f)) (λ q. let f : s ≡ 26 = omega arith in rw (e, f)))
    (λ p. let e : severity ≡ 1 = omega arith in
    by-le s 25 (λ q. let f : s ≡ 25 = omega arith in rw (e, f)) (λ q. let f : s ≡ 26 = omega arith in rw (e, f)))

module _ (severity column letter : ℕ) (v : severity < 2) where
  pub ac-there : letter + column ≤ last_number column
      → ac_along severity (letter + column) ≡ ac_of (box_at severity column letter)
  unfolding box_at one_ac
  ac-there h =
      by-le (letter + column) 24
      (λ p. either (leb _ letter && leb letter _) _ _
      (eqb→eq _ _ (all-at₂ 2 25 one_ac one-ac severity (letter + column) v (omega arith))))
      (λ p. let e : (letter ≤ 4) × (letter + column ≤ 26) =
      last-by-column column (λ q f. omega arith) (λ q f. omega arith) (λ q f. omega arith) in
      rw (← at-e severity (letter + column) v p e.1, le-leb 0 letter (omega arith), le-leb letter 4 e.0))

  -- an arrow stands past the last number
  pub ac-past : last_number column < letter + column → 0 ≡ ac_of (box_at severity column letter)
  unfolding box_at
  ac-past h =
      by-le (letter + column) 26
      (λ p. let e : (4 < letter) × (24 < letter + column) =
      last-by-column column (λ q f. omega arith) (λ q f. omega arith) (λ q f. omega arith) in
      rw (← at-e severity (letter + column) v e.1 p, lt-leb letter 4 e.0, and-false))
      (λ p. rw (row-over severity (letter + column) v p)
      (either (leb 0 letter && leb letter 0) paper.up paper.up refl))

-- the plan at the letter where a letter lands: its Ac is read from the box there
pub plan-there : (severity size column letter at n ac : ℕ) (p : Plan) → severity < 2 → column < 26 → letter < 16
    → at ≡ (landing_of severity column letter).letter → ac ≡ ac_of (box_at severity column at) → n ≡ get_or sizes at 0
    → p ≡ cut_plan size at n ac → p ≡ plan_at size (landing_of severity column letter)
plan-there severity size column letter at n ac p v c l e box size-there h =
    let there : ac ≡ (landing_of severity column letter).ac =
    box ∙ ap (λ (x : ℕ). ac_of (box_at severity column x)) e ∙ ap ac_of (landing-box severity column letter v c l) in
    h ∙ rw (size-there, e, there)
