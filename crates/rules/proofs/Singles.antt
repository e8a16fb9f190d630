-- A single sample: taking all its items is their sum, unless one is illegal; and each answer on it.
-- Assumes nothing.
use Prim.Native.Nat.{ℕ, ◌+◌, ◌*◌, ◌≤◌, ◌<◌}
use mathlib.Core.Path.{◌≡◌, refl, ap, sym, ◌∙◌}
use mathlib.Core.Bool.{Bool, true, false, cond, ◌||◌}
use mathlib.Core.List.{List, [], ◌∷◌}
use native.Mathlib.Omega.{arith}
use borrow.Author.Tests.{lt-ltb, le-ltb, eq-eqb, ne_eqb}
use lib.ListN.{length}
use Rattle.rules.specs.Refusals.{Answer, refused, given}
use Rattle.rules.specs.Numbers.{numbers_of, sum_of}
use Rattle.rules.specs.Codes.{illegal, any_illegal}
use Rattle.rules.specs.Single.{Plan, single_verdict, judge_items}
use Rattle.rules.specs.Verdict.{Verdict}
use Rattle.rules.specs.Staged.{Taken, missing, over, taken, take_items}
use Rattle.rules.specs.Entries.{single_sample}
use Rattle.rules.proofs.Numbers.{numbers-low, numbers-high}

all-taken : (column total : ℕ) (xs : List ℕ)
    → take_items column (length xs) total xs ≡ cond (any_illegal column xs) over (taken (total + sum_of xs) [])
unfolding take_items any_illegal sum_of
all-taken column total [] = ap (λ (t : ℕ). taken t []) (omega arith)
all-taken column total (x ∷ xs) = go (illegal column x) (all-taken column (total + x) xs)
  where
    go : (t : Bool)
        → take_items column (length xs) (total + x) xs
        ≡ cond (any_illegal column xs) over (taken (total + x + sum_of xs) [])
        → cond t over (take_items column (length xs) (total + x) xs)
        ≡ cond (t || any_illegal column xs) over (taken (total + (x + sum_of xs)) [])
    go true e = refl
    go false e = e ∙ ap (λ (t : ℕ). cond (any_illegal column xs) over (taken t [])) (omega arith)

-- what taking the plan's items from the start comes to
abbrev pub judged_as : Plan → Taken → Answer Verdict
judged_as p missing = refused 7 0
judged_as p over = refused 8 0
judged_as p (taken t rest) = given (single_verdict p t)

either : (p : Plan) (t : Bool) (sum : ℕ)
    → judged_as p (cond t over (taken sum [])) ≡ cond t (refused 8 0) (given (single_verdict p sum))
either p true sum = refl
either p false sum = refl

module _ (column : ℕ) (p : Plan) (s : List ℕ) where
  pub sample-column : 25 < column → single_sample column p s ≡ refused 4 0
  unfolding single_sample
  sample-column h = rw (lt-ltb 25 column h)

  module _ (c : column ≤ 25) where
    pub sample-length : (length s ≡ 2 * p.n → ⊥) → single_sample column p s ≡ refused 7 0
    unfolding single_sample judge_items
    sample-length l = rw (le-ltb 25 column c, ne_eqb (length s) (2 * p.n) l)

    module _ (l : length s ≡ 2 * p.n) where
      count : length (numbers_of s) ≡ p.n
      count = omega (arith, numbers-low s, numbers-high s)

      sample-judged : single_sample column p s
          ≡ cond (any_illegal column (numbers_of s)) (refused 8 0) (given (single_verdict p (sum_of (numbers_of s))))
      unfolding single_sample judge_items
      sample-judged = rw (le-ltb 25 column c, eq-eqb (length s) (2 * p.n) l)

      pub sample-taken : judged_as p (take_items column p.n 0 (numbers_of s)) ≡ single_sample column p s
      sample-taken =
          ap (λ (k : ℕ). judged_as p (take_items column k 0 (numbers_of s))) (sym count)
          ∙ ap (judged_as p) (all-taken column 0 (numbers_of s))
          ∙ either p (any_illegal column (numbers_of s)) (0 + sum_of (numbers_of s))
          ∙ ap (λ (t : ℕ). cond (any_illegal column (numbers_of s)) (refused 8 0) (given (single_verdict p t)))
          (omega arith)
          ∙ sym sample-judged
