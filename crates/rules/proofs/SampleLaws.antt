-- A sample of items, judged on a plan: what is refused, and what is given; and which readings a screen shows.
-- Assumes nothing.
use Prim.Native.Nat.{ℕ, ◌*◌, ◌%◌, ◌/◌, ◌≤◌}
use mathlib.Core.Path.{◌≡◌, refl, ap}
use mathlib.Core.Logic.{◌↔◌}
use mathlib.Core.Bool.{Bool, true, false, ◌||◌, not}
use mathlib.Core.List.{List}
use native.Mathlib.Nat.{le_refl}
use native.Mathlib.Omega.{arith}
use borrow.Author.Tests.{ltb-false, le-ltb, eqb-true, eqb-false, eq-eqb, ne_eqb, not-true, not-false}
use lib.Dec.{ltb, eqb}
use lib.ListN.{length}
use Rattle.rules.specs.Refusals.{given}
use Rattle.rules.specs.Numbers.{half_left, numbers_of, sum_of}
use Rattle.rules.specs.Codes.{any_illegal}
use Rattle.rules.specs.Verdict.{Verdict}
use Rattle.rules.specs.Single.{Plan, single_verdict, judge_items}
use Rattle.rules.specs.Reporting.{Reports}
use Rattle.rules.specs.Judging.{Fits, ItemRows, ItemsJudged}
use Rattle.rules.proofs.Bools.{or-neither}
use Rattle.rules.proofs.Refusals.{check, nothing-wrong}
use Rattle.rules.proofs.EntryLaws.{two-given}
use Rattle.rules.proofs.Items.{any-means, any-when, all-legal}

-- A single sample. 7 where it is not exactly the plan's n items, 8 for an item over 1 where items are 0 or 1.
module _ (column : ℕ) (sample : List ℕ) (plan : Plan) where
  pub items-refused : Reports 7 (ItemRows column sample plan) (judge_items column plan sample)
  unfolding judge_items
  items-refused =
      check 7 (not (eqb (length sample) (2 * plan.n)))
      (λ t. eqb-false (length sample) (2 * plan.n) (not-true (eqb (length sample) (2 * plan.n)) t))
      (λ w. ap not (ne_eqb (length sample) (2 * plan.n) w)) (omega arith)
      (check 8 (any_illegal column (numbers_of sample)) (any-means column (numbers_of sample))
      (any-when column (numbers_of sample)) (le_refl 8) nothing-wrong)

  pub items-given : (v : Verdict) → (judge_items column plan sample ≡ given v) ↔ ItemsJudged column sample plan v
  unfolding judge_items
  items-given v = (
    λ g.
        let h = two.0 g in
        record {
          whole = eqb-true (length sample) (2 * plan.n) (not-false (eqb (length sample) (2 * plan.n)) h.0);
          legal = (all-legal column (numbers_of sample)).0 h.1;
          verdict = h.2;
        },
    λ j. two.1 (
      ap not (eq-eqb (length sample) (2 * plan.n) j.whole),
      (all-legal column (numbers_of sample)).1
          j.legal,
      j.verdict,
    ),
  )
    where
      two : (judge_items column plan sample ≡ given v)
          ↔ ((not (eqb (length sample) (2 * plan.n)) ≡ false)
          × (any_illegal column (numbers_of sample) ≡ false)
          × (single_verdict plan (sum_of (numbers_of sample)) ≡ v))
      two = two-given _ _ 7 8 _ v

-- The readings that a screen shows: 1 to 50, none half there.
module _ (bytes : List ℕ) where
  abbrev pub unfit : Bool
  unfit = half_left bytes || (eqb (length bytes) 0 || ltb 100 (length bytes))

  pub fits : (n : ℕ) → 1 ≤ n → n ≤ 50 → length bytes ≡ 2 * n → unfit ≡ false
  fits n a b e =
      let even : eqb (length bytes % 2) 1 ≡ false = ne_eqb (length bytes % 2) 1 (λ h. omega arith) in
      let some : eqb (length bytes) 0 ≡ false = ne_eqb (length bytes) 0 (λ h. omega arith) in
      let few : ltb 100 (length bytes) ≡ false = le-ltb 100 (length bytes) (omega arith) in
      rw (even, some, few)

  pub fit-so : unfit ≡ false → Fits bytes (length bytes / 2)
  fit-so t =
      let a = or-neither (half_left bytes) (eqb (length bytes) 0 || ltb 100 (length bytes)) t in
      let b = or-neither (eqb (length bytes) 0) (ltb 100 (length bytes)) a.1 in
      let even : length bytes % 2 ≡ 1 → ⊥ = eqb-false (length bytes % 2) 1 a.0 in
      let some : length bytes ≡ 0 → ⊥ = eqb-false (length bytes) 0 b.0 in
      let few : length bytes ≤ 100 = ltb-false 100 (length bytes) b.1 in
      record { some = omega arith; few = omega arith; whole = omega arith }

  pub unfit-when : (t : Bool) → unfit ≡ t → ((n : ℕ) → Fits bytes n → ⊥) → t ≡ true
  unfit-when true e w = refl
  unfit-when false e w = absurd (w (length bytes / 2) (fit-so e))
