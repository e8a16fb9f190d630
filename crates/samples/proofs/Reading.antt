-- What is known of a sample where reading an item, or taking some, comes to a value or to a refusal.
-- Assumes nothing.
use Prim.Native.Nat.{ℕ, ◌+◌, ◌*◌, ◌≤◌, ◌<◌}
use mathlib.Core.Path.{◌≡◌, refl, sym, ◌∙◌}
use mathlib.Core.Bool.{Bool, true, false, cond}
use mathlib.Core.List.{List}
use native.Mathlib.Omega.{arith}
use borrow.Author.Tests.{leb-true, leb-false}
use lib.Dec.{leb}
use lib.ListN.{length, get_or, drop}
use Rattle.std.proofs.lemmas.Bool.Decides.{nat_tests}
use Rattle.std.proofs.lemmas.List.{drop-drop}
use Rattle.rules.specs.Refusals.{Answer, refused, given, and_then, wrong_length, illegal_item}
use Rattle.rules.specs.Numbers.{numbers_of}
use Rattle.rules.specs.Single.{Plan, single_verdict}
use Rattle.rules.specs.Verdict.{Verdict}
use Rattle.rules.specs.Entries.{single_sample}
use Rattle.rules.specs.Codes.{illegal}
use Rattle.rules.specs.Staged.{Taken, missing, over, taken, take_items}
use Rattle.rules.proofs.Singles.{judged_as, sample-taken}
use Rattle.rules.proofs.Items.{Takes, takes, takes-so}
use Rattle.samples.specs.Paper.{column_checked, item_read, taken_answer}

-- a refusal is the same whatever the answer would give
same-refusal : {A B : Type 0} {n m p q : ℕ} → ◌≡◌ {A = Answer A} (refused n p) (refused m q)
    → ◌≡◌ {A = Answer B} (refused n p) (refused m q)
same-refusal e = cc

pub column-legal : (column : ℕ) → given tt ≡ column_checked column → column ≤ 25
column-legal column e = grind (arith, nat_tests)

-- an item that is read is there and legal
pub record Legal (column : ℕ) (items : List ℕ) (i x : ℕ) : Type 0 where
  pub there : i < length items
  pub is : x ≡ get_or items i 0
  pub legal : illegal column x ≡ false

module _ (column : ℕ) (items : List ℕ) (i : ℕ) where
  pub item-legal : (x : ℕ) → given x ≡ item_read column items i → Legal column items i x
  item-legal x = go (leb (length items) i) (illegal column (get_or items i 0)) refl refl
    where
      go : (m o : Bool) → leb (length items) i ≡ m → illegal column (get_or items i 0) ≡ o
          → given x ≡ cond m (refused wrong_length 0) (cond o (refused illegal_item 0) (given (get_or items i 0)))
          → Legal column items i x
      go true o f g e = cc
      go false true f g e = cc
      go false false f g e =
          let is : x ≡ get_or items i 0 = cc in
          record { there = leb-false _ _ f; is = is; legal = rw is g }

  -- one that is refused is missing, or there and illegal
  pub item-refused : {A : Type 0} (n p : ℕ) (answer : Answer A) → refused n p ≡ item_read column items i
      → (length items ≤ i → answer ≡ refused wrong_length 0)
      → (i < length items → illegal column (get_or items i 0) ≡ true → answer ≡ refused illegal_item 0)
      → answer ≡ refused n p
  item-refused n p answer = go (leb (length items) i) (illegal column (get_or items i 0)) refl refl
    where
      go : (m o : Bool) → leb (length items) i ≡ m → illegal column (get_or items i 0) ≡ o
          → refused n p ≡ cond m (refused wrong_length 0) (cond o (refused illegal_item 0) (given (get_or items i 0)))
          → (length items ≤ i → answer ≡ refused wrong_length 0)
          → (i < length items → illegal column (get_or items i 0) ≡ true → answer ≡ refused illegal_item 0)
          → answer ≡ refused n p
      go true o f g e none illegal = none (leb-true _ _ f) ∙ same-refusal (sym e)
      go false true f g e none wrong = wrong (leb-false _ _ f) g ∙ same-refusal (sym e)
      go false false f g e none illegal = cc

-- items whose taking is refused are missing, or one is illegal
pub take-refused : {A : Type 0} (n p : ℕ) (answer : Answer A) (o : Taken) → refused n p ≡ taken_answer o
    → (o ≡ missing → answer ≡ refused wrong_length 0) → (o ≡ over → answer ≡ refused illegal_item 0)
    → answer ≡ refused n p
take-refused n p answer missing e none illegal = none refl ∙ same-refusal (sym e)
take-refused n p answer over e none illegal = illegal refl ∙ same-refusal (sym e)
take-refused n p answer (taken t rest) e none illegal = cc

-- those that are taken leave the items past them
pub take-given : (column k total from t : ℕ) (items : List ℕ)
    → given t ≡ taken_answer (take_items column k total (drop from items))
    → take_items column k total (drop from items) ≡ taken t (drop (from + k) items)
take-given column k total from t items =
    go (take_items column k total (drop from items)) (takes-so column k total (drop from items))
  where
    go : (o : Taken) → Takes column k total (drop from items) o → given t ≡ taken_answer o
        → o ≡ taken t (drop (from + k) items)
    go missing v e = cc
    go over v e = cc
    go (taken s rest) (takes h legal sum is) e =
        let same : s ≡ t = cc in
        rw (same, drop-drop)

-- the verdict on a single sample, by its parts
pub verdict-of : (p : Plan) (t : ℕ) {v : Verdict} → v.accepted ≡ leb t p.ac → v.used ≡ p.n → v.total ≡ t
    → v.stage ≡ 1 → v.stages ≡ 1 → given v ≡ given (single_verdict p t)
verdict-of p t accepted used total stage stages =
    λ i. given
    (record { accepted = accepted i; used = used i; total = total i; stage = stage i; stages = stages i })

-- a single sample of the right length is judged as its items are taken
pub single-judged : (column : ℕ) (p : Plan) (s : List ℕ) → column ≤ 25 → length s ≡ 2 * p.n → {answer : Answer ℕ}
    → answer ≡ taken_answer (take_items column p.n 0 (numbers_of s))
    → and_then answer (λ t. given (single_verdict p t)) ≡ single_sample column p s
single-judged column p s c l e = rw e (judged (take_items column p.n 0 (numbers_of s))) ∙ sample-taken column p s c l
  where
    judged : (o : Taken) → and_then (taken_answer o) (λ t. given (single_verdict p t)) ≡ judged_as p o
    judged missing = refl
    judged over = refl
    judged (taken t rest) = refl
