-- An entry's checks: what they let through and what they refuse does not hang on the answer that stands behind them.
-- Assumes nothing.
use Prim.Native.Nat.{ℕ, zero, suc, ◌≤◌}
use mathlib.Core.Path.{◌≡◌, refl, ap, sym, ◌∙◌}
use mathlib.Core.Bool.{Bool, true, false, cond}
use mathlib.Core.List.{List, [], ◌∷◌}
use native.Mathlib.Omega.{arith}
use lib.Dec.{ltb, eqb}
use borrow.Author.Tests.{ltb-false, eqb-false, le-ltb, eq-eqb, ne_eqb}
use Rattle.rules.specs.Refusals.{Answer, refused, given, Check, ◌gives◌, first_of, no_such_column, while_stopped}
use Rattle.rules.specs.Refusals.{no_plan}
use Rattle.rules.specs.Codes.{reduced, letter_checks, letter_of, table_one_letter}
use Rattle.rules.specs.Entries.{Asked, asked_checks, asked_letter, plain_plan}
use Rattle.rules.specs.Single.{Plan, plan_at, landing_of, table_plan}
pub use Rattle.rules.specs.Planning.{Plannable}
use Rattle.rules.proofs.Answers.{refused-given, given-one}
use Rattle.rules.proofs.Bounded.{by-le}

-- the check at a place of the list finds something wrong
pub wrong_at : List Check → ℕ → Bool
wrong_at [] i = false
wrong_at (c ∷ cs) zero = c.wrong
wrong_at (c ∷ cs) (suc i) = wrong_at cs i

-- what is given has passed the check before it
given-past : {A : Type 0} (P : Bool → Type 0) (t : Bool) (n p : ℕ) (x : Answer A) (a : A)
    → cond t (refused n p) x ≡ given a → (x ≡ given a → P false) → P t
given-past P true n p x a e f = absurd (refused-given e)
given-past P false n p x a e f = f e

module _ {A : Type 0} (x : Answer A) (a : A) where
  pub right-at : (cs : List Check) → first_of cs x ≡ given a → (i : ℕ) → wrong_at cs i ≡ false
  unfolding wrong_at
  right-at [] e i = refl
  right-at (c ∷ cs) e zero =
      given-past (λ t. t ≡ false) c.wrong c.number c.place (first_of cs x) a e (λ _. refl)
  right-at (c ∷ cs) e (suc i) =
      given-past (λ _. wrong_at cs i ≡ false) c.wrong c.number c.place (first_of cs x) a e
      (λ f. right-at cs f i)

  -- checks that let one answer through let each through
  pub passed : {B : Type 0} (cs : List Check) (y : Answer B) → first_of cs x ≡ given a → first_of cs y ≡ y
  passed [] y e = refl
  passed (c ∷ cs) y e =
      given-past (λ t. cond t (refused c.number c.place) (first_of cs y) ≡ y) c.wrong c.number c.place
      (first_of cs x) a e (passed cs y)

alike-at : {A B : Type 0} (t : Bool) (k q n p : ℕ) (x : Answer A) (y : Answer B) → (x ≡ refused n p → y ≡ refused n p)
    → cond t (refused k q) x ≡ refused n p → cond t (refused k q) y ≡ refused n p
alike-at true k q n p x y f e = cc
alike-at false k q n p x y f e = f e

-- .. and two answers of which the second is refused as the first is are refused alike behind the same checks
pub checks-alike : {A B : Type 0} (cs : List Check) (n p : ℕ) (x : Answer A) (y : Answer B)
    → (x ≡ refused n p → y ≡ refused n p) → first_of cs x ≡ refused n p → first_of cs y ≡ refused n p
checks-alike [] n p x y f e = f e
checks-alike (c ∷ cs) n p x y f e =
    alike-at c.wrong c.number c.place n p (first_of cs x) (first_of cs y) (checks-alike cs n p x y f) e

-- checks that refuse what is given refuse each answer, by the same number
pub kept : {A B : Type 0} (cs : List Check) (a : A) (n p : ℕ) (y : Answer B) → first_of cs (given a) ≡ refused n p
    → first_of cs y ≡ refused n p
kept cs a n p y e = checks-alike cs n p (given a) y (λ q. absurd (refused-given (sym q))) e

pub plannable : {A : Type 0} (q : Asked) (x : Answer A) (a : A) → first_of (asked_checks q) x ≡ given a → Plannable q
unfolding wrong_at
plannable q x a e =
    let r = right-at x a (asked_checks q) e in
    let known : q.severity ≤ 3 = ltb-false 3 q.severity (r 0) in
    let size : 2 ≤ q.size = ltb-false q.size 2 (r 1) in
    let level : q.level ≤ 6 = ltb-false 6 q.level (r 2) in
    let column : q.column ≤ 25 = ltb-false 25 q.column (r 3) in
    record {
      severity = by-le 3 q.severity (λ h. absurd (eqb-false q.severity 3 (r 4) (omega arith))) (λ h. h);
      size = size;
      level = omega arith;
      column = omega arith;
    }

-- the checks of a lot under a known severity: those of its letter, then the column and stopped
abbrev pub later_checks : Asked → List Check
later_checks q = (ltb 25 q.column gives no_such_column) ∷ (eqb q.severity 3 gives while_stopped) ∷ []

module _ (q : Asked) (known : q.severity ≤ 3) where
  asked-known : asked_letter q
      ≡ first_of (letter_checks q.size q.level) (first_of (later_checks q) (given (letter_of q.size q.level)))
  unfolding asked_letter
  asked-known = rw (le-ltb 3 q.severity known)

  -- a lot whose letter is refused is refused by the same number ..
  pub asked-refused : (n p : ℕ) → table_one_letter q.size q.level ≡ refused n p → asked_letter q ≡ refused n p
  unfolding table_one_letter
  asked-refused n p e = asked-known ∙ kept (letter_checks q.size q.level) (letter_of q.size q.level) n p _ e

  -- .. and any other by its column, while stopped, or not at all
  pub asked-later : (l : ℕ) → table_one_letter q.size q.level ≡ given l
      → asked_letter q ≡ first_of (later_checks q) (given l)
  unfolding table_one_letter
  asked-later l e =
      asked-known
      ∙ passed (given (letter_of q.size q.level)) l (letter_checks q.size q.level) _ e
      ∙ ap (first_of (later_checks q))
      (sym (passed (given (letter_of q.size q.level)) l (letter_checks q.size q.level) _ e) ∙ e)

-- A lot that has its letter passes what every entry checks, and the letter is Table 1's.
module _ (q : Asked) (l : ℕ) (e : asked_letter q ≡ given l) where
  pub asked-passed : {A : Type 0} (y : Answer A) → first_of (asked_checks q) y ≡ y
  unfolding asked_letter
  asked-passed y = passed (given (letter_of q.size q.level)) l (asked_checks q) y e

  pub asked-letter : letter_of q.size q.level ≡ l
  unfolding asked_letter
  asked-letter = given-one (sym (asked-passed (given (letter_of q.size q.level))) ∙ e)

  pub asked-plannable : Plannable q
  unfolding asked_letter
  asked-plannable = plannable q (given (letter_of q.size q.level)) l e

-- A lot that has none is refused alike by each entry.
pub asked-kept : {A : Type 0} (q : Asked) (n p : ℕ) (y : Answer A) → asked_letter q ≡ refused n p
    → first_of (asked_checks q) y ≡ refused n p
unfolding asked_letter
asked-kept q n p y e = kept (asked_checks q) (letter_of q.size q.level) n p y e

-- the plan of a bench without a book
reduced_check : Asked → Answer Plan
reduced_check q =
    first_of ((eqb q.severity reduced gives no_plan) ∷ [])
    (given (table_plan q.severity q.size q.level q.column))

pub plain-refused : (q : Asked) (n p : ℕ) → asked_letter q ≡ refused n p → plain_plan q ≡ refused n p
unfolding plain_plan reduced_check
plain-refused q n p e = asked-kept q n p (reduced_check q) e

module _ (q : Asked) (l : ℕ) (e : asked_letter q ≡ given l) where
  pub plain-reduced : q.severity ≡ 2 → plain_plan q ≡ refused 6 0
  unfolding plain_plan reduced_check
  plain-reduced s = asked-passed q l e (reduced_check q) ∙ rw (eq-eqb q.severity 2 s)

  pub plain-given : (q.severity ≡ 2 → ⊥)
      → plain_plan q ≡ given (plan_at q.size (landing_of q.severity q.column l))
  unfolding plain_plan reduced_check table_plan
  plain-given s =
      asked-passed q l e (reduced_check q)
      ∙ rw (ne_eqb q.severity 2 s)
      (ap (λ (x : ℕ). given (plan_at q.size (landing_of q.severity q.column x))) (asked-letter q l e))
