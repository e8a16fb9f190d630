-- Which refusal an entry reports: its table's rows are facts with their numbers, and the lowest number whose fact holds
-- is reported, in both directions; one law for a check, one for a chain of answers.
-- Assumes nothing.
use Prim.Native.Nat.{ℕ, ◌≤◌}
use mathlib.Core.Path.{◌≡◌, refl, sym, subst, ◌∙◌}
use mathlib.Core.Logic.{◌↔◌}
use mathlib.Core.Bool.{Bool, true, false, cond, false≢true}
use native.Mathlib.Nat.{le_antisymm, le_refl, le_trans}
use mathlib.Core.List.{List, [], ◌∷◌}
use Rattle.rules.specs.Refusals.{Answer, refused, given, Check, first_of, and_then}
use Rattle.rules.specs.Reporting.{Lowest, Row, Then, after, before, here, later}
pub use Rattle.rules.specs.Reporting.{NoRow, Reports}
use Rattle.rules.proofs.Answers.{refused-given, given-one}

pub refused-number : {A : Type 0} {n m p k : ℕ} → ◌≡◌ {A = Answer A} (refused n p) (refused m k) → n ≡ m
refused-number e = cc

pub refused-place : {A : Type 0} {n m p k : ℕ} → ◌≡◌ {A = Answer A} (refused n p) (refused m k) → p ≡ k
refused-place e = cc

module _ {A : Type 0} {low : ℕ} {Wrong : ℕ → Type 0} where
  -- Refused by n exactly where n is the lowest number that applies ..
  pub refused-exactly : (a : Answer A) → Reports low Wrong a → (n : ℕ) → (a ≡ refused n 0) ↔ Lowest Wrong n
  refused-exactly a r n = (λ e. (r.if-refused n 0 e).1, so a refl)
    where
      so : (b : Answer A) → a ≡ b → Lowest Wrong n → a ≡ refused n 0
      so (given x) e l = absurd (r.if-given x e n l.applies)
      so (refused m p) e l =
          let k = r.if-refused m p e in
          let h : m ≡ n = le_antisymm (k.1.no_lower n l.applies) (l.no_lower m k.1.applies) in
          e ∙ (λ i. refused (h i) (k.0 i))

  -- .. and given exactly where none does.
  pub given-exactly : (a : Answer A) → Reports low Wrong a → ((x : A) × (a ≡ given x)) ↔ ((n : ℕ) → Wrong n → ⊥)
  given-exactly a r = (λ g. r.if-given g.0 g.1, so a refl)
    where
      so : (b : Answer A) → a ≡ b → ((n : ℕ) → Wrong n → ⊥) → (x : A) × (a ≡ given x)
      so (given x) e none = (x, e)
      so (refused m p) e none = absurd (none m (r.if-refused m p e).1.applies)

-- what is given, nothing is wrong with
pub nothing-wrong : {A : Type 0} {low : ℕ} {x : A} → Reports low NoRow (given x)
nothing-wrong =
    record { from = λ m w. absurd w; if-given = λ x e n w. w; if-refused = λ n p e. absurd (refused-given (sym e)) }

-- A row, before others with higher numbers.
module _ {Wrong : ℕ → Type 0} {low : ℕ} (number : ℕ) (fact : Type 0) (rises : number ≤ low)
    (from : (m : ℕ) → Wrong m → low ≤ m) where
  row-from : (m : ℕ) → Row number fact Wrong m → number ≤ m
  row-from m (here f) = le_refl number
  row-from m (later w) = le_trans rises (from m w)

  row-here : fact → (n : ℕ) → number ≡ n → Lowest (Row number fact Wrong) n
  row-here f n e =
      subst (λ (k : ℕ). Lowest (Row number fact Wrong) k) e (record { applies = here f; no_lower = row-from })

module _ {Wrong : ℕ → Type 0} (number : ℕ) (fact : Type 0) (no : fact → ⊥) where
  row-none : ((n : ℕ) → Wrong n → ⊥) → (n : ℕ) → Row number fact Wrong n → ⊥
  row-none none n (here f) = no f
  row-none none n (later w) = none n w

  row-later : (n : ℕ) → Lowest Wrong n → Lowest (Row number fact Wrong) n
  row-later n l = record { applies = later l.applies; no_lower = lower }
    where
      lower : (m : ℕ) → Row number fact Wrong m → n ≤ m
      lower m (here f) = absurd (no f)
      lower m (later w) = l.no_lower m w

-- the last row
pub last-from : {fact : Type 0} (number m : ℕ) → Row number fact NoRow m → number ≤ m
last-from number m (here f) = le_refl number
last-from number m (later w) = absurd w

-- A refusal by its own row, before rows with higher numbers.
pub stops : {A : Type 0} {Wrong : ℕ → Type 0} {fact : Type 0} {low : ℕ} (number : ℕ) → fact → number ≤ low
    → ((m : ℕ) → Wrong m → low ≤ m) → Reports {A = A} number (Row number fact Wrong) (refused number 0)
stops {fact = fact} number f rises from =
    record {
      from = row-from number fact rises from;
      if-given = λ x e. absurd (refused-given e);
      if-refused = λ n p e. (cc, row-here number fact rises from f n (cc));
    }

-- What is left, where a row's fact does not hold.
pub passes : {A : Type 0} {Wrong : ℕ → Type 0} {fact : Type 0} {low : ℕ} {rest : Answer A} (number : ℕ) → (fact → ⊥)
    → number ≤ low → Reports low Wrong rest → Reports number (Row number fact Wrong) rest
passes {fact = fact} number never rises r =
    record {
      from = row-from number fact rises r.from;
      if-given = λ x e. row-none number fact never (r.if-given x e);
      if-refused = λ n p e. ((r.if-refused n p e).0, row-later number fact never n (r.if-refused n p e).1);
    }

-- One check, before others with higher numbers: its row is the fact that it tests.
pub check : {A : Type 0} {Wrong : ℕ → Type 0} {fact : Type 0} {low : ℕ} {rest : Answer A} (number : ℕ) (t : Bool)
    → (t ≡ true → fact) → (fact → t ≡ true) → number ≤ low → Reports low Wrong rest
    → Reports number (Row number fact Wrong) (cond t (refused number 0) rest)
check number true so test rises r = stops number (so refl) rises r.from
check number false so test rises r = passes number (λ f. false≢true (test f)) rises r

-- What the parts of a chain of answers report, the chain reports.
module _ {A : Type 0} {first : ℕ → Type 0} {a : Answer A} {following : A → ℕ → Type 0} where
  then-from : {B : Type 0} {next : A → Answer B} (low : ℕ) → Reports low first a
      → ((x : A) → a ≡ given x → Reports low (following x) (next x)) → (m : ℕ) → Then first a following m → low ≤ m
  then-from low r s m (before w) = r.from m w
  then-from low r s m (after x e w) = (s x e).from m w

  then-refused : (n p : ℕ) → a ≡ refused n p → Lowest first n → Lowest (Then first a following) n
  then-refused n p e l = record { applies = before l.applies; no_lower = lower }
    where
      lower : (m : ℕ) → Then first a following m → n ≤ m
      lower m (before w) = l.no_lower m w
      lower m (after x f w) = absurd (refused-given (sym e ∙ f))

  module _ (x : A) (e : a ≡ given x) (none : (n : ℕ) → first n → ⊥) where
    then-given : (n : ℕ) → Then first a following n → following x n
    then-given n (before w) = absurd (none n w)
    then-given n (after y f w) = subst (λ (z : A). following z n) (given-one (sym f ∙ e)) w

    then-after : (n : ℕ) → Lowest (following x) n → Lowest (Then first a following) n
    then-after n l = record { applies = after x e l.applies; no_lower = λ m w. l.no_lower m (then-given m w) }

pub chain : {A B : Type 0} {low : ℕ} {first : ℕ → Type 0} {following : A → ℕ → Type 0} {next : A → Answer B}
    (a : Answer A) → Reports low first a → ((x : A) → a ≡ given x → Reports low (following x) (next x))
    → Reports low (Then first a following) (and_then a next)
chain {low = low} (refused n p) r s =
    record {
      from = then-from low r s;
      if-given = λ x e. absurd (refused-given e);
      if-refused =
          λ m k e. (
            sym (refused-place e) ∙ (r.if-refused n p refl).0,
            subst (Lowest _) (refused-number e) (then-refused n p refl (r.if-refused n p refl).1),
          );
    }
chain {low = low} (given x) r s =
    record {
      from = then-from low r s;
      if-given = λ y e n w. (s x refl).if-given y e n (then-given x refl (r.if-given x refl) n w);
      if-refused =
          λ m k e. (
            ((s x refl).if-refused m k e).0,
            then-after x refl (r.if-given x refl) m ((s x refl).if-refused m k e).1,
          );
    }

-- The same rows, seen from a lower number; and of a chain whose later answers are always given.
pub seen-from : {A : Type 0} {low : ℕ} {Wrong : ℕ → Type 0} {a : Answer A} (k : ℕ) → k ≤ low → Reports low Wrong a
    → Reports k Wrong a
seen-from k h r = record { from = λ m w. le_trans h (r.from m w); if-given = r.if-given; if-refused = r.if-refused }

pub goes-on : {A B : Type 0} {low : ℕ} {Wrong : ℕ → Type 0} {next : A → Answer B} (a : Answer A) → Reports low Wrong a
    → ((x : A) → a ≡ given x → (y : B) × (next x ≡ given y)) → Reports low Wrong (and_then a next)
goes-on (refused n p) r s =
    record {
      from = r.from;
      if-given = λ x e. absurd (refused-given e);
      if-refused = λ m k e. r.if-refused m k (rw (← refused-number e, ← refused-place e));
    }
goes-on (given x) r s =
    record {
      from = r.from;
      if-given = λ y e. r.if-given x refl;
      if-refused = λ m k e. absurd (refused-given (sym e ∙ (s x refl).1));
    }

-- No check finds something wrong.
abbrev pub None : List Check → Type 0
None [] = Unit
None (c ∷ cs) = (c.wrong ≡ false) × None cs

-- A list of checks is passed exactly where none finds something wrong, and then the answer is the rest's.
pub first-given : {A : Type 0} (cs : List Check) (a : Answer A) (x : A)
    → (first_of cs a ≡ given x) ↔ (None cs × (a ≡ given x))
first-given [] a x = (λ e. (tt, e), λ h. h.1)
first-given (c ∷ cs) a x = on c.wrong (first-given cs a x)
  where
    on : (t : Bool) → (first_of cs a ≡ given x) ↔ (None cs × (a ≡ given x))
        → (cond t (refused c.number c.place) (first_of cs a) ≡ given x) ↔ (((t ≡ false) × None cs) × (a ≡ given x))
    on true more = (λ e. absurd (refused-given e), λ h. absurd (false≢true (sym h.0.0)))
    on false more = (λ e. ((refl, (more.0 e).0), (more.0 e).1), λ h. more.1 (h.0.1, h.1))
