-- A refusal is not something given; what a chain of answers gives, each of its parts gave; what can be read back from
-- its paper is one.
-- Assumes nothing.
use Prim.Native.Nat.{ℕ}
use mathlib.Core.Bool.{Bool, true, false, false≢true}
use mathlib.Core.Path.{◌≡◌, refl, sym, ap, ◌∙◌}
use Rattle.rules.specs.Refusals.{Answer, refused, given, and_then}
use Rattle.rules.specs.History.{placed}

is_given : {A : Type 0} → Answer A → Bool
is_given (refused n p) = false
is_given (given a) = true

pub refused-given : {A : Type 0} {n p : ℕ} {a : A} → refused n p ≡ given a → ⊥
unfolding is_given
refused-given e = false≢true (ap is_given e)

pub then-given : {A B : Type 0} (a : Answer A) (next : A → Answer B) (b : B) → and_then a next ≡ given b
    → (x : A) × (a ≡ given x) × (next x ≡ given b)
then-given (refused n p) next b e = absurd (refused-given e)
then-given (given x) next b e = (x, refl, e)

-- what is always given after it is refused only where it is
pub refused-then : {A B : Type 0} (a : Answer A) (f : A → B) (n p : ℕ) → and_then a (λ x. given (f x)) ≡ refused n p
    → a ≡ refused n p
refused-then (refused m q) f n p e = cc
refused-then (given x) f n p e = absurd (refused-given (sym e))

-- what goes on alike ends alike
pub then-alike : {A B : Type 0} {next later : A → Answer B} (a : Answer A) → ((x : A) → next x ≡ later x)
    → and_then a next ≡ and_then a later
then-alike (refused n p) h = refl
then-alike (given x) h = h x

-- three answers in a row, however they are taken together
pub then-then : {A B C : Type 0} (a : Answer A) (next : A → Answer B) (last : B → Answer C)
    → and_then (and_then a next) last ≡ and_then a (λ x. and_then (next x) last)
then-then (refused n p) next last = refl
then-then (given x) next last = refl

pub placed-given : {A : Type 0} (k : ℕ) (a : Answer A) (x : A) → placed k a ≡ given x → a ≡ given x
placed-given k (refused n p) x e = absurd (refused-given e)
placed-given k (given a) x e = e

pub given-one : {A : Type 0} {a b : A} → given a ≡ given b → a ≡ b
given-one e = cc

-- Where `back` undoes `paper`, two values that are the same on paper are the same.
pub read-back : {A B : Type 0} (paper : A → B) (back : B → A) → ((a : A) → back (paper a) ≡ a) → (a b : A)
    → paper a ≡ paper b → a ≡ b
read-back paper back undoes a b e = sym (undoes a) ∙ ap back e ∙ undoes b

-- the case that the code meets is the definition's answer
pub met : {R A : Type 0} (paper : R → Answer A) {r x : R} {a : Answer A} → r ≡ x → paper r ≡ a → paper x ≡ a
met paper e f = ap paper (sym e) ∙ f
