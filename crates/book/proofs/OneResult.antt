-- Each promise of `book` admits one result: two answers that are the same on paper are the same.
-- Assumes nothing.
use Prim.Native.Nat.{ℕ}
use mathlib.Core.Path.{◌≡◌, refl}
use Rattle.std.specs.Prelude.{Result}
use Rattle.refusals.specs.Paper.{answer_by, itself}
use Rattle.refusals.specs.declared.Refusal.{Refusal}
use Rattle.refusals.proofs.OneResult.{answer-one}

pub book-one : (a b : Result (Unit {0}) Refusal) → answer_by itself a ≡ answer_by itself b → a ≡ b
book-one = answer-one itself itself (λ x. refl)

pub found-one : (a b : Result ℕ Refusal) → answer_by itself a ≡ answer_by itself b → a ≡ b
found-one = answer-one itself itself (λ x. refl)
