-- Each promise of `showing` admits one answer, and one state of the row that is lent.
-- Assumes nothing.
use Prim.Native.Nat.{ℕ}
use mathlib.Core.Path.{◌≡◌, refl, sym, ◌∙◌}
use mathlib.Core.List.{List}
use Rattle.std.proofs.Common.{Result}
use Rattle.rules.specs.Refusals.{Answer}
use Rattle.refusals.specs.Paper.{itself, answer_by}
use Rattle.refusals.specs.declared.Refusal.{Refusal}
use Rattle.refusals.proofs.OneResult.{answer-one}
use Rattle.showing.specs.Paper.{RowLeft}

pub counted-one : (a b : Result ℕ Refusal) → answer_by itself a ≡ answer_by itself b → a ≡ b
counted-one = answer-one itself itself (λ n. refl)

pub row-left-one : {row : Answer (List ℕ)} {r s : Result ℕ Refusal} {before after other : List ℕ}
    → RowLeft row r before after → RowLeft row s before other → (r ≡ s) × (after ≡ other)
row-left-one {r = r} {s = s} a b = (counted-one r s (a.told ∙ sym b.told), a.left ∙ sym b.left)
