-- The promise of `writing` admits one answer and one state of the buffer that is lent.
-- Assumes nothing.
use Prim.Native.Nat.{ℕ}
use mathlib.Core.Path.{◌≡◌, refl, sym, ◌∙◌}
use mathlib.Core.List.{List}
use Rattle.std.proofs.Common.{Result}
use Rattle.rules.specs.Refusals.{Answer}
use Rattle.refusals.specs.Paper.{itself}
use Rattle.refusals.specs.declared.Refusal.{Refusal}
use Rattle.refusals.proofs.OneResult.{answer-one}
use Rattle.writing.specs.Paper.{BookLeft}

pub book-left-one : {book : Answer (List ℕ)} {r s : Result ℕ Refusal} {before after other : List ℕ}
    → BookLeft book r before after → BookLeft book s before other → (r ≡ s) × (after ≡ other)
book-left-one {r = r} {s = s} a b =
    (answer-one itself itself (λ n. refl) r s (a.told ∙ sym b.told), a.left ∙ sym b.left)
