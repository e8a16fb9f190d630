-- Each promise admits one result, and one state of the buffer or the record that is lent.
-- Assumes nothing.
use Prim.Native.Nat.{ℕ}
use mathlib.Core.Path.{◌≡◌, refl, sym, ap, ◌∙◌}
use mathlib.Core.List.{List}
use Rattle.std.specs.Prelude.{Result}
use Rattle.rules.specs.Refusals.{Answer}
use Rattle.rules.specs.Supply as paper
use Rattle.rules.specs.History.{Work}
use Rattle.refusals.specs.declared.Refusal.{Refusal}
use Rattle.refusals.specs.Paper.{answer_by, itself}
use Rattle.refusals.proofs.OneResult.{answer-one}
use Rattle.severity.specs.declared.Event.{Event}
use Rattle.supply.specs.declared.Supply.{Supply}
use Rattle.supply.specs.Paper.{supply_paper}
use Rattle.supply.proofs.OneResult.{supply-one, moved-one}
use Rattle.history.specs.Paper.{Lists, kept_of, Closes}

-- of list_severities: the answer, and the lent buffer
pub lists-one : (w : Work) (h out last last' : List ℕ) (r r' : Result ℕ Refusal) → Lists w h out last r
    → Lists w h out last' r' → (r ≡ r') × (last ≡ last')
lists-one w h out last last' r r' c d =
    (answer-one itself itself (λ x. refl) r r' (c.answer ∙ sym d.answer), c.buffer ∙ sym d.buffer)

-- of close_lot: the answer, and the lent record
pub closes-one : (old : Supply) (e : Event) (new new' : Supply) (r r' : Result Supply Refusal) → Closes old e new r
    → Closes old e new' r' → (r ≡ r') × (new ≡ new')
closes-one old e new new' r r' c d =
    let f : answer_by supply_paper r ≡ answer_by supply_paper r' = c.answer ∙ sym d.answer in (
      moved-one r r' f,
      supply-one new new' (c.left ∙ (ap (λ (a : Answer paper.Supply). kept_of a (supply_paper old)) f ∙ sym d.left)),
    )
