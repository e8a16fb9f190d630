-- Each promise of a public function admits one result: document 01's answer tells the code's, where the plan's own
-- paper tells the plan. That of an event stands in severity.
-- Assumes nothing.
use mathlib.Core.Path.{◌≡◌, refl, sym, ap, ◌∙◌}
use Rattle.std.specs.Prelude.{Result, Ok, Err}
use Rattle.std.specs.Result.{MatchResult, IsOkAnd}
use Rattle.refusals.specs.declared.Refusal.{Refusal}
use Rattle.refusals.specs.Paper.{answer_by, itself}
use Rattle.refusals.proofs.OneResult as results
use Rattle.rules.specs.Entries as rules
use Rattle.plans.specs.declared.SinglePlan.{SinglePlan}
use Rattle.plans.specs.declared.Judged.{Judged}
use Rattle.plans.specs.Paper.{plan_paper, judged_by}
use Rattle.plans.proofs.OneResult.{plan_back, judged_back, judged-back}
use Rattle.severity.specs.declared.Event.{Event}
use Rattle.severity.proofs.OneResult.{event_back, event-back}
use Rattle.supply.specs.declared.Supply.{Supply}
use Rattle.supply.proofs.OneResult.{supply_back}
use Rattle.closing.specs.declared.Offered.{Offered}
use Rattle.closing.specs.declared.Closed.{Closed}
use Rattle.closing.specs.Paper.{closed_by}
use Rattle.closing.proofs.Closing.{AsTaken}

module _ {P A : Type 0} (plan_of : P → A) (back : A → P) (same : (p : P) → back (plan_of p) ≡ p) where
  abbrev closed_back : rules.Closed A → Closed P
  closed_back c =
      record {
        judged = judged_back plan_of back same c.judged;
        event = event_back c.event;
        supply_after = supply_back c.supply_after;
      }

  closed-back : (c : Closed P) → closed_back (closed_by plan_of c) ≡ c
  closed-back c =
      ap
      (λ (j : Judged P).
      record {
        judged = j;
        event = event_back (closed_by plan_of c).event;
        supply_after = c.supply_after;
      })
      (judged-back plan_of back same c.judged)
      ∙ ap (λ (e : Event). record { judged = c.judged; event = e; supply_after = c.supply_after }) (event-back c.event)

  -- of every closing
  pub closed-one : (a b : Result (Closed P) Refusal)
      → answer_by (closed_by plan_of) a ≡ answer_by (closed_by plan_of) b → a ≡ b
  closed-one = results.answer-one (closed_by plan_of) closed_back closed-back

-- of enter
pub answer-one : {P : Type 0} (a b : Result (Closed P) Refusal)
    → answer_by (closed_by itself) a ≡ answer_by (closed_by itself) b → a ≡ b
answer-one a b e = closed-one itself itself (λ p. refl) a b e

-- of take_single, whatever refuses a lot: a refusal is handed on as it is
module _ {E : Type 0} (old : Supply) (lot : Offered) where
  abbrev Taken : Result (Judged SinglePlan) E → Result (Result (Closed SinglePlan) Refusal) E → Type 0
  Taken judged r = MatchResult judged (λ j. IsOkAnd r (AsTaken old lot j)) (λ e. r ≡ Err e)

  pub taken-one : (judged : Result (Judged SinglePlan) E) (a b : Result (Result (Closed SinglePlan) Refusal) E)
      → Taken judged a → Taken judged b → a ≡ b
  taken-one (Ok j) (Ok x) (Ok y) h k =
      ap (λ (z : Result (Closed SinglePlan) Refusal). Ok z) (closed-one plan_paper plan_back (λ p. refl) x y (h ∙ sym k))
  taken-one (Ok j) (Ok x) (Err e) h k = absurd k
  taken-one (Ok j) (Err e) b h k = absurd h
  taken-one (Err e) a b h k = h ∙ sym k

-- of a single lot that was judged
pub judged-one : (a b : Result (Judged SinglePlan) Refusal)
    → answer_by (judged_by plan_paper) a ≡ answer_by (judged_by plan_paper) b → a ≡ b
judged-one =
    results.answer-one (judged_by plan_paper) (judged_back plan_paper plan_back (λ p. refl))
    (judged-back plan_paper plan_back (λ p. refl))
