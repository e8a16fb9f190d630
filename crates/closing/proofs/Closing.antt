-- What a lot enters into its record, on whatever plan, and a lot closed by its total.
-- Assumes nothing.
use Prim.Native.Nat.{ℕ}
use mathlib.Core.Path.{◌≡◌, refl, sym, ap, ◌∙◌}
use mathlib.Core.Bool.{Bool, true, false, cond, not}
use Rattle.std.specs.Prelude.{Result, Ok, Err}
use Rattle.std.specs.Result.{MatchResult, IsOkAnd}
use Rattle.refusals.specs.declared.Refusal.{Refusal}
use Rattle.refusals.specs.Paper.{answer_by, itself}
use Rattle.rules.specs.Refusals.{Answer, refused, given, and_then}
use Rattle.rules.specs.Verdict.{Verdict}
use Rattle.rules.specs.Single.{Plan}
use Rattle.rules.specs.Severity.{Event}
use Rattle.rules.specs.Supply.{Supply, move, supply_in_range}
use Rattle.rules.specs.Entries.{Asked, Offered, asked_on, single_event, on_supply, closed_with}
use Rattle.rules.specs.Entries.{judge_total, close_total}
use Rattle.rules.specs.Entries as rules
use Rattle.rules.specs.Verdict as verdicts
use Rattle.plans.specs.declared.SinglePlan.{SinglePlan}
use Rattle.plans.specs.declared.Judged.{Judged}
use Rattle.plans.specs.Paper.{plan_paper, verdict_paper, judged_by}
use Rattle.severity.specs.Paper.{record_paper}
use Rattle.supply.specs.declared.Supply as declared-supply
use Rattle.supply.specs.Paper.{supply_paper}
use Rattle.closing.specs.declared.Offered as declared
use Rattle.closing.specs.declared.Closed.{Closed}
use Rattle.closing.specs.Paper.{offered_paper, judged_on, entered, closed_by}

-- Which plan it was is no part of what a lot enters: what is entered on a plan by one paper is entered on it by any
-- further one.
module _ {P A B : Type 0} (paper : P → A) (further : A → B) where
  mapped : Answer (rules.Closed A) → Answer (rules.Closed B)
  mapped (refused n p) = refused n p
  mapped (given c) =
      given
      (record {
        judged = judged_on (further c.judged.plan) c.judged.verdict;
        event = c.event;
        supply_after = c.supply_after;
      })

  mapped-closed : (r : Result (Closed P) Refusal)
      → mapped (answer_by (closed_by paper) r) ≡ answer_by (closed_by (λ p. further (paper p))) r
  unfolding mapped
  mapped-closed (Ok c) = refl
  mapped-closed (Err e) = refl

  module _ (s : Supply) (e : Event) (plan : A) (v : Verdict) where
    abbrev entering : {Q : Type 0} → Q → Answer Supply → Answer (rules.Closed Q)
    entering q a = and_then a (λ t. given (record { judged = judged_on q v; event = e; supply_after = t }))

    mapped-entered : (t : Bool) (a : Answer Supply)
        → mapped (cond t (refused 1 0) (entering plan a)) ≡ cond t (refused 1 0) (entering (further plan) a)
    unfolding mapped
    mapped-entered true a = refl
    mapped-entered false (refused n p) = refl
    mapped-entered false (given t) = refl

    pub entered-on : (r : Result (Closed P) Refusal)
        → answer_by (closed_by paper) r ≡ on_supply s (entered s e (judged_on plan v))
        → answer_by (closed_by (λ p. further (paper p))) r ≡ on_supply s (entered s e (judged_on (further plan) v))
    entered-on r h = sym (mapped-closed r) ∙ ap mapped h ∙ mapped-entered (not (supply_in_range s)) (move s e)

module _ {P A : Type 0} (paper : P → A) where
  -- what is entered on the code's plan is entered on its paper
  pub entered-by : (s : Supply) (e : Event) (j : Judged P) (r : Result (Closed P) Refusal)
      → answer_by (closed_by itself) r ≡ on_supply s (entered s e (judged_by itself j))
      → answer_by (closed_by paper) r ≡ on_supply s (entered s e (judged_by paper j))
  entered-by s e j r h = entered-on itself paper s e j.plan (verdict_paper j.verdict) r h

  -- a lot that was judged is taken into its record, on whatever plan
  pub taken-given : (s : Supply) (event : verdicts.Judged A Verdict → Event) (judged : Result (Judged P) Refusal)
      (r : Result (Closed P) Refusal) (j : Judged P) (e : Event) → judged ≡ Ok j → e ≡ event (judged_by paper j)
      → answer_by (closed_by itself) r ≡ on_supply s (entered s e (judged_by itself j))
      → answer_by (closed_by paper) r
      ≡ and_then (answer_by (judged_by paper) judged) (λ k. on_supply s (closed_with s event k))
  taken-given s event judged r j e g stands h = rw g (rw stands at (entered-by s e j r h))

-- what a lot judged on a single plan is taken as
abbrev pub AsTaken : declared-supply.Supply → declared.Offered → Judged SinglePlan → Result (Closed SinglePlan) Refusal
    → Type 0
AsTaken old lot j r =
    answer_by (closed_by plan_paper) r
    ≡ on_supply (supply_paper old)
    (closed_with (supply_paper old) (single_event (record_paper old.switching) (offered_paper lot))
    (judged_by plan_paper j))

-- What was taken tells how the lot was judged, whatever refuses one: ..
module _ {J C E : Type 0} (Is : J → C → Type 0) where
  -- .. a lot that was closed was judged, and is closed as it was judged ..
  pub closed-of : (judged : Result J E) (a : Result C E) (x : C) → a ≡ Ok x
      → MatchResult judged (λ j. IsOkAnd a (Is j)) (λ e. a ≡ Err e) → (j : J) × (judged ≡ Ok j) × Is j x
  closed-of (Ok j) a x e h = (j, refl, rw e at h)
  closed-of (Err d) a x e h = cc

  -- .. and one that was refused was refused by that very value.
  pub refused-of : (judged : Result J E) (a : Result C E) (d : E) → a ≡ Err d
      → MatchResult judged (λ j. IsOkAnd a (Is j)) (λ e. a ≡ Err e) → judged ≡ Err d
  refused-of (Ok j) a d e h = absurd (rw e at h)
  refused-of (Err f) a d e h = cc

-- a lot judged by its total and closed
module _ (x : Answer (rules.Closed Plan)) (s : Supply) (o : Offered) (total : ℕ) (t : Bool)
    (range : t ≡ supply_in_range s) where
  -- on a record in range ..
  pub closed-total : (q : Asked) (b : Answer (verdicts.Judged Plan Verdict)) → t ≡ true → q ≡ asked_on s.switching o
      → b ≡ judge_total q total
      → x ≡ and_then b (λ j. on_supply s (closed_with s (single_event s.switching o) j)) → x ≡ close_total s o total
  unfolding close_total
  closed-total q b e asked judged k =
      let within : supply_in_range s ≡ true = sym range ∙ e in rw (within, ← asked, ← judged) (rw within at k)

  -- .. and on one out of range
  pub closed-out : t ≡ false → x ≡ refused 1 0 → x ≡ close_total s o total
  unfolding close_total
  closed-out e k = rw (sym range ∙ e) k
