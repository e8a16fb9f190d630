-- Fractions in a run of calls: one nonconforming item is accepted under 1/2 exactly after one clean lot of the present
-- stay on the same plan, under 1/3 exactly after two; of every lot that is judged in the mode, and of every one that
-- the run enters as on a fraction, closed or handed over.
-- Assumes nothing.
use Prim.Native.Nat.{ℕ, suc, ◌≤◌}
use mathlib.Core.Path.{◌≡◌, refl, sym, ap, subst, ◌∙◌}
use mathlib.Core.Bool.{Bool, true, false, cond}
use mathlib.Core.List.{List}
use mathlib.Core.Logic.{◌↔◌, ◌⊎◌, inl, inr}
use native.Mathlib.Omega.{arith}
use lib.Dec.{eqb}
use Rattle.rules.specs.Refusals.{given}
use Rattle.rules.specs.Verdict.{Verdict, Judged}
use Rattle.rules.specs.Single.{Plan}
use Rattle.rules.specs.Severity.{Lot, add_two, score_zero, accepted, Origin, typed, sampled, on_fraction, Event, lot}
use Rattle.rules.specs.Severity.{resubmitted, steady_is, permission_is, corrective, unknown, counted}
use Rattle.rules.specs.Reading.{severity_read}
use Rattle.rules.specs.Fractional.{share_at, has_fractional_plan, FractionalPlan, fraction_accepts}
use Rattle.rules.specs.Supply.{Supply, run_on, lot_on, counts_on}
use Rattle.rules.specs.CleanReading.{origins_in, clean_of}
use Rattle.rules.specs.History.{Work}
use Rattle.rules.specs.Entries.{Asked, Offered, asked_on, single_plan, in_fractions, fractional_plan, judge_fractional}
use Rattle.rules.specs.Judging.{Passes, at_most, clean-sample, under-half, under-third}
use Rattle.rules.specs.Runs.{Call, ran, events_ran, ByCall}
use Rattle.rules.specs.Switching.{NewestClean, AcceptedAfter, CountsOnFraction, FractionCounts}
use Rattle.rules.proofs.Answers.{then-given}
use Rattle.rules.proofs.Tables.{letter-within}
use Rattle.rules.proofs.Agreement.{severity-agrees}
use Rattle.rules.proofs.CleanRuns.{clean-before}
use Rattle.rules.proofs.Fractions.{InMode, whole, fraction, in-mode, fractional-plan-exactly, accepts-exactly}
use Rattle.rules.proofs.Fractions.{half-exactly, third-exactly}
use Rattle.rules.proofs.Demands.Fractional.{judge-fractional-given}
use Rattle.rules.proofs.Runs.{ran-agrees, ran-clean, each-call, call-counts}

-- a plan with a share is a fractional plan at the lot's severity
fraction-stands : (q : Asked) (book : List ℕ) (p : FractionalPlan) → fractional_plan q book ≡ given p
    → (p.share ≡ 0 → ⊥) → has_fractional_plan q.severity q.column p.plan.letter ≡ true
unfolding fractional_plan
fraction-stands q book p g some =
    let x = then-given (single_plan q book) (in_fractions q) p g in
    on (in-mode q x.0 p x.2)
  where
    on : {plan : Plan} → InMode q plan p → has_fractional_plan q.severity q.column p.plan.letter ≡ true
    on (whole none e) = absurd (some (ap (λ (x : FractionalPlan). x.share) (sym e)))
    on (fraction own c e) =
        rw (← e)
        ((fractional-plan-exactly q.severity q.column _).1
        (omega (arith, letter-within q.size q.level), c, own))

-- A lot that is judged in the mode, in a run.
module _ (w : Work) (cs : List Call) (o : Offered) (book sample : List ℕ) (j : Judged FractionalPlan Verdict)
    (g : judge_fractional (ran w cs) o book sample ≡ given j) where
  abbrev letter : ℕ
  letter = j.plan.plan.letter

  -- the original lots since the present stay began
  abbrev lots : List Origin
  lots = origins_in w.permission (events_ran w cs)

  -- so many clean lots just before, by the clean run and by the lots themselves
  before-exactly : (j.plan.share ≡ 0 → ⊥) → (k : ℕ) → k ≤ 2
      → (k ≤ run_on (ran w cs).clean letter o.column) ↔ NewestClean k letter o.column lots
  before-exactly some k few =
      let v = severity-agrees w.permission (events_ran w cs) (ran w cs).switching (ran-agrees w cs) in
      let f = fraction-stands (asked_on (ran w cs).switching o) book j.plan
      ((judge-fractional-given (ran w cs) o book sample j).0 g).1 some in
      rw (ran-clean w cs)
      (clean-before (severity_read w.permission (events_ran w cs)) letter o.column
      (subst (λ (x : ℕ). has_fractional_plan x o.column letter ≡ true) v f) lots k few)

  abbrev Passed : Type 0
  Passed = Passes j.plan (run_on (ran w cs).clean letter o.column) j.verdict.total

  -- the sample passes as the run says
  passed : (j.verdict.accepted ≡ true) ↔ Passed
  passed =
      let v = ((judge-fractional-given (ran w cs) o book sample j).0 g).2 in
      subst
      (λ (t : ℕ). (j.verdict.accepted ≡ true) ↔ Passes j.plan (run_on (ran w cs).clean letter o.column) t)
      (ap (λ (x : Verdict). x.total) v.verdict)
      v.accepted-exactly

  in-run : (k : ℕ) → k ≤ 2 → j.plan.share ≡ suc k
      → (j.verdict.total ≡ 1 → k ≤ run_on (ran w cs).clean letter o.column → Passed)
      → AcceptedAfter k letter o.column lots j.verdict.total j.verdict.accepted
  in-run k few s enough = (λ a. so (passed.0 a), λ h. passed.1 (back h))
    where
      some : j.plan.share ≡ 0 → ⊥
      some z = omega arith

      so : Passed → (j.verdict.total ≡ 0) ⊎ ((j.verdict.total ≡ 1) × NewestClean k letter o.column lots)
      so (at_most none h) = absurd (some none)
      so (clean-sample own z) = inl z
      so (under-half h one m) = inr (one, (before-exactly some k few).0 (omega arith))
      so (under-third h one m) = inr (one, (before-exactly some k few).0 (omega arith))

      back : (j.verdict.total ≡ 0) ⊎ ((j.verdict.total ≡ 1) × NewestClean k letter o.column lots) → Passed
      back (inl z) = clean-sample some z
      back (inr h) = enough h.0 ((before-exactly some k few).1 h.1)

  pub half-in-run : j.plan.share ≡ 2
      → AcceptedAfter 1 letter o.column lots j.verdict.total j.verdict.accepted
  half-in-run s = in-run 1 (omega arith) s (λ one m. under-half s one m)

  pub third-in-run : j.plan.share ≡ 3
      → AcceptedAfter 2 letter o.column lots j.verdict.total j.verdict.accepted
  third-in-run s = in-run 2 (omega arith) s (λ one m. under-third s one m)

-- as a lot counts, it is accepted or not
counted-accepted : (v : ℕ) (a : Bool) → accepted (counted v a add_two) ≡ a
counted-accepted v true = either (eqb v 0)
  where
    either : (d : Bool) → accepted (cond d add_two score_zero) ≡ true
    either true = refl
    either false = refl
counted-accepted v false = refl

-- A lot that counts as it stands on a fractional plan, after the lots of its stay.
module _ (v : ℕ) (os : List Origin) (letter column total : ℕ) (l : Lot)
    (f : has_fractional_plan v column letter ≡ true)
    (e : lot_on v (clean_of v os) (on_fraction letter column total) l ≡ l) where
  abbrev passes : ℕ → Bool
  passes share = fraction_accepts share (run_on (clean_of v os) letter column) total

  counts : counted v (passes (share_at v column letter)) add_two ≡ l
  counts = rw f at e

  as-passes : accepted l ≡ passes (share_at v column letter)
  as-passes = ap accepted (sym counts) ∙ counted-accepted v (passes (share_at v column letter))

  after : (k : ℕ) → k ≤ 2 → share_at v column letter ≡ suc k → AcceptedAfter k letter column os total (accepted l)
  after k few s =
      let a : accepted l ≡ passes (suc k) = as-passes ∙ ap passes s in
      let x = accepts-exactly k (run_on (clean_of v os) letter column) total in
      let b = clean-before v letter column f os k few in
      (λ h. so b (x.0 (sym a ∙ h)), λ h. a ∙ x.1 (back b h))
    where
      so : (k ≤ run_on (clean_of v os) letter column) ↔ NewestClean k letter column os
          → (total ≡ 0) ⊎ ((total ≡ 1) × (k ≤ run_on (clean_of v os) letter column))
          → (total ≡ 0) ⊎ ((total ≡ 1) × NewestClean k letter column os)
      so b (inl z) = inl z
      so b (inr h) = inr (h.0, b.0 h.1)

      back : (k ≤ run_on (clean_of v os) letter column) ↔ NewestClean k letter column os
          → (total ≡ 0) ⊎ ((total ≡ 1) × NewestClean k letter column os)
          → (total ≡ 0) ⊎ ((total ≡ 1) × (k ≤ run_on (clean_of v os) letter column))
      back b (inl z) = inl z
      back b (inr h) = inr (h.0, b.1 h.1)

  on-fraction-counts : CountsOnFraction v os letter column total l
  on-fraction-counts = record {
    one-half = λ h. after 1 (omega arith) ((half-exactly v column letter).1 h);
    one-third = λ h. after 2 (omega arith) ((third-exactly v column letter).1 h);
    as-ac-0 = λ a. sym counts ∙ ap (λ (d : Bool). counted v d add_two) (sym as-passes ∙ a);
  }

lot-one : {o : Origin} {a b : Lot} → lot o a ≡ lot o b → a ≡ b
lot-one e = cc

event-counts : (s : Supply) (v : ℕ) (os : List Origin) → s.switching.severity ≡ v → s.clean ≡ clean_of v os
    → (e : Event) → counts_on s e ≡ e → FractionCounts v os e
event-counts s v os p q (lot typed l) h = tt
event-counts s v os p q (lot sampled l) h = tt
event-counts s v os p q (lot (on_fraction letter column total) l) h =
    λ f. on-fraction-counts v os letter column total l f (rw (p, q) at (lot-one h))
event-counts s v os p q resubmitted h = tt
event-counts s v os p q (steady_is b) h = tt
event-counts s v os p q (permission_is b) h = tt
event-counts s v os p q corrective h = tt
event-counts s v os p q unknown h = tt

-- Whatever a call enters as on a fraction counts so.
pub call-fractions : (w : Work) (c : Call) (cs : List Call)
    → ByCall w c cs
    (λ e s.
    FractionCounts (severity_read w.permission (events_ran w cs)) (origins_in w.permission (events_ran w cs)) e)
call-fractions w c cs =
    each-call w c cs _ _
    (λ e s h.
    event-counts (ran w cs) (severity_read w.permission (events_ran w cs)) (origins_in w.permission (events_ran w cs))
    (severity-agrees w.permission (events_ran w cs) (ran w cs).switching (ran-agrees w cs))
    (ran-clean w cs)
    e h)
    (call-counts w c cs)
