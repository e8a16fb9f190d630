-- The clean run of a supply, step by step, is the one that the written reading finds; and what a run on a plan says of
-- the lots just before.
-- Assumes nothing.
use Prim.Native.Nat.{ℕ, zero, suc, ◌≤◌, min}
use mathlib.Core.Path.{◌≡◌, refl, sym, ap, subst, ◌∙◌}
use mathlib.Core.Bool.{Bool, true, false, cond, ◌&&◌, false≢true}
use mathlib.Core.List.{List, [], ◌∷◌}
use mathlib.Core.Logic.{◌↔◌}
use native.Mathlib.Omega.{arith}
use borrow.Author.Tests.{eqb-true, eq-eqb}
use lib.Dec.{eqb}
use lib.ListN.{length, take}
use Rattle.rules.specs.Refusals.{given}
use Rattle.rules.specs.Severity.{Lot, Origin, typed, sampled, on_fraction, Event, lot, resubmitted, steady_is}
use Rattle.rules.specs.Severity.{permission_is, corrective, unknown}
use Rattle.rules.specs.Reading.{Stay, stay_of, lots_with, severity_read, stays_by, stays_in}
use Rattle.rules.specs.History.{after}
use Rattle.rules.specs.Fractional.{has_fractional_plan}
use Rattle.rules.specs.Supply.{no_run, Supply, run_on, longer_run, clean_from, clean_by, clean_after}
use Rattle.rules.specs.CleanReading.{origins_with, origins_in, clean_on, unbroken, held_run, clean_of, clean_read}
use Rattle.rules.specs.CleanReading.{all_origins, present_lots}
use Rattle.rules.specs.Planning.{Took}
use Rattle.rules.specs.Switching.{FirstIs, NewestClean}
use Rattle.rules.proofs.Bools.{and-left, and-right}
use Rattle.rules.proofs.Append.{and-one-event}
use Rattle.rules.proofs.Agreement.{severity-agrees}
use Rattle.rules.proofs.Stays.{stays-whole}

no-run-on : (letter column : ℕ) → run_on no_run letter column ≡ 0
no-run-on letter column = simp either
  where
    either : (d : Bool) → ◌≡◌ {A = ℕ} (cond d 0 0) 0
    either true = refl
    either false = refl

-- the run of a stay, as far as it is on a plan, is how many of the newest are clean on that plan
module _ (v letter column : ℕ) (fraction : has_fractional_plan v column letter ≡ true) where
  same-plan : (k : ℕ) → run_on (held_run v letter column k) letter column ≡ min 2 k
  same-plan zero = no-run-on letter column
  same-plan (suc k) = rw (fraction, eq-eqb letter letter refl, eq-eqb column column refl)

  other-plan : (l c : ℕ) → eqb l letter && eqb c column ≡ false → (k : ℕ)
      → run_on (held_run v l c k) letter column ≡ 0
  other-plan l c h zero = no-run-on letter column
  other-plan l c h (suc k) = go (has_fractional_plan v c l)
    where
      go : (f : Bool)
          → run_on (cond f (record { run = min 2 (suc k); letter = l; column = c }) no_run) letter column ≡ 0
      go true = rw h
      go false = no-run-on letter column

  run-on : (os : List Origin) → run_on (clean_of v os) letter column ≡ min 2 (unbroken letter column os)
  unfolding clean_of unbroken
  run-on [] = no-run-on letter column
  run-on (typed ∷ os) = no-run-on letter column
  run-on (sampled ∷ os) = no-run-on letter column
  run-on (on_fraction l c total ∷ os) = go (eqb l letter) refl (eqb c column) refl
    where
      go : (a : Bool) → eqb l letter ≡ a → (b : Bool) → eqb c column ≡ b
          → run_on (held_run v l c (unbroken l c (on_fraction l c total ∷ os))) letter column
          ≡ min 2 (unbroken letter column (on_fraction l c total ∷ os))
      go true p true q =
          let Goal : ℕ → ℕ → Type 0 =
          λ x y. run_on (held_run v x y (unbroken x y (on_fraction x y total ∷ os))) letter column
          ≡ min 2 (unbroken letter column (on_fraction x y total ∷ os)) in
          subst (λ (x : ℕ). Goal x c) (sym (eqb-true l letter p))
          (subst (λ (y : ℕ). Goal letter y) (sym (eqb-true c column q))
          (same-plan (unbroken letter column (on_fraction letter column total ∷ os))))
      go true p false q = rw (other-plan l c (rw (p, q)) (unbroken l c (on_fraction l c total ∷ os)), p, q)
      go false p b q = rw (other-plan l c (rw p) (unbroken l c (on_fraction l c total ∷ os)), p)

-- one lot more, in the same stay
from-read : (v : ℕ) (o : Origin) (os : List Origin) → clean_from v (clean_of v os) o ≡ clean_of v (o ∷ os)
unfolding clean_of unbroken
from-read v typed os = refl
from-read v sampled os = refl
from-read v (on_fraction letter column total) os =
    rw (eq-eqb letter letter refl, eq-eqb column column refl)
    (go (has_fractional_plan v column letter) refl (eqb total 0))
  where
    held : (k : ℕ) → has_fractional_plan v column letter ≡ false → held_run v letter column k ≡ no_run
    held zero h = refl
    held (suc k) h = rw h

    more : (a b : ℕ) → a ≡ min 2 b → min 2 (suc a) ≡ min 2 (suc b)
    more a b e = omega arith

    go : (f : Bool) → has_fractional_plan v column letter ≡ f → (z : Bool)
        → cond (f && z) (longer_run (clean_of v os) letter column) no_run
        ≡ held_run v letter column (cond z (suc (unbroken letter column os)) 0)
    go true h true =
        rw h
        (ap (λ (k : ℕ). record { run = k; letter = letter; column = column })
        (more (run_on (clean_of v os) letter column) (unbroken letter column os) (run-on v letter column h os)))
    go true h false = refl
    go false h z = sym (held (cond z (suc (unbroken letter column os)) 0) h)

by-read : (v : ℕ) (e : Event) (os : List Origin) → clean_by v (clean_of v os) e ≡ clean_of v (origins_with e os)
by-read v (lot o l) os = from-read v o os
by-read v resubmitted os = refl
by-read v (steady_is b) os = refl
by-read v (permission_is b) os = refl
by-read v corrective os = refl
by-read v unknown os = refl

pub clean-fresh : (start : Bool) → no_run ≡ clean_read start []
unfolding clean_of origins_in
clean-fresh start = refl

-- One event more: the clean run by its own step is the one that the written reading finds.
pub clean-one-event : (start : Bool) (e : Event) (es : List Event) (s t : Supply)
    → after start es ≡ given s.switching → s.clean ≡ clean_read start es → Took s e t
    → t.clean ≡ clean_read start (e ∷ es)
unfolding origins_in clean_of
clean-one-event start e es s t q h k =
    let b : s.switching.severity ≡ severity_read start es = severity-agrees start es s.switching q in
    let a : t.switching.severity ≡ severity_read start (e ∷ es) =
    severity-agrees start (e ∷ es) t.switching (and-one-event _ s.switching t.switching e es q k.stepped) in
    k.clean
    ∙ (rw (a, b, h) (go (severity_read start (e ∷ es)) (severity_read start es) (origins_in start es)))
  where
    go : (after before : ℕ) (os : List Origin)
        → clean_after before after (clean_of before os) e
        ≡ clean_of after (cond (eqb after before) (origins_with e os) [])
    go after before os = on (eqb after before) refl
      where
        on : (d : Bool) → eqb after before ≡ d
            → cond d (clean_by before (clean_of before os) e) no_run ≡ clean_of after (cond d (origins_with e os) [])
        on true p = rw (eqb-true after before p) (by-read before e os)
        on false p = refl

-- a clean sample on a plan is one that was entered so
is-clean : (letter column : ℕ) (o : Origin) → (clean_on letter column o ≡ true) ↔ (o ≡ on_fraction letter column 0)
is-clean letter column o =
    (so o, λ h. ap (clean_on letter column) h ∙ rw (eq-eqb letter letter refl, eq-eqb column column refl))
  where
    so : (o : Origin) → clean_on letter column o ≡ true → o ≡ on_fraction letter column 0
    so typed h = absurd (false≢true h)
    so sampled h = absurd (false≢true h)
    so (on_fraction l c total) h =
        let b = and-right (eqb l letter) _ h in
        rw (
          eqb-true l letter (and-left (eqb l letter) _ h),
          eqb-true c column (and-left (eqb c column) _ b),
          eqb-true total 0 (and-right (eqb c column) _ b),
        )

-- "the previous lot's sample was clean", "the previous two were": exactly so many of the newest are clean on it ..
pub newest-clean : (k letter column : ℕ) (os : List Origin)
    → (k ≤ unbroken letter column os) ↔ NewestClean k letter column os
unfolding unbroken
newest-clean zero letter column os = (λ h. tt, λ h. omega arith)
newest-clean (suc k) letter column [] = (λ h. absurd (omega arith), λ h. absurd h)
newest-clean (suc k) letter column (o ∷ os) =
    go (clean_on letter column o) refl (newest-clean k letter column os)
  where
    go : (d : Bool) → clean_on letter column o ≡ d
        → (k ≤ unbroken letter column os) ↔ NewestClean k letter column os
        → (suc k ≤ cond d (suc (unbroken letter column os)) 0)
        ↔ ((o ≡ on_fraction letter column 0) × NewestClean k letter column os)
    go true h later = (
      λ m. ((is-clean letter column o).0 h, later.0 (omega arith)),
      λ n. let m = later.1 n.1 in omega arith,
    )
    go false h later =
        (λ m. absurd (omega arith), λ n. absurd (false≢true (sym h ∙ (is-clean letter column o).1 n.0)))

-- .. and so the clean run says, as far as it is on that plan.
pub clean-before : (v letter column : ℕ) → has_fractional_plan v column letter ≡ true → (os : List Origin) (k : ℕ)
    → k ≤ 2
    → (k ≤ run_on (clean_of v os) letter column) ↔ NewestClean k letter column os
clean-before v letter column fraction os k few =
    let e = run-on v letter column fraction os in
    let n = newest-clean k letter column os in
    (λ h. n.0 (omega arith), λ h. let m = n.1 h in omega arith)

-- The lots that are read are the newest of the history's, as many as the present stay has.
pub origins-newest : (start : Bool) (es : List Event)
    → origins_in start es ≡ take (length (present_lots (stays_in start es))) (all_origins es)
unfolding stays_in origins_in all_origins
origins-newest start [] = refl
origins-newest start (e ∷ es) = go (stays_in start es) (stays-whole start es).first-present (origins-newest start es)
  where
    with-event : (e : Event) (os all : List Origin) (ls : List Lot) → os ≡ take (length ls) all
        → origins_with e os ≡ take (length (lots_with e ls)) (origins_with e all)
    with-event (lot o l) os all ls h = ap (λ (x : List Origin). o ∷ x) h
    with-event resubmitted os all ls h = h
    with-event (steady_is b) os all ls h = h
    with-event (permission_is b) os all ls h = h
    with-event corrective os all ls h = h
    with-event unknown os all ls h = h

    on : (d : Bool) (os all : List Origin) (y z : Stay) (ys zs : List Stay) → os ≡ take (length y.lots) all
        → z.lots ≡ []
        → cond d (origins_with e os) []
        ≡ take (length (present_lots (cond d (stay_of y.severity (lots_with e y.lots) ∷ ys) (z ∷ zs))))
        (origins_with e all)
    on true os all y z ys zs h n = with-event e os all y.lots h
    on false os all y z ys zs h n = ap (λ (ls : List Lot). take (length ls) (origins_with e all)) (sym n)

    go : (ys : List Stay) → FirstIs (severity_read start es) ys
        → origins_in start es ≡ take (length (present_lots ys)) (all_origins es)
        → cond (eqb (severity_read start (e ∷ es)) (severity_read start es)) (origins_with e (origins_in start es)) []
        ≡ take (length (present_lots (stays_by e (severity_read start (e ∷ es)) ys))) (origins_with e (all_origins es))
    go [] f h = absurd f
    go (y ∷ ys) f h =
        ap (λ (v : ℕ). cond (eqb (severity_read start (e ∷ es)) v) (origins_with e (origins_in start es)) []) (sym f)
        ∙ on (eqb (severity_read start (e ∷ es)) y.severity) (origins_in start es) (all_origins es) y _ ys _ h refl
