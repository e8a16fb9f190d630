-- What refuses an event of a supply; a resubmitted lot leaves it as it was; what being in range bounds, exactly; a
-- supply in range stays in range.
-- Assumes nothing.
use Prim.Native.Nat.{ℕ, zero, suc, min}
use mathlib.Core.Path.{◌≡◌, refl, ap, ◌∙◌}
use mathlib.Core.Bool.{Bool, true, false, cond, ◌&&◌, and-eq-true_iff}
use mathlib.Core.Logic.{◌↔◌}
use native.Mathlib.Omega.{arith}
use borrow.Author.Tests.{eqb-true, eqb-false, eq-eqb, leb-true, le-leb}
use lib.Dec.{leb, eqb}
use Rattle.rules.specs.Severity.{Origin, typed, sampled, on_fraction, Event, lot, resubmitted, steady_is}
use Rattle.rules.specs.Severity.{permission_is, corrective, unknown, Record, step, in_range}
use Rattle.rules.specs.Fractional.{has_fractional_plan}
use Rattle.rules.specs.Supply.{CleanRun, no_run, Supply, supply_of, fresh_supply, run_on, longer_run, counts_on}
use Rattle.rules.specs.Supply.{clean_from, clean_by, clean_after, move, clean_in_range, supply_in_range}
use Rattle.rules.specs.Planning.{EventRows, Took, CleanWithin}
use Rattle.rules.specs.Switching.{Within}
use Rattle.rules.specs.Reporting.{Reports}
use Rattle.rules.proofs.Bools.{and-left, and-right}
use Rattle.rules.proofs.Refusals.{goes-on}
use Rattle.rules.proofs.Resubmitted.{resubmitted-step}
use Rattle.rules.proofs.EventLaws.{step-refused}
use Rattle.rules.proofs.Fractions.{fractional-plan-exactly, fraction-exactly}
use Rattle.rules.proofs.Range.{in-range-exactly, step-range, fresh-range}

-- 1 for an event of no known form, 5 for any lot while stopped, 10 for a corrective order when not stopped
pub move-refused : (s : Supply) (e : Event) → Reports 1 (EventRows s.switching (counts_on s e)) (move s e)
unfolding move
move-refused s e =
    goes-on (step s.switching (counts_on s e)) (step-refused s.switching (counts_on s e)) (λ t q. (_, refl))

-- "resubmitted lots don't touch it": a supply that takes one is as it was
pub resubmitted-took : (s t : Supply) (e : Event) → e ≡ resubmitted → Took s e t → t ≡ s
resubmitted-took s t e h k =
    let r : t.switching ≡ s.switching = resubmitted-step s.switching t.switching e h k.stepped in
    let c : t.clean ≡ s.clean =
    k.clean
    ∙ ap (clean_after s.switching.severity t.switching.severity s.clean) h
    ∙ same t.switching.severity s.switching.severity (ap (λ (x : Record). x.severity) r) in
    ap (λ (x : Record). supply_of x t.clean) r ∙ ap (supply_of s.switching) c
  where
    same : (a b : ℕ) → a ≡ b → clean_after b a s.clean resubmitted ≡ s.clean
    same a b e = rw (eq-eqb a b e)

-- the clean run that stands after an event is in range at the severity then
no-run-range : (v : ℕ) → clean_in_range v no_run ≡ true
unfolding clean_in_range
no-run-range v = refl

longer-range : (v : ℕ) (c : CleanRun) (letter column : ℕ) → has_fractional_plan v column letter ≡ true
    → clean_in_range v (longer_run c letter column) ≡ true
unfolding clean_in_range
longer-range v c letter column h = go (run_on c letter column)
  where
    go : (k : ℕ) → cond (eqb (min 2 (suc k)) 0) (eqb letter 0 && eqb column 0)
        (leb (min 2 (suc k)) 2 && has_fractional_plan v column letter)
        ≡ true
    go zero = h
    go (suc k) = let e : min 2 (suc (suc k)) ≡ 2 = omega arith in rw e h

from-range : (v : ℕ) (c : CleanRun) (o : Origin) → clean_in_range v (clean_from v c o) ≡ true
from-range v c typed = no-run-range v
from-range v c sampled = no-run-range v
from-range v c (on_fraction letter column total) = go (has_fractional_plan v column letter) refl (eqb total 0)
  where
    go : (f : Bool) → has_fractional_plan v column letter ≡ f → (z : Bool)
        → clean_in_range v (cond (f && z) (longer_run c letter column) no_run) ≡ true
    go true h true = longer-range v c letter column h
    go true h false = no-run-range v
    go false h z = no-run-range v

by-range : (v : ℕ) (c : CleanRun) (e : Event) → clean_in_range v c ≡ true → clean_in_range v (clean_by v c e) ≡ true
by-range v c (lot o l) h = from-range v c o
by-range v c resubmitted h = h
by-range v c (steady_is b) h = h
by-range v c (permission_is b) h = h
by-range v c corrective h = h
by-range v c unknown h = h

after-range : (before after : ℕ) (c : CleanRun) (e : Event) → clean_in_range before c ≡ true
    → clean_in_range after (clean_after before after c e) ≡ true
after-range before after c e h = go (eqb after before) refl
  where
    go : (d : Bool) → eqb after before ≡ d → clean_in_range after (cond d (clean_by before c e) no_run) ≡ true
    go true q = rw (eqb-true after before q) (by-range before c e h)
    go false q = no-run-range after

-- A supply in range stays in range.
pub took-range : (s : Supply) (e : Event) (t : Supply) → supply_in_range s ≡ true → Took s e t
    → supply_in_range t ≡ true
took-range s e t h k =
    let r = step-range s.switching e t.switching (and-left (in_range s.switching) _ h) k.stepped in
    let c = after-range s.switching.severity t.switching.severity s.clean e
    (and-right (in_range s.switching) _ h) in
    (and-eq-true_iff _ _).1 (r, rw k.clean c)

pub fresh-supply-range : (start : Bool) → supply_in_range (fresh_supply start) ≡ true
fresh-supply-range start = (and-eq-true_iff _ _).1 (fresh-range start, no-run-range 0)

-- A clean run passes the test of range exactly where it is within its bounds, ..
pub clean-in-range-exactly : (v : ℕ) (c : CleanRun) → (clean_in_range v c ≡ true) ↔ CleanWithin v c
unfolding clean_in_range
clean-in-range-exactly v c = on (eqb c.run 0) refl
  where
    on : (d : Bool) → eqb c.run 0 ≡ d
        → (cond d (eqb c.letter 0 && eqb c.column 0)
        (leb c.run 2 && has_fractional_plan v c.column c.letter)
        ≡ true)
        ↔ CleanWithin v c
    on true d =
        let z = eqb-true c.run 0 d in (
          λ h. record {
            run_fits = omega arith;
            no-plan =
                λ e. (
                  eqb-true c.letter 0 (and-left (eqb c.letter 0) _ h),
                  eqb-true c.column 0 (and-right (eqb c.letter 0) _ h),
                );
            own-plan = λ n. absurd (n z);
          },
          λ w. let n = w.no-plan z in rw (eq-eqb c.letter 0 n.0, eq-eqb c.column 0 n.1),
        )
    on false d =
        let n = eqb-false c.run 0 d in
        let p = fractional-plan-exactly v c.column c.letter in
        let f = fraction-exactly v c.column c.letter in (
          λ h.
              let x = p.0 (and-right (leb c.run 2) _ h) in
              record {
                run_fits = leb-true c.run 2 (and-left (leb c.run 2) _ h);
                no-plan = λ e. absurd (n e);
                own-plan = λ m. (x.0, x.1, f.0 x.2);
              },
          λ w.
              let x = w.own-plan n in
              rw (le-leb c.run 2 w.run_fits) (p.1 (x.0, x.1, f.1 x.2)),
        )

-- .. and so of the whole record.
pub supply-in-range-exactly : (s : Supply)
    → (supply_in_range s ≡ true)
    ↔ (Within s.switching.severity s.switching × CleanWithin s.switching.severity s.clean)
supply-in-range-exactly s =
    let r = in-range-exactly s.switching in
    let c = clean-in-range-exactly s.switching.severity s.clean in (
      λ h. (r.0 (and-left (in_range s.switching) _ h), c.0 (and-right (in_range s.switching) _ h)),
      λ w. (and-eq-true_iff _ _).1 (r.1 w.0, c.1 w.1),
    )
