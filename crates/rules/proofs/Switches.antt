-- The switches of the written reading: by what stopped, tightened and reduced are left, and what stands when reduced
-- starts.
-- Assumes nothing.
use Prim.Native.Nat.{ℕ, zero, suc, ◌*◌, ◌≤◌}
use mathlib.Core.Path.{◌≡◌, refl, sym, ap, ◌∙◌}
use mathlib.Core.Bool.{Bool, true, false, cond, ◌&&◌, not, and-eq-true_iff, true≢false}
use mathlib.Core.List.{List, [], ◌∷◌}
use mathlib.Core.Logic.{◌⊎◌, inl, inr}
use native.Mathlib.Omega.{arith}
use borrow.Author.Tests.{leb-true, leb-false, ne_eqb}
use lib.Dec.{leb}
use lib.ListN.{length, take}
use Rattle.rules.specs.Codes.{normal, tightened, reduced, stopped}
use Rattle.rules.specs.Severity.{Origin, Lot, add_three, add_two, score_zero, not_accepted, accepted, Event, lot}
use Rattle.rules.specs.Severity.{resubmitted, steady_is, permission_is, corrective, unknown, due}
use Rattle.rules.specs.Reading.{steady_in, permission_in, not_accepted_in, run_of, points_of, score_of, Stay, stay_of}
use Rattle.rules.specs.Reading.{read_settled, read_normal, read_tightened, read_lot, read_order, read_corrective}
use Rattle.rules.specs.Reading.{read_event, stay_after, severity_read, lots_with, stays_in}
use Rattle.rules.specs.Switching.{LastAccepted, ByLot, LeavesTightened, EndsReduced, LeavesReduced}
use Rattle.rules.specs.Switching.{ReducedStarts}
use Rattle.rules.proofs.Stays.{Few, run-not-accepted, present-stay, tightened-few}

stopped-event : (e : Event) (st pe : Bool) (s : ℕ) (ls : List Lot) → s ≡ stopped
    → ((read_event e st pe (stay_of s ls)).severity ≡ stopped) ⊎ (e ≡ corrective)
unfolding read_event read_lot read_order
stopped-event (lot o l) st pe s ls h = inl (rw h)
stopped-event resubmitted st pe s ls h = inl h
stopped-event (steady_is b) st pe s ls h = inl (rw h)
stopped-event (permission_is b) st pe s ls h = inl (rw h)
stopped-event corrective st pe s ls h = inr refl
stopped-event unknown st pe s ls h = inl h

-- Stopped is left only by a corrective order.
pub stopped-left : (start : Bool) (e : Event) (es : List Event) → severity_read start es ≡ stopped
    → (severity_read start (e ∷ es) ≡ stopped) ⊎ (e ≡ corrective)
unfolding stay_after
stopped-left start e es h =
    stopped-event e (steady_in (e ∷ es)) (permission_in start (e ∷ es)) (severity_read start es)
    (stay_after start es).lots h

pub stopped-corrected : (start : Bool) (es : List Event) → severity_read start es ≡ stopped
    → severity_read start (corrective ∷ es) ≡ tightened
unfolding stay_after read_event
stopped-corrected start es h = ap (λ (s : ℕ). (read_corrective s (stay_after start es).lots).severity) h

-- points come from accepted lots alone, three at most for each
points-run : (ls : List Lot) → points_of ls ≤ 3 * run_of ls
unfolding points_of run_of
points-run [] = omega arith
points-run (add_three ∷ ls) = omega (arith, points-run ls)
points-run (add_two ∷ ls) = omega (arith, points-run ls)
points-run (score_zero ∷ ls) = omega arith
points-run (not_accepted ∷ ls) = omega arith

last-accepted : (k : ℕ) (ls : List Lot) → k ≤ run_of ls → LastAccepted k ls
unfolding run_of not_accepted_in
last-accepted zero ls h = (refl, refl)
last-accepted (suc k) [] h = absurd (omega arith)
last-accepted (suc k) (l ∷ ls) h = go (accepted l) h (λ g. last-accepted k ls g)
  where
    go : (d : Bool) → suc k ≤ cond d (suc (run_of ls)) 0 → (k ≤ run_of ls → LastAccepted k ls)
        → (suc (length (take k ls)) ≡ suc k)
        × (cond d (not_accepted_in (take k ls)) (suc (not_accepted_in (take k ls))) ≡ 0)
    go true h ih = let r = ih (omega arith) in (ap suc r.0, r.1)
    go false h ih = absurd (omega arith)

-- normal with this severity, these lots, steady and permission turns to reduced
abbrev Turns : ℕ → List Lot → Bool → Bool → Type 0
Turns s ls st pe = (s ≡ normal) × (st ≡ true) × (pe ≡ true) × (10 ≤ run_of ls)

-- "score 30, steady and permission all standing"
pub due-all : (score : ℕ) (st pe : Bool) → due score st pe ≡ true → (30 ≤ score) × (st ≡ true) × (pe ≡ true)
due-all score st pe h =
    let a = (and-eq-true_iff (leb 30 score) (st && pe)).0 h in
    let b = (and-eq-true_iff st pe).0 a.1 in
    (leb-true 30 score a.0, b.0, b.1)

settled-turns : (ls : List Lot) (st pe : Bool) → (read_settled ls st pe).severity ≡ reduced → Turns normal ls st pe
settled-turns ls st pe h = go (due (score_of ls) st pe) refl h
  where
    go : (d : Bool) → due (score_of ls) st pe ≡ d
        → (cond d (stay_of reduced []) (stay_of normal ls)).severity ≡ reduced → Turns normal ls st pe
    go true e h = let a = due-all (score_of ls) st pe e in (refl, a.1, a.2, omega (arith, points-run ls))
    go false e h = absurd (omega arith)

normal-turns : (l : Lot) (ls : List Lot) (st pe : Bool) → (read_normal l ls st pe).severity ≡ reduced
    → Turns normal (l ∷ ls) st pe
normal-turns l ls st pe h = go (not (accepted l) && leb 2 (not_accepted_in (take 5 (l ∷ ls)))) h
  where
    go : (d : Bool) → (cond d (stay_of tightened []) (read_settled (l ∷ ls) st pe)).severity ≡ reduced
        → Turns normal (l ∷ ls) st pe
    go true h = absurd (omega arith)
    go false h = settled-turns (l ∷ ls) st pe h

neither : (d : Bool) (x y : Stay) → (x.severity ≡ reduced → ⊥) → (y.severity ≡ reduced → ⊥)
    → (cond d x y).severity ≡ reduced → ⊥
neither true x y f g h = f h
neither false x y f g h = g h

tightened-turns : (l : Lot) (ls : List Lot) → (read_tightened l ls).severity ≡ reduced → ⊥
tightened-turns l ls h =
    neither (accepted l) _ _
    (neither (leb 5 (run_of (l ∷ ls))) (stay_of normal []) (stay_of tightened (l ∷ ls)) (omega arith) (omega arith))
    (neither (leb 5 (not_accepted_in (l ∷ ls))) (stay_of stopped []) (stay_of tightened (l ∷ ls)) (omega arith)
    (omega arith))
    h

module _ (st pe : Bool) (ls : List Lot) where
  lot-turns : (s : ℕ) (l : Lot) → (s ≡ reduced → ⊥) → (read_lot s l ls st pe).severity ≡ reduced
      → Turns s (l ∷ ls) st pe
  unfolding read_lot
  lot-turns zero l n h = normal-turns l ls st pe h
  lot-turns (suc zero) l n h = absurd (tightened-turns l ls h)
  lot-turns (suc (suc zero)) l n h = absurd (n refl)
  lot-turns (suc (suc (suc s))) l n h = absurd (omega arith)

  order-turns : (s : ℕ) (stands : Bool) → (s ≡ reduced → ⊥) → (read_order s stands ls st pe).severity ≡ reduced
      → Turns s ls st pe
  unfolding read_order
  order-turns zero stands n h = settled-turns ls st pe h
  order-turns (suc zero) stands n h = absurd (omega arith)
  order-turns (suc (suc zero)) stands n h = absurd (n refl)
  order-turns (suc (suc (suc s))) stands n h = absurd (omega arith)

event-turns : (e : Event) (st pe : Bool) (y : Stay) → (y.severity ≡ reduced → ⊥)
    → (read_event e st pe y).severity ≡ reduced → Turns y.severity (lots_with e y.lots) st pe
unfolding read_event
event-turns (lot o l) st pe y n h = lot-turns st pe y.lots y.severity l n h
event-turns resubmitted st pe y n h = absurd (n h)
event-turns (steady_is b) st pe y n h = order-turns st pe y.lots y.severity b n h
event-turns (permission_is b) st pe y n h = order-turns st pe y.lots y.severity b n h
event-turns corrective st pe y n h =
    absurd (neither (leb stopped y.severity) (stay_of tightened []) y (omega arith) n h)
event-turns unknown st pe y n h = absurd (n h)

turns : (start : Bool) (e : Event) (es : List Event) → (severity_read start es ≡ reduced → ⊥)
    → severity_read start (e ∷ es) ≡ reduced
    → Turns (severity_read start es) (lots_with e (stay_after start es).lots) (steady_in (e ∷ es))
    (permission_in start (e ∷ es))
unfolding stay_after
turns start e es n h = event-turns e (steady_in (e ∷ es)) (permission_in start (e ∷ es)) (stay_after start es) n h

-- a stay of another severity starts
starts-stay : (start : Bool) (e : Event) (es : List Event) (s t : ℕ) (ls : List Lot) (ys : List Stay)
    → severity_read start (e ∷ es) ≡ s → (s ≡ t → ⊥) → stays_in start es ≡ stay_of t ls ∷ ys
    → stays_in start (e ∷ es) ≡ stay_of s [] ∷ stay_of t (lots_with e ls) ∷ ys
unfolding stays_in
starts-stay start e es s t ls ys h n q = rw (q, h, ne_eqb s t n)

pub reduced-starts : (start : Bool) (e : Event) (es : List Event) → (severity_read start es ≡ reduced → ⊥)
    → severity_read start (e ∷ es) ≡ reduced → ReducedStarts start e es
reduced-starts start e es n h =
    let t = turns start e es n h in
    let y : Stay = stay_after start es in
    let p = present-stay start es (omega arith) in
    record {
      was-normal = t.0;
      steady-stands = t.1;
      permission-stands = t.2;
      lots = lots_with e y.lots;
      earlier = p.0;
      that-stay =
          starts-stay start e es reduced normal y.lots p.0 h (omega arith)
          (p.1 ∙ ap (λ (s : ℕ). stay_of s y.lots ∷ p.0) t.0);
      ten-accepted = last-accepted 10 (lots_with e y.lots) t.3;
    }

run-last : (k : ℕ) (ls : List Lot) → LastAccepted k ls → k ≤ run_of ls
unfolding run_of not_accepted_in
run-last zero ls h = omega arith
run-last (suc k) [] h = absurd (omega arith)
run-last (suc k) (l ∷ ls) h = go (accepted l) h (λ g. run-last k ls g)
  where
    go : (d : Bool)
        → (suc (length (take k ls)) ≡ suc k)
        × (cond d (not_accepted_in (take k ls)) (suc (not_accepted_in (take k ls))) ≡ 0)
        → (LastAccepted k ls → k ≤ run_of ls) → suc k ≤ cond d (suc (run_of ls)) 0
    go true h ih = omega (arith, ih (omega arith, h.1))
    go false h ih = absurd (omega arith)

module _ (o : Origin) (l : Lot) (ls : List Lot) (few : Few ls) where
  lot-leaves : LeavesTightened (lot o l) ls (read_tightened l ls).severity
  lot-leaves = go (accepted l) refl
    where
      by-accepted : accepted l ≡ true → (d : Bool) → leb 5 (run_of (l ∷ ls)) ≡ d
          → LeavesTightened (lot o l) ls (cond d (stay_of normal []) (stay_of tightened (l ∷ ls))).severity
      by-accepted a true e = record {
        to-normal = (λ _. last-accepted 5 (l ∷ ls) (leb-true 5 (run_of (l ∷ ls)) e), λ _. refl);
        to-stopped = (λ q. absurd (omega arith), λ h. absurd (true≢false (sym a ∙ h.0)));
        else-stays = λ f g. absurd (f refl);
      }
      by-accepted a false e = record {
        to-normal = (
          λ q. absurd (omega arith),
          λ h. absurd (omega (arith, run-last 5 (l ∷ ls) h, leb-false 5 (run_of (l ∷ ls)) e)),
        );
        to-stopped = (λ q. absurd (omega arith), λ h. absurd (true≢false (sym a ∙ h.0)));
        else-stays = λ f g. refl;
      }

      by-not-accepted : accepted l ≡ false → (d : Bool) → leb 5 (not_accepted_in (l ∷ ls)) ≡ d
          → LeavesTightened (lot o l) ls (cond d (stay_of stopped []) (stay_of tightened (l ∷ ls))).severity
      by-not-accepted a true e = record {
        to-normal = (
          λ q. absurd (omega arith),
          λ h. absurd (omega (arith, run-last 5 (l ∷ ls) h, run-not-accepted l ls a)),
        );
        to-stopped = (
          λ _. (a, omega (arith, leb-true 5 (not_accepted_in (l ∷ ls)) e, run-not-accepted l ls a, few)),
          λ _. refl,
        );
        else-stays = λ f g. absurd (g refl);
      }
      by-not-accepted a false e = record {
        to-normal = (
          λ q. absurd (omega arith),
          λ h. absurd (omega (arith, run-last 5 (l ∷ ls) h, run-not-accepted l ls a)),
        );
        to-stopped = (
          λ q. absurd (omega arith),
          λ h. absurd (omega (arith, leb-false 5 (not_accepted_in (l ∷ ls)) e, h.1)),
        );
        else-stays = λ f g. refl;
      }

      go : (d : Bool) → accepted l ≡ d
          → LeavesTightened (lot o l) ls
          (cond d (cond (leb 5 (run_of (l ∷ ls))) (stay_of normal []) (stay_of tightened (l ∷ ls)))
          (cond (leb 5 (not_accepted_in (l ∷ ls))) (stay_of stopped []) (stay_of tightened (l ∷ ls)))
          ).severity
      go true a = by-accepted a (leb 5 (run_of (l ∷ ls))) refl
      go false a = by-not-accepted a (leb 5 (not_accepted_in (l ∷ ls))) refl

no-lot-leaves : (e : Event) (ls : List Lot) → ((P : Lot → List Lot → Type 0) → ByLot P e ls → ⊥)
    → LeavesTightened e ls tightened
no-lot-leaves e ls none = record {
  to-normal = (λ q. absurd (omega arith), λ h. absurd (none (λ l lots. LastAccepted 5 lots) h));
  to-stopped = (
    λ q. absurd (omega arith),
    λ h. absurd (none (λ l lots. (accepted l ≡ false) × (not_accepted_in lots ≡ 5)) h),
  );
  else-stays = λ f g. refl;
}

tightened-event : (e : Event) (st pe : Bool) (s : ℕ) (ls : List Lot) → s ≡ tightened → Few ls
    → LeavesTightened e ls (read_event e st pe (stay_of s ls)).severity
unfolding read_event read_lot read_order
tightened-event (lot o l) st pe s ls h few = rw h (lot-leaves o l ls few)
tightened-event resubmitted st pe s ls h few = rw h (no-lot-leaves resubmitted ls (λ P x. x))
tightened-event (steady_is b) st pe s ls h few = rw h (no-lot-leaves (steady_is b) ls (λ P x. x))
tightened-event (permission_is b) st pe s ls h few = rw h (no-lot-leaves (permission_is b) ls (λ P x. x))
tightened-event corrective st pe s ls h few = rw h (no-lot-leaves corrective ls (λ P x. x))
tightened-event unknown st pe s ls h few = rw h (no-lot-leaves unknown ls (λ P x. x))

pub tightened-left : (start : Bool) (e : Event) (es : List Event) → severity_read start es ≡ tightened
    → LeavesTightened e (stay_after start es).lots (severity_read start (e ∷ es))
unfolding stay_after
tightened-left start e es h =
    tightened-event e (steady_in (e ∷ es)) (permission_in start (e ∷ es)) (severity_read start es)
    (stay_after start es).lots h (tightened-few start es h)

reduced-unless : (b : Bool) (ls : List Lot)
    → LeavesReduced (b ≡ false) (cond b (stay_of reduced ls) (stay_of normal [])).severity
reduced-unless true ls = ((λ q. absurd (omega arith), λ h. absurd (true≢false h)), λ f. refl)
reduced-unless false ls = ((λ q. refl, λ h. refl), λ f. absurd (f refl))

reduced-kept : LeavesReduced ⊥ reduced
reduced-kept = ((λ q. absurd (omega arith), λ h. absurd h), λ f. refl)

reduced-event : (e : Event) (st pe : Bool) (s : ℕ) (ls : List Lot) → s ≡ reduced
    → LeavesReduced (EndsReduced e) (read_event e st pe (stay_of s ls)).severity
unfolding read_event read_lot read_order
reduced-event (lot o l) st pe s ls h = rw h (reduced-unless (accepted l) (l ∷ ls))
reduced-event resubmitted st pe s ls h = rw h reduced-kept
reduced-event (steady_is b) st pe s ls h = rw h (reduced-unless b ls)
reduced-event (permission_is b) st pe s ls h = rw h (reduced-unless b ls)
reduced-event corrective st pe s ls h = rw h reduced-kept
reduced-event unknown st pe s ls h = rw h reduced-kept

pub reduced-left : (start : Bool) (e : Event) (es : List Event) → severity_read start es ≡ reduced
    → LeavesReduced (EndsReduced e) (severity_read start (e ∷ es))
unfolding stay_after
reduced-left start e es h =
    reduced-event e (steady_in (e ∷ es)) (permission_in start (e ∷ es)) (severity_read start es)
    (stay_after start es).lots h
