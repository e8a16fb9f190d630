-- What being in range bounds, exactly, and records on both sides of each bound; a record in range stays in range, after
-- a step and after any history that is not refused.
-- Assumes nothing.
use Prim.Native.Nat.{ℕ, zero, suc, ◌+◌, ◌*◌, ◌/◌, ◌%◌, ◌^◌, ◌≤◌, ◌<◌}
use mathlib.Core.Path.{◌≡◌, refl, sym, ap, ◌∙◌}
use mathlib.Core.Bool.{Bool, true, false, cond, ◌&&◌, not, false≢true, and-eq-true_iff}
use mathlib.Core.List.{List, [], ◌∷◌, ◌++◌}
use mathlib.Core.Logic.{◌↔◌}
use native.Mathlib.Decide.{dec_lt}
use native.Mathlib.Omega.{arith}
use lib.Dec.{leb, ltb, eqb}
use lib.ListN.{replicate}
use lib.Count.{ones, ones_step, ones_cat}
use borrow.Author.Tests.{leb-true, leb-false, ltb-true, eqb-true, le-leb, lt-ltb, eq-eqb}
use Rattle.rules.specs.Refusals.{Answer, refused, given, while_stopped, not_stopped}
use Rattle.rules.specs.Codes.{normal, tightened, reduced, stopped}
use Rattle.rules.specs.Severity.{Lot, add_three, add_two, score_zero, not_accepted, accepted, Event, lot}
use Rattle.rules.specs.Severity.{resubmitted, steady_is, permission_is, corrective, unknown, Record, started}
use Rattle.rules.specs.Severity.{fresh, on_normal, on_tightened, due, settled, score_after, window_after}
use Rattle.rules.specs.Severity.{lot_normal, lot_tightened, lot_reduced, on_lot, on_resubmitted, on_order}
use Rattle.rules.specs.Severity.{on_corrective, step, score_and_window, run_and_count, no_score_or_window}
use Rattle.rules.specs.Severity.{no_run_or_count, figures_in_range, in_range}
use Rattle.rules.specs.History.{after_from}
use Rattle.rules.specs.Switching.{Within}
use Rattle.rules.proofs.Answers.{given-one}
use Rattle.rules.proofs.Append.{one-event}

both : (a b : Bool) → a && b ≡ true → (a ≡ true) × (b ≡ true)
both a b h = (and-eq-true_iff a b).0 h

-- a figure that the severity does not use is 0, and so is a window's number of ones
zero-figures : (a b : ℕ) → eqb a 0 && eqb b 0 ≡ true → (a ≡ 0) × (b ≡ 0)
zero-figures a b h = let w = both (eqb a 0) (eqb b 0) h in (eqb-true a 0 w.0, eqb-true b 0 w.1)

zero-tests : (a b : ℕ) → (a ≡ 0) × (b ≡ 0) → eqb a 0 && eqb b 0 ≡ true
zero-tests a b h = rw (eq-eqb a 0 h.0, eq-eqb b 0 h.1)

no-ones : (w : ℕ) → w ≡ 0 → ones w ≤ 1
unfolding ones
no-ones w e = rw e (omega arith)

cleared : (s : ℕ) (r : Record) → s ≤ 3 → no_score_or_window r && no_run_or_count r ≡ true → Within s r
cleared s r l h =
    let w = both (no_score_or_window r) (no_run_or_count r) h in
    let a = zero-figures r.score r.window w.0 in
    let b = zero-figures r.run r.count w.1 in
    record {
      severity-fits = l;
      score-fits = omega arith;
      run_fits = omega arith;
      count_fits = omega arith;
      window-fits = omega arith;
      ones-fit = no-ones r.window a.1;
      normal-alone = λ _. a;
      tightened-alone = λ _. b;
    }

pub within : (s : ℕ) (r : Record) → figures_in_range s r ≡ true → Within s r
unfolding figures_in_range
within zero r h =
    let w = both (score_and_window r) (no_run_or_count r) h in
    let a = both (leb r.score 30) (ltb r.window 32 && leb (ones r.window) 1) w.0 in
    let c = both (ltb r.window 32) (leb (ones r.window) 1) a.1 in
    let b = zero-figures r.run r.count w.1 in
    record {
      severity-fits = omega arith;
      score-fits = leb-true r.score 30 a.0;
      run_fits = omega arith;
      count_fits = omega arith;
      window-fits = ltb-true r.window 32 c.0;
      ones-fit = leb-true (ones r.window) 1 c.1;
      normal-alone = λ n. absurd (n refl);
      tightened-alone = λ _. b;
    }
within (suc zero) r h =
    let w = both (run_and_count r) (no_score_or_window r) h in
    let a = both (leb r.run 4) (leb r.count 4) w.0 in
    let b = zero-figures r.score r.window w.1 in
    record {
      severity-fits = omega arith;
      score-fits = omega arith;
      run_fits = leb-true r.run 4 a.0;
      count_fits = leb-true r.count 4 a.1;
      window-fits = omega arith;
      ones-fit = no-ones r.window b.1;
      normal-alone = λ _. b;
      tightened-alone = λ n. absurd (n refl);
    }
within (suc (suc zero)) r h = cleared 2 r (omega arith) h
within (suc (suc (suc zero))) r h = cleared 3 r (omega arith) h
within (suc (suc (suc (suc s)))) r h = absurd (false≢true h)

both-cleared : (r : Record) → (r.score ≡ 0) × (r.window ≡ 0) → (r.run ≡ 0) × (r.count ≡ 0)
    → no_score_or_window r && no_run_or_count r ≡ true
both-cleared r a b = (and-eq-true_iff _ _).1 (zero-tests r.score r.window a, zero-tests r.run r.count b)

in-range : (s : ℕ) (r : Record) → Within s r → figures_in_range s r ≡ true
unfolding figures_in_range
in-range zero r w =
    rw (le-leb r.score 30 w.score-fits, lt-ltb r.window 32 w.window-fits)
    (rw (le-leb (ones r.window) 1 w.ones-fit) (zero-tests r.run r.count (w.tightened-alone (omega arith))))
in-range (suc zero) r w =
    rw (le-leb r.run 4 w.run_fits, le-leb r.count 4 w.count_fits)
    (zero-tests r.score r.window (w.normal-alone (omega arith)))
in-range (suc (suc zero)) r w = both-cleared r (w.normal-alone (omega arith)) (w.tightened-alone (omega arith))
in-range (suc (suc (suc zero))) r w = both-cleared r (w.normal-alone (omega arith)) (w.tightened-alone (omega arith))
in-range (suc (suc (suc (suc s)))) r w = absurd (omega (arith, w.severity-fits))

-- A record passes the test of range exactly where it is within these bounds.
pub in-range-exactly : (r : Record) → (in_range r ≡ true) ↔ Within r.severity r
in-range-exactly r = (λ h. within r.severity r h, λ w. in-range r.severity r w)

-- a record of this severity, score, window, run and count
abbrev figures : ℕ → ℕ → ℕ → ℕ → ℕ → Bool
figures severity score window run count =
    in_range
    (record {
      severity = severity;
      score = score;
      run = run;
      count = count;
      window = window;
      steady = false;
      permission = false;
    })

-- Records on both sides of each bound: at normal, tightened, reduced and stopped, and a severity of 4.
pub boundary : List Bool
boundary =
    figures 0 30 16 0 0
    ∷ figures 0 31 0 0 0
    ∷ figures 0 0 32 0 0
    ∷ figures 0 0 3 0 0
    ∷ figures 0 0 0 1 0
    ∷ figures 0 0 0 0 1
    ∷ figures 1 0 0 4 4
    ∷ figures 1 0 0 5 0
    ∷ figures 1 0 0 0 5
    ∷ figures 1 1 0 0 0
    ∷ figures 1 0 1 0 0
    ∷ figures 2 0 0 0 0
    ∷ figures 2 1 0 0 0
    ∷ figures 2 0 1 0 0
    ∷ figures 2 0 0 1 0
    ∷ figures 2 0 0 0 1
    ∷ figures 3 0 0 0 0
    ∷ figures 3 1 0 0 0
    ∷ figures 3 0 1 0 0
    ∷ figures 3 0 0 1 0
    ∷ figures 3 0 0 0 1
    ∷ figures 4 0 0 0 0
    ∷ []

pub on-the-boundary : boundary
    ≡ (true ∷ replicate 5 false)
    ++ (true ∷ replicate 4 false)
    ++ (true ∷ replicate 4 false)
    ++ (true ∷ replicate 4 false)
    ++ (false ∷ [])
unfolding boundary figures_in_range ones
on-the-boundary = refl

-- the records that a step gives
started-range : (s : ℕ) (st pe : Bool) → s ≤ 3 → in_range (started s st pe) ≡ true
unfolding figures_in_range ones
started-range zero st pe h = refl
started-range (suc zero) st pe h = refl
started-range (suc (suc zero)) st pe h = refl
started-range (suc (suc (suc zero))) st pe h = refl
started-range (suc (suc (suc (suc s)))) st pe h = absurd (omega arith)

normal-range : (sc w : ℕ) (st pe : Bool) → sc ≤ 30 → w < 32 → ones w ≤ 1 → in_range (on_normal sc w st pe) ≡ true
unfolding figures_in_range
normal-range sc w st pe h k m = rw (le-leb sc 30 h, lt-ltb w 32 k, le-leb (ones w) 1 m)

tightened-range : (ru co : ℕ) (st pe : Bool) → ru ≤ 4 → co ≤ 4 → in_range (on_tightened ru co st pe) ≡ true
unfolding figures_in_range
tightened-range ru co st pe h k = rw (le-leb ru 4 h, le-leb co 4 k)

cond-range : (d : Bool) (x y : Record) → (d ≡ true → in_range x ≡ true) → (d ≡ false → in_range y ≡ true)
    → in_range (cond d x y) ≡ true
cond-range true x y h k = h refl
cond-range false x y h k = k refl

settled-range : (sc w : ℕ) (st pe : Bool) → sc ≤ 30 → w < 32 → ones w ≤ 1 → in_range (settled sc w st pe) ≡ true
settled-range sc w st pe h k m =
    cond-range (due sc st pe) (started reduced st pe) (on_normal sc w st pe)
    (λ _. started-range reduced st pe (omega arith))
    (λ _. normal-range sc w st pe h k m)

-- one lot more on normal
score-range : (l : Lot) (sc : ℕ) → score_after l sc ≤ 30
score-range add_three sc = omega arith
score-range add_two sc = omega arith
score-range score_zero sc = omega arith
score-range not_accepted sc = omega arith

pub window-range : (l : Lot) (w : ℕ) → window_after l w < 32
window-range l w = omega arith

-- a lot accepted brings no bit
shifted-ones : (w : ℕ) → w < 32 → ones ((2 * w + 0) % 32) ≤ ones w
shifted-ones w h =
    let v : ℕ = (2 * w + 0) % 32 in
    let x : v ≡ 2 * (w % 16) = elim (dec_lt w 16) [ yes k ↦ omega arith | no k ↦ omega arith ] in
    let a : v % 2 ≡ 0 = omega arith in
    let b : v / 2 ≡ w % 16 = omega arith in
    let c : w / 16 * 2 ^ 4 + w % 16 ≡ w = omega arith in
    let d : w % 16 < 2 ^ 4 = omega arith in
    let p : ones w ≡ ones (w / 16) + ones (w % 16) = ap ones (sym c) ∙ ones_cat 4 (w / 16) (w % 16) d in
    let q : ones v ≡ 0 + ones (w % 16) = ones_step v ∙ rw (a, b) in
    omega arith

-- fewer than two not accepted: the window stays in range
window-kept : (l : Lot) (w : ℕ) → w < 32 → ones w ≤ 1
    → not (accepted l) && leb 2 (ones (window_after l w)) ≡ false → ones (window_after l w) ≤ 1
window-kept add_three w h m e = omega (arith, shifted-ones w h)
window-kept add_two w h m e = omega (arith, shifted-ones w h)
window-kept score_zero w h m e = omega (arith, shifted-ones w h)
window-kept not_accepted w h m e = omega (arith, leb-false 2 (ones (window_after not_accepted w)) e)

lot-normal-range : (l : Lot) (sc w : ℕ) (st pe : Bool) → w < 32 → ones w ≤ 1 → in_range (lot_normal l sc w st pe) ≡ true
lot-normal-range l sc w st pe h m =
    cond-range (not (accepted l) && leb 2 (ones (window_after l w))) (started tightened st pe)
    (settled (score_after l sc) (window_after l w) st pe)
    (λ _. started-range tightened st pe (omega arith))
    (λ e. settled-range (score_after l sc) (window_after l w) st pe (score-range l sc) (window-range l w)
    (window-kept l w h m e))

-- one lot more on tightened: a figure below five stays, the fifth starts another stay
figure-range : (k s : ℕ) (st pe : Bool) (x : Record) → s ≤ 3 → (k ≤ 4 → in_range x ≡ true)
    → in_range (cond (leb 5 k) (started s st pe) x) ≡ true
figure-range k s st pe x h f =
    cond-range (leb 5 k) (started s st pe) x (λ _. started-range s st pe h) (λ e. f (omega (arith, leb-false 5 k e)))

lot-tightened-range : (l : Lot) (ru co : ℕ) (st pe : Bool) → co ≤ 4 → in_range (lot_tightened l ru co st pe) ≡ true
lot-tightened-range l ru co st pe k =
    cond-range (accepted l)
    (cond (leb 5 (suc ru)) (started normal st pe) (on_tightened (suc ru) co st pe))
    (cond (leb 5 (suc co)) (started stopped st pe) (on_tightened 0 (suc co) st pe))
    (λ _. figure-range (suc ru) normal st pe _ (omega arith) (λ h. tightened-range (suc ru) co st pe h k))
    (λ _. figure-range (suc co) stopped st pe _ (omega arith) (λ h. tightened-range 0 (suc co) st pe (omega arith) h))

lot-reduced-range : (l : Lot) (r : Record) → in_range r ≡ true → in_range (lot_reduced l r) ≡ true
lot-reduced-range l r h =
    cond-range (accepted l) r (started normal r.steady r.permission)
    (λ _. h)
    (λ _. started-range normal r.steady r.permission (omega arith))

-- an answer whose record is in range, if it gives one
abbrev GivesInRange : Answer Record → Type 0
GivesInRange (refused n p) = Unit {0}
GivesInRange (given r) = in_range r ≡ true

lot-range : (s : ℕ) (l : Lot) (r : Record) → figures_in_range s r ≡ true → in_range r ≡ true
    → GivesInRange (on_lot s l r)
unfolding on_lot
lot-range zero l r f h =
    let w = within 0 r f in
    lot-normal-range l r.score r.window r.steady r.permission w.window-fits w.ones-fit
lot-range (suc zero) l r f h =
    lot-tightened-range l r.run r.count r.steady r.permission (within 1 r f).count_fits
lot-range (suc (suc zero)) l r f h = lot-reduced-range l r h
lot-range (suc (suc (suc s))) l r f h = tt

resubmitted-range : (s : ℕ) (r : Record) → in_range r ≡ true → GivesInRange (on_resubmitted s r)
unfolding on_resubmitted
resubmitted-range s r h = go (leb stopped s)
  where
    go : (d : Bool) → GivesInRange (cond d (refused while_stopped 0) (given r))
    go true = tt
    go false = h

order-range : (s : ℕ) (stands st pe : Bool) (r : Record) → figures_in_range s r ≡ true
    → in_range (on_order s stands st pe r) ≡ true
unfolding on_order
order-range zero stands st pe r f =
    let w = within 0 r f in
    settled-range r.score r.window st pe w.score-fits w.window-fits w.ones-fit
order-range (suc zero) stands st pe r f =
    let w = within 1 r f in
    tightened-range r.run r.count st pe w.run_fits w.count_fits
order-range (suc (suc zero)) true st pe r f = started-range reduced st pe (omega arith)
order-range (suc (suc zero)) false st pe r f = started-range normal st pe (omega arith)
order-range (suc (suc (suc s))) stands st pe r f = started-range stopped st pe (omega arith)

corrective-range : (s : ℕ) (r : Record) → GivesInRange (on_corrective s r)
unfolding on_corrective
corrective-range s r = go (leb stopped s) _ (started-range tightened _ r.permission (omega arith))
  where
    go : (d : Bool) (t : Record) → in_range t ≡ true → GivesInRange (cond d (given t) (refused not_stopped 0))
    go true t h = h
    go false t h = tt

event-range : (r : Record) (e : Event) → in_range r ≡ true → GivesInRange (step r e)
unfolding step
event-range r (lot o l) h = lot-range r.severity l r h h
event-range r resubmitted h = resubmitted-range r.severity r h
event-range r (steady_is b) h = order-range r.severity b b r.permission r h
event-range r (permission_is b) h = order-range r.severity b r.steady b r h
event-range r corrective h = corrective-range r.severity r
event-range r unknown h = tt

-- A step from a record in range gives a record in range.
pub step-range : (r : Record) (e : Event) (t : Record) → in_range r ≡ true → step r e ≡ given t → in_range t ≡ true
step-range r e t h q = rw q at (event-range r e h)

pub fresh-range : (start : Bool) → in_range (fresh start) ≡ true
fresh-range start = started-range normal false start (omega arith)

-- So does a history that is not refused.
pub after-range : (r : Record) (es : List Event) (t : Record) → in_range r ≡ true → after_from r es ≡ given t
    → in_range t ≡ true
unfolding after_from
after-range r [] t h q = rw (← given-one q) h
after-range r (e ∷ es) t h q =
    let w = one-event r t e es q in
    step-range w.0 e t (after-range r es w.0 h w.1) w.2
