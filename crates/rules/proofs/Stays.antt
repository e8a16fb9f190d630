-- The stays that a history contains: their lots are the history's original lots; the first has the written reading's
-- severity, and unless it is stopped its lots; a tightened one holds at most 25 original lots and at most five not
-- accepted.
-- Assumes nothing.
use Prim.Native.Nat.{ℕ, zero, suc, ◌+◌, ◌*◌, ◌≤◌}
use mathlib.Core.Path.{◌≡◌, refl, sym, ap, ap₂, ◌∙◌}
use mathlib.Core.Bool.{Bool, true, false, cond, ◌&&◌, not}
use mathlib.Core.List.{List, [], ◌∷◌, ◌++◌}
use mathlib.Core.Logic.{◌⊎◌, inl, inr}
use native.Mathlib.Omega.{arith}
use borrow.Author.Tests.{leb-true, leb-false, eq-eqb, ne_eqb, eqb-true, eqb-false}
use lib.Dec.{leb, eqb}
use lib.ListN.{length, take}
use Rattle.rules.specs.Codes.{normal, tightened, reduced, stopped}
use Rattle.rules.specs.Severity.{Origin, Lot, accepted, Event, lot, resubmitted, steady_is, permission_is}
use Rattle.rules.specs.Severity.{corrective, unknown, due}
use Rattle.rules.specs.Reading.{steady_in, permission_in, not_accepted_in, run_of, score_of, Stay, stay_of}
use Rattle.rules.specs.Reading.{read_settled, read_normal, read_tightened, read_reduced, read_lot, read_order}
use Rattle.rules.specs.Reading.{read_corrective, read_event, stay_after, severity_read, lots_with, stays_by, stays_in}
use Rattle.rules.specs.Switching.{Every, AtMost25, original_lots, lots_of_all}
use Rattle.rules.specs.Switching.{NeighboursDiffer, Whole}

-- what keeps a tightened stay so short: no five accepted in a row, no fifth not accepted
abbrev pub Few : List Lot → Type 0
Few ls = (run_of ls ≤ 4) × (not_accepted_in ls ≤ 4) × (length ls ≤ 5 * not_accepted_in ls + run_of ls)

few-none : Few []
unfolding run_of not_accepted_in
few-none = omega arith

run-accepted : (l : Lot) (ls : List Lot) → accepted l ≡ true
    → (run_of (l ∷ ls) ≡ suc (run_of ls)) × (not_accepted_in (l ∷ ls) ≡ not_accepted_in ls)
unfolding run_of not_accepted_in
run-accepted l ls e = rw e (refl, refl)

pub run-not-accepted : (l : Lot) (ls : List Lot) → accepted l ≡ false
    → (run_of (l ∷ ls) ≡ 0) × (not_accepted_in (l ∷ ls) ≡ suc (not_accepted_in ls))
unfolding run_of not_accepted_in
run-not-accepted l ls e = rw e (refl, refl)

few-bound : (e : Event) (ls : List Lot) → Few ls
    → (length (lots_with e ls) ≤ 25) × (not_accepted_in (lots_with e ls) ≤ 5)
few-bound (lot o l) ls h = go (accepted l) refl
  where
    go : (d : Bool) → accepted l ≡ d → (length (l ∷ ls) ≤ 25) × (not_accepted_in (l ∷ ls) ≤ 5)
    go true e = omega (arith, run-accepted l ls e)
    go false e = omega (arith, run-not-accepted l ls e)
few-bound resubmitted ls h = omega arith
few-bound (steady_is b) ls h = omega arith
few-bound (permission_is b) ls h = omega arith
few-bound corrective ls h = omega arith
few-bound unknown ls h = omega arith

lots-joined : (e : Event) (es : List Event) (ls ms : List Lot) → ls ++ ms ≡ original_lots es
    → lots_with e ls ++ ms ≡ original_lots (e ∷ es)
unfolding original_lots
lots-joined (lot o l) es ls ms h = ap (λ (ks : List Lot). l ∷ ks) h
lots-joined resubmitted es ls ms h = h
lots-joined (steady_is b) es ls ms h = h
lots-joined (permission_is b) es ls ms h = h
lots-joined corrective es ls ms h = h
lots-joined unknown es ls ms h = h

whole-on : (e : Event) (es : List Event) (t : ℕ) (y : Stay) (ys : List Stay)
    → lots_of_all (y ∷ ys) ≡ original_lots es → NeighboursDiffer (y ∷ ys) → Whole t (e ∷ es) (stays_by e t (y ∷ ys))
unfolding lots_of_all
whole-on e es t y ys q n = go (eqb t y.severity) refl
  where
    go : (d : Bool) → eqb t y.severity ≡ d
        → Whole t (e ∷ es)
        (cond d (stay_of y.severity (lots_with e y.lots) ∷ ys)
        (stay_of t [] ∷ stay_of y.severity (lots_with e y.lots) ∷ ys))
    go true m = record {
      all-lots = lots-joined e es y.lots (lots_of_all ys) q;
      neighbours = n;
      first-present = sym (eqb-true t y.severity m);
    }
    go false m = record {
      all-lots = lots-joined e es y.lots (lots_of_all ys) q;
      neighbours = (eqb-false t y.severity m, n);
      first-present = refl;
    }

-- The stays' lots are all the original lots of the history, newest first; neighbours differ in severity, and the first
-- has the present one.
pub stays-whole : (start : Bool) (es : List Event) → Whole (severity_read start es) es (stays_in start es)
unfolding stays_in stay_after lots_of_all original_lots
stays-whole start [] = record { all-lots = refl; neighbours = (tt, tt); first-present = refl }
stays-whole start (e ∷ es) = go (stays_in start es) (stays-whole start es)
  where
    go : (ys : List Stay) → Whole (severity_read start es) es ys
        → Whole (severity_read start (e ∷ es)) (e ∷ es) (stays_by e (severity_read start (e ∷ es)) ys)
    go [] h = absurd h.first-present
    go (y ∷ ys) h = whole-on e es (severity_read start (e ∷ es)) y ys h.all-lots h.neighbours

-- What an event makes of a stay: the stay goes on with the lot that the event may bring, or a stay of another severity
-- starts.
abbrev Goes : Event → Stay → Stay → Type 0
Goes e y z =
    (z.severity ≡ y.severity)
    × (y.severity ≤ 2 → z.lots ≡ lots_with e y.lots)
    × (y.severity ≡ 1 → Few y.lots → Few (lots_with e y.lots))

abbrev Starts : Stay → Stay → Type 0
Starts y z = (z.severity ≤ 3) × (z.severity ≡ y.severity → ⊥) × (z.lots ≡ [])

abbrev Moves : Event → Stay → Stay → Type 0
Moves e y z = Goes e y z ⊎ Starts y z

between : (d : Bool) (e : Event) (s t : ℕ) (ls : List Lot) → t ≤ 3 → (d ≡ true → t ≡ s → ⊥)
    → (d ≡ false → s ≡ 1 → Few ls → Few (lots_with e ls))
    → Moves e (stay_of s ls) (cond d (stay_of t []) (stay_of s (lots_with e ls)))
between true e s t ls h n f = inr (h, n refl, refl)
between false e s t ls h n f = inl (refl, λ _. refl, f refl)

normal-moves : (o : Origin) (l : Lot) (ls : List Lot) (st pe : Bool)
    → Moves (lot o l) (stay_of 0 ls) (read_normal l ls st pe)
normal-moves o l ls st pe = go (not (accepted l) && leb 2 (not_accepted_in (take 5 (l ∷ ls))))
  where
    go : (d : Bool) → Moves (lot o l) (stay_of 0 ls) (cond d (stay_of tightened []) (read_settled (l ∷ ls) st pe))
    go true = inr (omega arith, omega arith, refl)
    go false =
        between (due (score_of (l ∷ ls)) st pe) (lot o l) 0 2 ls (omega arith) (λ _. omega arith)
        (λ _ n. absurd (omega arith))

tightened-moves : (o : Origin) (l : Lot) (ls : List Lot) → Moves (lot o l) (stay_of 1 ls) (read_tightened l ls)
tightened-moves o l ls = go (accepted l) refl
  where
    go : (d : Bool) → accepted l ≡ d
        → Moves (lot o l) (stay_of 1 ls)
        (cond d (cond (leb 5 (run_of (l ∷ ls))) (stay_of normal []) (stay_of tightened (l ∷ ls)))
        (cond (leb 5 (not_accepted_in (l ∷ ls))) (stay_of stopped []) (stay_of tightened (l ∷ ls))))
    go true e =
        between (leb 5 (run_of (l ∷ ls))) (lot o l) 1 0 ls (omega arith) (λ _. omega arith)
        (λ f _ h. omega (arith, run-accepted l ls e, leb-false 5 (run_of (l ∷ ls)) f))
    go false e =
        between (leb 5 (not_accepted_in (l ∷ ls))) (lot o l) 1 3 ls (omega arith) (λ _. omega arith)
        (λ f _ h. omega (arith, run-not-accepted l ls e, leb-false 5 (not_accepted_in (l ∷ ls)) f))

reduced-moves : (o : Origin) (l : Lot) (ls : List Lot) → Moves (lot o l) (stay_of 2 ls) (read_reduced l ls)
reduced-moves o l ls = go (accepted l)
  where
    go : (d : Bool) → Moves (lot o l) (stay_of 2 ls) (cond d (stay_of reduced (l ∷ ls)) (stay_of normal []))
    go true = inl (refl, λ _. refl, λ n. absurd (omega arith))
    go false = inr (omega arith, omega arith, refl)

lot-moves : (s : ℕ) (o : Origin) (l : Lot) (ls : List Lot) (st pe : Bool) → s ≤ 3
    → Moves (lot o l) (stay_of s ls) (read_lot s l ls st pe)
unfolding read_lot
lot-moves zero o l ls st pe h = normal-moves o l ls st pe
lot-moves (suc zero) o l ls st pe h = tightened-moves o l ls
lot-moves (suc (suc zero)) o l ls st pe h = reduced-moves o l ls
lot-moves (suc (suc (suc zero))) o l ls st pe h =
    inl (refl, λ n. absurd (omega arith), λ n. absurd (omega arith))
lot-moves (suc (suc (suc (suc s)))) o l ls st pe h = absurd (omega arith)

-- an event that brings no lot
module _ (e : Event) (ls : List Lot) (none : lots_with e ls ≡ ls) where
  idle : (s : ℕ) → Moves e (stay_of s ls) (stay_of s ls)
  idle s = inl (refl, λ _. sym none, λ _ h. rw none h)

  other : (d : Bool) (s t : ℕ) → t ≤ 3 → (d ≡ true → t ≡ s → ⊥)
      → Moves e (stay_of s ls) (cond d (stay_of t []) (stay_of s ls))
  other true s t h n = inr (h, n refl, refl)
  other false s t h n = idle s

  order-moves : (s : ℕ) (stands st pe : Bool) → s ≤ 3 → Moves e (stay_of s ls) (read_order s stands ls st pe)
  unfolding read_order
  order-moves zero stands st pe h = other (due (score_of ls) st pe) 0 2 (omega arith) (λ _. omega arith)
  order-moves (suc zero) stands st pe h = idle 1
  order-moves (suc (suc zero)) true st pe h = idle 2
  order-moves (suc (suc zero)) false st pe h = inr (omega arith, omega arith, refl)
  order-moves (suc (suc (suc zero))) stands st pe h = idle 3
  order-moves (suc (suc (suc (suc s)))) stands st pe h = absurd (omega arith)

  corrective-moves : (s : ℕ) → Moves e (stay_of s ls) (read_corrective s ls)
  corrective-moves s = other (leb stopped s) s 1 (omega arith) (λ f. omega (arith, leb-true stopped s f))

event-moves : (e : Event) (st pe : Bool) (y : Stay) → y.severity ≤ 3 → Moves e y (read_event e st pe y)
unfolding read_event
event-moves (lot o l) st pe y h = lot-moves y.severity o l y.lots st pe h
event-moves resubmitted st pe y h = idle resubmitted y.lots refl y.severity
event-moves (steady_is b) st pe y h = order-moves (steady_is b) y.lots refl y.severity b st pe h
event-moves (permission_is b) st pe y h = order-moves (permission_is b) y.lots refl y.severity b st pe h
event-moves corrective st pe y h = corrective-moves corrective y.lots refl y.severity
event-moves unknown st pe y h = idle unknown y.lots refl y.severity

-- The stays so far, the first of them the written reading's z.
abbrev Held : Stay → List Stay → Type 0
Held z [] = ⊥
Held z (y ∷ ys) =
    (z.severity ≤ 3)
    × (y.severity ≡ z.severity)
    × (y.severity ≤ 2 → y.lots ≡ z.lots)
    × (y.severity ≡ 1 → Few y.lots)
    × Every AtMost25 ys

held-fits : (z : Stay) (ys : List Stay) → Held z ys → z.severity ≤ 3
held-fits z [] h = absurd h
held-fits z (y ∷ ys) h = h.0

few-on : (e : Event) (ls ms : List Lot) → ls ≡ ms → (Few ms → Few (lots_with e ms)) → Few ls → Few (lots_with e ls)
few-on e ls ms q f h = rw q (f (rw q at h))

held-on : (e : Event) (x z : Stay) (ys : List Stay) → Moves e x z → Held x ys → Held z (stays_by e z.severity ys)
held-on e x z [] m h = h
held-on e x z (y ∷ ys) (inl g) h =
    rw (eq-eqb z.severity y.severity (g.0 ∙ sym h.1)) (
      omega arith,
      h.1 ∙ sym g.0,
      λ l. ap (lots_with e) (h.2 l) ∙ sym (g.1 (omega arith)),
      λ n. few-on e y.lots x.lots (h.2 (omega arith)) (g.2 (omega arith)) (h.3 n),
      h.4,
    )
held-on e x z (y ∷ ys) (inr g) h =
    rw (ne_eqb z.severity y.severity (λ q. g.1 (q ∙ h.1)))
    (g.0, refl, λ _. sym g.2, λ _. few-none, (λ n. few-bound e y.lots (h.3 n), h.4))

held : (start : Bool) (es : List Event) → Held (stay_after start es) (stays_in start es)
unfolding stay_after stays_in
held start [] = (omega arith, refl, λ _. refl, λ n. absurd (omega arith), tt)
held start (e ∷ es) =
    let h = held start es in
    held-on e (stay_after start es) (stay_after start (e ∷ es)) (stays_in start es)
    (event-moves e (steady_in (e ∷ es)) (permission_in start (e ∷ es)) (stay_after start es)
    (held-fits _ (stays_in start es) h))
    h

-- The severity that the written reading finds is one of the four.
pub severity-fits : (start : Bool) (es : List Event) → severity_read start es ≤ stopped
severity-fits start es = held-fits (stay_after start es) (stays_in start es) (held start es)

-- The written reading's lots are the original lots judged since the severity last changed: its stay is the first of
-- the history's. (While stopped no lot is judged, and the reading takes none.)
pub present-stay : (start : Bool) (es : List Event) → (severity_read start es ≡ stopped → ⊥)
    → (earlier : List Stay) × (stays_in start es ≡ stay_after start es ∷ earlier)
present-stay start es n =
    go (stay_after start es) (stays_in start es) (held start es) (omega (arith, severity-fits start es))
  where
    go : (z : Stay) (ys : List Stay) → Held z ys → z.severity ≤ 2 → (earlier : List Stay) × (ys ≡ z ∷ earlier)
    go z [] h l = absurd h
    go z (y ∷ ys) h l = (ys, ap (λ (x : Stay). x ∷ ys) (ap₂ stay_of h.1 (h.2 (omega arith))))

-- A tightened stay holds at most 25 original lots and at most five not accepted.
pub tightened-stays : (start : Bool) (es : List Event) → Every AtMost25 (stays_in start es)
tightened-stays start es = go (stay_after start es) (stays_in start es) (held start es)
  where
    go : (z : Stay) (ys : List Stay) → Held z ys → Every AtMost25 ys
    go z [] h = tt
    go z (y ∷ ys) h = (λ n. few-bound resubmitted y.lots (h.3 n), h.4)

-- So short is the present stay, if it is tightened.
pub tightened-few : (start : Bool) (es : List Event) → severity_read start es ≡ tightened
    → Few (stay_after start es).lots
tightened-few start es s = go (stay_after start es) (stays_in start es) (held start es) s
  where
    go : (z : Stay) (ys : List Stay) → Held z ys → z.severity ≡ 1 → Few z.lots
    go z [] h q = absurd h
    go z (y ∷ ys) h q = rw (← h.2 (omega arith)) (h.3 (omega arith))
