-- Demand 3's agreement: the record folded over a history that is not refused is, figure by figure, the record that the
-- written reading finds, which keeps none.
-- Assumes nothing.
use Prim.Native.Nat.{ℕ, zero, suc}
use mathlib.Core.Path.{◌≡◌, refl, sym, ap, ◌∙◌}
use mathlib.Core.Bool.{Bool, true, false, cond, ◌&&◌, not}
use mathlib.Core.List.{List, [], ◌∷◌}
use native.Mathlib.Omega.{arith}
use lib.Dec.{leb}
use lib.ListN.{take}
use Rattle.rules.specs.Refusals.{Answer, refused, given, while_stopped, not_stopped}
use Rattle.rules.specs.Codes.{normal, tightened, reduced, stopped}
use Rattle.rules.specs.Severity.{Lot, add_three, add_two, score_zero, not_accepted, accepted, Event, lot}
use Rattle.rules.specs.Severity.{resubmitted, steady_is, permission_is, corrective, unknown, Record, started}
use Rattle.rules.specs.Severity.{due, settled, score_after, lot_normal, lot_tightened, lot_reduced, on_lot}
use Rattle.rules.specs.Severity.{on_resubmitted, on_order, on_corrective, step}
use Rattle.rules.specs.Reading.{steady_by, permission_by, steady_in, permission_in, not_accepted_in, run_of, points_of}
use Rattle.rules.specs.Reading.{score_of, Stay, stay_of, read_settled, read_normal, read_tightened, read_reduced}
use Rattle.rules.specs.Reading.{read_lot, read_order, read_corrective, read_event, stay_after, severity_read, bits_of}
use Rattle.rules.specs.Reading.{figures_of, record_of, record_read}
use Rattle.rules.specs.History.{after_from, after}
use Rattle.rules.proofs.Answers.{given-one}
use Rattle.rules.proofs.Append.{one-event}
use Rattle.rules.proofs.Window.{ones-bits, window-bits}

-- a stay that starts has cleared figures
starts : (s : ℕ) (st pe : Bool) → started s st pe ≡ figures_of s [] st pe
unfolding figures_of run_of not_accepted_in points_of bits_of
starts zero st pe = refl
starts (suc zero) st pe = refl
starts (suc (suc s)) st pe = refl

-- a test between the start of another stay and what goes on agrees if what goes on does
chosen : (d : Bool) (s : ℕ) (st pe : Bool) (r : Record) (y : Stay) → r ≡ record_of st pe y
    → cond d (started s st pe) r ≡ record_of st pe (cond d (stay_of s []) y)
chosen true s st pe r y h = starts s st pe
chosen false s st pe r y h = h

settled-read : (ls : List Lot) (st pe : Bool)
    → settled (score_of ls) (bits_of (take 5 ls)) st pe ≡ record_of st pe (read_settled ls st pe)
unfolding figures_of
settled-read ls st pe = chosen (due (score_of ls) st pe) reduced st pe _ (stay_of normal ls) refl

score-read : (l : Lot) (ls : List Lot) → score_after l (score_of ls) ≡ score_of (l ∷ ls)
unfolding points_of
score-read add_three ls = omega arith
score-read add_two ls = omega arith
score-read score_zero ls = refl
score-read not_accepted ls = refl

normal-read : (l : Lot) (ls : List Lot) (st pe : Bool)
    → lot_normal l (score_of ls) (bits_of (take 5 ls)) st pe ≡ record_of st pe (read_normal l ls st pe)
normal-read l ls st pe =
    rw (window-bits l ls, score-read l ls, ones-bits (take 5 (l ∷ ls)))
    (chosen (not (accepted l) && leb 2 (not_accepted_in (take 5 (l ∷ ls)))) tightened st pe _
    (read_settled (l ∷ ls) st pe)
    (settled-read (l ∷ ls) st pe))

tightened-read : (l : Lot) (ls : List Lot) (st pe : Bool)
    → lot_tightened l (run_of ls) (not_accepted_in ls) st pe ≡ record_of st pe (read_tightened l ls)
unfolding figures_of run_of not_accepted_in
tightened-read add_three ls st pe =
    chosen (leb 5 (suc (run_of ls))) normal st pe _ (stay_of tightened (add_three ∷ ls)) refl
tightened-read add_two ls st pe =
    chosen (leb 5 (suc (run_of ls))) normal st pe _ (stay_of tightened (add_two ∷ ls)) refl
tightened-read score_zero ls st pe =
    chosen (leb 5 (suc (run_of ls))) normal st pe _ (stay_of tightened (score_zero ∷ ls)) refl
tightened-read not_accepted ls st pe =
    chosen (leb 5 (suc (not_accepted_in ls))) stopped st pe _ (stay_of tightened (not_accepted ∷ ls)) refl

reduced-read : (l : Lot) (ls : List Lot) (st pe : Bool)
    → lot_reduced l (started reduced st pe) ≡ record_of st pe (read_reduced l ls)
unfolding figures_of
reduced-read add_three ls st pe = refl
reduced-read add_two ls st pe = refl
reduced-read score_zero ls st pe = refl
reduced-read not_accepted ls st pe = starts normal st pe

-- an answer whose record, if it gives one, is this
abbrev Gives : Answer Record → Record → Type 0
Gives (refused n p) t = Unit {0}
Gives (given r) t = r ≡ t

lot-read : (s : ℕ) (l : Lot) (ls : List Lot) (st pe : Bool)
    → Gives (on_lot s l (figures_of s ls st pe)) (record_of st pe (read_lot s l ls st pe))
unfolding on_lot read_lot figures_of
lot-read zero l ls st pe = normal-read l ls st pe
lot-read (suc zero) l ls st pe = tightened-read l ls st pe
lot-read (suc (suc zero)) l ls st pe = reduced-read l ls st pe
lot-read (suc (suc (suc s))) l ls st pe = tt

resubmitted-read : (s : ℕ) (r : Record) → Gives (on_resubmitted s r) r
unfolding on_resubmitted
resubmitted-read s r = go (leb stopped s)
  where
    go : (d : Bool) → Gives (cond d (refused while_stopped 0) (given r)) r
    go true = tt
    go false = refl

order-read : (s : ℕ) (stands : Bool) (ls : List Lot) (st pe st₁ pe₁ : Bool)
    → on_order s stands st₁ pe₁ (figures_of s ls st pe) ≡ record_of st₁ pe₁ (read_order s stands ls st₁ pe₁)
unfolding on_order read_order figures_of
order-read zero stands ls st pe st₁ pe₁ = settled-read ls st₁ pe₁
order-read (suc zero) stands ls st pe st₁ pe₁ = refl
order-read (suc (suc zero)) true ls st pe st₁ pe₁ = refl
order-read (suc (suc zero)) false ls st pe st₁ pe₁ = starts normal st₁ pe₁
order-read (suc (suc (suc s))) stands ls st pe st₁ pe₁ = refl

-- the record's own severity, steady and permission
severity-of : (s : ℕ) (ls : List Lot) (st pe : Bool) → (figures_of s ls st pe).severity ≡ s
unfolding figures_of
severity-of zero ls st pe = refl
severity-of (suc zero) ls st pe = refl
severity-of (suc (suc s)) ls st pe = refl

steady-of : (s : ℕ) (ls : List Lot) (st pe : Bool) → (figures_of s ls st pe).steady ≡ st
unfolding figures_of
steady-of zero ls st pe = refl
steady-of (suc zero) ls st pe = refl
steady-of (suc (suc s)) ls st pe = refl

permission-of : (s : ℕ) (ls : List Lot) (st pe : Bool) → (figures_of s ls st pe).permission ≡ pe
unfolding figures_of
permission-of zero ls st pe = refl
permission-of (suc zero) ls st pe = refl
permission-of (suc (suc s)) ls st pe = refl

corrected : (d : Bool) (st pe : Bool) (y : Stay)
    → Gives (cond d (given (started tightened st pe)) (refused not_stopped 0))
    (record_of st pe (cond d (stay_of tightened []) y))
corrected true st pe y = starts tightened st pe
corrected false st pe y = tt

corrective-read : (s : ℕ) (ls : List Lot) (st pe : Bool)
    → Gives (on_corrective s (figures_of s ls st pe))
    (record_of (steady_by corrective st) (permission_by corrective pe) (read_corrective s ls))
unfolding on_corrective figures_of
corrective-read zero ls st pe = tt
corrective-read (suc zero) ls st pe = tt
corrective-read (suc (suc s)) ls st pe = corrected (leb stopped (suc (suc s))) _ _ (stay_of (suc (suc s)) ls)

-- one event
event-read : (e : Event) (st pe : Bool) (y : Stay)
    → Gives (step (record_of st pe y) e)
    (record_of (steady_by e st) (permission_by e pe) (read_event e (steady_by e st) (permission_by e pe) y))
unfolding step read_event figures_of
event-read (lot o l) st pe y = rw (severity-of y.severity y.lots st pe) (lot-read y.severity l y.lots st pe)
event-read resubmitted st pe y = resubmitted-read (record_of st pe y).severity (record_of st pe y)
event-read (steady_is b) st pe y =
    rw (severity-of y.severity y.lots st pe, permission-of y.severity y.lots st pe)
    (order-read y.severity b y.lots st pe b pe)
event-read (permission_is b) st pe y =
    rw (severity-of y.severity y.lots st pe, steady-of y.severity y.lots st pe)
    (order-read y.severity b y.lots st pe st b)
event-read corrective st pe y =
    rw (severity-of y.severity y.lots st pe)
    (corrective-read y.severity y.lots st pe)
event-read unknown st pe y = tt

-- The record after a history that is not refused is the one that the written reading finds.
pub agree : (start : Bool) (es : List Event) (r : Record) → after start es ≡ given r → r ≡ record_read start es
unfolding after_from stay_after steady_in permission_in
agree start [] r q = sym (given-one q) ∙ starts normal false start
agree start (e ∷ es) r q =
    let w = one-event _ r e es q in
    let h : step (record_read start es) e ≡ given r = rw (← agree start es w.0 w.1) w.2 in
    rw h at (event-read e (steady_in es) (permission_in start es) (stay_after start es))

-- Its severity is the written reading's.
pub severity-agrees : (start : Bool) (es : List Event) (r : Record) → after start es ≡ given r
    → r.severity ≡ severity_read start es
severity-agrees start es r q = ap (λ (x : Record). x.severity) (agree start es r q) ∙ severity-of _ _ _ _

-- So are its steady and permission.
pub orders-agree : (start : Bool) (es : List Event) (r : Record) → after start es ≡ given r
    → (r.steady ≡ steady_in es) × (r.permission ≡ permission_in start es)
orders-agree start es r q =
    let e : r ≡ record_read start es = agree start es r q in (
      ap (λ (x : Record). x.steady) e ∙ steady-of _ _ _ _,
      ap (λ (x : Record). x.permission) e ∙ permission-of _ _ _ _,
    )
