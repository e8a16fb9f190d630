-- "Each change starts a stay with score, run, window and count cleared; steady and permission stay": what each event
-- leaves of steady, of permission and of the figures, in the record and in the written reading; and histories whose
-- orders outlive the stays after them.
-- Assumes nothing.
use Prim.Native.Nat.{ℕ, zero, suc}
use mathlib.Core.Path.{◌≡◌, refl, sym}
use mathlib.Core.Bool.{Bool, true, false, cond, ◌&&◌, not}
use mathlib.Core.List.{List, [], ◌∷◌, ◌++◌}
use lib.Count.{ones}
use lib.Dec.{leb}
use lib.ListN.{length, replicate}
use Rattle.rules.specs.Refusals.{Answer, refused, given, while_stopped, not_stopped}
use Rattle.rules.specs.Codes.{normal, tightened, reduced, stopped}
use Rattle.rules.specs.Severity.{Lot, accepted, Event, lot, resubmitted, steady_is, permission_is, corrective}
use Rattle.rules.specs.Severity.{unknown, Record, started, on_normal, on_tightened, due, settled, score_after}
use Rattle.rules.specs.Severity.{window_after, on_lot, on_resubmitted, on_order, on_corrective, step}
use Rattle.rules.specs.Reading.{steady_in, permission_in, severity_read, stay_after, not_accepted_in, run_of}
use Rattle.rules.specs.Reading.{points_of, read_lot, read_order, read_event}
use Rattle.rules.specs.History.{ours, past, event_in, event_of, after_from, after_history}
use Rattle.rules.specs.Terminal.{flag}
use Rattle.rules.specs.Switching.{CarriedOver}
use Rattle.rules.proofs.Answers.{refused-given, given-one}
use Rattle.rules.proofs.Cases.{Case, ◌is◌, AllAsSaid}

-- The written reading: only a steady order changes steady, only one of permission changes permission; at the start
-- steady is no, and permission as the start names it.
pub steady-start : steady_in [] ≡ false
unfolding steady_in
steady-start = refl

pub permission-start : (start : Bool) → permission_in start [] ≡ start
unfolding permission_in
permission-start start = refl

pub steady-ordered : (b : Bool) (es : List Event) → steady_in (steady_is b ∷ es) ≡ b
unfolding steady_in
steady-ordered b es = refl

pub permission-ordered : (start b : Bool) (es : List Event) → permission_in start (permission_is b ∷ es) ≡ b
unfolding permission_in
permission-ordered start b es = refl

pub steady-stays : (e : Event) (es : List Event) → ((b : Bool) → e ≡ steady_is b → ⊥)
    → steady_in (e ∷ es) ≡ steady_in es
unfolding steady_in
steady-stays (lot o l) es n = refl
steady-stays resubmitted es n = refl
steady-stays (steady_is b) es n = absurd (n b refl)
steady-stays (permission_is b) es n = refl
steady-stays corrective es n = refl
steady-stays unknown es n = refl

pub permission-stays : (start : Bool) (e : Event) (es : List Event) → ((b : Bool) → e ≡ permission_is b → ⊥)
    → permission_in start (e ∷ es) ≡ permission_in start es
unfolding permission_in
permission-stays start (lot o l) es n = refl
permission-stays start resubmitted es n = refl
permission-stays start (steady_is b) es n = refl
permission-stays start (permission_is b) es n = absurd (n b refl)
permission-stays start corrective es n = refl
permission-stays start unknown es n = refl

abbrev Stands : Bool → Bool → Record → Answer Record → Type 0
Stands st pe r (refused n p) = Unit {0}
Stands st pe r (given t) = CarriedOver st pe r t

starts : (s : ℕ) (st pe : Bool) (r : Record) → CarriedOver st pe r (started s st pe)
starts s st pe r = record { steady = refl; permission = refl; cleared = λ _. refl }

unless : (d : Bool) (st pe : Bool) (r x y : Record) → CarriedOver st pe r x → CarriedOver st pe r y
    → CarriedOver st pe r (cond d x y)
unless true st pe r x y h k = h
unless false st pe r x y h k = k

on-normal : (score window : ℕ) (st pe : Bool) (r : Record) → r.severity ≡ normal
    → CarriedOver st pe r (on_normal score window st pe)
on-normal score window st pe r s = record { steady = refl; permission = refl; cleared = λ n. absurd (n (sym s)) }

on-tightened : (run count : ℕ) (st pe : Bool) (r : Record) → r.severity ≡ tightened
    → CarriedOver st pe r (on_tightened run count st pe)
on-tightened run count st pe r s = record { steady = refl; permission = refl; cleared = λ n. absurd (n (sym s)) }

same : (r : Record) → CarriedOver r.steady r.permission r r
same r = record { steady = refl; permission = refl; cleared = λ n. absurd (n refl) }

settles : (score window : ℕ) (st pe : Bool) (r : Record) → r.severity ≡ normal
    → CarriedOver st pe r (settled score window st pe)
settles score window st pe r s =
    unless (due score st pe) st pe r (started reduced st pe) (on_normal score window st pe) (starts reduced st pe r)
    (on-normal score window st pe r s)

lot-stands : (s : ℕ) (l : Lot) (r : Record) → r.severity ≡ s → Stands r.steady r.permission r (on_lot s l r)
unfolding on_lot
lot-stands zero l r h =
    unless (not (accepted l) && leb 2 (ones (window_after l r.window))) _ _ r _ _ (starts tightened _ _ r)
    (settles (score_after l r.score) (window_after l r.window) _ _ r h)
lot-stands (suc zero) l r h =
    unless (accepted l) _ _ r _ _
    (unless (leb 5 (suc r.run)) _ _ r _ _ (starts normal _ _ r) (on-tightened (suc r.run) r.count _ _ r h))
    (unless (leb 5 (suc r.count)) _ _ r _ _ (starts stopped _ _ r) (on-tightened 0 (suc r.count) _ _ r h))
lot-stands (suc (suc zero)) l r h = unless (accepted l) _ _ r _ _ (same r) (starts normal _ _ r)
lot-stands (suc (suc (suc s))) l r h = tt

resubmitted-stands : (d : Bool) (r : Record)
    → Stands r.steady r.permission r (cond d (refused while_stopped 0) (given r))
resubmitted-stands true r = tt
resubmitted-stands false r = same r

corrective-stands : (d : Bool) (r : Record)
    → Stands r.steady r.permission r
    (cond d (given (started tightened r.steady r.permission)) (refused not_stopped 0))
corrective-stands true r = starts tightened _ _ r
corrective-stands false r = tt

order-stands : (s : ℕ) (stands st pe : Bool) (r : Record) → r.severity ≡ s
    → CarriedOver st pe r (on_order s stands st pe r)
unfolding on_order
order-stands zero stands st pe r h = settles r.score r.window st pe r h
order-stands (suc zero) stands st pe r h = on-tightened r.run r.count st pe r h
order-stands (suc (suc zero)) stands st pe r h =
    unless stands st pe r _ _ (starts reduced st pe r) (starts normal st pe r)
order-stands (suc (suc (suc s))) stands st pe r h = starts stopped st pe r

given-stands : (st pe : Bool) (r t : Record) (a : Answer Record) → a ≡ given t → Stands st pe r a
    → CarriedOver st pe r t
given-stands st pe r t (refused n p) q h = absurd (refused-given q)
given-stands st pe r t (given u) q h = rw (← given-one q) h

-- The record: a steady order leaves steady as ordered and permission as it was, one of permission the other way round,
-- and any other event leaves both as they were; and each change of severity starts a stay with cleared figures.
pub steady-order : (r t : Record) (b : Bool) → step r (steady_is b) ≡ given t → CarriedOver b r.permission r t
unfolding step
steady-order r t b q =
    given-stands b r.permission r t _ q (order-stands r.severity b b r.permission r refl)

pub permission-order : (r t : Record) (b : Bool) → step r (permission_is b) ≡ given t → CarriedOver r.steady b r t
unfolding step
permission-order r t b q =
    given-stands r.steady b r t _ q (order-stands r.severity b r.steady b r refl)

pub no-order : (r t : Record) (e : Event) → ((b : Bool) → e ≡ steady_is b → ⊥) → ((b : Bool) → e ≡ permission_is b → ⊥)
    → step r e ≡ given t → CarriedOver r.steady r.permission r t
unfolding step on_resubmitted on_corrective
no-order r t (lot o l) m n q = given-stands _ _ r t _ q (lot-stands r.severity l r refl)
no-order r t resubmitted m n q = given-stands _ _ r t _ q (resubmitted-stands (leb stopped r.severity) r)
no-order r t (steady_is b) m n q = absurd (m b refl)
no-order r t (permission_is b) m n q = absurd (n b refl)
no-order r t corrective m n q = given-stands _ _ r t _ q (corrective-stands (leb stopped r.severity) r)
no-order r t unknown m n q = absurd (refused-given q)

-- steady and permission, 1 for yes
orders_in : Answer Record → List ℕ
orders_in (refused n p) = []
orders_in (given r) = flag r.steady ∷ flag r.permission ∷ []

-- "5 steady, 6 not steady, 7 permission, 8 withdrawn": neither order touches the other
pub byte_cases : List (Case (List ℕ))
byte_cases =
    (orders_in (after_history ours []) is (0 ∷ 0 ∷ []))
    ∷ (orders_in (after_history ours (5 ∷ [])) is (1 ∷ 0 ∷ []))
    ∷ (orders_in (after_history ours (7 ∷ [])) is (0 ∷ 1 ∷ []))
    ∷ (orders_in (after_history ours (5 ∷ 7 ∷ 6 ∷ [])) is (0 ∷ 1 ∷ []))
    ∷ (orders_in (after_history ours (5 ∷ 7 ∷ 8 ∷ [])) is (1 ∷ 0 ∷ []))
    ∷ []

pub orders-by-byte : AllAsSaid byte_cases
unfolding byte_cases orders_in after_from past event_in event_of step on_order
orders-by-byte = refl

severity_in : Answer Record → List ℕ
severity_in (refused n p) = []
severity_in (given r) = r.severity ∷ []

-- the severity that the fold ends with, and the one that the written reading finds
endings : List ℕ → List ℕ
endings h = severity_in (after_history ours h) ++ (severity_read ours.permission (past ours h (length h)) ∷ [])

-- Orders given before the stays that follow, in each severity: to tightened and back; to stopped, corrected and back; a
-- lot not accepted under reduced; orders given under tightened, and while stopped; orders given last, permission first.
pub orders_cases : List (Case (List ℕ))
orders_cases =
    (endings (5 ∷ 7 ∷ 3 ∷ 3 ∷ replicate 15 0) is (reduced ∷ reduced ∷ []))
    ∷ (endings ((5 ∷ 7 ∷ replicate 7 3) ++ (9 ∷ replicate 15 0)) is (reduced ∷ reduced ∷ []))
    ∷ (endings ((5 ∷ 7 ∷ replicate 10 0) ++ (3 ∷ replicate 10 0)) is (reduced ∷ reduced ∷ []))
    ∷ (endings (3 ∷ 3 ∷ 5 ∷ 7 ∷ replicate 15 0) is (reduced ∷ reduced ∷ []))
    ∷ (endings (replicate 7 3 ++ (5 ∷ 7 ∷ 9 ∷ replicate 15 0)) is (reduced ∷ reduced ∷ []))
    ∷ (endings (replicate 10 0 ++ (7 ∷ 5 ∷ [])) is (reduced ∷ reduced ∷ []))
    ∷ []

pub orders-outlive-stays : AllAsSaid orders_cases
unfolding orders_cases endings severity_in after_from past event_in event_of step on_lot on_resubmitted on_order
    on_corrective stay_after steady_in permission_in not_accepted_in run_of points_of read_lot read_order read_event
    lib.Count.ones
orders-outlive-stays = refl
