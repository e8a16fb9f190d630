-- An event of a record, and a history of bytes: what is refused, with the place of the first bad byte.
-- Assumes nothing.
use Prim.Native.Nat.{ℕ, zero, suc, ◌≤◌, ◌<◌}
use mathlib.Core.Path.{◌≡◌, refl, sym, ap, subst, ◌∙◌}
use mathlib.Core.List.{List}
use native.Mathlib.Nat.{le_refl, le_trans}
use native.Mathlib.Omega.{arith}
use borrow.Author.Tests.{le-leb, lt-leb}
use lib.ListN.{get_or}
use Rattle.rules.specs.Refusals.{Answer, refused, given, and_then}
use Rattle.rules.specs.Severity.{Lot, Event, lot, resubmitted, corrective, unknown, steady_is, permission_is}
use Rattle.rules.specs.Severity.{Record, fresh, step, on_lot, on_resubmitted, on_corrective}
use Rattle.rules.specs.History.{Work, event_in, placed}
use Rattle.rules.specs.Reporting.{NoRow, Reports, Row, here, later}
use Rattle.rules.specs.Planning.{EventRows, FirstBad, IsLot}
use Rattle.rules.proofs.Histories.{From, from-suc, from-first}
use Rattle.rules.proofs.Bounded.{by-le, never}
use Rattle.rules.proofs.Answers.{refused-given}
use Rattle.rules.proofs.Refusals.{stops, passes, nothing-wrong, last-from}
use Rattle.rules.proofs.Refusals.{refused-number, refused-place}
use Rattle.rules.proofs.EntryLaws.{lot-on}

module _ (r : Record) where
  -- nothing is wrong with an event that is none of these
  taken : {a : Record} (e : Event) → (e ≡ unknown → ⊥) → (IsLot e → r.severity < 3)
      → (e ≡ corrective → 3 ≤ r.severity)
      → Reports 1 (EventRows r e) (given a)
  taken e known inspected stopped =
      passes 1 known (omega arith)
      (passes 5 (λ w. let h = inspected w.0 in omega arith) (omega arith)
      (passes 10 (λ w. let h = stopped w.0 in omega arith) (le_refl 10) nothing-wrong))

  events-from : (e : Event) (m : ℕ)
      → Row 5 (IsLot e × (3 ≤ r.severity)) (Row 10 ((e ≡ corrective) × (r.severity < 3)) NoRow) m → 5 ≤ m
  events-from e m (here f) = le_refl 5
  events-from e m (later w) = le_trans (omega arith) (last-from 10 m w)

  -- a lot while stopped
  stopped-lot : (e : Event) → (e ≡ unknown → ⊥) → IsLot e → 3 ≤ r.severity
      → Reports {A = Record} 1 (EventRows r e) (refused 5 0)
  stopped-lot e known is h = passes 1 known (omega arith) (stops 5 (is, h) (omega arith) (last-from 10))

  pub lot-stopped : (s : ℕ) (l : Lot) → 3 ≤ s → on_lot s l r ≡ refused 5 0
  unfolding on_lot
  lot-stopped zero l h = absurd (omega arith)
  lot-stopped (suc zero) l h = absurd (omega arith)
  lot-stopped (suc (suc zero)) l h = absurd (omega arith)
  lot-stopped (suc (suc (suc s))) l h = refl

  pub step-refused : (e : Event) → Reports 1 (EventRows r e) (step r e)
  unfolding step on_resubmitted on_corrective
  step-refused (lot from l) =
      by-le 3 r.severity
      (λ h. rw (lot-stopped r.severity l h) (stopped-lot (lot from l) (λ e. never (cc)) tt h))
      (λ h. rw (lot-on r.severity l r h).1 (taken (lot from l) (λ e. never (cc)) (λ i. h) (λ e. never (cc))))
  step-refused resubmitted =
      by-le 3 r.severity
      (λ h. rw (le-leb 3 r.severity h) (stopped-lot resubmitted (λ e. never (cc)) tt h))
      (λ h. rw (lt-leb 3 r.severity h) (taken resubmitted (λ e. never (cc)) (λ i. h) (λ e. never (cc))))
  step-refused (steady_is b) = taken (steady_is b) (λ e. never (cc)) (λ i. absurd i) (λ e. never (cc))
  step-refused (permission_is b) = taken (permission_is b) (λ e. never (cc)) (λ i. absurd i) (λ e. never (cc))
  step-refused corrective =
      by-le 3 r.severity
      (λ h. rw (le-leb 3 r.severity h) (taken corrective (λ e. never (cc)) (λ i. absurd i) (λ e. h)))
      (λ h.
      rw (lt-leb 3 r.severity h)
      (passes 1 (λ e. never (cc)) (omega arith)
      (passes 5 (λ w. w.0) (omega arith) (stops 10 (refl, h) (le_refl 10) (λ m w. absurd w)))))
  step-refused unknown = stops 1 refl (omega arith) (events-from unknown)

placed-refused : {A : Type 0} (at n k : ℕ) (a : Answer A) → placed at a ≡ refused n k
    → (p : ℕ) × (a ≡ refused n p) × (at ≡ k)
placed-refused at n k (refused m p) e =
    (p, ap (λ (i : ℕ). refused i p) (refused-number e), refused-place e)
placed-refused at n k (given a) e = absurd (refused-given (sym e))

module _ (w : Work) (h : List ℕ) where
  -- the record after the first i bytes
  abbrev pub After : ℕ → Answer Record
  After i = From w h (fresh w.permission) i

  pub first-bad : (m n k : ℕ) → After m ≡ refused n k → (k < m) × FirstBad w h n k
  first-bad zero n k e =
      absurd (refused-given (sym e ∙ from-first w h (fresh w.permission) (fresh w.permission) refl))
  first-bad (suc m) n k e = on (After m) refl (sym (from-suc w h (fresh w.permission) m) ∙ e) (first-bad m n k)
    where
      on : (a : Answer Record) → After m ≡ a
          → and_then a (λ t. placed m (step t (event_in w (get_or h m 0)))) ≡ refused n k
          → (After m ≡ refused n k → (k < m) × FirstBad w h n k) → (k < suc m) × FirstBad w h n k
      on (refused i p) q f more = let b = more (q ∙ f) in (le_trans b.0 (omega arith), b.1)
      on (given t) q f more =
          let b = placed-refused m n k (step t (event_in w (get_or h m 0))) f in (
            omega (arith, b.2),
            subst (λ (i : ℕ). FirstBad w h n i) b.2 (record { so_far = t; good = q; place = b.0; bad = b.1 }),
          )
