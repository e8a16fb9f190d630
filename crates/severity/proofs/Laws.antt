-- The rules' definitions by the tests that the code makes: one law for each return.
-- Assumes nothing.
use Prim.Native.Nat.{ℕ, zero, suc, ◌+◌, ◌*◌, ◌%◌, ◌≤◌, ◌<◌, min}
use mathlib.Core.Path.{◌≡◌, refl, sym, ap, ◌∙◌}
use mathlib.Core.Bool.{Bool, true, false, cond, ◌&&◌}
use native.Mathlib.Omega.{arith}
use native.Mathlib.Numerals.{add-one}
use lib.Dec.{leb, ltb, eqb}
use lib.Count.{ones}
use lib.ListN.{get_or}
use borrow.Author.Tests.{le-leb, lt-leb, eq-eqb, ne_eqb, lt-ltb, le-ltb}
use Rattle.rules.specs.Refusals.{Answer, refused, given}
use Rattle.rules.specs.Severity.{Lot, add_three, add_two, score_zero, not_accepted, accepted, Event}
use Rattle.rules.specs.Severity.{resubmitted, unknown, Record, started}
use Rattle.rules.specs.Severity.{on_normal, on_tightened, due, settled, score_after, window_after, lot_normal}
use Rattle.rules.specs.Severity.{lot_tightened}
use Rattle.rules.specs.Severity.{on_lot, on_resubmitted, on_order, on_corrective, step, figures_in_range}
use Rattle.rules.specs.Severity.{score_and_window}
use Rattle.rules.specs.Severity.{no_score_or_window, run_and_count, no_run_or_count}
use Rattle.rules.specs.History.{Work, knows, byte_events, event_of, event_in}
use Rattle.rules.proofs.EventLaws.{lot-stopped}
use Rattle.severity.specs.declared.Lot as declared
use Rattle.severity.specs.declared.Lot.TheVariants as lots
use Rattle.severity.specs.declared.Origin as declared-origin
use Rattle.severity.specs.declared.Event as declared-event
use Rattle.severity.specs.declared.Event.TheVariants as events
use Rattle.severity.specs.Paper.{lot_paper, event_paper}

-- normal, after an original lot or an order
module _ (sc : ℕ) (st pe : Bool) where
  pub due-low : sc < 30 → false ≡ due sc st pe
  due-low h = rw (lt-leb 30 sc h)

  pub due-steady : 30 ≤ sc → st ≡ true → pe ≡ due sc st pe
  due-steady h e = rw (le-leb 30 sc h, e)

  pub due-unsteady : 30 ≤ sc → st ≡ false → false ≡ due sc st pe
  due-unsteady h e = rw (le-leb 30 sc h, e)

module _ (x : Record) (sc w : ℕ) (st pe t : Bool) (d : t ≡ due sc st pe) where
  pub settle-due : t ≡ true → x ≡ started 2 st pe → x ≡ settled sc w st pe
  settle-due e q = rw (sym d ∙ e) q

  pub settle-not : t ≡ false → x ≡ on_normal sc w st pe → x ≡ settled sc w st pe
  settle-not e q = rw (sym d ∙ e) q

-- the window is shifted within its five bits
pub window-good : (l : Lot) (w : ℕ) (t : Bool) → t ≡ accepted l → t ≡ true → 2 * (w % 16) ≡ window_after l w
window-good add_three w t a e = omega arith
window-good add_two w t a e = omega arith
window-good score_zero w t a e = omega arith
window-good not_accepted w t a e = let z : ◌≡◌ {A = ℕ} 0 1 = cc in absurd (omega arith)

pub window-bad : (l : Lot) (w : ℕ) (t : Bool) → t ≡ accepted l → t ≡ false → 2 * (w % 16) + 1 ≡ window_after l w
window-bad add_three w t a e = let z : ◌≡◌ {A = ℕ} 0 1 = cc in absurd (omega arith)
window-bad add_two w t a e = let z : ◌≡◌ {A = ℕ} 0 1 = cc in absurd (omega arith)
window-bad score_zero w t a e = let z : ◌≡◌ {A = ℕ} 0 1 = cc in absurd (omega arith)
window-bad not_accepted w t a e = omega arith

module _ (l : declared.Lot) (sc x : ℕ) where
  pub score-three : l ≡ lots.AddThree → x ≡ min 30 (sc + 3) → x ≡ score_after (lot_paper l) sc
  score-three e q = rw e q

  pub score-two : l ≡ lots.AddTwo → x ≡ min 30 (sc + 2) → x ≡ score_after (lot_paper l) sc
  score-two e q = rw e q

-- an original lot under normal inspection
score-lost : (l : Lot) (sc : ℕ) → accepted l ≡ false → score_after l sc ≡ 0
score-lost add_three sc e = let z : ◌≡◌ {A = ℕ} 0 1 = cc in absurd (omega arith)
score-lost add_two sc e = let z : ◌≡◌ {A = ℕ} 0 1 = cc in absurd (omega arith)
score-lost score_zero sc e = refl
score-lost not_accepted sc e = refl

module _ (x : Record) (l : Lot) (sc w w' : ℕ) (st pe t : Bool) (a : t ≡ accepted l) (g : w' ≡ window_after l w) where
  pub normal-accepted : t ≡ true → (sc' : ℕ) → sc' ≡ score_after l sc → x ≡ settled sc' w' st pe
      → x ≡ lot_normal l sc w st pe
  normal-accepted e sc' f q = rw (sym a ∙ e, ← g, ← f) q

  pub normal-turns : t ≡ false → 2 ≤ ones w' → x ≡ started 1 st pe → x ≡ lot_normal l sc w st pe
  normal-turns e h q = rw (sym a ∙ e, ← g, le-leb 2 (ones w') h) q

  pub normal-stays : t ≡ false → ones w' < 2 → x ≡ settled 0 w' st pe → x ≡ lot_normal l sc w st pe
  normal-stays e h q = rw (score-lost l sc (sym a ∙ e), sym a ∙ e, ← g, lt-leb 2 (ones w') h) q

-- an original lot under tightened inspection
module _ (x : Record) (l : Lot) (ru co : ℕ) (st pe t : Bool) (a : t ≡ accepted l) where
  pub tightened-left : t ≡ true → 4 ≤ ru → x ≡ started 0 st pe → x ≡ lot_tightened l ru co st pe
  tightened-left e h q = rw (sym a ∙ e, le-leb 5 (suc ru) (omega arith)) q

  pub tightened-run : t ≡ true → ru < 4 → x ≡ on_tightened (ru + 1) co st pe → x ≡ lot_tightened l ru co st pe
  tightened-run e h q = rw (sym a ∙ e, lt-leb 5 (suc ru) (omega arith)) (rw add-one at q)

  pub tightened-stopped : t ≡ false → 4 ≤ co → x ≡ started 3 st pe → x ≡ lot_tightened l ru co st pe
  tightened-stopped e h q = rw (sym a ∙ e, le-leb 5 (suc co) (omega arith)) q

  pub tightened-count : t ≡ false → co < 4 → x ≡ on_tightened 0 (co + 1) st pe → x ≡ lot_tightened l ru co st pe
  tightened-count e h q = rw (sym a ∙ e, lt-leb 5 (suc co) (omega arith)) (rw add-one at q)

-- by severity
past-two : (s : ℕ) → (s ≡ 0 → ⊥) → (s ≡ 1 → ⊥) → (s ≡ 2 → ⊥) → 3 ≤ s
past-two s e f g = omega arith

order-stopped : (s : ℕ) (b st pe : Bool) (r : Record) → 3 ≤ s → started 3 st pe ≡ on_order s b st pe r
unfolding on_order
order-stopped zero b st pe r h = absurd (omega arith)
order-stopped (suc zero) b st pe r h = absurd (omega arith)
order-stopped (suc (suc zero)) b st pe r h = absurd (omega arith)
order-stopped (suc (suc (suc s))) b st pe r h = refl

module _ (x r : Record) (l : Lot) (s : ℕ) where
  pub lot-normal : s ≡ 0 → x ≡ lot_normal l r.score r.window r.steady r.permission → given x ≡ on_lot s l r
  unfolding on_lot
  lot-normal e q = rw e (ap given q)

  pub lot-tightened : s ≡ 1 → x ≡ lot_tightened l r.run r.count r.steady r.permission → given x ≡ on_lot s l r
  unfolding on_lot
  lot-tightened e q = rw e (ap given q)

  pub lot-reduced : (t : Bool) → t ≡ accepted l → t ≡ true → s ≡ 2 → given r ≡ on_lot s l r
  unfolding on_lot
  lot-reduced t a f e = rw (e, sym a ∙ f)

  pub lot-reduced-ends : (t : Bool) → t ≡ accepted l → t ≡ false → s ≡ 2
      → x ≡ started 0 r.steady r.permission → given x ≡ on_lot s l r
  unfolding on_lot
  lot-reduced-ends t a f e q = rw (e, sym a ∙ f) (ap given q)

  pub lot-refused : (s ≡ 0 → ⊥) → (s ≡ 1 → ⊥) → (s ≡ 2 → ⊥) → refused 5 0 ≡ on_lot s l r
  lot-refused e f g = sym (lot-stopped r s l (past-two s e f g))

module _ (x r : Record) (s : ℕ) (b st pe : Bool) where
  pub order-normal : s ≡ 0 → x ≡ settled r.score r.window st pe → x ≡ on_order s b st pe r
  unfolding on_order
  order-normal e q = rw e q

  pub order-tightened : s ≡ 1 → x ≡ on_tightened r.run r.count st pe → x ≡ on_order s b st pe r
  unfolding on_order
  order-tightened e q = rw e q

  pub order-stands : s ≡ 2 → b ≡ true → x ≡ started 2 st pe → x ≡ on_order s b st pe r
  unfolding on_order
  order-stands e f q = rw (e, f) q

  pub order-withdraws : s ≡ 2 → b ≡ false → x ≡ started 0 st pe → x ≡ on_order s b st pe r
  unfolding on_order
  order-withdraws e f q = rw (e, f) q

  pub order-idle : (s ≡ 0 → ⊥) → (s ≡ 1 → ⊥) → (s ≡ 2 → ⊥) → x ≡ started 3 st pe → x ≡ on_order s b st pe r
  order-idle e f g q = q ∙ order-stopped s b st pe r (past-two s e f g)

module _ (r : Record) (s : ℕ) where
  pub again-refused : 3 ≤ s → refused 5 0 ≡ on_resubmitted s r
  unfolding on_resubmitted
  again-refused h = rw (le-leb 3 s h)

  pub again-given : s < 3 → given r ≡ on_resubmitted s r
  unfolding on_resubmitted
  again-given h = rw (lt-leb 3 s h)

  pub corrective-given : (x : Record) → 3 ≤ s → x ≡ started 1 r.steady r.permission → given x ≡ on_corrective s r
  unfolding on_corrective
  corrective-given x h q = rw (le-leb 3 s h) (ap given q)

  pub corrective-refused : s < 3 → refused 10 0 ≡ on_corrective s r
  unfolding on_corrective
  corrective-refused h = rw (lt-leb 3 s h)

-- by event
module _ (r : Record) (e : declared-event.Event) where
  pub step-lot : (a : Answer Record) (o : declared-origin.Origin) (l : declared.Lot) → e ≡ events.Lot o l
      → a ≡ on_lot r.severity (lot_paper l) r → a ≡ step r (event_paper e)
  unfolding step
  step-lot a o l f q = rw f q

  pub step-resubmitted : (a : Answer Record) → e ≡ events.Resubmitted → a ≡ on_resubmitted r.severity r
      → a ≡ step r (event_paper e)
  unfolding step
  step-resubmitted a f q = rw f q

  pub step-steady : (x : Record) (b : Bool) → e ≡ events.Steady b → x ≡ on_order r.severity b b r.permission r
      → given x ≡ step r (event_paper e)
  unfolding step
  step-steady x b f q = rw f (ap given q)

  pub step-permission : (x : Record) (b : Bool) → e ≡ events.Permission b → x ≡ on_order r.severity b r.steady b r
      → given x ≡ step r (event_paper e)
  unfolding step
  step-permission x b f q = rw f (ap given q)

  pub step-corrective : (a : Answer Record) → e ≡ events.Corrective → a ≡ on_corrective r.severity r
      → a ≡ step r (event_paper e)
  unfolding step
  step-corrective a f q = rw f q

  pub step-unknown : e ≡ events.Unknown → refused 1 0 ≡ step r (event_paper e)
  unfolding step
  step-unknown f = rw f

-- in range
module _ (a b : ℕ) where
  pub zero-first : a ≡ 0 → eqb b 0 ≡ (eqb a 0 && eqb b 0)
  zero-first e = rw (eq-eqb a 0 e)

  pub zero-not : (a ≡ 0 → ⊥) → false ≡ (eqb a 0 && eqb b 0)
  zero-not e = rw (ne_eqb a 0 e)

abbrev normal_figures : ℕ → ℕ → Bool
normal_figures sc w = leb sc 30 && (ltb w 32 && leb (ones w) 1)

module _ (sc w : ℕ) (c : Bool) where
  pub normal-score : 30 < sc → false ≡ (normal_figures sc w && c)
  normal-score h = rw (lt-leb sc 30 h)

  pub normal-window : sc ≤ 30 → 32 ≤ w → false ≡ (normal_figures sc w && c)
  normal-window h k = rw (le-leb sc 30 h, le-ltb w 32 k)

  pub normal-ones : sc ≤ 30 → w < 32 → 1 < ones w → false ≡ (normal_figures sc w && c)
  normal-ones h k m = rw (le-leb sc 30 h, lt-ltb w 32 k, lt-leb (ones w) 1 m)

  pub normal-rest : (t : Bool) → t ≡ c → sc ≤ 30 → w < 32 → ones w ≤ 1 → t ≡ (normal_figures sc w && c)
  normal-rest t e h k m = rw (le-leb sc 30 h, lt-ltb w 32 k, le-leb (ones w) 1 m) e

abbrev tightened_figures : ℕ → ℕ → Bool
tightened_figures ru co = leb ru 4 && leb co 4

module _ (ru co : ℕ) (c : Bool) where
  pub tightened-long : 4 < ru → false ≡ (tightened_figures ru co && c)
  tightened-long h = rw (lt-leb ru 4 h)

  pub tightened-many : ru ≤ 4 → 4 < co → false ≡ (tightened_figures ru co && c)
  tightened-many h k = rw (le-leb ru 4 h, lt-leb co 4 k)

  pub tightened-rest : (t : Bool) → t ≡ c → ru ≤ 4 → co ≤ 4 → t ≡ (tightened_figures ru co && c)
  tightened-rest t e h k = rw (le-leb ru 4 h, le-leb co 4 k) e

module _ (t b c : Bool) (d : t ≡ b) where
  pub both-then : (u : Bool) → u ≡ c → t ≡ true → u ≡ (b && c)
  both-then u f e = rw (sym d ∙ e) f

  pub both-not : t ≡ false → false ≡ (b && c)
  both-not e = rw (sym d ∙ e)

module _ (r : Record) (s : ℕ) where
  pub range-normal : (t : Bool) → t ≡ (score_and_window r && no_run_or_count r) → s ≡ 0 → t ≡ figures_in_range s r
  unfolding figures_in_range
  range-normal t q e = rw e q

  pub range-tightened : (t : Bool) → t ≡ (run_and_count r && no_score_or_window r) → s ≡ 1 → t ≡ figures_in_range s r
  unfolding figures_in_range
  range-tightened t q e = rw e q

pub range-others : (r : Record) (s : ℕ) (t : Bool) → t ≡ (no_score_or_window r && no_run_or_count r) → (s ≡ 0 → ⊥)
    → (s ≡ 1 → ⊥) → s ≤ 3 → t ≡ figures_in_range s r
unfolding figures_in_range
range-others r zero t q e f h = absurd (e refl)
range-others r (suc zero) t q e f h = absurd (f refl)
range-others r (suc (suc zero)) t q e f h = q
range-others r (suc (suc (suc zero))) t q e f h = q
range-others r (suc (suc (suc (suc s)))) t q e f h = absurd (omega arith)

pub range-none : (r : Record) (s : ℕ) → 3 < s → false ≡ figures_in_range s r
unfolding figures_in_range
range-none r zero h = absurd (omega arith)
range-none r (suc zero) h = absurd (omega arith)
range-none r (suc (suc zero)) h = absurd (omega arith)
range-none r (suc (suc (suc zero))) h = absurd (omega arith)
range-none r (suc (suc (suc (suc s)))) h = refl

-- the events of bytes
module _ (w : Work) (b : ℕ) where
  pub byte-is : (x : Event) (k : ℕ) → b ≡ k → x ≡ cond (knows w k) (get_or byte_events k unknown) unknown
      → x ≡ event_in w b
  unfolding event_in event_of
  byte-is x k e q = rw e q

  pub byte-again : (x : Event) → b ≡ 4 → (a : Bool) → w.resubmission ≡ a → x ≡ cond a resubmitted unknown
      → x ≡ event_in w b
  unfolding event_in event_of
  byte-again x e a f q = rw (e, f) q

  past-four : (b ≡ 0 → ⊥) → (b ≡ 1 → ⊥) → (b ≡ 2 → ⊥) → (b ≡ 3 → ⊥) → (b ≡ 4 → ⊥) → 4 < b
  past-four n0 n1 n2 n3 n4 = omega arith

  past-nine : 4 < b → (b ≡ 5 → ⊥) → (b ≡ 6 → ⊥) → (b ≡ 7 → ⊥) → (b ≡ 8 → ⊥) → (b ≡ 9 → ⊥) → 9 < b
  past-nine h n5 n6 n7 n8 n9 = omega arith

  pub byte-unknown : (b ≡ 0 → ⊥) → (b ≡ 1 → ⊥) → (b ≡ 2 → ⊥) → (b ≡ 3 → ⊥) → (b ≡ 4 → ⊥) → (b ≡ 5 → ⊥)
      → (b ≡ 6 → ⊥) → (b ≡ 7 → ⊥) → (b ≡ 8 → ⊥) → (b ≡ 9 → ⊥) → unknown ≡ event_in w b
  unfolding event_in
  byte-unknown n0 n1 n2 n3 n4 n5 n6 n7 n8 n9 =
      rw (lt-leb b 9 (past-nine (past-four n0 n1 n2 n3 n4) n5 n6 n7 n8 n9))

pub ruleset bytes = (byte-is, byte-again, byte-unknown)

pub ruleset lot_laws = (lot-normal, lot-tightened, lot-reduced, lot-reduced-ends, lot-refused)

pub ruleset order_laws = (order-normal, order-tightened, order-stands, order-withdraws, order-idle)

pub ruleset resubmission_laws = (again-refused, again-given)

pub ruleset corrective_laws = (corrective-given, corrective-refused)
