-- What the entries share: the rows 1 to 5 of a lot, a book that is checked first, a plan that only a book supplies, a
-- sample judged on a plan, a lot closed; for each, what is refused and what is given.
-- Assumes nothing.
use Prim.Native.Nat.{ℕ, zero, suc, ◌≤◌, ◌<◌}
use mathlib.Core.Path.{◌≡◌, refl, sym, ap, subst, ◌∙◌}
use mathlib.Core.Logic.{◌↔◌}
use mathlib.Core.Bool.{Bool, true, false, cond, not}
use mathlib.Core.List.{List, [], ◌∷◌}
use native.Mathlib.Nat.{le_refl}
use native.Mathlib.Omega.{arith}
use borrow.Author.Tests.{ltb-true, ltb-false, lt-ltb, le-ltb, eqb-true, eq-eqb, ne_eqb, not-true, not-false, lt-leb}
use lib.Dec.{ltb, eqb}
use Rattle.rules.specs.Refusals.{Answer, refused, given, ◌gives◌, first_of, and_then, no_plan, unknown_form}
use Rattle.rules.specs.Verdict.{Verdict}
use Rattle.rules.specs.Severity.{Lot, Origin, Event, lot, resubmitted, Record, step, on_lot, on_resubmitted}
use Rattle.rules.specs.Supply.{Supply, lot_on, counts_on, move, supply_in_range}
use Rattle.rules.specs.Book.{Checked, sound, broken_at, check_book, on_sound, Found, found, nothing}
use Rattle.rules.specs.Entries.{Asked, asked_checks, looked_up, from_entry, unless_above, judged_on, on_supply, Closed}
use Rattle.rules.specs.Entries.{Offered, event_for, closed_with, Lettered, lettered}
use Rattle.rules.specs.Codes.{letter_of}
use Rattle.rules.proofs.Answers.{refused-given, given-one, then-given}
use Rattle.rules.proofs.Moving.{move-took, took-moves}
use Rattle.rules.proofs.LookUp.{broken-unsound}
use Rattle.rules.proofs.Checks.{plannable}
use Rattle.rules.proofs.Refusals.{check, stops, nothing-wrong}
use Rattle.rules.proofs.Refusals.{chain, goes-on, first-given}
use Rattle.rules.specs.Verdict.{Judged}
use Rattle.rules.specs.Reporting.{NoRow, Reports, Row, Then}
pub use Rattle.rules.specs.Reporting.{OnBook}
use Rattle.rules.specs.Planning.{Closes, LotRows, NoPlan, Plannable, Supplies, Took, above, no-entry}

pub lot-reports : {A : Type 0} {more : ℕ → Type 0} {rest : Answer A} (q : Asked) → Reports 6 more rest
    → Reports 1 (LotRows q more) (first_of (asked_checks q) rest)
lot-reports q r =
    check 1 (ltb 3 q.severity) (ltb-true 3 q.severity) (lt-ltb 3 q.severity) (omega arith)
    (check 2 (ltb q.size 2) (ltb-true q.size 2) (lt-ltb q.size 2) (omega arith)
    (check 3 (ltb 6 q.level) (ltb-true 6 q.level) (lt-ltb 6 q.level) (omega arith)
    (check 4 (ltb 25 q.column) (ltb-true 25 q.column) (lt-ltb 25 q.column) (omega arith)
    (check 5 (eqb q.severity 3) (eqb-true q.severity 3) (eq-eqb q.severity 3) (omega arith) r))))

-- a lot that can be planned passes
pub lot-passes : {A : Type 0} (q : Asked) (y : Answer A) → Plannable q → first_of (asked_checks q) y ≡ y
lot-passes q y h =
    simp (
      le-ltb 3 q.severity (omega arith),
      le-ltb q.size 2 h.size,
      le-ltb 6 q.level (omega arith),
      le-ltb 25 q.column (omega arith),
      ne_eqb q.severity 3 (λ e. omega arith),
    )

pub lot-given : {A : Type 0} (q : Asked) (y : Answer A) (x : A)
    → (first_of (asked_checks q) y ≡ given x) ↔ (Plannable q × (y ≡ given x))
lot-given q y x =
    (λ e. (plannable q y x e, sym (lot-passes q y (plannable q y x e)) ∙ e), λ h. lot-passes q y h.0 ∙ h.1)

pub on-book : {A : Type 0} {Wrong : ℕ → Type 0} {a : Answer A} (book : List ℕ) → Reports 1 Wrong a
    → OnBook book Wrong (on_sound (check_book book) a)
on-book book r = record { broken = λ byte e. rw e; else = λ e. rw e r }

pub sound-given : {A : Type 0} (c : Checked) (a : Answer A) (x : A)
    → (on_sound c a ≡ given x) ↔ ((c ≡ sound) × (a ≡ given x))
sound-given sound a x = (λ e. (refl, e), λ h. h.1)
sound-given (broken_at byte) a x = (λ e. absurd (refused-given e), λ h. broken-unsound h.0)

-- a book that is broken refuses before anything else, and a sound one lets it stand
pub broken-first : {A : Type 0} (c : Checked) (m q : ℕ) (a : Answer A)
    → ◌≡◌ {A = Answer (Unit {0})} (refused m q) (on_sound c (given tt)) → refused m q ≡ on_sound c a
broken-first sound m q a e = absurd (refused-given e)
broken-first (broken_at byte) m q a e = cc

pub sound-first : {A : Type 0} (c : Checked) (a : Answer A)
    → ◌≡◌ {A = Answer (Unit {0})} (given tt) (on_sound c (given tt)) → a ≡ on_sound c a
sound-first sound a e = refl
sound-first (broken_at byte) a e = absurd (refused-given (sym e))

pub is-sound : (c : Checked) → ◌≡◌ {A = Answer (Unit {0})} (given tt) (on_sound c (given tt)) → c ≡ sound
is-sound sound e = refl
is-sound (broken_at byte) e = absurd (refused-given (sym e))

pub found-something : {e : List ℕ} → found e ≡ nothing → ⊥
found-something e = let z : ◌≡◌ {A = ℕ} 0 1 = cc in omega arith

pub found-one : {d e : List ℕ} → found d ≡ found e → d ≡ e
found-one e = cc

-- two checks, and then what is given
pub two-given : {A : Type 0} (a b : Bool) (n m : ℕ) (x y : A)
    → (first_of ((a gives n) ∷ (b gives m) ∷ []) (given x) ≡ given y) ↔ ((a ≡ false) × (b ≡ false) × (x ≡ y))
two-given a b n m x y =
    let iff = first-given ((a gives n) ∷ (b gives m) ∷ []) (given x) y in (
      λ g. ((iff.0 g).0.0, (iff.0 g).0.1.0, given-one (iff.0 g).1),
      λ h. iff.1 ((h.0, (h.1, tt)), ap given h.2),
    )

-- A plan that only the book supplies.
module _ {P : Type 0} (section : ℕ) (needed : List ℕ → ℕ) (plan_of : List ℕ → P) (q : Asked) (book : List ℕ) where
  unfoldable pub from_book : Answer P
  from_book =
      on_sound (check_book book)
      (first_of (asked_checks q)
      (from_entry (looked_up section q book) (λ e. unless_above q.size (needed e) (plan_of e))))

  above-so : (e : List ℕ) → looked_up section q book ≡ found e → NoPlan section needed q book → q.size < needed e
  above-so e l (no-entry n) = absurd (found-something (sym l ∙ n))
  above-so e l (above d f h) = subst (λ (x : List ℕ). q.size < needed x) (found-one (sym f ∙ l)) h

  entry-reports : (f : Found) → looked_up section q book ≡ f
      → Reports 6 (Row 6 (NoPlan section needed q book) NoRow)
      (from_entry f (λ e. unless_above q.size (needed e) (plan_of e)))
  entry-reports nothing l = stops 6 (no-entry l) (le_refl 6) (λ m w. absurd w)
  entry-reports (found e) l =
      check 6 (ltb q.size (needed e)) (λ t. above e l (ltb-true q.size (needed e) t))
      (λ w. lt-ltb q.size (needed e) (above-so e l w)) (le_refl 6) nothing-wrong

  pub book-plan-reports : OnBook book (LotRows q (Row 6 (NoPlan section needed q book) NoRow)) from_book
  unfolding from_book
  book-plan-reports = on-book book (lot-reports q (entry-reports (looked_up section q book) refl))

  entry-given : (plan : P) (f : Found) → from_entry f (λ e. unless_above q.size (needed e) (plan_of e)) ≡ given plan
      → (e : List ℕ) × (f ≡ found e) × (needed e ≤ q.size) × (plan_of e ≡ plan)
  entry-given plan nothing g = absurd (refused-given g)
  entry-given plan (found e) g =
      let h = (first-given ((ltb q.size (needed e) gives no_plan) ∷ []) (given (plan_of e)) plan).0 g in
      (e, refl, ltb-false q.size (needed e) h.0.0, given-one h.1)

  pub book-plan-given : (plan : P) → (from_book ≡ given plan) ↔ Supplies section needed plan_of q book plan
  unfolding from_book
  book-plan-given plan = (so, back)
    where
      so : from_book ≡ given plan → Supplies section needed plan_of q book plan
      so g =
          let b = (sound-given (check_book book) _ plan).0 g in
          let l = (lot-given q _ plan).0 b.1 in
          let e = entry-given plan (looked_up section q book) l.1 in
          record {
            book-sound = b.0;
            lot = l.0;
            entry = e.0;
            under-key = e.1;
            within-lot = e.2;
            is-plan = e.3;
          }

      back : Supplies section needed plan_of q book plan → from_book ≡ given plan
      back s =
          rw s.book-sound
          (lot-passes q _ s.lot
          ∙ rw (s.under-key, le-ltb q.size (needed s.entry) s.within-lot) (ap given s.is-plan))

-- A plan with the lot's Table 1 letter.
module _ {P : Type 0} (q : Asked) (plan : Answer P) where
  pub lettered-on-book : {Wrong : ℕ → Type 0} (book : List ℕ) → OnBook book Wrong plan
      → OnBook book Wrong (lettered q plan)
  lettered-on-book book b =
      record {
        broken = λ byte e. rw (b.broken byte e);
        else =
            λ e.
            goes-on plan (b.else e)
            (λ p f. (record { letter = letter_of q.size q.level; plan = p }, refl));
      }

  pub lettered-by : (Of : P → Type 0) → ((p : P) → (plan ≡ given p) ↔ Of p) → (x : Lettered P)
      → (lettered q plan ≡ given x) ↔ ((letter_of q.size q.level ≡ x.letter) × Of x.plan)
  lettered-by Of iff x = (so, λ h. rw ((iff x.plan).1 h.1, h.0))
    where
      so : lettered q plan ≡ given x → (letter_of q.size q.level ≡ x.letter) × Of x.plan
      so g =
          let p = then-given plan _ x g in
          let e : record { letter = letter_of q.size q.level; plan = p.0 } ≡ x = given-one p.2 in
          (ap (λ (k : Lettered P). k.letter) e, (iff x.plan).0 (p.1 ∙ ap (λ (k : Lettered P). given k.plan) e))

-- A sample judged on a plan.
module _ {P Outcome : Type 0} (plan : Answer P) (judge : P → Answer Outcome) where
  pub judged-reports : {low : ℕ} {unplanned : ℕ → Type 0} {wrong : P → ℕ → Type 0} → Reports low unplanned plan
      → ((p : P) → plan ≡ given p → Reports low (wrong p) (judge p))
      → Reports low (Then unplanned plan wrong) (and_then plan (judged_on judge))
  judged-reports r s = chain plan r (λ p e. goes-on (judge p) (s p e) (λ v f. (record { plan = p; verdict = v }, refl)))

  pub judged-on-book : {unplanned : ℕ → Type 0} {wrong : P → ℕ → Type 0} (book : List ℕ) → OnBook book unplanned plan
      → ((p : P) → Reports 1 (wrong p) (judge p))
      → OnBook book (Then unplanned plan wrong) (and_then plan (judged_on judge))
  judged-on-book book b s =
      record {
        broken = λ byte e. rw (b.broken byte e);
        else = λ e. judged-reports (b.else e) (λ p f. s p);
      }

  pub judged-given : (j : Judged P Outcome)
      → (and_then plan (judged_on judge) ≡ given j) ↔ ((plan ≡ given j.plan) × (judge j.plan ≡ given j.verdict))
  judged-given j = (so, λ h. rw h.0 (rw h.1))
    where
      so : and_then plan (judged_on judge) ≡ given j → (plan ≡ given j.plan) × (judge j.plan ≡ given j.verdict)
      so g =
          let p = then-given plan (judged_on judge) j g in
          let v = then-given (judge p.0) _ j p.2 in
          let e : record { plan = p.0; verdict = v.0 } ≡ j = given-one v.2 in (
            p.1 ∙ ap (λ (k : Judged P Outcome). given k.plan) e,
            subst (λ (k : Judged P Outcome). judge k.plan ≡ given k.verdict) e v.1,
          )

-- .. by what its verdict says of the sample
pub judged-by : {P Outcome : Type 0} (plan : Answer P) (judge : P → Answer Outcome) (Of : P → Outcome → Type 0)
    → ((p : P) (v : Outcome) → (judge p ≡ given v) ↔ Of p v) → (j : Judged P Outcome)
    → (and_then plan (judged_on judge) ≡ given j) ↔ ((plan ≡ given j.plan) × Of j.plan j.verdict)
judged-by plan judge Of iff j = (
  λ g.
      let h = (judged-given plan judge j).0 g in
      (h.0, (iff j.plan j.verdict).0 h.1),
  λ h. (judged-given plan judge j).1 (h.0, (iff j.plan j.verdict).1 h.1),
)

pub lot-on : (s : ℕ) (l : Lot) (r : Record) → s < 3 → (t : Record) × (on_lot s l r ≡ given t)
unfolding on_lot
lot-on zero l r h = (_, refl)
lot-on (suc zero) l r h = (_, refl)
lot-on (suc (suc zero)) l r h = (_, refl)
lot-on (suc (suc (suc s))) l r h = absurd (omega arith)

-- A lot closed under a severity that is not stopped is always taken into the record.
pub lot-moves : (s : Supply) (o : Offered) (from : Origin) (l : Lot) → s.switching.severity < 3
    → (t : Supply) × (move s (event_for o from l) ≡ given t)
unfolding move step on_resubmitted
lot-moves s o from l h = on o.again
  where
    some : (a : Answer Record) (f : Record → Supply) (r : Record) → a ≡ given r
        → (t : Supply) × (and_then a (λ x. given (f x)) ≡ given t)
    some a f r e = (f r, rw e)

    on : (again : Bool) → (t : Supply) × (move s (cond again resubmitted (lot from l)) ≡ given t)
    on true =
        let q : step s.switching resubmitted ≡ given s.switching = rw (lt-leb 3 s.switching.severity h) in
        some _ _ s.switching q
    on false =
        let t = lot-on s.switching.severity (lot_on s.switching.severity s.clean from l) s.switching h in
        some _ _ t.0 t.1

-- A lot that is closed: its record, how it is judged, and then what its event makes of the record.
module _ {P : Type 0} (s : Supply) (judged : Answer (Judged P Verdict)) (event : Judged P Verdict → Event) where
  abbrev Taken : Type 0
  Taken = (j : Judged P Verdict) → judged ≡ given j → (t : Supply) × (move s (event j) ≡ given t)

  pub closing-reports : {Wrong : ℕ → Type 0} → Reports 1 Wrong judged → Taken
      → Reports 1 (Row 1 (supply_in_range s ≡ false) Wrong) (on_supply s (and_then judged (closed_with s event)))
  closing-reports r taken =
      check 1 (not (supply_in_range s)) (not-true (supply_in_range s)) (λ e. ap not e) (le_refl 1)
      (goes-on judged r
      (λ j e. let t = taken j e in (record { judged = j; event = event j; supply_after = t.0 }, rw t.1)))

  -- every event that is told counts as it stands
  abbrev Settled : Type 0
  Settled = (j : Judged P Verdict) → judged ≡ given j → counts_on s (event j) ≡ event j

  pub closing-given : Settled → (c : Closed P)
      → (on_supply s (and_then judged (closed_with s event)) ≡ given c) ↔ Closes s judged event c
  closing-given settled c = (so, back)
    where
      counts : (k : Closed P) → judged ≡ given k.judged → k.event ≡ event k.judged
          → counts_on s k.event ≡ k.event
      counts k j e = ap (counts_on s) e ∙ settled k.judged j ∙ sym e

      back : Closes s judged event c → on_supply s (and_then judged (closed_with s event)) ≡ given c
      back k =
          let t : Took s (counts_on s c.event) c.supply_after =
          rw (counts c k.as-judged k.stands) k.took in
          rw (ap not k.in-range, k.as-judged, ← k.stands, took-moves s c.event c.supply_after t)

      so : on_supply s (and_then judged (closed_with s event)) ≡ given c → Closes s judged event c
      so g =
          let h = (first-given ((not (supply_in_range s) gives unknown_form) ∷ []) _ c).0 g in
          let j = then-given judged (closed_with s event) c h.1 in
          let t = then-given (move s (event j.0)) _ c j.2 in
          let e : record { judged = j.0; event = event j.0; supply_after = t.0 } ≡ c = given-one t.2 in
          let f = j.1 ∙ ap (λ (k : Closed P). given k.judged) e in
          let g : c.event ≡ event c.judged = subst (λ (k : Closed P). k.event ≡ event k.judged) e refl in
          record {
            in-range = not-false (supply_in_range s) h.0.0;
            as-judged = f;
            stands = g;
            as-told = counts c f g;
            took =
                rw (counts c f g) at
                (move-took s c.event c.supply_after
                (subst (λ (k : Closed P). move s k.event ≡ given k.supply_after) e t.1));
          }

  pub closing-on-book : {Wrong : ℕ → Type 0} (book : List ℕ) → OnBook book Wrong judged → Taken
      → OnBook book (Row 1 (supply_in_range s ≡ false) Wrong)
      (on_sound (check_book book) (on_supply s (and_then judged (closed_with s event))))
  closing-on-book book b taken =
      record { broken = λ byte e. rw e; else = λ e. rw e (closing-reports (b.else e) taken) }

  pub closing-book-given : Settled → (book : List ℕ)
      → ((j : Judged P Verdict) → judged ≡ given j → check_book book ≡ sound) → (c : Closed P)
      → (on_sound (check_book book) (on_supply s (and_then judged (closed_with s event))) ≡ given c)
      ↔ Closes s judged event c
  closing-book-given settled book judged-sound c = (
    λ g. (closing-given settled c).0 ((sound-given (check_book book) _ c).0 g).1,
    λ k. (sound-given (check_book book) _ c).1 (judged-sound c.judged k.as-judged, (closing-given settled c).1 k),
  )
