-- Demand 2, of readings: by the s method or with a known spread, for one limit or two.
-- Assumes nothing.
use Prim.Native.Nat.{ℕ, max, ◌<◌}
use mathlib.Core.Path.{◌≡◌, refl, sym, ap, subst, ◌∙◌}
use mathlib.Core.Logic.{◌↔◌, ◌⊎◌, inl, inr}
use mathlib.Core.Bool.{Bool, true, false, ◌&&◌, not, false≢true, and-eq-true_iff}
use mathlib.Core.List.{List, [], ◌∷◌}
use native.Mathlib.Nat.{le_refl}
use native.Mathlib.Omega.{arith}
use borrow.Author.Tests.{ltb-true, ltb-false, lt-ltb, le-ltb, eqb-true, eqb-false, eq-eqb, not-true, not-false}
use lib.Dec.{ltb, eqb}
use lib.IntN.{ℤ}
use lib.Signed.{lt_z}
use Rattle.rules.specs.Refusals.{Answer, given, ◌gives◌, first_of, and_then, no_plan}
use Rattle.rules.specs.Verdict.{Verdict, Judged}
use Rattle.rules.specs.Variables.{VariablesPlan, readings_of}
use Rattle.rules.specs.Limits.{Spread, Limits, one, both, SidesPlan, sides_of, side_of, side_accepts, accepts_limits}
use Rattle.rules.specs.Limits.{readings_verdict, judge_readings}
use Rattle.rules.specs.Book.{variables, could_hold, check_book, Found, found, nothing, variables_of}
use Rattle.rules.specs.Entries.{Asked, looked_up, from_entry, both_sides, from_sides, under_column}
use Rattle.rules.specs.Entries.{variables_entry, unless_held, readings_sample, readings_plan, sides_plan, judge_limit}
use Rattle.rules.specs.Entries.{section_for, judge_sides}
use Rattle.rules.specs.Reporting.{NoRow, Reports, OnBook, Row, Then}
use Rattle.rules.specs.Planning.{Plannable, ReadingsPlanRows, NoSides, no-upper, no_lower, differ, above}
use Rattle.rules.specs.Planning.{SidesPlanRows, SidesSupplied}
use Rattle.rules.specs.Judging.{LimitsOut, SideAccepts, LimitsAccept, ReadingRows, ReadingsJudged}
use Rattle.rules.proofs.Answers.{refused-given}
use Rattle.rules.proofs.Bounded.{by-le}
use Rattle.rules.proofs.Refusals.{check, stops, nothing-wrong, seen-from, first-given}
use Rattle.rules.proofs.EntryLaws.{on-book, sound-given, lot-given, lot-passes, two-given, found-something}
use Rattle.rules.proofs.EntryLaws.{found-one, judged-on-book, judged-by}
use Rattle.rules.proofs.Bools.{same-truth}
use Rattle.rules.proofs.LimitLaws.{at-or-over, accepts-exactly, limits-refused, limits-given}
use Rattle.rules.proofs.Joined.{sides-join, join-same, join-given}
use Rattle.rules.proofs.Demands.Two.{readings-plan-refused}

-- 1. What is looked up for two limits: 4 for either column; 6 where a side has no entry, where the two differ in n, or
-- where n is above the lot.
module _ (section : ℕ) (q : Asked) (lower : ℕ) (book : List ℕ) where
  abbrev upper_found : Found
  upper_found = looked_up section q book

  abbrev lower_found : Found
  lower_found = looked_up section (under_column q lower) book

  abbrev sides_from : Found → Found → Answer SidesPlan
  sides_from a b = from_entry a (λ e. from_entry b (λ f. from_sides q (variables_of e) (variables_of f)))

  -- both entries stand: what is then wrong is a difference in n, or an n above the lot
  differ-or-above : (e f : List ℕ) → upper_found ≡ found e → lower_found ≡ found f → NoSides section q lower book
      → ((variables_of e).n ≡ (variables_of f).n) → q.size < (variables_of e).n
  differ-or-above e f a b (no-upper n) s = absurd (found-something (sym a ∙ n))
  differ-or-above e f a b (no_lower n) s = absurd (found-something (sym b ∙ n))
  differ-or-above e f a b (differ c d x y n) s =
      let p = found-one (sym x ∙ a) in
      let r = found-one (sym y ∙ b) in
      absurd (n (ap (λ (z : List ℕ). (variables_of z).n) p ∙ s ∙ sym (ap (λ (z : List ℕ). (variables_of z).n) r)))
  differ-or-above e f a b (above c x h) s =
      subst (λ (z : List ℕ). q.size < (variables_of z).n) (found-one (sym x ∙ a)) h

  both-report : (e f : List ℕ) → upper_found ≡ found e → lower_found ≡ found f → (t : Bool)
      → eqb (variables_of e).n (variables_of f).n ≡ t
      → Reports {A = SidesPlan} 6 (Row 6 (NoSides section q lower book) NoRow)
      (first_of ((not t gives no_plan) ∷ (ltb q.size (variables_of e).n gives no_plan) ∷ [])
      (given (record { n = (variables_of e).n; upper_k = (variables_of e).k; lower_k = (variables_of f).k })))
  both-report e f a b false t = stops 6 (differ e f a b (eqb-false _ _ t)) (le_refl 6) (λ m w. absurd w)
  both-report e f a b true t =
      check 6 (ltb q.size (variables_of e).n) (λ u. above e a (ltb-true _ _ u))
      (λ w. lt-ltb _ _ (differ-or-above e f a b w (eqb-true _ _ t))) (le_refl 6) nothing-wrong

  sides-report : (a b : Found) → upper_found ≡ a → lower_found ≡ b
      → Reports 6 (Row 6 (NoSides section q lower book) NoRow) (sides_from a b)
  sides-report nothing b p r = stops 6 (no-upper p) (le_refl 6) (λ m w. absurd w)
  sides-report (found e) nothing p r = stops 6 (no_lower r) (le_refl 6) (λ m w. absurd w)
  sides-report (found e) (found f) p r = both-report e f p r (eqb (variables_of e).n (variables_of f).n) refl

  -- 4 where either column is over 25
  either-over : 25 < max q.column lower → (25 < q.column) ⊎ (25 < lower)
  either-over h = by-le q.column 25 (λ l. inr (omega arith)) (λ l. inl l)

  over-either : (25 < q.column) ⊎ (25 < lower) → 25 < max q.column lower
  over-either (inl h) = omega arith
  over-either (inr h) = omega arith

  pub sides-plan-refused : OnBook book (SidesPlanRows section q lower book) (sides_plan section q lower book)
  unfolding sides_plan
  sides-plan-refused =
      on-book book
      (check 1 (ltb 3 q.severity) (ltb-true 3 q.severity) (lt-ltb 3 q.severity) (omega arith)
      (check 2 (ltb q.size 2) (ltb-true q.size 2) (lt-ltb q.size 2) (omega arith)
      (check 3 (ltb 6 q.level) (ltb-true 6 q.level) (lt-ltb 6 q.level) (omega arith)
      (check 4 (ltb 25 (max q.column lower)) (λ t. either-over (ltb-true 25 (max q.column lower) t))
      (λ w. lt-ltb 25 (max q.column lower) (over-either w)) (omega arith)
      (check 5 (eqb q.severity 3) (eqb-true q.severity 3) (eq-eqb q.severity 3) (omega arith)
      (sides-report upper_found lower_found refl refl))))))

  from-both : (plan : SidesPlan) (a b : Found) → sides_from a b ≡ given plan
      → (e : List ℕ) × (f : List ℕ) × (a ≡ found e) × (b ≡ found f)
      × (from_sides q (variables_of e) (variables_of f) ≡ given plan)
  from-both plan nothing b g = absurd (refused-given g)
  from-both plan (found e) nothing g = absurd (refused-given g)
  from-both plan (found e) (found f) g = (e, f, refl, refl, g)

  pub sides-plan-given : (plan : SidesPlan)
      → (sides_plan section q lower book ≡ given plan) ↔ SidesSupplied section q lower book plan
  unfolding sides_plan
  sides-plan-given plan = (so, back)
    where
      so : sides_plan section q lower book ≡ given plan → SidesSupplied section q lower book plan
      so g =
          let b = (sound-given (check_book book) _ plan).0 g in
          let l = (lot-given (under_column q (max q.column lower)) _ plan).0 b.1 in
          let e = from-both plan upper_found lower_found l.1 in
          let c : max q.column lower < 26 = l.0.column in
          let column : q.column < 26 = omega arith in
          let beside : lower < 26 = omega arith in
          let t = (two-given _ _ 6 6 _ plan).0 e.4 in
          record {
            book-sound = b.0;
            lot =
                record {
                  severity = l.0.severity;
                  size = l.0.size;
                  level = l.0.level;
                  column = column;
                };
            lower-column = beside;
            upper-entry = e.0;
            lower-entry = e.1;
            upper-under-key = e.2;
            lower-under-key = e.3;
            same-n = eqb-true _ _ (not-false _ t.0);
            within-lot = ltb-false _ _ t.1;
            is-plan = t.2;
          }

      back : SidesSupplied section q lower book plan → sides_plan section q lower book ≡ given plan
      back s =
          let wide : Plannable (under_column q (max q.column lower)) =
          record {
            severity = s.lot.severity;
            size = s.lot.size;
            level = s.lot.level;
            column = omega (arith, s.lot.column, s.lower-column);
          } in
          rw s.book-sound
          (lot-passes (under_column q (max q.column lower)) _ wide
          ∙ rw (s.upper-under-key, s.lower-under-key)
          ((two-given _ _ 6 6 _ plan).1
          (ap not (eq-eqb _ _ s.same-n), le-ltb _ _ s.within-lot, s.is-plan)))

-- 2. A lot judged for one limit, upper or lower; and for two.
module _ (m : Spread) (q : Asked) (book readings : List ℕ) where
  pub judge-limit-refused : (upper : Bool) (limit : ℤ)
      → OnBook book
      (Then (ReadingsPlanRows (section_for m) q book) (readings_plan (section_for m) q book)
      (λ plan. ReadingRows m (one upper limit) readings (sides_of plan)))
      (judge_limit m upper q book limit readings)
  unfolding judge_limit
  judge-limit-refused upper limit =
      judged-on-book (readings_plan (section_for m) q book) _ book (readings-plan-refused q book (section_for m))
      (λ plan. seen-from 1 (omega arith) (limits-refused m (one upper limit) readings (sides_of plan)))

  pub judge-limit-given : (upper : Bool) (limit : ℤ) (j : Judged VariablesPlan Verdict)
      → (judge_limit m upper q book limit readings ≡ given j)
      ↔ ((readings_plan (section_for m) q book ≡ given j.plan)
      × ReadingsJudged m (one upper limit) readings (sides_of j.plan) j.verdict)
  unfolding judge_limit
  judge-limit-given upper limit j =
      judged-by (readings_plan (section_for m) q book)
      (λ plan. judge_readings m (one upper limit) (sides_of plan) readings)
      (λ plan. ReadingsJudged m (one upper limit) readings (sides_of plan))
      (λ plan. limits-given m (one upper limit) readings (sides_of plan)) j

  module _ (limits : Limits) (lower : ℕ) where
    pub judge-sides-refused :
        OnBook book
        (Then (SidesPlanRows (section_for m) q lower book) (sides_plan (section_for m) q lower book)
        (ReadingRows m limits readings))
        (judge_sides m limits q lower book readings)
    unfolding judge_sides
    judge-sides-refused =
        judged-on-book (sides_plan (section_for m) q lower book) _ book
        (sides-plan-refused (section_for m) q lower book)
        (λ plan. seen-from 1 (omega arith) (limits-refused m limits readings plan))

    pub judge-sides-given : (j : Judged SidesPlan Verdict)
        → (judge_sides m limits q lower book readings ≡ given j)
        ↔ ((sides_plan (section_for m) q lower book ≡ given j.plan)
        × ReadingsJudged m limits readings j.plan j.verdict)
    unfolding judge_sides
    judge-sides-given j =
        judged-by (sides_plan (section_for m) q lower book) (λ plan. judge_readings m limits plan readings)
        (ReadingsJudged m limits readings) (limits-given m limits readings) j

-- 3. Readings judged on a plan that is handed over: 6 where no sound book could hold a side's.
module _ (m : Spread) (limits : Limits) (plan : SidesPlan) (bytes : List ℕ) where
  abbrev could_be : Bool → Bool
  could_be upper = could_hold variables (variables_entry (side_of upper plan))

  pub readings-sample-refused :
      Reports 6
      (Row 6 (could_be true ≡ false) (Row 6 (could_be false ≡ false) (ReadingRows m limits bytes plan)))
      (readings_sample m limits plan bytes)
  unfolding readings_sample
  readings-sample-refused =
      check 6 (not (could_be true)) (not-true (could_be true)) (λ f. ap not f) (le_refl 6)
      (check 6 (not (could_be false)) (not-true (could_be false)) (λ f. ap not f) (omega arith)
      (limits-refused m limits bytes plan))

  pub readings-sample-given : (v : Verdict)
      → (readings_sample m limits plan bytes ≡ given v)
      ↔ ((could_be true ≡ true) × (could_be false ≡ true) × ReadingsJudged m limits bytes plan v)
  unfolding readings_sample
  readings-sample-given v =
      let iff = first-given
      (unless_held variables (variables_entry (side_of true plan))
      ∷ unless_held variables (variables_entry (side_of false plan))
      ∷ [])
      (judge_readings m limits plan bytes) v in (
        λ g.
            let n = (iff.0 g).0 in (
              not-false (could_be true) n.0,
              not-false (could_be false) n.1.0,
              (limits-given m limits bytes plan v).0 (iff.0 g).1,
            ),
        λ s.
            iff.1
            ((ap not s.0, (ap not s.1, tt)), (limits-given m limits bytes plan v).1 s.2),
      )

-- 4. What is looked up for two limits is what is looked up for each column alone, joined (sides-join). Both columns the
-- same: it is what is looked up for one limit, its K on both sides.
pub one-column : (section : ℕ) (q : Asked) (book : List ℕ)
    → sides_plan section q q.column book ≡ and_then (readings_plan section q book) (λ p. given (sides_of p))
one-column section q book = sides-join section q q.column book ∙ join-same (readings_plan section q book)

-- 5. Two limits are two verdicts for one limit, each under its own column with its own K, and "accept only if both
-- sides accept".
module _ (m : Spread) (q : Asked) (lower : ℕ) (book readings : List ℕ) (u l : ℤ) (j : Judged SidesPlan Verdict)
    (g : judge_sides m (both u l) q lower book readings ≡ given j) where
  judged : ReadingsJudged m (both u l) readings j.plan j.verdict
  judged = ((judge-sides-given m q book readings (both u l) lower j).0 g).1

  plans : (readings_plan (section_for m) q book ≡ given (side_of true j.plan))
      × (readings_plan (section_for m) (under_column q lower) book ≡ given (side_of false j.plan))
  plans =
      (join-given _ _ j.plan).0
      (sym (sides-join (section_for m) q lower book)
      ∙ ((judge-sides-given m q book readings (both u l) lower j).0 g).0)

  -- the verdict of a side by itself
  abbrev side_verdict : Bool → ℤ → Verdict
  side_verdict upper limit =
      readings_verdict j.plan.n (side_accepts m upper (side_of upper j.plan) limit (readings_of readings))

  side-accepted : (upper : Bool) (limit : ℤ)
      → ((side_verdict upper limit).accepted ≡ true)
      ↔ LimitsAccept m (one upper limit) (sides_of (side_of upper j.plan)) (readings_of readings)
  unfolding accepts_limits
  side-accepted true limit = accepts-exactly m (one true limit) (sides_of (side_of true j.plan)) (readings_of readings)
  side-accepted false limit =
      accepts-exactly m (one false limit) (sides_of (side_of false j.plan)) (readings_of readings)

  side-judged : (upper : Bool) (limit : ℤ) → (LimitsOut (one upper limit) → ⊥)
      → judge_readings m (one upper limit) (sides_of (side_of upper j.plan)) readings ≡ given (side_verdict upper limit)
  side-judged upper limit inside =
      (limits-given m (one upper limit) readings (sides_of (side_of upper j.plan)) (side_verdict upper limit)).1
      (record {
        whole = judged.whole;
        readings-in = judged.readings-in;
        limits-in = inside;
        sigma-in = judged.sigma-in;
        accepted-exactly = side-accepted upper limit;
        verdict = refl;
      })

  pub upper-alone : judge_limit m true q book u readings
      ≡ given (record { plan = side_of true j.plan; verdict = side_verdict true u })
  unfolding judge_limit
  upper-alone = rw plans.0 (rw (side-judged true u (λ o. judged.limits-in (inl o))))

  pub lower-alone : judge_limit m false (under_column q lower) book l readings
      ≡ given (record { plan = side_of false j.plan; verdict = side_verdict false l })
  unfolding judge_limit
  lower-alone = rw plans.1 (rw (side-judged false l (λ o. judged.limits-in (inr (inl o)))))

  pub both-accept : j.verdict.accepted ≡ ((side_verdict true u).accepted && (side_verdict false l).accepted)
  unfolding accepts_limits
  both-accept =
      let iff = accepts-exactly m (both u l) j.plan (readings_of readings) in
      same-truth _ _ (λ t. iff.1 (judged.accepted-exactly.0 t)) (λ t. judged.accepted-exactly.1 (iff.0 t))

-- .. and back: two lots judged for one limit each, with the same n, are judged together, where the lower limit is below
-- the upper.
module _ (m : Spread) (q : Asked) (lower : ℕ) (book readings : List ℕ) (u l : ℤ) (a b : Judged VariablesPlan Verdict)
    (above : judge_limit m true q book u readings ≡ given a)
    (below : judge_limit m false (under_column q lower) book l readings ≡ given b) (same : a.plan.n ≡ b.plan.n)
    (apart : lt_z l u ≡ true) where
  upper-judged : (readings_plan (section_for m) q book ≡ given a.plan)
      × ReadingsJudged m (one true u) readings (sides_of a.plan) a.verdict
  upper-judged = (judge-limit-given m q book readings true u a).0 above

  lower-judged : (readings_plan (section_for m) (under_column q lower) book ≡ given b.plan)
      × ReadingsJudged m (one false l) readings (sides_of b.plan) b.verdict
  lower-judged = (judge-limit-given m (under_column q lower) book readings false l b).0 below

  limits-inside : LimitsOut (both u l) → ⊥
  limits-inside (inl e) = upper-judged.1.limits-in e
  limits-inside (inr (inl e)) = lower-judged.1.limits-in e
  limits-inside (inr (inr e)) = false≢true (sym (at-or-over l u e) ∙ apart)

  both-accepted : ((a.verdict.accepted && b.verdict.accepted) ≡ true)
      ↔ LimitsAccept m (both u l) (both_sides a.plan b.plan) (readings_of readings)
  both-accepted =
      let iff = and-eq-true_iff a.verdict.accepted b.verdict.accepted in
      let up = upper-judged.1.accepted-exactly in
      let low = lower-judged.1.accepted-exactly in
      let at : ℕ → Type 0 = λ n. SideAccepts m false n b.plan.k l (readings_of readings) in (
        λ t. (up.0 (iff.0 t).0, subst at (sym same) (low.0 (iff.0 t).1)),
        λ s. iff.1 (up.1 s.0, low.1 (subst at same s.1)),
      )

  pub judged-together : judge_sides m (both u l) q lower book readings
      ≡ given
      (record {
        plan = both_sides a.plan b.plan;
        verdict = readings_verdict a.plan.n (a.verdict.accepted && b.verdict.accepted);
      })
  judged-together =
      (judge-sides-given m q book readings (both u l) lower _).1 (
        sides-join (section_for m) q lower book
            ∙ (join-given _ _ (both_sides a.plan b.plan)).1 (
              upper-judged.0,
              lower-judged.0 ∙ ap (λ (n : ℕ). given (record { n = n; k = b.plan.k })) (sym same),
            ),
        record {
          whole = upper-judged.1.whole;
          readings-in = upper-judged.1.readings-in;
          limits-in = limits-inside;
          sigma-in = upper-judged.1.sigma-in;
          accepted-exactly = both-accepted;
          verdict = refl;
        },
      )
