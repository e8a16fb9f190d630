-- Demand 2 in the mode of document 02, T-01: for each of its three entries, exactly when it is refused and exactly when
-- it is given.
-- Assumes nothing.
use Prim.Native.Nat.{ℕ, zero, suc, ◌≤◌, ◌<◌, min}
use mathlib.Core.Path.{◌≡◌, refl, sym, ap, subst, ◌∙◌}
use mathlib.Core.Logic.{◌↔◌, ◌⊎◌, inl, inr}
use mathlib.Core.Bool.{Bool, true, false, cond, not, false≢true}
use mathlib.Core.List.{List}
use native.Mathlib.Nat.{le_refl}
use native.Mathlib.Omega.{arith}
use borrow.Author.Tests.{leb-true, leb-false, le-leb, lt-leb, eqb-true, eqb-false, eq-eqb, ne_eqb, not-true}
use lib.Dec.{leb, eqb}
use Rattle.rules.specs.Refusals.{given}
use Rattle.rules.specs.Numbers.{numbers_of, sum_of}
use Rattle.rules.specs.Codes.{letter_of}
use Rattle.rules.specs.Verdict.{Verdict, Judged}
use Rattle.rules.specs.Single.{Plan, table_plan, single_verdict, judge_items}
use Rattle.rules.specs.Fractional.{FractionalPlan, plan_of_share, fraction_accepts, fraction_verdict, verdict_by_share}
use Rattle.rules.specs.Fractional.{judge_by_share}
use Rattle.rules.specs.Severity.{add_two, on_fraction, lot, counted}
use Rattle.rules.specs.Supply.{Supply, run_on, supply_in_range}
use Rattle.rules.specs.Entries.{Asked, single_plan, in_fractions, fractional_plan, Closed, Offered, asked_on}
use Rattle.rules.specs.Entries.{single_counts, judge_fractional, as_single, origin_of, fractional_event}
use Rattle.rules.specs.Entries.{close_fractional}
use Rattle.rules.specs.Reporting.{NoRow, OnBook, Reports, Row}
use Rattle.rules.specs.Judging.{ItemRows, Passes, SharedJudged, at_most, clean-sample, under-half, under-third}
use Rattle.rules.specs.Planning.{Closes, FractionalPlanRows, FractionalPlanned, OwnHalf, OwnThird, SinglePlanned}
use Rattle.rules.specs.Planning.{own_fraction, own_share, ShareKinds, on_plan, FractionalRows}
use Rattle.rules.proofs.Answers.{given-one, then-given}
use Rattle.rules.proofs.Bools.{same-truth}
use Rattle.rules.proofs.Refusals.{check, passes, nothing-wrong, chain, seen-from, goes-on}
use Rattle.rules.proofs.EntryLaws.{judged-reports, lot-moves, closing-given}
use Rattle.rules.proofs.SampleLaws.{items-refused, items-given}
use Rattle.rules.proofs.Fractions.{third-exactly, half-exactly, share-kinds, fraction-exactly}
use Rattle.rules.proofs.Fractions.{none-from-reduced, one-under-half, one-under-third, two-never-accept}
use Rattle.rules.proofs.Fractions.{InMode, whole, fraction, in-mode, in-whole, fraction-plan}
use Rattle.rules.proofs.Fractions.{judged-exactly, told-settled}
use Rattle.rules.proofs.Demands.Two.{single-plan-refused, single-plan-given}

-- 1. The plan: refused as the single plan, and then 6 where the lot's own box is a fraction and its column over 15.
module _ (q : Asked) (book : List ℕ) where
  box : (own_share q ≡ 0 → ⊥) ↔ (OwnThird q ⊎ OwnHalf q)
  box = fraction-exactly q.severity q.column (letter_of q.size q.level)

  mode-reports : (plan : Plan)
      → Reports 6 (Row 6 ((OwnThird q ⊎ OwnHalf q) × (15 < q.column)) NoRow) (in_fractions q plan)
  mode-reports plan = on (eqb (own_share q) 0) refl
    where
      on : (t : Bool) → eqb (own_share q) 0 ≡ t
          → Reports 6 (Row 6 ((OwnThird q ⊎ OwnHalf q) × (15 < q.column)) NoRow) (in_fractions q plan)
      on true none =
          rw none (passes 6 (λ w. box.1 w.0 (eqb-true (own_share q) 0 none)) (le_refl 6) nothing-wrong)
      on false some =
          rw some
          (check 6 (not (leb q.column 15))
          (λ t. (box.0 (eqb-false (own_share q) 0 some), leb-false q.column 15 (not-true (leb q.column 15) t)))
          (λ w. ap not (lt-leb q.column 15 w.1)) (le_refl 6) nothing-wrong)

  pub fractional-plan-refused : OnBook book (FractionalPlanRows q book) (fractional_plan q book)
  unfolding fractional_plan
  fractional-plan-refused =
      record {
        broken = λ byte e. rw ((single-plan-refused q book).broken byte e);
        else =
            λ e.
            chain (single_plan q book) ((single-plan-refused q book).else e)
            (λ plan f. seen-from 1 (omega arith) (mode-reports plan));
      }

  pub fractional-plan-given : (p : FractionalPlan) → (fractional_plan q book ≡ given p) ↔ FractionalPlanned q book p
  unfolding fractional_plan
  fractional-plan-given p = (so, back (share-kinds _ _ _))
    where
      from : (plan : Plan) → SinglePlanned q book plan → InMode q plan p → FractionalPlanned q book p
      from plan s (whole none e) =
          record {
            book-sound = s.book-sound;
            lot = s.lot;
            one-third = λ h. absurd (box.1 (inl h) none);
            one-half = λ h. absurd (box.1 (inr h) none);
            else-whole = λ _. (rw (← e), rw (← e) s);
          }
      from plan s (fraction some c e) =
          record {
            book-sound = s.book-sound;
            lot = s.lot;
            one-third = λ h. (c, ap (own_fraction q) (sym ((third-exactly _ _ _).1 h)) ∙ e);
            one-half = λ h. (c, ap (own_fraction q) (sym ((half-exactly _ _ _).1 h)) ∙ e);
            else-whole = λ none. absurd (none (box.0 some));
          }

      so : fractional_plan q book ≡ given p → FractionalPlanned q book p
      so g =
          let f = then-given (single_plan q book) (in_fractions q) p g in
          from f.0 ((single-plan-given q book f.0).0 f.1) (in-mode q f.0 p f.2)

      -- a fraction stands under normal or tightened, where the tables always have a single plan
      back-own : (share : ℕ) → own_share q ≡ share → 0 < share → FractionalPlanned q book p
          → (q.column ≤ 15) × (own_fraction q share ≡ p) → fractional_plan q book ≡ given p
      back-own share e some s f =
          let own : own_share q ≡ 0 → ⊥ = λ z. omega arith in
          let planned : SinglePlanned q book (table_plan q.severity q.size q.level q.column) =
          record {
            book-sound = s.book-sound;
            lot = s.lot;
            from-book = λ r. absurd (own (none-from-reduced q.severity q.column _ (omega arith)));
            from-tables = λ _. refl;
          } in
          fraction-plan q book _ ((single-plan-given q book _).1 planned) own f.0
          ∙ ap (λ (x : ℕ). given (own_fraction q x)) e
          ∙ ap given f.1

      back : ShareKinds (own_share q) → FractionalPlanned q book p → fractional_plan q book ≡ given p
      back (inl none) s =
          let w = s.else-whole (λ h. box.1 h none) in
          rw ((single-plan-given q book p.plan).1 w.1)
          (in-whole q p.plan none ∙ ap (λ (x : ℕ). given (plan_of_share p.plan x)) (sym w.0))
      back (inr (inl e)) s = back-own 2 e (omega arith) s (s.one-half ((half-exactly _ _ _).0 e))
      back (inr (inr e)) s = back-own 3 e (omega arith) s (s.one-third ((third-exactly _ _ _).0 e))

  -- a plan's share is none, one half or one third
  share-kind : (p : FractionalPlan) → fractional_plan q book ≡ given p → ShareKinds p.share
  unfolding fractional_plan
  share-kind p g =
      let f = then-given (single_plan q book) (in_fractions q) p g in
      on (in-mode q f.0 p f.2)
    where
      on : {plan : Plan} → InMode q plan p → ShareKinds p.share
      on (whole none e) = inl (rw (← e))
      on (fraction some c e) = rw (← e) (share-kinds _ _ _)

-- 2. A sample on such a plan, after so many clean ones: its test is the written rule.
module _ (p : FractionalPlan) (before : ℕ) where
  abbrev accepts : ℕ → Bool
  accepts total = cond (eqb p.share 0) (leb total p.plan.ac) (fraction_accepts p.share before total)

  fraction-so : (total : ℕ) → (p.share ≡ 0 → ⊥) → (accepts 1 ≡ true → Passes p before 1) → accepts total ≡ true
      → Passes p before total
  fraction-so zero some one a = clean-sample some refl
  fraction-so (suc zero) some one a = one a
  fraction-so (suc (suc total)) some one a =
      let never = two-never-accept p.share before (suc (suc total)) (omega arith) in
      absurd (false≢true (sym never ∙ (rw (ne_eqb p.share 0 some) at a)))

  passes-so : (total : ℕ) → ShareKinds p.share → accepts total ≡ true → Passes p before total
  passes-so total (inl e) a = at_most e (leb-true total p.plan.ac (rw (eq-eqb p.share 0 e) at a))
  passes-so total (inr (inl e)) a =
      fraction-so total (λ z. omega (arith, e)) (λ b. under-half e refl ((one-under-half before).0 (rw e at b))) a
  passes-so total (inr (inr e)) a =
      fraction-so total (λ z. omega (arith, e)) (λ b. under-third e refl ((one-under-third before).0 (rw e at b))) a

  passes-then : (total : ℕ) → Passes p before total → accepts total ≡ true
  passes-then total (at_most e h) = rw (eq-eqb p.share 0 e) (le-leb total p.plan.ac h)
  passes-then total (clean-sample some e) = rw (ne_eqb p.share 0 some, e)
  passes-then total (under-half e f h) = rw (e, f) ((one-under-half before).1 h)
  passes-then total (under-third e f h) = rw (e, f) ((one-under-third before).1 h)

-- It is refused as on any single plan, and else has the verdict that the rule says.
module _ (before column : ℕ) (sample : List ℕ) (p : FractionalPlan) where
  shared-refused : Reports 7 (ItemRows column sample p.plan) (judge_by_share before column p sample)
  unfolding judge_by_share
  shared-refused =
      goes-on (judge_items column p.plan sample) (items-refused column sample p.plan) (λ v e. (_, refl))

  -- the verdict, by the total of the items
  told_of : Bool → Verdict
  told_of a = record { accepted = a; used = p.plan.n; total = sum_of (numbers_of sample); stage = 1; stages = 1 }

  told : verdict_by_share p.share before (single_verdict p.plan (sum_of (numbers_of sample)))
      ≡ told_of (accepts p before (sum_of (numbers_of sample)))
  unfolding told_of
  told = on (eqb p.share 0)
    where
      plain : Verdict
      plain = single_verdict p.plan (sum_of (numbers_of sample))

      on : (t : Bool)
          → cond t plain (fraction_verdict p.share before plain)
          ≡ told_of (cond t (leb plain.total p.plan.ac) (fraction_accepts p.share before plain.total))
      on true = refl
      on false = refl

  shared-given : ShareKinds p.share → (v : Verdict)
      → (judge_by_share before column p sample ≡ given v) ↔ SharedJudged before column sample p v
  unfolding judge_by_share told_of
  shared-given kind v = (so, back)
    where
      so : judge_by_share before column p sample ≡ given v → SharedJudged before column sample p v
      so g =
          let w = then-given (judge_items column p.plan sample) _ v g in
          let i = (items-given column sample p.plan w.0).0 w.1 in
          let e = sym told ∙ ap (verdict_by_share p.share before) i.verdict ∙ given-one w.2 in
          record {
            whole = i.whole;
            legal = i.legal;
            accepted-exactly =
                subst (λ (x : Verdict). (x.accepted ≡ true) ↔ Passes p before (sum_of (numbers_of sample))) e
                (passes-so p before _ kind, passes-then p before _);
            verdict = subst (λ (x : Verdict). told_of x.accepted ≡ x) e refl;
          }

      back : SharedJudged before column sample p v → judge_by_share before column p sample ≡ given v
      back k =
          let same = same-truth (accepts p before (sum_of (numbers_of sample))) v.accepted
          (λ a. k.accepted-exactly.1 (passes-so p before _ kind a))
          (λ a. passes-then p before _ (k.accepted-exactly.0 a)) in
          rw ((items-given column sample p.plan _).1 (record { whole = k.whole; legal = k.legal; verdict = refl }))
          (ap given (told ∙ ap told_of same ∙ k.verdict))

-- 3. A lot judged, by the record's severity and clean run: 1 for a record out of range, then the plan's rows, then the
-- sample's.
module _ (s : Supply) (o : Offered) (book sample : List ℕ) where
  abbrev asked : Asked
  asked = asked_on s.switching o

  pub judge-fractional-refused : OnBook book (FractionalRows s o book sample) (judge_fractional s o book sample)
  unfolding judge_fractional
  judge-fractional-refused =
      record {
        broken = λ byte e. rw e;
        else =
            λ e.
            rw e
            (check 1 (not (supply_in_range s)) (not-true (supply_in_range s)) (λ f. ap not f) (le_refl 1)
            (judged-reports (fractional_plan asked book) (on_plan s o sample)
            ((fractional-plan-refused asked book).else e)
            (λ p f. seen-from 1 (omega arith) (shared-refused _ o.column sample p))));
      }

  pub judge-fractional-given : (j : Judged FractionalPlan Verdict)
      → (judge_fractional s o book sample ≡ given j)
      ↔ ((supply_in_range s ≡ true)
      × (fractional_plan asked book ≡ given j.plan)
      × SharedJudged (run_on s.clean j.plan.plan.letter o.column) o.column sample j.plan j.verdict)
  judge-fractional-given j = (
    λ g. let h = (judged-exactly s o book sample j).0 g in (h.1, h.2, (on-plan h.2).0 h.3),
    λ h. (judged-exactly s o book sample j).1 (
      ((fractional-plan-given asked book j.plan).0 h.1).book-sound,
      h.0,
      h.1,
      (on-plan h.1).1 h.2,
    ),
  )
    where
      before : ℕ
      before = run_on s.clean j.plan.plan.letter o.column

      on-plan : fractional_plan asked book ≡ given j.plan
          → (on_plan s o sample j.plan ≡ given j.verdict)
          ↔ SharedJudged before o.column sample j.plan j.verdict
      on-plan g = shared-given before o.column sample j.plan (share-kind asked book j.plan g) j.verdict

  -- 4. A lot closed: refused as it is judged; what is judged is taken into the record.
  pub close-fractional-refused : OnBook book (FractionalRows s o book sample) (close_fractional s o book sample)
  unfolding close_fractional
  close-fractional-refused =
      record {
        broken = λ byte e. rw (judge-fractional-refused.broken byte e);
        else =
            λ e.
            goes-on (judge_fractional s o book sample) (judge-fractional-refused.else e)
            (λ j g.
            let p = (fractional-plan-given asked book j.plan).0 ((judge-fractional-given j).0 g).1 in
            let t = lot-moves s o (origin_of o j) (single_counts s.switching o (as_single j)) p.lot.severity in
            (record { judged = j; event = fractional_event s.switching o j; supply_after = t.0 }, rw t.1));
      }

  pub close-fractional-given : (c : Closed FractionalPlan)
      → (close_fractional s o book sample ≡ given c)
      ↔ Closes s (judge_fractional s o book sample) (fractional_event s.switching o) c
  unfolding close_fractional
  close-fractional-given c =
      let by =
      closing-given s (judge_fractional s o book sample) (fractional_event s.switching o)
      (told-settled s o book sample) c in (
        λ g.
            let j = then-given (judge_fractional s o book sample) _ c g in
            by.0 (rw ((judge-fractional-given j.0).0 j.1).0 g),
        λ k. rw k.in-range at (by.1 k),
      )

  -- What an original lot on a fraction enters: its own letter, its column and its total, held at 2; and it counts as on
  -- Ac 0, "add 2" at normal where it is accepted.
  pub fraction-entered : (c : Closed FractionalPlan) → close_fractional s o book sample ≡ given c → o.again ≡ false
      → (c.judged.plan.share ≡ 0 → ⊥)
      → c.event
      ≡ lot (on_fraction (letter_of o.size o.level) o.column (min 2 c.judged.verdict.total))
      (counted s.switching.severity c.judged.verdict.accepted add_two)
  unfolding fractional_plan
  fraction-entered c g original some =
      let k = (close-fractional-given c).0 g in
      let x = then-given (single_plan asked book) (in_fractions asked) c.judged.plan
      ((judge-fractional-given c.judged).0 k.as-judged).1 in
      k.stands
      ∙ rw (original, ne_eqb c.judged.plan.share 0 some)
      (on (in-mode asked x.0 c.judged.plan x.2))
    where
      on : {plan : Plan} → InMode asked plan c.judged.plan
          → lot (on_fraction c.judged.plan.plan.letter o.column (min 2 c.judged.verdict.total))
          (single_counts s.switching o (as_single c.judged))
          ≡ lot (on_fraction (letter_of o.size o.level) o.column (min 2 c.judged.verdict.total))
          (counted s.switching.severity c.judged.verdict.accepted add_two)
      on (whole none e) = absurd (some (ap (λ (p : FractionalPlan). p.share) (sym e)))
      on (fraction own few e) = rw (← e)
