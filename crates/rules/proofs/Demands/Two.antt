-- Demand 2: for each entry, exactly when it is refused and exactly when it is given. An entry that takes a book
-- reports 12 with its byte first, and of a sound book, as every other entry, the lowest number whose row holds
-- (`refused-exactly`), and is given exactly where no row holds (`given-exactly`): nothing else is refused.
-- Assumes nothing.
use Prim.Native.Nat.{ℕ, ◌/◌, ◌≤◌, ◌<◌}
use mathlib.Core.Path.{◌≡◌, refl, sym, ap, subst, ◌∙◌}
use mathlib.Core.Logic.{◌↔◌, ◌⊎◌, inl, inr}
use mathlib.Core.Bool.{Bool, true, false, cond, ◌&&◌, not, false≢true}
use mathlib.Core.List.{List, [], ◌∷◌}
use native.Mathlib.Nat.{le_refl}
use native.Mathlib.Omega.{arith}
use borrow.Author.Tests.{ltb-true, ltb-false, lt-ltb, le-ltb, leb-true, le-leb, lt-leb, eqb-true, eqb-false, eq-eqb}
use borrow.Author.Tests.{ne_eqb, not-true, not-false}
use lib.Dec.{leb, ltb, eqb}
use lib.ListN.{length}
use Rattle.rules.specs.Refusals.{Answer, refused, given, ◌gives◌, first_of, and_then, illegal_item, buffer_short}
use Rattle.rules.specs.Refusals.{no_plan, no_such_column, unknown_form}
use Rattle.rules.specs.Codes.{reduced, counts_items, letter_of, table_one_letter}
use Rattle.rules.specs.Verdict.{Verdict, Judged}
use Rattle.rules.specs.Single.{Plan, table_plan, single_verdict, judge_items}
use Rattle.rules.specs.Staged.{StagedPlan, judge_stages}
use Rattle.rules.specs.Sequential.{SequentialPlan, judge_sequence}
use Rattle.rules.specs.Book.{check_book}
use Rattle.rules.specs.Book.{Found, found, nothing, staged_of, sequential_of, variables_of}
use Rattle.rules.specs.Entries.{Lettered, lettered, single_sample, staged_sample, Asked}
use Rattle.rules.specs.Entries.{asked_letter, looked_up, reduced_section, staged_section, sequential_section}
use Rattle.rules.specs.Entries.{variables_section, from_entry, reduced_plan, single_plan, plain_plan, staged_plan}
use Rattle.rules.specs.Entries.{sequential_plan, readings_plan, variables_plan, judge_single, judge_staged}
use Rattle.rules.specs.Entries.{judge_sequential, total_on, judge_total, next, Closed, Offered, asked_on}
use Rattle.rules.specs.Entries.{single_counts, staged_counts, single_event, staged_event, close_single, close_staged}
use Rattle.rules.specs.Entries.{close_total, moved}
use Rattle.rules.specs.Severity.{sampled, Event, Record, fresh}
use Rattle.rules.specs.Supply.{Supply, counts_on, supply_in_range}
use Rattle.rules.specs.Variables.{VariablesPlan, all_in_gauge, readings_of, sum_z, squares_z}
use Rattle.rules.specs.History.{Work, event_in, after_history, listed, left_in}
use Rattle.rules.proofs.Histories.{from-refused, filled-length, filled-at, filled-past}
use Rattle.rules.specs.Screen.{Shown, screen, shown_of}
use Rattle.rules.specs.Reporting.{NoRow, OnBook, Reports, Row, Then}
use Rattle.rules.specs.Judging.{EndsAtItem, EndsAtStage, ItemRows, ItemsJudged, MeetsInStage, MeetsItem}
use Rattle.rules.specs.Judging.{SampleRows, ScreenRows, Screened}
use Rattle.rules.specs.Planning.{BufferListed, Closes, EventRows, FirstBad, LotRows, NoReduced}
use Rattle.rules.specs.Planning.{PlainPlanRows, PlainPlanned, Plannable, SequentialPlanRows, SinglePlanRows}
use Rattle.rules.specs.Planning.{SinglePlanned, StagedPlanRows, Supplies, Took, TotalJudged, TotalRows}
use Rattle.rules.specs.Planning.{ReadingsPlanRows, sequential_needs, staged_needs, variables_needs}
use Rattle.rules.proofs.Bounded.{by-le}
use Rattle.rules.proofs.Bools.{and-left, and-right}
use Rattle.rules.proofs.Answers.{refused-given, given-one, then-given}
use Rattle.rules.proofs.Refusals.{check, stops, passes, nothing-wrong, chain}
use Rattle.rules.proofs.Refusals.{seen-from, first-given, refused-number, refused-place}
use Rattle.rules.proofs.Deciding.{sequence-decided, sequence-reports}
use Rattle.rules.proofs.Deciding.{stages-decided, stages-report}
use Rattle.rules.proofs.EntryLaws.{lot-reports, lot-passes, lot-given, on-book, sound-given}
use Rattle.rules.proofs.EntryLaws.{from_book, book-plan-reports, book-plan-given, two-given}
use Rattle.rules.proofs.EntryLaws.{judged-on-book, judged-by, closing-reports, closing-given}
use Rattle.rules.proofs.EntryLaws.{closing-on-book, closing-book-given, lot-moves, lettered-on-book, lettered-by}
use Rattle.rules.proofs.SMethod.{out-means, out-when, all-in}
use Rattle.rules.proofs.SampleLaws.{items-refused, items-given}
use Rattle.rules.proofs.SampleLaws.{unfit, fits, fit-so, unfit-when}
use Rattle.rules.proofs.Moving.{move-took, took-moves, typed-counts, sampled-counts}
use Rattle.rules.proofs.Supplies.{move-refused}
use Rattle.rules.proofs.EventLaws.{first-bad}

-- The letter of a size and level, and of a lot.
module _ (size level : ℕ) where
  pub letter-refused : Reports 2 (Row 2 (size < 2) (Row 3 (6 < level) NoRow)) (table_one_letter size level)
  unfolding table_one_letter
  letter-refused =
      check 2 (ltb size 2) (ltb-true size 2) (lt-ltb size 2) (omega arith)
      (check 3 (ltb 6 level) (ltb-true 6 level) (lt-ltb 6 level) (le_refl 3) nothing-wrong)

  pub letter-given : (l : ℕ)
      → (table_one_letter size level ≡ given l) ↔ ((2 ≤ size) × (level ≤ 6) × (letter_of size level ≡ l))
  unfolding table_one_letter
  letter-given l =
      let two = two-given (ltb size 2) (ltb 6 level) 2 3 (letter_of size level) l in (
        λ g. (ltb-false size 2 (two.0 g).0, ltb-false 6 level (two.0 g).1, (two.0 g).2),
        λ h. two.1 (le-ltb size 2 h.0, le-ltb 6 level h.1, h.2),
      )

module _ (q : Asked) where
  pub asked-letter-refused : Reports 1 (LotRows q NoRow) (asked_letter q)
  unfolding asked_letter
  asked-letter-refused = lot-reports q nothing-wrong

  pub asked-letter-given : (l : ℕ)
      → (asked_letter q ≡ given l) ↔ (Plannable q × (letter_of q.size q.level ≡ l))
  unfolding asked_letter
  asked-letter-given l =
      let iff = lot-given q (given (letter_of q.size q.level)) l in
      (λ g. ((iff.0 g).0, given-one (iff.0 g).1), λ h. iff.1 (h.0, ap given h.1))

-- 1. The single plan. 6 under reduced inspection, where the book has no entry under the key.
module _ (q : Asked) (book : List ℕ) where
  plan-of : Bool → Found → Answer Plan
  plan-of t f =
      cond t (from_entry f (λ e. given (reduced_plan q e)))
      (given (table_plan q.severity q.size q.level q.column))

  plan-reports : (t : Bool) → eqb q.severity 2 ≡ t → (f : Found) → looked_up reduced_section q book ≡ f
      → Reports 6 (Row 6 (NoReduced q book) NoRow) (plan-of t f)
  unfolding plan-of
  plan-reports true s nothing l = stops 6 (eqb-true q.severity 2 s, l) (le_refl 6) (λ m w. absurd w)
  plan-reports true s (found e) l =
      passes 6 (λ w. let z : ◌≡◌ {A = ℕ} 0 1 = cc w.1 in omega arith) (le_refl 6) nothing-wrong
  plan-reports false s f l = passes 6 (λ w. eqb-false q.severity 2 s w.0) (le_refl 6) nothing-wrong

  pub single-plan-refused : OnBook book (SinglePlanRows q book) (single_plan q book)
  unfolding single_plan plan-of
  single-plan-refused =
      on-book book (lot-reports q (plan-reports (eqb q.severity 2) refl (looked_up reduced_section q book) refl))

  entry-is : (plan : Plan) (f : Found) → from_entry f (λ e. given (reduced_plan q e)) ≡ given plan
      → (e : List ℕ) × (f ≡ found e) × (reduced_plan q e ≡ plan)
  entry-is plan nothing g = absurd (refused-given g)
  entry-is plan (found e) g = (e, refl, given-one g)

  pub single-plan-given : (plan : Plan) → (single_plan q book ≡ given plan) ↔ SinglePlanned q book plan
  unfolding single_plan plan-of
  single-plan-given plan = (so, λ s. rw s.book-sound (lot-passes q _ s.lot ∙ back s (eqb q.severity 2) refl))
    where
      look : Found
      look = looked_up reduced_section q book

      so : single_plan q book ≡ given plan → SinglePlanned q book plan
      so g =
          let b = (sound-given (check_book book) _ plan).0 g in
          let l = (lot-given q _ plan).0 b.1 in
          record {
            book-sound = b.0;
            lot = l.0;
            from-book = λ s. entry-is plan look
                (sym (ap (λ (t : Bool). plan-of t look) (eq-eqb q.severity 2 s)) ∙ l.1);
            from-tables =
                λ s. given-one (sym (ap (λ (t : Bool). plan-of t look) (ne_eqb q.severity 2 s)) ∙ l.1);
          }

      back : SinglePlanned q book plan → (t : Bool) → eqb q.severity 2 ≡ t → plan-of t look ≡ given plan
      back s true e = let f = s.from-book (eqb-true q.severity 2 e) in rw f.1 (ap given f.2)
      back s false e = ap given (s.from-tables (eqb-false q.severity 2 e))

  -- 2. The plans that only a book supplies. 6 where it has none under the key, or one above the lot size.
  pub staged-plan-refused : OnBook book (StagedPlanRows q book) (staged_plan q book)
  unfolding staged_plan from_book
  staged-plan-refused = book-plan-reports staged_section staged_needs staged_of q book

  pub staged-plan-given : (plan : StagedPlan)
      → (staged_plan q book ≡ given plan) ↔ Supplies staged_section staged_needs staged_of q book plan
  unfolding staged_plan from_book
  staged-plan-given = book-plan-given staged_section staged_needs staged_of q book

  pub sequential-plan-refused : OnBook book (SequentialPlanRows q book) (sequential_plan q book)
  unfolding sequential_plan from_book
  sequential-plan-refused = book-plan-reports sequential_section sequential_needs sequential_of q book

  pub sequential-plan-given : (plan : SequentialPlan)
      → (sequential_plan q book ≡ given plan) ↔ Supplies sequential_section sequential_needs sequential_of q book plan
  unfolding sequential_plan from_book
  sequential-plan-given = book-plan-given sequential_section sequential_needs sequential_of q book

  -- for readings, of the fourth section or the fifth
  pub readings-plan-refused : (section : ℕ)
      → OnBook book (ReadingsPlanRows section q book) (readings_plan section q book)
  unfolding readings_plan from_book
  readings-plan-refused section = book-plan-reports section variables_needs variables_of q book

  pub readings-plan-given : (section : ℕ) (plan : VariablesPlan)
      → (readings_plan section q book ≡ given plan) ↔ Supplies section variables_needs variables_of q book plan
  unfolding readings_plan from_book
  readings-plan-given section = book-plan-given section variables_needs variables_of q book

  -- Published with the lot's Table 1 letter: refused as the plan is, given exactly with that letter and that plan.
  pub staged-lettered-refused : OnBook book (StagedPlanRows q book) (lettered q (staged_plan q book))
  staged-lettered-refused = lettered-on-book q (staged_plan q book) book staged-plan-refused

  pub staged-lettered-given : (x : Lettered StagedPlan)
      → (lettered q (staged_plan q book) ≡ given x)
      ↔ ((letter_of q.size q.level ≡ x.letter)
      × Supplies staged_section staged_needs staged_of q book x.plan)
  staged-lettered-given = lettered-by q (staged_plan q book) _ staged-plan-given

  pub sequential-lettered-refused : OnBook book (SequentialPlanRows q book) (lettered q (sequential_plan q book))
  sequential-lettered-refused = lettered-on-book q (sequential_plan q book) book sequential-plan-refused

  pub sequential-lettered-given : (x : Lettered SequentialPlan)
      → (lettered q (sequential_plan q book) ≡ given x)
      ↔ ((letter_of q.size q.level ≡ x.letter)
      × Supplies sequential_section sequential_needs sequential_of q book x.plan)
  sequential-lettered-given = lettered-by q (sequential_plan q book) _ sequential-plan-given

  pub variables-lettered-refused : OnBook book (ReadingsPlanRows variables_section q book)
      (lettered q (variables_plan q book))
  variables-lettered-refused = lettered-on-book q (variables_plan q book) book (readings-plan-refused variables_section)

  pub variables-lettered-given : (x : Lettered VariablesPlan)
      → (lettered q (variables_plan q book) ≡ given x)
      ↔ ((letter_of q.size q.level ≡ x.letter)
      × Supplies variables_section variables_needs variables_of q book x.plan)
  variables-lettered-given = lettered-by q (variables_plan q book) _ (readings-plan-given variables_section)

-- 3. A lot judged: its plan, and then its sample. Where there is no plan, the plan's refusal.
module _ (q : Asked) (book sample : List ℕ) where
  pub judge-single-refused :
      OnBook book (Then (SinglePlanRows q book) (single_plan q book) (ItemRows q.column sample))
      (judge_single q book sample)
  unfolding judge_single
  judge-single-refused =
      judged-on-book (single_plan q book) _ book (single-plan-refused q book)
      (λ plan. seen-from 1 (omega arith) (items-refused q.column sample plan))

  pub judge-single-given : (j : Judged Plan Verdict)
      → (judge_single q book sample ≡ given j)
      ↔ ((single_plan q book ≡ given j.plan) × ItemsJudged q.column sample j.plan j.verdict)
  unfolding judge_single
  judge-single-given j =
      judged-by (single_plan q book) (λ plan. judge_items q.column plan sample) (ItemsJudged q.column sample)
      (items-given q.column sample) j

  pub judge-staged-refused :
      OnBook book
      (Then (StagedPlanRows q book) (staged_plan q book)
      (λ plan. SampleRows (EndsAtStage q.column plan sample) (MeetsInStage q.column plan sample)))
      (judge_staged q book sample)
  unfolding judge_staged
  judge-staged-refused =
      judged-on-book (staged_plan q book) _ book (staged-plan-refused q book)
      (λ plan. seen-from 1 (omega arith) (stages-report q.column plan sample))

  pub judge-staged-given : (j : Judged StagedPlan Verdict)
      → (judge_staged q book sample ≡ given j)
      ↔ ((staged_plan q book ≡ given j.plan) × EndsAtStage q.column j.plan sample j.verdict)
  unfolding judge_staged
  judge-staged-given j =
      judged-by (staged_plan q book) (λ plan. judge_stages q.column plan sample)
      (λ plan v. EndsAtStage q.column plan sample v) (λ plan v. stages-decided q.column plan sample v) j

  pub judge-sequential-refused :
      OnBook book
      (Then (SequentialPlanRows q book) (sequential_plan q book)
      (λ plan. SampleRows (EndsAtItem plan sample) (MeetsItem plan sample)))
      (judge_sequential q book sample)
  unfolding judge_sequential
  judge-sequential-refused =
      judged-on-book (sequential_plan q book) _ book (sequential-plan-refused q book)
      (λ plan. seen-from 1 (omega arith) (sequence-reports plan sample))

  pub judge-sequential-given : (j : Judged SequentialPlan Verdict)
      → (judge_sequential q book sample ≡ given j)
      ↔ ((sequential_plan q book ≡ given j.plan) × EndsAtItem j.plan sample j.verdict)
  unfolding judge_sequential
  judge-sequential-given j =
      judged-by (sequential_plan q book) (λ plan. judge_sequence plan sample) (λ plan v. EndsAtItem plan sample v)
      (λ plan v. sequence-decided plan sample v) j

-- 4. A lot by its total, on a bench without a book. 6 under reduced inspection, 8 for a total over n where items count.
module _ (q : Asked) where
  pub plain-plan-refused : Reports 1 (PlainPlanRows q) (plain_plan q)
  unfolding plain_plan
  plain-plan-refused =
      lot-reports q
      (check 6 (eqb q.severity 2) (eqb-true q.severity 2) (eq-eqb q.severity 2) (le_refl 6) nothing-wrong)

  pub plain-plan-given : (plan : Plan) → (plain_plan q ≡ given plan) ↔ PlainPlanned q plan
  unfolding plain_plan
  plain-plan-given plan = (
    λ g.
        let l = (lot-given q _ plan).0 g in
        let h = (first-given ((eqb q.severity reduced gives no_plan) ∷ []) _ plan).0 l.1 in
        record { lot = l.0; not-reduced = eqb-false q.severity 2 h.0.0; is-plan = given-one h.1 },
    λ p. lot-passes q _ p.lot ∙ rw (ne_eqb q.severity 2 p.not-reduced) (ap given p.is-plan),
  )

  module _ (total : ℕ) where
    over-so : (plan : Plan) → (counts_items q.column && ltb plan.n total) ≡ true
        → (q.column ≤ 15) × (plan.n < total)
    over-so plan t = (
      leb-true q.column 15 (and-left (leb q.column 15) (ltb plan.n total) t),
      ltb-true plan.n total (and-right (leb q.column 15) (ltb plan.n total) t),
    )

    over-then : (plan : Plan) → (q.column ≤ 15) × (plan.n < total)
        → (counts_items q.column && ltb plan.n total) ≡ true
    over-then plan h = rw (le-leb q.column 15 h.0, lt-ltb plan.n total h.1)

    pub judge-total-refused : Reports 1 (TotalRows q total) (judge_total q total)
    unfolding judge_total
    judge-total-refused =
        chain (plain_plan q) plain-plan-refused
        (λ plan e.
        seen-from 1 (omega arith)
        (check 8 (counts_items q.column && ltb plan.n total) (over-so plan) (over-then plan)
        (le_refl 8) nothing-wrong))

    not-over : (plan : Plan) (t : Bool) → (counts_items q.column && ltb plan.n total) ≡ t → t ≡ false
        → q.column ≤ 15 → total ≤ plan.n
    not-over plan t e f c =
        by-le total plan.n (λ h. h) (λ h. absurd (false≢true (sym f ∙ sym e ∙ over-then plan (c, h))))

    right-total : (plan : Plan) → (q.column ≤ 15 → total ≤ plan.n)
        → (counts_items q.column && ltb plan.n total) ≡ false
    right-total plan h =
        by-le q.column 15 (λ c. rw (le-leb q.column 15 c, le-ltb plan.n total (h c)))
        (λ c. rw (lt-leb q.column 15 c))

    pub judge-total-given : (j : Judged Plan Verdict) → (judge_total q total ≡ given j) ↔ TotalJudged q total j
    unfolding judge_total
    judge-total-given j = (so, back)
      where
        so : judge_total q total ≡ given j → TotalJudged q total j
        so g =
            let p = then-given (plain_plan q) (total_on q.column total) j g in
            let h = (first-given ((counts_items q.column && ltb p.0.n total gives illegal_item) ∷ []) _ j).0
            p.2 in
            let e : record { plan = p.0; verdict = single_verdict p.0 total } ≡ j = given-one h.1 in
            let same : p.0 ≡ j.plan = ap (λ (k : Judged Plan Verdict). k.plan) e in
            record {
              planned = (plain-plan-given j.plan).0 (p.1 ∙ ap given same);
              within-n =
                  subst (λ (plan : Plan). q.column ≤ 15 → total ≤ plan.n) same
                  (not-over p.0 (counts_items q.column && ltb p.0.n total) refl h.0.0);
              verdict =
                  ap (λ (plan : Plan). single_verdict plan total) (sym same)
                  ∙ ap (λ (k : Judged Plan Verdict). k.verdict) e;
            }

        back : TotalJudged q total j → judge_total q total ≡ given j
        back t =
            rw ((plain-plan-given j.plan).1 t.planned, right-total j.plan t.within-n)
            (ap (λ (v : Verdict). given (record { plan = j.plan; verdict = v })) t.verdict)

-- 5. A lot closed: 1 for a record out of range, and else as the lot is judged at the present severity. What is judged
-- is taken into the record: the severity is not stopped, so that the step is always given (`lot-moves`).
module _ (s : Supply) (o : Offered) (book sample : List ℕ) where
  abbrev q : Asked
  q = asked_on s.switching o

  single-planned : (j : Judged Plan Verdict) → judge_single q book sample ≡ given j → SinglePlanned q book j.plan
  single-planned j e = (single-plan-given q book j.plan).0 ((judge-single-given q book sample j).0 e).0

  pub close-single-refused :
      OnBook book
      (Row 1 (supply_in_range s ≡ false)
      (Then (SinglePlanRows q book) (single_plan q book) (ItemRows o.column sample)))
      (close_single s o book sample)
  unfolding close_single
  close-single-refused =
      closing-on-book s (judge_single q book sample) (single_event s.switching o) book
      (judge-single-refused q book sample)
      (λ j e. lot-moves s o sampled (single_counts s.switching o j) (single-planned j e).lot.severity)

  pub close-single-given : (c : Closed Plan)
      → (close_single s o book sample ≡ given c)
      ↔ Closes s (judge_single q book sample) (single_event s.switching o) c
  unfolding close_single
  close-single-given =
      closing-book-given s (judge_single q book sample) (single_event s.switching o)
      (λ j e. sampled-counts s o (single_counts s.switching o j)) book
      (λ j e. (single-planned j e).book-sound)

  staged-planned : (j : Judged StagedPlan Verdict) → judge_staged q book sample ≡ given j
      → Supplies staged_section (staged_needs) staged_of q book j.plan
  staged-planned j e = (staged-plan-given q book j.plan).0 ((judge-staged-given q book sample j).0 e).0

  pub close-staged-refused :
      OnBook book
      (Row 1 (supply_in_range s ≡ false)
      (Then (StagedPlanRows q book) (staged_plan q book)
      (λ plan. SampleRows (EndsAtStage o.column plan sample) (MeetsInStage o.column plan sample))))
      (close_staged s o book sample)
  unfolding close_staged
  close-staged-refused =
      closing-on-book s (judge_staged q book sample) (staged_event s.switching o) book
      (judge-staged-refused q book sample)
      (λ j e. lot-moves s o sampled (staged_counts s.switching o j) (staged-planned j e).lot.severity)

  pub close-staged-given : (c : Closed StagedPlan)
      → (close_staged s o book sample ≡ given c)
      ↔ Closes s (judge_staged q book sample) (staged_event s.switching o) c
  unfolding close_staged
  close-staged-given =
      closing-book-given s (judge_staged q book sample) (staged_event s.switching o)
      (λ j e. sampled-counts s o (staged_counts s.switching o j)) book
      (λ j e. (staged-planned j e).book-sound)

module _ (s : Supply) (o : Offered) (total : ℕ) where
  abbrev asked : Asked
  asked = asked_on s.switching o

  pub close-total-refused : Reports 1 (Row 1 (supply_in_range s ≡ false) (TotalRows asked total))
      (close_total s o total)
  unfolding close_total
  close-total-refused =
      closing-reports s (judge_total asked total) (single_event s.switching o) (judge-total-refused asked total)
      (λ j e.
      lot-moves s o sampled (single_counts s.switching o j)
      ((judge-total-given asked total j).0 e).planned.lot.severity)

  pub close-total-given : (c : Closed Plan)
      → (close_total s o total ≡ given c) ↔ Closes s (judge_total asked total) (single_event s.switching o) c
  unfolding close_total
  close-total-given =
      closing-given s (judge_total asked total) (single_event s.switching o)
      (λ j e. sampled-counts s o (single_counts s.switching o j))

-- 6. An event, or a history byte: 1 for a record out of range or a byte of no known form, 5 for any lot while stopped,
-- 10 for a corrective order when not stopped.
module _ (s : Supply) where
  pub moved-refused : (e : Event)
      → Reports 1 (Row 1 (supply_in_range s ≡ false) (EventRows s.switching (counts_on s e))) (moved s e)
  moved-refused e =
      check 1 (not (supply_in_range s)) (not-true (supply_in_range s)) (λ e. ap not e) (le_refl 1) (move-refused s e)

  pub moved-given : (e : Event) (t : Supply)
      → (moved s e ≡ given t) ↔ ((supply_in_range s ≡ true) × Took s (counts_on s e) t)
  moved-given e t = (
    λ g.
        let h = (first-given ((not (supply_in_range s) gives unknown_form) ∷ []) _ t).0 g in
        (not-false (supply_in_range s) h.0.0, move-took s e t h.1),
    λ h.
        (first-given ((not (supply_in_range s) gives unknown_form) ∷ []) _ t).1
        ((ap not h.0, tt), took-moves s e t h.1),
  )

  pub next-refused : (w : Work) (byte : ℕ)
      → Reports 1 (Row 1 (supply_in_range s ≡ false) (EventRows s.switching (event_in w byte))) (next w s byte)
  unfolding next
  next-refused w byte = rw (typed-counts s w byte) at (moved-refused (event_in w byte))

  pub next-given : (w : Work) (byte : ℕ) (t : Supply)
      → (next w s byte ≡ given t) ↔ ((supply_in_range s ≡ true) × Took s (event_in w byte) t)
  unfolding next
  next-given w byte t = rw (typed-counts s w byte) at (moved-given (event_in w byte) t)

-- 7. The screen: 7 unless there are 1 to 50 whole readings, 9 for one out of range.
module _ (bytes : List ℕ) where
  pub screen-refused : Reports 7 (ScreenRows bytes) (screen bytes)
  unfolding screen
  screen-refused =
      check 7 (unfit bytes) (λ t n f. false≢true (sym (fits bytes n f.some f.few f.whole) ∙ t))
      (unfit-when bytes (unfit bytes) refl)
      (omega arith)
      (check 9 (not (all_in_gauge (readings_of bytes)))
      (λ t. out-means (readings_of bytes) (not-true (all_in_gauge (readings_of bytes)) t))
      (λ o. ap not (out-when (readings_of bytes) o)) (le_refl 9) nothing-wrong)

  pub screen-given : (s : Shown) → (screen bytes ≡ given s) ↔ Screened bytes s
  unfolding screen
  screen-given s = (
    λ g.
        let h = two.0 g in
        record {
          count = length bytes / 2;
          fits-so = fit-so bytes h.0;
          readings-in = (all-in (readings_of bytes)).0 (not-false (all_in_gauge (readings_of bytes)) h.1);
          shows = h.2;
        },
    λ c.
        let f = c.fits-so in
        let half : length bytes / 2 ≡ c.count = omega (arith, f.whole) in
        two.1 (
          fits bytes c.count f.some f.few f.whole,
          ap not ((all-in (readings_of bytes)).1 c.readings-in),
          ap (λ (n : ℕ). shown_of n (sum_z (readings_of bytes)) (squares_z (readings_of bytes))) half ∙ c.shows,
        ),
  )
    where
      two : (screen bytes ≡ given s)
          ↔ ((unfit bytes ≡ false)
          × (not (all_in_gauge (readings_of bytes)) ≡ false)
          × (shown_of (length bytes / 2) (sum_z (readings_of bytes)) (squares_z (readings_of bytes)) ≡ s))
      two = two-given _ _ 7 9 _ s

-- 8. A sample judged on a plan that is handed over: 4 for a column over 25 where the column says which items are legal.
pub column-reports : {A : Type 0} {more : ℕ → Type 0} {rest : Answer A} (column : ℕ) → Reports 7 more rest
    → Reports 4 (Row 4 (25 < column) more) (cond (ltb 25 column) (refused 4 0) rest)
column-reports column r = check 4 (ltb 25 column) (ltb-true 25 column) (lt-ltb 25 column) (omega arith) r

pub column-given : {A : Type 0} (column : ℕ) (rest : Answer A) (x : A)
    → (cond (ltb 25 column) (refused 4 0) rest ≡ given x) ↔ ((column ≤ 25) × (rest ≡ given x))
column-given column rest x =
    let iff = first-given ((ltb 25 column gives no_such_column) ∷ []) rest x in
    (λ g. (ltb-false 25 column (iff.0 g).0.0, (iff.0 g).1), λ h. iff.1 ((le-ltb 25 column h.0, tt), h.1))

module _ (column : ℕ) (bytes : List ℕ) where
  pub single-sample-refused : (plan : Plan)
      → Reports 4 (Row 4 (25 < column) (ItemRows column bytes plan)) (single_sample column plan bytes)
  unfolding single_sample
  single-sample-refused plan = column-reports column (items-refused column bytes plan)

  pub single-sample-given : (plan : Plan) (v : Verdict)
      → (single_sample column plan bytes ≡ given v) ↔ ((column ≤ 25) × ItemsJudged column bytes plan v)
  unfolding single_sample
  single-sample-given plan v = (
    λ g. let c = (column-given column _ v).0 g in (c.0, (items-given column bytes plan v).0 c.1),
    λ s. (column-given column _ v).1 (s.0, (items-given column bytes plan v).1 s.1),
  )

  pub staged-sample-refused : (plan : StagedPlan)
      → Reports 4
      (Row 4 (25 < column) (SampleRows (EndsAtStage column plan bytes) (MeetsInStage column plan bytes)))
      (staged_sample column plan bytes)
  unfolding staged_sample
  staged-sample-refused plan = column-reports column (stages-report column plan bytes)

  pub staged-sample-given : (plan : StagedPlan) (v : Verdict)
      → (staged_sample column plan bytes ≡ given v) ↔ ((column ≤ 25) × EndsAtStage column plan bytes v)
  unfolding staged_sample
  staged-sample-given plan v = (
    λ g. let c = (column-given column _ v).0 g in (c.0, (stages-decided column plan bytes v).0 c.1),
    λ s. (column-given column _ v).1 (s.0, (stages-decided column plan bytes v).1 s.1),
  )

module _ (bytes : List ℕ) where
  pub sequential-sample-refused : (plan : SequentialPlan)
      → Reports 7 (SampleRows (EndsAtItem plan bytes) (MeetsItem plan bytes)) (judge_sequence plan bytes)
  sequential-sample-refused plan = sequence-reports plan bytes

  pub sequential-sample-given : (plan : SequentialPlan) (v : Verdict)
      → (judge_sequence plan bytes ≡ given v) ↔ EndsAtItem plan bytes v
  sequential-sample-given plan v = sequence-decided plan bytes v

-- 9. The severities of a history: its first bad byte, with its place; then 11 for a buffer shorter than the history.
module _ (w : Work) (h : List ℕ) where
  pub history-refused : (n k : ℕ) → (after_history w h ≡ refused n k) ↔ ((k < length h) × FirstBad w h n k)
  history-refused n k = (
    λ e. first-bad w h (length h) n k e,
    λ b.
        let f = b.1 in
        from-refused w h (fresh w.permission) k f.so_far n f.place b.0 f.good (sym f.bad),
  )

  module _ (room : ℕ) where
    pub listed-given : (m : ℕ)
        → (listed w h room ≡ given m)
        ↔ (((r : Record) × (after_history w h ≡ given r)) × (length h ≤ room) × (length h ≡ m))
    unfolding listed
    listed-given m = (
      λ g.
          let a = then-given (after_history w h) _ m g in
          let f = (first-given ((ltb room (length h) gives buffer_short) ∷ []) _ m).0 a.2 in
          ((a.0, a.1), ltb-false room (length h) f.0.0, given-one f.1),
      λ p. rw (p.0.1, le-ltb room (length h) p.1) (ap given p.2),
    )

    pub listed-refused : (n k : ℕ)
        → (listed w h room ≡ refused n k)
        ↔ ((after_history w h ≡ refused n k)
        ⊎ (((r : Record) × (after_history w h ≡ given r)) × (room < length h) × (n ≡ 11) × (k ≡ 0)))
    unfolding listed
    listed-refused n k = (λ e. so (after_history w h) refl e, back)
      where
        so : (a : Answer Record) → after_history w h ≡ a
            → and_then a (λ r. first_of ((ltb room (length h) gives buffer_short) ∷ []) (given (length h)))
            ≡ refused n k
            → (after_history w h ≡ refused n k)
            ⊎ (((r : Record) × (after_history w h ≡ given r)) × (room < length h) × (n ≡ 11) × (k ≡ 0))
        so (refused i p) q e =
            inl (q ∙ ap (λ (j : ℕ). refused j p) (refused-number e) ∙ ap (refused n) (refused-place e))
        so (given r) q e =
            by-le (length h) room
            (λ l. absurd (refused-given {a = length h} (sym e ∙ rw (le-ltb room (length h) l))))
            (λ l.
            let f : refused 11 0 ≡ refused n k = sym (rw (lt-ltb room (length h) l)) ∙ e in
            inr ((r, q), l, sym (refused-number f), sym (refused-place f)))

        back : (after_history w h ≡ refused n k)
            ⊎ (((r : Record) × (after_history w h ≡ given r)) × (room < length h) × (n ≡ 11) × (k ≡ 0))
            → listed w h room ≡ refused n k
        back (inl e) = rw e
        back (inr e) = rw (e.0.1, lt-ltb room (length h) e.1, e.2, e.3)

  -- What the lent buffer then holds: given, the severity after each byte, and the rest as it was.
  module _ (out : List ℕ) where
    pub listed-buffer : (m : ℕ) → listed w h (length out) ≡ given m
        → BufferListed w h out (left_in (listed w h (length out)) w h out)
    listed-buffer m g =
        let p = (listed-given (length out) m).0 g in
        subst (λ (a : Answer ℕ). BufferListed w h out (left_in a w h out)) (ap given p.2 ∙ sym g)
        record {
          same-length = filled-length _ out (length h);
          severities = λ k l. filled-at _ out (length h) k p.1 l;
          rest = λ k l. filled-past _ out (length h) k l;
        }

    -- "A refusal .. writes nothing"
    pub refused-buffer : (n k : ℕ) → listed w h (length out) ≡ refused n k
        → left_in (listed w h (length out)) w h out ≡ out
    refused-buffer n k e = rw e
