-- What the terminal hands over fits its numbers: a refusal's place is at most 32,768, the items or readings used are at
-- most 14,000, and what is written to a lent record has ten bytes.
-- Assumes nothing.
use Prim.Native.Nat.{ℕ, zero, suc, ◌+◌, ◌*◌, ◌≤◌}
use mathlib.Core.Path.{◌≡◌, refl, sym, ap, ◌∙◌}
use Rattle.std.specs.Prelude.{Result, Ok, Err}
use mathlib.Core.Bool.{Bool, true, false, cond}
use mathlib.Core.List.{List}
use lib.IntN.{ℤ}
use native.Mathlib.Omega.{arith}
use borrow.Author.Tests.{ltb-false}
use lib.Dec.{ltb}
use lib.ListN.{length, get_or}
use Rattle.rules.specs.Refusals.{Answer, refused, given, and_then}
use Rattle.rules.specs.Numbers.{numbers_of}
use Rattle.rules.specs.Verdict.{Verdict, Judged}
use Rattle.rules.specs.Single.{Plan}
use Rattle.rules.specs.Staged.{StagedPlan, total_size, stages_from}
use Rattle.rules.specs.Sequential.{SequentialPlan}
use Rattle.rules.specs.Variables.{VariablesPlan}
use Rattle.rules.specs.Limits.{Spread, Limits, SidesPlan}
use Rattle.rules.specs.Book.{Walk, ends, broken, short, sound, broken_at, Checked, checked_as, check_book, all_sections}
use Rattle.rules.specs.Entries.{Asked, judge_single, judge_staged, judge_sequential, judge_limit, judge_sides, Closed}
use Rattle.rules.specs.Entries.{Offered, asked_on, close_single, close_staged, judge_fractional, close_fractional}
use Rattle.rules.specs.Entries.{single_plan, fractional_plan, staged_plan, sequential_plan, variables_plan, lettered}
use Rattle.rules.specs.Entries.{judge_curtailed, close_curtailed, next}
use Rattle.rules.specs.Writing.{count_entries, read_entry}
use Rattle.rules.specs.History.{ours}
use Rattle.rules.specs.Fractional.{FractionalPlan}
use Rattle.rules.specs.Supply.{Supply, supply_in_range}
use Rattle.rules.specs.Terminal.{record_bytes, supply_in}
use Rattle.rules.specs.PlanRules.{StagedRight, SequentialRight}
use Rattle.rules.specs.Reporting.{Reports, OnBook}
use Rattle.rules.specs.Judging.{EndsAtStage}
use Rattle.refusals.specs.declared.Refusal.{Refusal}
use Rattle.refusals.specs.Paper.{answer_by, itself}
use Rattle.plans.specs.declared.Judged as code
use Rattle.plans.specs.Paper.{plan_paper, fractional_paper, judged_by}
use Rattle.entry.specs.Paper.{staged_paper, sequential_paper, variables_paper, sides_paper}
use Rattle.closing.specs.declared.Closed as lots
use Rattle.closing.specs.Paper.{closed_by}
use Rattle.terminal.specs.Lent.{book_checked, VerdictFits, ClosedFits}
use Rattle.rules.proofs.Numbers.{numbers-low}
use Rattle.rules.proofs.Walks.{place}
use Rattle.rules.proofs.Steps.{place-all}
use Rattle.rules.proofs.Refusals.{nothing-wrong, refused-place}
use Rattle.rules.proofs.EntryLaws.{on-book}
use Rattle.rules.proofs.Deciding.{never-past}
use Rattle.rules.proofs.LookUp.{broken-unsound}
use Rattle.rules.proofs.HeldPlans.{sized}
use Rattle.rules.proofs.GivenPlans.{single-given, fractional-given, staged-given, sequential-given, readings-given}
use Rattle.rules.proofs.GivenPlans.{sides-given}
use Rattle.rules.proofs.Demands.Two as two
use Rattle.rules.proofs.Demands.Curtailed as curtailed
use Rattle.rules.proofs.Demands.Fractional as fractions
use Rattle.rules.proofs.Demands.Limits as limits
use Rattle.rules.proofs.Demands.Writing as demand
use Rattle.terminal.proofs.Lending.{in-range-length}
pub use Rattle.terminal.proofs.Bookwork.{refused-whole, position-fits, length-fits}

-- a broken book's byte is within the largest book
byte-of : {b c : ℕ} → broken_at b ≡ broken_at c → b ≡ c
byte-of e = cc

walk-byte : (len : ℕ) (w : Walk) (b : ℕ) → 2 * place w ≤ len → checked_as len w ≡ broken_at b → b ≤ len
unfolding place checked_as
walk-byte len (ends p) b h e = go (ltb (2 * p) len) e
  where
    go : (t : Bool) → cond t (broken_at (2 * p)) sound ≡ broken_at b → b ≤ len
    go true f = rw (← byte-of f) h
    go false f = broken-unsound (sym f)
walk-byte len (broken p) b h e = rw (← byte-of e) h
walk-byte len short b h e = rw (← byte-of e) (omega arith)

byte-fits : (book : List ℕ) (b : ℕ) → check_book book ≡ broken_at b → b ≤ 32768
unfolding check_book
byte-fits book b e = go (ltb 32768 (length book)) refl e
  where
    walk : Walk
    walk = all_sections (length book) (numbers_of book)

    go : (t : Bool) → ltb 32768 (length book) ≡ t
        → cond t (broken_at 32768) (checked_as (length book) walk) ≡ broken_at b → b ≤ 32768
    go true l f = rw (← byte-of f) (omega arith)
    go false l f =
        let n : 2 * place walk ≤ length book =
        omega (arith, place-all (length book) (numbers_of book), numbers-low book) in
        omega (arith, ltb-false 32768 (length book) l, walk-byte (length book) walk b n f)

-- The place of a refusal, of an entry that reports the lowest number, and of one that takes a book.
pub place-fits : {A : Type 0} {low : ℕ} {Wrong : ℕ → Type 0} {a : Answer A} → Reports low Wrong a → {n p : ℕ}
    → refused n p ≡ a → p ≤ 32768
place-fits r {n} {p} e = omega (arith, (r.if-refused n p (sym e)).0)

pub book-place-fits : {A : Type 0} {Wrong : ℕ → Type 0} {a : Answer A} (book : List ℕ) → OnBook book Wrong a
    → {n p : ℕ} → refused n p ≡ a → p ≤ 32768
book-place-fits {a = a} book r {n} {p} e = go (check_book book) refl
  where
    go : (c : Checked) → check_book book ≡ c → p ≤ 32768
    go sound f = place-fits (r.else f) e
    go (broken_at b) f = rw (refused-place (e ∙ r.broken b f)) (byte-fits book b f)

-- of a book that is checked, of the plan of a lot, and of a book's entries
module _ (book : List ℕ) {n p : ℕ} where
  pub check-place : refused n p ≡ book_checked book → p ≤ 32768
  check-place = book-place-fits book (on-book book nothing-wrong)

  module _ (q : Asked) where
    pub single-place : refused n p ≡ single_plan q book → p ≤ 32768
    single-place = book-place-fits book (two.single-plan-refused q book)

    pub fractional-place : refused n p ≡ fractional_plan q book → p ≤ 32768
    fractional-place = book-place-fits book (fractions.fractional-plan-refused q book)

    pub staged-place : refused n p ≡ lettered q (staged_plan q book) → p ≤ 32768
    staged-place = book-place-fits book (two.staged-lettered-refused q book)

    pub sequential-place : refused n p ≡ lettered q (sequential_plan q book) → p ≤ 32768
    sequential-place = book-place-fits book (two.sequential-lettered-refused q book)

    pub variables-place : refused n p ≡ lettered q (variables_plan q book) → p ≤ 32768
    variables-place = book-place-fits book (two.variables-lettered-refused q book)

  pub count-place : (section : ℕ) → refused n p ≡ count_entries book section → p ≤ 32768
  count-place section = book-place-fits book (demand.count-refused book section)

  pub entry-place : (section nth room : ℕ)
      → refused n p ≡ and_then (read_entry book section nth room) (λ x. given (length x)) → p ≤ 32768
  entry-place section nth room e =
      book-place-fits book (demand.entry-refused book section nth room)
      (refused-whole (read_entry book section nth room) e)

-- of a history byte, which is given on a record of the right length only
module _ (bytes : List ℕ) (byte : ℕ) where
  pub next-place : {n p : ℕ} → refused n p ≡ next ours (supply_in bytes) byte → p ≤ 32768
  next-place = place-fits (two.next-refused (supply_in bytes) ours byte)

  pub next-length : {t : Supply} → given t ≡ next ours (supply_in bytes) byte → length bytes ≡ record_bytes
  next-length {t} e = in-range-length bytes ((two.next-given (supply_in bytes) ours byte t).0 (sym e)).0

-- A verdict that a sample on a book's plan gives, if its items fit.
verdict-fits : {P A : Type 0} {Wrong : ℕ → Type 0} {a : Answer (Judged A Verdict)} (paper : P → A) (book : List ℕ)
    → OnBook book Wrong a → ((j : Judged A Verdict) → a ≡ given j → j.verdict.used ≤ 14000)
    → (r : Result (code.Judged P) Refusal) → answer_by (judged_by paper) r ≡ a
    → VerdictFits (answer_by (judged_by itself) r)
verdict-fits paper book on few (Ok j) e = few _ (sym e)
verdict-fits paper book on few (Err r) e = book-place-fits book on e

-- The items used: the plan's n or fewer.
module _ (q : Asked) (book sample : List ℕ) where
  single-used : (j : Judged Plan Verdict) → judge_single q book sample ≡ given j → j.verdict.used ≤ 14000
  single-used j e =
      let g = (two.judge-single-given q book sample j).0 e in
      let u : j.plan.n ≡ j.verdict.used = ap (λ (v : Verdict). v.used) g.1.verdict in
      omega (arith, (sized j.plan (single-given q book j.plan g.0)).1)

  pub single-fits : (r : _) → answer_by (judged_by plan_paper) r ≡ judge_single q book sample
      → VerdictFits (answer_by (judged_by itself) r)
  single-fits = verdict-fits plan_paper book (two.judge-single-refused q book sample) single-used

  -- of a curtailed sample, the items read
  curtailed-used : (j : Judged Plan Verdict) → judge_curtailed q book sample ≡ given j → j.verdict.used ≤ 14000
  curtailed-used j e =
      let g = (curtailed.judge-curtailed-given q book sample j).0 e in
      let u : length (numbers_of sample) ≡ j.verdict.used = ap (λ (v : Verdict). v.used) g.1.verdict in
      let plain = ((curtailed.curtailed-plan-given q book j.plan).0 g.0).planned.not-reduced in
      let p : single_plan q book ≡ given j.plan = sym (curtailed.curtailed-as-single q book plain) ∙ g.0 in
      omega (arith, g.1.stops.within, (sized j.plan (single-given q book j.plan p)).1)

  pub curtailed-fits : (r : _) → answer_by (judged_by plan_paper) r ≡ judge_curtailed q book sample
      → VerdictFits (answer_by (judged_by itself) r)
  curtailed-fits = verdict-fits plan_paper book (curtailed.judge-curtailed-refused q book sample) curtailed-used

  -- the first k stages from the i-th have 2,000 items each or fewer
  stages-size : (p : StagedPlan) → StagedRight p → (k i : ℕ) → i + k ≤ p.stages
      → total_size (stages_from k i p) ≤ 2000 * k
  unfolding total_size stages_from
  stages-size p r zero i h = omega arith
  stages-size p r (suc k) i h =
      let a : get_or p.sizes i 0 ≤ 2000 = (r.size i (omega arith)).1 in
      omega (arith, stages-size p r k (suc i) (omega arith))

  staged-used : (j : Judged StagedPlan Verdict) → judge_staged q book sample ≡ given j → j.verdict.used ≤ 14000
  staged-used j e =
      let g = (two.judge-staged-given q book sample j).0 e in
      let s : EndsAtStage q.column j.plan sample j.verdict = g.1 in
      let u : length (numbers_of sample) ≡ j.verdict.used = ap (λ (v : Verdict). v.used) s.verdict in
      let r : StagedRight j.plan = staged-given q book j.plan g.0 in
      let t = stages-size j.plan r (suc s.done) 0 (omega (arith, s.among)) in
      omega (arith, s.ends, s.among, r.few.1, t)

  pub staged-fits : (r : _) → answer_by (judged_by staged_paper) r ≡ judge_staged q book sample
      → VerdictFits (answer_by (judged_by itself) r)
  staged-fits = verdict-fits staged_paper book (two.judge-staged-refused q book sample) staged-used

  sequential-used : (j : Judged SequentialPlan Verdict) → judge_sequential q book sample ≡ given j
      → j.verdict.used ≤ 14000
  sequential-used j e =
      let g = (two.judge-sequential-given q book sample j).0 e in
      let r : SequentialRight j.plan = sequential-given q book j.plan g.0 in
      omega (arith, never-past j.plan r.nt.0 sample j.verdict g.1, r.nt.1)

  pub sequential-fits : (r : _) → answer_by (judged_by sequential_paper) r ≡ judge_sequential q book sample
      → VerdictFits (answer_by (judged_by itself) r)
  sequential-fits = verdict-fits sequential_paper book (two.judge-sequential-refused q book sample) sequential-used

  module _ (m : Spread) (upper : Bool) (limit : ℤ) where
    limit-used : (j : Judged VariablesPlan Verdict) → judge_limit m upper q book limit sample ≡ given j
        → j.verdict.used ≤ 14000
    limit-used j e =
        let g = (limits.judge-limit-given m q book sample upper limit j).0 e in
        let u : j.plan.n ≡ j.verdict.used = ap (λ (v : Verdict). v.used) g.1.verdict in
        omega (arith, (readings-given q book m j.plan g.0).fifty)

    pub limit-fits : (r : _) → answer_by (judged_by variables_paper) r ≡ judge_limit m upper q book limit sample
        → VerdictFits (answer_by (judged_by itself) r)
    limit-fits = verdict-fits variables_paper book (limits.judge-limit-refused m q book sample upper limit) limit-used

  module _ (m : Spread) (l : Limits) (lower : ℕ) where
    sides-used : (j : Judged SidesPlan Verdict) → judge_sides m l q lower book sample ≡ given j
        → j.verdict.used ≤ 14000
    sides-used j e =
        let g = (limits.judge-sides-given m q book sample l lower j).0 e in
        let u : j.plan.n ≡ j.verdict.used = ap (λ (v : Verdict). v.used) g.1.verdict in
        omega (arith, (sides-given q book m lower j.plan g.0 true).fifty)

    pub sides-fits : (r : _) → answer_by (judged_by sides_paper) r ≡ judge_sides m l q lower book sample
        → VerdictFits (answer_by (judged_by itself) r)
    sides-fits = verdict-fits sides_paper book (limits.judge-sides-refused m q book sample l lower) sides-used

-- the same in the mode of fractions
module _ (s : Supply) (o : Offered) (book sample : List ℕ) where
  fractional-used : (j : Judged FractionalPlan Verdict) → judge_fractional s o book sample ≡ given j
      → j.verdict.used ≤ 14000
  fractional-used j e =
      let g = (fractions.judge-fractional-given s o book sample j).0 e in
      let u : j.plan.plan.n ≡ j.verdict.used = ap (λ (v : Verdict). v.used) g.2.verdict in
      omega (
        arith,
        (sized j.plan.plan (fractional-given (asked_on s.switching o) book j.plan g.1)).1,
      )

  pub fractional-fits : (r : _) → answer_by (judged_by fractional_paper) r ≡ judge_fractional s o book sample
      → VerdictFits (answer_by (judged_by itself) r)
  fractional-fits =
      verdict-fits fractional_paper book (fractions.judge-fractional-refused s o book sample) fractional-used

-- A lot that is closed has a record in range, and so of ten bytes, and is judged as it is judged alone.
closed-fits : {P A : Type 0} {Wrong : ℕ → Type 0} {a : Answer (Closed A)} (paper : P → A) (bytes book : List ℕ)
    → OnBook book Wrong a
    → ((c : Closed A) → a ≡ given c → (supply_in_range (supply_in bytes) ≡ true) × (c.judged.verdict.used ≤ 14000))
    → (r : Result (lots.Closed P) Refusal) → answer_by (closed_by paper) r ≡ a
    → ClosedFits (answer_by (closed_by itself) r) bytes
closed-fits paper bytes book on few (Ok c) e = let f = few _ (sym e) in (f.1, in-range-length bytes f.0)
closed-fits paper bytes book on few (Err r) e = book-place-fits book on e

module _ (bytes : List ℕ) (o : Offered) (book sample : List ℕ) where
  pub single-closes : (r : _)
      → answer_by (closed_by plan_paper) r ≡ close_single (supply_in bytes) o book sample
      → ClosedFits (answer_by (closed_by itself) r) bytes
  single-closes =
      closed-fits plan_paper bytes book (two.close-single-refused (supply_in bytes) o book sample)
      (λ c e.
      let k = (two.close-single-given (supply_in bytes) o book sample c).0 e in
      (k.in-range, single-used (asked_on (supply_in bytes).switching o) book sample c.judged k.as-judged))

  pub curtailed-closes : (r : _)
      → answer_by (closed_by plan_paper) r ≡ close_curtailed (supply_in bytes) o book sample
      → ClosedFits (answer_by (closed_by itself) r) bytes
  curtailed-closes =
      closed-fits plan_paper bytes book (curtailed.close-curtailed-refused (supply_in bytes) o book sample)
      (λ c e.
      let k = (curtailed.close-curtailed-given (supply_in bytes) o book sample c).0 e in
      (k.in-range, curtailed-used (asked_on (supply_in bytes).switching o) book sample c.judged k.as-judged))

  pub staged-closes : (r : _)
      → answer_by (closed_by staged_paper) r ≡ close_staged (supply_in bytes) o book sample
      → ClosedFits (answer_by (closed_by itself) r) bytes
  staged-closes =
      closed-fits staged_paper bytes book (two.close-staged-refused (supply_in bytes) o book sample)
      (λ c e.
      let k = (two.close-staged-given (supply_in bytes) o book sample c).0 e in
      (k.in-range, staged-used (asked_on (supply_in bytes).switching o) book sample c.judged k.as-judged))

  pub fractional-closes : (r : _)
      → answer_by (closed_by fractional_paper) r ≡ close_fractional (supply_in bytes) o book sample
      → ClosedFits (answer_by (closed_by itself) r) bytes
  fractional-closes =
      closed-fits fractional_paper bytes book (fractions.close-fractional-refused (supply_in bytes) o book sample)
      (λ c e.
      let k = (fractions.close-fractional-given (supply_in bytes) o book sample c).0 e in
      (k.in-range, fractional-used (supply_in bytes) o book sample c.judged k.as-judged))

-- what the check of each call is to try
pub ruleset fits = (
  check-place,
  single-place,
  fractional-place,
  staged-place,
  sequential-place,
  variables-place,
  count-place,
  entry-place,
  next-place,
  next-length,
  position-fits,
  length-fits,
  single-fits,
  curtailed-fits,
  staged-fits,
  sequential-fits,
  limit-fits,
  sides-fits,
  fractional-fits,
  single-closes,
  curtailed-closes,
  staged-closes,
  fractional-closes,
)
