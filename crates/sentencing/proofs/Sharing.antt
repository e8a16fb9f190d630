-- The mode of fractional acceptance numbers, by what planning, judging and closing promise: one law for each return.
-- Assumes nothing.
use Prim.Native.Nat.{ℕ, min, ◌<◌}
use mathlib.Core.Path.{◌≡◌, refl, sym, ap, ◌∙◌}
use mathlib.Core.Bool.{Bool}
use mathlib.Core.List.{List}
use borrow.Author.Tests.{ne_eqb}
use Rattle.std.specs.Prelude.{Result, Ok, Err}
use Rattle.refusals.specs.declared.Reason.{Reason}
use Rattle.refusals.specs.declared.Refusal.{Refusal}
use Rattle.refusals.specs.Paper.{number_of, answer_by, reason_by, itself}
use Rattle.rules.specs.Refusals.{Answer, refused, given, and_then}
use Rattle.rules.specs.Verdict as paper
use Rattle.rules.specs.Verdict.{Judged}
use Rattle.rules.specs.Single.{Plan, judge_items}
use Rattle.rules.specs.Severity.{Origin, sampled, on_fraction, Event}
use Rattle.rules.specs.Fractional.{FractionalPlan, plan_of_share, fraction_accepts, verdict_by_share, judge_by_share}
use Rattle.rules.specs.Supply.{Supply, run_on}
use Rattle.rules.specs.Book.{Checked, sound, broken_at, check_book, on_sound}
use Rattle.rules.specs.Entries.{Asked, single_plan, plain_plan, curtailed_plan, single_sample, in_fractions}
use Rattle.rules.specs.Entries.{fractional_plan, Offered, asked_on, event_for, single_counts, judged_on, on_supply}
use Rattle.rules.specs.Entries.{closed_with, Closed, judge_fractional, as_single, origin_of, fractional_event}
use Rattle.rules.specs.Entries.{close_fractional}
use Rattle.rules.specs.Planning.{on_plan}
use Rattle.rules.proofs.EntryLaws.{broken-first, sound-first}
use Rattle.rules.proofs.Fractions.{judged-exactly, reduced-plan}
use Rattle.rules.proofs.Demands.Curtailed.{curtailed-as-single}
use Rattle.rules.proofs.Demands.Fractional.{fractional-plan-given}
use Rattle.plans.specs.declared.SinglePlan.{SinglePlan}
use Rattle.plans.specs.declared.FractionalPlan as plans
use Rattle.plans.specs.declared.Verdict.{Verdict}
use Rattle.plans.specs.declared.Judged as judges
use Rattle.plans.specs.Paper.{plan_paper, fractional_paper, verdict_paper, judged_by}
use Rattle.closing.specs.declared.Closed as closes
use Rattle.closing.specs.Paper.{entered, closed_by}
use Rattle.closing.proofs.Closing.{taken-given}
use Rattle.sentencing.specs.Paper.{on_record}
use Rattle.sentencing.proofs.Records.{out-of-range, recorded, fractional-checked}
use Rattle.sentencing.proofs.Verdicts.{unplanned, items-in-column}

-- A plan with a whole Ac.
module _ (r : Result SinglePlan Refusal) where
  abbrev pub Whole : Answer FractionalPlan
  Whole = and_then (answer_by plan_paper r) (λ p. given (plan_of_share p 0))

  pub whole-refused : (x : Answer FractionalPlan) (e : Refusal) → r ≡ Err e → x ≡ refused (number_of e.reason) e.place
      → x ≡ Whole
  whole-refused x e is h = rw is h

  pub whole-given : (p : SinglePlan) → r ≡ Ok p → given (plan_of_share (plan_paper p) 0) ≡ Whole
  whole-given p is = rw is

-- The plan of a lot that is not under reduced inspection: 12 first, then that of a bench without a book.
pub from-tables : (q : Asked) (book : List ℕ) → (q.severity ≡ 2 → ⊥)
    → on_sound (check_book book) (and_then (plain_plan q) (in_fractions q)) ≡ fractional_plan q book
unfolding fractional_plan curtailed_plan
from-tables q book other =
    onward (check_book book) ∙ ap (λ (a : Answer Plan). and_then a (in_fractions q)) (curtailed-as-single q book other)
  where
    onward : (c : Checked)
        → on_sound c (and_then (plain_plan q) (in_fractions q)) ≡ and_then (on_sound c (plain_plan q)) (in_fractions q)
    onward sound = refl
    onward (broken_at byte) = refl

-- The plan of a lot: under reduced inspection as ever, else from the tables.
module _ (q : Asked) (book : List ℕ) (x : Answer FractionalPlan) where
  abbrev IsPlan : Type 0
  IsPlan = x ≡ fractional_plan q book

  pub plan-reduced : (r : Result SinglePlan Refusal) → q.severity ≡ 2 → answer_by plan_paper r ≡ single_plan q book
      → x ≡ Whole r → IsPlan
  plan-reduced r s e z = rw (reduced-plan q book s, ← e) z

  module _ (other : q.severity ≡ 2 → ⊥) (b : Result (Unit {0}) Refusal)
      (h : answer_by itself b ≡ on_sound (check_book book) (given tt)) where
    pub plan-broken : (e : Refusal) → b ≡ Err e → x ≡ refused (number_of e.reason) e.place → IsPlan
    plan-broken e is z = z ∙ broken-first (check_book book) _ _ _ (rw is at h) ∙ from-tables q book other

    pub plan-sound : b ≡ Ok tt → x ≡ and_then (plain_plan q) (in_fractions q) → IsPlan
    plan-sound is z = z ∙ sound-first (check_book book) _ (rw is at h) ∙ from-tables q book other

-- A verdict by its share.
module _ (share before : ℕ) (a : Result Verdict Reason) where
  abbrev pub Shared : Answer paper.Verdict
  Shared = and_then (reason_by verdict_paper a) (λ v. given (verdict_by_share share before v))

  pub shared-whole : share ≡ 0 → reason_by verdict_paper a ≡ Shared
  shared-whole z = rw z (on (reason_by verdict_paper a))
    where
      on : (x : Answer paper.Verdict) → x ≡ and_then x (λ v. given v)
      on (refused n p) = refl
      on (given v) = refl

  pub shared-refused : (e : Reason) → a ≡ Err e → refused (number_of e) 0 ≡ Shared
  shared-refused e is = rw is

  pub shared-given : (v : Verdict) (t : Bool) → (share ≡ 0 → ⊥) → a ≡ Ok v
      → t ≡ fraction_accepts share before v.total
      → given
      (record { accepted = t; used = v.used; total = v.total; stage = v.stage; stages = v.stages })
      ≡ Shared
  shared-given v t some is h = rw (is, ne_eqb share 0 some, h)

-- a verdict by its share, with its plan
shared-on : (a : Answer paper.Verdict) (p : FractionalPlan) (before : ℕ)
    → and_then {B = Judged FractionalPlan paper.Verdict} a
    (λ v. given (record { plan = p; verdict = verdict_by_share p.share before v }))
    ≡ and_then (and_then a (λ v. given (verdict_by_share p.share before v)))
    (λ v. given (record { plan = p; verdict = v }))
shared-on (refused n k) p before = refl
shared-on (given v) p before = refl

-- A lot judged on a record in range: as its plan is refused, and a sample by the record's clean run.
module _ (s : Supply) (o : Offered) (book sample : List ℕ) (range : given tt ≡ on_record s book) (q : Asked)
    (is : q ≡ asked_on s.switching o) where
  own : Answer FractionalPlan
  own = fractional_plan (asked_on s.switching o) book

  pub fractional-unplanned : (n p : ℕ) → refused n p ≡ fractional_plan q book
      → refused n p ≡ judge_fractional s o book sample
  unfolding judge_fractional own
  fractional-unplanned n p e =
      unplanned own (on_plan s o sample) n p (rw is at e)
      ∙ recorded s book _ range (fractional-checked (asked_on s.switching o) book _)

  pub by-share : (p : FractionalPlan) → given p ≡ fractional_plan q book → (a : Answer paper.Verdict)
      → a ≡ single_sample o.column p.plan sample → (before : ℕ) → before ≡ run_on s.clean p.plan.letter o.column
      → and_then a (λ v. given (record { plan = p; verdict = verdict_by_share p.share before v }))
      ≡ judge_fractional s o book sample
  unfolding judge_fractional judge_by_share own
  by-share p g a e before run =
      let h : given p ≡ own = rw is at g in
      let lot = ((fractional-plan-given (asked_on s.switching o) book p).0 (sym h)).lot in
      let told : and_then {B = Judged FractionalPlan paper.Verdict} a
      (λ v. given (record { plan = p; verdict = verdict_by_share p.share before v }))
      ≡ and_then own (judged_on (on_plan s o sample)) =
      rw (← h, e ∙ items-in-column o.column p.plan sample lot.column, run)
      (shared-on (judge_items o.column p.plan sample) p (run_on s.clean p.plan.letter o.column)) in
      told ∙ recorded s book _ range (fractional-checked (asked_on s.switching o) book _)

-- A lot judged, by its record.
module _ (s : Supply) (o : Offered) (book sample : List ℕ) (record_of : Result (Unit {0}) Refusal)
    (range : answer_by itself record_of ≡ on_record s book) (x : Answer (Judged FractionalPlan paper.Verdict)) where
  abbrev IsJudged : Type 0
  IsJudged = x ≡ judge_fractional s o book sample

  pub unjudged : (e : Refusal) → record_of ≡ Err e → x ≡ refused (number_of e.reason) e.place → IsJudged
  unfolding judge_fractional
  unjudged e out z = z ∙ out-of-range s book _ _ _ (rw out at range)

  module _ (within : record_of ≡ Ok tt) (q : Asked) (asked : q ≡ asked_on s.switching o)
      (planned : Result plans.FractionalPlan Refusal)
      (plan : answer_by fractional_paper planned ≡ fractional_plan q book) where
    pub judged-unplanned : (e : Refusal) → planned ≡ Err e → x ≡ refused (number_of e.reason) e.place → IsJudged
    judged-unplanned e is z =
        z ∙ fractional-unplanned s o book sample (rw within at range) q asked _ _ (rw is at plan)

    pub judged-by-share : (p : plans.FractionalPlan) (before : ℕ) (a b : Result Verdict Reason) → planned ≡ Ok p
        → before ≡ run_on s.clean p.plan.letter o.column
        → reason_by verdict_paper a ≡ single_sample o.column (plan_paper p.plan) sample
        → reason_by verdict_paper b ≡ Shared p.share before a
        → x ≡ and_then (reason_by verdict_paper b) (λ v. given (record { plan = fractional_paper p; verdict = v }))
        → IsJudged
    judged-by-share p before a b is run items by z =
        z
        ∙ ap
        (λ (y : Answer paper.Verdict).
        and_then {B = Judged FractionalPlan paper.Verdict} y
        (λ v. given (record { plan = fractional_paper p; verdict = v }))) by
        ∙ sym (shared-on (reason_by verdict_paper a) (fractional_paper p) before)
        ∙ by-share s o book sample (rw within at range) q asked (fractional_paper p) (rw is at plan) _ items before run

-- How a judged lot enters.
module _ (o : Offered) (p : FractionalPlan) (v : paper.Verdict) where
  abbrev pub From : Origin
  From = origin_of o (record { plan = p; verdict = v })

  pub from-whole : p.share ≡ 0 → sampled ≡ From
  from-whole z = rw z

  pub from-fraction : (total : ℕ) → (p.share ≡ 0 → ⊥) → total ≡ min 2 v.total
      → on_fraction p.plan.letter o.column total ≡ From
  from-fraction total some h = rw (ne_eqb p.share 0 some, h)

-- A lot closed: one that is judged has its record in range, and a column that stands.
module _ (s : Supply) (o : Offered) (book sample : List ℕ) where
  pub column-stands : (j : Judged FractionalPlan paper.Verdict) → given j ≡ judge_fractional s o book sample
      → o.column < 26
  column-stands j e =
      let g = (judged-exactly s o book sample j).0 (sym e) in
      ((fractional-plan-given (asked_on s.switching o) book j.plan).0 g.2).lot.column

  pub closed-by-share : (x : Answer (Judged FractionalPlan paper.Verdict)) → x ≡ judge_fractional s o book sample
      → and_then x (λ j. on_supply s (closed_with s (fractional_event s.switching o) j))
      ≡ close_fractional s o book sample
  unfolding close_fractional
  closed-by-share (refused n p) e = rw (← e)
  closed-by-share (given j) e = rw (← e, ((judged-exactly s o book sample j).0 (sym e)).1)

  module _ (judged : Result (judges.Judged plans.FractionalPlan) Refusal)
      (h : answer_by (judged_by fractional_paper) judged ≡ judge_fractional s o book sample)
      (x : Answer (Closed FractionalPlan)) where
    abbrev IsClosed : Type 0
    IsClosed = x ≡ close_fractional s o book sample

    pub unclosed : (e : Refusal) → judged ≡ Err e → x ≡ refused (number_of e.reason) e.place → IsClosed
    unclosed e is z = z ∙ closed-by-share (refused (number_of e.reason) e.place) (rw is at h)

    pub closed : (j : judges.Judged plans.FractionalPlan) (from : Origin) (e : Event)
        (a : Result (closes.Closed plans.FractionalPlan) Refusal) → judged ≡ Ok j
        → from ≡ From o (fractional_paper j.plan) (verdict_paper j.verdict)
        → e ≡ event_for o from (single_counts s.switching o (as_single (judged_by fractional_paper j)))
        → answer_by (closed_by itself) a ≡ on_supply s (entered s e (judged_by itself j))
        → x ≡ answer_by (closed_by fractional_paper) a → IsClosed
    closed j from e a is origin event enters z =
        z
        ∙ taken-given fractional_paper s (fractional_event s.switching o) judged a j e is (rw origin at event) enters
        ∙ closed-by-share _ h
