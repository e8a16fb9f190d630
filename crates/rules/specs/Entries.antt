-- Each public entry: the order of its refusals and its answer. Definitions only.
use Rattle.std.specs.Prelude.{ℕ, min, max, Bool, true, false, cond, ◌&&◌, not, List, [], ◌∷◌, ◌++◌, ltb, eqb, ℤ}
use Rattle.rules.specs.Refusals.{Answer, refused, given, Check, ◌gives◌, first_of, and_then, unknown_form}
use Rattle.rules.specs.Refusals.{no_such_column, while_stopped, no_plan, illegal_item}
use Rattle.rules.specs.Codes.{reduced, stopped, counts_items, lot_checks, letter_of}
use Rattle.rules.specs.Verdict.{Verdict, Judged}
use Rattle.rules.specs.Single.{Plan, cut_plan, table_plan, tighter_ac, single_verdict, judge_items}
use Rattle.rules.specs.Curtailed.{judge_until_lost}
use Rattle.rules.specs.Staged.{StagedPlan, stages_of, total_size, judge_stages}
use Rattle.rules.specs.Sequential.{SequentialPlan, judge_sequence}
use Rattle.rules.specs.Variables.{VariablesPlan}
use Rattle.rules.specs.Limits.{Spread, estimated, known, Limits, one, SidesPlan, sides_of, side_of, judge_readings}
use Rattle.rules.specs.Severity.{Lot, Origin, sampled, on_fraction, Event, lot, resubmitted, Record, counted}
use Rattle.rules.specs.Severity.{single_points, staged_points}
use Rattle.rules.specs.Fractional.{FractionalPlan, plan_of_share, own_plan, share_at, judge_by_share}
use Rattle.rules.specs.Supply.{Supply, run_on, move, supply_in_range}
use Rattle.rules.specs.History.{Work, event_in}
use Rattle.rules.specs.Book.{Kind, variables, could_hold, Found, found}
use Rattle.rules.specs.Book.{nothing, look_up, check_book, on_sound, reduced_of, staged_of, sequential_of}
use Rattle.rules.specs.Book.{variables_of}
use Rattle.rules.specs.Numbers.{numbers_of}

-- A sample judged on a plan that is handed over. Every plan of these kinds has a verdict or a refusal of its own.
unfoldable pub single_sample : ℕ → Plan → List ℕ → Answer Verdict
single_sample column plan bytes = first_of ((ltb 25 column gives no_such_column) ∷ []) (judge_items column plan bytes)

unfoldable pub curtailed_sample : ℕ → Plan → List ℕ → Answer Verdict
curtailed_sample column plan bytes =
    first_of ((ltb 25 column gives no_such_column) ∷ []) (judge_until_lost column plan bytes)

unfoldable pub staged_sample : ℕ → StagedPlan → List ℕ → Answer Verdict
staged_sample column plan bytes = first_of ((ltb 25 column gives no_such_column) ∷ []) (judge_stages column plan bytes)

-- 6 for a variables plan that no sound book could hold: its numbers as an entry, under any key
abbrev pub variables_entry : VariablesPlan → List ℕ
variables_entry p = 0 ∷ 0 ∷ 0 ∷ p.n ∷ p.k ∷ []

abbrev pub unless_held : Kind → List ℕ → Check
unless_held k e = not (could_hold k e) gives no_plan

-- .. on either side
unfoldable pub readings_sample : Spread → Limits → SidesPlan → List ℕ → Answer Verdict
readings_sample m limits plan bytes =
    first_of
    (unless_held variables (variables_entry (side_of true plan))
    ∷ unless_held variables (variables_entry (side_of false plan))
    ∷ [])
    (judge_readings m limits plan bytes)

-- The lot that is asked about, under a severity.
pub record Asked : Type 0 where
  pub severity : ℕ
  pub size : ℕ
  pub level : ℕ
  pub column : ℕ

-- 1, 2, 3, 4 and 5, of every entry that judges or plans a lot
abbrev pub asked_checks : Asked → List Check
asked_checks q =
    (ltb stopped q.severity gives unknown_form)
    ∷ (lot_checks q.size q.level q.column ++ ((eqb q.severity stopped gives while_stopped) ∷ []))

-- asked_letter: the Table 1 letter of a lot that can be planned
unfoldable pub asked_letter : Asked → Answer ℕ
asked_letter q = first_of (asked_checks q) (given (letter_of q.size q.level))

-- the sections of the book, in their order
abbrev pub reduced_section : ℕ
reduced_section = 0

abbrev pub staged_section : ℕ
staged_section = 1

abbrev pub sequential_section : ℕ
sequential_section = 2

abbrev pub variables_section : ℕ
variables_section = 3

abbrev pub sigma_section : ℕ
sigma_section = 4

-- "A plan is looked up by severity (sections 2 to 4), Table 1 letter and column"; in the fifth as in the fourth
abbrev pub looked_up : ℕ → Asked → List ℕ → Found
looked_up section q book = look_up section q.severity (letter_of q.size q.level) q.column (numbers_of book)

-- "no book entry under the key"
abbrev pub from_entry : {A : Type 0} → Found → (List ℕ → Answer A) → Answer A
from_entry nothing plan = refused no_plan 0
from_entry (found e) plan = plan e

-- "a staged total, nt or variables n above the lot size"
abbrev pub unless_above : {A : Type 0} → ℕ → ℕ → A → Answer A
unless_above lot_size needed plan = first_of ((ltb lot_size needed gives no_plan) ∷ []) (given plan)

-- "Reduced singles come from the plan book, by the Table 1 letter; a size at or above the lot is cut alike."
abbrev pub reduced_plan : Asked → List ℕ → Plan
reduced_plan q e = cut_plan q.size (letter_of q.size q.level) (reduced_of e).n (reduced_of e).ac

-- single_plan
unfoldable pub single_plan : Asked → List ℕ → Answer Plan
single_plan q book =
    on_sound (check_book book)
    (first_of (asked_checks q)
    (cond (eqb q.severity reduced)
    (from_entry (looked_up reduced_section q book) (λ e. given (reduced_plan q e)))
    (given (table_plan q.severity q.size q.level q.column))))

-- table_plan, of a bench without a book: "It has no book, so a lot under reduced is refusal 6"
unfoldable pub plain_plan : Asked → Answer Plan
plain_plan q =
    first_of (asked_checks q ++ ((eqb q.severity reduced gives no_plan) ∷ []))
    (given (table_plan q.severity q.size q.level q.column))

-- document 02, T-04: "for normal or tightened single sampling with a whole Ac"; "with 6 under reduced", whatever the
-- book has
unfoldable pub curtailed_plan : Asked → List ℕ → Answer Plan
curtailed_plan q book = on_sound (check_book book) (plain_plan q)

-- the mode of fractional acceptance numbers: the box at the lot's own Table 1 letter; "6 when the column is over 15 and
-- the box is fractional"; where it is no fraction, the plan as ever
abbrev pub in_fractions : Asked → Plan → Answer FractionalPlan
in_fractions q plan =
    let letter = letter_of q.size q.level in
    let share = share_at q.severity q.column letter in
    cond (eqb share 0) (given (plan_of_share plan 0))
    (first_of ((not (counts_items q.column) gives no_plan) ∷ []) (given (plan_of_share (own_plan q.size letter) share)))

-- fractional_plan
unfoldable pub fractional_plan : Asked → List ℕ → Answer FractionalPlan
fractional_plan q book = and_then (single_plan q book) (in_fractions q)

-- the plans that only a book supplies
unfoldable pub staged_plan : Asked → List ℕ → Answer StagedPlan
staged_plan q book =
    on_sound (check_book book)
    (first_of (asked_checks q)
    (from_entry (looked_up staged_section q book)
    (λ e. unless_above q.size (total_size (stages_of (staged_of e))) (staged_of e))))

unfoldable pub sequential_plan : Asked → List ℕ → Answer SequentialPlan
sequential_plan q book =
    on_sound (check_book book)
    (first_of (asked_checks q)
    (from_entry (looked_up sequential_section q book)
    (λ e. unless_above q.size (sequential_of e).nt (sequential_of e))))

-- for readings, of the fourth section or the fifth
unfoldable pub readings_plan : ℕ → Asked → List ℕ → Answer VariablesPlan
readings_plan section q book =
    on_sound (check_book book)
    (first_of (asked_checks q)
    (from_entry (looked_up section q book) (λ e. unless_above q.size (variables_of e).n (variables_of e))))

abbrev pub variables_plan : Asked → List ℕ → Answer VariablesPlan
variables_plan = readings_plan variables_section

-- document 02, T-07: "two separate limits with a K each .. the two K's looked up under two columns". The lot, asked
-- about under another column
abbrev pub under_column : Asked → ℕ → Asked
under_column q column = record { severity = q.severity; size = q.size; level = q.level; column = column }

-- "6 when the two sides' entries differ in n"
abbrev pub unless_same_n : VariablesPlan → VariablesPlan → Check
unless_same_n u l = not (eqb u.n l.n) gives no_plan

-- the upper side's plan and the lower side's, where they have the same n
abbrev pub both_sides : VariablesPlan → VariablesPlan → SidesPlan
both_sides u l = record { n = u.n; upper_k = u.k; lower_k = l.k }

-- .. or where n is above the lot
abbrev pub from_sides : Asked → VariablesPlan → VariablesPlan → Answer SidesPlan
from_sides q u l =
    first_of (unless_same_n u l ∷ (ltb q.size u.n gives no_plan) ∷ []) (given (both_sides u l))

-- the lot is asked about under its upper column, and a lower one beside it; 4 where either is over 25
unfoldable pub sides_plan : ℕ → Asked → ℕ → List ℕ → Answer SidesPlan
sides_plan section q lower book =
    on_sound (check_book book)
    (first_of (asked_checks (under_column q (max q.column lower)))
    (from_entry (looked_up section q book)
    (λ e.
    from_entry (looked_up section (under_column q lower) book) (λ f. from_sides q (variables_of e) (variables_of f)))))

-- A plan that only a book supplies, with the lot's Table 1 letter.
pub record Lettered (P : Type 0) : Type 0 where
  pub letter : ℕ
  pub plan : P

-- staged_plan, sequential_plan, variables_plan
abbrev pub lettered : {P : Type 0} → Asked → Answer P → Answer (Lettered P)
lettered q a = and_then a (λ p. given (record { letter = letter_of q.size q.level; plan = p }))

-- a plan, and then the verdict on it
abbrev pub judged_on : {P Outcome : Type 0} → (P → Answer Outcome) → P → Answer (Judged P Outcome)
judged_on judge plan = and_then (judge plan) (λ v. given (record { plan = plan; verdict = v }))

-- judge_single, judge_curtailed, judge_staged, judge_sequential
unfoldable pub judge_single : Asked → List ℕ → List ℕ → Answer (Judged Plan Verdict)
judge_single q book sample = and_then (single_plan q book) (judged_on (λ plan. judge_items q.column plan sample))

unfoldable pub judge_curtailed : Asked → List ℕ → List ℕ → Answer (Judged Plan Verdict)
judge_curtailed q book sample =
    and_then (curtailed_plan q book) (judged_on (λ plan. judge_until_lost q.column plan sample))

unfoldable pub judge_staged : Asked → List ℕ → List ℕ → Answer (Judged StagedPlan Verdict)
judge_staged q book sample = and_then (staged_plan q book) (judged_on (λ plan. judge_stages q.column plan sample))

unfoldable pub judge_sequential : Asked → List ℕ → List ℕ → Answer (Judged SequentialPlan Verdict)
judge_sequential q book sample = and_then (sequential_plan q book) (judged_on (λ plan. judge_sequence plan sample))

-- the section that has the plans of a method
abbrev pub section_for : Spread → ℕ
section_for estimated = variables_section
section_for (known sigma) = sigma_section

-- judge_variables, judge_sigma: for one limit, upper or lower
unfoldable pub judge_limit : Spread → Bool → Asked → List ℕ → ℤ → List ℕ → Answer (Judged VariablesPlan Verdict)
judge_limit m upper q book limit readings =
    and_then (readings_plan (section_for m) q book)
    (judged_on (λ plan. judge_readings m (one upper limit) (sides_of plan) readings))

-- judge_variables_both, judge_sigma_both: for an upper and a lower limit, each under its own column
unfoldable pub judge_sides : Spread → Limits → Asked → ℕ → List ℕ → List ℕ → Answer (Judged SidesPlan Verdict)
judge_sides m limits q lower book readings =
    and_then (sides_plan (section_for m) q lower book) (judged_on (λ plan. judge_readings m limits plan readings))

-- "a record out of range"
abbrev pub on_supply : {A : Type 0} → Supply → Answer A → Answer A
on_supply s answer = first_of ((not (supply_in_range s) gives unknown_form) ∷ []) answer

-- close_lot, and next: what an event, or a history byte, makes of a lent record
abbrev pub moved : Supply → Event → Answer Supply
moved s e = on_supply s (move s e)

unfoldable pub next : Work → Supply → ℕ → Answer Supply
next w s byte = moved s (event_in w byte)

-- A lot that was closed: how it was judged, the event that it stands for, and the next record.
pub record Closed (Plan : Type 0) : Type 0 where
  pub judged : Judged Plan Verdict
  pub event : Event
  pub supply_after : Supply

-- A lot that is offered to be closed: "Resubmitted lots are judged at the present severity and change nothing."
pub record Offered : Type 0 where
  pub again : Bool
  pub size : ℕ
  pub level : ℕ
  pub column : ℕ

abbrev pub asked_on : Record → Offered → Asked
asked_on r o = record { severity = r.severity; size = o.size; level = o.level; column = o.column }

abbrev pub event_for : Offered → Origin → Lot → Event
event_for o from counts = cond o.again resubmitted (lot from counts)

-- how a single or a staged lot counts
abbrev pub single_counts : Record → Offered → Judged Plan Verdict → Lot
single_counts r o j =
    counted r.severity j.verdict.accepted
    (single_points j.plan.ac (tighter_ac j.plan.letter o.column) j.verdict.total)

abbrev pub staged_counts : Record → Offered → Judged StagedPlan Verdict → Lot
staged_counts r o j =
    counted r.severity j.verdict.accepted (staged_points j.verdict.stage j.verdict.stages)

-- the event that a judged lot stands for
abbrev pub single_event : Record → Offered → Judged Plan Verdict → Event
single_event r o j = event_for o sampled (single_counts r o j)

abbrev pub staged_event : Record → Offered → Judged StagedPlan Verdict → Event
staged_event r o j = event_for o sampled (staged_counts r o j)

abbrev pub closed_with : {P : Type 0} → Supply → (Judged P Verdict → Event) → Judged P Verdict → Answer (Closed P)
closed_with s event j =
    and_then (move s (event j)) (λ t. given (record { judged = j; event = event j; supply_after = t }))

-- close_single, close_curtailed, close_staged: "12 first", then a record out of range, then as the lot is judged at the
-- present severity
unfoldable pub close_single : Supply → Offered → List ℕ → List ℕ → Answer (Closed Plan)
close_single s o book sample =
    on_sound (check_book book)
    (on_supply s
    (and_then (judge_single (asked_on s.switching o) book sample) (closed_with s (single_event s.switching o))))

-- "the next record" is that of a lot on a single plan
unfoldable pub close_curtailed : Supply → Offered → List ℕ → List ℕ → Answer (Closed Plan)
close_curtailed s o book sample =
    on_sound (check_book book)
    (on_supply s
    (and_then (judge_curtailed (asked_on s.switching o) book sample) (closed_with s (single_event s.switching o))))

unfoldable pub close_staged : Supply → Offered → List ℕ → List ℕ → Answer (Closed StagedPlan)
close_staged s o book sample =
    on_sound (check_book book)
    (on_supply s
    (and_then (judge_staged (asked_on s.switching o) book sample) (closed_with s (staged_event s.switching o))))

-- judge_fractional: by the record's severity and clean run, as far as that is on the plan; resubmitted or not
unfoldable pub judge_fractional : Supply → Offered → List ℕ → List ℕ → Answer (Judged FractionalPlan Verdict)
judge_fractional s o book sample =
    on_sound (check_book book)
    (on_supply s
    (and_then (fractional_plan (asked_on s.switching o) book)
    (judged_on (λ p. judge_by_share (run_on s.clean p.plan.letter o.column) o.column p sample))))

-- a lot judged in this mode, without its share: "For the score such a plan counts as Ac 0"
abbrev pub as_single : Judged FractionalPlan Verdict → Judged Plan Verdict
as_single j = record { plan = j.plan.plan; verdict = j.verdict }

-- how it enters: on a fraction with its plan and its total, held at 2
abbrev pub origin_of : Offered → Judged FractionalPlan Verdict → Origin
origin_of o j =
    cond (eqb j.plan.share 0) sampled (on_fraction j.plan.plan.letter o.column (min 2 j.verdict.total))

abbrev pub fractional_event : Record → Offered → Judged FractionalPlan Verdict → Event
fractional_event r o j = event_for o (origin_of o j) (single_counts r o (as_single j))

-- close_fractional
unfoldable pub close_fractional : Supply → Offered → List ℕ → List ℕ → Answer (Closed FractionalPlan)
close_fractional s o book sample =
    and_then (judge_fractional s o book sample) (closed_with s (fractional_event s.switching o))

-- "in lotlog, total over n for columns 0 to 15"
abbrev pub total_on : ℕ → ℕ → Plan → Answer (Judged Plan Verdict)
total_on column total plan =
    first_of ((counts_items column && ltb plan.n total gives illegal_item) ∷ [])
    (given (record { plan = plan; verdict = single_verdict plan total }))

unfoldable pub judge_total : Asked → ℕ → Answer (Judged Plan Verdict)
judge_total q total = and_then (plain_plan q) (total_on q.column total)

-- close_total
unfoldable pub close_total : Supply → Offered → ℕ → Answer (Closed Plan)
close_total s o total =
    on_supply s
    (and_then (judge_total (asked_on s.switching o) total) (closed_with s (single_event s.switching o)))
