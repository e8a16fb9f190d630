-- What demand 2 says of each entry that plans, judges or closes a lot, and of a history: the rows of its refusals, and
-- what is known of what is given. Definitions only.
use Rattle.std.specs.Prelude.{ℕ, suc, ◌+◌, ◌≤◌, ◌<◌, ◌≡◌, ◌⊎◌, true, false, cond, List, [], ◌∷◌, leb, ltb, length}
use Rattle.std.specs.Prelude.{get_or, take}
use Rattle.rules.specs.Refusals.{Answer, refused, given, first_of}
use Rattle.rules.specs.Verdict.{Verdict, Judged}
use Rattle.rules.specs.Codes.{letter_of}
use Rattle.rules.specs.Single.{sizes, Plan, cut_plan, table_plan}
use Rattle.rules.specs.Staged.{stages_of, total_size}
use Rattle.rules.specs.Severity.{Event, lot, resubmitted, steady_is, permission_is, corrective, unknown}
use Rattle.rules.specs.Severity.{Record, step}
use Rattle.rules.specs.Fractional.{half, third, FractionalPlan, plan_of_share, share_at, judge_by_share}
use Rattle.rules.specs.Supply.{CleanRun, Supply, run_on, counts_on, clean_after, supply_in_range}
use Rattle.rules.specs.Reading.{severity_read}
use Rattle.rules.specs.History.{Work, event_in, after, past}
use Rattle.rules.specs.Book.{sound, check_book, found, nothing, staged_of, sequential_of, variables_of}
use Rattle.rules.specs.Entries.{Asked, looked_up, reduced_section, staged_section, sequential_section}
use Rattle.rules.specs.Entries.{plain_plan, single_plan, under_column, Closed, Offered, asked_on}
use Rattle.rules.specs.Entries.{unless_same_n, both_sides, fractional_plan, curtailed_plan}
use Rattle.rules.specs.Variables.{VariablesPlan}
use Rattle.rules.specs.Limits.{SidesPlan}
use Rattle.rules.specs.Judging.{ItemRows, CurtailedRows, SameVerdict}
use Rattle.rules.specs.Reporting.{Row, NoRow, Then}

-- 1 to 5, "of every entry that judges or plans a lot", and then its own rows.
abbrev pub LotRows : Asked → (ℕ → Type 0) → ℕ → Type 0
LotRows q more =
    Row 1 (3 < q.severity)
    (Row 2 (q.size < 2) (Row 3 (6 < q.level) (Row 4 (25 < q.column) (Row 5 (q.severity ≡ 3) more))))

-- What a lot that can be planned is known to be.
pub record Plannable (q : Asked) : Type 0 where
  pub severity : q.severity < 3
  pub size : 2 ≤ q.size
  pub level : q.level < 7
  pub column : q.column < 26

-- An entry of sections 2 to 5 is under the lot's key: its severity, Table 1 letter and column.
abbrev pub UnderKey : Asked → List ℕ → Type 0
UnderKey q e = take 3 e ≡ q.severity ∷ letter_of q.size q.level ∷ q.column ∷ []

-- The single plan. 6 under reduced inspection, where the book has no entry under the key.
abbrev pub NoReduced : Asked → List ℕ → Type 0
NoReduced q book = (q.severity ≡ 2) × (looked_up reduced_section q book ≡ nothing)

abbrev pub SinglePlanRows : Asked → List ℕ → ℕ → Type 0
SinglePlanRows q book = LotRows q (Row 6 (NoReduced q book) NoRow)

-- "Reduced singles come from the plan book, by the Table 1 letter; a size at or above the lot is cut alike": the plan
-- of an entry under that letter.
abbrev pub cut_from : Asked → List ℕ → Plan
cut_from q e = cut_plan q.size (letter_of q.size q.level) (get_or e 2 0) (get_or e 3 0)

-- Under reduced inspection the book's entry, else the tables.
pub record SinglePlanned (q : Asked) (book : List ℕ) (plan : Plan) : Type 0 where
  pub book-sound : check_book book ≡ sound
  pub lot : Plannable q
  pub from-book : q.severity ≡ 2
      → (e : List ℕ) × (looked_up reduced_section q book ≡ found e) × (cut_from q e ≡ plan)
  pub from-tables : (q.severity ≡ 2 → ⊥) → table_plan q.severity q.size q.level q.column ≡ plan

-- The plans that only a book supplies, by the section and by how many items an entry needs. 6 for "no book entry under
-- the key, or a staged total, nt or variables n above the lot size".
pub data NoPlan (section : ℕ) (needed : List ℕ → ℕ) (q : Asked) (book : List ℕ) : Type 0 where
  no-entry : looked_up section q book ≡ nothing → NoPlan section needed q book
  above : (e : List ℕ) → looked_up section q book ≡ found e → q.size < needed e → NoPlan section needed q book

-- the entry under the key, within the lot
pub record Supplies {P : Type 0} (section : ℕ) (needed : List ℕ → ℕ) (plan_of : List ℕ → P) (q : Asked) (book : List ℕ)
    (plan : P) : Type 0 where
  pub book-sound : check_book book ≡ sound
  pub lot : Plannable q
  pub entry : List ℕ
  pub under-key : looked_up section q book ≡ found entry
  pub within-lot : needed entry ≤ q.size
  pub is-plan : plan_of entry ≡ plan

abbrev pub staged_needs : List ℕ → ℕ
staged_needs e = total_size (stages_of (staged_of e))

abbrev pub sequential_needs : List ℕ → ℕ
sequential_needs e = (sequential_of e).nt

abbrev pub variables_needs : List ℕ → ℕ
variables_needs e = (variables_of e).n

abbrev pub StagedPlanRows : Asked → List ℕ → ℕ → Type 0
StagedPlanRows q book = LotRows q (Row 6 (NoPlan staged_section staged_needs q book) NoRow)

abbrev pub SequentialPlanRows : Asked → List ℕ → ℕ → Type 0
SequentialPlanRows q book = LotRows q (Row 6 (NoPlan sequential_section sequential_needs q book) NoRow)

abbrev pub ReadingsPlanRows : ℕ → Asked → List ℕ → ℕ → Type 0
ReadingsPlanRows section q book = LotRows q (Row 6 (NoPlan section variables_needs q book) NoRow)

-- Document 02, T-07, two columns. 4 where either is over 25; 6 where a side has no entry, "when the two sides' entries
-- differ in n", or where n is above the lot.
pub data NoSides (section : ℕ) (q : Asked) (lower : ℕ) (book : List ℕ) : Type 0 where
  no-upper : looked_up section q book ≡ nothing → NoSides section q lower book
  no_lower : looked_up section (under_column q lower) book ≡ nothing → NoSides section q lower book
  differ : (e f : List ℕ) → looked_up section q book ≡ found e → looked_up section (under_column q lower) book ≡ found f
      → ((variables_of e).n ≡ (variables_of f).n → ⊥) → NoSides section q lower book
  above : (e : List ℕ) → looked_up section q book ≡ found e → q.size < (variables_of e).n → NoSides section q lower book

abbrev pub SidesPlanRows : ℕ → Asked → ℕ → List ℕ → ℕ → Type 0
SidesPlanRows section q lower book =
    Row 1 (3 < q.severity)
    (Row 2 (q.size < 2)
    (Row 3 (6 < q.level)
    (Row 4 ((25 < q.column) ⊎ (25 < lower))
    (Row 5 (q.severity ≡ 3) (Row 6 (NoSides section q lower book) NoRow)))))

-- both entries under their keys, with the same n, within the lot
pub record SidesSupplied (section : ℕ) (q : Asked) (lower : ℕ) (book : List ℕ) (plan : SidesPlan) : Type 0 where
  pub book-sound : check_book book ≡ sound
  pub lot : Plannable q
  pub lower-column : lower < 26
  pub upper-entry : List ℕ
  pub lower-entry : List ℕ
  pub upper-under-key : looked_up section q book ≡ found upper-entry
  pub lower-under-key : looked_up section (under_column q lower) book ≡ found lower-entry
  pub same-n : (variables_of upper-entry).n ≡ (variables_of lower-entry).n
  pub within-lot : (variables_of upper-entry).n ≤ q.size
  pub is-plan :
      record {
        n = (variables_of upper-entry).n;
        upper_k = (variables_of upper-entry).k;
        lower_k = (variables_of lower-entry).k;
      }
      ≡ plan

-- What is looked up for each column alone, joined: "6 when the two sides' entries differ in n"; of two refusals "the
-- lowest number".
abbrev pub same_n : VariablesPlan → VariablesPlan → Answer SidesPlan
same_n u l = first_of (unless_same_n u l ∷ []) (given (both_sides u l))

abbrev pub join_sides : Answer VariablesPlan → Answer VariablesPlan → Answer SidesPlan
join_sides (refused n p) (refused m q) = cond (ltb m n) (refused m q) (refused n p)
join_sides (refused n p) (given l) = refused n p
join_sides (given u) (refused m q) = refused m q
join_sides (given u) (given l) = same_n u l

-- A bench without a book. 6 under reduced inspection, 8 for a total over n where items count.
abbrev pub PlainPlanRows : Asked → ℕ → Type 0
PlainPlanRows q = LotRows q (Row 6 (q.severity ≡ 2) NoRow)

pub record PlainPlanned (q : Asked) (plan : Plan) : Type 0 where
  pub lot : Plannable q
  pub not-reduced : q.severity ≡ 2 → ⊥
  pub is-plan : table_plan q.severity q.size q.level q.column ≡ plan

abbrev pub TotalRows : Asked → ℕ → ℕ → Type 0
TotalRows q total =
    Then (PlainPlanRows q) (plain_plan q) (λ plan. Row 8 ((q.column ≤ 15) × (plan.n < total)) NoRow)

pub record TotalJudged (q : Asked) (total : ℕ) (j : Judged Plan Verdict) : Type 0 where
  pub planned : PlainPlanned q j.plan
  pub within-n : q.column ≤ 15 → total ≤ j.plan.n
  pub verdict :
      record { accepted = leb total j.plan.ac; used = j.plan.n; total = total; stage = 1; stages = 1 }
      ≡ j.verdict

-- Document 02, T-04: the tables' plan, beside a sound book. "with 6 under reduced", as on a bench without one.
pub record CurtailedPlanned (q : Asked) (book : List ℕ) (plan : Plan) : Type 0 where
  pub book-sound : check_book book ≡ sound
  pub planned : PlainPlanned q plan

abbrev pub CurtailedLotRows : Asked → List ℕ → List ℕ → ℕ → Type 0
CurtailedLotRows q book sample =
    Then (PlainPlanRows q) (curtailed_plan q book) (CurtailedRows q.column sample)

-- "Accepted or not, and the next record, equal those of the full count": so do the plan and the event.
pub record SameJudged (curtailed full : Judged Plan Verdict) : Type 0 where
  pub same-plan : curtailed.plan ≡ full.plan
  pub verdicts : SameVerdict curtailed.verdict full.verdict

pub record SameClosed (curtailed full : Closed Plan) : Type 0 where
  pub judged-alike : SameJudged curtailed.judged full.judged
  pub same-event : curtailed.event ≡ full.event
  pub same-record : curtailed.supply_after ≡ full.supply_after

-- What it means that a supply took an event, which counts as it stands: each part by its own step.
pub record Took (s : Supply) (e : Event) (t : Supply) : Type 0 where
  pub stepped : step s.switching e ≡ given t.switching
  pub clean : t.clean ≡ clean_after s.switching.severity t.switching.severity s.clean e

-- A lot closed: it is judged, and taken into the record as the event that it stands for.
pub record Closes {P : Type 0} (s : Supply) (judged : Answer (Judged P Verdict)) (event : Judged P Verdict → Event)
    (c : Closed P) : Type 0 where
  pub in-range : supply_in_range s ≡ true
  pub as-judged : judged ≡ given c.judged
  pub stands : c.event ≡ event c.judged
  pub as-told : counts_on s c.event ≡ c.event
  pub took : Took s c.event c.supply_after

-- An event: 1 for one of no known form, 5 for any lot while stopped, 10 for a corrective order when not stopped.
abbrev pub IsLot : Event → Type 0
IsLot (lot from l) = Unit
IsLot resubmitted = Unit
IsLot (steady_is b) = ⊥
IsLot (permission_is b) = ⊥
IsLot corrective = ⊥
IsLot unknown = ⊥

abbrev pub EventRows : Record → Event → ℕ → Type 0
EventRows r e =
    Row 1 (e ≡ unknown)
    (Row 5 (IsLot e × (3 ≤ r.severity)) (Row 10 ((e ≡ corrective) × (r.severity < 3)) NoRow))

-- A history: all bytes before the place are taken, and the byte there is refused.
pub record FirstBad (w : Work) (h : List ℕ) (n k : ℕ) : Type 0 where
  pub so_far : Record
  pub good : after w.permission (past w h k) ≡ given so_far
  pub place : ℕ
  pub bad : step so_far (event_in w (get_or h k 0)) ≡ refused n place

-- What the lent buffer then holds: the severity after each byte, and the rest as it was.
pub record BufferListed (w : Work) (h out left : List ℕ) : Type 0 where
  pub same-length : length left ≡ length out
  pub severities : (k : ℕ) → k < length h → get_or left k 0 ≡ severity_read w.permission (past w h (suc k))
  pub rest : (k : ℕ) → length h ≤ k → get_or left k 0 ≡ get_or out k 0

-- Document 02, T-01: "normal s 15 is 1/3 and s 16 is 1/2; tightened s 16 is 1/3 and s 17 is 1/2", by severity and s ..
abbrev pub OneThird : ℕ → ℕ → Type 0
OneThird severity s = ((severity ≡ 0) × (s ≡ 15)) ⊎ ((severity ≡ 1) × (s ≡ 16))

abbrev pub OneHalf : ℕ → ℕ → Type 0
OneHalf severity s = ((severity ≡ 0) × (s ≡ 16)) ⊎ ((severity ≡ 1) × (s ≡ 17))

-- .. at the lot's own Table 1 letter
abbrev pub OwnThird : Asked → Type 0
OwnThird q = OneThird q.severity (letter_of q.size q.level + q.column)

abbrev pub OwnHalf : Asked → Type 0
OwnHalf q = OneHalf q.severity (letter_of q.size q.level + q.column)

-- the share there
abbrev pub own_share : Asked → ℕ
own_share q = share_at q.severity q.column (letter_of q.size q.level)

-- "all at their own letter, size and column, with no arrow": its plan, the size cut to the lot, Ac 0
abbrev pub own_fraction : Asked → ℕ → FractionalPlan
own_fraction q share =
    let letter = letter_of q.size q.level in
    record { plan = cut_plan q.size letter (get_or sizes letter 0) 0; share = share }

-- The plan in that mode: refused as the single plan, and "6 when the column is over 15 and the box is fractional".
abbrev pub FractionalPlanRows : Asked → List ℕ → ℕ → Type 0
FractionalPlanRows q book =
    Then (SinglePlanRows q book) (single_plan q book)
    (λ plan. Row 6 ((OwnThird q ⊎ OwnHalf q) × (15 < q.column)) NoRow)

-- Where the lot's own box is no fraction, the single plan.
pub record FractionalPlanned (q : Asked) (book : List ℕ) (p : FractionalPlan) : Type 0 where
  pub book-sound : check_book book ≡ sound
  pub lot : Plannable q
  pub one-third : OwnThird q → (q.column ≤ 15) × (own_fraction q 3 ≡ p)
  pub one-half : OwnHalf q → (q.column ≤ 15) × (own_fraction q 2 ≡ p)
  pub else-whole : (OwnThird q ⊎ OwnHalf q → ⊥) → (p.share ≡ 0) × SinglePlanned q book p.plan

-- A clean run in range, in plain inequalities: "1 also when a lent record's clean run is over 2, or its plan is no
-- fractional box of its severity beside a run of 1 or 2, or not 0 beside a run of 0".
pub record CleanWithin (severity : ℕ) (c : CleanRun) : Type 0 where
  pub run_fits : c.run ≤ 2
  pub no-plan : c.run ≡ 0 → (c.letter ≡ 0) × (c.column ≡ 0)
  pub own-plan : (c.run ≡ 0 → ⊥)
      → (c.letter ≤ 15) × (c.column ≤ 15)
      × (OneThird severity (c.letter + c.column) ⊎ OneHalf severity (c.letter + c.column))

-- a share is none, one half or one third
abbrev pub ShareKinds : ℕ → Type 0
ShareKinds share = (share ≡ 0) ⊎ ((share ≡ half) ⊎ (share ≡ third))

-- a lot judged, or closed, in the old mode, with a share of 0
abbrev pub with_share : Judged Plan Verdict → Judged FractionalPlan Verdict
with_share j = record { plan = plan_of_share j.plan 0; verdict = j.verdict }

abbrev pub closed_with_share : Closed Plan → Closed FractionalPlan
closed_with_share c = record { judged = with_share c.judged; event = c.event; supply_after = c.supply_after }

-- a sample judged on the mode's plan, by a record and the lot's column
abbrev pub on_plan : Supply → Offered → List ℕ → FractionalPlan → Answer Verdict
on_plan s o sample p = judge_by_share (run_on s.clean p.plan.letter o.column) o.column p sample

-- a lot judged or closed in the mode: 1 for a record out of range, then as its plan is refused, then its sample
abbrev pub FractionalRows : Supply → Offered → List ℕ → List ℕ → ℕ → Type 0
FractionalRows s o book sample =
    Row 1 (supply_in_range s ≡ false)
    (Then (FractionalPlanRows (asked_on s.switching o) book) (fractional_plan (asked_on s.switching o) book)
    (λ p. ItemRows o.column sample p.plan))
