-- How a closed lot counts: its points at normal, and what it counts elsewhere; the record takes an original lot as it
-- counts; and lots closed at each edge, computed.
-- Assumes nothing.
use Prim.Native.Nat.{ℕ, zero, suc, ◌≤◌}
use mathlib.Core.Path.{◌≡◌, refl, sym, ap, ◌∙◌}
use mathlib.Core.Bool.{Bool, true, false, cond, ◌&&◌}
use mathlib.Core.List.{List, [], ◌∷◌, ◌++◌}
use lib.Dec.{leb, eqb}
use lib.ListN.{replicate}
use native.Mathlib.Omega.{arith}
use borrow.Author.Tests.{le-leb, lt-leb, ne_eqb}
use Rattle.rules.specs.Refusals.{Answer, refused, given}
use Rattle.rules.specs.Codes.{letter_of, row_of, row_from}
use Rattle.rules.specs.Numbers.{numbers_of, number_bytes}
use Rattle.rules.specs.Verdict.{Verdict, Judged}
use Rattle.rules.specs.Single.{Plan, table_plan, landing, box_at, tighter_ac}
use Rattle.rules.specs.Staged.{StagedPlan, stages_from, total_size, stage_decides, take_items, staged_from}
use Rattle.rules.specs.Staged.{judge_stages}
use Rattle.rules.specs.Severity.{Lot, sampled, lot, resubmitted}
use Rattle.rules.specs.Supply.{Supply, supply_of, no_run, move, clean_in_range}
use Rattle.rules.specs.Severity.{Record, on_normal, on_lot, step, figures_in_range, counted, single_points}
use Rattle.rules.specs.Severity.{earns_three, staged_points, on_tightened, on_resubmitted}
use Rattle.rules.specs.History.{byte_of, ours, event_of, event_in}
use Rattle.rules.specs.Book.{check_book, checked_as, sections, section, entries, entry, shift, then_from, key_falls}
use Rattle.rules.specs.Book.{rises, numbers_from, right, staged_rule, staged_number, ac_keeps, re_keeps, same_key}
use Rattle.rules.specs.Book.{fifth, all_sections}
use Rattle.rules.specs.Book.{seek, seek_in, look_up, every}
use Rattle.rules.specs.Entries.{event_for, Closed, Offered, single_counts, staged_counts, plain_plan, staged_plan}
use Rattle.rules.specs.Entries.{judge_total}
use Rattle.rules.specs.Entries.{judge_staged, close_total, close_staged, next}
use Rattle.rules.specs.Scoring.{SinglePoints, StagedPoints, Counts}
use Rattle.rules.specs.Planning.{Closes}
use Rattle.rules.proofs.Cases.{Case, ◌is◌, AllAsSaid}

single-points : (ac tighter total : ℕ) → SinglePoints ac tighter total (single_points ac tighter total)
single-points ac tighter total = record {
  low-ac = λ h. rw (lt-leb 2 ac (omega arith));
  within-tighter = λ h k. rw (le-leb 2 ac h, le-leb total tighter k);
  beyond-tighter = λ h k. rw (le-leb 2 ac h, lt-leb total tighter k);
}

module _ (stage stages : ℕ) where
  -- "That's right for two stages": the rule of document 01, as before
  pub two-as-before : stages ≤ 2 → earns_three stage stages ≡ eqb stage 1
  two-as-before m = rw (lt-leb 3 stages (omega arith))

  -- "For three or more, .. stage 1, 2 or 3"
  pub more-by-third : 3 ≤ stages → earns_three stage stages ≡ (leb 1 stage && leb stage 3)
  more-by-third m = rw (le-leb 3 stages m)

  staged-points : StagedPoints stage stages (staged_points stage stages)
  staged-points = record {
    first-of-two = λ m h. rw (two-as-before m, h);
    later-of-two = λ m h. rw (two-as-before m, ne_eqb stage 1 h);
    by-third = λ m a h. rw (more-by-third m, le-leb 1 stage a, le-leb stage 3 h);
    past-third = λ m h. rw (more-by-third m, le-leb 1 stage (omega arith), lt-leb stage 3 h);
    before-first = λ m h. rw (more-by-third m, h);
  }

counts-as : (severity : ℕ) (accepted : Bool) (Points : Lot → Type 0) (l : Lot) → Points l
    → Counts severity accepted Points (counted severity accepted l)
counts-as severity accepted Points l p = record {
  rejected = λ a. rw a;
  without-score = λ a n. rw (a, ne_eqb severity 0 n);
  with-score = λ a n. rw (a, n) p;
}

module _ (r : Record) (o : Offered) where
  -- the Ac is the plan's, and the letter too, which gives the size
  pub single-counts : (j : Judged Plan Verdict)
      → Counts r.severity j.verdict.accepted
      (SinglePoints j.plan.ac (tighter_ac j.plan.letter o.column) j.verdict.total)
      (single_counts r o j)
  single-counts j =
      counts-as r.severity j.verdict.accepted _ _
      (single-points j.plan.ac (tighter_ac j.plan.letter o.column) j.verdict.total)

  pub staged-counts : (j : Judged StagedPlan Verdict)
      → Counts r.severity j.verdict.accepted (StagedPoints j.verdict.stage j.verdict.stages)
      (staged_counts r o j)
  staged-counts j =
      counts-as r.severity j.verdict.accepted _ _ (staged-points j.verdict.stage j.verdict.stages)

-- An original lot that is closed from its sample is the record's next event, as it counts.
pub original-lot : {P : Type 0} (s : Supply) (o : Offered) (judged : Answer (Judged P Verdict))
    (counts : Judged P Verdict → Lot) (c : Closed P)
    → o.again ≡ false → Closes s judged (λ j. event_for o sampled (counts j)) c
    → step s.switching (lot sampled (counts c.judged)) ≡ given c.supply_after.switching
original-lot s o judged counts c a k =
    ap (λ (b : Bool). step s.switching (cond b resubmitted (lot sampled (counts c.judged)))) (sym a)
    ∙ (ap (step s.switching) (sym k.stands) ∙ k.took.stepped)

-- a record with score 5
from_five : Supply
from_five = supply_of (on_normal 5 0 false false) no_run

offered : ℕ → ℕ → ℕ → Offered
offered size level column = record { again = false; size = size; level = level; column = column }

-- severity, score and window of a record
figures : Supply → List ℕ
figures s = s.switching.severity ∷ s.switching.score ∷ s.switching.window ∷ []

-- the byte that a lot stands for, and the record after it; a refusal is its number
closed_as : {P : Type 0} → Answer (Closed P) → List ℕ
closed_as (refused n p) = n ∷ []
closed_as (given c) = byte_of c.event ∷ figures c.supply_after

by_total : ℕ → ℕ → ℕ → ℕ → List ℕ
by_total size level column total = closed_as (close_total from_five (offered size level column) total)

-- the record after a byte of a history
typed_as : Answer Supply → List ℕ
typed_as (refused n p) = n ∷ []
typed_as (given s) = figures s

by_byte : ℕ → List ℕ
by_byte b = typed_as (next ours from_five b)

pub point_cases : List (Case (List ℕ))
point_cases =
    -- Ac 0; Ac 1, at both totals
    (by_total 10 5 5 0 is (1 ∷ 0 ∷ 7 ∷ 0 ∷ []))
    ∷ (by_total 51 5 13 0 is (1 ∷ 0 ∷ 7 ∷ 0 ∷ []))
    ∷ (by_total 51 5 13 1 is (1 ∷ 0 ∷ 7 ∷ 0 ∷ []))
    -- an arrow goes from F to E: Ac 21, one column tighter 14 at E and 21 at F
    ∷ (by_total 150 5 20 14 is (0 ∷ 0 ∷ 8 ∷ 0 ∷ []))
    ∷ (by_total 150 5 20 15 is (2 ∷ 0 ∷ 0 ∷ 0 ∷ []))
    ∷ (by_total 150 5 20 22 is (3 ∷ 0 ∷ 0 ∷ 1 ∷ []))
    -- typed as bytes: "histories already written keep their bytes"
    ∷ (by_byte 0 is (0 ∷ 8 ∷ 0 ∷ []))
    ∷ (by_byte 1 is (0 ∷ 7 ∷ 0 ∷ []))
    ∷ (by_byte 2 is (0 ∷ 0 ∷ 0 ∷ []))
    ∷ (by_byte 3 is (0 ∷ 0 ∷ 1 ∷ []))
    ∷ []

-- Lots closed at each edge of the points of single plans, and lots typed as bytes.
pub closed-points : AllAsSaid point_cases
unfolding point_cases by_total by_byte from_five offered figures closed_as typed_as close_total next judge_total
    plain_plan table_plan landing box_at tighter_ac letter_of row_of row_from move clean_in_range step on_lot
    figures_in_range event_in event_of lib.Count.ones
closed-points = refl

-- a tightened record
on_tight : Supply
on_tight = supply_of (on_tightened 0 0 false false) no_run

-- a lot of B at 1.0, resubmitted or not
of_b : Bool → Offered
of_b again = record { again = again; size = 8; level = 6; column = 10 }

-- Ac and Re of k stages from the place i on: each Ac is the number of stages before it, each Re is m, one more than the
-- last Ac
rising : ℕ → ℕ → ℕ → List ℕ
rising m i zero = []
rising m i (suc k) = i ∷ m ∷ rising m (suc i) k

-- one staged entry under a severity: B, 1.0, m stages of one item
in_stages : ℕ → ℕ → List ℕ
in_stages severity m =
    number_bytes (0 ∷ 1 ∷ severity ∷ 1 ∷ 10 ∷ m ∷ replicate m 1 ++ (rising m 0 m ++ (0 ∷ 0 ∷ [])))

by_stages : Supply → Bool → ℕ → List ℕ → List ℕ
by_stages s again m items =
    closed_as (close_staged s (of_b again) (in_stages s.switching.severity m) (number_bytes items))

-- a nonconforming item at each of the stages before, and then a good one: accepted there
accepted_after : ℕ → ℕ → List ℕ
accepted_after m before = by_stages from_five false m (replicate before 1 ++ (0 ∷ []))

-- document 01's five stages of 3, (#,2)(0,3)(0,3)(1,3)(3,4), for normal, C, 1.0
of_three : List ℕ
of_three = 65535 ∷ 2 ∷ 0 ∷ 3 ∷ 0 ∷ 3 ∷ 1 ∷ 3 ∷ 3 ∷ 4 ∷ []

by_five : List ℕ → List ℕ
by_five items =
    closed_as
    (close_staged from_five (offered 25 5 10)
    (number_bytes (0 ∷ 1 ∷ 0 ∷ 2 ∷ 10 ∷ 5 ∷ replicate 5 3 ++ (of_three ++ (0 ∷ 0 ∷ []))))
    (number_bytes items))

-- document 02, T-02
pub staged_cases : List (Case (List ℕ))
staged_cases =
    -- two stages: accepted at the first, at the second; not accepted
    (accepted_after 2 0 is (0 ∷ 0 ∷ 8 ∷ 0 ∷ []))
    ∷ (accepted_after 2 1 is (2 ∷ 0 ∷ 0 ∷ 0 ∷ []))
    ∷ (by_stages from_five false 2 (1 ∷ 1 ∷ []) is (3 ∷ 0 ∷ 0 ∷ 1 ∷ []))
    -- three and four: at the last
    ∷ (accepted_after 3 2 is (0 ∷ 0 ∷ 8 ∷ 0 ∷ []))
    ∷ (accepted_after 4 3 is (2 ∷ 0 ∷ 0 ∷ 0 ∷ []))
    -- five: at the third and the fourth
    ∷ (accepted_after 5 2 is (0 ∷ 0 ∷ 8 ∷ 0 ∷ []))
    ∷ (accepted_after 5 3 is (2 ∷ 0 ∷ 0 ∷ 0 ∷ []))
    -- document 01's: clean accepts at 6 items, the second stage; totals 1, 2, 2, 2, 3 at 15, the fifth; 2 at the first
    -- stage reject
    ∷ (by_five (replicate 6 0) is (0 ∷ 0 ∷ 8 ∷ 0 ∷ []))
    ∷ (by_five (1 ∷ 0 ∷ 0 ∷ 1 ∷ 0 ∷ 0 ∷ 0 ∷ 0 ∷ 0 ∷ 0 ∷ 0 ∷ 0 ∷ 1 ∷ 0 ∷ 0 ∷ []) is (2 ∷ 0 ∷ 0 ∷ 0 ∷ []))
    ∷ (by_five (1 ∷ 1 ∷ 0 ∷ []) is (3 ∷ 0 ∷ 0 ∷ 1 ∷ []))
    -- at the third of five: a resubmitted lot changes nothing, and under tightened there is no score
    ∷ (by_stages from_five true 5 (1 ∷ 1 ∷ 0 ∷ []) is (4 ∷ 0 ∷ 5 ∷ 0 ∷ []))
    ∷ (by_stages on_tight false 5 (1 ∷ 1 ∷ 0 ∷ []) is (2 ∷ 1 ∷ 0 ∷ 0 ∷ []))
    ∷ []

-- Lots closed at each edge of the points of staged plans.
pub staged-points-closed : AllAsSaid staged_cases
unfolding staged_cases by_stages accepted_after by_five from_five on_tight offered of_b figures closed_as of_three
    number_bytes in_stages rising close_staged judge_staged letter_of row_of row_from staged_plan check_book numbers_of
    checked_as sections fifth all_sections section entries entry shift then_from key_falls rises numbers_from right
    staged_rule staged_number ac_keeps re_keeps same_key seek seek_in look_up every total_size judge_stages staged_from
    stages_from stage_decides take_items move clean_in_range step on_lot on_resubmitted figures_in_range lib.Count.ones
staged-points-closed = refl
