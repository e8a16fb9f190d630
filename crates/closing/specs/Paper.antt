-- Document 01's numbers and values for each case of the types of this crate, and what a lot enters into its record.
-- Definitions only.
use Rattle.rules.specs.Refusals.{Answer, given, and_then}
use Rattle.rules.specs.Verdict.{Verdict, Judged}
use Rattle.rules.specs.Severity.{Lot, Event, Record, counted, staged_points}
use Rattle.rules.specs.Supply.{Supply, move}
use Rattle.rules.specs.Entries as rules
use Rattle.plans.specs.Paper.{judged_by}
use Rattle.severity.specs.Paper.{event_paper}
use Rattle.supply.specs.Paper.{supply_paper}
use Rattle.closing.specs.declared.Offered.{Offered}
use Rattle.closing.specs.declared.Closed.{Closed}

abbrev pub offered_paper : Offered → rules.Offered
offered_paper o = record { again = o.again; size = o.size; level = o.level; column = o.column }

abbrev pub judged_on : {P : Type 0} → P → Verdict → Judged P Verdict
judged_on plan v = record { plan = plan; verdict = v }

-- how a lot on a staged plan counts: by its verdict, whichever plan it is
abbrev pub staged_lot : Record → Verdict → Lot
staged_lot r v = counted r.severity v.accepted (staged_points v.stage v.stages)

-- A lot that was judged, taken into its record as an event: `closed_with` at the event that it stands for.
abbrev pub entered : {P : Type 0} → Supply → Event → Judged P Verdict → Answer (rules.Closed P)
entered s e j = and_then (move s e) (λ t. given (record { judged = j; event = e; supply_after = t }))

-- a lot closed on a plan, by the plan's own paper
abbrev pub closed_by : {P A : Type 0} → (P → A) → Closed P → rules.Closed A
closed_by plan_of c =
    record {
      judged = judged_by plan_of c.judged;
      event = event_paper c.event;
      supply_after = supply_paper c.supply_after;
    }
