-- Document 01's numbers and values for each case of the types of this crate, and what its functions promise in them.
-- Definitions only.
use Rattle.std.specs.Prelude.{ℕ, suc, ◌≡◌, List, length, Result}
use Rattle.rules.specs.Refusals.{Answer, refused, given}
use Rattle.rules.specs.Severity as paper
use Rattle.rules.specs.History as histories
use Rattle.refusals.specs.declared.Refusal.{Refusal}
use Rattle.refusals.specs.Paper.{answer_by}
use Rattle.severity.specs.declared.Work.{Work}
use Rattle.severity.specs.declared.Lot.{Lot}
use Rattle.severity.specs.declared.Lot.TheVariants.{AddThree, AddTwo, ScoreZero, NotAccepted}
use Rattle.severity.specs.declared.Origin.{Origin}
use Rattle.severity.specs.declared.Origin.TheVariants.{Typed, Sampled, Fraction}
use Rattle.severity.specs.declared.Event.{Event}
use Rattle.severity.specs.declared.Event.TheVariants as event
use Rattle.severity.specs.declared.Record.{Record}

abbrev pub work_paper : Work → histories.Work
work_paper w = record { permission = w.permission; resubmission = w.resubmission }

abbrev pub lot_paper : Lot → paper.Lot
lot_paper AddThree = paper.add_three
lot_paper AddTwo = paper.add_two
lot_paper ScoreZero = paper.score_zero
lot_paper NotAccepted = paper.not_accepted

abbrev pub origin_paper : Origin → paper.Origin
origin_paper Typed = paper.typed
origin_paper Sampled = paper.sampled
origin_paper (Fraction letter column total) = paper.on_fraction letter column total

abbrev pub event_paper : Event → paper.Event
event_paper (event.Lot o l) = paper.lot (origin_paper o) (lot_paper l)
event_paper event.Resubmitted = paper.resubmitted
event_paper (event.Steady b) = paper.steady_is b
event_paper (event.Permission b) = paper.permission_is b
event_paper event.Corrective = paper.corrective
event_paper event.Unknown = paper.unknown

abbrev pub record_paper : Record → paper.Record
record_paper r =
    record {
      severity = r.severity;
      score = r.score;
      run = r.run;
      count = r.count;
      window = r.window;
      steady = r.steady;
      permission = r.permission;
    }

-- the severity of a record that is given; after a refused byte nothing is written, so that 0 is never met
abbrev pub severity_of : Answer paper.Record → ℕ
severity_of (refused n k) = 0
severity_of (given r) = r.severity

-- A history that goes on from a record: its severities after the first i bytes, written to a buffer, as far as that
-- reaches.
abbrev pub written_from : histories.Work → paper.Record → List ℕ → List ℕ → ℕ → List ℕ
written_from w r h out i =
    histories.filled (λ k. severity_of (histories.after_from r (histories.past w h (suc k)))) out i

-- how many of its bytes were taken: all, or those before the first bad one (none, for a record out of range)
abbrev pub taken_by : Answer paper.Record → ℕ → ℕ
taken_by (refused n k) bytes = k
taken_by (given r) bytes = bytes

-- A walk's whole promise: the answer, and what the buffer then holds.
pub record Walks (w : histories.Work) (start : paper.Record) (h out last : List ℕ) (r : Result Record Refusal)
    : Type 0 where
  pub answer : answer_by record_paper r
      ≡ paper.on_record start (histories.after_from start (histories.past w h (length h)))
  pub buffer : last ≡ written_from w start h out (taken_by (answer_by record_paper r) (length h))
