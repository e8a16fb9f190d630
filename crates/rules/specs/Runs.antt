-- What a bench really does: a run of calls, the record that they leave, and the history bytes that they stand for.
-- Newest first. Definitions only.
use Rattle.std.specs.Prelude.{ℕ, ◌≡◌, Bool, false, cond, List, [], ◌∷◌, map, ◌⊎◌}
use Rattle.rules.specs.Refusals.{Answer, refused, given}
use Rattle.rules.specs.Severity.{Lot, sampled, Event, lot, resubmitted, corrective}
use Rattle.rules.specs.Supply.{Supply, fresh_supply, counts_on}
use Rattle.rules.specs.Verdict.{Verdict, Judged}
use Rattle.rules.specs.Limits.{Spread, Limits}
use Rattle.rules.specs.Reading.{is_resubmitted, severity_read}
use Rattle.rules.specs.CleanReading.{supply_read}
use Rattle.rules.specs.History.{Work, event_in, byte_of}
use Rattle.rules.specs.Entries.{Asked, Offered, Closed, close_single, close_staged, close_total, close_fractional}
use Rattle.rules.specs.Entries.{close_curtailed, moved, next}

-- A call: a lot closed from its sample, in full, curtailed, in the mode of fractions or in stages, or by its total; a
-- history byte, which is an order or a lot; an event handed to close_lot; a sequential verdict, or one on readings by
-- either method for one limit or two, in between.
pub data Call : Type 0 where
  single : Offered → List ℕ → List ℕ → Call
  curtailed : Offered → List ℕ → List ℕ → Call
  fractional : Offered → List ℕ → List ℕ → Call
  staged : Offered → List ℕ → List ℕ → Call
  total : Offered → ℕ → Call
  byte : ℕ → Call
  event : Event → Call
  sequential : Asked → List ℕ → List ℕ → Call
  readings : Spread → Limits → Asked → ℕ → List ℕ → List ℕ → Call

-- What a call enters into the record: the event that it stands for, and the next record; or nothing.
pub data Entered : Type 0 where
  enters : Event → Supply → Entered
  nothing : Entered

abbrev pub entered_by : {P : Type 0} → Answer (Closed P) → Entered
entered_by (refused n p) = nothing
entered_by (given c) = enters c.event c.supply_after

abbrev pub entered_as : Event → Answer Supply → Entered
entered_as e (refused n p) = nothing
entered_as e (given r) = enters e r

-- "Sequential and variables verdicts don't enter the record"
unfoldable pub entered : Work → Supply → Call → Entered
entered w s (single o book sample) = entered_by (close_single s o book sample)
entered w s (curtailed o book sample) = entered_by (close_curtailed s o book sample)
entered w s (fractional o book sample) = entered_by (close_fractional s o book sample)
entered w s (staged o book sample) = entered_by (close_staged s o book sample)
entered w s (total o d) = entered_by (close_total s o d)
entered w s (byte b) = entered_as (event_in w b) (next w s b)
entered w s (event e) = entered_as (counts_on s e) (moved s e)
entered w s (sequential q book sample) = nothing
entered w s (readings m limits q lower book sample) = nothing

-- a call that closes or types a resubmitted lot
abbrev pub is_resubmission : Work → Call → Bool
is_resubmission w (single o book sample) = o.again
is_resubmission w (curtailed o book sample) = o.again
is_resubmission w (fractional o book sample) = o.again
is_resubmission w (staged o book sample) = o.again
is_resubmission w (total o d) = o.again
is_resubmission w (byte b) = is_resubmitted (event_in w b)
is_resubmission w (event e) = is_resubmitted e
is_resubmission w (sequential q book sample) = false
is_resubmission w (readings m limits q lower book sample) = false

unfoldable pub without_resubmissions : Work → List Call → List Call
without_resubmissions w [] = []
without_resubmissions w (c ∷ cs) =
    cond (is_resubmission w c) (without_resubmissions w cs) (c ∷ without_resubmissions w cs)

abbrev pub supply_by : Supply → Entered → Supply
supply_by s (enters e t) = t
supply_by s nothing = s

abbrev pub events_by : List Event → Entered → List Event
events_by es (enters e t) = e ∷ es
events_by es nothing = es

-- the record after a run from a fresh record, refused calls dropped
unfoldable pub ran : Work → List Call → Supply
ran w [] = fresh_supply w.permission
ran w (c ∷ cs) = supply_by (ran w cs) (entered w (ran w cs) c)

-- the events that the calls of a run stand for
unfoldable pub events_ran : Work → List Call → List Event
events_ran w [] = []
events_ran w (c ∷ cs) = events_by (events_ran w cs) (entered w (ran w cs) c)

-- the bytes that the calls of a run stand for
abbrev pub bytes_ran : Work → List Call → List ℕ
bytes_ran w cs = map byte_of (events_ran w cs)

-- the same from the calls and the written reading alone: each call is made on the record that the reading finds
unfoldable pub events_read : Work → List Call → List Event
events_read w [] = []
events_read w (c ∷ cs) =
    events_by (events_read w cs) (entered w (supply_read w.permission (events_read w cs)) c)

-- a call that is a corrective order
abbrev pub Corrects : Call → Type 0
Corrects c = (c ≡ byte 9) ⊎ (c ≡ event corrective)

-- How a call enters a lot: closed on a whole Ac or in stages it is sampled, and a byte is that of its list. Only a lot
-- closed in the mode of fractions or handed over can stand on a fraction; what these enter is said by their closing and
-- by how an event counts.
abbrev pub SampledOrAgain : Event → Type 0
SampledOrAgain e = (e ≡ resubmitted) ⊎ ((l : Lot) × (e ≡ lot sampled l))

abbrev pub EntersAs : Work → Call → Event → Type 0
EntersAs w (single o book sample) e = SampledOrAgain e
EntersAs w (curtailed o book sample) e = SampledOrAgain e
EntersAs w (fractional o book sample) e = Unit {0}
EntersAs w (staged o book sample) e = SampledOrAgain e
EntersAs w (total o d) e = SampledOrAgain e
EntersAs w (byte b) e = e ≡ event_in w b
EntersAs w (event x) e = Unit {0}
EntersAs w (sequential q book sample) e = ⊥
EntersAs w (readings m limits q lower book sample) e = ⊥

-- A call that leaves the record and the events as they are.
abbrev pub Idle : Work → List Call → Call → Type 0
Idle w cs call = (ran w (call ∷ cs) ≡ ran w cs) × (events_ran w (call ∷ cs) ≡ events_ran w cs)

-- A call and its answer: given, the next record and the event of what is given are recorded; refused, nothing is.
pub record Records {A : Type 0} (w : Work) (cs : List Call) (call : Call) (answer : Answer A) (after : A → Supply)
    (told : A → Event) : Type 0 where
  pub recorded : (a : A) → answer ≡ given a
      → (ran w (call ∷ cs) ≡ after a) × (events_ran w (call ∷ cs) ≡ told a ∷ events_ran w cs)
  pub dropped : (n k : ℕ) → answer ≡ refused n k → Idle w cs call

-- A lot closed is recorded as the event that it tells.
abbrev pub ClosesLot : {P : Type 0} → Work → List Call → Call → Answer (Closed P) → Type 0
ClosesLot w cs call answer = Records w cs call answer (λ c. c.supply_after) (λ c. c.event)

-- One call more leaves all as it was, or enters one event, of which this holds with the severity then.
abbrev pub ByCall : Work → Call → List Call → (Event → ℕ → Type 0) → Type 0
ByCall w c cs P =
    Idle w cs c
    ⊎ ((e : Event) × (events_ran w (c ∷ cs) ≡ e ∷ events_ran w cs) × P e (ran w (c ∷ cs)).switching.severity)

-- a lot asked about under a severity
abbrev pub asked_at : ℕ → Offered → Asked
asked_at severity o = record { severity = severity; size = o.size; level = o.level; column = o.column }

-- "Resubmitted lots are judged at the present severity": a lot closed in a run, resubmitted or not, is judged at the
-- severity that the written reading of the events so far finds.
abbrev pub AskedAsRead : {P : Type 0}
    → Work → List Call → Offered → Answer (Closed P) → (Asked → Answer (Judged P Verdict)) → Type 0
AskedAsRead {P} w cs o closing judge =
    (c : Closed P) → closing ≡ given c
    → judge (asked_at (severity_read w.permission (events_ran w cs)) o) ≡ given c.judged
