-- Each promise of a public function admits one result, and one state of the memory that is lent: document 01's value
-- tells the code's.
-- Assumes nothing.
use Prim.Native.Nat.{ℕ}
use mathlib.Core.Path.{◌≡◌, refl, sym, ap, ◌∙◌}
use mathlib.Core.List.{List}
use lib.ListN.{length}
use Rattle.std.specs.Prelude.{Result}
use Rattle.rules.specs.Refusals.{Answer}
use Rattle.rules.specs.Severity as paper
use Rattle.rules.specs.History as histories
use Rattle.rules.proofs.Answers.{read-back}
use Rattle.refusals.specs.declared.Refusal.{Refusal}
use Rattle.refusals.specs.Paper.{answer_by}
use Rattle.refusals.proofs.OneResult.{answer-one}
use Rattle.severity.specs.declared.Work.{Work}
use Rattle.severity.specs.declared.Record.{Record}
use Rattle.severity.specs.declared.Lot.{Lot}
use Rattle.severity.specs.declared.Lot.TheVariants.{AddThree, AddTwo, ScoreZero, NotAccepted}
use Rattle.severity.specs.declared.Origin.{Origin}
use Rattle.severity.specs.declared.Origin.TheVariants.{Typed, Sampled, Fraction}
use Rattle.severity.specs.declared.Event.{Event}
use Rattle.severity.specs.declared.Event.TheVariants as event
use Rattle.severity.specs.Paper.{work_paper, lot_paper, origin_paper, event_paper, record_paper}
use Rattle.severity.specs.Paper.{written_from, taken_by, Walks}

abbrev work_back : histories.Work → Work
work_back w = record { permission = w.permission; resubmission = w.resubmission }

-- of ours
pub work-one : (a b : Work) → work_paper a ≡ work_paper b → a ≡ b
work-one a b e = ap work_back e

abbrev pub record_back : paper.Record → Record
record_back r =
    record {
      severity = r.severity;
      score = r.score;
      run = r.run;
      count = r.count;
      window = r.window;
      steady = r.steady;
      permission = r.permission;
    }

-- of fresh
pub record-one : (a b : Record) → record_paper a ≡ record_paper b → a ≡ b
record-one a b e = ap record_back e

abbrev pub lot_back : paper.Lot → Lot
lot_back paper.add_three = AddThree
lot_back paper.add_two = AddTwo
lot_back paper.score_zero = ScoreZero
lot_back paper.not_accepted = NotAccepted

lot-back : (a : Lot) → lot_back (lot_paper a) ≡ a
lot-back AddThree = refl
lot-back AddTwo = refl
lot-back ScoreZero = refl
lot-back NotAccepted = refl

-- of functions that answer a lot
pub lot-one : (a b : Lot) → lot_paper a ≡ lot_paper b → a ≡ b
lot-one = read-back lot_paper lot_back lot-back

abbrev pub origin_back : paper.Origin → Origin
origin_back paper.typed = Typed
origin_back paper.sampled = Sampled
origin_back (paper.on_fraction letter column total) = Fraction letter column total

origin-back : (a : Origin) → origin_back (origin_paper a) ≡ a
origin-back Typed = refl
origin-back Sampled = refl
origin-back (Fraction letter column total) = refl

abbrev pub event_back : paper.Event → Event
event_back (paper.lot o l) = event.Lot (origin_back o) (lot_back l)
event_back paper.resubmitted = event.Resubmitted
event_back (paper.steady_is b) = event.Steady b
event_back (paper.permission_is b) = event.Permission b
event_back paper.corrective = event.Corrective
event_back paper.unknown = event.Unknown

pub event-back : (a : Event) → event_back (event_paper a) ≡ a
event-back (event.Lot o l) = rw (origin-back o, lot-back l)
event-back event.Resubmitted = refl
event-back (event.Steady b) = refl
event-back (event.Permission b) = refl
event-back event.Corrective = refl
event-back event.Unknown = refl

-- of functions that answer an event
pub event-one : (a b : Event) → event_paper a ≡ event_paper b → a ≡ b
event-one = read-back event_paper event_back event-back

-- of update
pub stepped-one : (a b : Result Record Refusal) → answer_by record_paper a ≡ answer_by record_paper b → a ≡ b
stepped-one = answer-one record_paper record_back (λ x. refl)

-- of walk: the answer, and the lent buffer
pub walks-one : (w : histories.Work) (start : paper.Record) (h out last last' : List ℕ) (r r' : Result Record Refusal)
    → Walks w start h out last r → Walks w start h out last' r' → (r ≡ r') × (last ≡ last')
walks-one w start h out last last' r r' c d =
    let f : answer_by record_paper r ≡ answer_by record_paper r' = c.answer ∙ sym d.answer in (
      stepped-one r r' f,
      c.buffer ∙ (ap (λ (a : Answer paper.Record). written_from w start h out (taken_by a (length h))) f
          ∙ sym d.buffer),
    )
