-- A run of calls: what each call records, and that the run, refused calls dropped, is the history of the events that
-- its calls stand for, and of their bytes.
-- Assumes nothing.
use Prim.Native.Nat.{ℕ, suc}
use mathlib.Core.Path.{◌≡◌, refl, sym, ap, ◌∙◌}
use mathlib.Core.Bool.{Bool, true, false, cond, ◌&&◌, ◌||◌, not}
use mathlib.Core.List.{List, [], ◌∷◌, ◌++◌, map}
use native.Mathlib.Omega.{arith}
use mathlib.Core.Logic.{◌⊎◌, inl, inr}
use borrow.Author.Tests.{le-leb, leb-false}
use lib.Dec.{leb, eqb}
use lib.ListN.{length, get_or, get_or-eq_default}
use Rattle.rules.specs.Refusals.{Answer, refused, given, and_then, not_stopped}
use Rattle.rules.specs.Codes.{tightened, stopped}
use Rattle.rules.specs.Verdict.{Verdict, Judged}
use Rattle.rules.specs.Severity.{Lot, add_three, add_two, score_zero, not_accepted, Origin, sampled, Event, lot}
use Rattle.rules.specs.Severity.{resubmitted, steady_is, permission_is, corrective, unknown, Record, fresh, step}
use Rattle.rules.specs.Severity.{on_corrective}
use Rattle.rules.specs.Supply.{Supply, supply_of, counts_on, clean_after, move, supply_in_range}
use Rattle.rules.specs.Reading.{severity_read, record_read}
use Rattle.rules.specs.CleanReading.{clean_read, supply_read}
use Rattle.rules.specs.History.{Work, ours, byte_events, event_of, event_in, byte_of, placed, after_from}
use Rattle.rules.specs.History.{after, past}
use Rattle.rules.specs.Entries.{Asked, Closed, Offered, event_for, single_event, staged_event}
use Rattle.rules.specs.Entries.{fractional_event, on_supply, moved, next}
use Rattle.rules.specs.Entries.{close_single, close_curtailed, close_staged, close_total}
use Rattle.rules.specs.Entries.{close_fractional, origin_of, single_counts, staged_counts, as_single}
use Rattle.rules.specs.Limits.{Spread, Limits}
use Rattle.rules.specs.Runs.{Call, single, curtailed, fractional, staged, total, byte, sequential, readings}
use Rattle.rules.specs.Runs.{Entered, enters}
use Rattle.rules.specs.Runs.{nothing, entered_by, entered_as, entered, is_resubmission, without_resubmissions}
use Rattle.rules.specs.Runs.{supply_by, events_by, ran}
use Rattle.rules.specs.Planning.{Closes, Took}
use Rattle.rules.specs.Runs.{events_ran, bytes_ran, event, events_read, Corrects, SampledOrAgain, EntersAs, Idle}
use Rattle.rules.specs.Runs.{Records, ClosesLot, ByCall}
use Rattle.rules.proofs.Append.{and-one-event}
use Rattle.rules.proofs.Agreement.{agree, severity-agrees}
use Rattle.rules.proofs.Resubmitted.{is-resubmitted}
use Rattle.rules.proofs.Moving.{typed-counts, corrective-counts, counts-again}
use Rattle.rules.proofs.Supplies.{took-range, fresh-supply-range, resubmitted-took}
use Rattle.rules.proofs.CleanRuns.{clean-fresh, clean-one-event}
use Rattle.rules.proofs.Demands.Curtailed.{close-curtailed-given}
use Rattle.rules.proofs.Demands.Fractional.{close-fractional-given}
use Rattle.rules.proofs.Demands.Two.{close-single-given, close-staged-given, close-total-given, moved-given}
use Rattle.rules.proofs.Bytes.{lot-byte, corrective-byte}
use Rattle.rules.proofs.EventLaws.{step-refused}

module _ (w : Work) (cs : List Call) where
  call-idle : (call : Call) → entered w (ran w cs) call ≡ nothing → Idle w cs call
  unfolding ran events_ran
  call-idle call q = rw q (refl, refl)

  call-entered : (call : Call) (e : Event) (t : Supply) → entered w (ran w cs) call ≡ enters e t
      → (ran w (call ∷ cs) ≡ t) × (events_ran w (call ∷ cs) ≡ e ∷ events_ran w cs)
  unfolding ran events_ran
  call-entered call e t q = rw q (refl, refl)

  call-closes : {P : Type 0} (call : Call) (answer : Answer (Closed P)) → entered w (ran w cs) call ≡ entered_by answer
      → ClosesLot w cs call answer
  call-closes call answer q = record {
    recorded = λ c e. call-entered call c.event c.supply_after (q ∙ ap entered_by e);
    dropped = λ n k e. call-idle call (q ∙ ap entered_by e);
  }

  pub single-closes : (o : Offered) (book sample : List ℕ)
      → ClosesLot w cs (single o book sample) (close_single (ran w cs) o book sample)
  unfolding entered
  single-closes o book sample = call-closes (single o book sample) _ refl

  pub curtailed-closes : (o : Offered) (book sample : List ℕ)
      → ClosesLot w cs (curtailed o book sample) (close_curtailed (ran w cs) o book sample)
  unfolding entered
  curtailed-closes o book sample = call-closes (curtailed o book sample) _ refl

  pub fractional-closes : (o : Offered) (book sample : List ℕ)
      → ClosesLot w cs (fractional o book sample) (close_fractional (ran w cs) o book sample)
  unfolding entered
  fractional-closes o book sample = call-closes (fractional o book sample) _ refl

  pub staged-closes : (o : Offered) (book sample : List ℕ)
      → ClosesLot w cs (staged o book sample) (close_staged (ran w cs) o book sample)
  unfolding entered
  staged-closes o book sample = call-closes (staged o book sample) _ refl

  pub total-closes : (o : Offered) (d : ℕ)
      → ClosesLot w cs (total o d) (close_total (ran w cs) o d)
  unfolding entered
  total-closes o d = call-closes (total o d) _ refl

  pub byte-records : (b : ℕ) → Records w cs (byte b) (next w (ran w cs) b) (λ t. t) (λ t. event_in w b)
  unfolding entered
  byte-records b = record {
    recorded = λ t e. call-entered (byte b) (event_in w b) t (ap (entered_as (event_in w b)) e);
    dropped = λ n k e. call-idle (byte b) (ap (entered_as (event_in w b)) e);
  }

  -- an event handed to close_lot, as it counts
  pub event-records : (e : Event)
      → Records w cs (event e) (moved (ran w cs) e) (λ t. t) (λ t. counts_on (ran w cs) e)
  unfolding entered
  event-records e = record {
    recorded = λ t q. call-entered (event e) (counts_on (ran w cs) e) t (ap (entered_as (counts_on (ran w cs) e)) q);
    dropped = λ n k q. call-idle (event e) (ap (entered_as (counts_on (ran w cs) e)) q);
  }

  -- "Sequential and variables verdicts don't enter the record"
  pub sequential-idle : (q : Asked) (book sample : List ℕ) → Idle w cs (sequential q book sample)
  unfolding entered
  sequential-idle q book sample = call-idle (sequential q book sample) refl

  -- by either method, for one limit or two
  pub readings-idle : (m : Spread) (limits : Limits) (q : Asked) (lower : ℕ) (book sample : List ℕ)
      → Idle w cs (readings m limits q lower book sample)
  unfolding entered
  readings-idle m limits q lower book sample = call-idle (readings m limits q lower book sample) refl

-- What is entered is what the event makes of the supply; the event counts as it stands, and is one of these.
abbrev Enters : (Event → Type 0) → Supply → Entered → Type 0
Enters P s (enters e t) = Took s e t × (counts_on s e ≡ e) × P e
Enters P s nothing = Unit {0}

module _ (P : Event → Type 0) (s : Supply) where
  -- what is taken
  entered-as : (e : Event) → P (counts_on s e) → Enters P s (entered_as (counts_on s e) (moved s e))
  entered-as e p = go (moved s e) refl
    where
      go : (a : Answer Supply) → moved s e ≡ a → Enters P s (entered_as (counts_on s e) a)
      go (refused n k) q = tt
      go (given t) q = (((moved-given s e t).0 q).1, counts-again s e, p)

  -- a lot closed
  closed-enters : {Q : Type 0} (answer : Answer (Closed Q)) (judged : Answer (Judged Q Verdict))
      (told : Judged Q Verdict → Event)
      → ((c : Closed Q) → answer ≡ given c → Closes s judged told c) → ((j : Judged Q Verdict) → P (told j))
      → Enters P s (entered_by answer)
  closed-enters {Q} answer judged told closes p = go answer refl
    where
      go : (a : Answer (Closed Q)) → answer ≡ a → Enters P s (entered_by a)
      go (refused n k) q = tt
      go (given c) q = let k = closes c q in (k.took, k.as-told, rw k.stands (p c.judged))

-- the events that a call may stand for
abbrev Stands : (Event → Type 0) → Work → Call → Type 0
Stands P w (single o book sample) = (l : Lot) → P (event_for o sampled l)
Stands P w (curtailed o book sample) = (l : Lot) → P (event_for o sampled l)
Stands P w (fractional o book sample) = (from : Origin) (l : Lot) → P (event_for o from l)
Stands P w (staged o book sample) = (l : Lot) → P (event_for o sampled l)
Stands P w (total o d) = (l : Lot) → P (event_for o sampled l)
Stands P w (byte b) = P (event_in w b)
Stands P w (event e) = (s : Supply) → P (counts_on s e)
Stands P w (sequential q book sample) = Unit {0}
Stands P w (readings m limits q lower book sample) = Unit {0}

call_enters : (P : Event → Type 0) (w : Work) (s : Supply) (c : Call) → Stands P w c → Enters P s (entered w s c)
unfolding entered next
call_enters P w s (single o book sample) p =
    closed-enters P s (close_single s o book sample) _ (single_event s.switching o)
    (λ c q. (close-single-given s o book sample c).0 q)
    (λ j. p (single_counts s.switching o j))
call_enters P w s (curtailed o book sample) p =
    closed-enters P s (close_curtailed s o book sample) _ (single_event s.switching o)
    (λ c q. (close-curtailed-given s o book sample c).0 q)
    (λ j. p (single_counts s.switching o j))
call_enters P w s (fractional o book sample) p =
    closed-enters P s (close_fractional s o book sample) _ (fractional_event s.switching o)
    (λ c q. (close-fractional-given s o book sample c).0 q)
    (λ j. p (origin_of o j) (single_counts s.switching o (as_single j)))
call_enters P w s (staged o book sample) p =
    closed-enters P s (close_staged s o book sample) _ (staged_event s.switching o)
    (λ c q. (close-staged-given s o book sample c).0 q)
    (λ j. p (staged_counts s.switching o j))
call_enters P w s (total o d) p =
    closed-enters P s (close_total s o d) _ (single_event s.switching o)
    (λ c q. (close-total-given s o d c).0 q)
    (λ j. p (single_counts s.switching o j))
call_enters P w s (byte b) p =
    let q = typed-counts s w b in
    rw q at (entered-as P s (event_in w b) (rw q p))
call_enters P w s (event e) p = entered-as P s e (p s)
call_enters P w s (sequential q book sample) p = tt
call_enters P w s (readings m limits q lower book sample) p = tt

anything : (w : Work) (c : Call) → Stands (λ e. Unit {0}) w c
anything w (single o book sample) = λ l. tt
anything w (curtailed o book sample) = λ l. tt
anything w (fractional o book sample) = λ from l. tt
anything w (staged o book sample) = λ l. tt
anything w (total o d) = λ l. tt
anything w (byte b) = tt
anything w (event e) = λ s. tt
anything w (sequential q book sample) = tt
anything w (readings m limits q lower book sample) = tt

-- The record after any run from a fresh record is that after the events that its calls stand for, which are not
-- refused.
pub ran-agrees : (w : Work) (cs : List Call) → after w.permission (events_ran w cs) ≡ given (ran w cs).switching
unfolding after_from ran events_ran
ran-agrees w [] = refl
ran-agrees w (c ∷ cs) =
    go (ran-agrees w cs) (entered w (ran w cs) c) (call_enters (λ e. Unit {0}) w (ran w cs) c (anything w c))
  where
    go : after w.permission (events_ran w cs) ≡ given (ran w cs).switching → (x : Entered)
        → Enters (λ e. Unit {0}) (ran w cs) x
        → after w.permission (events_by (events_ran w cs) x) ≡ given (supply_by (ran w cs) x).switching
    go h (enters e t) k =
        and-one-event _ (ran w cs).switching t.switching e (events_ran w cs) h k.0.stepped
    go h nothing k = h

-- Its clean run is the one that the written reading of those events finds.
pub ran-clean : (w : Work) (cs : List Call) → (ran w cs).clean ≡ clean_read w.permission (events_ran w cs)
unfolding ran events_ran
ran-clean w [] = clean-fresh w.permission
ran-clean w (c ∷ cs) =
    go (ran-clean w cs) (entered w (ran w cs) c) (call_enters (λ e. Unit {0}) w (ran w cs) c (anything w c))
  where
    go : (ran w cs).clean ≡ clean_read w.permission (events_ran w cs) → (x : Entered)
        → Enters (λ e. Unit {0}) (ran w cs) x
        → (supply_by (ran w cs) x).clean ≡ clean_read w.permission (events_by (events_ran w cs) x)
    go h (enters e t) k =
        clean-one-event w.permission e (events_ran w cs) (ran w cs) t (ran-agrees w cs) h k.0
    go h nothing k = h

-- Runs that come to the same go on alike.
pub later-alike : (w : Work) (later cs ds : List Call) → ran w cs ≡ ran w ds → events_ran w cs ≡ events_ran w ds
    → (ran w (later ++ cs) ≡ ran w (later ++ ds)) × (events_ran w (later ++ cs) ≡ events_ran w (later ++ ds))
unfolding ran events_ran
later-alike w [] cs ds e f = (e, f)
later-alike w (c ∷ later) cs ds e f =
    let x = later-alike w later cs ds e f in (
      ap (λ (s : Supply). supply_by s (entered w s c)) x.0,
      ap (λ (es : List Event). events_by es (entered w (ran w (later ++ cs)) c)) x.1
          ∙ ap (λ (s : Supply). events_by (events_ran w (later ++ ds)) (entered w s c)) x.0,
    )

-- Both together: the supply is the one that the written reading finds.
pub ran-as-read : (w : Work) (cs : List Call) → ran w cs ≡ supply_read w.permission (events_ran w cs)
ran-as-read w cs =
    ap (λ (r : Record). supply_of r (ran w cs).clean)
    (agree w.permission (events_ran w cs) (ran w cs).switching (ran-agrees w cs))
    ∙ ap (supply_of (record_read w.permission (events_ran w cs))) (ran-clean w cs)

-- An event typed as its byte: where it comes from does not matter to the record.
abbrev typed_again : List Event → List Event
typed_again es = map event_of (map byte_of es)

step-typed : (r : Record) (e : Event) → step r (event_of (byte_of e)) ≡ step r e
unfolding step event_of
step-typed r (lot o add_three) = refl
step-typed r (lot o add_two) = refl
step-typed r (lot o score_zero) = refl
step-typed r (lot o not_accepted) = refl
step-typed r resubmitted = refl
step-typed r (steady_is true) = refl
step-typed r (steady_is false) = refl
step-typed r (permission_is true) = refl
step-typed r (permission_is false) = refl
step-typed r corrective = refl
step-typed r unknown = refl

-- our work knows every byte of the list
ours-event : (b : ℕ) → event_in ours b ≡ event_of b
unfolding event_in event_of
ours-event b = go (leb b 9) refl (not (eqb b 4))
  where
    go : (t : Bool) → leb b 9 ≡ t → (u : Bool)
        → cond (t && (u || true)) (get_or byte_events b unknown) unknown ≡ get_or byte_events b unknown
    go true e true = refl
    go true e false = refl
    go false e u = sym (get_or-eq_default byte_events unknown (leb-false b 9 e))

-- a refused event stands at no other place than the first
step-place : (r : Record) (e : Event) → placed 0 (step r e) ≡ step r e
step-place r e = go (step r e) (λ n p q. ((step-refused r e).if-refused n p q).0)
  where
    go : (a : Answer Record) → ((n p : ℕ) → a ≡ refused n p → p ≡ 0) → placed 0 a ≡ a
    go (refused n p) f = rw (f n p refl)
    go (given t) f = refl

-- An event moves a record as a history of its byte alone does.
pub one-byte : (r : Record) (e : Event) → after_from r (past ours (byte_of e ∷ []) 1) ≡ step r e
unfolding after_from past
one-byte r e = rw (ours-event (byte_of e), step-typed r e) (step-place r e)

length-typed : (es : List Event) → length (typed_again es) ≡ length es
length-typed [] = refl
length-typed (e ∷ es) = ap suc (length-typed es)

pub after-typed : (r : Record) (es : List Event) → after_from r (typed_again es) ≡ after_from r es
unfolding after_from
after-typed r [] = refl
after-typed r (e ∷ es) =
    rw (after-typed r es, length-typed es) (go (after_from r es))
  where
    go : (a : Answer Record)
        → and_then a (λ t. placed (length es) (step t (event_of (byte_of e))))
        ≡ and_then a (λ t. placed (length es) (step t e))
    go (refused n k) = refl
    go (given t) = ap (placed (length es)) (step-typed t e)

-- The same of the bytes that the calls of a run stand for.
pub ran-agrees-bytes : (w : Work) (cs : List Call)
    → after w.permission (map event_of (bytes_ran w cs)) ≡ given (ran w cs).switching
ran-agrees-bytes w cs = after-typed (fresh w.permission) (events_ran w cs) ∙ ran-agrees w cs

-- a call with a resubmitted lot stands for nothing else
resubmission : (w : Work) (c : Call) → is_resubmission w c ≡ true → Stands (λ e. e ≡ resubmitted) w c
resubmission w (single o book sample) h = λ l. rw h
resubmission w (curtailed o book sample) h = λ l. rw h
resubmission w (fractional o book sample) h = λ from l. rw h
resubmission w (staged o book sample) h = λ l. rw h
resubmission w (total o d) h = λ l. rw h
resubmission w (byte b) h = is-resubmitted (event_in w b) h
resubmission w (event e) h = λ s. ap (counts_on s) (is-resubmitted e h)
resubmission w (sequential q book sample) h = tt
resubmission w (readings m limits q lower book sample) h = tt

-- A call with a resubmitted lot, put into a run or left out anywhere, changes no record of the rest.
pub ran-resubmitted : (w : Work) (later : List Call) (c : Call) (cs : List Call) → is_resubmission w c ≡ true
    → ran w (later ++ (c ∷ cs)) ≡ ran w (later ++ cs)
unfolding ran
ran-resubmitted w [] c cs h =
    go (entered w (ran w cs) c) (call_enters (λ e. e ≡ resubmitted) w (ran w cs) c (resubmission w c h))
  where
    go : (x : Entered) → Enters (λ e. e ≡ resubmitted) (ran w cs) x → supply_by (ran w cs) x ≡ ran w cs
    go (enters e t) k = resubmitted-took (ran w cs) t e k.2 k.0
    go nothing k = refl
ran-resubmitted w (d ∷ later) c cs h =
    ap (λ (s : Supply). supply_by s (entered w s d)) (ran-resubmitted w later c cs h)

-- So without all of them.
pub ran-without : (w : Work) (cs : List Call) → ran w (without_resubmissions w cs) ≡ ran w cs
unfolding ran without_resubmissions
ran-without w [] = refl
ran-without w (c ∷ cs) = go (is_resubmission w c) refl (ran-without w cs)
  where
    go : (d : Bool) → is_resubmission w c ≡ d → ran w (without_resubmissions w cs) ≡ ran w cs
        → ran w (cond d (without_resubmissions w cs) (c ∷ without_resubmissions w cs)) ≡ ran w (c ∷ cs)
    go true h ih = ih ∙ sym (ran-resubmitted w [] c cs h)
    go false h ih = rw ih

-- only byte 9 stands for the corrective order
not-corrective : (o : Offered) (from : Origin) (l : Lot) → event_for o from l ≡ corrective → ⊥
not-corrective o from l h = go o.again (ap byte_of h)
  where
    go : (d : Bool) → byte_of (cond d resubmitted (lot from l)) ≡ 9 → ⊥
    go true h = omega arith
    go false h = omega (arith, lot-byte l)

corrective-call : (w : Work) (c : Call) → Stands (λ e. e ≡ corrective → Corrects c) w c
corrective-call w (single o book sample) = λ l h. absurd (not-corrective o sampled l h)
corrective-call w (curtailed o book sample) = λ l h. absurd (not-corrective o sampled l h)
corrective-call w (fractional o book sample) = λ from l h. absurd (not-corrective o from l h)
corrective-call w (staged o book sample) = λ l h. absurd (not-corrective o sampled l h)
corrective-call w (total o d) = λ l h. absurd (not-corrective o sampled l h)
corrective-call w (byte b) = λ h. inl (ap byte (corrective-byte w b h))
corrective-call w (event e) = λ s h. inr (ap event (corrective-counts s e h))
corrective-call w (sequential q book sample) = tt
corrective-call w (readings m limits q lower book sample) = tt

-- One call more enters nothing, or one event, which counts as it stands and is one of these.
entering : (P : Event → Type 0) (w : Work) (c : Call) (cs : List Call) → Stands P w c
    → ByCall w c cs (λ e s. (counts_on (ran w cs) e ≡ e) × P e)
unfolding ran events_ran
entering P w c cs p = go (entered w (ran w cs) c) (call_enters P w (ran w cs) c p)
  where
    go : (x : Entered) → Enters P (ran w cs) x
        → ((supply_by (ran w cs) x ≡ ran w cs) × (events_by (events_ran w cs) x ≡ events_ran w cs))
        ⊎ ((e : Event) × (events_by (events_ran w cs) x ≡ e ∷ events_ran w cs) × ((counts_on (ran w cs) e ≡ e) × P e))
    go (enters e t) k = inr (e, refl, (k.1, k.2))
    go nothing k = inl (refl, refl)

-- what follows of each event
pub each-call : (w : Work) (c : Call) (cs : List Call) (P Q : Event → ℕ → Type 0)
    → ((e : Event) (s : ℕ) → P e s → Q e s)
    → ByCall w c cs P → ByCall w c cs Q
each-call w c cs P Q f (inl q) = inl q
each-call w c cs P Q f (inr x) = inr (x.0, x.1, f x.0 _ x.2)

-- Whatever a call enters counts as it stands, ..
pub call-counts : (w : Work) (c : Call) (cs : List Call) → ByCall w c cs (λ e s. counts_on (ran w cs) e ≡ e)
call-counts w c cs =
    each-call w c cs (λ e s. (counts_on (ran w cs) e ≡ e) × Unit {0}) _ (λ e s x. x.0)
    (entering (λ e. Unit {0}) w c cs (anything w c))

-- .. and is what the call may stand for.
enters-one : (P : Event → Type 0) (w : Work) (c : Call) (cs : List Call) → Stands P w c → ByCall w c cs (λ e s. P e)
enters-one P w c cs p =
    each-call w c cs (λ e s. (counts_on (ran w cs) e ≡ e) × P e) _ (λ e s x. x.1) (entering P w c cs p)

-- A corrective order alone enters that event.
pub one-call : (w : Work) (c : Call) (cs : List Call) → ByCall w c cs (λ e s. e ≡ corrective → Corrects c)
one-call w c cs = enters-one _ w c cs (corrective-call w c)

-- How each call enters a lot.
pub call-enters-as : (w : Work) (c : Call) (cs : List Call) → ByCall w c cs (λ e s. EntersAs w c e)
call-enters-as w c cs = enters-one (EntersAs w c) w c cs (labels c)
  where
    sampled-so : (o : Offered) (l : Lot) → SampledOrAgain (event_for o sampled l)
    sampled-so o l = go o.again
      where
        go : (again : Bool) → SampledOrAgain (cond again resubmitted (lot sampled l))
        go true = inl refl
        go false = inr (l, refl)

    labels : (c : Call) → Stands (EntersAs w c) w c
    labels (single o book sample) = sampled-so o
    labels (curtailed o book sample) = sampled-so o
    labels (fractional o book sample) = λ from l. tt
    labels (staged o book sample) = sampled-so o
    labels (total o d) = sampled-so o
    labels (byte b) = refl
    labels (event e) = λ s. tt
    labels (sequential q book sample) = tt
    labels (readings m limits q lower book sample) = tt

-- What holds of each event that a call enters, with the severity that the written reading then finds.
pub by-call : (w : Work) (c : Call) (cs : List Call) (P : Event → ℕ → Type 0)
    → ((e : Event) → P e (severity_read w.permission (e ∷ events_ran w cs))) → ByCall w c cs P
by-call w c cs P f = go (one-call w c cs)
  where
    go : ByCall w c cs (λ e s. e ≡ corrective → Corrects c) → ByCall w c cs P
    go (inl q) = inl q
    go (inr x) =
        inr (
          x.0,
          x.1,
          rw (
            severity-agrees w.permission (events_ran w (c ∷ cs)) (ran w (c ∷ cs)).switching
                (ran-agrees w (c ∷ cs)),
            x.1,
          )
              (f x.0),
        )

-- The events of a run, found from the calls and the written reading alone, are those of the fold.
pub events-as-read : (w : Work) (cs : List Call) → events_read w cs ≡ events_ran w cs
unfolding events_read events_ran
events-as-read w [] = refl
events-as-read w (c ∷ cs) =
    rw (events-as-read w cs, ← ran-as-read w cs)

-- A call on a record in range leaves a record in range.
pub call-range : (w : Work) (s : Supply) (c : Call) → supply_in_range s ≡ true
    → supply_in_range (supply_by s (entered w s c)) ≡ true
call-range w s c h = go (entered w s c) (call_enters (λ e. Unit {0}) w s c (anything w c))
  where
    go : (x : Entered) → Enters (λ e. Unit {0}) s x → supply_in_range (supply_by s x) ≡ true
    go (enters e t) k = took-range s e t h k.0
    go nothing k = h

pub ran-range : (w : Work) (cs : List Call) → supply_in_range (ran w cs) ≡ true
unfolding ran
ran-range w [] = fresh-supply-range w.permission
ran-range w (c ∷ cs) = call-range w (ran w cs) c (ran-range w cs)

-- A corrective order while stopped, typed or handed over, gives tightened.
corrects : (s : Supply) → supply_in_range s ≡ true → s.switching.severity ≡ stopped
    → (t : Supply) × (moved s corrective ≡ given t) × (t.switching.severity ≡ tightened)
unfolding move step on_corrective
corrects s h q = (_, passes (move s corrective) h ∙ taken (leb stopped s.switching.severity) _ stands, refl)
  where
    stands : leb stopped s.switching.severity ≡ true
    stands = le-leb stopped s.switching.severity (omega arith)

    passes : (a : Answer Supply) → supply_in_range s ≡ true → on_supply s a ≡ a
    passes a h = rw h

    taken : (d : Bool) (r : Record) → d ≡ true
        → and_then (cond d (given r) (refused not_stopped 0))
        (λ x. given (supply_of x (clean_after s.switching.severity x.severity s.clean corrective)))
        ≡ given (supply_of r (clean_after s.switching.severity r.severity s.clean corrective))
    taken d r e = rw e

pub ran-corrected : (w : Work) (c : Call) (cs : List Call) → Corrects c → (ran w cs).switching.severity ≡ stopped
    → (ran w (c ∷ cs)).switching.severity ≡ tightened
unfolding next event_in event_of
ran-corrected w c cs (inl e) q =
    let t = corrects (ran w cs) (ran-range w cs) q in
    rw e (ap (λ (t : Supply). t.switching.severity) ((byte-records w cs 9).recorded t.0 t.1).0 ∙ t.2)
ran-corrected w c cs (inr e) q =
    let t = corrects (ran w cs) (ran-range w cs) q in
    rw e (ap (λ (t : Supply). t.switching.severity) ((event-records w cs corrective).recorded t.0 t.1).0 ∙ t.2)
