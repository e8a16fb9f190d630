-- Demand 3, each sentence a theorem, of histories and of runs of calls; what a run records; by what each severity is
-- left; and of document 02, fractions, the points of staged lots and curtailed samples. A history is its events, newest
-- first; those of a history of bytes are `past w h (length h)`, the bytes' events turned round (`past-whole`). A run
-- starts from a fresh record, and refused calls are dropped. For any permission at the start, and any work.
-- Assumes nothing.
use Prim.Native.Nat.{ℕ, suc}
use mathlib.Core.Path.{◌≡◌, sym, ap, ◌∙◌}
use mathlib.Core.Bool.{Bool, true, false, not}
use mathlib.Core.List.{List, [], ◌∷◌, ◌++◌, map, reverse}
use mathlib.Core.Logic.{◌⊎◌, inl, inr}
use native.Mathlib.Omega.{arith}
use lib.ListN.{length, take}
use Rattle.rules.specs.Refusals.{Answer, given}
use Rattle.rules.specs.Verdict.{Verdict, Judged}
use Rattle.rules.specs.Codes.{normal, tightened, reduced, stopped}
use Rattle.rules.specs.Severity.{Lot, Origin, typed, lot}
use Rattle.rules.specs.Severity.{Event, resubmitted, corrective, Record, fresh, step, in_range}
use Rattle.rules.specs.Supply.{Supply, fresh_supply, counts_on, supply_in_range}
use Rattle.rules.specs.CleanReading.{origins_in, all_origins, present_lots, supply_read}
use Rattle.rules.specs.Single.{Plan}
use Rattle.rules.specs.Staged.{StagedPlan}
use Rattle.rules.specs.Fractional.{FractionalPlan}
use Rattle.rules.specs.Reading.{severity_read, record_read, stays_in, is_resubmitted}
use Rattle.rules.specs.Reading.{without_resubmitted, severities_at, steady_in, permission_in}
use Rattle.rules.specs.History.{Work, knows, event_of, event_in, after_from, after, past, after_history, without_fours}
use Rattle.rules.specs.Entries.{Closed, asked_on, staged_counts}
use Rattle.rules.specs.Scoring.{EntersByStage}
use Rattle.rules.specs.Judging.{Begins, LegalFull}
use Rattle.rules.specs.Entries.{Asked, Offered, close_single, close_staged, close_fractional}
use Rattle.rules.specs.Entries.{close_curtailed, judge_curtailed}
use Rattle.rules.specs.Entries.{close_total, next, moved, judge_single, judge_staged, judge_total, judge_fractional}
use Rattle.rules.specs.Limits.{Spread, Limits}
use Rattle.rules.specs.Runs.{Call, single, curtailed, fractional, staged, total, byte, sequential, readings}
use Rattle.rules.specs.Runs.{entered, is_resubmission, without_resubmissions, supply_by, ran, events_ran, bytes_ran}
use Rattle.rules.specs.Runs.{event, events_read, EntersAs, Corrects, Idle, Records, ClosesLot, ByCall, asked_at}
use Rattle.rules.specs.Runs.{AskedAsRead}
use Rattle.rules.specs.LogRuns.{calls_after, held_from}
use Rattle.rules.specs.Switching.{AcceptedAfter, FractionCounts, Every, AtMost25, Whole, NormalLeft}
use Rattle.rules.specs.Switching.{TightenedLeft, ReducedLeft}
use Rattle.rules.specs.Switching.{ReducedStarts}
use Rattle.rules.proofs.Demands.Two.{close-single-given, close-staged-given, close-total-given}
use Rattle.rules.proofs.Demands.Two.{judge-staged-given}
use Rattle.rules.proofs.Demands.Curtailed.{close-curtailed-given, close-curtailed-as-full}
use Rattle.rules.proofs.GivenPlans.{staged-given}
use Rattle.rules.proofs.Points.{staged-counts}
use Rattle.rules.proofs.Range.{step-range, after-range}
use Rattle.rules.proofs.Agreement.{agree, severity-agrees, orders-agree}
use Rattle.rules.proofs.Stays.{tightened-stays, stays-whole}
use Rattle.rules.proofs.Switches.{stopped-left, stopped-corrected, tightened-left, reduced-left, reduced-starts}
use Rattle.rules.proofs.Leaving.{normal-left}
use Rattle.rules.proofs.LogRuns.{held-ran}
use Rattle.rules.proofs.CleanRuns.{origins-newest}
use Rattle.rules.proofs.FractionRuns.{half-in-run, third-in-run, call-fractions}
use Rattle.rules.proofs.Moving.{typed-byte}
use Rattle.rules.proofs.Resubmitted.{left-severities, without-resubmitted, resubmitted-in, resubmitted-reads}
use Rattle.rules.proofs.Bytes.{corrective-byte, past-more, past-whole, past-append, past-put-in, past-without}
use Rattle.rules.proofs.Runs.{ran-agrees, ran-as-read, ran-agrees-bytes, ran-resubmitted, ran-without, one-call}
use Rattle.rules.proofs.Runs.{by-call}
use Rattle.rules.proofs.Runs.{call-range, ran-range, ran-corrected, events-as-read, single-closes, staged-closes}
use Rattle.rules.proofs.Runs.{curtailed-closes, fractional-closes, call-enters-as, later-alike}
use Rattle.rules.proofs.Runs.{total-closes, byte-records, event-records, sequential-idle, readings-idle}

-- 1. The record folded over any history not refused has the severity of the written reading, and all its figures.
module _ (start : Bool) (es : List Event) (r : Record) (q : after start es ≡ given r) where
  pub history-severity : r.severity ≡ severity_read start es
  history-severity = severity-agrees start es r q

  pub history-record : r ≡ record_read start es
  history-record = agree start es r q

  -- steady and permission are those last ordered, else those at the start: what each event leaves of them stands in
  -- Orders (`steady-stays`, `permission-stays`, `no-order`)
  pub history-orders : (r.steady ≡ steady_in es) × (r.permission ≡ permission_in start es)
  history-orders = orders-agree start es r q

pub bytes-record : (w : Work) (h : List ℕ) (r : Record) → after_history w h ≡ given r
    → r ≡ record_read w.permission (reverse (map (event_in w) h))
bytes-record w h r q =
    agree w.permission (past w h (length h)) r q ∙ ap (record_read w.permission) (past-whole w h)

-- What a run records: each call that is given, its record and its event; a refused call, a sequential verdict and one
-- on readings, nothing.
module _ (w : Work) (cs : List Call) where
  pub run-closes-single : (o : Offered) (book sample : List ℕ)
      → ClosesLot w cs (single o book sample) (close_single (ran w cs) o book sample)
  run-closes-single o book sample = single-closes w cs o book sample

  pub run-closes-curtailed : (o : Offered) (book sample : List ℕ)
      → ClosesLot w cs (curtailed o book sample) (close_curtailed (ran w cs) o book sample)
  run-closes-curtailed o book sample = curtailed-closes w cs o book sample

  pub run-closes-fractional : (o : Offered) (book sample : List ℕ)
      → ClosesLot w cs (fractional o book sample) (close_fractional (ran w cs) o book sample)
  run-closes-fractional o book sample = fractional-closes w cs o book sample

  pub run-closes-staged : (o : Offered) (book sample : List ℕ)
      → ClosesLot w cs (staged o book sample) (close_staged (ran w cs) o book sample)
  run-closes-staged o book sample = staged-closes w cs o book sample

  pub run-closes-total : (o : Offered) (d : ℕ)
      → ClosesLot w cs (total o d) (close_total (ran w cs) o d)
  run-closes-total o d = total-closes w cs o d

  pub run-takes-byte : (b : ℕ) → Records w cs (byte b) (next w (ran w cs) b) (λ t. t) (λ t. event_in w b)
  run-takes-byte b = byte-records w cs b

  -- close_lot: the event as it counts on the record
  pub run-takes-event : (e : Event)
      → Records w cs (event e) (moved (ran w cs) e) (λ t. t) (λ t. counts_on (ran w cs) e)
  run-takes-event e = event-records w cs e

  pub run-drops-sequential : (q : Asked) (book sample : List ℕ) → Idle w cs (sequential q book sample)
  run-drops-sequential q book sample = sequential-idle w cs q book sample

  pub run-drops-readings : (m : Spread) (limits : Limits) (q : Asked) (lower : ℕ) (book sample : List ℕ)
      → Idle w cs (readings m limits q lower book sample)
  run-drops-readings m limits q lower book sample = readings-idle w cs m limits q lower book sample

module _ (w : Work) (cs : List Call) where
  pub run-severity : (ran w cs).switching.severity ≡ severity_read w.permission (events_ran w cs)
  run-severity = severity-agrees w.permission (events_ran w cs) (ran w cs).switching (ran-agrees w cs)

  -- the events found from the calls and the written reading alone
  pub run-events : events_read w cs ≡ events_ran w cs
  run-events = events-as-read w cs

  pub run-orders : ((ran w cs).switching.steady ≡ steady_in (events_ran w cs))
      × ((ran w cs).switching.permission ≡ permission_in w.permission (events_ran w cs))
  run-orders = orders-agree w.permission (events_ran w cs) (ran w cs).switching (ran-agrees w cs)

  -- the whole record, with its clean run
  pub run-record : ran w cs ≡ supply_read w.permission (events_ran w cs)
  run-record = ran-as-read w cs

  -- of the bytes that the calls stand for; they do not tell the clean run
  pub run-record-bytes : (ran w cs).switching ≡ record_read w.permission (map event_of (bytes_ran w cs))
  run-record-bytes = agree w.permission (map event_of (bytes_ran w cs)) (ran w cs).switching (ran-agrees-bytes w cs)

-- lotlog's lines are such a run: the record that it holds after them has the severity and all the figures of the
-- written reading of the events that the lines stand for, so that what is said of runs holds of lotlog.
module _ (w : Work) (lines : List (List ℕ)) where
  pub log-run : held_from w 1 (fresh_supply w.permission) lines ≡ ran w (calls_after w [] lines)
  unfolding ran
  log-run = held-ran w 1 [] lines

  pub log-severity : (held_from w 1 (fresh_supply w.permission) lines).switching.severity
      ≡ severity_read w.permission (events_ran w (calls_after w [] lines))
  log-severity = ap (λ (s : Supply). s.switching.severity) log-run ∙ run-severity w (calls_after w [] lines)

  pub log-record : held_from w 1 (fresh_supply w.permission) lines
      ≡ supply_read w.permission (events_ran w (calls_after w [] lines))
  log-record = log-run ∙ run-record w (calls_after w [] lines)

-- A lot closed in a run, resubmitted or not, is judged at the severity that the written reading of the events so far
-- finds.
module _ (w : Work) (cs : List Call) (o : Offered) where
  as-read : {P : Type 0} (judge : Asked → Answer (Judged P Verdict)) (j : Judged P Verdict)
      → judge (asked_at (ran w cs).switching.severity o) ≡ given j
      → judge (asked_at (severity_read w.permission (events_ran w cs)) o) ≡ given j
  as-read judge j q = rw (← run-severity w cs) q

  pub single-asked-as-read : (book sample : List ℕ)
      → AskedAsRead w cs o (close_single (ran w cs) o book sample) (λ q. judge_single q book sample)
  single-asked-as-read book sample c g =
      as-read (λ q. judge_single q book sample) c.judged
      ((close-single-given (ran w cs) o book sample c).0 g).as-judged

  pub curtailed-asked-as-read : (book sample : List ℕ)
      → AskedAsRead w cs o (close_curtailed (ran w cs) o book sample) (λ q. judge_curtailed q book sample)
  curtailed-asked-as-read book sample c g =
      as-read (λ q. judge_curtailed q book sample) c.judged
      ((close-curtailed-given (ran w cs) o book sample c).0 g).as-judged

  pub staged-asked-as-read : (book sample : List ℕ)
      → AskedAsRead w cs o (close_staged (ran w cs) o book sample) (λ q. judge_staged q book sample)
  staged-asked-as-read book sample c g =
      as-read (λ q. judge_staged q book sample) c.judged
      ((close-staged-given (ran w cs) o book sample c).0 g).as-judged

  pub total-asked-as-read : (d : ℕ) → AskedAsRead w cs o (close_total (ran w cs) o d) (λ q. judge_total q d)
  total-asked-as-read d c g =
      as-read (λ q. judge_total q d) c.judged ((close-total-given (ran w cs) o d c).0 g).as-judged

-- 2. A tightened stay holds at most 25 original lots and at most five not accepted: every stay of the history.
pub history-tightened : (start : Bool) (es : List Event) → Every AtMost25 (stays_in start es)
history-tightened start es = tightened-stays start es

pub run-tightened : (w : Work) (cs : List Call) → Every AtMost25 (stays_in w.permission (events_ran w cs))
run-tightened w cs = tightened-stays w.permission (events_ran w cs)

-- The stays are the whole history: their lots are its original lots, newest first, neighbours differ in severity, and
-- the first has the written reading's.
pub history-stays : (start : Bool) (es : List Event) → Whole (severity_read start es) es (stays_in start es)
history-stays start es = stays-whole start es

-- 3. Stopped is left only by a corrective order.
pub history-stopped : (start : Bool) (e : Event) (es : List Event) → severity_read start es ≡ stopped
    → (severity_read start (e ∷ es) ≡ stopped) ⊎ (e ≡ corrective)
history-stopped start e es h = stopped-left start e es h

-- It gives tightened.
pub history-corrected : (start : Bool) (es : List Event) → severity_read start es ≡ stopped
    → severity_read start (corrective ∷ es) ≡ tightened
history-corrected start es h = stopped-corrected start es h

-- byte 9 is that order
pub bytes-stopped : (w : Work) (h : List ℕ) (b : ℕ) → severity_read w.permission (past w h (length h)) ≡ stopped
    → (severity_read w.permission (past w (h ++ (b ∷ [])) (length (h ++ (b ∷ [])))) ≡ stopped) ⊎ (b ≡ 9)
bytes-stopped w h b s =
    rw (past-more w h b) (go (stopped-left w.permission (event_in w b) (past w h (length h)) s))
  where
    go : {P : Type 0} → P ⊎ (event_in w b ≡ corrective) → P ⊎ (b ≡ 9)
    go (inl p) = inl p
    go (inr e) = inr (corrective-byte w b e)

-- the severity after one call that entered an event
after-call : (w : Work) (c : Call) (cs : List Call) (e : Event) → events_ran w (c ∷ cs) ≡ e ∷ events_ran w cs
    → (ran w (c ∷ cs)).switching.severity ≡ severity_read w.permission (e ∷ events_ran w cs)
after-call w c cs e q = run-severity w (c ∷ cs) ∙ ap (severity_read w.permission) q

-- in a run by byte 9, or by that event handed to close_lot
pub run-stopped : (w : Work) (c : Call) (cs : List Call) → (ran w cs).switching.severity ≡ stopped
    → ((ran w (c ∷ cs)).switching.severity ≡ stopped) ⊎ Corrects c
run-stopped w c cs h = go (one-call w c cs)
  where
    left : (e : Event) → events_ran w (c ∷ cs) ≡ e ∷ events_ran w cs → (e ≡ corrective → Corrects c)
        → (severity_read w.permission (e ∷ events_ran w cs) ≡ stopped) ⊎ (e ≡ corrective)
        → ((ran w (c ∷ cs)).switching.severity ≡ stopped) ⊎ Corrects c
    left e q f (inl s) = inl (after-call w c cs e q ∙ s)
    left e q f (inr s) = inr (f s)

    go : ByCall w c cs (λ e s. e ≡ corrective → Corrects c)
        → ((ran w (c ∷ cs)).switching.severity ≡ stopped) ⊎ Corrects c
    go (inl q) = inl (ap (λ (s : Supply). s.switching.severity) q.0 ∙ h)
    go (inr x) =
        left x.0 x.1 x.2
        (stopped-left w.permission x.0 (events_ran w cs) (sym (run-severity w cs) ∙ h))

pub run-corrected : (w : Work) (c : Call) (cs : List Call) → Corrects c → (ran w cs).switching.severity ≡ stopped
    → (ran w (c ∷ cs)).switching.severity ≡ tightened
run-corrected w c cs k h = ran-corrected w c cs k h

-- Normal is left for tightened exactly by a lot not accepted that makes two among the last five of that stay, for
-- reduced exactly by a lot or an order after which the points are 30, steady and permission stand; tightened for normal
-- exactly by the fifth accepted in a row of that stay, for stopped exactly by its fifth not accepted; reduced exactly
-- by a lot not accepted or an order that withdraws, for normal.
module _ (start : Bool) (e : Event) (es : List Event) where
  pub history-leaves-normal : severity_read start es ≡ normal → NormalLeft start es e (severity_read start (e ∷ es))
  history-leaves-normal h = normal-left start e es h

  pub history-leaves-tightened : severity_read start es ≡ tightened
      → TightenedLeft start es e (severity_read start (e ∷ es))
  history-leaves-tightened h = tightened-left start e es h

  pub history-leaves-reduced : severity_read start es ≡ reduced → ReducedLeft e (severity_read start (e ∷ es))
  history-leaves-reduced h = reduced-left start e es h

-- so of a run: a call leaves all as it was, or enters one event, which leaves the severity so
module _ (w : Work) (c : Call) (cs : List Call) where
  pub run-leaves-normal : (ran w cs).switching.severity ≡ normal
      → ByCall w c cs (NormalLeft w.permission (events_ran w cs))
  run-leaves-normal h =
      by-call w c cs (NormalLeft w.permission (events_ran w cs))
      (λ e. normal-left w.permission e (events_ran w cs) (sym (run-severity w cs) ∙ h))

  pub run-leaves-tightened : (ran w cs).switching.severity ≡ tightened
      → ByCall w c cs (TightenedLeft w.permission (events_ran w cs))
  run-leaves-tightened h =
      by-call w c cs (TightenedLeft w.permission (events_ran w cs))
      (λ e. tightened-left w.permission e (events_ran w cs) (sym (run-severity w cs) ∙ h))

  pub run-leaves-reduced : (ran w cs).switching.severity ≡ reduced → ByCall w c cs ReducedLeft
  run-leaves-reduced h =
      by-call w c cs ReducedLeft
      (λ e. reduced-left w.permission e (events_ran w cs) (sym (run-severity w cs) ∙ h))

-- 4. When reduced starts, it was normal, steady and permission stand, and the last ten original lots of that normal
-- stay were all accepted.
pub history-reduced : (start : Bool) (e : Event) (es : List Event) → (severity_read start es ≡ reduced → ⊥)
    → severity_read start (e ∷ es) ≡ reduced → ReducedStarts start e es
history-reduced start e es n h = reduced-starts start e es n h

pub run-reduced : (w : Work) (c : Call) (cs : List Call) → ((ran w cs).switching.severity ≡ reduced → ⊥)
    → (ran w (c ∷ cs)).switching.severity ≡ reduced
    → (e : Event) × (events_ran w (c ∷ cs) ≡ e ∷ events_ran w cs) × ReducedStarts w.permission e (events_ran w cs)
run-reduced w c cs n h = go (one-call w c cs)
  where
    go : ByCall w c cs (λ e s. e ≡ corrective → Corrects c)
        → (e : Event) × (events_ran w (c ∷ cs) ≡ e ∷ events_ran w cs) × ReducedStarts w.permission e (events_ran w cs)
    go (inl q) = absurd (n (ap (λ (s : Supply). s.switching.severity) (sym q.0) ∙ h))
    go (inr x) = (
      x.0,
      x.1,
      reduced-starts w.permission x.0 (events_ran w cs) (λ s. n (run-severity w cs ∙ s))
          (sym (after-call w c cs x.0 x.1) ∙ h),
    )

-- 5. If a history is not refused, then without its resubmitted lots it is not refused, leaves the same record, and has
-- the same severities at the events that are left.
pub history-without : (start : Bool) (es : List Event) (r : Record) → after start es ≡ given r
    → (after start (without_resubmitted es) ≡ given r)
    × (severities_at (λ e. true) start (without_resubmitted es) ≡ severities_at (λ e. not (is_resubmitted e)) start es)
history-without start es r q = (without-resubmitted (fresh start) r es q, left-severities start es)

-- of bytes, where the work knows byte 4
pub bytes-without : (w : Work) (h : List ℕ) (r : Record) → knows w 4 ≡ true → after_history w h ≡ given r
    → (after_history w (without_fours h) ≡ given r)
    × (severities_at (λ e. true) w.permission (past w (without_fours h) (length (without_fours h)))
    ≡ severities_at (λ e. not (is_resubmitted e)) w.permission (past w h (length h)))
bytes-without w h r known q =
    rw (past-without w known h) (history-without w.permission (past w h (length h)) r q)

pub run-without : (w : Work) (cs : List Call)
    → (ran w (without_resubmissions w cs) ≡ ran w cs)
    × (after w.permission (without_resubmitted (events_ran w cs)) ≡ given (ran w cs).switching)
    × (severities_at (λ e. true) w.permission (without_resubmitted (events_ran w cs))
    ≡ severities_at (λ e. not (is_resubmitted e)) w.permission (events_ran w cs))
run-without w cs =
    let x = history-without w.permission (events_ran w cs) (ran w cs).switching (ran-agrees w cs) in
    (ran-without w cs, x.0, x.1)

-- A resubmitted lot put in anywhere where the severity is not stopped refuses nothing of the rest and changes no
-- severity of it: whatever comes later.
pub history-put-in : (start : Bool) (later es : List Event) (r : Record) → (severity_read start es ≡ stopped → ⊥)
    → after start (later ++ es) ≡ given r
    → (after start (later ++ (resubmitted ∷ es)) ≡ given r)
    × (severity_read start (later ++ (resubmitted ∷ es)) ≡ severity_read start (later ++ es))
history-put-in start later es r n q = (resubmitted-in start r later es n q, resubmitted-reads start later es)

pub bytes-put-in : (w : Work) (earlier later : List ℕ) (r : Record) → knows w 4 ≡ true
    → (severity_read w.permission (past w earlier (length earlier)) ≡ stopped → ⊥)
    → after_history w (earlier ++ later) ≡ given r
    → (after_history w (earlier ++ (4 ∷ later)) ≡ given r)
    × (severity_read w.permission (past w (earlier ++ (4 ∷ later)) (length (earlier ++ (4 ∷ later))))
    ≡ severity_read w.permission (past w (earlier ++ later) (length (earlier ++ later))))
bytes-put-in w earlier later r known n q =
    rw (past-put-in w known earlier later, past-append w earlier later)
    (history-put-in w.permission (past w later (length later)) (past w earlier (length earlier)) r n
    (rw (past-append w earlier later) at q))

-- in a run a resubmitted lot that is refused is dropped, so that none changes a record of the rest
pub run-put-in : (w : Work) (later : List Call) (c : Call) (cs : List Call) → is_resubmission w c ≡ true
    → ran w (later ++ (c ∷ cs)) ≡ ran w (later ++ cs)
run-put-in w later c cs h = ran-resubmitted w later c cs h

-- 6. A record in range stays in range: by one event, over a history from any record in range, by any call, and over a
-- run.
pub event-range : (r : Record) (e : Event) (t : Record) → in_range r ≡ true → step r e ≡ given t → in_range t ≡ true
event-range r e t h q = step-range r e t h q

pub history-range : (r : Record) (es : List Event) (t : Record) → in_range r ≡ true → after_from r es ≡ given t
    → in_range t ≡ true
history-range r es t h q = after-range r es t h q

pub bench-range : (w : Work) (s : Supply) (c : Call) → supply_in_range s ≡ true
    → supply_in_range (supply_by s (entered w s c)) ≡ true
bench-range w s c h = call-range w s c h

pub run-range : (w : Work) (cs : List Call) → supply_in_range (ran w cs) ≡ true
run-range w cs = ran-range w cs

-- 7. Fractions in a run. A lot is judged by the clean run that the written reading of the events so far finds ..
pub fractional-asked-as-read : (w : Work) (cs : List Call) (o : Offered) (book sample : List ℕ)
    → judge_fractional (ran w cs) o book sample
    ≡ judge_fractional (supply_read w.permission (events_ran w cs)) o book sample
fractional-asked-as-read w cs o book sample =
    ap (λ (s : Supply). judge_fractional s o book sample) (ran-as-read w cs)

-- .. and accepted exactly where it has no nonconforming item, or one and the newest original lots of this stay were
-- entered with clean samples on the same plan: under 1/2 the newest, under 1/3 the newest two.
module _ (w : Work) (cs : List Call) (o : Offered) (book sample : List ℕ) (j : Judged FractionalPlan Verdict)
    (g : judge_fractional (ran w cs) o book sample ≡ given j) where
  abbrev After : ℕ → Type 0
  After k =
      AcceptedAfter k j.plan.plan.letter o.column (origins_in w.permission (events_ran w cs))
      j.verdict.total j.verdict.accepted

  pub run-half : j.plan.share ≡ 2 → After 1
  run-half s = half-in-run w cs o book sample j g s

  pub run-third : j.plan.share ≡ 3 → After 2
  run-third s = third-in-run w cs o book sample j g s

-- So counts every lot that a call enters as on a fraction, closed or handed over. Only these two enter one: a lot
-- closed in the old mode or in stages is sampled, and one typed as a byte is typed.
module _ (w : Work) (c : Call) (cs : List Call) where
  pub run-counts-fractions :
      ByCall w c cs
      (λ e s.
      FractionCounts (severity_read w.permission (events_ran w cs)) (origins_in w.permission (events_ran w cs)) e)
  run-counts-fractions = call-fractions w c cs

  pub run-enters-as : ByCall w c cs (λ e s. EntersAs w c e)
  run-enters-as = call-enters-as w c cs

pub byte-is-typed : (w : Work) (b : ℕ) (o : Origin) (l : Lot) → event_in w b ≡ lot o l → o ≡ typed
byte-is-typed w b o l e = typed-byte o l w b e

-- The lots of the stay are the newest of all that the run closed, typed or was handed over, as many as the present stay
-- has.
pub run-present : (w : Work) (cs : List Call)
    → origins_in w.permission (events_ran w cs)
    ≡ take (length (present_lots (stays_in w.permission (events_ran w cs)))) (all_origins (events_ran w cs))
run-present w cs = origins-newest w.permission (events_ran w cs)

-- 8. Points of staged lots: on a record that is lent; and in a run, at the severity that the written reading finds.
-- Document 02, T-02: "Demand 3 reads this rule from now on". Which stage decides is said by `judge-staged-given`, the
-- record after by `close-staged-given` and `original-lot`, and what the run records by `run-closes-staged`.
pub closed-by-stage : (s : Supply) (o : Offered) (book sample : List ℕ) (c : Closed StagedPlan)
    → close_staged s o book sample ≡ given c → o.again ≡ false → EntersByStage s.switching.severity c
closed-by-stage s o book sample c g a =
    let k = (close-staged-given s o book sample c).0 g in
    let j = (judge-staged-given (asked_on s.switching o) book sample c.judged).0 k.as-judged in
    let of_plan : c.judged.plan.stages ≡ c.judged.verdict.stages =
    ap (λ (v : Verdict). v.stages) j.1.verdict in
    let stage : suc j.1.done ≡ c.judged.verdict.stage = ap (λ (v : Verdict). v.stage) j.1.verdict in
    record {
      few = (staged-given (asked_on s.switching o) book c.judged.plan j.0).few;
      among = (omega (arith, stage), omega (arith, stage, j.1.among));
      counts = staged_counts s.switching o c.judged;
      enters = rw a at k.stands;
      as-said = rw of_plan (staged-counts s.switching o c.judged);
    }

pub run-counts-stages : (w : Work) (cs : List Call) (o : Offered) (book sample : List ℕ) (c : Closed StagedPlan)
    → close_staged (ran w cs) o book sample ≡ given c → o.again ≡ false
    → EntersByStage (severity_read w.permission (events_ran w cs)) c
run-counts-stages w cs o book sample c g a =
    rw (← run-severity w cs) (closed-by-stage (ran w cs) o book sample c g a)

-- 9. Curtailed samples in a run. Document 02, T-04: "Accepted or not, and the next record, equal those of the full
-- count on every legal full sample that begins so": with that sample counted in full in its place, and whatever comes
-- later, the run leaves the same record, and so the same severities.
pub run-curtailed-as-full : (w : Work) (later cs : List Call) (o : Offered) (book sample full : List ℕ)
    → Begins sample full → (c : Closed Plan) → close_curtailed (ran w cs) o book sample ≡ given c
    → LegalFull o.column c.judged.plan full
    → (ran w (later ++ (curtailed o book sample ∷ cs)) ≡ ran w (later ++ (single o book full ∷ cs)))
    × (events_ran w (later ++ (curtailed o book sample ∷ cs)) ≡ events_ran w (later ++ (single o book full ∷ cs)))
run-curtailed-as-full w later cs o book sample full b c g f =
    let d = close-curtailed-as-full (ran w cs) o book sample full b c g f in
    let x = (curtailed-closes w cs o book sample).recorded c g in
    let y = (single-closes w cs o book full).recorded d.0 d.1 in
    later-alike w later (curtailed o book sample ∷ cs) (single o book full ∷ cs)
    (x.0 ∙ d.2.same-record ∙ sym y.0)
    (x.1 ∙ ap (λ (e : Event). e ∷ events_ran w cs) d.2.same-event ∙ sym y.1)
