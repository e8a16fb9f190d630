-- Resubmitted lots change nothing: a history that is not refused is not refused without them, and has the same
-- severities at the events that are left; and one put in where the severity is not stopped refuses nothing and changes
-- no severity of the rest.
-- Assumes nothing.
use Prim.Native.Nat.{◌≤◌}
use mathlib.Core.Path.{◌≡◌, refl, sym, ap, ◌∙◌}
use mathlib.Core.Bool.{Bool, true, false, cond, not, false≢true}
use mathlib.Core.List.{List, [], ◌∷◌, ◌++◌}
use native.Mathlib.Omega.{arith}
use borrow.Author.Tests.{lt-leb}
use lib.Dec.{leb}
use Rattle.rules.specs.Refusals.{refused, given, while_stopped}
use Rattle.rules.specs.Codes.{stopped}
use Rattle.rules.specs.Severity.{Event, lot, resubmitted, steady_is, permission_is, corrective, unknown, Record}
use Rattle.rules.specs.Severity.{on_resubmitted, step}
use Rattle.rules.specs.Reading.{Stay, steady_in, permission_in, read_event, stay_after, severity_read}
use Rattle.rules.specs.Reading.{is_resubmitted, without_resubmitted, severities_at}
use Rattle.rules.specs.History.{after_from, after}
use Rattle.rules.proofs.Answers.{given-one, refused-given}
use Rattle.rules.proofs.Append.{one-event, and-one-event, stretches, and-later}
use Rattle.rules.proofs.Agreement.{severity-agrees}
use Rattle.rules.proofs.Stays.{severity-fits}

-- two histories after which the written reading finds the same
abbrev Same : Bool → List Event → List Event → Type 0
Same start es fs =
    (stay_after start es ≡ stay_after start fs)
    × (steady_in es ≡ steady_in fs)
    × (permission_in start es ≡ permission_in start fs)

same-after : (start : Bool) (e : Event) (es fs : List Event) → Same start es fs → Same start (e ∷ es) (e ∷ fs)
unfolding stay_after steady_in permission_in
same-after start e es fs h = rw (h.0, h.1, h.2) (refl, refl, refl)

same-later : (start : Bool) (later es fs : List Event) → Same start es fs → Same start (later ++ es) (later ++ fs)
same-later start [] es fs h = h
same-later start (e ∷ later) es fs h = same-after start e (later ++ es) (later ++ fs) (same-later start later es fs h)

same-resubmitted : (start : Bool) (es fs : List Event) → Same start es fs → Same start es (resubmitted ∷ fs)
unfolding stay_after steady_in permission_in read_event
same-resubmitted start es fs h = h

-- by cases on whether an event is left
pub by-resubmitted : {P : Type 0} (e : Event) → (e ≡ resubmitted → P) → (is_resubmitted e ≡ false → P) → P
by-resubmitted (lot o l) f g = g refl
by-resubmitted resubmitted f g = f refl
by-resubmitted (steady_is b) f g = g refl
by-resubmitted (permission_is b) f g = g refl
by-resubmitted corrective f g = g refl
by-resubmitted unknown f g = g refl

pub is-resubmitted : (e : Event) → is_resubmitted e ≡ true → e ≡ resubmitted
is-resubmitted e h = by-resubmitted e (λ q. q) (λ q. absurd (false≢true (sym q ∙ h)))

same-without : (start : Bool) (es : List Event) → Same start (without_resubmitted es) es
unfolding without_resubmitted
same-without start [] = (refl, refl, refl)
same-without start (e ∷ es) =
    let h = same-without start es in
    by-resubmitted e
    (λ q. rw q (same-resubmitted start (without_resubmitted es) es h))
    (λ q. rw q (same-after start e (without_resubmitted es) es h))

-- The severities at the events that are left are the same, at each of them.
pub left-severities : (start : Bool) (es : List Event)
    → severities_at (λ e. true) start (without_resubmitted es) ≡ severities_at (λ e. not (is_resubmitted e)) start es
unfolding severities_at without_resubmitted
left-severities start [] = refl
left-severities start (e ∷ es) =
    let h = left-severities start es in
    let s : severity_read start (e ∷ without_resubmitted es) ≡ severity_read start (e ∷ es) =
    ap (λ (y : Stay). y.severity) (same-after start e (without_resubmitted es) es (same-without start es)).0 in
    by-resubmitted e (λ q. rw q h) (λ q. rw (q, h, s))

-- a resubmitted lot leaves the record as it is, unless it is refused
pub resubmitted-step : (r t : Record) (e : Event) → e ≡ resubmitted → step r e ≡ given t → t ≡ r
unfolding step on_resubmitted
resubmitted-step r t e h q = go (leb stopped r.severity) (rw h at q)
  where
    go : (d : Bool) → cond d (refused while_stopped 0) (given r) ≡ given t → t ≡ r
    go true q = absurd (refused-given q)
    go false q = sym (given-one q)

step-resubmitted : (r : Record) → r.severity ≤ 2 → step r resubmitted ≡ given r
unfolding step on_resubmitted
step-resubmitted r h = rw (lt-leb stopped r.severity (omega arith))

-- A history that is not refused is not refused without them, and leaves the same record.
pub without-resubmitted : (r t : Record) (es : List Event) → after_from r es ≡ given t
    → after_from r (without_resubmitted es) ≡ given t
unfolding after_from without_resubmitted
without-resubmitted r t [] q = q
without-resubmitted r t (e ∷ es) q =
    let w = one-event r t e es q in
    let h = without-resubmitted r w.0 es w.1 in
    by-resubmitted e
    (λ x. rw (x, resubmitted-step w.0 t e x w.2) h)
    (λ x. rw x (and-one-event r w.0 t e (without_resubmitted es) h w.2))

-- One put in where the severity is not stopped refuses nothing of the rest, and the record after the rest is the same.
pub resubmitted-in : (start : Bool) (t : Record) (later es : List Event) → (severity_read start es ≡ stopped → ⊥)
    → after start (later ++ es) ≡ given t → after start (later ++ (resubmitted ∷ es)) ≡ given t
resubmitted-in start t later es n q =
    let w = stretches _ t later es q in
    let s : step w.0 resubmitted ≡ given w.0 =
    step-resubmitted w.0 (omega (arith, severity-agrees start es w.0 w.1, severity-fits start es)) in
    and-later _ w.0 t later (resubmitted ∷ es) (and-one-event _ w.0 w.0 resubmitted es w.1 s) w.2

-- It changes no severity of the rest, wherever it is put in.
pub resubmitted-reads : (start : Bool) (later es : List Event)
    → severity_read start (later ++ (resubmitted ∷ es)) ≡ severity_read start (later ++ es)
resubmitted-reads start later es =
    ap (λ (y : Stay). y.severity)
    (sym (same-later start later es (resubmitted ∷ es) (same-resubmitted start es es (refl, refl, refl))).0)
