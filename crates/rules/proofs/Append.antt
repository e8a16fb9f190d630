-- A history in two stretches: the later one goes on from the record that the earlier one leaves, and a refusal in it
-- stands that much further on.
-- Assumes nothing.
use Prim.Native.Nat.{ℕ, ◌+◌}
use mathlib.Core.Path.{◌≡◌, refl, sym, ◌∙◌}
use mathlib.Core.List.{List, [], ◌∷◌, ◌++◌}
use lib.ListN.{length, length-append}
use Rattle.rules.specs.Refusals.{Answer, refused, given, and_then}
use Rattle.rules.specs.Severity.{Event, Record, step}
use Rattle.rules.specs.History.{placed, after_from}
use Rattle.rules.proofs.Answers.{refused-given, then-given, placed-given}

-- a refusal k places further on
abbrev pub further_on : {A : Type 0} → ℕ → Answer A → Answer A
further_on k (refused n p) = refused n (p + k)
further_on k (given a) = given a

goes-on : (k i : ℕ) (e : Event) (a : Answer Record)
    → and_then (further_on k a) (λ t. placed (i + k) (step t e)) ≡ further_on k (and_then a (λ t. placed i (step t e)))
goes-on k i e (refused n p) = refl
goes-on k i e (given t) = go (step t e)
  where
    go : (a : Answer Record) → placed (i + k) a ≡ further_on k (placed i a)
    go (refused n p) = refl
    go (given u) = refl

pub append : (r : Record) (later es : List Event)
    → after_from r (later ++ es) ≡ and_then (after_from r es) (λ t. further_on (length es) (after_from t later))
unfolding after_from
append r [] es = go (after_from r es)
  where
    go : (a : Answer Record) → a ≡ and_then a (λ t. given t)
    go (refused n p) = refl
    go (given t) = refl
append r (e ∷ later) es =
    rw (append r later es, length-append later es) (go (after_from r es))
  where
    go : (a : Answer Record)
        → and_then (and_then a (λ t. further_on (length es) (after_from t later)))
        (λ u. placed (length later + length es) (step u e))
        ≡ and_then a (λ t. further_on (length es)
        (and_then (after_from t later) (λ u. placed (length later) (step u e))))
    go (refused n p) = refl
    go (given t) = goes-on (length es) (length later) e (after_from t later)

-- one event more
pub one-event : (r t : Record) (e : Event) (es : List Event) → after_from r (e ∷ es) ≡ given t
    → (u : Record) × (after_from r es ≡ given u) × (step u e ≡ given t)
unfolding after_from
one-event r t e es q =
    let w = then-given (after_from r es) _ t q in
    (w.0, w.1, placed-given (length es) (step w.0 e) t w.2)

pub and-one-event : (r u t : Record) (e : Event) (es : List Event) → after_from r es ≡ given u → step u e ≡ given t
    → after_from r (e ∷ es) ≡ given t
unfolding after_from
and-one-event r u t e es h q = rw (h, q)

-- the two stretches of a history that is not refused are not refused, and the other way round
pub stretches : (r t : Record) (later es : List Event) → after_from r (later ++ es) ≡ given t
    → (u : Record) × (after_from r es ≡ given u) × (after_from u later ≡ given t)
stretches r t later es q =
    let w = then-given (after_from r es) _ t (sym (append r later es) ∙ q) in
    (w.0, w.1, go (after_from w.0 later) w.2)
  where
    go : (a : Answer Record) → further_on (length es) a ≡ given t → a ≡ given t
    go (refused n p) e = absurd (refused-given e)
    go (given u) e = e

pub and-later : (r u t : Record) (later es : List Event) → after_from r es ≡ given u → after_from u later ≡ given t
    → after_from r (later ++ es) ≡ given t
and-later r u t later es h q = append r later es ∙ rw (h, q)
