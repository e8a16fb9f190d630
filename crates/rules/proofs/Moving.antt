-- What an event makes of a supply: its record moves by the event as it counts, its clean run by its own step; and which
-- events count as they stand.
-- Assumes nothing.
use Prim.Native.Nat.{ℕ, zero, suc}
use mathlib.Core.Path.{◌≡◌, refl, sym, ap, ◌∙◌}
use mathlib.Core.Bool.{Bool, true, false, cond, false≢true}
use mathlib.Core.List.{List, [], ◌∷◌}
use lib.ListN.{get_or}
use Rattle.rules.specs.Refusals.{given}
use Rattle.rules.specs.Severity.{Lot, Origin, typed, sampled, on_fraction, Event, lot, resubmitted, steady_is}
use Rattle.rules.specs.Severity.{permission_is}
use Rattle.rules.specs.Severity.{corrective}
use Rattle.rules.specs.Severity.{unknown, step}
use Rattle.rules.specs.History.{Work, byte_events, event_of, event_in, knows}
use Rattle.rules.specs.Fractional.{has_fractional_plan}
use Rattle.rules.specs.Supply.{CleanRun, Supply, supply_of, lot_on, counts_on, clean_after, move}
use Rattle.rules.specs.Entries.{Offered, event_for}
use Rattle.rules.specs.Planning.{Took}
use Rattle.rules.specs.Switching.{Every}
use Rattle.rules.proofs.Answers.{given-one, then-given}
use Rattle.rules.proofs.Bounded.{never}

-- how a lot counts does not matter to the clean run
clean-counts : (s : Supply) (before after : ℕ) (e : Event)
    → clean_after before after s.clean (counts_on s e) ≡ clean_after before after s.clean e
clean-counts s before after (lot o l) = refl
clean-counts s before after resubmitted = refl
clean-counts s before after (steady_is b) = refl
clean-counts s before after (permission_is b) = refl
clean-counts s before after corrective = refl
clean-counts s before after unknown = refl

module _ (s : Supply) (e : Event) where
  pub move-took : (t : Supply) → move s e ≡ given t → Took s (counts_on s e) t
  unfolding move
  move-took t q =
      let w = then-given (step s.switching (counts_on s e)) _ t q in
      let same = given-one w.2 in
      record {
        stepped = w.1 ∙ ap (λ (x : Supply). given x.switching) same;
        clean =
            ap (λ (x : Supply). x.clean) (sym same)
            ∙ (ap (λ (x : Supply). clean_after s.switching.severity x.switching.severity s.clean e) same
            ∙ sym (clean-counts s s.switching.severity t.switching.severity e));
      }

  pub took-moves : (t : Supply) → Took s (counts_on s e) t → move s e ≡ given t
  unfolding move
  took-moves t k =
      rw k.stepped
      (ap (λ (c : CleanRun). given (supply_of t.switching c))
      (sym (k.clean ∙ clean-counts s s.switching.severity t.switching.severity e)))

-- what holds of each event of the list, and of none, holds of a byte's
pub of-byte : (P : Event → Type 0) → Every P byte_events → P unknown → (w : Work) (b : ℕ) → P (event_in w b)
unfolding event_in event_of
of-byte P all none w b = go (knows w b)
  where
    each : (es : List Event) → Every P es → (k : ℕ) → P (get_or es k unknown)
    each [] h k = none
    each (e ∷ es) h zero = h.0
    each (e ∷ es) h (suc k) = each es h.1 k

    go : (known : Bool) → P (cond known (get_or byte_events b unknown) unknown)
    go true = each byte_events all b
    go false = none

-- a byte's event counts as it stands, and its lots are typed
pub typed-counts : (s : Supply) (w : Work) (b : ℕ) → counts_on s (event_in w b) ≡ event_in w b
typed-counts s =
    of-byte (λ e. counts_on s e ≡ e)
    (refl, (refl, (refl, (refl, (refl, (refl, (refl, (refl, (refl, (refl, tt))))))))))
    refl

pub typed-byte : (o : Origin) (l : Lot) (w : Work) (b : ℕ) → event_in w b ≡ lot o l → o ≡ typed
typed-byte o l =
    of-byte (λ e. e ≡ lot o l → o ≡ typed) (
      λ e. cc,
      (
        λ e. cc,
        (
          λ e. cc,
          (
            λ e. cc,
            (
              λ e. never (cc),
              (
                λ e. never (cc),
                (λ e. never (cc), (λ e. never (cc), (λ e. never (cc), (λ e. never (cc), tt)))),
              ),
            ),
          ),
        ),
      ),
    )
    (λ e. never (cc))

-- an event counts as it counts
pub counts-again : (s : Supply) (e : Event) → counts_on s (counts_on s e) ≡ counts_on s e
counts-again s (lot o l) = ap (lot o) (again o)
  where
    twice : (d : Bool) (a b : Lot) → cond d a (cond d a b) ≡ cond d a b
    twice true a b = refl
    twice false a b = refl

    again : (o : Origin)
        → lot_on s.switching.severity s.clean o (lot_on s.switching.severity s.clean o l)
        ≡ lot_on s.switching.severity s.clean o l
    again typed = refl
    again sampled = refl
    again (on_fraction letter column total) = twice (has_fractional_plan s.switching.severity column letter) _ l
counts-again s resubmitted = refl
counts-again s (steady_is b) = refl
counts-again s (permission_is b) = refl
counts-again s corrective = refl
counts-again s unknown = refl

-- a corrective order is one as it counts, and no other event is
pub corrective-counts : (s : Supply) (e : Event) → counts_on s e ≡ corrective → e ≡ corrective
corrective-counts s (lot o l) h = absurd (false≢true (ap is_order h))
  where
    is_order : Event → Bool
    is_order (lot o l) = false
    is_order resubmitted = true
    is_order (steady_is b) = true
    is_order (permission_is b) = true
    is_order corrective = true
    is_order unknown = true
corrective-counts s resubmitted h = h
corrective-counts s (steady_is b) h = h
corrective-counts s (permission_is b) h = h
corrective-counts s corrective h = h
corrective-counts s unknown h = h

-- a lot closed counts as it is told if its origin says nothing else
pub lot-counts : (s : Supply) (o : Offered) (from : Origin) (l : Lot)
    → lot_on s.switching.severity s.clean from l ≡ l → counts_on s (event_for o from l) ≡ event_for o from l
lot-counts s o from l e = on o.again
  where
    on : (again : Bool) → counts_on s (cond again resubmitted (lot from l)) ≡ cond again resubmitted (lot from l)
    on true = refl
    on false = ap (lot from) e

pub sampled-counts : (s : Supply) (o : Offered) (l : Lot) → counts_on s (event_for o sampled l) ≡ event_for o sampled l
sampled-counts s o l = lot-counts s o sampled l refl
