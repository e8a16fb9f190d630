-- The bytes of a history are its events: a whole history is its events turned round, in stretches too, and without its
-- bytes 4 it is its events without the resubmitted ones.
-- Assumes nothing.
use Prim.Native.Nat.{ℕ, zero, suc, ◌≤◌, min}
use mathlib.Core.Path.{◌≡◌, refl, sym, ap, ◌∙◌}
use mathlib.Core.Bool.{Bool, true, false, cond, true≢false}
use mathlib.Core.List.{List, [], ◌∷◌, ◌++◌, map, map-append, reverse, reverse_aux, reverse-append, append_assoc}
use mathlib.Core.List.{append-nil}
use native.Mathlib.Omega.{arith}
use borrow.Author.Tests.{eq-eqb, ne_eqb}
use lib.Dec.{eqb}
use lib.ListN.{length, get_or}
use Rattle.rules.specs.Severity.{Lot, add_three, add_two, score_zero, not_accepted, Event, resubmitted, corrective}
use Rattle.rules.specs.Severity.{unknown}
use Rattle.rules.specs.Reading.{is_resubmitted, without_resubmitted}
use Rattle.rules.specs.History.{byte_of_lot, byte_of, Work, knows, event_of, event_in, past, without_fours}
use Rattle.rules.proofs.Resubmitted.{by-resubmitted}

-- the byte of a byte's event is that byte; those past 9 have one event
byte-event : (b : ℕ) → byte_of (event_of b) ≡ min 10 b
unfolding event_of
byte-event zero = refl
byte-event (suc zero) = refl
byte-event (suc (suc zero)) = refl
byte-event (suc (suc (suc zero))) = refl
byte-event (suc (suc (suc (suc zero)))) = refl
byte-event (suc (suc (suc (suc (suc zero))))) = refl
byte-event (suc (suc (suc (suc (suc (suc zero)))))) = refl
byte-event (suc (suc (suc (suc (suc (suc (suc zero))))))) = refl
byte-event (suc (suc (suc (suc (suc (suc (suc (suc zero)))))))) = refl
byte-event (suc (suc (suc (suc (suc (suc (suc (suc (suc zero))))))))) = refl
byte-event (suc (suc (suc (suc (suc (suc (suc (suc (suc (suc b)))))))))) = omega arith

pub lot-byte : (l : Lot) → byte_of_lot l ≤ 3
lot-byte add_three = omega arith
lot-byte add_two = omega arith
lot-byte score_zero = omega arith
lot-byte not_accepted = omega arith

without-append : (es fs : List Event)
    → without_resubmitted (es ++ fs) ≡ without_resubmitted es ++ without_resubmitted fs
unfolding without_resubmitted
without-append [] fs = refl
without-append (e ∷ es) fs = go (is_resubmitted e) (without-append es fs)
  where
    go : (d : Bool) → without_resubmitted (es ++ fs) ≡ without_resubmitted es ++ without_resubmitted fs
        → cond d (without_resubmitted (es ++ fs)) (e ∷ without_resubmitted (es ++ fs))
        ≡ cond d (without_resubmitted es) (e ∷ without_resubmitted es) ++ without_resubmitted fs
    go true ih = ih
    go false ih = ap (λ (l : List Event). e ∷ l) ih

module _ (w : Work) where
  -- an event but an unknown one comes from its byte alone
  event-byte : (b k : ℕ) → k ≤ 9 → byte_of (event_in w b) ≡ k → b ≡ k
  unfolding event_in
  event-byte b k l h = go (knows w b) h
    where
      go : (d : Bool) → byte_of (cond d (event_of b) unknown) ≡ k → b ≡ k
      go true h = omega (arith, byte-event b)
      go false h = absurd (omega arith)

  pub corrective-byte : (b : ℕ) → event_in w b ≡ corrective → b ≡ 9
  corrective-byte b h = event-byte b 9 (omega arith) (ap byte_of h)

  -- the history as it is written, oldest first
  past-cons : (a : ℕ) (h : List ℕ) (i : ℕ) → past w (a ∷ h) (suc i) ≡ past w h i ++ (event_in w a ∷ [])
  unfolding past
  past-cons a h zero = refl
  past-cons a h (suc i) = ap (λ (l : List Event). event_in w (get_or h i 0) ∷ l) (past-cons a h i)

  past-onto : (h : List ℕ) (r : List Event) → past w h (length h) ++ r ≡ reverse_aux (map (event_in w) h) r
  unfolding past
  past-onto [] r = refl
  past-onto (a ∷ h) r =
      ap (λ (l : List Event). l ++ r) (past-cons a h (length h))
      ∙ (append_assoc (past w h (length h)) (event_in w a ∷ []) r ∙ past-onto h (event_in w a ∷ r))

  pub past-whole : (h : List ℕ) → past w h (length h) ≡ reverse (map (event_in w) h)
  past-whole h = sym (append-nil (past w h (length h))) ∙ past-onto h []

  pub past-append : (earlier later : List ℕ)
      → past w (earlier ++ later) (length (earlier ++ later))
      ≡ past w later (length later) ++ past w earlier (length earlier)
  past-append earlier later =
      rw (past-whole (earlier ++ later), past-whole later, past-whole earlier, map-append (event_in w) earlier later)
      (reverse-append (map (event_in w) earlier) (map (event_in w) later))

  -- one byte more
  pub past-more : (h : List ℕ) (b : ℕ)
      → past w (h ++ (b ∷ [])) (length (h ++ (b ∷ []))) ≡ event_in w b ∷ past w h (length h)
  unfolding past
  past-more h b = past-append h (b ∷ [])

  module _ (known : knows w 4 ≡ true) where
    four : event_in w 4 ≡ resubmitted
    unfolding event_in event_of
    four = rw known

    -- a byte 4 put in
    pub past-put-in : (earlier later : List ℕ)
        → past w (earlier ++ (4 ∷ later)) (length (earlier ++ (4 ∷ later)))
        ≡ past w later (length later) ++ (resubmitted ∷ past w earlier (length earlier))
    past-put-in earlier later =
        past-append earlier (4 ∷ later)
        ∙ (rw (past-cons 4 later (length later), four)
        (append_assoc (past w later (length later)) (resubmitted ∷ []) (past w earlier (length earlier))))

    four-alone : (b : ℕ) → is_resubmitted (event_in w b) ≡ eqb b 4
    four-alone b =
        by-resubmitted (event_in w b)
        (λ q. rw q (sym (eq-eqb b 4 (event-byte b 4 (omega arith) (ap byte_of q)))))
        (λ q. q ∙ sym (ne_eqb b 4 (λ z. true≢false (sym (ap is_resubmitted (ap (event_in w) z ∙ four)) ∙ q))))

    pub past-without : (h : List ℕ)
        → past w (without_fours h) (length (without_fours h)) ≡ without_resubmitted (past w h (length h))
    unfolding past without_fours without_resubmitted
    past-without [] = refl
    past-without (a ∷ h) =
        go (eqb a 4) (four-alone a) (past-without h)
        ∙ sym
        (ap without_resubmitted (past-cons a h (length h))
        ∙ without-append (past w h (length h)) (event_in w a ∷ []))
      where
        go : (d : Bool) → is_resubmitted (event_in w a) ≡ d
            → past w (without_fours h) (length (without_fours h)) ≡ without_resubmitted (past w h (length h))
            → past w (cond d (without_fours h) (a ∷ without_fours h))
            (length (cond d (without_fours h) (a ∷ without_fours h)))
            ≡ without_resubmitted (past w h (length h)) ++ without_resubmitted (event_in w a ∷ [])
        go true q ih = rw q (ih ∙ sym (append-nil (without_resubmitted (past w h (length h)))))
        go false q ih =
            rw q
            (past-cons a (without_fours h) (length (without_fours h))
            ∙ ap (λ (l : List Event). l ++ (event_in w a ∷ [])) ih)
