-- By what normal is left, in the written reading: for tightened, for reduced, and else not.
-- Assumes nothing.
use Prim.Native.Nat.{ℕ, ◌≤◌}
use mathlib.Core.Path.{◌≡◌, refl, sym, ◌∙◌}
use mathlib.Core.Bool.{Bool, true, false, cond, ◌&&◌, not, and-eq-true_iff, true≢false}
use mathlib.Core.List.{List, [], ◌∷◌}
use native.Mathlib.Omega.{arith}
use borrow.Author.Tests.{leb-true, le-leb}
use lib.Dec.{leb}
use lib.ListN.{take}
use Rattle.rules.specs.Codes.{normal, tightened, reduced}
use Rattle.rules.specs.Severity.{Origin, Lot, add_three, add_two, score_zero, not_accepted, accepted, Event, lot}
use Rattle.rules.specs.Severity.{resubmitted, steady_is, permission_is, corrective, unknown, due}
use Rattle.rules.specs.Reading.{steady_in, permission_in, not_accepted_in, points_of, score_of, stay_of, read_settled}
use Rattle.rules.specs.Reading.{read_normal, read_lot, read_order, read_event, stay_after, severity_read, lots_with}
use Rattle.rules.specs.Switching.{ByLot, MakesTwo, LotOrOrder, LeavesNormal}
use Rattle.rules.proofs.Switches.{due-all}

no-points : (l : Lot) (ls : List Lot) → accepted l ≡ false → points_of (l ∷ ls) ≡ 0
unfolding points_of
no-points add_three ls h = absurd (true≢false h)
no-points add_two ls h = absurd (true≢false h)
no-points score_zero ls h = absurd (true≢false h)
no-points not_accepted ls h = refl

all-due : (score : ℕ) (st pe : Bool) → 30 ≤ score → st ≡ true → pe ≡ true → due score st pe ≡ true
all-due score st pe h s p = rw (le-leb 30 score h, s, p)

-- an event after which the score is looked at, and which does not make two
settled-leaves : (e : Event) (ls : List Lot) (st pe : Bool) → LotOrOrder e → (ByLot MakesTwo e ls → ⊥)
    → LeavesNormal e ls st pe (read_settled (lots_with e ls) st pe).severity
settled-leaves e ls st pe looked none = go (due (score_of (lots_with e ls)) st pe) refl
  where
    go : (d : Bool) → due (score_of (lots_with e ls)) st pe ≡ d
        → LeavesNormal e ls st pe (cond d (stay_of reduced []) (stay_of normal (lots_with e ls))).severity
    go true q =
        let a = due-all (score_of (lots_with e ls)) st pe q in
        record {
          to-tightened = (λ h. absurd (omega arith), λ h. absurd (none h));
          to-reduced = (λ _. (looked, omega arith, a.1, a.2), λ _. refl);
          else-stays = λ f g. absurd (g refl);
        }
    go false q = record {
      to-tightened = (λ h. absurd (omega arith), λ h. absurd (none h));
      to-reduced = (
        λ h. absurd (omega arith),
        λ h.
            absurd
            (true≢false (sym (all-due (score_of (lots_with e ls)) st pe (omega (arith, h.1)) h.2 h.3) ∙ q)),
      );
      else-stays = λ f g. refl;
    }

lot-leaves : (o : Origin) (l : Lot) (ls : List Lot) (st pe : Bool)
    → LeavesNormal (lot o l) ls st pe (read_normal l ls st pe).severity
lot-leaves o l ls st pe = go (not (accepted l) && leb 2 (not_accepted_in (take 5 (l ∷ ls)))) refl
  where
    bad : (d : Bool) → not d ≡ true → d ≡ false
    bad true h = absurd (true≢false (sym h))
    bad false h = refl

    go : (d : Bool) → not (accepted l) && leb 2 (not_accepted_in (take 5 (l ∷ ls))) ≡ d
        → LeavesNormal (lot o l) ls st pe (cond d (stay_of tightened []) (read_settled (l ∷ ls) st pe)).severity
    go true q =
        let a = (and-eq-true_iff (not (accepted l)) (leb 2 (not_accepted_in (take 5 (l ∷ ls))))).0 q in
        record {
          to-tightened = (λ _. (bad (accepted l) a.0, leb-true 2 _ a.1), λ _. refl);
          to-reduced = (
            λ h. absurd (omega arith),
            λ h. absurd (omega (arith, no-points l ls (bad (accepted l) a.0), h.1)),
          );
          else-stays = λ f g. absurd (f refl);
        }
    go false q =
        settled-leaves (lot o l) ls st pe tt
        (λ h. true≢false (rw (h.0, le-leb 2 (not_accepted_in (take 5 (l ∷ ls))) h.1) at q))

kept : (e : Event) (ls : List Lot) (st pe : Bool) → (LotOrOrder e → ⊥) → (ByLot MakesTwo e ls → ⊥)
    → LeavesNormal e ls st pe normal
kept e ls st pe f g = record {
  to-tightened = (λ h. absurd (omega arith), λ h. absurd (g h));
  to-reduced = (λ h. absurd (omega arith), λ h. absurd (f h.0));
  else-stays = λ _ _. refl;
}

normal-event : (e : Event) (st pe : Bool) (s : ℕ) (ls : List Lot) → s ≡ normal
    → LeavesNormal e ls st pe (read_event e st pe (stay_of s ls)).severity
unfolding read_event read_lot read_order
normal-event (lot o l) st pe s ls h = rw h (lot-leaves o l ls st pe)
normal-event resubmitted st pe s ls h = rw h (kept resubmitted ls st pe (λ x. x) (λ x. x))
normal-event (steady_is b) st pe s ls h = rw h (settled-leaves (steady_is b) ls st pe tt (λ x. x))
normal-event (permission_is b) st pe s ls h = rw h (settled-leaves (permission_is b) ls st pe tt (λ x. x))
normal-event corrective st pe s ls h = rw h (kept corrective ls st pe (λ x. x) (λ x. x))
normal-event unknown st pe s ls h = rw h (kept unknown ls st pe (λ x. x) (λ x. x))

pub normal-left : (start : Bool) (e : Event) (es : List Event) → severity_read start es ≡ normal
    → LeavesNormal e (stay_after start es).lots (steady_in (e ∷ es)) (permission_in start (e ∷ es))
    (severity_read start (e ∷ es))
unfolding stay_after
normal-left start e es h =
    normal-event e (steady_in (e ∷ es)) (permission_in start (e ∷ es)) (severity_read start es)
    (stay_after start es).lots h
