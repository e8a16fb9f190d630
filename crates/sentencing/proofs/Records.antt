-- A lot judged or closed on a record: a record out of range is refused after the book, and a lot on one in range is as
-- it is judged.
-- Assumes nothing.
use Prim.Native.Nat.{ℕ}
use mathlib.Core.Path.{◌≡◌, refl, sym}
use mathlib.Core.Bool.{Bool, true, false, cond, not}
use mathlib.Core.List.{List}
use Rattle.rules.specs.Refusals.{Answer, refused, given, and_then}
use Rattle.rules.specs.Verdict.{Verdict, Judged}
use Rattle.rules.specs.Single.{Plan}
use Rattle.rules.specs.Severity.{Event}
use Rattle.rules.specs.Fractional.{FractionalPlan}
use Rattle.rules.specs.Supply.{Supply, supply_in_range}
use Rattle.rules.specs.Book.{Checked, sound, broken_at, check_book, on_sound}
use Rattle.rules.specs.Entries.{Asked, single_plan, curtailed_plan, staged_plan, in_fractions, fractional_plan}
use Rattle.rules.specs.Entries.{judge_single, judge_curtailed, judge_staged, on_supply, closed_with}
use Rattle.rules.proofs.Answers.{refused-given}
use Rattle.sentencing.specs.Paper.{on_record}

module _ (s : Supply) (book : List ℕ) where
  -- a record in range is one that on_record lets pass
  pub in-range : given tt ≡ on_record s book → supply_in_range s ≡ true
  in-range e = on (supply_in_range s) (check_book book) e
    where
      on : (t : Bool) (c : Checked)
          → ◌≡◌ {A = Answer (Unit {0})} (given tt) (cond t (given tt) (on_sound c (refused 1 0))) → t ≡ true
      on true c e = refl
      on false sound e = absurd (refused-given (sym e))
      on false (broken_at byte) e = absurd (refused-given (sym e))

  module _ {A : Type 0} (a : Answer A) where
    abbrev pub Recorded : Answer A
    Recorded = on_sound (check_book book) (on_supply s a)

    pub out-of-range : (n p : ℕ) → refused n p ≡ on_record s book → refused n p ≡ Recorded
    out-of-range n p e = on (supply_in_range s) (check_book book) e
      where
        on : (t : Bool) (c : Checked)
            → ◌≡◌ {A = Answer (Unit {0})} (refused n p) (cond t (given tt) (on_sound c (refused 1 0)))
            → refused n p ≡ on_sound c (cond (not t) (refused 1 0) a)
        on true c e = absurd (refused-given e)
        on false sound e = cc
        on false (broken_at byte) e = cc

    pub recorded : given tt ≡ on_record s book → a ≡ on_sound (check_book book) a → a ≡ Recorded
    recorded e checked = rw (in-range e) checked

  -- a lot that was judged, closed on a record in range
  pub closed : {P : Type 0} (judge : Asked → Answer (Judged P Verdict)) (event : Judged P Verdict → Event)
      → ((q : Asked) → judge q ≡ on_sound (check_book book) (judge q)) → (asked : Asked) → given tt ≡ on_record s book
      → (q : Asked) → q ≡ asked → (x : Answer (Judged P Verdict)) → x ≡ judge q
      → and_then x (λ j. on_supply s (closed_with s event j)) ≡ Recorded (and_then (judge asked) (closed_with s event))
  closed judge event checks asked e q is x h =
      rw (h, is, in-range e) (on (check_book book) (judge asked) (checks asked))
    where
      on : (c : Checked) (judged : Answer (Judged _ Verdict)) → judged ≡ on_sound c judged
          → and_then judged (closed_with s event) ≡ on_sound c (and_then judged (closed_with s event))
      on sound judged h = refl
      on (broken_at byte) judged h = rw h

-- What goes on from the plan of a checked book has had it checked.
checked : {A B : Type 0} (c : Checked) (a : Answer A) (next : A → Answer B)
    → and_then (on_sound c a) next ≡ on_sound c (and_then (on_sound c a) next)
checked sound a next = refl
checked (broken_at byte) a next = refl

module _ (q : Asked) (book sample : List ℕ) where
  pub single-checked : judge_single q book sample ≡ on_sound (check_book book) (judge_single q book sample)
  unfolding judge_single single_plan
  single-checked = checked (check_book book) _ _

  pub curtailed-checked : judge_curtailed q book sample ≡ on_sound (check_book book) (judge_curtailed q book sample)
  unfolding judge_curtailed curtailed_plan
  curtailed-checked = checked (check_book book) _ _

  pub staged-checked : judge_staged q book sample ≡ on_sound (check_book book) (judge_staged q book sample)
  unfolding judge_staged staged_plan
  staged-checked = checked (check_book book) _ _

pub fractional-checked : {B : Type 0} (q : Asked) (book : List ℕ) (next : FractionalPlan → Answer B)
    → and_then (fractional_plan q book) next ≡ on_sound (check_book book) (and_then (fractional_plan q book) next)
unfolding fractional_plan single_plan
fractional-checked {B} q book next = on (check_book book) _ (in_fractions q)
  where
    on : (c : Checked) (a : Answer Plan) (share : Plan → Answer FractionalPlan)
        → and_then (and_then (on_sound c a) share) next ≡ on_sound c (and_then (and_then (on_sound c a) share) next)
    on sound a share = refl
    on (broken_at byte) a share = refl
