-- "A typed book supplies only the plans that document 01's tables don't hold": but for reduced, any two sound books
-- give the same single plan, verdict and next record, those of a bench without a book.
-- Assumes nothing.
use Prim.Native.Nat.{ℕ}
use mathlib.Core.Path.{◌≡◌, refl, ap, sym, ◌∙◌}
use mathlib.Core.Bool.{false, cond}
use mathlib.Core.List.{List, [], ◌∷◌, ◌++◌}
use borrow.Author.Tests.{ne_eqb}
use Rattle.rules.specs.Refusals.{Answer, refused, Check, first_of, ◌gives◌, no_plan}
use Rattle.rules.specs.Codes.{reduced}
use Rattle.rules.specs.Book.{check_book, sound}
use Rattle.rules.specs.Supply.{Supply}
use Rattle.rules.specs.Entries.{Asked, asked_checks, single_plan, plain_plan, judge_single, Offered, asked_on}
use Rattle.rules.specs.Entries.{close_single, fractional_plan, judge_fractional, close_fractional}
use Rattle.rules.specs.Entries.{curtailed_plan, judge_curtailed, close_curtailed}

-- a check more that finds nothing wrong
one-more : {A : Type 0} (cs : List Check) (n : ℕ) (x : Answer A)
    → first_of (cs ++ ((false gives n) ∷ [])) x ≡ first_of cs x
one-more [] n x = refl
one-more (c ∷ cs) n x = ap (cond c.wrong (refused c.number c.place)) (one-more cs n x)

module _ (q : Asked) (plain : q.severity ≡ reduced → ⊥) where
  pub table-plan : (book : List ℕ) → check_book book ≡ sound → single_plan q book ≡ plain_plan q
  unfolding single_plan plain_plan
  table-plan book good = rw (good, ne_eqb q.severity reduced plain) (sym (one-more (asked_checks q) no_plan _))

  module _ (a b : List ℕ) (good : check_book a ≡ sound) (fine : check_book b ≡ sound) where
    pub same-single-plan : single_plan q a ≡ single_plan q b
    same-single-plan = table-plan a good ∙ sym (table-plan b fine)

    pub same-single-verdict : (sample : List ℕ) → judge_single q a sample ≡ judge_single q b sample
    unfolding judge_single
    same-single-verdict sample = rw same-single-plan

pub same-single-record : (s : Supply) → (s.switching.severity ≡ reduced → ⊥) → (o : Offered) (a b : List ℕ)
    → check_book a ≡ sound → check_book b ≡ sound → (sample : List ℕ)
    → close_single s o a sample ≡ close_single s o b sample
unfolding close_single
same-single-record s plain o a b good fine sample =
    rw (good, fine, same-single-verdict (asked_on s.switching o) plain a b good fine sample)

-- the same in the mode of fractions
module _ (a b : List ℕ) (good : check_book a ≡ sound) (fine : check_book b ≡ sound) where
  pub same-fractional-plan : (q : Asked) → (q.severity ≡ reduced → ⊥) → fractional_plan q a ≡ fractional_plan q b
  unfolding fractional_plan
  same-fractional-plan q plain = rw (same-single-plan q plain a b good fine)

  module _ (s : Supply) (plain : s.switching.severity ≡ reduced → ⊥) (o : Offered) (sample : List ℕ) where
    pub same-fractional-verdict : judge_fractional s o a sample ≡ judge_fractional s o b sample
    unfolding judge_fractional
    same-fractional-verdict = rw (good, fine, same-fractional-plan (asked_on s.switching o) plain)

    pub same-fractional-record : close_fractional s o a sample ≡ close_fractional s o b sample
    unfolding close_fractional
    same-fractional-record = rw same-fractional-verdict

-- and of a curtailed sample, under reduced too: no book is read for one
module _ (a b : List ℕ) (good : check_book a ≡ sound) (fine : check_book b ≡ sound) where
  pub same-curtailed-verdict : (q : Asked) (sample : List ℕ) → judge_curtailed q a sample ≡ judge_curtailed q b sample
  unfolding judge_curtailed curtailed_plan
  same-curtailed-verdict q sample = rw (good, fine)

  pub same-curtailed-record : (s : Supply) (o : Offered) (sample : List ℕ)
      → close_curtailed s o a sample ≡ close_curtailed s o b sample
  unfolding close_curtailed
  same-curtailed-record s o sample = rw (good, fine, same-curtailed-verdict (asked_on s.switching o) sample)
