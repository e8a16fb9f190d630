-- What is looked up for two limits is joined from what is looked up for each column alone: 12 first, then the lowest
-- number of either.
-- Assumes nothing.
use Prim.Native.Nat.{ℕ, max}
use mathlib.Core.Path.{◌≡◌, refl, sym, ap, ◌∙◌}
use mathlib.Core.Logic.{◌↔◌}
use mathlib.Core.Bool.{Bool, true, false, cond, ◌||◌, not}
use mathlib.Core.List.{List}
use native.Mathlib.Nat.{le_refl}
use native.Mathlib.Omega.{arith}
use borrow.Author.Tests.{ltb-true, ltb-false, lt-ltb, le-ltb, eqb-true, eq-eqb}
use lib.Dec.{ltb, eqb}
use Rattle.rules.specs.Refusals.{Answer, refused, given, first_of, and_then, no_plan}
use Rattle.rules.specs.Variables.{VariablesPlan}
use Rattle.rules.specs.Book.{Checked, sound, broken_at, check_book, on_sound, Found, found, nothing, variables_of}
use Rattle.rules.specs.Entries.{Asked, asked_checks, looked_up, from_entry, unless_above, under_column, from_sides}
use Rattle.rules.specs.Entries.{both_sides, readings_plan, sides_plan}
use Rattle.rules.specs.Limits.{SidesPlan, sides_of, side_of}
use Rattle.rules.specs.Planning.{join_sides}
use Rattle.rules.proofs.Answers.{refused-given, given-one}

-- refused by 6, or given
data AtMostSix (x : Answer VariablesPlan) : Type 0 where
  six : x ≡ refused no_plan 0 → AtMostSix x
  some : (p : VariablesPlan) → x ≡ given p → AtMostSix x

module _ (q : Asked) where
  abbrev alone : Found → Answer VariablesPlan
  alone f = from_entry f (λ e. unless_above q.size (variables_of e).n (variables_of e))

  at-most-six : (f : Found) → AtMostSix (alone f)
  at-most-six nothing = six refl
  at-most-six (found e) = on (ltb q.size (variables_of e).n)
    where
      on : (t : Bool) → AtMostSix (cond t (refused no_plan 0) (given (variables_of e)))
      on true = six refl
      on false = some (variables_of e) refl

  -- two entries: they differ in n, or n is above the lot, or both are plans
  entries-join : (u l : VariablesPlan) (a b c : Bool) → ltb q.size u.n ≡ a → ltb q.size l.n ≡ b
      → eqb u.n l.n ≡ c
      → cond (not c) (refused no_plan 0)
      (cond a (refused no_plan 0) (given (both_sides u l)))
      ≡ join_sides (cond a (refused no_plan 0) (given u)) (cond b (refused no_plan 0) (given l))
  entries-join u l true true true e f g = refl
  entries-join u l true true false e f g = refl
  entries-join u l true false true e f g = refl
  entries-join u l true false false e f g = refl
  entries-join u l false true true e f g =
      let z : ⊥ = omega (arith, ltb-false q.size u.n e, ltb-true q.size l.n f, eqb-true u.n l.n g) in
      absurd z
  entries-join u l false true false e f g = refl
  entries-join u l false false c e f g =
      ap (λ (t : Bool). cond (not t) (refused no_plan 0) (given (both_sides u l))) (sym g)

  found-join : (f g : Found)
      → from_entry f (λ e. from_entry g (λ d. from_sides q (variables_of e) (variables_of d)))
      ≡ join_sides (alone f) (alone g)
  found-join nothing g = go (at-most-six g)
    where
      go : AtMostSix (alone g) → refused no_plan 0 ≡ join_sides (refused no_plan 0) (alone g)
      go (six e) = rw e
      go (some p e) = rw e
  found-join (found e) nothing = go (at-most-six (found e))
    where
      go : AtMostSix (alone (found e)) → refused no_plan 0 ≡ join_sides (alone (found e)) (refused no_plan 0)
      go (six h) = rw h
      go (some p h) = rw h
  found-join (found e) (found d) = entries-join (variables_of e) (variables_of d) _ _ _ refl refl refl

-- what every entry checks of a lot, of its column u
abbrev past : Bool → Bool → Bool → Bool → Bool → {A : Type 0} → Answer A → Answer A
past a b c u d x =
    cond a (refused 1 0) (cond b (refused 2 0) (cond c (refused 3 0) (cond u (refused 4 0) (cond d (refused 5 0) x))))

checks-join : (a b c u l d : Bool) (x y : Answer VariablesPlan) → AtMostSix x → AtMostSix y
    → past a b c (u || l) d (join_sides x y) ≡ join_sides (past a b c u d x) (past a b c l d y)
checks-join true b c u l d x y p r = refl
checks-join false true c u l d x y p r = refl
checks-join false false true u l d x y p r = refl
checks-join false false false true true d x y p r = refl
checks-join false false false true false true x y p r = refl
checks-join false false false true false false x y p (six e) = rw e
checks-join false false false true false false x y p (some z e) = rw e
checks-join false false false false true true x y p r = refl
checks-join false false false false true false x y (six e) r = rw e
checks-join false false false false true false x y (some z e) r = rw e
checks-join false false false false false true x y p r = refl
checks-join false false false false false false x y p r = refl

-- 4 where either column is over 25
either-column : (u l : ℕ) → ltb 25 (max u l) ≡ (ltb 25 u || ltb 25 l)
either-column u l = on (ltb 25 u) (ltb 25 l) refl refl
  where
    on : (a b : Bool) → ltb 25 u ≡ a → ltb 25 l ≡ b → ltb 25 (max u l) ≡ (a || b)
    on true b e f = lt-ltb 25 (max u l) (omega (arith, ltb-true 25 u e))
    on false true e f = lt-ltb 25 (max u l) (omega (arith, ltb-true 25 l f))
    on false false e f = le-ltb 25 (max u l) (omega (arith, ltb-false 25 u e, ltb-false 25 l f))

pub sides-join : (section : ℕ) (q : Asked) (lower : ℕ) (book : List ℕ)
    → sides_plan section q lower book
    ≡ join_sides (readings_plan section q book) (readings_plan section (under_column q lower) book)
unfolding sides_plan readings_plan
sides-join section q lower book = on (check_book book)
  where
    on : (c : Checked)
        → on_sound c (first_of (asked_checks (under_column q (max q.column lower)))
        (from_entry (looked_up section q book)
        (λ e.
        from_entry (looked_up section (under_column q lower) book)
        (λ d. from_sides q (variables_of e) (variables_of d)))))
        ≡ join_sides (on_sound c (first_of (asked_checks q) (alone q (looked_up section q book))))
        (on_sound c
        (first_of (asked_checks (under_column q lower)) (alone q (looked_up section (under_column q lower) book))))
    on (broken_at byte) = refl
    on sound =
        rw (
          either-column q.column lower,
          found-join q (looked_up section q book) (looked_up section (under_column q lower) book),
        )
        (checks-join (ltb 3 q.severity) (ltb q.size 2) (ltb 6 q.level) (ltb 25 q.column) (ltb 25 lower)
        (eqb q.severity 3) _ _ (at-most-six q (looked_up section q book))
        (at-most-six q (looked_up section (under_column q lower) book)))

-- One column for both sides: its K stands on each.
pub join-same : (a : Answer VariablesPlan) → join_sides a a ≡ and_then a (λ p. given (sides_of p))
join-same (refused n p) = rw (le-ltb n n (le_refl n))
join-same (given p) = rw (eq-eqb p.n p.n refl)

-- Both sides are given exactly where each is, with the same n.
pub join-given : (a b : Answer VariablesPlan) (p : SidesPlan)
    → (join_sides a b ≡ given p) ↔ ((a ≡ given (side_of true p)) × (b ≡ given (side_of false p)))
join-given a b p = (so a b, λ e. rw (e.0, e.1, eq-eqb p.n p.n refl))
  where
    no_lower : (t : Bool) (n r m s : ℕ) → cond t (refused m s) (refused n r) ≡ given p → ⊥
    no_lower true n r m s e = refused-given e
    no_lower false n r m s e = refused-given e

    together : (u l : VariablesPlan) (t : Bool) → eqb u.n l.n ≡ t
        → cond (not t) (refused no_plan 0) (given (both_sides u l)) ≡ given p
        → (given u ≡ given (side_of true p)) × (given l ≡ given (side_of false p))
    together u l false t e = absurd (refused-given e)
    together u l true t e =
        let h : both_sides u l ≡ p = given-one e in (
          ap (λ (z : SidesPlan). given (side_of true z)) h,
          ap (λ (n : ℕ). given (record { n = n; k = l.k })) (sym (eqb-true u.n l.n t))
              ∙ ap (λ (z : SidesPlan). given (side_of false z)) h,
        )

    so : (a b : Answer VariablesPlan) → join_sides a b ≡ given p
        → (a ≡ given (side_of true p)) × (b ≡ given (side_of false p))
    so (refused n r) (refused m s) e = absurd (no_lower (ltb m n) n r m s e)
    so (refused n r) (given l) e = absurd (refused-given e)
    so (given u) (refused m s) e = absurd (refused-given e)
    so (given u) (given l) e = together u l (eqb u.n l.n) refl e
