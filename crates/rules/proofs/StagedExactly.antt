-- The rules of section 2 from both sides: an entry is one that a sound book could hold exactly where it has all its
-- numbers, its key is in range, and its plan keeps the rules of document 01, stage by stage.
-- Assumes nothing.
use Prim.Native.Nat.{ℕ, zero, suc, ◌+◌, ◌*◌, ◌-◌, ◌/◌, ◌%◌, ◌≤◌, ◌<◌}
use mathlib.Core.Path.{◌≡◌, refl, sym, ◌∙◌}
use mathlib.Core.Bool.{Bool, true, false, cond, ◌&&◌, ◌||◌, not, true≢false}
use mathlib.Core.List.{List}
use mathlib.Core.Logic.{◌↔◌}
use native.Mathlib.Omega.{arith}
use borrow.Author.Tests.{le-leb, lt-ltb, eqb-true, eqb-false, eq-eqb}
use lib.ListN.{length, get_or, take, get_or-eq_default}
use lib.Dec.{ltb, leb, eqb}
use Rattle.rules.specs.Book.{Walk, ends, broken, short, anything, right, numbers_from}
use Rattle.rules.specs.Book.{is_end, could_hold, staged, ac_keeps, re_keeps, staged_number, staged_rule, staged_of}
use Rattle.rules.specs.Staged.{StagedPlan, mark}
use Rattle.rules.specs.PlanRules.{StagedRight, StagedEntry}
use Rattle.rules.proofs.Bounded.{by-le}
use Rattle.rules.proofs.Steps.{staged-at, staged-free}
use Rattle.rules.proofs.Faults.{Tells, Wrong, numbers-tell}
use Rattle.rules.proofs.LookUp.{held}
use Rattle.rules.proofs.HeldPlans.{in-range}
use Rattle.rules.proofs.HeldStaged.{ByStage, PlanByStage, size-number, ac-number, re-number, ac-first, re-first}
use Rattle.rules.proofs.HeldStaged.{by-stage-as, seven-at, staged-held}

-- a number that keeps the rules, said plainly, passes its test
ac-passes : (first last : Bool) (before ac : ℕ) → (last ≡ true → ac ≡ mark → ⊥)
    → (first ≡ false → (before ≡ mark → ⊥) → (ac ≡ mark → ⊥) × (before ≤ ac)) → ac_keeps first last before ac ≡ true
unfolding ac_keeps
ac-passes first last before ac f g = go first last (eqb ac mark) (eqb before mark) refl refl f g
  where
    go : (first last t u : Bool) → eqb ac mark ≡ t → eqb before mark ≡ u → (last ≡ true → ac ≡ mark → ⊥)
        → (first ≡ false → (before ≡ mark → ⊥) → (ac ≡ mark → ⊥) × (before ≤ ac))
        → cond t (not last && (first || u)) (first || (u || leb before ac)) ≡ true
    go first true true u p q f g = absurd (f refl (eqb-true ac mark p))
    go true false true u p q f g = refl
    go false false true true p q f g = refl
    go false false true false p q f g = absurd ((g refl (eqb-false before mark q)).0 (eqb-true ac mark p))
    go true last false u p q f g = refl
    go false last false true p q f g = refl
    go false last false false p q f g = le-leb before ac (g refl (eqb-false before mark q)).1

re-passes : (first last : Bool) (before ac re : ℕ) → re ≤ 65534 → (first ≡ false → before ≤ re)
    → ((ac ≡ mark → ⊥) → ac < re) → (last ≡ true → re ≡ ac + 1) → re_keeps first last before ac re ≡ true
unfolding re_keeps
re-passes first last before ac re h f g k = rw (le-leb re 65534 h) (rises first f (over (eqb ac mark) refl last k))
  where
    over : (t : Bool) → eqb ac mark ≡ t → (last : Bool) → (last ≡ true → re ≡ ac + 1)
        → t || cond last (eqb re (ac + 1)) (ltb ac re) ≡ true
    over true e last k = refl
    over false e true k = eq-eqb re (ac + 1) (k refl)
    over false e false k = lt-ltb ac re (g (eqb-false ac mark e))

    rises : {b : Bool} (first : Bool) → (first ≡ false → before ≤ re) → b ≡ true
        → (first || leb before re) && b ≡ true
    rises true f e = e
    rises false f e = rw (le-leb before re (f refl)) e

-- the numbers of a plan that keeps the rules pass their tests, stage by stage
module _ (p : StagedPlan) (r : StagedRight p) where
  abbrev ac : ℕ → ℕ
  ac j = get_or p.acs j 0

  abbrev re : ℕ → ℕ
  re j = get_or p.res j 0

  last-is : (j : ℕ) → eqb (j + 1) p.stages ≡ true → p.stages - 1 ≡ j
  last-is j h = omega (arith, eqb-true (j + 1) p.stages h)

  last-number : (j : ℕ) → eqb (j + 1) p.stages ≡ true → ac j ≡ mark → ⊥
  last-number j h = rw (last-is j h) at r.last-number

  last-re : (j : ℕ) → eqb (j + 1) p.stages ≡ true → re j ≡ ac j + 1
  last-re j h = rw (last-is j h) at r.last-re

  same : (j : ℕ) → suc j - 1 ≡ j
  same j = omega arith

  ac-kept : (j : ℕ) → j < p.stages → ac_keeps (eqb j 0) (eqb (j + 1) p.stages) (ac (j - 1)) (ac j) ≡ true
  ac-kept zero h =
      ac-passes true (eqb 1 p.stages) (ac 0) (ac 0) (last-number 0) (λ e. absurd (true≢false e))
  ac-kept (suc j) h =
      rw (same j)
      (ac-passes (eqb (suc j) 0) (eqb (suc j + 1) p.stages) (ac j) (ac (suc j)) (last-number (suc j))
      (λ _ n. r.ac-kept j h n))

  re-kept : (j : ℕ) → j < p.stages → re_keeps (eqb j 0) (eqb (j + 1) p.stages) (re (j - 1)) (ac j) (re j) ≡ true
  re-kept zero h =
      re-passes true (eqb 1 p.stages) (re 0) (ac 0) (re 0) (r.re 0 h) (λ e. absurd (true≢false e)) (r.under 0 h)
      (last-re 0)
  re-kept (suc j) h =
      rw (same j)
      (re-passes (eqb (suc j) 0) (eqb (suc j + 1) p.stages) (re j) (ac (suc j)) (re (suc j)) (r.re (suc j) h)
      (λ _. r.re-kept j h) (r.under (suc j) h) (last-re (suc j)))

  by-stage : PlanByStage p
  by-stage =
      record {
        few = r.few;
        sized =
            λ j h.
            rw (le-leb 1 (get_or p.sizes j 0) (r.size j h).0, le-leb (get_or p.sizes j 0) 2000 (r.size j h).1);
        ac-kept = ac-kept;
        re-kept = re-kept;
      }

-- such an entry is held, number by number
module _ (e : List ℕ) (s : StagedEntry e) where
  abbrev m : ℕ
  m = get_or e 3 0

  abbrev place : ℕ → ℕ
  place i = get_or e i 0

  abbrev plan : StagedPlan
  plan = staged_of e

  size-at : (j : ℕ) → j < m → place (4 + j) ≡ get_or plan.sizes j 0
  size-at j h = let one : 4 + 1 * j ≡ 4 + j = omega arith in sym (seven-at 4 1 m e j h ∙ rw one)

  ac-at : (j : ℕ) → j < m → place (4 + m + 2 * j) ≡ get_or plan.acs j 0
  ac-at j h = sym (seven-at (4 + m) 2 m e j h)

  re-at : (j : ℕ) → j < m → place (5 + m + 2 * j) ≡ get_or plan.res j 0
  re-at j h = sym (seven-at (5 + m) 2 m e j h)

  b : ByStage m (λ j. place (4 + j)) (λ j. place (4 + m + 2 * j)) (λ j. place (5 + m + 2 * j))
  b = by-stage-as (by-stage plan s.keeps) size-at ac-at re-at

  right-at : (i : ℕ) → 4 ≤ i → i < length e → place i ≤ 65535
      → staged_number i m (place (i - 2)) (place (i - 1)) (place i) ≡ true → right staged e i ≡ true
  unfolding right
  right-at i l inside w x =
      rw (
        get_or-eq_default staged.ranges anything {n = i} l,
        le-leb 0 (place i) (omega arith),
        le-leb (place i) 65535 w,
        staged-at e i (place i) inside l,
      )
      x

  at-size : (j : ℕ) → j < m → right staged e (4 + j) ≡ true
  at-size j h =
      right-at (4 + j) (omega arith) (omega (arith, s.whole))
      (rw (size-at j h) (omega (arith, (s.keeps.size j h).1)))
      (size-number m j _ _ (place (4 + j)) h ∙ b.sized j h)

  ac-keeps : (j : ℕ) → j < m
      → ac_keeps (eqb j 0) (eqb (j + 1) m) (place (4 + m + 2 * j - 2)) (place (4 + m + 2 * j)) ≡ true
  ac-keeps zero h = ac-first (eqb 1 m) _ _ (place (4 + m + 2 * 0)) ∙ b.ac-kept 0 h
  ac-keeps (suc j) h =
      let before : 4 + m + 2 * suc j - 2 ≡ 4 + m + 2 * (suc j - 1) = omega arith in
      rw before (b.ac-kept (suc j) h)

  re-keeps : (j : ℕ) → j < m
      → re_keeps (eqb j 0) (eqb (j + 1) m) (place (5 + m + 2 * j - 2)) (place (5 + m + 2 * j - 1))
      (place (5 + m + 2 * j))
      ≡ true
  re-keeps zero h =
      let one : 5 + m + 2 * 0 - 1 ≡ 4 + m + 2 * 0 = omega arith in
      rw one (re-first (eqb 1 m) _ _ _ (place (5 + m + 2 * 0)) ∙ b.re-kept 0 h)
  re-keeps (suc j) h =
      let one : 5 + m + 2 * suc j - 1 ≡ 4 + m + 2 * suc j = omega arith in
      let before : 5 + m + 2 * suc j - 2 ≡ 5 + m + 2 * (suc j - 1) = omega arith in
      rw (one, before) (b.re-kept (suc j) h)

  ac-fits : (j : ℕ) → j < m → get_or plan.acs j 0 ≤ 65535
  ac-fits j h = go (eqb (get_or plan.acs j 0) mark) refl
    where
      go : (t : Bool) → eqb (get_or plan.acs j 0) mark ≡ t → get_or plan.acs j 0 ≤ 65535
      go true t = omega (arith, eqb-true (get_or plan.acs j 0) mark t)
      go false t =
          omega (arith, s.keeps.re j h, s.keeps.under j h (eqb-false (get_or plan.acs j 0) mark t))

  at-ac : (j : ℕ) → j < m → right staged e (4 + m + 2 * j) ≡ true
  at-ac j h =
      right-at (4 + m + 2 * j) (omega arith) (omega (arith, s.whole)) (rw (ac-at j h) (ac-fits j h))
      (ac-number m j _ _ (place (4 + m + 2 * j)) ∙ ac-keeps j h)

  at-re : (j : ℕ) → j < m → right staged e (5 + m + 2 * j) ≡ true
  at-re j h =
      right-at (5 + m + 2 * j) (omega arith) (omega (arith, s.whole))
      (rw (re-at j h) (omega (arith, s.keeps.re j h)))
      (re-number m j _ _ (place (5 + m + 2 * j)) ∙ re-keeps j h)

  at-pair : (i : ℕ) → m ≤ i → i < 3 * m → right staged e (4 + i) ≡ true
  at-pair i l h =
      by-le ((i - m) % 2) 0
      (λ even. let at : 4 + i ≡ 4 + m + 2 * ((i - m) / 2) = omega arith in rw at (at-ac ((i - m) / 2) (omega arith)))
      (λ odd. let at : 4 + i ≡ 5 + m + 2 * ((i - m) / 2) = omega arith in rw at (at-re ((i - m) / 2) (omega arith)))

  past-key : (i : ℕ) → i < 3 * m → right staged e (suc (suc (suc (suc i)))) ≡ true
  past-key i h =
      let four : suc (suc (suc (suc i))) ≡ 4 + i = omega arith in
      rw four (by-le m i (λ l. at-pair i l h) (λ l. at-size i l))

  free : (i : ℕ) → i < 4 → (x : ℕ) → staged_rule (take i e) x ≡ true
  free i l x = staged-free e i x (omega (arith, s.whole)) l

  each : (i : ℕ) → i < 4 + 3 * m → right staged e i ≡ true
  unfolding right
  each zero h = rw (le-leb 0 (place 0) (omega arith), le-leb (place 0) 2 s.severity) (free 0 (omega arith) (place 0))
  each (suc zero) h =
      rw (le-leb 0 (place 1) (omega arith), le-leb (place 1) 15 s.letter) (free 1 (omega arith) (place 1))
  each (suc (suc zero)) h =
      rw (le-leb 0 (place 2) (omega arith), le-leb (place 2) 25 s.column) (free 2 (omega arith) (place 2))
  each (suc (suc (suc zero))) h =
      rw (le-leb 2 m s.keeps.few.0, le-leb m 7 s.keeps.few.1) (free 3 (omega arith) m)
  each (suc (suc (suc (suc i)))) h = past-key i (omega arith)

  could-hold : could_hold staged e ≡ true
  unfolding could_hold
  could-hold =
      go (numbers_from staged e (4 + 3 * m) 0)
      (numbers-tell staged e (4 + 3 * m) 0 (4 + 3 * m) (omega arith) (omega arith))
    where
      go : (w : Walk) → Tells (Wrong staged e 0 (4 + 3 * m)) (4 + 3 * m) (length e) w → is_end w ≡ true
      go (ends p) t = refl
      go (broken p) t = absurd (true≢false (sym (each p t.1.0) ∙ t.0.1.1.1))
      go short t = let z : ⊥ = omega (arith, s.whole, t.0) in absurd z

-- An entry is one that a sound book could hold exactly where it keeps the rules.
pub staged-exactly : (e : List ℕ) → (could_hold staged e ≡ true) ↔ StagedEntry e
staged-exactly e = (
  λ h.
      let k = held staged e h in
      record {
        whole = k.whole;
        severity = (in-range staged e k 0 (omega arith)).1;
        letter = (in-range staged e k 1 (omega arith)).1;
        column = (in-range staged e k 2 (omega arith)).1;
        keeps = staged-held e k;
      },
  could-hold e,
)
