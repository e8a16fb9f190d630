-- Staged plans that a sound book could hold: what the rules of the section give, stage by stage.
-- Assumes nothing.
use Prim.Native.Nat.{ℕ, zero, suc, ◌+◌, ◌*◌, ◌-◌, ◌/◌, ◌%◌, ◌≤◌, ◌<◌}
use mathlib.Core.Path.{◌≡◌, refl, ap, sym, ◌∙◌}
use mathlib.Core.Bool.{Bool, true, false, cond, ◌&&◌, ◌||◌, not, true≢false}
use mathlib.Core.List.{List}
use native.Mathlib.Omega.{arith}
use borrow.Author.Tests.{ltb-true, leb-true, le-leb, lt-leb, lt-ltb, le-ltb, eqb-true, eqb-false, eq-eqb, ne_eqb}
use lib.ListN.{length, get_or, replicate, get_or-append}
use lib.Dec.{ltb, leb, eqb}
use Rattle.rules.specs.Book.{within, ◌to◌, staged, ac_keeps, re_keeps}
use Rattle.rules.specs.Book.{staged_number, every, seven, staged_of}
use Rattle.rules.specs.Staged.{StagedPlan, Stage, stage_at, stage_decides, mark}
use Rattle.rules.specs.Verdict.{accepts, rejects, goes_on}
use Rattle.rules.specs.PlanRules.{Held}
pub use Rattle.rules.specs.PlanRules.{StagedRight}
use Rattle.rules.proofs.Bools.{and-left, and-right, or-unless}
use Rattle.rules.proofs.Bounded.{by-le}
use Rattle.rules.proofs.Steps.{staged-at}
use Rattle.rules.proofs.HeldPlans.{in-range, keeps-rule}

-- The numbers of a staged entry of m stages by stage: "neither number falls, Ac under Re, last Re = Ac + 1 .."
pub record ByStage (m : ℕ) (size ac re : ℕ → ℕ) : Type 0 where
  pub few : (2 ≤ m) × (m ≤ 7)
  pub sized : (j : ℕ) → j < m → within (1 to 2000) (size j) ≡ true
  pub ac-kept : (j : ℕ) → j < m → ac_keeps (eqb j 0) (eqb (j + 1) m) (ac (j - 1)) (ac j) ≡ true
  pub re-kept : (j : ℕ) → j < m → re_keeps (eqb j 0) (eqb (j + 1) m) (re (j - 1)) (ac j) (re j) ≡ true

-- the numbers of a plan
abbrev pub PlanByStage : StagedPlan → Type 0
PlanByStage p = ByStage p.stages (λ j. get_or p.sizes j 0) (λ j. get_or p.acs j 0) (λ j. get_or p.res j 0)

-- the rule of a number, by what stands at its place
module _ (m j two one x : ℕ) where
  pub size-number : j < m → staged_number (4 + j) m two one x ≡ within (1 to 2000) x
  unfolding staged_number
  size-number h = let l : 4 + j < 4 + m = omega arith in rw (lt-ltb (4 + j) (4 + m) l)

  pub ac-number : staged_number (4 + m + 2 * j) m two one x ≡ ac_keeps (eqb j 0) (eqb (j + 1) m) two x
  unfolding staged_number
  ac-number =
      let l : 4 + m ≤ 4 + m + 2 * j = omega arith in
      let even : (4 + m + 2 * j - (4 + m)) % 2 ≡ 0 = omega arith in
      let half : (4 + m + 2 * j - (4 + m)) / 2 ≡ j = omega arith in
      rw (le-ltb (4 + m + 2 * j) (4 + m) l, even, half)

  pub re-number : staged_number (5 + m + 2 * j) m two one x ≡ re_keeps (eqb j 0) (eqb (j + 1) m) two one x
  unfolding staged_number
  re-number =
      let l : 4 + m ≤ 5 + m + 2 * j = omega arith in
      let odd : (5 + m + 2 * j - (4 + m)) % 2 ≡ 1 = omega arith in
      let half : (5 + m + 2 * j - (4 + m)) / 2 ≡ j = omega arith in
      rw (le-ltb (5 + m + 2 * j) (4 + m) l, odd, half)

-- at the first stage there is no number before
pub ac-first : (last : Bool) (b c x : ℕ) → ac_keeps true last b x ≡ ac_keeps true last c x
unfolding ac_keeps
ac-first last b c x = refl

pub re-first : (last : Bool) (b c x y : ℕ) → re_keeps true last b x y ≡ re_keeps true last c x y
unfolding re_keeps
re-first last b c x y = refl

-- what the rules say of Re and of Ac
module _ (first last : Bool) (before ac re : ℕ) (h : re_keeps first last before ac re ≡ true) where
  re-bounded : re ≤ 65534
  unfolding re_keeps
  re-bounded = leb-true re 65534 (and-left (leb re 65534) _ h)

  re-past : first ≡ false → before ≤ re
  unfolding re_keeps
  re-past e =
      leb-true before re
      (or-unless first (leb before re) (and-left (first || leb before re) _ (and-right (leb re 65534) _ h)) e)

  over : (ac ≡ mark → ⊥) → cond last (eqb re (ac + 1)) (ltb ac re) ≡ true
  unfolding re_keeps
  over a =
      or-unless (eqb ac mark) (cond last (eqb re (ac + 1)) (ltb ac re))
      (and-right (first || leb before re) _ (and-right (leb re 65534) _ h)) (ne_eqb ac mark a)

  re-last : last ≡ true → (ac ≡ mark → ⊥) → re ≡ ac + 1
  re-last e a = eqb-true re (ac + 1) (rw e at (over a))

  re-over : (ac ≡ mark → ⊥) → ac < re
  re-over a = go last (over a)
    where
      go : (l : Bool) → cond l (eqb re (ac + 1)) (ltb ac re) ≡ true → ac < re
      go true t = omega (arith, eqb-true re (ac + 1) t)
      go false t = ltb-true ac re t

module _ (first last : Bool) (before ac : ℕ) (h : ac_keeps first last before ac ≡ true) where
  ac-last : last ≡ true → ac ≡ mark → ⊥
  unfolding ac_keeps
  ac-last e m = true≢false (sym (rw (eq-eqb ac mark m, e) at h))

  ac-past : first ≡ false → (before ≡ mark → ⊥) → (ac ≡ mark → ⊥) × (before ≤ ac)
  unfolding ac_keeps
  ac-past e b = go (eqb ac mark) refl h
    where
      go : (t : Bool) → eqb ac mark ≡ t
          → cond t (not last && (first || eqb before mark)) (first || (eqb before mark || leb before ac)) ≡ true
          → (ac ≡ mark → ⊥) × (before ≤ ac)
      go true t x =
          absurd
          (b
          (eqb-true before mark
          (or-unless first (eqb before mark) (and-right (not last) (first || eqb before mark) x) e)))
      go false t x = (
        eqb-false ac mark t,
        leb-true before ac
            (or-unless (eqb before mark) (leb before ac)
            (or-unless first (eqb before mark || leb before ac) x e) (ne_eqb before mark b)),
      )

module _ (e : List ℕ) (h : Held staged e) where
  abbrev m : ℕ
  m = get_or e 3 0

  kept : (i : ℕ) → 4 ≤ i → i < 4 + 3 * m
      → staged_number i m (get_or e (i - 2) 0) (get_or e (i - 1) 0) (get_or e i 0) ≡ true
  kept i l u =
      let inside : i < length e = omega (arith, h.whole) in
      sym (staged-at e i (get_or e i 0) inside l) ∙ keeps-rule staged e h i u

  entry-by-stage : ByStage m (λ j. get_or e (4 + j) 0) (λ j. get_or e (4 + m + 2 * j) 0)
      (λ j. get_or e (5 + m + 2 * j) 0)
  entry-by-stage =
      record {
        few = in-range staged e h 3 (omega arith);
        sized = λ j l. sym (size-number m j _ _ (get_or e (4 + j) 0) l) ∙ kept (4 + j) (omega arith) (omega arith);
        ac-kept = acs;
        re-kept = res;
      }
    where
      acs : (j : ℕ) → j < m
          → ac_keeps (eqb j 0) (eqb (j + 1) m) (get_or e (4 + m + 2 * (j - 1)) 0) (get_or e (4 + m + 2 * j) 0) ≡ true
      acs zero l =
          ac-first (eqb 1 m) _ _ (get_or e (4 + m + 2 * 0) 0)
          ∙ sym (ac-number m 0 _ _ (get_or e (4 + m + 2 * 0) 0)) ∙ kept (4 + m + 2 * 0) (omega arith) (omega arith)
      acs (suc j) l =
          let before : 4 + m + 2 * (suc j - 1) ≡ 4 + m + 2 * suc j - 2 = omega arith in
          rw before
          (sym (ac-number m (suc j) _ _ (get_or e (4 + m + 2 * suc j) 0))
          ∙ kept (4 + m + 2 * suc j) (omega arith) (omega arith))

      res : (j : ℕ) → j < m
          → re_keeps (eqb j 0) (eqb (j + 1) m) (get_or e (5 + m + 2 * (j - 1)) 0) (get_or e (4 + m + 2 * j) 0)
          (get_or e (5 + m + 2 * j) 0)
          ≡ true
      res zero l =
          let one : 4 + m + 2 * 0 ≡ 5 + m + 2 * 0 - 1 = omega arith in
          rw one
          (re-first (eqb 1 m) _ _ _ (get_or e (5 + m + 2 * 0) 0)
          ∙ sym (re-number m 0 _ _ (get_or e (5 + m + 2 * 0) 0)) ∙ kept (5 + m + 2 * 0) (omega arith) (omega arith))
      res (suc j) l =
          let before : 5 + m + 2 * (suc j - 1) ≡ 5 + m + 2 * suc j - 2 = omega arith in
          let one : 4 + m + 2 * suc j ≡ 5 + m + 2 * suc j - 1 = omega arith in
          rw (before, one)
          (sym (re-number m (suc j) _ _ (get_or e (5 + m + 2 * suc j) 0))
          ∙ kept (5 + m + 2 * suc j) (omega arith) (omega arith))

-- the same numbers, in other words
pub by-stage-as : {m : ℕ} {f g h f' g' h' : ℕ → ℕ} → ByStage m f g h → ((j : ℕ) → j < m → f' j ≡ f j)
    → ((j : ℕ) → j < m → g' j ≡ g j) → ((j : ℕ) → j < m → h' j ≡ h j) → ByStage m f' g' h'
by-stage-as b p q r =
    record {
      few = b.few;
      sized = λ j l. rw (p j l) (b.sized j l);
      ac-kept = λ j l. rw (q (j - 1) (omega arith), q j l) (b.ac-kept j l);
      re-kept = λ j l. rw (r (j - 1) (omega arith), q j l, r j l) (b.re-kept j l);
    }

-- what stands where in the lists of a plan
pub every-length : (p s n : ℕ) (e : List ℕ) → length (every p s n e) ≡ n
unfolding every
every-length p s zero e = refl
every-length p s (suc n) e = ap suc (every-length (p + s) s n e)

pub every-at : (p s n : ℕ) (e : List ℕ) (i : ℕ) → i < n → get_or (every p s n e) i 0 ≡ get_or e (p + s * i) 0
unfolding every
every-at p s zero e i h = let z : ⊥ = omega arith in absurd z
every-at p s (suc n) e zero h = let z : p + s * 0 ≡ p = omega arith in rw z
every-at p s (suc n) e (suc i) h =
    let z : p + s * suc i ≡ p + s + s * i = omega arith in rw z (every-at (p + s) s n e i (omega arith))

pub seven-at : (p s n : ℕ) (e : List ℕ) (i : ℕ) → i < n → get_or (seven (every p s n e)) i 0 ≡ get_or e (p + s * i) 0
seven-at p s n e i h =
    get_or-append (every p s n e) (replicate (7 - length (every p s n e)) 0) 0 i (rw (every-length p s n e) h)
    ∙ every-at p s n e i h

last-decides : (s : Stage) → (s.ac ≡ mark → ⊥) → s.re ≡ s.ac + 1 → (total : ℕ) → stage_decides s total ≡ goes_on → ⊥
unfolding stage_decides
last-decides s a r total h =
    by-le total s.ac
    (λ l.
    let d : stage_decides s total ≡ accepts = rw (ne_eqb s.ac mark a, le-leb total s.ac l) in
    let z : ◌≡◌ {A = ℕ} 0 1 = cc in omega arith)
    (λ l.
    let m : s.re ≤ total = omega arith in
    let d : stage_decides s total ≡ rejects =
    rw (ne_eqb s.ac mark a, lt-leb total s.ac l, le-leb s.re total m) in
    let z : ◌≡◌ {A = ℕ} 0 1 = cc in omega arith)

by-stage-right : (p : StagedPlan) → PlanByStage p → StagedRight p
by-stage-right p b =
    record {
      few = b.few;
      size =
          λ j h. (
            leb-true 1 (get_or p.sizes j 0) (and-left (leb 1 (get_or p.sizes j 0)) _ (b.sized j h)),
            leb-true (get_or p.sizes j 0) 2000 (and-right (leb 1 (get_or p.sizes j 0)) _ (b.sized j h)),
          );
      re = λ j h. re-bounded _ _ _ _ (get_or p.res j 0) (b.re-kept j h);
      under = λ j h a. re-over _ _ _ (get_or p.acs j 0) (get_or p.res j 0) (b.re-kept j h) a;
      ac-kept =
          λ j h a. ac-past (eqb (suc j) 0) _ (get_or p.acs j 0) (get_or p.acs (suc j) 0) (kept-ac j h) (past j) a;
      re-kept = λ j h. re-past (eqb (suc j) 0) _ (get_or p.res j 0) _ (get_or p.res (suc j) 0) (kept-re j h) (past j);
      last-number = number;
      last-re = over;
    }
  where
    past : (j : ℕ) → eqb (suc j) 0 ≡ false
    past j = ne_eqb (suc j) 0 (λ e. omega arith)

    same : (j : ℕ) → suc j - 1 ≡ j
    same j = omega arith

    kept-ac : (j : ℕ) → suc j < p.stages
        → ac_keeps (eqb (suc j) 0) (eqb (suc j + 1) p.stages) (get_or p.acs j 0) (get_or p.acs (suc j) 0) ≡ true
    kept-ac j h = rw (same j) at (b.ac-kept (suc j) h)

    kept-re : (j : ℕ) → suc j < p.stages
        → re_keeps (eqb (suc j) 0) (eqb (suc j + 1) p.stages) (get_or p.res j 0) (get_or p.acs (suc j) 0)
        (get_or p.res (suc j) 0)
        ≡ true
    kept-re j h = rw (same j) at (b.re-kept (suc j) h)

    last : eqb (p.stages - 1 + 1) p.stages ≡ true
    last = eq-eqb (p.stages - 1 + 1) p.stages (omega (arith, b.few.0))

    inside : p.stages - 1 < p.stages
    inside = omega (arith, b.few.0)

    number : get_or p.acs (p.stages - 1) 0 ≡ mark → ⊥
    number = ac-last _ _ _ (get_or p.acs (p.stages - 1) 0) (b.ac-kept (p.stages - 1) inside) last

    over : get_or p.res (p.stages - 1) 0 ≡ get_or p.acs (p.stages - 1) 0 + 1
    over =
        re-last _ _ _ (get_or p.acs (p.stages - 1) 0) (get_or p.res (p.stages - 1) 0)
        (b.re-kept (p.stages - 1) inside) last number

-- the last stage decides every total
pub staged-decides : (p : StagedPlan) → StagedRight p → (total : ℕ)
    → stage_decides (stage_at p (p.stages - 1)) total ≡ goes_on → ⊥
staged-decides p r = last-decides (stage_at p (p.stages - 1)) r.last-number r.last-re

-- the plan that an entry holds, stage by stage
plan-by-stage : (e : List ℕ) → Held staged e → PlanByStage (staged_of e)
plan-by-stage e h =
    by-stage-as (entry-by-stage e h)
    (λ j l. seven-at 4 1 (get_or e 3 0) e j l ∙ rw (one j))
    (λ j l. seven-at (4 + get_or e 3 0) 2 (get_or e 3 0) e j l)
    (λ j l. seven-at (5 + get_or e 3 0) 2 (get_or e 3 0) e j l)
  where
    one : (j : ℕ) → 4 + 1 * j ≡ 4 + j
    one j = omega arith

-- An entry of a sound book gives a plan with these properties.
pub staged-held : (e : List ℕ) → Held staged e → StagedRight (staged_of e)
staged-held e h = by-stage-right (staged_of e) (plan-by-stage e h)
