-- The fractions of document 02, T-01: where they stand, that none stands where the master tables hold a number, which
-- samples they accept, what the mode leaves as it was, and that a lot judged on one counts as it is told.
-- Assumes nothing.
use Prim.Native.Nat.{ℕ, zero, suc, ◌+◌, min, ◌≤◌, ◌<◌}
use mathlib.Core.Path.{◌≡◌, refl, sym, ap, subst, ◌∙◌}
use mathlib.Core.Logic.{◌↔◌, ◌⊎◌, inl, inr}
use mathlib.Core.Bool.{Bool, true, false, cond, ◌&&◌, not, false≢true}
use mathlib.Core.List.{List, [], ◌∷◌}
use native.Mathlib.Omega.{arith}
use borrow.Author.Tests.{eqb-true, eqb-false, leb-true, le-leb, lt-leb, ne_eqb, not-true, not-false}
use lib.Dec.{T, leb, eqb}
use lib.ListN.{get_or}
use Rattle.rules.specs.Refusals.{Answer, refused, given, ◌gives◌, first_of, and_then, unknown_form, no_plan}
use Rattle.rules.specs.Codes.{normal, tightened, reduced}
use Rattle.rules.specs.Verdict.{Verdict, Judged}
use Rattle.rules.specs.Single.{number, Row, row_at, box_of, box_at, Plan, judge_items}
use Rattle.rules.specs.Severity.{Lot, add_two, counted}
use Rattle.rules.specs.Fractional.{half, third, ◌holds◌, fractions, share_in, share_at, has_fractional_plan}
use Rattle.rules.specs.Fractional.{FractionalPlan, plan_of_share, fraction_accepts, fraction_verdict, verdict_by_share}
use Rattle.rules.specs.Fractional.{judge_by_share}
use Rattle.rules.specs.Supply.{Supply, run_on, counts_on, move, supply_in_range}
use Rattle.rules.specs.Book.{Checked, sound, broken_at, check_book, on_sound}
use Rattle.rules.specs.Entries.{Asked, single_plan, in_fractions, fractional_plan, judged_on, judge_single, Closed}
use Rattle.rules.specs.Entries.{Offered, asked_on, closed_with, single_event, close_single}
use Rattle.rules.specs.Entries.{judge_fractional, fractional_event, close_fractional}
use Rattle.rules.specs.Planning.{OneThird, OneHalf, own_share, own_fraction, ShareKinds, with_share, closed_with_share}
use Rattle.rules.specs.Planning.{on_plan}
use Rattle.rules.proofs.Bools.{and-left, and-right}
use Rattle.rules.proofs.Bounded.{both_left, both-right, implies, implies-at, all, all-at₂}
use Rattle.rules.proofs.Answers.{refused-given, given-one, then-given, then-alike, then-then}
use Rattle.rules.proofs.Moving.{lot-counts, sampled-counts}
use Rattle.rules.proofs.Refusals.{first-given}
use Rattle.rules.proofs.Landing.{holds_number}
use Rattle.rules.proofs.EntryLaws.{sound-given, judged-given}

-- a severity that has one third at a and one half at b
record Shares (a b s share : ℕ) : Type 0 where
  third_at : (share ≡ third) ↔ (s ≡ a)
  half_at : (share ≡ half) ↔ (s ≡ b)

shares : (a b s : ℕ) → a < b → Shares a b s (share_in ((a holds third) ∷ (b holds half) ∷ []) s)
unfolding share_in
shares a b s apart = go (eqb s a) (eqb s b) refl refl
  where
    go : (t u : Bool) → eqb s a ≡ t → eqb s b ≡ u → Shares a b s (cond t third (cond u half 0))
    go true u e f = omega (arith, eqb-true s a e)
    go false true e f = omega (arith, eqb-false s a e, eqb-true s b f)
    go false false e f = omega (arith, eqb-false s a e, eqb-false s b f)

-- a share stands at one s under normal and at another under tightened
exactly : (share a b : ℕ) → 0 < share → ((s : ℕ) → (share_in (get_or fractions normal []) s ≡ share) ↔ (s ≡ a))
    → ((s : ℕ) → (share_in (get_or fractions tightened []) s ≡ share) ↔ (s ≡ b)) → (severity s : ℕ)
    → (share_in (get_or fractions severity []) s ≡ share)
    ↔ (((severity ≡ normal) × (s ≡ a)) ⊎ ((severity ≡ tightened) × (s ≡ b)))
unfolding share_in
exactly share a b some on-normal on-tightened severity s = (so severity, back)
  where
    so : (severity : ℕ) → share_in (get_or fractions severity []) s ≡ share
        → ((severity ≡ normal) × (s ≡ a)) ⊎ ((severity ≡ tightened) × (s ≡ b))
    so zero e = inl (refl, (on-normal s).0 e)
    so (suc zero) e = inr (refl, (on-tightened s).0 e)
    so (suc (suc severity)) e = absurd (omega arith)

    back : ((severity ≡ normal) × (s ≡ a)) ⊎ ((severity ≡ tightened) × (s ≡ b))
        → share_in (get_or fractions severity []) s ≡ share
    back (inl h) = rw h.0 ((on-normal s).1 h.1)
    back (inr h) = rw h.0 ((on-tightened s).1 h.1)

-- none, one half or one third
two : (t u : Bool) → ShareKinds (cond t third (cond u half 0))
two true u = inr (inr refl)
two false true = inr (inl refl)
two false false = inl refl

kinds : (severity s : ℕ) → ShareKinds (share_in (get_or fractions severity []) s)
unfolding share_in
kinds zero s = two (eqb s 15) (eqb s 16)
kinds (suc zero) s = two (eqb s 16) (eqb s 17)
kinds (suc (suc severity)) s = inl refl

module _ (severity column letter : ℕ) where
  -- "normal s 15 is 1/3 .. tightened s 16 is 1/3" ..
  pub third-exactly : (share_at severity column letter ≡ third) ↔ OneThird severity (letter + column)
  unfolding share_at
  third-exactly =
      exactly third 15 16 (omega arith) (λ s. (shares 15 16 s (omega arith)).third_at)
      (λ s. (shares 16 17 s (omega arith)).third_at) severity (letter + column)

  -- .. "and s 16 is 1/2 .. and s 17 is 1/2" ..
  pub half-exactly : (share_at severity column letter ≡ half) ↔ OneHalf severity (letter + column)
  unfolding share_at
  half-exactly =
      exactly half 16 17 (omega arith) (λ s. (shares 15 16 s (omega arith)).half_at)
      (λ s. (shares 16 17 s (omega arith)).half_at) severity (letter + column)

  -- .. and nothing else is a fraction.
  pub share-kinds : ShareKinds (share_at severity column letter)
  unfolding share_at
  share-kinds = kinds severity (letter + column)

  pub fraction-exactly : (share_at severity column letter ≡ 0 → ⊥)
      ↔ (OneThird severity (letter + column) ⊎ OneHalf severity (letter + column))
  fraction-exactly = (so share-kinds, back)
    where
      so : ShareKinds (share_at severity column letter) → (share_at severity column letter ≡ 0 → ⊥)
          → OneThird severity (letter + column) ⊎ OneHalf severity (letter + column)
      so (inl e) some = absurd (some e)
      so (inr (inl e)) some = inr (half-exactly.0 e)
      so (inr (inr e)) some = inl (third-exactly.0 e)

      back : OneThird severity (letter + column) ⊎ OneHalf severity (letter + column)
          → share_at severity column letter ≡ 0 → ⊥
      back (inl h) e = omega (arith, third-exactly.1 h)
      back (inr h) e = omega (arith, half-exactly.1 h)

  -- A fractional plan: "at their own letter", which Table 1 gives, and in "Columns" not "over 15".
  pub fractional-plan-exactly : (has_fractional_plan severity column letter ≡ true)
      ↔ ((letter ≤ 15) × (column ≤ 15) × (share_at severity column letter ≡ 0 → ⊥))
  unfolding has_fractional_plan
  fractional-plan-exactly = (
    λ e.
        let r = and-right (leb letter 15) _ e in (
          leb-true letter 15 (and-left (leb letter 15) _ e),
          leb-true column 15 (and-left (leb column 15) _ r),
          eqb-false _ 0 (not-true _ (and-right (leb column 15) _ r)),
        ),
    λ h. rw (le-leb letter 15 h.0, le-leb column 15 h.1, ne_eqb (share_at severity column letter) 0 h.2),
  )

-- Reduced and stopped have none.
pub none-from-reduced : (severity column letter : ℕ) → 2 ≤ severity → share_at severity column letter ≡ 0
unfolding share_at share_in
none-from-reduced zero column letter h = absurd (omega arith)
none-from-reduced (suc zero) column letter h = absurd (omega arith)
none-from-reduced (suc (suc severity)) column letter h = refl

-- a row with a fraction holds no number, at no letter
no_number : ℕ → ℕ → Bool
no_number severity s =
    implies (not (eqb (share_in (get_or fractions severity []) s) 0))
    (not (holds_number (row_at severity s).there) && not (holds_number (row_at severity s).elsewhere))

no-numbers : T (all 2 (λ severity. all 18 (no_number severity)))
unfolding no_number holds_number share_in
no-numbers = tt

-- the bounds of that test
within : (severity s : ℕ) → OneThird severity s ⊎ OneHalf severity s → (severity < 2) × (s < 18)
within severity s (inl (inl h)) = omega arith
within severity s (inl (inr h)) = omega arith
within severity s (inr (inl h)) = omega arith
within severity s (inr (inr h)) = omega arith

arrow-at : (row : Row) (letter : ℕ) → T (not (holds_number row.there) && not (holds_number row.elsewhere))
    → T (not (holds_number (box_of row letter)))
arrow-at row letter t = go (leb row.first letter && leb letter row.last)
  where
    go : (b : Bool) → T (not (holds_number (cond b row.there row.elsewhere)))
    go true = both_left (not (holds_number row.there)) _ t
    go false = both-right (not (holds_number row.there)) _ t

-- The master tables hold no number where a fraction stands, at any letter and column: none is replaced.
pub fraction-arrow : (severity column letter ac : ℕ) → (share_at severity column letter ≡ 0 → ⊥)
    → box_at severity column letter ≡ number ac → ⊥
unfolding box_at share_at no_number holds_number
fraction-arrow severity column letter ac some e =
    let w = within severity (letter + column) ((fraction-exactly severity column letter).0 some) in
    let t = all-at₂ 2 18 no_number no-numbers severity (letter + column) w.0 w.1 in
    rw e at
    (arrow-at (row_at severity (letter + column)) letter
    (implies-at (not (eqb (share_at severity column letter) 0)) _ t
    (rw (ne_eqb (share_at severity column letter) 0 some) tt)))

-- "A clean sample accepts. One nonconforming item accepts under 1/2 if the previous lot's sample was clean, under 1/3
-- if the previous two were .. Two or more never accept."
pub clean-accepts : (share before : ℕ) → fraction_accepts share before 0 ≡ true
clean-accepts share before = refl

-- one nonconforming item, by the share
one-after : (k before : ℕ) → (fraction_accepts (suc k) before 1 ≡ true) ↔ (k ≤ before)
one-after k before =
    (λ e. omega (arith, leb-true (suc k) (suc before) e), λ h. le-leb (suc k) (suc before) (omega arith))

pub one-under-half : (before : ℕ) → (fraction_accepts half before 1 ≡ true) ↔ (1 ≤ before)
one-under-half before = one-after 1 before

pub one-under-third : (before : ℕ) → (fraction_accepts third before 1 ≡ true) ↔ (2 ≤ before)
one-under-third before = one-after 2 before

pub two-never-accept : (share before total : ℕ) → 2 ≤ total → fraction_accepts share before total ≡ false
two-never-accept share before total h =
    rw (ne_eqb total 0 (λ e. omega arith), ne_eqb total 1 (λ e. omega arith))

-- .. in all
pub accepts-exactly : (k before total : ℕ)
    → (fraction_accepts (suc k) before total ≡ true) ↔ ((total ≡ 0) ⊎ ((total ≡ 1) × (k ≤ before)))
accepts-exactly k before zero = (λ e. inl refl, λ h. refl)
accepts-exactly k before (suc zero) = (λ e. inr (refl, (one-after k before).0 e), so)
  where
    so : (◌≡◌ {A = ℕ} 1 0) ⊎ ((◌≡◌ {A = ℕ} 1 1) × (k ≤ before)) → fraction_accepts (suc k) before 1 ≡ true
    so (inl z) = absurd (omega arith)
    so (inr h) = (one-after k before).1 h.1
accepts-exactly k before (suc (suc total)) =
    (λ e. absurd (false≢true (sym (two-never-accept (suc k) before (suc (suc total)) (omega arith)) ∙ e)), so)
  where
    so : (suc (suc total) ≡ 0) ⊎ ((suc (suc total) ≡ 1) × (k ≤ before))
        → fraction_accepts (suc k) before (suc (suc total)) ≡ true
    so (inl z) = absurd (omega arith)
    so (inr h) = absurd (omega (arith, h.0))

-- a total is told held at 2, which accepts alike
held-accepts : (share before total : ℕ)
    → fraction_accepts share before (min 2 total) ≡ fraction_accepts share before total
held-accepts share before zero = refl
held-accepts share before (suc zero) = refl
held-accepts share before (suc (suc total)) =
    let e : min 2 (suc (suc total)) ≡ 2 = omega arith in
    rw e (sym (two-never-accept share before (suc (suc total)) (omega arith)))

-- on a fraction the verdict is by the clean samples before
by-clean : (share before : ℕ) (v w : Verdict) → (share ≡ 0 → ⊥) → verdict_by_share share before v ≡ w
    → w.accepted ≡ fraction_accepts share before w.total
by-clean share before v w some e =
    let f : fraction_verdict share before v ≡ w = rw (ne_eqb share 0 some) at e in
    subst (λ (x : Verdict). x.accepted ≡ fraction_accepts share before x.total) f refl

-- a book that was checked is checked again to no effect
sound-once : {A B C : Type 0} (c : Checked) (a : Answer A) (next : A → Answer B) (last : B → Answer C)
    → on_sound c (and_then (and_then (on_sound c a) next) last) ≡ and_then (and_then (on_sound c a) next) last
sound-once sound a next last = refl
sound-once (broken_at byte) a next last = refl

-- What the mode makes of a lot's plan: it stays, with share 0, or is the fraction of the lot's own box.
pub data InMode (q : Asked) (plan : Plan) (p : FractionalPlan) : Type 0 where
  whole : own_share q ≡ 0 → plan_of_share plan 0 ≡ p → InMode q plan p
  fraction : (own_share q ≡ 0 → ⊥) → q.column ≤ 15 → own_fraction q (own_share q) ≡ p → InMode q plan p

module _ (q : Asked) (plan : Plan) where
  pub in-whole : own_share q ≡ 0 → in_fractions q plan ≡ given (plan_of_share plan 0)
  in-whole none = rw none

  in-fraction : (own_share q ≡ 0 → ⊥) → q.column ≤ 15 → in_fractions q plan ≡ given (own_fraction q (own_share q))
  in-fraction some c = rw (ne_eqb (own_share q) 0 some, le-leb q.column 15 c)

  in-none : (own_share q ≡ 0 → ⊥) → 15 < q.column → in_fractions q plan ≡ refused no_plan 0
  in-none some c = rw (ne_eqb (own_share q) 0 some, lt-leb q.column 15 c)

  pub in-mode : (p : FractionalPlan) → in_fractions q plan ≡ given p → InMode q plan p
  in-mode p e = on (eqb (own_share q) 0) (leb q.column 15) refl refl e
    where
      on : (t u : Bool) → eqb (own_share q) 0 ≡ t → leb q.column 15 ≡ u
          → cond t (given (plan_of_share plan 0))
          (first_of ((not u gives no_plan) ∷ []) (given (own_fraction q (own_share q))))
          ≡ given p
          → InMode q plan p
      on true u z c e = whole (eqb-true (own_share q) 0 z) (given-one e)
      on false true z c e = fraction (eqb-false (own_share q) 0 z) (leb-true q.column 15 c) (given-one e)
      on false false z c e = absurd (refused-given e)

-- Where the lot's own box is no fraction the plan is the old one, with share 0; so under reduced always.
module _ (q : Asked) (book : List ℕ) where
  pub whole-plan : own_share q ≡ 0
      → fractional_plan q book ≡ and_then (single_plan q book) (λ p. given (plan_of_share p 0))
  unfolding fractional_plan
  whole-plan none = then-alike (single_plan q book) (λ p. in-whole q p none)

  pub reduced-plan : q.severity ≡ reduced
      → fractional_plan q book ≡ and_then (single_plan q book) (λ p. given (plan_of_share p 0))
  reduced-plan e = whole-plan (none-from-reduced q.severity q.column _ (omega arith))

  -- Where it is one: "at their own letter, size and column, with no arrow", the size cut to the lot, Ac 0 ..
  module _ (p : Plan) (g : single_plan q book ≡ given p) (some : own_share q ≡ 0 → ⊥) where
    pub fraction-plan : q.column ≤ 15 → fractional_plan q book ≡ given (own_fraction q (own_share q))
    unfolding fractional_plan
    fraction-plan c = rw g (in-fraction q p some c)

    -- .. and "6 when the column is over 15 and the box is fractional".
    pub no-fraction-plan : 15 < q.column → fractional_plan q book ≡ refused no_plan 0
    unfolding fractional_plan
    no-fraction-plan c = rw g (in-none q p some c)

module _ (s : Supply) (o : Offered) where
  abbrev q : Asked
  q = asked_on s.switching o

  -- Where the lot's own box is no fraction, the lot is judged and closed as in the old mode: the same verdict, event
  -- and record after it.
  module _ (book sample : List ℕ) (none : own_share q ≡ 0) where
    judged-whole : and_then (fractional_plan q book) (judged_on (on_plan s o sample))
        ≡ and_then (judge_single q book sample) (λ j. given (with_share j))
    unfolding judge_single judge_by_share
    judged-whole =
        let plan = single_plan q book in
        rw (whole-plan q book none)
        (then-then plan _ _
        ∙ then-alike plan
        (λ p.
        let judged = judge_items o.column p sample in
        then-then judged _ _ ∙ sym (then-then judged _ _))
        ∙ sym (then-then plan _ _))

    pub judged-as-single : supply_in_range s ≡ true
        → judge_fractional s o book sample ≡ and_then (judge_single q book sample) (λ j. given (with_share j))
    unfolding judge_fractional judge_single single_plan
    judged-as-single good = rw (good, judged-whole) (sound-once (check_book book) _ _ _)

    pub closed-as-single : close_fractional s o book sample
        ≡ and_then (close_single s o book sample) (λ c. given (closed_with_share c))
    unfolding close_fractional judge_fractional close_single
    closed-as-single = rw judged-whole (on (check_book book) (not (supply_in_range s)) (judge_single q book sample))
      where
        closed : Judged Plan Verdict → Answer (Closed Plan)
        closed = closed_with s (single_event s.switching o)

        on : (c : Checked) (t : Bool) (a : Answer (Judged Plan Verdict))
            → and_then (on_sound c (first_of ((t gives unknown_form) ∷ []) (and_then a (λ j. given (with_share j)))))
            (closed_with s (fractional_event s.switching o))
            ≡ and_then (on_sound c (first_of ((t gives unknown_form) ∷ []) (and_then a closed)))
            (λ c. given (closed_with_share c))
        on (broken_at byte) t a = refl
        on sound true a = refl
        on sound false a =
            then-then a _ _
            ∙ then-alike a (λ j. sym (then-then (move s (single_event s.switching o j)) _ _))
            ∙ sym (then-then a _ _)

  -- A lot is judged exactly where book and record are sound, on the mode's plan.
  pub judged-exactly : (book sample : List ℕ) (j : Judged FractionalPlan Verdict)
      → (judge_fractional s o book sample ≡ given j)
      ↔ ((check_book book ≡ sound)
      × (supply_in_range s ≡ true)
      × (fractional_plan q book ≡ given j.plan)
      × (on_plan s o sample j.plan ≡ given j.verdict))
  unfolding judge_fractional
  judged-exactly book sample j =
      let good = first-given ((not (supply_in_range s) gives unknown_form) ∷ []) _ j in
      let by = judged-given (fractional_plan q book) (on_plan s o sample) j in (
        λ g.
            let b = (sound-given (check_book book) _ j).0 g in
            let h = good.0 b.1 in
            let d = by.0 h.1 in
            (b.0, not-false (supply_in_range s) h.0.0, d.0, d.1),
        λ h. (sound-given (check_book book) _ j).1 (h.0, good.1 ((ap not h.1, tt), by.1 (h.2, h.3))),
      )

  module _ (p : FractionalPlan) (v : Verdict) (some : p.share ≡ 0 → ⊥) (ac : p.plan.ac ≡ 0)
      (e : p.share ≡ share_at q.severity q.column p.plan.letter) where
    abbrev before : ℕ
    before = run_on s.clean p.plan.letter o.column

    -- on a fraction the step reads the same verdict from the record
    on-fraction-counts : v.accepted ≡ fraction_accepts p.share before v.total
        → counts_on s (fractional_event s.switching o (record { plan = p; verdict = v }))
        ≡ fractional_event s.switching o (record { plan = p; verdict = v })
    on-fraction-counts a =
        rw (ne_eqb p.share 0 some, ac)
        (lot-counts s o _ _ (on (has_fractional_plan q.severity q.column p.plan.letter)))
      where
        as_told : Lot
        as_told = counted q.severity v.accepted add_two

        on : (t : Bool)
            → cond t
            (counted q.severity
            (fraction_accepts (share_at q.severity q.column p.plan.letter) before (min 2 v.total)) add_two)
            as_told
            ≡ as_told
        on true = rw (← e, held-accepts p.share before v.total, ← a)
        on false = refl

  -- The event of a lot that is judged is settled: the verdict that the step reads from the record is the one told.
  pub told-settled : (book sample : List ℕ) (j : Judged FractionalPlan Verdict)
      → judge_fractional s o book sample ≡ given j
      → counts_on s (fractional_event s.switching o j) ≡ fractional_event s.switching o j
  unfolding judge_by_share fractional_plan
  told-settled book sample j g =
      let b = (judged-exactly book sample j).0 g in
      let p = then-given (single_plan q book) (in_fractions q) j.plan b.2 in
      let v = then-given (judge_items o.column j.plan.plan sample) _ j.verdict b.3 in
      on (in-mode q p.0 j.plan p.2) v.0 (given-one v.2)
    where
      on : {plan : Plan} → InMode q plan j.plan → (v : Verdict)
          → verdict_by_share j.plan.share (run_on s.clean j.plan.plan.letter o.column) v ≡ j.verdict
          → counts_on s (fractional_event s.switching o j) ≡ fractional_event s.switching o j
      on (whole none e) v f = rw (← e) (sampled-counts s o _)
      on (fraction some c e) v f =
          let own : j.plan.share ≡ 0 → ⊥ = rw (← e) some in
          on-fraction-counts j.plan j.verdict own (rw (← e)) (rw (← e))
          (by-clean j.plan.share _ v j.verdict own f)
