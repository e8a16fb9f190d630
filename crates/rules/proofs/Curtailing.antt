-- A curtailed sample: the walk over it is said with no walk, by where the sample stops, by the illegal item that it
-- meets, or that it is short.
-- Assumes nothing.
use Prim.Native.Nat.{ℕ, zero, suc, ◌+◌, ◌*◌, ◌≤◌, ◌<◌, zero-le, suc-le-suc}
use mathlib.Core.Path.{◌≡◌, refl, sym, ap, subst, ◌∙◌}
use mathlib.Core.Logic.{◌↔◌, ◌⊎◌, inl, inr}
use mathlib.Core.Bool.{Bool, true, false, false≢true}
use mathlib.Core.List.{List, [], ◌∷◌, ◌++◌}
use native.Mathlib.Nat.{le_refl, le_of_suc-le-suc, zero-add}
use native.Mathlib.Omega.{arith}
use borrow.Author.Tests.{lt-ltb, le-ltb}
use lib.ListN.{length, get_or, take, drop, length-drop, length-append}
use lib.Seq.{take_all, take-length, take-append-le}
use Rattle.rules.specs.Refusals.{Answer, refused, given, wrong_length, illegal_item}
use Rattle.rules.specs.Numbers.{numbers_of, half_left, sum_of}
use Rattle.rules.specs.Codes.{illegal, any_illegal}
use Rattle.rules.specs.Verdict.{Verdict, ended}
use Rattle.rules.specs.Single.{Plan}
use Rattle.rules.specs.Curtailed.{verdict_after, curtailed_from, judge_until_lost}
use Rattle.rules.specs.Reporting.{Reports}
use Rattle.rules.specs.Judging.{StopsAfter, CurtailedJudged, WrongEnd, ends-before, goes-past, MeetsIllegal}
use Rattle.rules.specs.Judging.{CurtailedRows}
use Rattle.rules.proofs.Bools.{or-neither}
use Rattle.rules.proofs.Bounded.{by-le}
use Rattle.rules.proofs.Answers.{refused-given}
use Rattle.rules.proofs.Refusals.{refused-number, nothing-wrong, last-from}
use Rattle.rules.proofs.Refusals as reporting
use Rattle.rules.proofs.Numbers.{numbers-low}
use Rattle.rules.proofs.Items.{no-half, illegal-means, any-when}
use Rattle.rules.proofs.Parts.{ended-so}
use Rattle.rules.proofs.SampleSteps.{ended-there, ended-past}

-- where a walk from a total on, with so many items still to read, stops; what it meets; that it is short
record StopsFrom (column ac left total : ℕ) (xs : List ℕ) (k : ℕ) : Type 0 where
  pub there : k ≤ length xs
  pub within : k ≤ left
  pub legal : any_illegal column (take k xs) ≡ false
  pub earlier : (i : ℕ) → i < k → total + sum_of (take i xs) ≤ ac
  pub ends : (ac < total + sum_of (take k xs)) ⊎ (k ≡ left)

record MeetsFrom (column ac left total : ℕ) (xs : List ℕ) (place : ℕ) : Type 0 where
  pub there : place < length xs
  pub reached : place < left
  pub legal-before : any_illegal column (take place xs) ≡ false
  pub illegal-there : illegal column (get_or xs place 0) ≡ true
  pub undecided : total + sum_of (take place xs) ≤ ac

record ShortOf (column ac left total : ℕ) (xs : List ℕ) : Type 0 where
  pub few : length xs < left
  pub legal : any_illegal column xs ≡ false
  pub undecided : total + sum_of xs ≤ ac

module _ (column : ℕ) (plan : Plan) (half : Bool) where
  abbrev ac : ℕ
  ac = plan.ac

  verdict-same : {u v s t : ℕ} → u ≡ v → s ≡ t → verdict_after plan u s ≡ verdict_after plan v t
  verdict-same e f = rw (e, f)

  -- the items after the first, where that is legal and does not pass Ac
  stops-later : (left total x : ℕ) (xs : List ℕ) (k : ℕ) → StopsFrom column ac (suc left) total (x ∷ xs) (suc k)
      → StopsFrom column ac left (total + x) xs k
  unfolding any_illegal sum_of
  stops-later left total x xs k s =
      record {
        there = le_of_suc-le-suc s.there;
        within = le_of_suc-le-suc s.within;
        legal = (or-neither (illegal column x) (any_illegal column (take k xs)) s.legal).1;
        earlier = λ i h. omega (arith, s.earlier (suc i) (suc-le-suc h));
        ends = on s.ends;
      }
    where
      on : (ac < total + (x + sum_of (take k xs))) ⊎ (suc k ≡ suc left)
          → (ac < total + x + sum_of (take k xs)) ⊎ (k ≡ left)
      on (inl h) = inl (omega arith)
      on (inr e) = inr (omega arith)

  stops-when : (left used total : ℕ) (xs : List ℕ) (k : ℕ) → total ≤ ac → StopsFrom column ac left total xs k
      → curtailed_from column plan half left used total xs
      ≡ ended half (drop k xs) (verdict_after plan (used + k) (total + sum_of (take k xs)))
  unfolding curtailed_from any_illegal sum_of
  stops-when zero used total xs zero h s = ap (ended half xs) (verdict-same (omega arith) (omega arith))
  stops-when (suc left) used total xs zero h s = absurd (on s.ends)
    where
      on : (ac < total + 0) ⊎ (0 ≡ suc left) → ⊥
      on (inl l) = omega arith
      on (inr e) = omega arith
  stops-when zero used total xs (suc k) h s = absurd (omega (arith, s.within))
  stops-when (suc left) used total [] (suc k) h s = absurd (omega (arith, s.there))
  stops-when (suc left) used total (x ∷ xs) (suc k) h s =
      let n = or-neither (illegal column x) (any_illegal column (take k xs)) s.legal in
      by-le (total + x) ac
      (λ l.
      rw (n.0, le-ltb ac (total + x) l)
      (stops-when left (suc used) (total + x) xs k l (stops-later left total x xs k s)
      ∙ ap (ended half (drop k xs)) (verdict-same (omega arith) (omega arith))))
      (λ l. rw (n.0, lt-ltb ac (total + x) l) (last k s.earlier l))
    where
      last : (k : ℕ) → ((i : ℕ) → i < suc k → total + sum_of (take i (x ∷ xs)) ≤ ac) → ac < total + x
          → ended half xs (verdict_after plan (suc used) (total + x))
          ≡ ended half (drop k xs) (verdict_after plan (used + suc k) (total + (x + sum_of (take k xs))))
      last zero e l = ap (ended half xs) (verdict-same (omega arith) (omega arith))
      last (suc k) e l = absurd (omega (arith, e 1 (omega arith)))

  meets-when : (left used total : ℕ) (xs : List ℕ) (place : ℕ) → MeetsFrom column ac left total xs place
      → curtailed_from column plan half left used total xs ≡ refused illegal_item 0
  unfolding curtailed_from any_illegal sum_of
  meets-when zero used total xs place m = absurd (omega (arith, m.reached))
  meets-when (suc left) used total [] place m = absurd (omega (arith, m.there))
  meets-when (suc left) used total (x ∷ xs) zero m = rw m.illegal-there
  meets-when (suc left) used total (x ∷ xs) (suc place) m =
      let n = or-neither (illegal column x) (any_illegal column (take place xs)) m.legal-before in
      rw (n.0, le-ltb ac (total + x) (omega (arith, m.undecided)))
      (meets-when left (suc used) (total + x) xs place
      record {
        there = le_of_suc-le-suc m.there;
        reached = le_of_suc-le-suc m.reached;
        legal-before = n.1;
        illegal-there = m.illegal-there;
        undecided = omega (arith, m.undecided);
      })

  short-when : (left used total : ℕ) (xs : List ℕ) → ShortOf column ac left total xs
      → curtailed_from column plan half left used total xs ≡ refused wrong_length 0
  unfolding curtailed_from any_illegal sum_of
  short-when zero used total xs s = absurd (omega (arith, s.few))
  short-when (suc left) used total [] s = refl
  short-when (suc left) used total (x ∷ xs) s =
      let n = or-neither (illegal column x) (any_illegal column xs) s.legal in
      rw (n.0, le-ltb ac (total + x) (omega (arith, s.undecided)))
      (short-when left (suc used) (total + x) xs
      record { few = le_of_suc-le-suc s.few; legal = n.1; undecided = omega (arith, s.undecided) })

  -- one of the three holds
  data Which (left total : ℕ) (xs : List ℕ) : Type 0 where
    stops : (k : ℕ) → StopsFrom column ac left total xs k → Which left total xs
    meets : (place : ℕ) → MeetsFrom column ac left total xs place → Which left total xs
    short : ShortOf column ac left total xs → Which left total xs

  later : (left total x : ℕ) (xs : List ℕ) → total ≤ ac → illegal column x ≡ false → Which left (total + x) xs
      → Which (suc left) total (x ∷ xs)
  unfolding any_illegal sum_of
  later left total x xs h e (stops k s) =
      stops (suc k)
      record {
        there = suc-le-suc s.there;
        within = suc-le-suc s.within;
        legal = rw (e, s.legal);
        earlier = before-it;
        ends = on s.ends;
      }
    where
      before-it : (i : ℕ) → i < suc k → total + sum_of (take i (x ∷ xs)) ≤ ac
      before-it zero l = omega arith
      before-it (suc i) l = omega (arith, s.earlier i (le_of_suc-le-suc l))

      on : (ac < total + x + sum_of (take k xs)) ⊎ (k ≡ left)
          → (ac < total + (x + sum_of (take k xs))) ⊎ (suc k ≡ suc left)
      on (inl l) = inl (omega arith)
      on (inr f) = inr (ap suc f)
  later left total x xs h e (meets place m) =
      meets (suc place)
      record {
        there = suc-le-suc m.there;
        reached = suc-le-suc m.reached;
        legal-before = rw (e, m.legal-before);
        illegal-there = m.illegal-there;
        undecided = omega (arith, m.undecided);
      }
  later left total x xs h e (short s) =
      short record { few = suc-le-suc s.few; legal = rw (e, s.legal); undecided = omega (arith, s.undecided) }

  which : (left total : ℕ) (xs : List ℕ) → total ≤ ac → Which left total xs
  unfolding any_illegal sum_of
  which zero total xs h =
      stops 0
      record { there = zero-le; within = zero-le; legal = refl; earlier = λ i l. absurd (omega arith); ends = inr refl }
  which (suc left) total [] h = short record { few = omega arith; legal = refl; undecided = omega arith }
  which (suc left) total (x ∷ xs) h = on (illegal column x) refl (which left (total + x) xs)
    where
      first : illegal column x ≡ false → ac < total + x → StopsFrom column ac (suc left) total (x ∷ xs) 1
      first e l =
          record {
            there = omega arith;
            within = omega arith;
            legal = rw e;
            earlier = none;
            ends = inl (omega arith);
          }
        where
          none : (i : ℕ) → i < 1 → total + sum_of (take i (x ∷ xs)) ≤ ac
          none zero k = omega arith
          none (suc i) k = absurd (omega arith)

      on : (t : Bool) → illegal column x ≡ t → (total + x ≤ ac → Which left (total + x) xs)
          → Which (suc left) total (x ∷ xs)
      on true e more =
          meets 0
          record {
            there = omega arith;
            reached = omega arith;
            legal-before = refl;
            illegal-there = e;
            undecided = omega arith;
          }
      on false e more =
          by-le (total + x) ac (λ l. later left total x xs h e (more l)) (λ l. stops 1 (first e l))

-- from the first item on
module _ (column : ℕ) (plan : Plan) (xs : List ℕ) where
  start : (k : ℕ) → StopsAfter column plan xs k → StopsFrom column plan.ac plan.n 0 xs k
  start k s =
      record {
        there = s.there;
        within = s.within;
        legal = s.legal;
        earlier = λ i h. omega (arith, s.earlier i h);
        ends = simp zero-add s.ends;
      }

  at-start : (k : ℕ) → StopsFrom column plan.ac plan.n 0 xs k → StopsAfter column plan xs k
  at-start k s =
      record {
        there = s.there;
        within = s.within;
        legal = s.legal;
        earlier = λ i h. omega (arith, s.earlier i h);
        ends = simp zero-add at s.ends;
      }

  -- A sample stops at one item.
  pub stops-once : (j k : ℕ) → StopsAfter column plan xs j → StopsAfter column plan xs k → j ≡ k
  stops-once j k s t = by-le j k (λ h. by-le k j (λ l. omega arith) (λ l. absurd (no-later j k l s t)))
      (λ h. absurd (no-later k j h t s))
    where
      no-later : (j k : ℕ) → j < k → StopsAfter column plan xs j → StopsAfter column plan xs k → ⊥
      no-later j k l s t = on s.ends
        where
          on : (plan.ac < sum_of (take j xs)) ⊎ (j ≡ plan.n) → ⊥
          on (inl h) = omega (arith, t.earlier j l)
          on (inr e) = omega (arith, t.within)

  -- of enough legal items some are read
  pub legal-stops : any_illegal column xs ≡ false → plan.n ≤ length xs → (k : ℕ) × StopsAfter column plan xs k
  legal-stops legal enough = on (which column plan false plan.n 0 xs (omega arith))
    where
      on : Which column plan false plan.n 0 xs → (k : ℕ) × StopsAfter column plan xs k
      on (stops k s) = (k, at-start k s)
      on (meets place m) = absurd (false≢true (sym legal ∙ illegal-any place m))
        where
          illegal-any : (place : ℕ) → MeetsFrom column plan.ac plan.n 0 xs place → any_illegal column xs ≡ true
          illegal-any place m =
              let i = illegal-means column (get_or xs place 0) m.illegal-there in
              any-when column xs record { place = place; there = m.there; counts = i.0; too_much = i.1 }
      on (short s) = absurd (omega (arith, s.few))

-- What follows the items that are read does not matter.
module _ (column : ℕ) (plan : Plan) (xs ys : List ℕ) (k : ℕ) (h : k ≤ length xs) where
  pub stops-before : StopsAfter column plan xs k → StopsAfter column plan (xs ++ ys) k
  stops-before s =
      let e = take-append-le k xs ys h in
      record {
        there = omega (arith, length-append xs ys);
        within = s.within;
        legal = rw e s.legal;
        earlier = λ i l. rw (take-append-le i xs ys (omega arith)) (s.earlier i l);
        ends = rw e s.ends;
      }

  pub stops-alone : StopsAfter column plan (xs ++ ys) k → StopsAfter column plan xs k
  stops-alone s =
      let e = take-append-le k xs ys h in
      record {
        there = h;
        within = s.within;
        legal = rw e at s.legal;
        earlier = λ i l. rw (take-append-le i xs ys (omega arith)) at (s.earlier i l);
        ends = rw e at s.ends;
      }

module _ (column : ℕ) (plan : Plan) (sample : List ℕ) where
  abbrev items : List ℕ
  items = numbers_of sample

  abbrev judged : Answer Verdict
  judged = judge_until_lost column plan sample

  stopped : (k : ℕ) → StopsAfter column plan items k
      → judged ≡ ended (half_left sample) (drop k items) (verdict_after plan k (sum_of (take k items)))
  unfolding judge_until_lost
  stopped k s =
      stops-when column plan (half_left sample) plan.n 0 0 items k (omega arith) (start column plan items k s)
      ∙ ap (ended (half_left sample) (drop k items))
      (verdict-same column plan (half_left sample) (omega arith) (omega arith))

  -- 7 where the sample ends before its end, or goes on past it; 8 where an illegal item is met
  wrong-end : WrongEnd column plan sample → judged ≡ refused wrong_length 0
  unfolding judge_until_lost
  wrong-end (ends-before few legal undecided) =
      short-when column plan (half_left sample) plan.n 0 0 items
      record { few = few; legal = legal; undecided = omega arith }
  wrong-end (goes-past k s more) = stopped k s ∙ ended-past sample k _ more

  met : MeetsIllegal column plan items → judged ≡ refused illegal_item 0
  unfolding judge_until_lost
  met m =
      meets-when column plan (half_left sample) plan.n 0 0 items m.place
      record {
        there = m.there;
        reached = m.reached;
        legal-before = m.legal-before;
        illegal-there = m.illegal-there;
        undecided = omega (arith, m.undecided);
      }

  meets-so : (place : ℕ) → MeetsFrom column plan.ac plan.n 0 items place → MeetsIllegal column plan items
  meets-so place m =
      record {
        place = place;
        there = m.there;
        reached = m.reached;
        legal-before = m.legal-before;
        illegal-there = m.illegal-there;
        undecided = omega (arith, m.undecided);
      }

  short-so : ShortOf column plan.ac plan.n 0 items → WrongEnd column plan sample
  short-so s = ends-before s.few s.legal (omega (arith, s.undecided))

  whole-stops : StopsAfter column plan items (length items) → length sample ≡ 2 * length items
      → judged ≡ given (verdict_after plan (length items) (sum_of items))
  whole-stops s w =
      stopped (length items) s
      ∙ ended-there sample (length items) _ w
      ∙ ap (λ (l : List ℕ). given (verdict_after plan (length items) (sum_of l))) (take-length items)

  -- what a sample comes to
  pub data Comes : Type 0 where
    wrongly : WrongEnd column plan sample → Comes
    illegally : MeetsIllegal column plan items → Comes
    rightly : (v : Verdict) → judged ≡ given v → Comes

  pub comes : Comes
  comes = on (which column plan (half_left sample) plan.n 0 items (omega arith))
    where
      on : Which column plan (half_left sample) plan.n 0 items → Comes
      on (stops k s) =
          let t = at-start column plan items k s in
          by-le (length sample) (2 * k)
          (λ l.
          rightly _ (stopped k t ∙ ended-there sample k _ (omega (arith, numbers-low sample, t.there))))
          (λ l. wrongly (goes-past k t l))
      on (meets place m) = illegally (meets-so place m)
      on (short s) = wrongly (short-so s)

  not-both : WrongEnd column plan sample → MeetsIllegal column plan items → ⊥
  not-both w m = let z : ◌≡◌ {A = ℕ} 7 8 = refused-number (sym (wrong-end w) ∙ met m) in omega arith

  pub curtailed-reports : Reports 7 (CurtailedRows column sample plan) judged
  curtailed-reports = on comes
    where
      on : Comes → Reports 7 (CurtailedRows column sample plan) judged
      on (wrongly w) = rw (wrong-end w) (reporting.stops 7 w (omega arith) (last-from 8))
      on (illegally m) =
          rw (met m)
          (reporting.passes 7 (λ w. not-both w m) (omega arith)
          (reporting.stops 8 m (le_refl 8) (λ n w. absurd w)))
      on (rightly v g) =
          rw g
          (reporting.passes 7 (λ w. refused-given (sym (wrong-end w) ∙ g)) (omega arith)
          (reporting.passes 8 (λ m. refused-given (sym (met m) ∙ g)) (le_refl 8) nothing-wrong))

  -- "whichever of 7 and 8 it meets first": 7 exactly for a wrong end, 8 exactly for an illegal item before it
  pub curtailed-seven : (judged ≡ refused 7 0) ↔ WrongEnd column plan sample
  curtailed-seven = (λ e. on e comes, wrong-end)
    where
      on : judged ≡ refused 7 0 → Comes → WrongEnd column plan sample
      on e (wrongly w) = w
      on e (illegally m) = let z : ◌≡◌ {A = ℕ} 7 8 = refused-number (sym e ∙ met m) in absurd (omega arith)
      on e (rightly v g) = absurd (refused-given (sym e ∙ g))

  pub curtailed-eight : (judged ≡ refused 8 0) ↔ MeetsIllegal column plan items
  curtailed-eight = (λ e. on e comes, met)
    where
      on : judged ≡ refused 8 0 → Comes → MeetsIllegal column plan items
      on e (wrongly w) = let z : ◌≡◌ {A = ℕ} 8 7 = refused-number (sym e ∙ wrong-end w) in absurd (omega arith)
      on e (illegally m) = m
      on e (rightly v g) = absurd (refused-given (sym e ∙ g))

  pub curtailed-given : (v : Verdict) → (judged ≡ given v) ↔ CurtailedJudged column sample plan v
  curtailed-given v = (
    λ g. on g (which column plan (half_left sample) plan.n 0 items (omega arith)),
    λ c. whole-stops c.stops c.whole ∙ ap given c.verdict,
  )
    where
      on : judged ≡ given v → Which column plan (half_left sample) plan.n 0 items
          → CurtailedJudged column sample plan v
      on g (stops k s) =
          let t = at-start column plan items k s in
          let e = ended-so (half_left sample) (drop k items) _ v (sym (stopped k t) ∙ g) in
          let len : k ≡ length items = omega (arith, length-drop k items, ap length e.1, t.there) in
          let all : take k items ≡ items = take_all k items (omega arith) in
          record {
            whole = (no-half sample).0 e.0;
            stops = subst (StopsAfter column plan items) len t;
            verdict =
                verdict-same column plan (half_left sample) (sym len) (ap sum_of (sym all)) ∙ e.2;
          }
      on g (meets place m) = absurd (refused-given (sym (met (meets-so place m)) ∙ g))
      on g (short s) = absurd (refused-given (sym (wrong-end (short-so s)) ∙ g))
