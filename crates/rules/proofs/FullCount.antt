-- A curtailed sample beside the full count: the lot is accepted alike on every legal full sample that begins so, no
-- answered sample begins another, and of every legal full sample one beginning is answered. By which number the others
-- are refused is said by beginnings too.
-- Assumes nothing.
use Prim.Native.Nat.{ℕ, zero, suc, ◌+◌, ◌-◌, ◌*◌, ◌≤◌, ◌<◌}
use mathlib.Core.Path.{◌≡◌, refl, sym, ap, subst, ◌∙◌}
use mathlib.Core.Logic.{◌↔◌, ◌⊎◌, inl, inr}
use mathlib.Core.Bool.{Bool, true, false, ◌&&◌, ◌||◌}
use mathlib.Core.List.{List, [], ◌++◌, append-nil}
use native.Mathlib.Omega.{arith}
use borrow.Author.Tests.{lt-leb, leb-true, leb-false}
use lib.Dec.{leb}
use lib.ListN.{length, get_or, take, drop, replicate, length-append, length-replicate, take-append-drop}
use lib.Seq.{take_all, take-length, take-append_seam, take-append-le, length-take-le}
use Rattle.rules.specs.Refusals.{refused}
use Rattle.rules.specs.Numbers.{numbers_of, sum_of}
use Rattle.rules.specs.Codes.{any_illegal}
use Rattle.rules.specs.Verdict.{Verdict}
use Rattle.rules.specs.Single.{Plan, single_verdict}
use Rattle.rules.specs.Curtailed.{verdict_after, judge_until_lost}
use Rattle.rules.specs.Judging.{StopsAfter, CurtailedJudged, Begins, LegalFull, SameVerdict, UsedAs}
use Rattle.rules.specs.Judging.{ends-before, goes-past, MeetsIllegal, IllegalFirst}
use Rattle.rules.proofs.Answers.{refused-given}
use Rattle.rules.proofs.Refusals.{refused-number}
use Rattle.rules.proofs.Numbers.{numbers-low, numbers-high, numbers-take, numbers-append, numbers-begin}
use Rattle.rules.proofs.Items.{sum-append, all-legal, legal-append, legal-split, illegal-means}
use Rattle.rules.proofs.Bounded.{by-le}
use Rattle.rules.proofs.Curtailing.{stops-once, stops-before, stops-alone, legal-stops, Comes, wrongly}
use Rattle.rules.proofs.Curtailing.{illegally, rightly, comes, curtailed-seven, curtailed-eight}
use Rattle.rules.proofs.Curtailing.{curtailed-given}

-- A sample that is answered, and a full one that begins so.
module _ (column : ℕ) (plan : Plan) (sample full : List ℕ) (b : Begins sample full) (v : Verdict)
    (c : CurtailedJudged column sample plan v) where
  abbrev items : List ℕ
  items = numbers_of sample

  abbrev rest : List ℕ
  rest = numbers_of b.rest

  joined : numbers_of full ≡ items ++ rest
  joined = ap numbers_of (sym b.joined) ∙ numbers-append sample b.rest c.whole

  sums : sum_of (numbers_of full) ≡ sum_of items + sum_of rest
  sums = ap sum_of joined ∙ sum-append items rest

  -- it stops at the same item
  pub stops-in-full : StopsAfter column plan (numbers_of full) (length items)
  stops-in-full = rw joined (stops-before column plan items rest (length items) (omega arith) c.stops)

  module _ (f : LegalFull column plan full) where
    -- read to n, it is the full sample
    read-to-n : length items ≡ plan.n → sample ≡ full
    read-to-n e =
        let none : length b.rest ≡ 0 =
        omega (arith, length-append sample b.rest, ap length b.joined, c.whole, f.whole) in
        sym (take-append_seam sample b.rest)
        ∙ ap (take (length sample)) b.joined
        ∙ take_all (length sample) full
        (omega (arith, length-append sample b.rest, ap length b.joined))

    lost : plan.ac < sum_of items → leb (sum_of (numbers_of full)) plan.ac ≡ leb (sum_of items) plan.ac
    lost h =
        lt-leb (sum_of (numbers_of full)) plan.ac (omega (arith, sums)) ∙ sym (lt-leb (sum_of items) plan.ac h)

    passed-or-n : (plan.ac < sum_of items) ⊎ (sample ≡ full)
    passed-or-n = on c.stops.ends
      where
        on : (plan.ac < sum_of (take (length items) items)) ⊎ (length items ≡ plan.n)
            → (plan.ac < sum_of items) ⊎ (sample ≡ full)
        on (inl h) = inl (rw (take-length items) at h)
        on (inr e) = inr (read-to-n e)

    -- "Accepted or not .. equal those of the full count"
    accepted-alike : v.accepted ≡ leb (sum_of (numbers_of full)) plan.ac
    accepted-alike = sym (ap (λ (w : Verdict). w.accepted) c.verdict) ∙ on passed-or-n
      where
        on : (plan.ac < sum_of items) ⊎ (sample ≡ full)
            → leb (sum_of items) plan.ac ≡ leb (sum_of (numbers_of full)) plan.ac
        on (inl h) = sym (lost h)
        on (inr e) = ap (λ (s : List ℕ). leb (sum_of (numbers_of s)) plan.ac) e

    -- and an accepted one is the full count's verdict, of the whole sample
    accepted-full : v.accepted ≡ true → (sample ≡ full) × (v ≡ single_verdict plan (sum_of (numbers_of full)))
    accepted-full a = on passed-or-n
      where
        accepts : leb (sum_of items) plan.ac ≡ true
        accepts = ap (λ (w : Verdict). w.accepted) c.verdict ∙ a

        count : length (numbers_of full) ≡ plan.n
        count = omega (arith, f.whole, numbers-low full, numbers-high full)

        on : (plan.ac < sum_of items) ⊎ (sample ≡ full)
            → (sample ≡ full) × (v ≡ single_verdict plan (sum_of (numbers_of full)))
        on (inl h) = absurd (omega (arith, leb-true (sum_of items) plan.ac accepts))
        on (inr e) = (
          e,
          sym c.verdict
              ∙ ap (λ (s : List ℕ). verdict_after plan (length (numbers_of s)) (sum_of (numbers_of s))) e
              ∙ ap (λ (n : ℕ). verdict_after plan n (sum_of (numbers_of full))) count,
        )

    pub same-verdict : SameVerdict v (single_verdict plan (sum_of (numbers_of full)))
    same-verdict = record { same-accepted = accepted-alike; same-when-accepted = λ a. (accepted-full a).1 }

    pub used-as : UsedAs plan sample full v
    used-as =
        let used : length items ≡ v.used = ap (λ (w : Verdict). w.used) c.verdict in
        let s : StopsAfter column plan (numbers_of full) v.used =
        subst (StopsAfter column plan (numbers_of full)) used stops-in-full in
        record {
          read = omega (arith, used, c.whole);
          n-when-accepted = λ a. ap (λ (w : Verdict). w.used) (accepted-full a).1;
          deciding = λ r. by-le plan.n v.used (λ h. at-n r used h) (λ h. before-n s.ends h);
          none-earlier = s.earlier;
        }
      where
        before-n : (plan.ac < sum_of (take v.used (numbers_of full))) ⊎ (v.used ≡ plan.n) → v.used < plan.n
            → plan.ac < sum_of (take v.used (numbers_of full))
        before-n (inl h) l = h
        before-n (inr e) l = absurd (omega arith)

        at-n : v.accepted ≡ false → length items ≡ v.used → plan.n ≤ v.used
            → plan.ac < sum_of (take v.used (numbers_of full))
        at-n r used h =
            let all : take v.used (numbers_of full) ≡ numbers_of full =
            take_all v.used (numbers_of full) (omega (arith, numbers-low full, f.whole)) in
            rw all (leb-false (sum_of (numbers_of full)) plan.ac (sym accepted-alike ∙ r))

-- An answered sample begins some legal full sample: it goes on with zeros.
module _ (column : ℕ) where
  zeros-legal : (k : ℕ) → any_illegal column (numbers_of (replicate k 0)) ≡ false
  unfolding numbers_of any_illegal
  zeros-legal zero = refl
  zeros-legal (suc zero) = refl
  zeros-legal (suc (suc k)) = on (leb column 15) (zeros-legal k)
    where
      on : (t : Bool) → any_illegal column (numbers_of (replicate k 0)) ≡ false
          → ((t && false) || any_illegal column (numbers_of (replicate k 0))) ≡ false
      on true e = e
      on false e = e

  pub begins-full : (plan : Plan) (sample : List ℕ) (v : Verdict) → CurtailedJudged column sample plan v
      → (k : ℕ) × LegalFull column plan (sample ++ replicate k 0)
  begins-full plan sample v c =
      let k = 2 * plan.n - length sample in
      let zeros : List ℕ = replicate k 0 in
      let join = numbers-append sample zeros c.whole in
      let all : take (length (numbers_of sample)) (numbers_of sample) ≡ numbers_of sample =
      take-length (numbers_of sample) in (
        k,
        record {
          whole =
              omega (arith, length-append sample zeros, length-replicate {A = ℕ} k 0, c.whole, c.stops.within);
          legal =
              (all-legal column (numbers_of (sample ++ zeros))).0
              (rw join
              (legal-append column (numbers_of sample) (numbers_of zeros) (rw all at c.stops.legal) (zeros-legal k)));
        },
      )

-- An answered sample has no answered proper beginning.
pub no-proper : (column : ℕ) (plan : Plan) (short long : List ℕ) → Begins short long → (u v : Verdict)
    → CurtailedJudged column short plan u → CurtailedJudged column long plan v → short ≡ long
no-proper column plan short long b u v c d =
    let same : length (numbers_of short) ≡ length (numbers_of long) =
    stops-once column plan (numbers_of long) _ _ (stops-in-full column plan short long b u c) d.stops in
    sym (take-append_seam short b.rest)
    ∙ ap (take (length short)) b.joined
    ∙ take_all (length short) long (omega (arith, c.whole, d.whole))

-- Of two beginnings of one sample one begins the other.
either-begins : (a b full : List ℕ) → length a ≤ length b → Begins a full → Begins b full → Begins a b
either-begins a b full h i j =
    record {
      rest = drop (length a) b;
      joined = ap (λ (l : List ℕ). l ++ drop (length a) b) front ∙ take-append-drop (length a) b;
    }
  where
    front : a ≡ take (length a) b
    front =
        sym (take-append_seam a i.rest)
        ∙ ap (take (length a)) (i.joined ∙ sym j.joined)
        ∙ take-append-le (length a) b j.rest h

-- Where the items of a sample stop, it is answered up to there.
pub read-part : (column : ℕ) (plan : Plan) (sample : List ℕ) (k : ℕ) → StopsAfter column plan (numbers_of sample) k
    → let part = take (2 * k) sample in
    CurtailedJudged column part plan (verdict_after plan (length (numbers_of part)) (sum_of (numbers_of part)))
read-part column plan sample k s =
    let items = numbers_of sample in
    let e : numbers_of (take (2 * k) sample) ≡ take k items = numbers-take sample k in
    let len : length (take k items) ≡ k = length-take-le k items s.there in
    record {
      whole = rw (e, len) (length-take-le (2 * k) sample (omega (arith, numbers-low sample, s.there)));
      stops =
          rw (e, len)
          (stops-alone column plan (take k items) (drop k items) k (omega arith) (rw (take-append-drop k items) s));
      verdict = refl;
    }

-- Every legal full sample has exactly one beginning that is answered.
module _ (column : ℕ) (plan : Plan) (full : List ℕ) (f : LegalFull column plan full) where
  abbrev all : List ℕ
  all = numbers_of full

  count : length all ≡ plan.n
  count = omega (arith, f.whole, numbers-low full, numbers-high full)

  stop : (k : ℕ) × StopsAfter column plan all k
  stop = legal-stops column plan all ((all-legal column all).1 f.legal) (omega (arith, count))

  pub answered : List ℕ
  answered = take (2 * stop.0) full

  pub answered-begins : Begins answered full
  unfolding answered
  answered-begins = record { rest = drop (2 * stop.0) full; joined = take-append-drop (2 * stop.0) full }

  pub answered-so : CurtailedJudged column answered plan
      (verdict_after plan (length (numbers_of answered)) (sum_of (numbers_of answered)))
  unfolding answered
  answered-so = read-part column plan full stop.0 stop.1

  pub answered-alone : (other : List ℕ) (v : Verdict) → Begins other full → CurtailedJudged column other plan v
      → other ≡ answered
  answered-alone other v b c =
      by-le (length other) (length answered)
      (λ h.
      no-proper column plan other answered (either-begins other answered full h b answered-begins) v _ c answered-so)
      (λ h.
      sym
      (no-proper column plan answered other
      (either-begins answered other full (omega arith) answered-begins b) _ v answered-so c))

-- The numbers of the samples that are not answered, by beginnings: no walk in it.
module _ (column : ℕ) (plan : Plan) where
  abbrev Answers : List ℕ → Type 0
  Answers sample = (v : Verdict) × CurtailedJudged column sample plan v

  -- 8 where an illegal item is met first
  met-first : (sample : List ℕ) → MeetsIllegal column plan (numbers_of sample) → IllegalFirst column Answers sample
  met-first sample m =
      let i = illegal-means column (get_or (numbers_of sample) m.place 0) m.illegal-there in
      record {
        illegal-item = record { place = m.place; there = m.there; counts = i.0; too_much = i.1 };
        none-answered = none;
      }
    where
      eight : judge_until_lost column plan sample ≡ refused 8 0
      eight = (curtailed-eight column plan sample).1 m

      none : (part : List ℕ) → Begins part sample → Answers part → ⊥
      none part b c =
          by-le (length sample) (length part)
          (λ h.
          let same : part ≡ sample =
          sym (take-append_seam part b.rest)
          ∙ ap (take (length part)) b.joined
          ∙ take_all (length part) sample h in
          refused-given
          (sym eight
          ∙ ap (judge_until_lost column plan) (sym same)
          ∙ (curtailed-given column plan part c.0).1 c.1))
          (λ h.
          let seven = (curtailed-seven column plan sample).1
          (goes-past (length (numbers_of part)) (stops-in-full column plan part sample b c.0 c.1)
          (omega (arith, c.1.whole))) in
          let z : ◌≡◌ {A = ℕ} 7 8 = refused-number (sym seven ∙ eight) in omega arith)

  pub eight-first : (sample : List ℕ)
      → (judge_until_lost column plan sample ≡ refused 8 0) ↔ IllegalFirst column Answers sample
  eight-first sample = (
    λ e. met-first sample ((curtailed-eight column plan sample).0 e),
    λ i. on i (comes column plan sample),
  )
    where
      on : IllegalFirst column Answers sample → Comes column plan sample
          → judge_until_lost column plan sample ≡ refused 8 0
      on i (wrongly (ends-before few legal undecided)) =
          absurd ((all-legal column (numbers_of sample)).0 legal i.illegal-item)
      on i (wrongly (goes-past k s more)) =
          absurd
          (i.none-answered (take (2 * k) sample)
          (record { rest = drop (2 * k) sample; joined = take-append-drop (2 * k) sample })
          (_, read-part column plan sample k s))
      on i (illegally m) = (curtailed-eight column plan sample).1 m
      on i (rightly v g) =
          absurd
          (i.none-answered sample (record { rest = []; joined = append-nil sample })
          (v, (curtailed-given column plan sample v).0 g))

  -- 7 for an answered sample with anything after it ..
  pub seven-past : (sample rest : List ℕ) → Answers sample → 0 < length rest
      → judge_until_lost column plan (sample ++ rest) ≡ refused 7 0
  seven-past sample rest c more =
      (curtailed-seven column plan (sample ++ rest)).1
      (goes-past (length (numbers_of sample))
      (stops-in-full column plan sample (sample ++ rest) (record { rest = rest; joined = refl }) c.0 c.1)
      (omega (arith, length-append sample rest, c.1.whole)))

  -- .. and for every part of one that it begins with
  pub seven-before : (part rest : List ℕ) → Answers (part ++ rest) → 0 < length rest
      → judge_until_lost column plan part ≡ refused 7 0
  seven-before part rest c more =
      let items = numbers_of (part ++ rest) in
      let few : length (numbers_of part) < length items =
      omega (arith, length-append part rest, c.1.whole, numbers-low part) in
      let legal : any_illegal column items ≡ false = rw (take-length items) at c.1.stops.legal in
      (curtailed-seven column plan part).1
      (ends-before (omega (arith, c.1.stops.within))
      (ap (any_illegal column) (numbers-begin part rest)
      ∙ (legal-split column (length (numbers_of part)) items legal).0)
      (omega (arith, ap sum_of (numbers-begin part rest), c.1.stops.earlier (length (numbers_of part)) few)))
