-- Demand 2 in document 02, T-04: for a curtailed sample on a plan handed over, for a lot judged and for a lot closed,
-- exactly when it is refused and exactly when it is given; and each of them beside the full count.
-- Assumes nothing.
use Prim.Native.Nat.{ℕ, ◌≤◌, ◌<◌}
use mathlib.Core.Path.{◌≡◌, refl, sym, subst, ◌∙◌}
use mathlib.Core.Logic.{◌↔◌}
use mathlib.Core.Bool.{Bool, true, false, cond}
use mathlib.Core.List.{List, ◌++◌}
use native.Mathlib.Omega.{arith}
use borrow.Author.Tests.{eq-eqb, ne_eqb, le-ltb}
use lib.Dec.{eqb}
use lib.ListN.{length, replicate}
use Rattle.rules.specs.Refusals.{refused, given}
use Rattle.rules.specs.Codes.{reduced}
use Rattle.rules.specs.Numbers.{numbers_of, sum_of}
use Rattle.rules.specs.Verdict.{Verdict, Judged}
use Rattle.rules.specs.Single.{Plan, single_verdict}
use Rattle.rules.specs.Curtailed.{judge_until_lost}
use Rattle.rules.specs.Severity.{sampled}
use Rattle.rules.specs.Supply.{Supply, no_run, move, supply_in_range}
use Rattle.rules.specs.Book.{sound, check_book}
use Rattle.rules.specs.Entries.{Asked, single_plan, plain_plan, curtailed_plan, single_sample, curtailed_sample}
use Rattle.rules.specs.Entries.{judge_single, judge_curtailed, Closed, Offered, asked_on, single_counts, single_event}
use Rattle.rules.specs.Entries.{close_single, close_curtailed}
use Rattle.rules.specs.Reporting.{OnBook, Reports, Row}
use Rattle.rules.specs.Judging.{CurtailedJudged, CurtailedRows, Begins, LegalFull, SameVerdict, UsedAs}
use Rattle.rules.specs.Judging.{IllegalFirst, OneBeginning}
use Rattle.rules.specs.Planning.{Plannable, PlainPlanRows, CurtailedPlanned, CurtailedLotRows, SameJudged}
use Rattle.rules.specs.Planning.{SameClosed, Closes}
use Rattle.rules.proofs.Answers.{given-one}
use Rattle.rules.proofs.Refusals.{seen-from}
use Rattle.rules.proofs.EntryLaws.{lot-passes, on-book, sound-given, judged-on-book, judged-by, closing-on-book}
use Rattle.rules.proofs.EntryLaws.{closing-book-given, lot-moves}
use Rattle.rules.proofs.Moving.{sampled-counts}
use Rattle.rules.proofs.Curtailing.{curtailed-reports, curtailed-given}
use Rattle.rules.proofs.FullCount.{same-verdict, used-as, begins-full, no-proper, answered}
use Rattle.rules.proofs.FullCount.{answered-begins, answered-so, answered-alone, eight-first, seven-past}
use Rattle.rules.proofs.FullCount.{seven-before}
use Rattle.rules.proofs.Demands.Two.{column-reports, column-given, single-sample-given, plain-plan-refused}
use Rattle.rules.proofs.Demands.Two.{plain-plan-given, judge-single-given, close-single-given}

-- 1. A sample judged on a plan that is handed over.
module _ (column : ℕ) (plan : Plan) where
  pub curtailed-sample-refused : (sample : List ℕ)
      → Reports 4 (Row 4 (25 < column) (CurtailedRows column sample plan)) (curtailed_sample column plan sample)
  unfolding curtailed_sample
  curtailed-sample-refused sample = column-reports column (curtailed-reports column plan sample)

  pub curtailed-sample-given : (sample : List ℕ) (v : Verdict)
      → (curtailed_sample column plan sample ≡ given v) ↔ ((column ≤ 25) × CurtailedJudged column sample plan v)
  unfolding curtailed_sample
  curtailed-sample-given sample v = (
    λ g. let c = (column-given column _ v).0 g in (c.0, (curtailed-given column plan sample v).0 c.1),
    λ s. (column-given column _ v).1 (s.0, (curtailed-given column plan sample v).1 s.1),
  )

  abbrev Sampled : List ℕ → Type 0
  Sampled sample = (v : Verdict) × (curtailed_sample column plan sample ≡ given v)

  -- "Accepted or not .. equal those of the full count on every legal full sample that begins so", and there is one.
  pub curtailed-sample-as-full : (sample full : List ℕ) → Begins sample full → (v : Verdict)
      → curtailed_sample column plan sample ≡ given v → LegalFull column plan full
      → (w : Verdict) × (single_sample column plan full ≡ given w) × SameVerdict v w × UsedAs plan sample full v
  curtailed-sample-as-full sample full b v g f =
      let c = (curtailed-sample-given sample v).0 g in
      let w : Verdict = single_verdict plan (sum_of (numbers_of full)) in (
        w,
        (single-sample-given column full plan w).1
            (c.0, record { whole = f.whole; legal = f.legal; verdict = refl }),
        same-verdict column plan sample full b v c.1 f,
        used-as column plan sample full b v c.1 f,
      )

  pub curtailed-sample-begins : (sample : List ℕ) → Sampled sample
      → (k : ℕ) × LegalFull column plan (sample ++ replicate k 0)
  curtailed-sample-begins sample s =
      begins-full column plan sample s.0 ((curtailed-sample-given sample s.0).0 s.1).1

  -- No sample that is judged begins another ..
  pub curtailed-sample-alone : (short long : List ℕ) → Begins short long → Sampled short → Sampled long → short ≡ long
  curtailed-sample-alone short long b c d =
      no-proper column plan short long b c.0 d.0 ((curtailed-sample-given short c.0).0 c.1).1
      ((curtailed-sample-given long d.0).0 d.1).1

  -- .. and of every full sample that is judged one beginning is, and no other.
  pub curtailed-sample-once : (full : List ℕ) (w : Verdict) → single_sample column plan full ≡ given w
      → OneBeginning Sampled full
  curtailed-sample-once full w g =
      let h = (single-sample-given column full plan w).0 g in
      let f : LegalFull column plan full = record { whole = h.1.whole; legal = h.1.legal } in
      record {
        sample = answered column plan full f;
        begins = answered-begins column plan full f;
        is-answered = (
          _,
          (curtailed-sample-given (answered column plan full f) _).1 (h.0, answered-so column plan full f),
        );
        no_other =
            λ other b c.
            answered-alone column plan full f other c.0 b ((curtailed-sample-given other c.0).0 c.1).1;
      }

  pub in-column : column ≤ 25 → (sample : List ℕ)
      → curtailed_sample column plan sample ≡ judge_until_lost column plan sample
  unfolding curtailed_sample
  in-column h sample = rw (le-ltb 25 column h)

  -- "whichever of 7 and 8 it meets first": 8 exactly for a sample with an illegal item and no beginning that is judged
  pub curtailed-sample-eight : column ≤ 25 → (sample : List ℕ)
      → (curtailed_sample column plan sample ≡ refused 8 0) ↔ IllegalFirst column Sampled sample
  curtailed-sample-eight h sample = (
    λ e.
        let i = (eight-first column plan sample).0 (sym (in-column h sample) ∙ e) in
        record {
          illegal-item = i.illegal-item;
          none-answered =
              λ part b s. i.none-answered part b (s.0, ((curtailed-sample-given part s.0).0 s.1).1);
        },
    λ i.
        in-column h sample
        ∙ (eight-first column plan sample).1
        record {
          illegal-item = i.illegal-item;
          none-answered =
              λ part b c. i.none-answered part b (c.0, (curtailed-sample-given part c.0).1 (h, c.1));
        },
  )

  -- "7 when the sample .. goes on past its end", whatever follows ..
  pub curtailed-sample-past : (sample rest : List ℕ) → Sampled sample → 0 < length rest
      → curtailed_sample column plan (sample ++ rest) ≡ refused 7 0
  curtailed-sample-past sample rest s more =
      let c = (curtailed-sample-given sample s.0).0 s.1 in
      in-column c.0 (sample ++ rest) ∙ seven-past column plan sample rest (s.0, c.1) more

  -- .. or "ends before" it: until then each part of a sample that comes to be judged is 7
  pub curtailed-sample-before : (part rest : List ℕ) → Sampled (part ++ rest) → 0 < length rest
      → curtailed_sample column plan part ≡ refused 7 0
  curtailed-sample-before part rest s more =
      let c = (curtailed-sample-given (part ++ rest) s.0).0 s.1 in
      in-column c.0 part ∙ seven-before column plan part rest (s.0, c.1) more

-- 2. The plan: that of the tables, and 6 under reduced.
module _ (q : Asked) (book : List ℕ) where
  pub curtailed-plan-refused : OnBook book (PlainPlanRows q) (curtailed_plan q book)
  unfolding curtailed_plan
  curtailed-plan-refused = on-book book (plain-plan-refused q)

  pub curtailed-plan-given : (plan : Plan) → (curtailed_plan q book ≡ given plan) ↔ CurtailedPlanned q book plan
  unfolding curtailed_plan
  curtailed-plan-given plan = (
    λ g.
        let b = (sound-given (check_book book) (plain_plan q) plan).0 g in
        record { book-sound = b.0; planned = (plain-plan-given q plan).0 b.1 },
    λ p. (sound-given (check_book book) (plain_plan q) plan).1 (p.book-sound, (plain-plan-given q plan).1 p.planned),
  )

  -- "for normal or tightened single sampling", "Refusals: as for the full count": the full count's plan, or its refusal
  pub curtailed-as-single : (q.severity ≡ reduced → ⊥) → curtailed_plan q book ≡ single_plan q book
  unfolding curtailed_plan single_plan plain_plan
  curtailed-as-single plain = rw (ne_eqb q.severity reduced plain)

  pub unplanned-alike : (n p : ℕ) → (q.severity ≡ reduced → ⊥) → single_plan q book ≡ refused n p
      → (sample full : List ℕ)
      → (judge_curtailed q book sample ≡ refused n p) × (judge_single q book full ≡ refused n p)
  unfolding judge_curtailed judge_single
  unplanned-alike n p plain e sample full =
      let f : curtailed_plan q book ≡ refused n p = curtailed-as-single plain ∙ e in
      (rw f, rw e)

  -- "with 6 under reduced", whatever entry the book has and whatever the sample is
  pub curtailed-under-reduced : check_book book ≡ sound → Plannable q → q.severity ≡ reduced → (sample : List ℕ)
      → judge_curtailed q book sample ≡ refused 6 0
  unfolding judge_curtailed curtailed_plan plain_plan
  curtailed-under-reduced good l s sample =
      let e : plain_plan q ≡ refused 6 0 = lot-passes q _ l ∙ rw (eq-eqb q.severity reduced s) in
      rw (good, e)

-- 3. A lot judged.
module _ (q : Asked) (book : List ℕ) where
  pub judge-curtailed-refused : (sample : List ℕ)
      → OnBook book (CurtailedLotRows q book sample) (judge_curtailed q book sample)
  unfolding judge_curtailed
  judge-curtailed-refused sample =
      judged-on-book (curtailed_plan q book) _ book (curtailed-plan-refused q book)
      (λ plan. seen-from 1 (omega arith) (curtailed-reports q.column plan sample))

  pub judge-curtailed-given : (sample : List ℕ) (j : Judged Plan Verdict)
      → (judge_curtailed q book sample ≡ given j)
      ↔ ((curtailed_plan q book ≡ given j.plan) × CurtailedJudged q.column sample j.plan j.verdict)
  unfolding judge_curtailed
  judge-curtailed-given sample j =
      judged-by (curtailed_plan q book) (λ plan. judge_until_lost q.column plan sample)
      (λ plan v. CurtailedJudged q.column sample plan v) (λ plan v. curtailed-given q.column plan sample v) j

  abbrev Judges : List ℕ → Type 0
  Judges sample = (j : Judged Plan Verdict) × (judge_curtailed q book sample ≡ given j)

  not-reduced : (sample : List ℕ) (j : Judged Plan Verdict) → judge_curtailed q book sample ≡ given j
      → q.severity ≡ reduced → ⊥
  not-reduced sample j g =
      ((curtailed-plan-given q book j.plan).0 ((judge-curtailed-given sample j).0 g).0).planned.not-reduced

  -- Beside the full count: every legal full sample that begins so, of which there is one, is judged, alike.
  pub judge-curtailed-as-full : (sample full : List ℕ) → Begins sample full → (j : Judged Plan Verdict)
      → judge_curtailed q book sample ≡ given j → LegalFull q.column j.plan full
      → (i : Judged Plan Verdict) × (judge_single q book full ≡ given i) × SameJudged j i
      × UsedAs j.plan sample full j.verdict
  judge-curtailed-as-full sample full b j g f =
      let h = (judge-curtailed-given sample j).0 g in
      let i : Judged Plan Verdict = record {
        plan = j.plan;
        verdict = single_verdict j.plan (sum_of (numbers_of full));
      } in (
        i,
        (judge-single-given q book full i).1 (
          sym (curtailed-as-single q book (not-reduced sample j g)) ∙ h.0,
          record { whole = f.whole; legal = f.legal; verdict = refl },
        ),
        record {
          same-plan = refl;
          verdicts = same-verdict q.column j.plan sample full b j.verdict h.1 f;
        },
        used-as q.column j.plan sample full b j.verdict h.1 f,
      )

  pub judge-curtailed-begins : (sample : List ℕ) (j : Judged Plan Verdict) → judge_curtailed q book sample ≡ given j
      → (k : ℕ) × LegalFull q.column j.plan (sample ++ replicate k 0)
  judge-curtailed-begins sample j g =
      begins-full q.column j.plan sample j.verdict ((judge-curtailed-given sample j).0 g).1

  -- the samples that are judged are those on the lot's plan
  judged-on : (plan : Plan) → curtailed_plan q book ≡ given plan → (sample : List ℕ) → (j : Judges sample)
      → CurtailedJudged q.column sample plan j.0.verdict
  judged-on plan p sample j =
      let h = (judge-curtailed-given sample j.0).0 j.1 in
      subst (λ (x : Plan). CurtailedJudged q.column sample x j.0.verdict) (given-one (sym h.0 ∙ p)) h.1

  -- No sample that is judged begins another ..
  pub judge-curtailed-alone : (short long : List ℕ) → Begins short long → Judges short → Judges long → short ≡ long
  judge-curtailed-alone short long b c d =
      let p = ((judge-curtailed-given long d.0).0 d.1).0 in
      no-proper q.column d.0.plan short long b c.0.verdict d.0.verdict
      (judged-on d.0.plan p short c) (judged-on d.0.plan p long d)

  -- .. and of every full sample that is judged under normal or tightened one beginning is, and no other.
  pub judge-curtailed-once : (full : List ℕ) (i : Judged Plan Verdict) → judge_single q book full ≡ given i
      → (q.severity ≡ reduced → ⊥) → OneBeginning Judges full
  judge-curtailed-once full i g plain =
      let h = (judge-single-given q book full i).0 g in
      let f : LegalFull q.column i.plan full = record { whole = h.1.whole; legal = h.1.legal } in
      let p = curtailed-as-single q book plain ∙ h.0 in
      record {
        sample = answered q.column i.plan full f;
        begins = answered-begins q.column i.plan full f;
        is-answered = (
          record { plan = i.plan; verdict = _ },
          (judge-curtailed-given (answered q.column i.plan full f) (record { plan = i.plan; verdict = _ })).1
              (p, answered-so q.column i.plan full f),
        );
        no_other =
            λ other b c.
            answered-alone q.column i.plan full f other c.0.verdict b (judged-on i.plan p other c);
      }

  -- A lot is judged or refused as its sample is, on its plan.
  on-lot : (plan : Plan) → curtailed_plan q book ≡ given plan → (sample : List ℕ) (n : ℕ)
      → judge_until_lost q.column plan sample ≡ refused n 0 → judge_curtailed q book sample ≡ refused n 0
  unfolding judge_curtailed
  on-lot plan p sample n e = rw (p, e)

  -- asked after each item, a lot is 7 until it is judged, and 7 again with anything more
  pub judge-curtailed-before : (part rest : List ℕ) → Judges (part ++ rest) → 0 < length rest
      → judge_curtailed q book part ≡ refused 7 0
  judge-curtailed-before part rest j more =
      let h = (judge-curtailed-given (part ++ rest) j.0).0 j.1 in
      on-lot j.0.plan h.0 part 7
      (seven-before q.column j.0.plan part rest (j.0.verdict, h.1) more)

  pub judge-curtailed-past : (sample rest : List ℕ) → Judges sample → 0 < length rest
      → judge_curtailed q book (sample ++ rest) ≡ refused 7 0
  judge-curtailed-past sample rest j more =
      let h = (judge-curtailed-given sample j.0).0 j.1 in
      on-lot j.0.plan h.0 (sample ++ rest) 7
      (seven-past q.column j.0.plan sample rest (j.0.verdict, h.1) more)

-- 4. A lot closed.
module _ (s : Supply) (o : Offered) (book : List ℕ) where
  abbrev asked : Asked
  asked = asked_on s.switching o

  planned : (sample : List ℕ) (j : Judged Plan Verdict) → judge_curtailed asked book sample ≡ given j
      → CurtailedPlanned asked book j.plan
  planned sample j e =
      (curtailed-plan-given asked book j.plan).0 ((judge-curtailed-given asked book sample j).0 e).0

  pub close-curtailed-refused : (sample : List ℕ)
      → OnBook book (Row 1 (supply_in_range s ≡ false) (CurtailedLotRows asked book sample))
      (close_curtailed s o book sample)
  unfolding close_curtailed
  close-curtailed-refused sample =
      closing-on-book s (judge_curtailed asked book sample) (single_event s.switching o) book
      (judge-curtailed-refused asked book sample)
      (λ j e.
      lot-moves s o sampled (single_counts s.switching o j) (planned sample j e).planned.lot.severity)

  pub close-curtailed-given : (sample : List ℕ) (c : Closed Plan)
      → (close_curtailed s o book sample ≡ given c)
      ↔ Closes s (judge_curtailed asked book sample) (single_event s.switching o) c
  unfolding close_curtailed
  close-curtailed-given sample =
      closing-book-given s (judge_curtailed asked book sample) (single_event s.switching o)
      (λ j e. sampled-counts s o (single_counts s.switching o j)) book
      (λ j e. (planned sample j e).book-sound)

  -- a lot judged alike counts alike: where it is not accepted its total does not count
  counts-alike : (j i : Judged Plan Verdict) → SameJudged j i
      → single_counts s.switching o j ≡ single_counts s.switching o i
  counts-alike j i a = on j.verdict.accepted refl
    where
      on : (t : Bool) → j.verdict.accepted ≡ t → single_counts s.switching o j ≡ single_counts s.switching o i
      on true e = rw (a.same-plan, a.verdicts.same-when-accepted e)
      on false e =
          let f : i.verdict.accepted ≡ false = sym a.verdicts.same-accepted ∙ e in
          rw (e, f)

  event-alike : (j i : Judged Plan Verdict) → SameJudged j i
      → single_event s.switching o j ≡ single_event s.switching o i
  event-alike j i a = rw (counts-alike j i a)

  -- Beside the full count: every legal full sample that begins so closes the lot, "and the next record" is the same.
  pub close-curtailed-as-full : (sample full : List ℕ) → Begins sample full → (c : Closed Plan)
      → close_curtailed s o book sample ≡ given c → LegalFull o.column c.judged.plan full
      → (d : Closed Plan) × (close_single s o book full ≡ given d) × SameClosed c d
      × UsedAs c.judged.plan sample full c.judged.verdict
  close-curtailed-as-full sample full b c g f =
      let k = (close-curtailed-given sample c).0 g in
      let i = judge-curtailed-as-full asked book sample full b c.judged k.as-judged f in
      let d : Closed Plan = record { judged = i.0; event = c.event; supply_after = c.supply_after } in (
        d,
        (close-single-given s o book full d).1 record {
          in-range = k.in-range;
          as-judged = i.1;
          stands = k.stands ∙ event-alike c.judged i.0 i.2;
          as-told = k.as-told;
          took = k.took;
        },
        record { judged-alike = i.2; same-event = refl; same-record = refl },
        i.3,
      )

  abbrev ClosesOn : List ℕ → Type 0
  ClosesOn sample = (c : Closed Plan) × (close_curtailed s o book sample ≡ given c)

  as-judged-on : (sample : List ℕ) → ClosesOn sample → Judges asked book sample
  as-judged-on sample c = (c.0.judged, ((close-curtailed-given sample c.0).0 c.1).as-judged)

  pub close-curtailed-begins : (sample : List ℕ) (c : Closed Plan) → close_curtailed s o book sample ≡ given c
      → (k : ℕ) × LegalFull o.column c.judged.plan (sample ++ replicate k 0)
  close-curtailed-begins sample c g =
      judge-curtailed-begins asked book sample c.judged ((close-curtailed-given sample c).0 g).as-judged

  pub close-curtailed-alone : (short long : List ℕ) → Begins short long → ClosesOn short → ClosesOn long
      → short ≡ long
  close-curtailed-alone short long b c d =
      judge-curtailed-alone asked book short long b (as-judged-on short c) (as-judged-on long d)

  -- what is judged is closed, where the record is in range
  closes-judged : (sample : List ℕ) → supply_in_range s ≡ true → Judges asked book sample → ClosesOn sample
  unfolding close_curtailed
  closes-judged sample r j =
      let p = planned sample j.0 j.1 in
      let t = lot-moves s o sampled (single_counts s.switching o j.0) p.planned.lot.severity in
      (record { judged = j.0; event = single_event s.switching o j.0; supply_after = t.0 }, so j.0 j.1 p t)
    where
      so : (j : Judged Plan Verdict) → judge_curtailed asked book sample ≡ given j
          → CurtailedPlanned asked book j.plan
          → (t : (t : Supply) × (move s (single_event s.switching o j) ≡ given t))
          → close_curtailed s o book sample
          ≡ given (record { judged = j; event = single_event s.switching o j; supply_after = t.0 })
      so j e p t = rw (p.book-sound, r, e, t.1)

  pub close-curtailed-once : (full : List ℕ) (d : Closed Plan) → close_single s o book full ≡ given d
      → (s.switching.severity ≡ reduced → ⊥) → OneBeginning ClosesOn full
  close-curtailed-once full d g plain =
      let k = (close-single-given s o book full d).0 g in
      let one = judge-curtailed-once asked book full d.judged k.as-judged plain in
      record {
        sample = one.sample;
        begins = one.begins;
        is-answered = closes-judged one.sample k.in-range one.is-answered;
        no_other = λ other b c. one.no_other other b (as-judged-on other c);
      }

  -- A lot on a whole Ac: an original one clears the clean run.
  pub close-curtailed-clears : (sample : List ℕ) (c : Closed Plan) → close_curtailed s o book sample ≡ given c
      → o.again ≡ false → c.supply_after.clean ≡ no_run
  close-curtailed-clears sample c g original =
      let k = (close-curtailed-given sample c).0 g in
      k.took.clean
      ∙ rw (k.stands, original) (either (eqb c.supply_after.switching.severity s.switching.severity))
    where
      either : (t : Bool) → cond t no_run no_run ≡ no_run
      either true = refl
      either false = refl
