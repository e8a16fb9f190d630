-- Which samples are judged, with no walk in it: a sequential or staged sample has a verdict exactly where its last item
-- (stage) decides, no earlier one does, all items are legal, and the items used are the sample's length.
-- Assumes nothing.
use Prim.Native.Nat.{ℕ, zero, suc, ◌+◌, ◌-◌, ◌≤◌, ◌<◌, suc-le-suc}
use mathlib.Core.Path.{◌≡◌, refl, sym, ap, ◌∙◌}
use mathlib.Core.Logic.{◌↔◌, ◌⊎◌, inl, inr}
use mathlib.Core.Bool.{Bool, true, false, cond}
use mathlib.Core.List.{List, [], ◌∷◌, map}
use native.Mathlib.Nat.{add-zero, le_of_suc-le-suc, le_refl, zero-add}
use native.Mathlib.Numerals.{add-one}
use native.Mathlib.Omega.{arith}
use borrow.Author.Tests.{le-ltb}
use lib.Dec.{leb, ltb}
use lib.ListN.{length, get_or, take}
use Rattle.rules.specs.Refusals.{Answer, refused, given, illegal_item}
use Rattle.rules.specs.Numbers.{numbers_of, half_left, sum_of}
use Rattle.rules.specs.Verdict.{Verdict, accepts, rejects, goes_on, ended, decided}
use Rattle.rules.specs.Sequential.{SequentialPlan, item_decides, sequential_verdict, sequential_from, judge_sequence}
use Rattle.rules.specs.Staged.{Stage, StagedPlan, stages_from, stages_of, total_size, stage_decides, Taken}
use Rattle.rules.specs.Staged.{stage_at, missing, over}
use Rattle.rules.specs.Staged.{taken, take_items, Standing, staged_verdict, after_stage, staged_from}
use Rattle.rules.specs.Staged.{judge_stages}
use Rattle.rules.specs.Reporting.{Reports}
use Rattle.rules.specs.Judging.{EndsAtItem, MeetsInStage, MeetsItem, SampleRows, says, size_of_first}
pub use Rattle.rules.specs.Judging.{EndsAtStage}
use Rattle.rules.proofs.Parts.{Part, end_of, decides_at, Decides, Say, after_part, walk, Judged, sound}
use Rattle.rules.proofs.Parts.{complete}
use Rattle.rules.proofs.Parts.{Meets, Met, length-wrong, item-illegal, refused-met, meets-refused}
use Rattle.rules.proofs.Bounded.{by-le, never}
use Rattle.rules.proofs.Items.{illegal-means, illegal-when, all-legal, no-half}
use Rattle.rules.proofs.Answers.{refused-given}
use Rattle.rules.proofs.Refusals.{stops, passes, nothing-wrong}
use Rattle.rules.proofs.Refusals.{refused-number, last-from}

met-kind : {Meeting : Type 0} (column total : ℕ) (ps : List Part) (xs : List ℕ) → (Meets column total ps xs → Meeting)
    → (n q : ℕ) → Met column total ps xs n q → ((n ≡ 7) × (q ≡ 0)) ⊎ ((n ≡ 8) × (q ≡ 0) × Meeting)
met-kind column total ps xs so n q length-wrong = inl (refl, refl)
met-kind column total ps xs so n q (item-illegal m) = inr (refl, refl, so m)

-- A sample's answer, by what gives a verdict and what it meets.
sample-reports : (Ends : Verdict → Type 0) (Meeting : Type 0) (a : Answer Verdict)
    → ((v : Verdict) → (a ≡ given v) ↔ Ends v) → (Meeting → a ≡ refused 8 0)
    → ((n q : ℕ) → a ≡ refused n q → ((n ≡ 7) × (q ≡ 0)) ⊎ ((n ≡ 8) × (q ≡ 0) × Meeting))
    → Reports 7 (SampleRows Ends Meeting) a
sample-reports Ends Meeting (given v) ends eight kind =
    passes 7 (λ f. f.1 v ((ends v).0 refl)) (omega arith)
    (passes 8 (λ m. refused-given (sym (eight m))) (le_refl 8) nothing-wrong)
sample-reports Ends Meeting (refused n q) ends eight kind = on (kind n q refl)
  where
    on : ((n ≡ 7) × (q ≡ 0)) ⊎ ((n ≡ 8) × (q ≡ 0) × Meeting)
        → Reports {A = Verdict} 7 (SampleRows Ends Meeting) (refused n q)
    on (inl e) =
        rw (e.0, e.1)
        (stops 7
        ((λ m. let z : n ≡ 8 = refused-number (eight m) in omega (arith, e.0)), λ v f. refused-given ((ends v).1 f))
        (omega arith) (last-from 8))
    on (inr e) =
        rw (e.0, e.1) (passes 7 (λ f. f.0 e.2) (omega arith) (stops 8 e.2 (le_refl 8) (λ m w. absurd w)))

-- The parts of a sequential sample after n items: k items.
item_part : SequentialPlan → ℕ → Part
item_part p n = record { size = 1; decides = item_decides p (suc n) }

item_parts : SequentialPlan → ℕ → ℕ → List Part
item_parts p n zero = []
item_parts p n (suc k) = item_part p n ∷ item_parts p (suc n) k

item-ends : (p : SequentialPlan) (n k j : ℕ) → j ≤ k → end_of j (item_parts p n k) ≡ j
unfolding end_of item_parts item_part
item-ends p n k zero h = refl
item-ends p n zero (suc j) h = absurd (omega arith)
item-ends p n (suc k) (suc j) h = omega (arith, item-ends p (suc n) k j (le_of_suc-le-suc h))

item-decides : (p : SequentialPlan) (n k j d : ℕ) → 0 < j → j ≤ k
    → decides_at j (item_parts p n k) d ≡ item_decides p (n + j) d
unfolding decides_at item_parts item_part
item-decides p n k zero d f h = absurd (omega arith)
item-decides p n zero (suc j) d f h = absurd (omega arith)
item-decides p n (suc k) (suc zero) d f h = rw (add-one n)
item-decides p n (suc k) (suc (suc j)) d f h =
    item-decides p (suc n) k (suc j) d (omega arith) (le_of_suc-le-suc h)
    ∙ ap (λ (i : ℕ). item_decides p i d) (omega arith)

item-count : (p : SequentialPlan) (n k : ℕ) → length (item_parts p n k) ≡ k
unfolding item_parts
item-count p n zero = refl
item-count p n (suc k) = ap suc (item-count p (suc n) k)

sequential_say : Say
sequential_say part used total accepted = sequential_verdict used total accepted

sequential-walk : (p : SequentialPlan) (half : Bool) (n d : ℕ) (xs : List ℕ) (part : ℕ)
    → sequential_from p half n d xs ≡ walk 0 half sequential_say (item_parts p n (suc (length xs))) part n d xs
unfolding sequential_from walk item_parts item_part sequential_say take_items
sequential-walk p half n d [] part = refl
sequential-walk p half n d (x ∷ xs) part = on (ltb 1 x) (sequential-walk p half (suc n) (d + x) xs (suc part))
  where
    on : (t : Bool)
        → sequential_from p half (suc n) (d + x) xs
        ≡ walk 0 half sequential_say (item_parts p (suc n) (suc (length xs))) (suc part) (suc n) (d + x) xs
        → cond t (refused illegal_item 0)
        (decided (item_decides p (suc n) (d + x)) (λ a. ended half xs (sequential_verdict (suc n) (d + x) a))
        (sequential_from p half (suc n) (d + x) xs))
        ≡ after_part half (cond t over (taken (d + x) xs)) (item_part p n) (sequential_say (suc part) (n + 1))
        (walk 0 half sequential_say (item_parts p (suc n) (suc (length xs))) (suc part) (n + 1))
    on true e = refl
    on false e = rw (add-one n, e)

module _ (p : SequentialPlan) (sample : List ℕ) where
  abbrev items : List ℕ
  items = numbers_of sample

  abbrev parts : List Part
  parts = item_parts p 0 (suc (length items))

  at-item : (j d : ℕ) → 0 < j → j ≤ suc (length items) → decides_at j parts (0 + d) ≡ item_decides p j d
  at-item j d f h = simp zero-add (item-decides p 0 (suc (length items)) j d f h ∙ simp zero-add)

  item-end : (j : ℕ) → j ≤ suc (length items) → end_of j parts ≡ j
  item-end = item-ends p 0 (suc (length items))

  ends-at : (v : Verdict) → Judged 0 (half_left sample) sequential_say parts 0 0 0 items v → EndsAtItem p sample v
  unfolding sequential_say
  ends-at v j =
      let d = j.decision in
      let among : j.at ≤ suc (length items) = omega (arith, d.among, item-count p 0 (suc (length items))) in
      let len : length items ≡ j.at = omega (arith, d.ends, item-end j.at among) in
      let same : j.accepted ≡ v.accepted = ap (λ (w : Verdict). w.accepted) j.verdict in
      record {
        whole = (no-half sample).0 j.whole;
        some = omega (arith, d.some);
        legal = (all-legal 0 items).0 d.legal;
        last = rw len (sym (at-item j.at (sum_of items) d.some among) ∙ d.last ∙ ap says same);
        earlier =
            λ i f h.
            sym (at-item i (sum_of (take i items)) f (omega arith))
            ∙ rw (item-end i (omega arith)) at (d.earlier i f (omega arith));
        verdict =
            ap (λ (a : Bool). sequential_verdict (length items) (sum_of items) a) (sym same)
            ∙ simp zero-add at j.verdict;
      }

  judged-at : (v : Verdict) → EndsAtItem p sample v → Decides 0 0 parts items (length items) v.accepted
  judged-at v e =
      record {
        some = e.some;
        among = omega (arith, item-count p 0 (suc (length items)));
        ends = sym (item-end (length items) (omega arith));
        legal = (all-legal 0 items).1 e.legal;
        last = at-item (length items) (sum_of items) e.some (omega arith) ∙ e.last;
        earlier =
            λ i f h.
            rw (item-end i (omega arith)) (at-item i (sum_of (take i items)) f (omega arith) ∙ e.earlier i f h);
      }

  as-items : judge_sequence p sample ≡ walk 0 (half_left sample) sequential_say parts 0 0 0 items
  unfolding judge_sequence
  as-items = sequential-walk p (half_left sample) 0 0 items 0

  pub sequence-decided : (v : Verdict) → (judge_sequence p sample ≡ given v) ↔ EndsAtItem p sample v
  unfolding sequential_say
  sequence-decided v = (
    λ g. ends-at v (sound 0 (half_left sample) sequential_say parts 0 0 0 items v (sym as-items ∙ g)),
    λ e.
        as-items
        ∙ complete 0 (half_left sample) sequential_say parts 0 0 0 items (length items) v.accepted
        ((no-half sample).1 e.whole)
        (judged-at v e)
        ∙ simp zero-add (ap given e.verdict),
  )

module _ (p : SequentialPlan) (sample : List ℕ) where
  abbrev its : List ℕ
  its = numbers_of sample

  meets-item : Meets 0 0 (parts p sample) its → MeetsItem p sample
  meets-item m =
      record {
        place = m.place;
        there = m.there;
        legal-before = m.legal-before;
        too_much = (illegal-means 0 (get_or its m.place 0) m.illegal-there).1;
        undecided =
            λ i f h.
            let k : i ≤ suc (length its) = omega (arith, m.there) in
            let c : end_of i (parts p sample) ≤ m.place = omega (arith, item-end p sample i k) in
            sym (at-item p sample i (sum_of (take i its)) f k)
            ∙ rw (item-end p sample i k) at (m.undecided i f (omega (arith, item-count p 0 (suc (length its)))) c);
      }

  item-meets : MeetsItem p sample → Meets 0 0 (parts p sample) its
  item-meets m =
      let all : end_of (length (parts p sample)) (parts p sample) ≡ suc (length its) =
      rw (item-count p 0 (suc (length its))) (item-end p sample (suc (length its)) (omega arith)) in
      record {
        place = m.place;
        there = m.there;
        reached = omega (arith, m.there);
        legal-before = m.legal-before;
        illegal-there = illegal-when 0 (get_or its m.place 0) (omega arith) m.too_much;
        undecided =
            λ i f g h.
            let k : i ≤ suc (length its) = omega (arith, item-count p 0 (suc (length its))) in
            let c : i ≤ m.place = omega (arith, item-end p sample i k) in
            rw (item-end p sample i k) (at-item p sample i (sum_of (take i its)) f k ∙ m.undecided i f c);
      }

  pub sequence-reports : Reports 7 (SampleRows (EndsAtItem p sample) (MeetsItem p sample)) (judge_sequence p sample)
  sequence-reports =
      sample-reports (EndsAtItem p sample) (MeetsItem p sample) (judge_sequence p sample) (sequence-decided p sample)
      (λ m.
      as-items p sample
      ∙ meets-refused 0 (half_left sample) sequential_say (parts p sample) 0 0 0 its (item-meets m))
      (λ n q e.
      met-kind 0 0 (parts p sample) its meets-item n q
      (refused-met 0 (half_left sample) sequential_say (parts p sample) 0 0 0 its n q (sym (as-items p sample) ∙ e)))

-- The parts of a staged sample: its stages.
stage_part : Stage → Part
stage_part s = record { size = s.size; decides = stage_decides s }

staged_say : ℕ → Say
staged_say m part used total accepted = staged_verdict (record { stages = m; stage = part; used = used }) total accepted

staged-walk : (column : ℕ) (half : Bool) (m : ℕ) (ss : List Stage) (stage used total : ℕ) (xs : List ℕ)
    → staged_from column half ss (record { stages = m; stage = stage; used = used }) total xs
    ≡ walk column half (staged_say m) (map stage_part ss) stage used total xs
unfolding staged_from walk stage_part staged_say
staged-walk column half m [] stage used total xs = refl
staged-walk column half m (s ∷ ss) stage used total xs =
    on (take_items column s.size total xs) (staged-walk column half m ss (suc stage) (used + s.size))
  where
    at : Standing
    at = record { stages = m; stage = suc stage; used = used + s.size }

    on : (o : Taken)
        → ((t : ℕ) (rest : List ℕ) → staged_from column half ss at t rest
        ≡ walk column half (staged_say m) (map stage_part ss) (suc stage) (used + s.size) t rest)
        → after_stage half o s at (staged_from column half ss at)
        ≡ after_part half o (stage_part s) (staged_say m (suc stage) (used + s.size))
        (walk column half (staged_say m) (map stage_part ss) (suc stage) (used + s.size))
    on missing e = refl
    on over e = refl
    on (taken t rest) e = rw (e t rest)

stage-count : (k i : ℕ) (plan : StagedPlan) → length (map stage_part (stages_from k i plan)) ≡ k
unfolding stages_from
stage-count zero i plan = refl
stage-count (suc k) i plan = ap suc (stage-count k (suc i) plan)

stage-ends : (k i j : ℕ) (plan : StagedPlan) → j ≤ k
    → end_of j (map stage_part (stages_from k i plan)) ≡ total_size (stages_from j i plan)
unfolding end_of stages_from stage_part total_size
stage-ends k i zero plan h = refl
stage-ends zero i (suc j) plan h = absurd (omega arith)
stage-ends (suc k) i (suc j) plan h = rw (stage-ends k (suc i) j plan (le_of_suc-le-suc h))

stage-decides : (k i j d : ℕ) (plan : StagedPlan) → j < k
    → decides_at (suc j) (map stage_part (stages_from k i plan)) d ≡ stage_decides (stage_at plan (i + j)) d
unfolding decides_at stages_from stage_part
stage-decides zero i j d plan h = absurd (omega arith)
stage-decides (suc k) i zero d plan h = rw (add-zero i)
stage-decides (suc k) i (suc j) d plan h =
    stage-decides k (suc i) j d plan (le_of_suc-le-suc h)
    ∙ ap (λ (n : ℕ). stage_decides (stage_at plan n) d) (omega arith)

module _ (column : ℕ) (plan : StagedPlan) (sample : List ℕ) where
  abbrev items_of : List ℕ
  items_of = numbers_of sample

  abbrev stage_parts : List Part
  stage_parts = map stage_part (stages_of plan)

  at-stage : (j d : ℕ) → j < plan.stages → decides_at (suc j) stage_parts (0 + d) ≡ stage_decides (stage_at plan j) d
  at-stage j d h = simp zero-add (stage-decides plan.stages 0 j d plan h ∙ simp zero-add)

  stage-end : (j : ℕ) → j ≤ plan.stages → end_of j stage_parts ≡ size_of_first j plan
  stage-end j h = stage-ends plan.stages 0 j plan h

  ends-stage : (v : Verdict) → Judged column (half_left sample) (staged_say plan.stages) stage_parts 0 0 0 items_of v
      → EndsAtStage column plan sample v
  unfolding staged_say
  ends-stage v j = on j.at j.decision j.verdict
    where
      on : (at : ℕ) → Decides column 0 stage_parts items_of at j.accepted
          → staged_say plan.stages (0 + at) (0 + length items_of) (0 + sum_of items_of) j.accepted ≡ v
          → EndsAtStage column plan sample v
      on zero d e = absurd (omega (arith, d.some))
      on (suc at) d e =
          let among : at < plan.stages = omega (arith, d.among, stage-count plan.stages 0 plan) in
          let same : j.accepted ≡ v.accepted = ap (λ (w : Verdict). w.accepted) e in
          record {
            done = at;
            among = among;
            whole = (no-half sample).0 j.whole;
            ends = d.ends ∙ stage-end (suc at) among;
            legal = (all-legal column items_of).0 d.legal;
            last = sym (at-stage at (sum_of items_of) among) ∙ d.last ∙ ap says same;
            earlier =
                λ i h.
                sym (at-stage i (sum_of (take (size_of_first (suc i) plan) items_of)) (omega arith))
                ∙ rw (stage-end (suc i) (omega arith)) at (d.earlier (suc i) (omega arith) (suc-le-suc h));
            verdict =
                ap (λ (a : Bool). staged_say plan.stages (suc at) (length items_of) (sum_of items_of) a) (sym same)
                ∙ simp zero-add at e;
          }

  stage-judged : (v : Verdict) (e : EndsAtStage column plan sample v)
      → Decides column 0 stage_parts items_of (suc e.done) v.accepted
  stage-judged v e =
      record {
        some = omega arith;
        among = omega (arith, stage-count plan.stages 0 plan, e.among);
        ends = e.ends ∙ sym (stage-end (suc e.done) e.among);
        legal = (all-legal column items_of).1 e.legal;
        last = at-stage e.done (sum_of items_of) e.among ∙ e.last;
        earlier = before;
      }
    where
      before : (i : ℕ) → 0 < i → i < suc e.done
          → decides_at i stage_parts (0 + sum_of (take (end_of i stage_parts) items_of)) ≡ goes_on
      before zero f h = absurd (omega arith)
      before (suc i) f h =
          let k : i < plan.stages = omega (arith, e.among) in
          rw (stage-end (suc i) k)
          (at-stage i (sum_of (take (size_of_first (suc i) plan) items_of)) k ∙ e.earlier i (le_of_suc-le-suc h))

  as-stages : judge_stages column plan sample
      ≡ walk column (half_left sample) (staged_say plan.stages) stage_parts 0 0 0 items_of
  unfolding judge_stages
  as-stages = staged-walk column (half_left sample) plan.stages (stages_of plan) 0 0 0 items_of

  pub stages-decided : (v : Verdict) → (judge_stages column plan sample ≡ given v) ↔ EndsAtStage column plan sample v
  unfolding staged_say
  stages-decided v = (
    λ g.
        ends-stage v
        (sound column (half_left sample) (staged_say plan.stages) stage_parts 0 0 0 items_of v (sym as-stages ∙ g)),
    λ e.
        as-stages
        ∙ complete column (half_left sample) (staged_say plan.stages) stage_parts 0 0 0 items_of (suc e.done)
        v.accepted
        ((no-half sample).1 e.whole) (stage-judged v e)
        ∙ simp zero-add (ap given e.verdict),
  )

module _ (column : ℕ) (plan : StagedPlan) (sample : List ℕ) where
  abbrev its_of : List ℕ
  its_of = numbers_of sample

  abbrev of_plan : List Part
  of_plan = stage_parts column plan sample

  all-stages : end_of (length of_plan) of_plan ≡ size_of_first plan.stages plan
  all-stages =
      rw (stage-count plan.stages 0 plan)
      (stage-end column plan sample plan.stages (le_refl plan.stages))

  meets-in : Meets column 0 of_plan its_of → MeetsInStage column plan sample
  meets-in m =
      record {
        place = m.place;
        there = m.there;
        reached = rw all-stages at m.reached;
        legal-before = m.legal-before;
        illegal-there = m.illegal-there;
        undecided =
            λ i h c.
            sym (at-stage column plan sample i (sum_of (take (size_of_first (suc i) plan) its_of)) h)
            ∙ rw (stage-end column plan sample (suc i) h) at
            (m.undecided (suc i) (omega arith) (omega (arith, stage-count plan.stages 0 plan))
            (rw (stage-end column plan sample (suc i) h) c));
      }

  in-meets : MeetsInStage column plan sample → Meets column 0 of_plan its_of
  in-meets m =
      record {
        place = m.place;
        there = m.there;
        reached = rw all-stages m.reached;
        legal-before = m.legal-before;
        illegal-there = m.illegal-there;
        undecided = none;
      }
    where
      none : (i : ℕ) → 0 < i → i ≤ length of_plan → end_of i of_plan ≤ m.place
          → decides_at i of_plan (0 + sum_of (take (end_of i of_plan) its_of)) ≡ goes_on
      none zero f g h = absurd (omega arith)
      none (suc i) f g h =
          let k : i < plan.stages = omega (arith, stage-count plan.stages 0 plan) in
          rw (stage-end column plan sample (suc i) k)
          (at-stage column plan sample i (sum_of (take (size_of_first (suc i) plan) its_of)) k
          ∙ m.undecided i k (rw (stage-end column plan sample (suc i) k) at h))

  pub stages-report : Reports 7 (SampleRows (EndsAtStage column plan sample) (MeetsInStage column plan sample))
      (judge_stages column plan sample)
  stages-report =
      sample-reports (EndsAtStage column plan sample) (MeetsInStage column plan sample)
      (judge_stages column plan sample)
      (stages-decided column plan sample)
      (λ m.
      as-stages column plan sample
      ∙ meets-refused column (half_left sample) (staged_say plan.stages) of_plan 0 0 0 its_of (in-meets m))
      (λ n q e.
      met-kind column 0 of_plan its_of meets-in n q
      (refused-met column (half_left sample) (staged_say plan.stages) of_plan 0 0 0 its_of n q
      (sym (as-stages column plan sample) ∙ e)))

-- Where the last stage decides every total, as in a sound book, no sample runs past its stages.
pub never-runs-out : (plan : StagedPlan) → 0 < plan.stages
    → ((total : ℕ) → stage_decides (stage_at plan (plan.stages - 1)) total ≡ goes_on → ⊥) → (xs : List ℕ)
    → ((i : ℕ) → i < plan.stages → stage_decides (stage_at plan i) (sum_of (take (size_of_first (suc i) plan) xs))
    ≡ goes_on)
    → ⊥
never-runs-out plan some decides xs go = decides _ (go (plan.stages - 1) (omega arith))

-- At nt at the latest At decides, so that no sequential sample goes past nt.
pub last-decides : (p : SequentialPlan) (n d : ℕ) → p.nt ≤ n → item_decides p n d ≡ goes_on → ⊥
unfolding item_decides
last-decides p n d l e = go (leb d p.at_nt) (sym (rw (le-ltb n p.nt l)) ∙ e)
  where
    go : (t : Bool) → cond t accepts rejects ≡ goes_on → ⊥
    go true e = never cc
    go false e = never cc

pub never-past : (p : SequentialPlan) → 0 < p.nt → (sample : List ℕ) (v : Verdict) → EndsAtItem p sample v
    → v.used ≤ p.nt
never-past p some sample v e =
    let used : length (numbers_of sample) ≡ v.used = ap (λ (w : Verdict). w.used) e.verdict in
    by-le v.used p.nt (λ l. l)
    (λ l. absurd (last-decides p p.nt _ (le_refl p.nt) (e.earlier p.nt some (omega arith))))
