-- The walks over a sample, as loops that count up take them: where a walk has come to, and a law for each exit.
-- Assumes nothing.
use Prim.Native.Nat.{ℕ, suc, ◌+◌, ◌-◌, ◌*◌, ◌%◌, ◌≤◌, ◌<◌}
use mathlib.Core.Path.{◌≡◌, refl, ◌∙◌}
use mathlib.Core.Bool.{Bool, true, false, cond}
use mathlib.Core.List.{List, [], ◌∷◌}
use native.Mathlib.Numerals.{add-one}
use native.Mathlib.Omega.{arith}
use borrow.Author.Tests.{lt-ltb, le-ltb, eq-eqb, ne_eqb, ltb-true}
use lib.Dec.{eqb, ltb, leb}
use lib.ListN.{length, get_or, drop, length-drop, drop_of_length-le}
use lib.Seq.{drop-cons}
use Rattle.rules.specs.Refusals.{refused, given, wrong_length, illegal_item}
use Rattle.rules.specs.Numbers.{numbers_of, half_left}
use Rattle.rules.specs.Codes.{illegal}
use Rattle.rules.specs.Verdict.{Verdict, Decision, accepts, rejects, goes_on, ended, decided}
use Rattle.rules.specs.Single.{Plan}
use Rattle.rules.specs.Curtailed.{verdict_after, curtailed_from, judge_until_lost}
use Rattle.rules.specs.Sequential.{SequentialPlan, item_decides, sequential_from, sequential_verdict}
use Rattle.rules.specs.Sequential.{judge_sequence}
use Rattle.rules.specs.Staged.{StagedPlan, stage_at, stages_from, stage_decides, Taken, missing, over, taken}
use Rattle.rules.specs.Staged.{take_items, Standing, staged_verdict, staged_from, judge_stages}
use Rattle.rules.specs.Judging.{says}
use Rattle.rules.proofs.Numbers.{numbers-next, numbers-end}
use Rattle.rules.proofs.Bounded.{by-le}
use Rattle.rules.proofs.Items.{Takes, takes, takes-so}
use Rattle.rules.proofs.Parts.{decided-says}

-- "The sample must end at the very item (sequential) or stage (staged) that decides"
module _ (s : List ℕ) (i : ℕ) (v : Verdict) where
  pub ended-there : length s ≡ 2 * i → ended (half_left s) (drop i (numbers_of s)) v ≡ given v
  ended-there h =
      let even : eqb (length s % 2) 1 ≡ false = ne_eqb (length s % 2) 1 (λ e. omega arith) in
      let e : drop i (numbers_of s) ≡ [] = numbers-end s i (omega arith) in
      rw (e, even)

  pub ended-past : 2 * i < length s → ended (half_left s) (drop i (numbers_of s)) v ≡ refused wrong_length 0
  ended-past h =
      by-le (length s) (2 * i + 1)
      (λ l. let odd : eqb (length s % 2) 1 ≡ true = eq-eqb (length s % 2) 1 (omega arith) in
      let e : drop i (numbers_of s) ≡ [] = numbers-end s i l in
      rw (e, odd))
      (λ l. rw (numbers-next s i l))

items-next : (ws : List ℕ) (i x : ℕ) → x ≡ get_or ws i 0 → i < length ws → drop i ws ≡ x ∷ drop (i + 1) ws
items-next ws i x e h = rw (e, add-one i) (drop-cons ws i 0 h)

-- A sequential walk has come to the item at place i, with total d.
pub record SequentialAt (p : SequentialPlan) (s : List ℕ) (i d : ℕ) : Type 0 where
  pub walk : judge_sequence p s ≡ sequential_from p (half_left s) i d (drop i (numbers_of s))

pub sequential-start : (p : SequentialPlan) (s : List ℕ) → SequentialAt p s 0 0
unfolding judge_sequence
sequential-start p s = record { walk = refl }

module _ {p : SequentialPlan} {s : List ℕ} {i d : ℕ} (w : SequentialAt p s i d) where
  pub sequential-short : length (numbers_of s) ≤ i → judge_sequence p s ≡ refused wrong_length 0
  unfolding sequential_from
  sequential-short h = w.walk ∙ rw (drop_of_length-le (numbers_of s) h)

  module _ (there : i < length (numbers_of s)) {x : ℕ} (is : x ≡ get_or (numbers_of s) i 0) where
    pub sequential-over : 1 < x → judge_sequence p s ≡ refused illegal_item 0
    unfolding sequential_from
    sequential-over h = w.walk ∙ rw (items-next (numbers_of s) i x is there, lt-ltb 1 x h)

    item : x ≤ 1
        → judge_sequence p s
        ≡ decided (item_decides p (i + 1) (d + x))
        (λ a. ended (half_left s) (drop (i + 1) (numbers_of s)) (sequential_verdict (i + 1) (d + x) a))
        (sequential_from p (half_left s) (i + 1) (d + x) (drop (i + 1) (numbers_of s)))
    unfolding sequential_from
    item h = w.walk ∙ rw (items-next (numbers_of s) i x is there, le-ltb 1 x h, add-one i)

    pub sequential-decides : x ≤ 1 → (a : Bool) → item_decides p (i + 1) (d + x) ≡ says a
        → judge_sequence p s
        ≡ ended (half_left s) (drop (i + 1) (numbers_of s)) (sequential_verdict (i + 1) (d + x) a)
    sequential-decides h a e = item h ∙ rw e (decided-says a _ _)

    pub sequential-goes : x ≤ 1 → item_decides p (i + 1) (d + x) ≡ goes_on → SequentialAt p s (i + 1) (d + x)
    sequential-goes h e = record { walk = item h ∙ rw e }

-- "At the last item nt: accept when D ≤ At, else reject": no walk goes on from there
pub goes-before : (p : SequentialPlan) (n d : ℕ) → item_decides p n d ≡ goes_on → n < p.nt
unfolding item_decides
goes-before p n d e = go (ltb n p.nt) (leb d p.at_nt) _ refl e
  where
    go : (b t : Bool) (x : Decision) → ltb n p.nt ≡ b → cond b x (cond t accepts rejects) ≡ goes_on → n < p.nt
    go true t x f h = ltb-true n p.nt f
    go false true x f h = let z : ◌≡◌ {A = ℕ} 0 1 = cc in omega arith
    go false false x f h = let z : ◌≡◌ {A = ℕ} 0 1 = cc in omega arith

-- A curtailed walk has come to the item at place i, with total t.
pub record CurtailedAt (column : ℕ) (p : Plan) (s : List ℕ) (i t : ℕ) : Type 0 where
  pub walk : judge_until_lost column p s ≡ curtailed_from column p (half_left s) (p.n - i) i t (drop i (numbers_of s))

pub curtailed-start : (column : ℕ) (p : Plan) (s : List ℕ) → CurtailedAt column p s 0 0
unfolding judge_until_lost
curtailed-start column p s = let e : p.n - 0 ≡ p.n = omega arith in record { walk = rw e }

module _ {column : ℕ} {p : Plan} {s : List ℕ} {i t : ℕ} (w : CurtailedAt column p s i t) where
  pub curtailed-done : p.n ≤ i
      → judge_until_lost column p s ≡ ended (half_left s) (drop i (numbers_of s)) (verdict_after p i t)
  unfolding curtailed_from
  curtailed-done h = let e : p.n - i ≡ 0 = omega arith in w.walk ∙ rw e

  module _ (more : i < p.n) where
    item-less : p.n - i ≡ suc (p.n - (i + 1))
    item-less = omega arith

    pub curtailed-missing : length (numbers_of s) ≤ i → judge_until_lost column p s ≡ refused wrong_length 0
    unfolding curtailed_from
    curtailed-missing h = w.walk ∙ rw (drop_of_length-le (numbers_of s) h, item-less)

    module _ (there : i < length (numbers_of s)) {x : ℕ} (is : x ≡ get_or (numbers_of s) i 0) where
      pub curtailed-over : illegal column x ≡ true → judge_until_lost column p s ≡ refused illegal_item 0
      unfolding curtailed_from
      curtailed-over e = w.walk ∙ rw (items-next (numbers_of s) i x is there, item-less, e)

      pub curtailed-lost : illegal column x ≡ false → p.ac < t + x
          → judge_until_lost column p s
          ≡ ended (half_left s) (drop (i + 1) (numbers_of s)) (verdict_after p (i + 1) (t + x))
      unfolding curtailed_from
      curtailed-lost e h =
          w.walk ∙ rw (items-next (numbers_of s) i x is there, item-less, e, lt-ltb p.ac (t + x) h, add-one i)

      pub curtailed-goes : illegal column x ≡ false → t + x ≤ p.ac → CurtailedAt column p s (i + 1) (t + x)
      unfolding curtailed_from
      curtailed-goes e h =
          record {
            walk =
                w.walk
                ∙ rw (items-next (numbers_of s) i x is there, item-less, e, le-ltb p.ac (t + x) h, add-one i);
          }

-- Taking k items from place f on has come to place i, with total t.
pub record TakingAt (column k total f : ℕ) (ws : List ℕ) (i t : ℕ) : Type 0 where
  pub walk : take_items column k total (drop f ws) ≡ take_items column (f + k - i) t (drop i ws)

pub taking-start : (column k total f : ℕ) (ws : List ℕ) → TakingAt column k total f ws f total
taking-start column k total f ws = let e : f + k - f ≡ k = omega arith in record { walk = rw e }

module _ {column k total f : ℕ} {ws : List ℕ} {i t : ℕ} (w : TakingAt column k total f ws i t) where
  pub taking-done : i ≡ f + k → take_items column k total (drop f ws) ≡ taken t (drop (f + k) ws)
  unfolding take_items
  taking-done h = let e : f + k - i ≡ 0 = omega arith in w.walk ∙ rw (e, h)

  module _ (more : i < f + k) where
    one-less : f + k - i ≡ suc (f + k - (i + 1))
    one-less = omega arith

    pub taking-missing : length ws ≤ i → take_items column k total (drop f ws) ≡ missing
    unfolding take_items
    taking-missing h = w.walk ∙ rw (drop_of_length-le ws h, one-less)

    module _ (there : i < length ws) {x : ℕ} (is : x ≡ get_or ws i 0) where
      pub taking-over : illegal column x ≡ true → take_items column k total (drop f ws) ≡ over
      unfolding take_items
      taking-over e = w.walk ∙ rw (items-next ws i x is there, one-less, e)

      pub taking-item : illegal column x ≡ false → TakingAt column k total f ws (i + 1) (t + x)
      unfolding take_items
      taking-item e = record { walk = w.walk ∙ rw (items-next ws i x is there, one-less, e) }

-- items that are taken are there
pub taken-there : (column k total f t : ℕ) (ws rest : List ℕ) → f ≤ length ws
    → take_items column k total (drop f ws) ≡ taken t rest → f + k ≤ length ws
taken-there column k total f t ws rest l =
    go (take_items column k total (drop f ws)) (takes-so column k total (drop f ws))
  where
    go : (o : Taken) → Takes column k total (drop f ws) o → o ≡ taken t rest → f + k ≤ length ws
    go missing v e = let z : ◌≡◌ {A = ℕ} 0 1 = cc in omega arith
    go over v e = let z : ◌≡◌ {A = ℕ} 0 1 = cc in omega arith
    go (taken s r) (takes h legal sum is) e = omega (arith, length-drop f ws)

-- after i stages of the plan, with so many items used
abbrev pub after : StagedPlan → ℕ → ℕ → Standing
after p i used = record { stages = p.stages; stage = i; used = used }

-- A staged walk has come to the stage at place i, after `used` items with their total.
pub record StagedAt (column : ℕ) (p : StagedPlan) (s : List ℕ) (i used total : ℕ) : Type 0 where
  pub walk :
      judge_stages column p s
      ≡ staged_from column (half_left s) (stages_from (p.stages - i) i p) (after p i used) total
      (drop used (numbers_of s))

pub staged-start : (column : ℕ) (p : StagedPlan) (s : List ℕ) → StagedAt column p s 0 0 0
unfolding judge_stages
staged-start column p s = let e : p.stages - 0 ≡ p.stages = omega arith in record { walk = rw e }

module _ {column : ℕ} {p : StagedPlan} {s : List ℕ} {i used total : ℕ} (w : StagedAt column p s i used total) where
  -- past the last stage there is no item to take
  pub staged-done : p.stages ≤ i → judge_stages column p s ≡ refused wrong_length 0
  unfolding staged_from stages_from
  staged-done h = let e : p.stages - i ≡ 0 = omega arith in w.walk ∙ rw e

  module _ (more : i < p.stages) {size : ℕ} (is : size ≡ get_or p.sizes i 0) where
    stage-next : p.stages - i ≡ suc (p.stages - (i + 1))
    stage-next = omega arith

    pub staged-missing : take_items column size total (drop used (numbers_of s)) ≡ missing
        → judge_stages column p s ≡ refused wrong_length 0
    unfolding staged_from stages_from
    staged-missing e = w.walk ∙ rw (stage-next, ← is, e)

    pub staged-over : take_items column size total (drop used (numbers_of s)) ≡ over
        → judge_stages column p s ≡ refused illegal_item 0
    unfolding staged_from stages_from
    staged-over e = w.walk ∙ rw (stage-next, ← is, e)

    module _ {t : ℕ}
        (took : take_items column size total (drop used (numbers_of s)) ≡ taken t (drop (used + size) (numbers_of s)))
      where
        stage :
            judge_stages column p s
            ≡ decided (stage_decides (stage_at p i) t)
            (λ a.
            ended (half_left s) (drop (used + size) (numbers_of s))
            (staged_verdict (after p (i + 1) (used + size)) t a))
            (staged_from column (half_left s) (stages_from (p.stages - (i + 1)) (i + 1) p)
            (after p (i + 1) (used + size)) t
            (drop (used + size) (numbers_of s)))
        unfolding staged_from stages_from
        stage = w.walk ∙ rw (stage-next, ← is, took, add-one i)

        pub staged-decides : (a : Bool) → stage_decides (stage_at p i) t ≡ says a
            → judge_stages column p s
            ≡ ended (half_left s) (drop (used + size) (numbers_of s))
            (staged_verdict (after p (i + 1) (used + size)) t a)
        staged-decides a e = stage ∙ rw e (decided-says a _ _)

        pub staged-goes : stage_decides (stage_at p i) t ≡ goes_on → StagedAt column p s (i + 1) (used + size) t
        staged-goes e = record { walk = stage ∙ rw e }
