-- A walk over the parts of a sample gives a verdict exactly where the last part of the sample decides, no earlier part
-- does, all items are legal and nothing follows. A part is an item of a sequential sample, a stage of a staged one.
-- Assumes nothing.
use Prim.Native.Nat.{ℕ, zero, suc, ◌+◌, ◌-◌, ◌≤◌, ◌<◌, suc-le-suc}
use mathlib.Core.Path.{◌≡◌, refl, sym, ap, ◌∙◌}
use mathlib.Core.Bool.{Bool, true, false}
use mathlib.Core.List.{List, [], ◌∷◌}
use native.Mathlib.Nat.{add-zero, le_of_suc-le-suc}
use native.Mathlib.Omega.{arith}
use lib.ListN.{length, get_or, take, drop, length-drop, drop_of_length-le}
use lib.Seq.{take_all, take-add, get_or-drop}
use Rattle.rules.specs.Refusals.{Answer, refused, given, wrong_length, illegal_item}
use Rattle.rules.specs.Numbers.{sum_of}
use Rattle.rules.specs.Codes.{illegal, any_illegal}
use Rattle.rules.specs.Verdict.{Verdict, Decision, accepts, rejects, goes_on, ended, decided}
use Rattle.rules.specs.Staged.{Taken, missing, over, taken, take_items}
use Rattle.rules.specs.Judging.{says}
use Rattle.rules.proofs.Bounded.{by-le}
use Rattle.rules.proofs.Answers.{refused-given, given-one}
use Rattle.rules.proofs.Items.{sum-split, sum-take-add, legal-parts, legal-append, legal-split, legal-join}
use Rattle.rules.proofs.Items.{Takes, short, meets, takes, takes-so, takes-when, over-when}

-- A part of a sample: how many items it has, and what their running total then says.
pub record Part : Type 0 where
  pub size : ℕ
  pub decides : ℕ → Decision

-- the items up to the end of the first j parts
unfoldable pub end_of : ℕ → List Part → ℕ
end_of zero ps = 0
end_of (suc j) [] = 0
end_of (suc j) (p ∷ ps) = p.size + end_of j ps

-- what the part j, counted from 1, says of a total
unfoldable pub decides_at : ℕ → List Part → ℕ → Decision
decides_at zero ps total = goes_on
decides_at (suc j) [] total = goes_on
decides_at (suc zero) (p ∷ ps) total = p.decides total
decides_at (suc (suc j)) (p ∷ ps) total = decides_at (suc j) ps total

-- After a total, the items end with the part j, which decides.
pub record Decides (column total : ℕ) (ps : List Part) (xs : List ℕ) (j : ℕ) (accepted : Bool) : Type 0 where
  pub some : 0 < j
  pub among : j ≤ length ps
  pub ends : length xs ≡ end_of j ps
  pub legal : any_illegal column xs ≡ false
  pub last : decides_at j ps (total + sum_of xs) ≡ says accepted
  pub earlier : (i : ℕ) → 0 < i → i < j → decides_at i ps (total + sum_of (take (end_of i ps) xs)) ≡ goes_on

-- The walk over the parts; say makes the verdict of the part, the items used and their total.
abbrev pub Say : Type 0
Say = ℕ → ℕ → ℕ → Bool → Verdict

abbrev pub after_part : Bool → Taken → Part → (ℕ → Bool → Verdict) → (ℕ → List ℕ → Answer Verdict) → Answer Verdict
after_part half missing p say later = refused wrong_length 0
after_part half over p say later = refused illegal_item 0
after_part half (taken t rest) p say later = decided (p.decides t) (λ a. ended half rest (say t a)) (later t rest)

unfoldable pub walk : ℕ → Bool → Say → List Part → ℕ → ℕ → ℕ → List ℕ → Answer Verdict
walk column half say [] part used total items = refused wrong_length 0
walk column half say (p ∷ ps) part used total items =
    after_part half (take_items column p.size total items) p (say (suc part) (used + p.size))
    (walk column half say ps (suc part) (used + p.size))

pub ended-so : (half : Bool) (rest : List ℕ) (v w : Verdict) → ended half rest v ≡ given w
    → (half ≡ false) × (rest ≡ []) × (v ≡ w)
ended-so true [] v w e = absurd (refused-given e)
ended-so false [] v w e = (refl, refl, given-one e)
ended-so half (x ∷ rest) v w e = absurd (refused-given e)

ended-when : (half : Bool) (rest : List ℕ) (v : Verdict) → half ≡ false → rest ≡ [] → ended half rest v ≡ given v
ended-when half rest v e f = rw (f, e)

pub decided-says : (a : Bool) (f : Bool → Answer Verdict) (later : Answer Verdict) → decided (says a) f later ≡ f a
decided-says true f later = refl
decided-says false f later = refl

decides-later : (j : ℕ) (p : Part) (ps : List Part) (t : ℕ) → 0 < j → decides_at (suc j) (p ∷ ps) t ≡ decides_at j ps t
unfolding decides_at
decides-later zero p ps t h = absurd (omega arith)
decides-later (suc j) p ps t h = refl

at-total : {t u : ℕ} (j : ℕ) (ps : List Part) (d : Decision) → t ≡ u → decides_at j ps u ≡ d → decides_at j ps t ≡ d
at-total j ps d e h = rw e h

-- the parts after the first, which goes on
module _ (column total : ℕ) (p : Part) (ps : List Part) (xs : List ℕ) (a : Bool) where
  abbrev sum : ℕ
  sum = total + sum_of (take p.size xs)

  later-decides : (j : ℕ) → p.size ≤ length xs → any_illegal column (take p.size xs) ≡ false
      → p.decides sum ≡ goes_on → Decides column sum ps (drop p.size xs) j a
      → Decides column total (p ∷ ps) xs (suc j) a
  unfolding end_of decides_at
  later-decides j h l g d =
      record {
        some = omega arith;
        among = omega arith;
        ends = omega (arith, length-drop p.size xs, d.ends);
        legal = legal-join column p.size xs l d.legal;
        last =
            decides-later j p ps (total + sum_of xs) d.some
            ∙ at-total j ps (says a) (omega (arith, sum-split p.size xs)) d.last;
        earlier = before;
      }
    where
      before : (i : ℕ) → 0 < i → i < suc j
          → decides_at i (p ∷ ps) (total + sum_of (take (end_of i (p ∷ ps)) xs)) ≡ goes_on
      before zero f k = absurd (omega arith)
      before (suc zero) f k = rw add-zero g
      before (suc (suc i)) f k =
          at-total (suc i) ps goes_on (omega (arith, sum-take-add p.size (end_of (suc i) ps) xs))
          (d.earlier (suc i) (omega arith) (omega arith))

  decides-after : (j : ℕ) → Decides column total (p ∷ ps) xs (suc (suc j)) a
      → Decides column sum ps (drop p.size xs) (suc j) a
  unfolding end_of decides_at
  decides-after j d =
      record {
        some = omega arith;
        among = omega (arith, d.among);
        ends = omega (arith, length-drop p.size xs, d.ends);
        legal = (legal-split column p.size xs d.legal).1;
        last = at-total (suc j) ps (says a) (omega (arith, sum-split p.size xs)) d.last;
        earlier = before;
      }
    where
      before : (i : ℕ) → 0 < i → i < suc j
          → decides_at i ps (sum + sum_of (take (end_of i ps) (drop p.size xs))) ≡ goes_on
      before zero f k = absurd (omega arith)
      before (suc i) f k =
          at-total (suc i) ps goes_on (omega (arith, sum-take-add p.size (end_of (suc i) ps) xs))
          (d.earlier (suc (suc i)) (omega arith) (omega arith))

module _ (column : ℕ) (half : Bool) (say : Say) where
  say-same : {n m u v s t : ℕ} (a : Bool) → n ≡ m → u ≡ v → s ≡ t → say n u s a ≡ say m v t a
  say-same a e f g = rw (e, f, g)

  -- a verdict, and the part that it was decided at
  pub record Judged (ps : List Part) (part used total : ℕ) (xs : List ℕ) (v : Verdict) : Type 0 where
    pub at : ℕ
    pub accepted : Bool
    pub whole : half ≡ false
    pub decision : Decides column total ps xs at accepted
    pub verdict : say (part + at) (used + length xs) (total + sum_of xs) accepted ≡ v

  module _ (p : Part) (ps : List Part) (part used total : ℕ) (xs : List ℕ) (v : Verdict) where
    -- the first part decides
    first : (a : Bool) → p.size ≤ length xs → any_illegal column (take p.size xs) ≡ false
        → p.decides (total + sum_of (take p.size xs)) ≡ says a
        → ended half (drop p.size xs) (say (suc part) (used + p.size) (total + sum_of (take p.size xs)) a)
        ≡ given v
        → Judged (p ∷ ps) part used total xs v
    unfolding end_of decides_at
    first a h l d e =
        let k = ended-so half (drop p.size xs) _ v e in
        let len : length xs ≡ p.size = omega (arith, length-drop p.size xs, ap length k.1) in
        let all : take p.size xs ≡ xs = take_all p.size xs (omega arith) in
        record {
          at = 1;
          accepted = a;
          whole = k.0;
          decision =
              record {
                some = omega arith;
                among = omega arith;
                ends = omega arith;
                legal = rw all at l;
                last = rw all at d;
                earlier = λ i f g. absurd (omega arith);
              };
          verdict = say-same a (omega arith) (omega arith) (ap (λ (l : List ℕ). total + sum_of l) (sym all)) ∙ k.2;
        }

    -- the first part goes on
    more : p.size ≤ length xs → any_illegal column (take p.size xs) ≡ false
        → p.decides (total + sum_of (take p.size xs)) ≡ goes_on
        → Judged ps (suc part) (used + p.size) (total + sum_of (take p.size xs)) (drop p.size xs) v
        → Judged (p ∷ ps) part used total xs v
    more h l g j =
        record {
          at = suc j.at;
          accepted = j.accepted;
          whole = j.whole;
          decision = later-decides column total p ps xs j.accepted j.at h l g j.decision;
          verdict =
              say-same j.accepted (omega arith) (omega (arith, length-drop p.size xs))
              (omega (arith, sum-split p.size xs))
              ∙ j.verdict;
        }

    Later : Type 0
    Later =
        (t : ℕ) (rest : List ℕ) → walk column half say ps (suc part) (used + p.size) t rest ≡ given v
        → Judged ps (suc part) (used + p.size) t rest v

    by-decision : Later → p.size ≤ length xs → any_illegal column (take p.size xs) ≡ false → (t : ℕ)
        → t ≡ total + sum_of (take p.size xs) → (d : Decision) → p.decides t ≡ d
        → decided d (λ a. ended half (drop p.size xs) (say (suc part) (used + p.size) t a))
        (walk column half say ps (suc part) (used + p.size) t (drop p.size xs)) ≡ given v
        → Judged (p ∷ ps) part used total xs v
    unfolding Later
    by-decision later h l t q accepts d e = first true h l (rw q at d) (rw q at e)
    by-decision later h l t q rejects d e = first false h l (rw q at d) (rw q at e)
    by-decision later h l t q goes_on d e = more h l (rw q at d) (rw q at (later t (drop p.size xs) e))

    by-taken : Later → (o : Taken) → Takes column p.size total xs o
        → after_part half o p (say (suc part) (used + p.size)) (walk column half say ps (suc part) (used + p.size))
        ≡ given v
        → Judged (p ∷ ps) part used total xs v
    by-taken later missing (short h l) e = absurd (refused-given e)
    by-taken later over (meets i h g l f) e = absurd (refused-given e)
    by-taken later (taken u rest) (takes h l t q) e = by-decision later h l t q (p.decides t) refl e

  pub sound : (ps : List Part) (part used total : ℕ) (xs : List ℕ) (v : Verdict)
      → walk column half say ps part used total xs ≡ given v → Judged ps part used total xs v
  unfolding walk Later
  sound [] part used total xs v e = absurd (refused-given e)
  sound (p ∷ ps) part used total xs v e =
      by-taken p ps part used total xs v (λ t rest f. sound ps (suc part) (used + p.size) t rest v f) _
      (takes-so column p.size total xs) e

  pub complete : (ps : List Part) (part used total : ℕ) (xs : List ℕ) (j : ℕ) (a : Bool) → half ≡ false
      → Decides column total ps xs j a
      → walk column half say ps part used total xs ≡ given (say (part + j) (used + length xs) (total + sum_of xs) a)
  unfolding walk end_of decides_at
  complete [] part used total xs j a w d = absurd (omega (arith, d.some, d.among))
  complete (p ∷ ps) part used total xs zero a w d = absurd (omega (arith, d.some))
  complete (p ∷ ps) part used total xs (suc zero) a w d =
      let len : length xs ≡ p.size = omega (arith, d.ends) in
      let all : take p.size xs ≡ xs = take_all p.size xs (omega arith) in
      let none : drop p.size xs ≡ [] = drop_of_length-le xs {i = p.size} (omega arith) in
      rw (
        takes-when column p.size total xs (omega arith)
            (legal-split column p.size xs d.legal).0,
        all,
        d.last,
      )
      (decided-says a _ _
      ∙ ended-when half (drop p.size xs) _ w none
      ∙ ap given (say-same a (omega arith) (omega arith) refl))
  complete (p ∷ ps) part used total xs (suc (suc j)) a w d =
      let h : p.size ≤ length xs = omega (arith, d.ends) in
      let g : p.decides (total + sum_of (take p.size xs)) ≡ goes_on =
      rw add-zero at (d.earlier 1 (omega arith) (omega arith)) in
      rw (takes-when column p.size total xs h (legal-split column p.size xs d.legal).0, g)
      (complete ps (suc part) (used + p.size) (total + sum_of (take p.size xs)) (drop p.size xs) (suc j) a w
      (decides-after column total p ps xs a j d)
      ∙ ap given (say-same a (omega arith) (omega (arith, length-drop p.size xs))
      (omega (arith, sum-split p.size xs))))

-- An illegal item is met: it stands among the parts, and no part that ends before it decides.
pub record Meets (column total : ℕ) (ps : List Part) (xs : List ℕ) : Type 0 where
  pub place : ℕ
  pub there : place < length xs
  pub reached : place < end_of (length ps) ps
  pub legal-before : any_illegal column (take place xs) ≡ false
  pub illegal-there : illegal column (get_or xs place 0) ≡ true
  pub undecided : (j : ℕ) → 0 < j → j ≤ length ps → end_of j ps ≤ place
      → decides_at j ps (total + sum_of (take (end_of j ps) xs)) ≡ goes_on

-- what a refused walk met
pub data Met (column total : ℕ) (ps : List Part) (xs : List ℕ) : ℕ → ℕ → Type 0 where
  length-wrong : Met column total ps xs wrong_length 0
  item-illegal : Meets column total ps xs → Met column total ps xs illegal_item 0

module _ (column total : ℕ) (p : Part) (ps : List Part) (xs : List ℕ) where
  meets-first : (i : ℕ) → i < p.size → i < length xs → any_illegal column (take i xs) ≡ false
      → illegal column (get_or xs i 0) ≡ true → Meets column total (p ∷ ps) xs
  unfolding end_of
  meets-first i h g l f =
      record {
        place = i;
        there = g;
        reached = omega arith;
        legal-before = l;
        illegal-there = f;
        undecided = none;
      }
    where
      none : (j : ℕ) → 0 < j → j ≤ length (p ∷ ps) → end_of j (p ∷ ps) ≤ i
          → decides_at j (p ∷ ps) (total + sum_of (take (end_of j (p ∷ ps)) xs)) ≡ goes_on
      none zero a b c = absurd (omega arith)
      none (suc j) a b c = absurd (omega arith)

  meets-later : p.size ≤ length xs → any_illegal column (take p.size xs) ≡ false
      → p.decides (total + sum_of (take p.size xs)) ≡ goes_on
      → Meets column (total + sum_of (take p.size xs)) ps (drop p.size xs) → Meets column total (p ∷ ps) xs
  unfolding end_of decides_at
  meets-later h l g m =
      record {
        place = p.size + m.place;
        there = omega (arith, length-drop p.size xs, m.there);
        reached = omega (arith, m.reached);
        legal-before =
            rw (take-add p.size m.place xs)
            (legal-append column (take p.size xs) (take m.place (drop p.size xs)) l m.legal-before);
        illegal-there = rw (get_or-drop p.size xs m.place 0) at m.illegal-there;
        undecided = none;
      }
    where
      none : (j : ℕ) → 0 < j → j ≤ length (p ∷ ps) → end_of j (p ∷ ps) ≤ p.size + m.place
          → decides_at j (p ∷ ps) (total + sum_of (take (end_of j (p ∷ ps)) xs)) ≡ goes_on
      none zero a b c = absurd (omega arith)
      none (suc zero) a b c = rw add-zero g
      none (suc (suc j)) a b c =
          at-total (suc j) ps goes_on (omega (arith, sum-take-add p.size (end_of (suc j) ps) xs))
          (m.undecided (suc j) (omega arith) (le_of_suc-le-suc b) (omega arith))

  later-met : p.size ≤ length xs → any_illegal column (take p.size xs) ≡ false
      → p.decides (total + sum_of (take p.size xs)) ≡ goes_on → (n q : ℕ)
      → Met column (total + sum_of (take p.size xs)) ps (drop p.size xs) n q → Met column total (p ∷ ps) xs n q
  later-met h l g n q length-wrong = length-wrong
  later-met h l g n q (item-illegal m) = item-illegal (meets-later h l g m)

  -- the items of the first part, and those after it up to the place
  front : (m : Meets column total (p ∷ ps) xs) → p.size ≤ m.place
      → (any_illegal column (take p.size xs) ≡ false)
      × (any_illegal column (take (m.place - p.size) (drop p.size xs)) ≡ false)
  front m h =
      let e : m.place ≡ p.size + (m.place - p.size) = omega arith in
      legal-parts column (take p.size xs) (take (m.place - p.size) (drop p.size xs))
      (rw (← take-add p.size (m.place - p.size) xs, ← e) m.legal-before)

  meets-after : (m : Meets column total (p ∷ ps) xs) → p.size ≤ m.place
      → Meets column (total + sum_of (take p.size xs)) ps (drop p.size xs)
  unfolding end_of decides_at
  meets-after m h =
      let e : p.size + (m.place - p.size) ≡ m.place = omega arith in
      record {
        place = m.place - p.size;
        there = omega (arith, length-drop p.size xs, m.there);
        reached = omega (arith, m.reached);
        legal-before = (front m h).1;
        illegal-there = rw (get_or-drop p.size xs (m.place - p.size) 0, e) m.illegal-there;
        undecided = none;
      }
    where
      none : (j : ℕ) → 0 < j → j ≤ length ps → end_of j ps ≤ m.place - p.size
          → decides_at j ps (total + sum_of (take p.size xs) + sum_of (take (end_of j ps) (drop p.size xs))) ≡ goes_on
      none zero a b c = absurd (omega arith)
      none (suc j) a b c =
          at-total (suc j) ps goes_on (omega (arith, sum-take-add p.size (end_of (suc j) ps) xs))
          (m.undecided (suc (suc j)) (omega arith) (suc-le-suc b) (omega arith))

ended-refused : (half : Bool) (rest : List ℕ) (v : Verdict) (n q : ℕ) → ended half rest v ≡ refused n q
    → (wrong_length ≡ n) × (0 ≡ q)
ended-refused true [] v n q e = (cc, cc)
ended-refused false [] v n q e = absurd (refused-given (sym e))
ended-refused half (x ∷ rest) v n q e = (cc, cc)

module _ (column : ℕ) (half : Bool) (say : Say) where
  module _ (p : Part) (ps : List Part) (part used total : ℕ) (xs : List ℕ) (n q : ℕ) where
    so-wrong : (wrong_length ≡ n) × (0 ≡ q) → Met column total (p ∷ ps) xs n q
    so-wrong e = rw (← e.0, ← e.1) length-wrong

    LaterMet : Type 0
    LaterMet =
        (t : ℕ) (rest : List ℕ) → walk column half say ps (suc part) (used + p.size) t rest ≡ refused n q
        → Met column t ps rest n q

    met-decision : LaterMet → p.size ≤ length xs → any_illegal column (take p.size xs) ≡ false → (t : ℕ)
        → t ≡ total + sum_of (take p.size xs) → (d : Decision) → p.decides t ≡ d
        → decided d (λ a. ended half (drop p.size xs) (say (suc part) (used + p.size) t a))
        (walk column half say ps (suc part) (used + p.size) t (drop p.size xs)) ≡ refused n q
        → Met column total (p ∷ ps) xs n q
    unfolding LaterMet
    met-decision later h l t e accepts d f = so-wrong (ended-refused half (drop p.size xs) _ n q f)
    met-decision later h l t e rejects d f = so-wrong (ended-refused half (drop p.size xs) _ n q f)
    met-decision later h l t e goes_on d f =
        later-met column total p ps xs h l (rw e at d) n q (rw e at (later t (drop p.size xs) f))

    met-taken : LaterMet → (o : Taken) → Takes column p.size total xs o
        → after_part half o p (say (suc part) (used + p.size)) (walk column half say ps (suc part) (used + p.size))
        ≡ refused n q
        → Met column total (p ∷ ps) xs n q
    met-taken later missing (short h l) e = so-wrong (cc, cc)
    met-taken later over (meets i h g l f) e =
        let r : (illegal_item ≡ n) × (0 ≡ q) = (cc, cc) in
        rw (← r.0, ← r.1) (item-illegal (meets-first column total p ps xs i h g l f))
    met-taken later (taken u rest) (takes h l t q) e = met-decision later h l t q (p.decides t) refl e

  -- A walk is refused for its length, or for the illegal item that it meets ..
  pub refused-met : (ps : List Part) (part used total : ℕ) (xs : List ℕ) (n q : ℕ)
      → walk column half say ps part used total xs ≡ refused n q → Met column total ps xs n q
  unfolding walk LaterMet
  refused-met [] part used total xs n q e =
      let r : (wrong_length ≡ n) × (0 ≡ q) = (cc, cc) in
      rw (← r.0, ← r.1) length-wrong
  refused-met (p ∷ ps) part used total xs n q e =
      met-taken p ps part used total xs n q (λ t rest f. refused-met ps (suc part) (used + p.size) t rest n q f) _
      (takes-so column p.size total xs) e

  -- .. and where it meets one, it is refused for it.
  pub meets-refused : (ps : List Part) (part used total : ℕ) (xs : List ℕ) → Meets column total ps xs
      → walk column half say ps part used total xs ≡ refused illegal_item 0
  unfolding walk end_of decides_at
  meets-refused [] part used total xs m = absurd (omega (arith, m.reached))
  meets-refused (p ∷ ps) part used total xs m =
      by-le p.size m.place
      (λ h.
      let g : p.decides (total + sum_of (take p.size xs)) ≡ goes_on =
      rw add-zero at (m.undecided 1 (omega arith) (omega arith) (omega arith)) in
      rw (takes-when column p.size total xs (omega (arith, m.there)) (front column total p ps xs m h).0, g)
      (meets-refused ps (suc part) (used + p.size) (total + sum_of (take p.size xs)) (drop p.size xs)
      (meets-after column total p ps xs m h)))
      (λ h. rw (over-when column p.size total xs m.place h m.there m.legal-before m.illegal-there))
