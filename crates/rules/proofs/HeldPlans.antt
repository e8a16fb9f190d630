-- Plans that a sound book could hold: what the rules of their section give.
-- Assumes nothing.
use Prim.Native.Nat.{ℕ, min, ◌+◌, ◌*◌, ◌-◌, ◌/◌, ◌≤◌, ◌<◌}
use mathlib.Core.Path.{◌≡◌, refl, ap, sym, ◌∙◌}
use mathlib.Core.Logic.{inl, inr}
use mathlib.Core.Bool.{Bool, true, false, cond}
use mathlib.Core.List.{List, [], ◌∷◌}
use native.Mathlib.Omega.{arith}
use borrow.Author.Tests.{ltb-true, leb-true, leb-false, le-leb, lt-leb, le-ltb, lt-ltb}
use lib.ListN.{get_or, length, take}
use lib.Seq.{get_or-take}
use lib.Dec.{leb}
use Rattle.rules.specs.Book.{Kind, Range, within, anything, right, numbers_from, size_of, could_hold}
use Rattle.rules.specs.Book.{reduced_singles, sequential, sequential_rule, variables, at_fits}
use Rattle.rules.specs.Book.{sequential_of, variables_of}
use Rattle.rules.specs.Codes.{letter_of}
use Rattle.rules.specs.Single.{Plan, is_cut, cut_plan}
use Rattle.rules.specs.Sequential.{SequentialPlan, on_accept_line, on_reject_line, item_decides}
use Rattle.rules.specs.Verdict.{accepts, rejects}
use Rattle.rules.specs.Numbers.{numbers_of}
use Rattle.rules.specs.Book.{check_book, sound, kinds, kind_at, look_up, Found, found, nothing}
use Rattle.rules.specs.Variables.{VariablesPlan}
use Rattle.rules.specs.Entries.{Asked, variables_entry, reduced_plan}
use Rattle.rules.specs.PlanRules.{Held, SizesFit}
use Rattle.rules.specs.WholeLot.{SizeTold}
pub use Rattle.rules.specs.PlanRules.{SingleRight, VariablesRight, SequentialRight}
use Rattle.rules.proofs.Bools.{and-left, and-right}
use Rattle.rules.proofs.Bounded.{by-le}
use Rattle.rules.proofs.SectionKinds.{item-columns, entry-deep}
use Rattle.rules.proofs.Steps.{sequential-at}
use Rattle.rules.proofs.LookUp.{held, found-held, found-under}

-- a number that is right is in its range, and keeps its rules
module _ (k : Kind) (e : List ℕ) (h : Held k e) (p : ℕ) (l : p < size_of k e) where
  pub in-range : ((get_or k.ranges p anything).low ≤ get_or e p 0) × (get_or e p 0 ≤ (get_or k.ranges p anything).high)
  unfolding right
  in-range =
      let r : Range = get_or k.ranges p anything in
      let w = and-left (within r (get_or e p 0)) (k.rule (take p e) (get_or e p 0)) (h.each p l) in (
        leb-true r.low (get_or e p 0) (and-left (leb r.low (get_or e p 0)) (leb (get_or e p 0) r.high) w),
        leb-true (get_or e p 0) r.high (and-right (leb r.low (get_or e p 0)) (leb (get_or e p 0) r.high) w),
      )

  pub keeps-rule : k.rule (take p e) (get_or e p 0) ≡ true
  unfolding right
  keeps-rule =
      and-right (within (get_or k.ranges p anything) (get_or e p 0)) (k.rule (take p e) (get_or e p 0)) (h.each p l)

pub variables-held : (e : List ℕ) → Held variables e → VariablesRight (variables_of e)
variables-held e h =
    let a = in-range variables e h 3 (omega arith) in
    let b = in-range variables e h 4 (omega arith) in
    record { two = a.0; fifty = a.1; some = b.0; high = b.1 }

pub variables-right : (p : VariablesPlan) → could_hold variables (variables_entry p) ≡ true → VariablesRight p
variables-right p h = variables-held (variables_entry p) (held variables (variables_entry p) h)

pub variables-could : (p : VariablesPlan) → VariablesRight p → could_hold variables (variables_entry p) ≡ true
unfolding could_hold numbers_from right
variables-could p r =
    rw (
      le-leb 2 p.n r.two,
      le-leb p.n 50 r.fifty,
      le-leb 1 p.k r.some,
      le-leb p.k 4000 r.high,
    )

-- Document 02, T-05: what the plan of a letter, a size and Ac tells of its lot, whichever table or book it is from ..
pub size-told : (lot letter own ac : ℕ) → SizeTold lot own (cut_plan lot letter own ac)
size-told lot letter own ac =
    record {
      own-size = refl;
      cut-exactly = (leb-true lot own, le-leb lot own);
      smaller = drawn (leb lot own) refl;
      whole-lot = (all (leb lot own), λ n. le-leb lot own (omega (arith, n, drawn (leb lot own) refl)));
    }
  where
    drawn : (t : Bool) → leb lot own ≡ t → cond t lot own ≡ min lot own
    drawn true t = let h = leb-true lot own t in omega arith
    drawn false t = let h = leb-false lot own t in omega arith

    all : (t : Bool) → t ≡ true → cond t lot own ≡ lot
    all t e = rw e

-- .. and so the sizes of a plan from a lot of two items or more fit each other, ..
pub cut-fits : (lot letter own ac : ℕ) → 2 ≤ lot → SizesFit (cut_plan lot letter own ac)
cut-fits lot letter own ac two = on (is_cut lot own) refl
  where
    told : SizeTold lot own (cut_plan lot letter own ac)
    told = size-told lot letter own ac

    on : (t : Bool) → is_cut lot own ≡ t → SizesFit (cut_plan lot letter own ac)
    on true t = inr (t, omega (arith, two, told.whole-lot.0 t), omega (arith, told.smaller, told.own-size))
    on false t = inl (t, omega (arith, leb-false lot own t, told.smaller, told.own-size))

-- .. and n is in the range of the table's own
pub sized : (p : Plan) → SingleRight p → (1 ≤ p.n) × (p.n ≤ 3150)
sized p r = on r.sizes
  where
    on : SizesFit p → (1 ≤ p.n) × (p.n ≤ 3150)
    on (inl uncut) = (omega (arith, r.some, uncut.1), omega (arith, r.few, uncut.1))
    on (inr cut) = (omega (arith, cut.1), omega (arith, r.few, cut.2))

pub reduced-held : (q : Asked) → 2 ≤ q.size → (e : List ℕ) → Held reduced_singles e → SingleRight (reduced_plan q e)
reduced-held q two e h =
    let a = in-range reduced_singles e h 2 (omega arith) in
    record {
      some = a.0;
      few = a.1;
      ac = (in-range reduced_singles e h 3 (omega arith)).1;
      sizes = cut-fits q.size (letter_of q.size q.level) (get_or e 2 0) (get_or e 3 0) two;
    }

fits-accepts : (h_a h_r g nt x d : ℕ) → at_fits h_a h_r g nt x ≡ true → leb (100000 * d + 100 * h_a) (g * nt) ≡ true
    → d ≤ x
unfolding at_fits
fits-accepts h_a h_r g nt x d f h =
    let a : (g * nt - 100 * h_a) / 100000 ≤ x =
    leb-true ((g * nt - 100 * h_a) / 100000) x
    (and-left (leb ((g * nt - 100 * h_a) / 100000) x) _ f) in
    let b : 100000 * d + 100 * h_a ≤ g * nt = leb-true (100000 * d + 100 * h_a) (g * nt) h in
    omega arith

fits-rejects : (h_a h_r g nt x d : ℕ) → at_fits h_a h_r g nt x ≡ true → leb (g * nt + 100 * h_r) (100000 * d) ≡ true
    → x < d
unfolding at_fits
fits-rejects h_a h_r g nt x d f h =
    let a : x < (g * nt + 100 * h_r + 99999) / 100000 =
    ltb-true x ((g * nt + 100 * h_r + 99999) / 100000)
    (and-right (leb ((g * nt - 100 * h_a) / 100000) x) _ f) in
    let b : g * nt + 100 * h_r ≤ 100000 * d = leb-true (g * nt + 100 * h_r) (100000 * d) h in
    omega arith

sequential-fits : (e : List ℕ) → Held sequential e
    → at_fits (get_or e 3 0) (get_or e 4 0) (get_or e 5 0) (get_or e 6 0) (get_or e 7 0) ≡ true
sequential-fits e h =
    sym (sequential-at e 7 (get_or e 7 0) (omega (arith, h.whole)) refl) ∙ keeps-rule sequential e h 7 (omega arith)

pub sequential-held : (e : List ℕ) → Held sequential e → SequentialRight (sequential_of e)
sequential-held e h =
    record {
      h_a = in-range sequential e h 3 (omega arith);
      h_r = in-range sequential e h 4 (omega arith);
      g = in-range sequential e h 5 (omega arith);
      nt = in-range sequential e h 6 (omega arith);
      at_nt = (in-range sequential e h 7 (omega arith)).1;
      accepts =
          λ d. fits-accepts (get_or e 3 0) (get_or e 4 0) (get_or e 5 0) (get_or e 6 0) (get_or e 7 0) d
          (sequential-fits e h);
      rejects =
          λ d. fits-rejects (get_or e 3 0) (get_or e 4 0) (get_or e 5 0) (get_or e 6 0) (get_or e 7 0) d
          (sequential-fits e h);
    }

-- .. and At is no more than between the lines: what agrees with both is held
fits-between : (h_a h_r g nt x : ℕ) → ((d : ℕ) → leb (100000 * d + 100 * h_a) (g * nt) ≡ true → d ≤ x)
    → ((d : ℕ) → leb (g * nt + 100 * h_r) (100000 * d) ≡ true → x < d) → at_fits h_a h_r g nt x ≡ true
unfolding at_fits
fits-between h_a h_r g nt x low high =
    let above : x < (g * nt + 100 * h_r + 99999) / 100000 =
    high ((g * nt + 100 * h_r + 99999) / 100000) (le-leb (g * nt + 100 * h_r) _ (omega arith)) in
    let below : (g * nt - 100 * h_a) / 100000 ≤ x =
    by-le (100 * h_a) (g * nt)
    (λ h. low ((g * nt - 100 * h_a) / 100000) (le-leb _ (g * nt) (omega arith)))
    (λ h. omega arith) in
    rw (le-leb ((g * nt - 100 * h_a) / 100000) x below, lt-ltb x ((g * nt + 100 * h_r + 99999) / 100000) above)

pub sequential-could : (p : SequentialPlan) → SequentialRight p
    → could_hold sequential (0 ∷ 0 ∷ 0 ∷ p.h_a ∷ p.h_r ∷ p.g ∷ p.nt ∷ p.at_nt ∷ []) ≡ true
unfolding could_hold numbers_from right sequential_rule
sequential-could p r =
    rw (
      le-leb 1 p.h_a r.h_a.0,
      le-leb p.h_a 65535 r.h_a.1,
      le-leb 1 p.h_r r.h_r.0,
      le-leb p.h_r 65535 r.h_r.1,
      le-leb 1 p.g r.g.0,
      le-leb p.g 60000 r.g.1,
      le-leb 1 p.nt r.nt.0,
      le-leb p.nt 3150 r.nt.1,
      le-leb 0 p.at_nt (omega arith),
      le-leb p.at_nt 65535 r.at_nt,
      fits-between p.h_a p.h_r p.g p.nt p.at_nt r.accepts r.rejects,
    )

-- At the last item the verdict by At is the one that a line gives.
pub accept-line : (p : SequentialPlan) → SequentialRight p → (d : ℕ) → on_accept_line p p.nt d ≡ true
    → item_decides p p.nt d ≡ accepts
unfolding item_decides
accept-line p r d h = rw (le-ltb p.nt p.nt (omega arith), le-leb d p.at_nt (r.accepts d h))

pub reject-line : (p : SequentialPlan) → SequentialRight p → (d : ℕ) → on_reject_line p p.nt d ≡ true
    → item_decides p p.nt d ≡ rejects
unfolding item_decides
reject-line p r d h = rw (le-ltb p.nt p.nt (omega arith), lt-leb d p.at_nt (r.rejects d h))

-- Where columns go to 15 only, nothing stands under a higher one: sequential, variables and sigma lots there are
-- refused 6.
pub no-higher-column : (book : List ℕ) → check_book book ≡ sound → (j : ℕ) → 2 ≤ j → j < length kinds
    → (severity letter column : ℕ) → 15 < column → look_up j severity letter column (numbers_of book) ≡ nothing
no-higher-column book good j l h severity letter column c = go (look_up j severity letter column (numbers_of book)) refl
  where
    go : (f : Found) → look_up j severity letter column (numbers_of book) ≡ f → f ≡ nothing
    go nothing e = refl
    go (found e) q =
        let k = item-columns j h l in
        let r = in-range (kind_at j) e (found-held book good j h severity letter column e q) 2
        (omega (arith, k.0, entry-deep j h (get_or e (kind_at j).key 0))) in
        let top : get_or e 2 0 ≤ 15 = rw k.1 at r.1 in
        let key : take 3 e ≡ severity ∷ letter ∷ column ∷ [] =
        rw k.0 at (found-under book good j h severity letter column e q) in
        let same : get_or e 2 0 ≡ column = sym (get_or-take 3 e 2 0 (omega arith))
        ∙ ap (λ (x : List ℕ). get_or x 2 0) key in
        let z : ⊥ = omega arith in absurd z
