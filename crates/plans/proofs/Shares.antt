-- The mode of fractions by the tests that the code makes: the share of a box, and the plan there.
-- Assumes nothing.
use Prim.Native.Nat.{ℕ, ◌+◌, ◌≤◌, ◌<◌}
use mathlib.Core.Path.{◌≡◌, sym, ap, ◌∙◌}
use native.Mathlib.Omega.{arith}
use borrow.Author.Tests.{le-leb, lt-leb, ne_eqb}
use Rattle.rules.specs.Refusals.{Answer, refused, given}
use Rattle.rules.specs.Codes.{letter_of}
use Rattle.rules.specs.Single.{Plan, landing_of, plan_at}
use Rattle.rules.specs.Fractional.{FractionalPlan, plan_of_share, own_plan, share_in, share_at}
use Rattle.rules.specs.Entries.{Asked, in_fractions}
use Rattle.rules.proofs.Fractions.{none-from-reduced}

-- the share of a box, by severity and s
module _ (v column letter : ℕ) where
  abbrev Share : ℕ → Type 0
  Share x = x ≡ share_at v column letter

  -- normal, s 15 is one third ..
  pub third-normal : v ≡ 0 → letter + column ≡ 15 → Share 3
  unfolding share_at share_in
  third-normal e q = rw (e, q)

  -- .. s 16 one half ..
  pub half-normal : v ≡ 0 → letter + column ≡ 16 → Share 2
  unfolding share_at share_in
  half-normal e q = rw (e, q)

  -- .. and any other no fraction
  pub none-normal : v ≡ 0 → (letter + column ≡ 15 → ⊥) → (letter + column ≡ 16 → ⊥) → Share 0
  unfolding share_at share_in
  none-normal e a b = rw (e, ne_eqb (letter + column) 15 a, ne_eqb (letter + column) 16 b)

  -- tightened, s 16 is one third ..
  pub third-tightened : v ≡ 1 → letter + column ≡ 16 → Share 3
  unfolding share_at share_in
  third-tightened e q = rw (e, q)

  -- .. s 17 one half ..
  pub half-tightened : v ≡ 1 → letter + column ≡ 17 → Share 2
  unfolding share_at share_in
  half-tightened e q = rw (e, q)

  -- .. and any other no fraction
  pub none-tightened : v ≡ 1 → (letter + column ≡ 16 → ⊥) → (letter + column ≡ 17 → ⊥) → Share 0
  unfolding share_at share_in
  none-tightened e a b = rw (e, ne_eqb (letter + column) 16 a, ne_eqb (letter + column) 17 b)

  -- no other severity has fractions
  pub none-else : (v ≡ 0 → ⊥) → (v ≡ 1 → ⊥) → Share 0
  none-else a b = sym (none-from-reduced v column letter (omega arith))

-- `plans::share_at` is proved by these, one for each of its tests
pub ruleset shares =
    (third-normal, half-normal, none-normal, third-tightened, half-tightened, none-tightened, none-else)

-- the box at the lot's own letter
module _ (q : Asked) (letter share : ℕ) (l : letter ≡ letter_of q.size q.level)
    (e : share ≡ share_at q.severity q.column letter) where
  abbrev InMode : Answer FractionalPlan
  InMode = in_fractions q (plan_at q.size (landing_of q.severity q.column letter))

  own : share_at q.severity q.column (letter_of q.size q.level) ≡ share
  own = ap (share_at q.severity q.column) (sym l) ∙ sym e

  -- a box with no fraction has the plan where the letter lands
  pub mode-whole : (p : Plan) → share ≡ 0 → p ≡ plan_at q.size (landing_of q.severity q.column letter)
      → given (plan_of_share p share) ≡ InMode
  mode-whole p z h = rw (own, z, h)

  -- one with a fraction has no plan in a column over 15 ..
  pub mode-none : (x : Answer FractionalPlan) → (share ≡ 0 → ⊥) → 15 < q.column → x ≡ refused 6 0 → x ≡ InMode
  mode-none x some c h = rw (own, ne_eqb share 0 some, lt-leb q.column 15 c) h

  -- .. and its own plan up to there
  pub mode-own : (p : Plan) → (share ≡ 0 → ⊥) → q.column ≤ 15 → p ≡ own_plan q.size letter
      → given (plan_of_share p share) ≡ InMode
  mode-own p some c h = rw (own, ne_eqb share 0 some, le-leb q.column 15 c, h, l)
