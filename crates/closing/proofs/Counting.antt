-- How a lot on a staged plan counts, by the tests that the code makes.
-- Assumes nothing.
use Prim.Native.Nat.{ℕ, ◌≤◌, ◌<◌}
use mathlib.Core.Path.{◌≡◌, sym, ◌∙◌}
use mathlib.Core.Bool.{Bool, true, false}
use lib.Dec.{leb, eqb}
use native.Mathlib.Omega.{arith}
use borrow.Author.Tests.{le-leb, lt-leb}
use Rattle.rules.specs.Severity.{add_three, score_zero, earns_three, staged_points}
use Rattle.rules.proofs.Bounded.{by-le}
use Rattle.rules.proofs.Points.{two-as-before, more-by-third}

module _ (stage stages : ℕ) where
  -- of three or more stages the first three earn 3 ..
  pub by-third : 3 ≤ stages → 1 ≤ stage → leb stage 3 ≡ earns_three stage stages
  by-third h k = rw (more-by-third stage stages h, le-leb 1 stage k)

  -- .. and what is before them does not
  pub before-all : 3 ≤ stages → stage < 1 → false ≡ earns_three stage stages
  before-all h k = rw (more-by-third stage stages h, lt-leb 1 stage k)

  -- so that of three or more stages one of the first three does ..
  pub within-third : 3 ≤ stages → 1 ≤ stage → stage ≤ 3 → true ≡ earns_three stage stages
  within-third h k m = sym (le-leb stage 3 m) ∙ by-third h k

  -- .. and one outside the first three does not
  pub outside-third : 3 ≤ stages → (1 ≤ stage → 3 < stage) → false ≡ earns_three stage stages
  outside-third h k =
      by-le 1 stage (λ m. sym (lt-leb stage 3 (k m)) ∙ by-third h m) (before-all h)

  -- of fewer than three the first does
  pub of-two : stages < 3 → eqb stage 1 ≡ earns_three stage stages
  of-two h = sym (two-as-before stage stages (omega arith))

  module _ (earns : Bool) (e : earns ≡ earns_three stage stages) where
    -- a stage that earns 3 adds them ..
    pub staged-three : earns ≡ true → add_three ≡ staged_points stage stages
    staged-three t = rw (sym e ∙ t)

    -- .. and any other sets the score to 0
    pub staged-zero : earns ≡ false → score_zero ≡ staged_points stage stages
    staged-zero f = rw (sym e ∙ f)
