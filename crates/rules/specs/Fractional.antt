-- Document 02, T-01, 'Fractional acceptance numbers': which boxes hold a fraction, the plan there, and when a sample on
-- it is accepted. Definitions only.
use Rattle.std.specs.Prelude.{ℕ, suc, ◌+◌, Bool, cond, ◌&&◌, ◌||◌, not, List, [], ◌∷◌, leb, eqb, get_or}
use Rattle.rules.specs.Refusals.{Answer, given, and_then}
use Rattle.rules.specs.Codes.{letter_r, counts_items}
use Rattle.rules.specs.Verdict.{Verdict}
use Rattle.rules.specs.Single.{Plan, landed, plan_at, judge_items}

-- A share says which part of one nonconforming item is allowed: 2 is one half, 3 one third; 0 is no fraction.
abbrev pub half : ℕ
half = 2

abbrev pub third : ℕ
third = 3

-- A fraction of a master table: its s, and the share there.
pub record Fraction : Type 0 where
  pub s : ℕ
  pub share : ℕ

infix 25 ◌holds◌
abbrev pub ◌holds◌ : ℕ → ℕ → Fraction
s holds share = record { s = s; share = share }

-- "normal s 15 is 1/3 and s 16 is 1/2; tightened s 16 is 1/3 and s 17 is 1/2": by severity, beside the master tables
abbrev pub fractions : List (List Fraction)
fractions = ((15 holds third) ∷ (16 holds half) ∷ []) ∷ ((16 holds third) ∷ (17 holds half) ∷ []) ∷ []

unfoldable pub share_in : List Fraction → ℕ → ℕ
share_in [] s = 0
share_in (f ∷ fs) s = cond (eqb s f.s) f.share (share_in fs s)

-- the share of a box, "s be letter plus column"; reduced and stopped have none
unfoldable pub share_at : ℕ → ℕ → ℕ → ℕ
share_at severity column letter = share_in (get_or fractions severity []) (letter + column)

-- A fractional plan stands in a fractional box, at a letter that Table 1 gives; "Columns over 15 have no fractional
-- plan."
unfoldable pub has_fractional_plan : ℕ → ℕ → ℕ → Bool
has_fractional_plan severity column letter =
    leb letter letter_r && (counts_items column && not (eqb (share_at severity column letter) 0))

-- A single plan in this mode: the plan, whose Ac is 0 where the share is not.
pub record FractionalPlan : Type 0 where
  pub plan : Plan
  pub share : ℕ

abbrev pub plan_of_share : Plan → ℕ → FractionalPlan
plan_of_share plan share = record { plan = plan; share = share }

-- "at their own letter, size and column, with no arrow"; the size is cut to the lot as ever
abbrev pub own_plan : ℕ → ℕ → Plan
own_plan size letter = plan_at size (landed letter 0)

-- "A clean sample accepts. One nonconforming item accepts under 1/2 if the previous lot's sample was clean, under 1/3
-- if the previous two were .. Two or more never accept.": by how many samples just before were clean
abbrev pub fraction_accepts : ℕ → ℕ → ℕ → Bool
fraction_accepts share before total = eqb total 0 || (eqb total 1 && leb share (suc before))

abbrev pub fraction_verdict : ℕ → ℕ → Verdict → Verdict
fraction_verdict share before v =
    record {
      accepted = fraction_accepts share before v.total;
      used = v.used;
      total = v.total;
      stage = v.stage;
      stages = v.stages;
    }

-- where the plan is no fraction, as ever
abbrev pub verdict_by_share : ℕ → ℕ → Verdict → Verdict
verdict_by_share share before v = cond (eqb share 0) v (fraction_verdict share before v)

-- 7 and 8 as on any single plan
unfoldable pub judge_by_share : ℕ → ℕ → FractionalPlan → List ℕ → Answer Verdict
judge_by_share before column p bytes =
    and_then (judge_items column p.plan bytes) (λ v. given (verdict_by_share p.share before v))
