-- A worked case: what the definitions give, and what is said of it. A list of them is one claim.
-- Assumes nothing.
use mathlib.Core.Path.{◌≡◌}
use mathlib.Core.List.{List, map}

pub record Case (A : Type 0) : Type 0 where
  pub computed : A
  pub said : A

infix 20 ◌is◌
abbrev pub ◌is◌ : {A : Type 0} → A → A → Case A
x is y = record { computed = x; said = y }

abbrev pub AllAsSaid : {A : Type 0} → List (Case A) → Type 0
AllAsSaid cases = map (λ c. c.computed) cases ≡ map (λ c. c.said) cases
