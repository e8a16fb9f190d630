-- `gauge::Margin::of` meets its contract.
-- Assumes nothing.
use mathlib.Core.Path.{◌≡◌, refl, sym, ◌∙◌}
use native.Mathlib.Omega.{arith}
use lib.IntN.{pos, ◌-ℤ◌}
use mir.Syntax.{w32}
use mir.Val.{SFits}
use mir.ValLaws.{to_z-of_z}
use Rattle.gauge.specs.Paper.{value_of}
use Rattle.gauge.proofs.FromSums.{upper-margin, lower-margin, upper-side, lower-side}
use Rattle.gauge.proofs.Margin.of.Goals as goal
use Rattle.gauge.proofs.Margin.of.Goals.{After-raised, in-Upper, in-Lower}

-- the limit, from what it is raised to
limited : (c : After-raised) → value_of c.args.limit ≡ pos c.raised.result -ℤ pos 1000
limited c =
    let f : SFits w32 c.value.result = omega (arith, c.value.type_inv) in
    sym c.value.ensures ∙ sym (to_z-of_z w32 c.value.result f) ∙ c.raised.ensures.0

pub returns-clause-measured : goal.returns-clause-measured
returns-clause-measured c =
    let s = c.args.sums in
    let e = limited (goal.at.returns-clause-measured c).After-raised in
    elim c.match-limit.branch [
      | in-Upper w ↦
          rw (w.result-is, w.in-Upper.is) (refl, upper-margin s.n s.t c.raised.result _ (rw w.in-Upper.is at e))
      | in-Lower w ↦
          rw (w.result-is, w.in-Lower.is) (refl, lower-margin s.n s.t c.raised.result _ (rw w.in-Lower.is at e))
    ]

pub returns-clause-side : goal.returns-clause-side
returns-clause-side c =
    let s = c.args.sums in
    let e = limited (goal.at.returns-clause-side c).After-raised in
    elim c.match-limit.branch [
      | in-Upper w ↦
          rw (w.result-is, w.in-Upper.is)
          (λ m. upper-side m s.n _ s.t s.q c.raised.result _ (rw w.in-Upper.is at e))
      | in-Lower w ↦
          rw (w.result-is, w.in-Lower.is)
          (λ m. lower-side m s.n _ s.t s.q c.raised.result _ (rw w.in-Lower.is at e))
    ]
