-- `supply::Supply::clean_from` meets its contract. Assumes nothing.
use Rattle.std.proofs.Common.{ℕ, zero, suc, ◌≡◌, refl, sym, ◌∙◌, rules, arith}
use Rattle.rules.specs.Supply.{CleanRun, no_run, clean_from}
use Rattle.severity.specs.declared.Origin.{Origin}
use Rattle.severity.specs.declared.Origin.TheVariants.{Typed, Sampled, Fraction}
use Rattle.severity.specs.Paper.{origin_paper}
use Rattle.supply.proofs.Laws.{no-run-made, not-clean, clean-longer, typed-ends, sampled-ends, clean-off}
use Rattle.supply.proofs.Supply.clean_from.Goals as goal
use Rattle.supply.proofs.Supply.clean_from.Goals.{in_default-via-in-Fraction-default-default-eq0+else-has_fraction}
use Rattle.supply.proofs.Supply.clean_from.Goals.{in_default-via-in-Fraction+in_default, in_default-via-in_default}

-- an origin other than a clean sample on a fraction ends the run
ends : (v : ℕ) (c x : CleanRun) (o : Origin) → x ≡ no_run
    → ((letter column : ℕ) → o ≡ Fraction letter column 0 → ⊥) → x ≡ clean_from v c (origin_paper o)
ends v c x Typed q n = typed-ends v c Typed refl x q
ends v c x Sampled q n = sampled-ends v c Sampled refl x q
ends v c x (Fraction letter column zero) q n = absurd (n letter column refl)
ends v c x (Fraction letter column (suc total)) q n =
    not-clean v c _ letter column (suc total) refl x (λ z. omega arith) q

pub returns-in-Fraction-default-default-eq0 : goal.returns-in-Fraction-default-default-eq0
returns-in-Fraction-default-default-eq0 c =
    let i = c.in-Fraction-default-default-eq0 in
    let z = sym i.field-2-is ∙ i.field-2-test in
    clean-longer _ _ _ _ _ _ i.is _ c.has_fraction.ensures _ z c.if-has_fraction.true c.longer.ensures

pub returns-in_default : goal.returns-in_default
returns-in_default c =
    let q = no-run-made _ _ _ c.default.ensures in
    elim c.in_default.branch [
      | in_default-via-in-Fraction-default-default-eq0+else-has_fraction w ↦
          let i = w.in-Fraction-default-default-eq0.is in
          clean-off _ _ _ _ _ _ i _ w.has_fraction.ensures _ w.if-has_fraction.false q
      | in_default-via-in-Fraction+in_default w ↦ ends _ _ _ _ q (λ letter column e. search rules)
      | in_default-via-in_default w ↦ ends _ _ _ _ q (λ letter column e. search rules)
    ]
