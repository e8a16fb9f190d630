-- `supply::Supply::lot_on` meets its contract. Assumes nothing.
use Rattle.std.proofs.Common.{ℕ, ◌≡◌, refl, rules}
use Rattle.rules.specs.Severity.{Lot}
use Rattle.rules.specs.Supply.{CleanRun, lot_on}
use Rattle.severity.specs.declared.Origin.{Origin}
use Rattle.severity.specs.declared.Origin.TheVariants.{Typed, Sampled, Fraction}
use Rattle.severity.specs.Paper.{origin_paper}
use Rattle.supply.proofs.Laws.{on-fraction, off-fraction, plain-typed, plain-sampled}
use Rattle.supply.proofs.Supply.lot_on.Goals as goal

-- an origin on no fraction counts as it was handed over
plain : (v : ℕ) (c : CleanRun) (o : Origin) (l : Lot)
    → ((letter column total : ℕ) → o ≡ Fraction letter column total → ⊥) → l ≡ lot_on v c (origin_paper o) l
plain v c Typed l n = plain-typed v c Typed refl l
plain v c Sampled l n = plain-sampled v c Sampled refl l
plain v c (Fraction letter column total) l n = absurd (n letter column total refl)

pub returns-in-Fraction : goal.returns-in-Fraction
returns-in-Fraction c =
    on-fraction _ _ _ _ _ _ c.in-Fraction.is _ c.has_fraction.ensures _ _ c.if-has_fraction.true c.fraction_lot.ensures

pub returns-in_default : goal.returns-in_default
returns-in_default c =
    off-fraction _ _ _ _ _ _ c.in-Fraction.is _ c.has_fraction.ensures _ c.if-has_fraction.false

pub returns-in_default-2 : goal.returns-in_default-2
returns-in_default-2 c = plain _ _ _ _ (λ letter column total e. search rules)
