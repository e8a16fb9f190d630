-- Only ten bytes hold a record in range.
-- Assumes nothing.
use Prim.Native.Nat.{ℕ}
use mathlib.Core.Path.{◌≡◌, refl, sym, ◌∙◌}
use mathlib.Core.Bool.{Bool, true, false, false≢true}
use mathlib.Core.List.{List}
use lib.ListN.{length}
use lib.Dec.{eqb}
use borrow.Author.Tests.{eqb-true}
use Rattle.rules.specs.Supply.{supply_in_range}
use Rattle.rules.specs.Terminal.{record_bytes, has_form, supply_in}
use Rattle.rules.proofs.Bools.{and-left}
use Rattle.rules.proofs.Terminal.{form-missing}

module _ (bytes : List ℕ) where
  -- only ten bytes hold a record in range
  pub in-range-length : supply_in_range (supply_in bytes) ≡ true → length bytes ≡ record_bytes
  unfolding has_form
  in-range-length h = go (has_form bytes) refl
    where
      go : (t : Bool) → has_form bytes ≡ t → length bytes ≡ record_bytes
      go true f = eqb-true (length bytes) 10 (and-left (eqb (length bytes) 10) _ f)
      go false f = absurd (false≢true (sym (form-missing bytes f) ∙ h))
