-- `severity::Lot::window_after` meets its contract. Assumes nothing.
use Rattle.std.proofs.Common.{ℕ, ◌+◌, ◌*◌, ◌%◌, ◌≡◌, refl, Bool, true, false, not, arith}
use mir.Val.{bool_byte}
use Rattle.rules.specs.Severity.{Lot, accepted, window_after}
use Rattle.severity.proofs.Laws.{window-good, window-bad}
use Rattle.severity.proofs.Lot.window_after.Goals as goal

-- the bit that is added, by whether the lot is accepted
with-bit : (l : Lot) (w b : ℕ) (t : Bool) → t ≡ accepted l → b ≡ bool_byte (not t)
    → 2 * (w % 16) + b ≡ window_after l w
with-bit l w b true a e = omega (arith, e, window-good l w true a refl)
with-bit l w b false a e = omega (arith, e, window-bad l w false a refl)

pub returns : goal.returns
returns c = with-bit _ _ _ _ c.is_accepted.ensures c.from.ensures
