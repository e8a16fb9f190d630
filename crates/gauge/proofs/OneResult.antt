-- Document 01's answer tells the code's, so the promise `reason_by shown_paper r ≡ ..` admits a single r. (That of a
-- verdict does by plans' law.)
-- Assumes nothing.
use Rattle.std.proofs.Common.{Option, Some, None, Result}
use Rattle.std.specs.Float.Ieee.{Float}
use mathlib.Core.Path.{◌≡◌, refl}
use Rattle.rules.specs.Screen as screens
use Rattle.refusals.specs.declared.Reason.{Reason}
use Rattle.refusals.specs.Paper.{reason_by}
use Rattle.refusals.proofs.OneResult.{reason-one}
use Rattle.gauge.specs.declared.Shown.{Shown}
use Rattle.gauge.specs.Paper.{shown_as, shown_paper}

display : screens.Shown → Shown
display (screens.Shown.mean m) = record { mean = m; variance = None }
display (screens.Shown.mean_and_variance m v) = record { mean = m; variance = Some v }

display-as : (m : Float) (v : Option Float) → display (shown_as m v) ≡ record { mean = m; variance = v }
unfolding display
display-as m None = refl
display-as m (Some v) = refl

pub shown-one : (a b : Result Shown Reason) → reason_by shown_paper a ≡ reason_by shown_paper b → a ≡ b
shown-one = reason-one shown_paper display (λ a. display-as a.mean a.variance)
