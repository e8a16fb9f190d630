-- The promise of a line's form admits one result, and it holds for any work that knows resubmitted lots or does not.
-- Assumes nothing.
use mathlib.Core.Path.{◌≡◌, refl}
use mathlib.Core.Bool.{true, false, cond}
use mathlib.Core.List.{List}
use lib.Dec.{eqb}
use Prim.Native.Nat.{ℕ}
use Rattle.rules.specs.History.{Work}
use Rattle.rules.specs.Log as log
use Rattle.rules.specs.Log.{lot_line, order_line, unknown_line, line_of, split_at, space}
use Rattle.rules.proofs.Answers.{read-back}
use Rattle.lotforms.specs.declared.Line.{Line}
use Rattle.lotforms.specs.declared.Line.TheVariants as line
use Rattle.lotforms.specs.declared.Order.{Order}
use Rattle.lotforms.specs.declared.Order.TheVariants.{Steady, Permission, Corrective}
use Rattle.std.proofs.Common.{Option, Some, None}
use Rattle.lotforms.specs.Reading.{line_paper, form_of}

order_back : ℕ → Order
order_back byte =
    cond (eqb byte 5) (Steady true)
    (cond (eqb byte 6) (Steady false)
    (cond (eqb byte 7) (Permission true) (cond (eqb byte 8) (Permission false) Corrective)))

line_back : log.Line → Option Line
line_back (lot_line o total) = Some (line.Lot o.again o.size o.level o.column total)
line_back (order_line byte) = Some (line.Order (order_back byte))
line_back unknown_line = None

pub line-one : (a b : Option Line) → line_paper a ≡ line_paper b → a ≡ b
unfolding line_back order_back
line-one = read-back line_paper line_back back
  where
    back : (a : Option Line) → line_back (line_paper a) ≡ a
    back (Some (line.Lot again size level column total)) = refl
    back (Some (line.Order (Steady true))) = refl
    back (Some (line.Order (Steady false))) = refl
    back (Some (line.Order (Permission true))) = refl
    back (Some (line.Order (Permission false))) = refl
    back (Some (line.Order Corrective)) = refl
    back None = refl

pub form-any : (w : Work) (line : List ℕ) → form_of w.resubmission line ≡ line_of w (split_at space line)
unfolding line_of
form-any w line = refl
