-- A text that was put behind what waits waits too.
-- Assumes nothing.
use Prim.Native.Nat.{ℕ, ◌+◌, ◌≤◌}
use native.Mathlib.Omega.{arith}
use mathlib.Core.Path.{◌≡◌, ap, ◌∙◌}
use mathlib.Core.List.{List, ◌++◌}
use lib.ListN.{length, take, drop, length-append}
use lib.Seq.{length-take-le, take_at}
use Rattle.lotstream.specs.Turns.{PutAfter}

pub put-line : {waiting r : ℕ} {text out last : List ℕ} → waiting + length text ≤ length out
    → PutAfter waiting text out last r
    → (take r last ≡ take waiting out ++ text) × (r ≤ length out)
put-line {waiting} {r} {text} {out} {last} fits after = (
  ap (take r) after.stored
      ∙ take_at (take waiting out ++ text) (drop (waiting + length text) out) r (long ∙ omega (arith, after.next)),
  omega (arith, after.next, fits),
)
  where
    long : length (take waiting out ++ text) ≡ waiting + length text
    long =
        length-append (take waiting out) text
        ∙ ap (λ (k : ℕ). k + length text) (length-take-le waiting out (omega (arith, fits)))
