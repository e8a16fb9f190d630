-- `entry::keeping::re_keeps` meets its contract.
-- Assumes nothing.
use Prim.Native.Nat.{ℕ, ◌+◌, ◌<◌}
use mathlib.Core.Path.{◌≡◌, refl}
use mathlib.Core.Bool.{Bool, cond, ◌&&◌, ◌||◌, not}
use native.Mathlib.Omega.{arith}
use borrow.Author.Tests.{le-leb}
use lib.Dec.{eqb, leb, ltb}
use Rattle.std.proofs.lemmas.Bool.Decides.{nat_tests}
use Rattle.std.specs.Prelude.{Option, Some, None, is_none, unwrap_or}
use Rattle.rules.specs.Book.{re_keeps}
use Rattle.entry.proofs.keeping.re_keeps.Goals as goal

no-mark : (re : ℕ) → re < 65536 → not (eqb re 65535) ≡ leb re 65534
no-mark re h = grind (arith, nat_tests)

-- no stage before is as one with 0
kept : (before : Option ℕ) (last : Bool) (ac re : ℕ)
    → leb re 65534 && (leb (unwrap_or before 0) re && (eqb ac 65535 || cond last (eqb re (ac + 1)) (ltb ac re)))
    ≡ re_keeps (is_none before) last (unwrap_or before 0) ac re
unfolding re_keeps
kept None last ac re = rw (le-leb 0 re (omega arith))
kept (Some b) last ac re = refl

pub returns : goal.returns
returns c =
    let a = c.args in
    rw (c.unwrap_or.ensures, c.re_over.ensures, no-mark a.re (omega arith)) (kept a.before a.last a.ac a.re)
