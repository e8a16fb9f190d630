-- `entry::keeping::ac_keeps` meets its contract.
-- Assumes nothing.
use Prim.Native.Nat.{ℕ}
use mathlib.Core.Path.{◌≡◌, refl}
use mathlib.Core.Bool.{Bool, cond, ◌&&◌, ◌||◌, not}
use borrow.Author.Tests.{eq-eqb, ne_eqb}
use lib.Dec.{eqb, leb}
use Rattle.std.specs.Prelude.{Option, Some, None, is_none, unwrap_or}
use Rattle.rules.specs.Book.{ac_keeps}
use Rattle.entry.proofs.keeping.ac_keeps.Goals as goal

-- no stage before is as one with a mark
kept : (before : Option ℕ) (last : Bool) (ac : ℕ) → let b = unwrap_or before 65535 in
    cond (eqb ac 65535) (not last && eqb b 65535) (eqb b 65535 || leb b ac)
    ≡ ac_keeps (is_none before) last (unwrap_or before 0) ac
unfolding ac_keeps
kept None last ac = refl
kept (Some b) last ac = refl

pub returns-then-ac-eq-MARK : goal.returns-then-ac-eq-MARK
returns-then-ac-eq-MARK c =
    let a = c.args in
    rw c.unwrap_or-before.ensures (rw (eq-eqb a.ac 65535 c.if-ac-eq-MARK.true) at (kept a.before a.last a.ac))

pub returns-else-ac-eq-MARK : goal.returns-else-ac-eq-MARK
returns-else-ac-eq-MARK c =
    let a = c.args in
    rw c.unwrap_or-before.ensures (rw (ne_eqb a.ac 65535 c.if-ac-eq-MARK.false) at (kept a.before a.last a.ac))
