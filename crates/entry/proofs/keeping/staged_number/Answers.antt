-- `entry::keeping::staged_number` meets its contract.
-- Assumes nothing.
use Prim.Native.Nat.{ℕ}
use mathlib.Core.Path.{◌≡◌, refl}
use mathlib.Core.Bool.{Bool, true, false, not}
use borrow.Author.Tests.{lt-ltb, le-ltb, eq-eqb, ne_eqb}
use Rattle.std.specs.Prelude.{Option, is_none, unwrap_or}
use Rattle.std.specs.Bool.{then_some}
use Rattle.rules.specs.Book.{staged_number, ac_keeps, re_keeps}
use Rattle.rules.proofs.HeldStaged.{ac-first, re-first}
use Rattle.entry.proofs.keeping.staged_number.Goals as goal

-- the number of the stage before, if there is one
module _ (first last : Bool) (two x : ℕ) where
  abbrev before : Option ℕ
  before = then_some (not first) two

  ac-before : ac_keeps (is_none before) last (unwrap_or before 0) x ≡ ac_keeps first last two x
  ac-before = go first
    where
      go : (t : Bool) → let b = then_some (not t) two in
          ac_keeps (is_none b) last (unwrap_or b 0) x ≡ ac_keeps t last two x
      go true = ac-first last 0 two x
      go false = refl

  re-before : (y : ℕ) → re_keeps (is_none before) last (unwrap_or before 0) x y ≡ re_keeps first last two x y
  re-before y = go first
    where
      go : (t : Bool) → let b = then_some (not t) two in
          re_keeps (is_none b) last (unwrap_or b 0) x y ≡ re_keeps t last two x y
      go true = re-first last 0 two x y
      go false = refl

pub returns-then-i-start : goal.returns-then-i-start
unfolding staged_number
returns-then-i-start c = rw (lt-ltb _ _ c.if-i-start.true) c.size_keeps.ensures

pub returns-then-j-eq0 : goal.returns-then-j-eq0
unfolding staged_number
returns-then-j-eq0 c =
    let kept = rw (c.then_some-before.ensures, ac-before) at c.ac_keeps.ensures in
    rw (le-ltb _ _ c.if-i-start.false, eq-eqb _ 0 c.if-j-eq0.true) kept

pub returns : goal.returns
unfolding staged_number
returns c =
    let kept = rw (c.then_some-before.ensures, re-before) at c.re_keeps.ensures in
    rw (le-ltb _ _ c.if-i-start.false, ne_eqb _ 0 c.if-j-eq0.false) kept
