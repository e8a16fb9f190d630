-- `book::check_sections` meets its contract.
-- Assumes nothing.
use Prim.Native.Nat.{◌-◌, ◌*◌}
use mathlib.Core.Path.{◌≡◌, ap, sym, ◌∙◌}
use mathlib.Core.Bool.{false}
use native.Mathlib.Omega.{arith}
use Rattle.std.proofs.lemmas.Bool.Decides.{nat_tests}
use lib.ListN.{length, take, drop}
use Rattle.std.proofs.lemmas.Result.{err_from_is_err_and}
use Rattle.rules.specs.Numbers.{numbers_of}
use Rattle.rules.proofs.Numbers.{numbers-part}
use Rattle.book.specs.Paper.{is_absent, has_none}
use Rattle.book.proofs.Fifth.{whole-opens, whole-absent, whole-none, whole-on, whole-fault, whole-done}
use Rattle.book.proofs.check_sections.Goals as goal
use Rattle.book.proofs.check_sections.Goals.{After-check_section}

-- the section is there, and a fifth one has entries
module _ (d : After-check_section) where
  there : is_absent d.loop-kind.kind
      (take (length d.args.book.now - 2 * d.loop-kind.at) (drop (2 * d.loop-kind.at) d.args.book.now))
      ≡ false
  there = sym d.is_absent.ensures ∙ d.if-is_absent.false

  some : has_none d.loop-kind.kind (drop d.loop-kind.at (numbers_of d.args.book.now)) ≡ false
  some =
      ap (has_none d.loop-kind.kind) (sym (numbers-part d.args.book.now d.loop-kind.at)) ∙ sym d.has_none.ensures
      ∙ d.if-has_none.false

pub loop-kind-init : goal.loop-kind-init
loop-kind-init c = whole-opens

pub returns-then-is_absent : goal.returns-then-is_absent
returns-then-is_absent c =
    whole-absent c.loop-kind.invariant (omega arith) (sym c.is_absent.ensures ∙ c.if-is_absent.true)

pub returns-then-has_none : goal.returns-then-has_none
returns-then-has_none c =
    whole-none c.loop-kind.invariant (omega arith)
    (ap (has_none c.loop-kind.kind) (sym (numbers-part c.args.book.now c.loop-kind.at)) ∙ sym c.has_none.ensures
    ∙ c.if-has_none.true)

pub loop-kind-preserved : goal.loop-kind-preserved
loop-kind-preserved c =
    let d = (goal.at.loop-kind-preserved c).After-check_section in
    whole-on c.loop-kind.invariant (omega arith) (there d) (some d) c.in_ok-section.ensures (grind (arith, nat_tests))

pub returns-in_err-section : goal.returns-in_err-section
returns-in_err-section c =
    let d = (goal.at.returns-in_err-section c).After-check_section in
    let p = err_from_is_err_and c.from_residual.result c.from_residual.ensures.1 in
    rw (p.1, p.2)
    (whole-fault c.loop-kind.invariant (omega arith) (there d) (some d) c.in_err-section.ensures)

pub returns-after-loop-kind : goal.returns-after-loop-kind
returns-after-loop-kind c = whole-done c.loop-kind.invariant (omega arith)
