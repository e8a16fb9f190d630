-- `gauge::Drawing::accepts` meets its contract: each side is judged by its margin.
-- Assumes nothing.
use mathlib.Core.Path.{refl, sym, ◌∙◌}
use native.Mathlib.Omega.{arith}
use mir.Syntax.{w32}
use mir.ValLaws.{to_z-of_z}
use Rattle.entry.specs.Paper.{sides_paper}
use Rattle.gauge.proofs.FromSums.{side-judged}
use Rattle.gauge.proofs.Drawing.accepts.Goals as goal

pub returns-in-One : goal.returns-in-One
returns-in-One c =
    let m = c.of.ensures in
    rw c.in-One.is
    (side-judged _ _ (sides_paper c.args.plan) _ _ refl c.requires.drawn m.measured.0 m.side c.passes.ensures)

pub returns-then-passes : goal.returns-then-passes
returns-then-passes c =
    let p = sides_paper c.args.plan in
    let u = c.of-in-Both.ensures in
    let l = c.of-then-passes.ensures in
    let f = to_z-of_z w32 c.in-Both.upper (omega arith) in
    let g = to_z-of_z w32 c.in-Both.lower (omega arith) in
    let upper = side-judged _ _ p _ _ f c.requires.drawn u.measured.0 u.side c.passes-in-Both.ensures in
    rw (c.in-Both.is, sym upper ∙ c.if-passes.true)
    (side-judged _ _ p _ _ g c.requires.drawn l.measured.0 l.side c.passes-then-passes.ensures)

pub returns-else-passes : goal.returns-else-passes
returns-else-passes c =
    let u = c.of-in-Both.ensures in
    let f = to_z-of_z w32 c.in-Both.upper (omega arith) in
    let upper =
    side-judged _ _ (sides_paper c.args.plan) _ _ f c.requires.drawn u.measured.0 u.side c.passes-in-Both.ensures in
    rw (c.in-Both.is, sym upper ∙ c.if-passes.false) c.if-passes.false
