-- `plans::Place::in_fractions` meets its contract: each return is the mode's box by the tests before it.
-- Assumes nothing.
use native.Mathlib.Omega.{arith}
use mathlib.Core.Path.{refl}
use Rattle.plans.specs.Paper.{asked_paper}
use Rattle.plans.proofs.Shares.{mode-whole, mode-none, mode-own}
use Rattle.plans.proofs.Place.in_fractions.Goals as goal

pub returns-then-share-eq-NO_SHARE : goal.returns-then-share-eq-NO_SHARE
returns-then-share-eq-NO_SHARE c =
    let a = c.args in
    let at = c.requires in
    rw (at.severity-same, at.column-same)
    (mode-whole (asked_paper a.lot) a.self.letter _ at.by-letter c.share_at-share.ensures _
    c.if-share-eq-NO_SHARE.true (rw (at.severity-same, at.column-same) at c.plan-plan.ensures))

pub returns-then-lot-gt-LAST_OF_ITEMS : goal.returns-then-lot-gt-LAST_OF_ITEMS
returns-then-lot-gt-LAST_OF_ITEMS c =
    let a = c.args in
    let at = c.requires in
    rw (at.severity-same, at.column-same)
    (mode-none (asked_paper a.lot) a.self.letter _ at.by-letter c.share_at-share.ensures _
    c.if-share-eq-NO_SHARE.false (omega (arith, c.if-lot-gt-LAST_OF_ITEMS.true)) refl)

pub returns : goal.returns
returns c =
    let a = c.args in
    let at = c.requires in
    rw (at.severity-same, at.column-same)
    (mode-own (asked_paper a.lot) a.self.letter _ at.by-letter c.share_at-share.ensures _
    c.if-share-eq-NO_SHARE.false (omega (arith, c.if-lot-gt-LAST_OF_ITEMS.false)) c.own_plan-plan.ensures)
