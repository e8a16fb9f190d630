-- `sentencing::fractional::by_share` meets its contract.
-- Assumes nothing.
use mathlib.Core.Path.{refl}
use Rattle.std.specs.Prelude.{Ok}
use Rattle.rules.proofs.Answers.{given-one}
use Rattle.sentencing.proofs.Sharing.{shared-whole, shared-given}
use Rattle.sentencing.proofs.fractional.by_share.Goals as goal

pub returns-then-share-eq0 : goal.returns-then-share-eq0
returns-then-share-eq0 c =
    let a = c.args in
    given-one (shared-whole a.share a.before (Ok a.verdict) c.if-share-eq0.true)

pub returns : goal.returns
returns c =
    let a = c.args in
    given-one
    (shared-given a.share a.before (Ok a.verdict) a.verdict c.fraction_accepts.result c.if-share-eq0.false refl
    c.fraction_accepts.ensures)
