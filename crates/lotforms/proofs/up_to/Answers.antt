-- `lotforms::up_to` meets its contract. Assumes nothing.
use mathlib.Core.Path.{ap, ◌∙◌}
use borrow.Author.Rules.{rules}
use borrow.Author.Tests.{tests}
use lib.ListN.{take}
use Rattle.std.proofs.Common.{nat_eq}
use Rattle.std.proofs.lemmas.Iterator.{YieldsList-from_slice}
use Rattle.std.proofs.lemmas.Iterator.Search.{position_from_yields_List}
use Rattle.lotforms.proofs.Reading.{up-to-found}
use Rattle.lotforms.proofs.up_to.Goals as goal

pub returns : goal.returns
returns c =
    ap (λ n. take n c.args.bytes.now) c.unwrap_or-end.ensures
    ∙ up-to-found _ _ _
    (position_from_yields_List (λ b. nat_eq b c.args.separator) _ _ _ c.position.ensures.ran
    (YieldsList-from_slice c.args.bytes.now c.iter.ensures.rest) (λ x b q k. search (rules, tests)))
