-- `lotlines::feed` meets its contract. Assumes nothing.
use Rattle.lotlines.proofs.Feeding.{feed-goes-on, feed-ends-with}
use Rattle.lotlines.proofs.feed.Goals as goal

pub returns-then-taken-piece : goal.returns-then-taken-piece
returns-then-taken-piece c =
    feed-goes-on _ _ _ _ c.up_to-bytes.ensures _ c.grow.ensures c.if-taken-piece.true _ c.new.ensures

pub returns : goal.returns
returns c =
    feed-ends-with _ _ _ _ c.up_to-bytes.ensures c.if-taken-piece.false _ _ _ c.end_with-logged.ensures
    c.saturating_add.ensures c.new-2.ensures
