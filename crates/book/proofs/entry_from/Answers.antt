-- `book::entry_from` meets its contract.
-- Assumes nothing.
use Rattle.book.proofs.Laid.{entries-open, entries-next}
use Rattle.book.proofs.entry_from.Goals as goal

pub loop-i-preserved : goal.loop-i-preserved
loop-i-preserved c =
    let size = c.entry_size-place.ensures in
    entries-next c.loop-i.invariant c.key_len-key.ensures.0 c.number.ensures size.0 size.1

pub loop-i-init : goal.loop-i-init
loop-i-init c = entries-open
