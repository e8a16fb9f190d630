-- `entry::key_falls` meets its contract.
-- Assumes nothing.
use mathlib.Core.Path.{sym, ap, ◌∙◌}
use mathlib.Core.Bool.{not}
use native.Mathlib.Omega.{arith}
use borrow.Author.Tests.{lt-leb}
use Rattle.rules.proofs.Steps.{falls-none, falls-is}
use Rattle.entry.proofs.key_falls.Goals as goal

pub returns-then-key_len-count : goal.returns-then-key_len-count
returns-then-key_len-count c = ap not c.rises_after.ensures ∙ sym (falls-is _ _ _ (omega arith))

pub returns-else-key_len-count : goal.returns-else-key_len-count
returns-else-key_len-count c =
    lt-leb c.key_len.result c.count.result (omega arith) ∙ sym (falls-none _ _ _ (omega arith))
