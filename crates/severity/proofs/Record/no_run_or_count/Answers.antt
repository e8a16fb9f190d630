-- `severity::Record::no_run_or_count` meets its contract. Assumes nothing.
use Rattle.std.proofs.Common.{◌∙◌}
use borrow.Author.Tests.{ne_eqb}
use Rattle.severity.proofs.Laws.{zero-first, zero-not}
use Rattle.severity.proofs.Record.no_run_or_count.Goals as goal

pub returns-then-self-eq0 : goal.returns-then-self-eq0
returns-then-self-eq0 c = zero-first _ _ c.if-self-eq0.true

pub returns-else-self-eq0 : goal.returns-else-self-eq0
returns-else-self-eq0 c = ne_eqb _ _ c.if-self-eq0.false ∙ zero-not _ _ c.if-self-eq0.false
