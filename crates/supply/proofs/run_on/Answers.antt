-- `supply::run_on` meets its contract. Assumes nothing.
use Rattle.std.proofs.Common.{sym, ◌∙◌}
use Rattle.supply.proofs.Laws.{other-letter, other-column, same-plan}
use Rattle.supply.proofs.run_on.Goals as goal
use Rattle.supply.proofs.run_on.Goals.{else-clean-letter-via-then-clean-letter+else-from-column}
use Rattle.supply.proofs.run_on.Goals.{else-clean-letter-via-else-clean-letter}

pub returns-then-from-column : goal.returns-then-from-column
returns-then-from-column c =
    same-plan _ _ _ _ _ c.if-clean-letter.true (sym c.from.ensures ∙ c.if-from-column.true)

pub returns-else-clean-letter : goal.returns-else-clean-letter
returns-else-clean-letter c =
    let h = c.args.clean in
    elim c.else-clean-letter.branch [
      | else-clean-letter-via-then-clean-letter+else-from-column w ↦
          other-column h.run h.letter h.column _ _ w.if-clean-letter.true
          (λ e. w.if-from-column.false (w.from.ensures ∙ e))
      | else-clean-letter-via-else-clean-letter w ↦ other-letter h.run h.letter h.column _ _ w.if-clean-letter.false
    ]
