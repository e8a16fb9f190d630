-- `severity::Record::settle` meets its contract. Assumes nothing.
use Rattle.std.proofs.Common.{refl}
use Rattle.severity.proofs.Laws.{due-low, due-steady, due-unsteady, settle-due, settle-not}
use Rattle.severity.proofs.Record.settle.Goals as goal
use Rattle.severity.proofs.Record.settle.Goals.{else-score-ge30-via-then-score-ge30+then-self+else-self-2}
use Rattle.severity.proofs.Record.settle.Goals.{else-score-ge30-via-then-score-ge30+else-self}
use Rattle.severity.proofs.Record.settle.Goals.{else-score-ge30-via-else-score-ge30}

pub returns-then-self-2 : goal.returns-then-self-2
returns-then-self-2 c =
    let d = due-steady _ _ _ c.if-score-ge30.true c.if-self.true in
    settle-due _ _ _ _ _ _ d c.if-self-2.true c.started.ensures

pub returns-else-score-ge30 : goal.returns-else-score-ge30
returns-else-score-ge30 c =
    elim c.else-score-ge30.branch [
      | else-score-ge30-via-then-score-ge30+then-self+else-self-2 w ↦
          let d = due-steady _ _ _ w.if-score-ge30.true w.if-self.true in
          settle-not _ _ _ _ _ _ d w.if-self-2.false c.on_normal.ensures
      | else-score-ge30-via-then-score-ge30+else-self w ↦
          let d = due-unsteady _ _ _ w.if-score-ge30.true w.if-self.false in
          settle-not _ _ _ _ _ _ d refl c.on_normal.ensures
      | else-score-ge30-via-else-score-ge30 w ↦
          let d = due-low _ c.args.self.steady c.args.self.permission w.if-score-ge30.false in
          settle-not _ _ _ _ _ _ d refl c.on_normal.ensures
    ]
