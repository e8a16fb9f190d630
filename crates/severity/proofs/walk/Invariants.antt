-- `severity::walk` meets its contract. Assumes nothing.
use Rattle.severity.specs.Paper.{work_paper, record_paper}
use Rattle.severity.proofs.Loop.{Walking}
use Rattle.severity.proofs.walk.Given as goal

abbrev pub invariant-loop-i : goal.invariant-loop-i
invariant-loop-i l =
    Walking (work_paper l.work) (record_paper l.initial.held) l.history l.initial.out l.out (record_paper l.held) l.i
