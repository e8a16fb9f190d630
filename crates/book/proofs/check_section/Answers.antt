-- `book::check_section` meets its contract.
-- Assumes nothing.
use mathlib.Core.Path.{sym, ap}
use native.Mathlib.Omega.{arith}
use lib.ListN.{length-drop}
use Rattle.std.proofs.lemmas.Result.{err_from_is_err_and}
use Rattle.rules.specs.Numbers.{numbers_of}
use Rattle.rules.proofs.Steps.{section-short}
use Rattle.rules.specs.Book.{shift}
use Rattle.entry.proofs.AnyKind.{entry-deep}
use Rattle.book.proofs.Loops.{read-short, section-opens, section-next, section-fault, section-done}
use Rattle.book.proofs.check_section.Goals as goal

pub returns-then-count-start : goal.returns-then-count-start
unfolding shift
returns-then-count-start c =
    read-short (ap (shift c.args.start)
    (sym (section-short _ _ (omega (arith, length-drop c.args.start (numbers_of c.args.book.now))))))

pub loop-i-init : goal.loop-i-init
loop-i-init c = section-opens (omega arith) c.number-entries.ensures

pub loop-i-preserved : goal.loop-i-preserved
loop-i-preserved c =
    section-next c.loop-i.invariant (entry-deep c.args.kind) (omega arith) c.in_ok-end.ensures
    c.first_under-seen.ensures

pub returns-in_err-end : goal.returns-in_err-end
returns-in_err-end c =
    let p = err_from_is_err_and c.from_residual.result c.from_residual.ensures.1 in
    rw (p.1, p.2) (section-fault c.loop-i.invariant (omega arith) c.in_err-end.ensures)

pub returns : goal.returns
returns c = section-done c.loop-i.invariant (omega arith)
