-- `book::laid_at` meets its contract.
-- Assumes nothing.
use native.Mathlib.Omega.{arith}
use Rattle.rules.proofs.Numbers.{numbers-low, numbers-part}
use Rattle.book.proofs.Laid.{laid-none, laid-past, laid-unseen, laid-seen, laid-near}
use Rattle.book.proofs.laid_at.Goals as goal

pub returns-then-kind-ge-KINDS : goal.returns-then-kind-ge-KINDS
returns-then-kind-ge-KINDS c =
    let a = c.args in laid-none a.kind a.key.severity a.key.letter a.key.column a.book.now (omega arith)

pub returns-then-count-at : goal.returns-then-count-at
returns-then-count-at c =
    let a = c.args in
    laid-past a.kind a.key.severity a.key.letter a.key.column a.book.now (omega arith) _ c.section_place-at.ensures.0
    (omega arith)

pub returns-in_err-seen : goal.returns-in_err-seen
returns-in_err-seen c =
    let a = c.args in
    let sought = rw (numbers-part a.book.now c.section_place-at.result) at c.in_err-seen.ensures in
    rw c.from_residual.ensures
    (laid-unseen a.kind a.key.severity a.key.letter a.key.column a.book.now (omega arith) _
    c.section_place-at.ensures.0 sought)

pub returns : goal.returns
returns c =
    let a = c.args in
    let sought = rw (numbers-part a.book.now c.section_place-at.result) at c.in_ok-seen.ensures in
    laid-seen a.kind a.key.severity a.key.letter a.key.column a.book.now (omega arith) _ c.section_place-at.ensures.0 _
    sought

pub overflow_add-result : goal.overflow_add-result
overflow_add-result c =
    let a = c.args in
    let sought = rw (numbers-part a.book.now c.section_place-at.result) at c.in_ok-seen.ensures in
    let near =
    laid-near a.kind a.key.severity a.key.letter a.key.column a.book.now (omega arith) _ c.section_place-at.ensures.0 _
    sought (omega arith) in
    omega (arith, near, numbers-low a.book.now)
