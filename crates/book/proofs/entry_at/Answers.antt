-- `book::entry_at` meets its contract.
-- Assumes nothing.
use Prim.Native.Nat.{ℕ, ◌*◌, ◌-◌}
use mathlib.Core.Path.{◌≡◌, ap, ◌∙◌}
use mathlib.Core.List.{List}
use lib.ListN.{length, take, drop}
use Rattle.rules.specs.Numbers.{numbers_of}
use Rattle.rules.specs.Book.{Walk, entry, kind_at, key_of, shift}
use Rattle.book.specs.Paper.{entry_after}
use native.Mathlib.Omega.{arith}
use Rattle.rules.proofs.Numbers.{numbers-low, numbers-part}
use Rattle.rules.proofs.Walks.{place-entry}
use Rattle.book.proofs.Loops.{numbers-between, ends-near, broken-near}
use Rattle.book.proofs.entry_at.Goals as goal

-- what was read in the parts of the book
read : (book : List ℕ) (kind prev at : ℕ) {w : Walk}
    → w
    ≡ entry (kind_at kind) (key_of (kind_at kind) (numbers_of (take (2 * at - 2 * prev) (drop (2 * prev) book))))
    (numbers_of (take (length book - 2 * at) (drop (2 * at) book)))
    → w ≡ entry_after kind prev at (numbers_of book)
read book kind prev at e = e ∙ rw (numbers-between book prev at, numbers-part book at)

pub returns-in-Ok : goal.returns-in-Ok
unfolding shift
returns-in-Ok c = let a = c.args in ap (shift a.at) (read a.book.now a.kind a.prev a.at c.in-Ok.ensures)

pub returns-in-Err-Broken : goal.returns-in-Err-Broken
unfolding shift
returns-in-Err-Broken c =
    let a = c.args in
    let e = rw c.in-Err-Broken.field-0-is at c.in-Err-Broken.ensures in
    ap (shift a.at) (read a.book.now a.kind a.prev a.at e)

pub returns-in-Err-Short : goal.returns-in-Err-Short
unfolding shift
returns-in-Err-Short c =
    let a = c.args in
    let e = rw c.in-Err-Short.field-0-is at c.in-Err-Short.ensures in
    ap (shift a.at) (read a.book.now a.kind a.prev a.at e)

pub overflow_add-result : goal.overflow_add-result
overflow_add-result c =
    let a = c.args in
    let ws = numbers_of a.book.now in
    let q = read a.book.now a.kind a.prev a.at c.in-Ok.ensures in
    omega (arith, ends-near a.at ws (place-entry _ _ (drop a.at ws)) c.requires.1 q, numbers-low a.book.now)

pub overflow_add-result-in-Err-Broken : goal.overflow_add-result-in-Err-Broken
overflow_add-result-in-Err-Broken c =
    let a = c.args in
    let ws = numbers_of a.book.now in
    let e = rw c.in-Err-Broken.field-0-is at c.in-Err-Broken.ensures in
    let q = read a.book.now a.kind a.prev a.at e in
    omega (arith, broken-near a.at ws (place-entry _ _ (drop a.at ws)) c.requires.1 q, numbers-low a.book.now)
