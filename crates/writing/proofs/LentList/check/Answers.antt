-- `writing::LentList::check` meets its contract.
-- Assumes nothing.
use Prim.Native.Nat.{ℕ, ◌+◌, ◌*◌}
use mathlib.Core.Path.{◌≡◌, sym, ap, ◌∙◌}
use native.Mathlib.Omega.{arith}
use Rattle.std.proofs.Common.{Some}
use Rattle.std.proofs.lemmas.List.{nil_from_length}
use Rattle.std.specs.Slice.Iter.{chunks_rest, chunks_size}
use Rattle.rows.proofs.AnyRow.{any-rowed}
use Rattle.writing.specs.Paper.{kind_of, InList}
use Rattle.writing.proofs.Checking.{Chunk, chunk-is, list-opens, list-bad, list-next, list-done}
use Rattle.writing.proofs.LentList.check.Goals as goal
use Rattle.writing.proofs.LentList.check.Goals.{After-walk_row}

-- the row that was cut off, and what is found where it is right
module _ (d : After-walk_row) where
  chunk : Chunk (kind_of d.args.self) (chunks_rest d.loop-row.row-iterator) d.in-Some.row.now
      (chunks_rest d.next.new.self)
  chunk =
      let steps = d.in-Some.ensures.steps.1 in
      chunk-is (any-rowed d.args.self.kind) _ d.loop-row.invariant.0 _ _ _ steps.0 steps.1 steps.2

  next : {more : ℕ} → d.walk_row.result ≡ Some more
      → InList (kind_of d.args.self) d.args.self.rows.now d.in-Some.row.now (chunks_rest d.next.new.self)
      (record { rows = d.loop-row.count.rows + 1; numbers = d.loop-row.count.numbers + more })
  next e =
      list-next (any-rowed d.args.self.kind) _ d.loop-row.invariant.1 chunk
      (sym e ∙ d.walk_row.ensures)

pub loop-row-init : goal.loop-row-init
loop-row-init c =
    let same = c.into_iter-row-iterator.ensures.into_iter_gives in
    let chunks = c.chunks-row-items.ensures in (
      ap (λ s. chunks_size s) same ∙ chunks.size ∙ ap (λ (w : ℕ). 2 * w) c.row_width.ensures.0,
      rw (same, chunks.rest) (list-opens (any-rowed c.args.self.kind) _ _ c.default-count.ensures),
    )

pub returns-in_default : goal.returns-in_default
returns-in_default c =
    list-bad (any-rowed c.args.self.kind) _ c.loop-row.invariant.1
    (chunk (goal.at.returns-in_default c).After-walk_row) c.in_default.ensures

pub overflow_add-count-in-loop-row : goal.overflow_add-count-in-loop-row
overflow_add-count-in-loop-row c =
    let n = next (goal.at.overflow_add-count-in-loop-row c).After-walk_row c.in-Some-walk_row.is in
    omega (arith, n.short)

pub loop-row-preserved : goal.loop-row-preserved
loop-row-preserved c = (
  c.in-Some.ensures.steps.0 ∙ c.loop-row.invariant.0,
  next (goal.at.loop-row-preserved c).After-walk_row c.in-Some-walk_row.is,
)

pub returns : goal.returns
returns c =
    let none = nil_from_length _ c.in-None.ensures.steps.1.0 in
    list-done (any-rowed c.args.self.kind) _ (rw none at c.loop-row.invariant.1)
