-- `writing::LentList::lay` meets its contract.
-- Assumes nothing.
use Prim.Native.Nat.{◌+◌, ◌*◌, ◌≤◌}
use Prim.Native.Nat.{ℕ}
use mathlib.Core.Path.{◌≡◌, refl, sym, ap, ◌∙◌}
use mathlib.Core.List.{List}
use native.Mathlib.Omega.{arith}
use lib.ListN.{length, get_or}
use lib.Seq.{sets}
use Rattle.rules.specs.Writing.{laid}
use Rattle.rules.proofs.Numbers.{numbers-low}
use Rattle.rows.proofs.AnyRow.{any-rowed, plain-size, plain-place}
use Rattle.rows.proofs.Stores.{put-sets}
use Rattle.writing.specs.Paper.{kind_of, rows_of}
use Rattle.writing.proofs.Laying.{plain-long, plain-bytes, put-small}
use Rattle.writing.proofs.LentList.lay.Goals as goal
use Rattle.writing.proofs.LentList.lay.Goals.{Then-self-ne-STAGED}
use mathlib.Core.Path.{◌∙◌}
use Rattle.std.proofs.lemmas.List.{nil_from_length}
use Rattle.std.specs.Slice.Iter.{chunks_rest}
use Rattle.rows.proofs.AnyRow.{any-rowed}
use Rattle.writing.specs.Paper.{kind_of}
use Rattle.writing.proofs.Checking.{Chunk, chunk-is}
use Rattle.writing.proofs.Laying.{row-near, rows-go-on, rows-end}
use Rattle.writing.proofs.LentList.lay.Goals.{After-lay_entry}

-- a list that is not staged has as many bytes as its entries
long : (d : Then-self-ne-STAGED)
    → length d.args.self.rows.now ≡ 2 * length (laid (kind_of d.args.self) (rows_of d.args.self))
long d =
    let kind = d.args.self.kind in
    let other = d.if-self-ne-STAGED.true in
    plain-long (any-rowed kind) (λ m. plain-size m kind other) (λ m i. plain-place m i kind other)
    d.args.self.rows.now d.requires.right

-- .. for which there is room
room : (d : Then-self-ne-STAGED) → 2 * d.args.at + length d.args.self.rows.now ≤ length d.args.out.now
room d = omega (arith, long d, d.requires.room, numbers-low d.args.out.now)

pub overflow_mul-at : goal.overflow_mul-at
overflow_mul-at c = omega (arith, room (goal.at.overflow_mul-at c).Then-self-ne-STAGED)

pub copy_bytes-requires : goal.copy_bytes-requires
copy_bytes-requires c = room (goal.at.copy_bytes-requires c).Then-self-ne-STAGED

pub overflow_add-result : goal.overflow_add-result
overflow_add-result c =
    let d = (goal.at.overflow_add-result c).Then-self-ne-STAGED in
    omega (arith, long d, d.requires.room, numbers-low d.args.out.now)

pub returns-then-self-ne-STAGED : goal.returns-then-self-ne-STAGED
returns-then-self-ne-STAGED c =
    let kind = c.args.self.kind in
    let rows = c.args.self.rows.now in
    let other = c.if-self-ne-STAGED.true in
    let at = 2 * c.args.at in
    let out = c.args.out.now in
    let d = (goal.at.returns-then-self-ne-STAGED c).Then-self-ne-STAGED in
    let copied = put-sets at (length rows) out rows refl (room d) ∙ sym c.copy_bytes.ensures in
    let small =
    put-small at (length rows) out rows refl (room d)
    (λ i. omega (arith, ap (λ (l : List ℕ). get_or l i 0) copied, c.type_inv.out i)) in
    let bytes =
    plain-bytes (any-rowed kind) (λ m. plain-size m kind other) (λ m i. plain-place m i kind other)
    rows c.requires.right small in (
      omega (arith, long d),
      c.copy_bytes.ensures ∙ ap (sets out at) (sym bytes.0),
    )

-- the row that was cut off
chunk : (d : After-lay_entry)
    → Chunk (kind_of d.args.self) (chunks_rest d.loop-row.row-iterator) d.in-Some.row.now (chunks_rest d.next.new.self)
chunk d =
    let steps = d.in-Some.ensures.steps.1 in
    chunk-is (any-rowed d.args.self.kind) _ d.loop-row.invariant.0 _ _ _ steps.0 steps.1 steps.2

pub overflow_add-to : goal.overflow_add-to
overflow_add-to c =
    let d = (goal.at.overflow_add-to c).After-lay_entry in
    let near = row-near (any-rowed c.args.self.kind) _ c.loop-row.invariant.1 (chunk d) in
    omega (arith, near, c.size_at-to.ensures.0, numbers-low c.loop-row.out)

pub loop-row-preserved : goal.loop-row-preserved
loop-row-preserved c =
    let d = (goal.at.loop-row-preserved c).After-lay_entry in (
      c.in-Some.ensures.steps.0 ∙ c.loop-row.invariant.0,
      rows-go-on (any-rowed c.args.self.kind) _ c.loop-row.invariant.1 (chunk d)
          c.lay_entry.ensures c.size_at-to.ensures.0,
    )

pub returns : goal.returns
returns c =
    let none = nil_from_length _ c.in-None.ensures.steps.1.0 in
    rows-end (any-rowed c.args.self.kind) _ (rw none at c.loop-row.invariant.1)
