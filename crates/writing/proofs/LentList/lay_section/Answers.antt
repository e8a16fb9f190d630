-- `writing::LentList::lay_section` meets its contract.
-- Assumes nothing.
use Prim.Native.Nat.{ℕ, ◌+◌, ◌-◌, ◌*◌, ◌/◌, ◌≤◌, ◌<◌}
use mathlib.Core.Path.{◌≡◌, sym, ap, ◌∙◌}
use mathlib.Core.Bool.{Bool, false}
use mathlib.Core.List.{[], ◌∷◌}
use native.Mathlib.Omega.{arith}
use lib.ListN.{length}
use lib.Seq.{sets}
use borrow.Rule.Slice.PartMut.{put_mid}
use Rattle.rules.specs.Numbers.{number_bytes}
use Rattle.rules.specs.Book.{kind_at}
use Rattle.rules.specs.Writing.{left_out}
use Rattle.rules.proofs.Numbers.{numbers-low, bytes-twice}
use Rattle.rules.proofs.FewKeys.{few-right}
use Rattle.rows.proofs.AnyRow.{any-rowed}
use Rattle.rows.proofs.Stores.{put-sets}
use Rattle.writing.specs.Paper.{kind_of, rows_of, Layable}
use Rattle.writing.proofs.Laying.{rows-count, still-layable, section-left, list-layable, section-laid, count-bytes}
use Rattle.writing.proofs.LentList.lay_section.Goals as goal
use Rattle.writing.proofs.LentList.lay_section.Goals.{After-left_out, After-copy_from_slice}

-- how many rows there are, which says whether the section is left out
module _ (d : After-left_out) where
  count : length d.args.self.rows.now / (2 * d.row_width.result) ≡ length (rows_of d.args.self)
  count =
      rows-count (any-rowed d.args.self.kind) d.args.self.rows.now d.row_width.result
      d.row_width.ensures.0 d.requires.right

  told : {b : Bool} → d.left_out.result ≡ b → left_out d.args.self.kind (length (rows_of d.args.self)) ≡ b
  told e = ap (left_out d.args.self.kind) (sym count) ∙ sym d.left_out.ensures ∙ e

-- .. where it is not, there is room for its count and its entries
module _ (d : After-left_out) (stays : d.left_out.result ≡ false) where
  layable : Layable (kind_of d.args.self) (rows_of d.args.self) (d.args.at + 1) d.args.out.now
  layable = list-layable _ _ _ _ _ (told d stays) d.requires

  room : 2 * d.args.at + 2 ≤ length d.args.out.now
  room = omega (arith, layable.room, numbers-low d.args.out.now)

  few : length d.args.self.rows.now / (2 * d.row_width.result) < 65536
  few =
      let kind = d.args.self.kind in
      omega (arith, count d, few-right (kind_at kind) (any-rowed kind) 0 (rows_of d.args.self) layable.right)

pub returns-then-left_out : goal.returns-then-left_out
returns-then-left_out c =
    section-left _ _ _ _ _ (told (goal.at.returns-then-left_out c).After-left_out c.if-left_out.true)

pub overflow_mul-from : goal.overflow_mul-from
overflow_mul-from c = omega (arith, room (goal.at.overflow_mul-from c).After-left_out c.if-left_out.false)

pub overflow_add-from : goal.overflow_add-from
overflow_add-from c = omega (arith, room (goal.at.overflow_add-from c).After-left_out c.if-left_out.false)

pub slice_bounds-copy_from_slice-end : goal.slice_bounds-copy_from_slice-end
slice_bounds-copy_from_slice-end c =
    omega (arith, room (goal.at.slice_bounds-copy_from_slice-end c).After-left_out c.if-left_out.false)

pub overflow_cast-n : goal.overflow_cast-n
overflow_cast-n c = omega (arith, few (goal.at.overflow_cast-n c).After-left_out c.if-left_out.false)

-- the count is put
module _ (d : After-copy_from_slice) where
  abbrev at : ℕ
  at = 2 * d.args.at

  abbrev rows : ℕ
  rows = length d.args.self.rows.now / (2 * d.row_width.result)

  put : rows < 65536 → at + 2 ≤ length d.args.out.now
      → put_mid at (at + 2 - at) d.args.out.now d.copy_from_slice.new.self
      ≡ sets d.args.out.now at (number_bytes (rows ∷ []))
  put few room =
      let two = d.copy_from_slice.ensures.after ∙ d.to_le_bytes.ensures ∙ count-bytes rows few in
      put-sets at _ d.args.out.now _ (omega (arith, ap length two, bytes-twice (rows ∷ []))) (omega arith)
      ∙ ap (sets d.args.out.now at) two

pub lay-requires : goal.lay-requires
lay-requires c =
    let d = (goal.at.lay-requires c).After-left_out in
    let stays = c.if-left_out.false in
    let e = (goal.at.lay-requires c).After-copy_from_slice in
    still-layable (layable d stays) (at e) (number_bytes (rows e ∷ [])) (put e (few d stays) (room d stays))

pub returns : goal.returns
returns c =
    let d = (goal.at.returns c).After-left_out in
    let stays = c.if-left_out.false in
    let p = put (goal.at.returns c).After-copy_from_slice (few d stays) (room d stays) in
    section-laid _ _ _ _ _ (told d stays) _ _ _ _ (count d) p c.lay.ensures.0 c.lay.ensures.1
