-- `rows::show` meets its contract.
-- Assumes nothing.
use Prim.Native.Nat.{ℕ, ◌*◌, ◌≤◌}
use mathlib.Core.Path.{◌≡◌, refl, sym, ap, ◌∙◌}
use mathlib.Core.List.{List, ◌++◌}
use native.Mathlib.Omega.{arith}
use lib.ListN.{length, drop, replicate}
use lib.Seq.{length-take-le}
use Rattle.rules.specs.Book.{kind_at}
use Rattle.rules.proofs.Numbers.{numbers-low}
use Rattle.rows.proofs.AnyRow.{any-rowed, placed}
use Rattle.rows.proofs.Shown.{rest-kept, show-opens, show-there, show-next, show-done}
use Rattle.rows.proofs.show.Goals as goal
use Rattle.rows.proofs.show.Goals.{After-fill}

pub slice_bounds-fill-end : goal.slice_bounds-fill-end
slice_bounds-fill-end c = omega (arith, numbers-low c.args.row.now, c.requires.room, c.row_width-width.ensures.0)

-- the row is cleared
blank : (c : After-fill)
    → let n = 2 * (kind_at c.args.kind).width in
    c.fill.new.self ++ drop (2 * c.row_width-width.result) c.args.row.now ≡ replicate n 0 ++ drop n c.args.row.now
blank c =
    let row = c.args.row.now in
    let n = 2 * c.row_width-width.result in
    let there : n ≤ length row = omega (arith, numbers-low row, c.requires.room, c.row_width-width.ensures.0) in
    ap (λ (b : List ℕ). b ++ drop n row)
    (c.fill.ensures.after (λ y e. e)
    ∙ ap (λ (m : ℕ). replicate m 0) (length-take-le n row there))
    ∙ ap (λ (c : ℕ). replicate (2 * c) 0 ++ drop (2 * c) row) c.row_width-width.ensures.0

pub slice_bounds-fill-end-2 : goal.slice_bounds-fill-end-2
slice_bounds-fill-end-2 c =
    sym (length-take-le _ c.args.row.now (omega (arith, numbers-low c.args.row.now, c.requires.room)))

pub loop-i-init : goal.loop-i-init
loop-i-init c = show-opens _ _ _ (blank (goal.at.loop-i-init c).After-fill) _

pub copy_number-requires : goal.copy_number-requires
copy_number-requires c =
    show-there c.loop-i.invariant (any-rowed c.args.kind) c.requires.fits _ (omega arith)
    (placed (kind_at c.args.kind) c.loop-i.i c.row_place.ensures c.after_key-after.ensures)
    c.args.e.now refl c.requires.whole

pub loop-i-preserved : goal.loop-i-preserved
loop-i-preserved c =
    show-next c.loop-i.invariant (any-rowed c.args.kind) c.requires.fits _ (omega (arith, c.size_at-size.ensures.0))
    (placed (kind_at c.args.kind) c.loop-i.i c.row_place.ensures c.after_key-after.ensures)
    _ c.copy_number.ensures

pub returns : goal.returns
returns c =
    show-done c.loop-i.invariant (omega (arith, c.size_at-size.ensures.0))
    ∙ rw (rest-kept _ _ _ (blank (goal.at.returns c).After-fill))
