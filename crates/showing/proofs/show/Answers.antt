-- `showing::show` meets its contract.
-- Assumes nothing.
use Prim.Native.Nat.{ℕ, ◌*◌, ◌≤◌}
use mathlib.Core.Path.{ap, ◌∙◌}
use mathlib.Core.List.{List}
use native.Mathlib.Omega.{arith}
use lib.ListN.{length}
use Rattle.rules.specs.Book.{kind_at}
use Rattle.rules.proofs.Numbers.{numbers-part}
use Rattle.rows.specs.Paper.{entry_shown}
use Rattle.showing.proofs.Places.{place-is, place-near, row-shown}
use Rattle.showing.proofs.show.Goals as goal
use Rattle.showing.proofs.show.Goals.{After-entry_place-place}

near : (c : After-entry_place-place) → 2 * c.entry_place-place.result ≤ length c.args.book.now
near c =
    place-near c.requires _ (place-is c.requires _ c.entry_place-place.ensures)

pub returns : goal.returns
returns c =
    c.show_entry.ensures
    ∙ ap (λ (l : List ℕ). entry_shown (kind_at c.args.kind) l c.args.row.now)
    (numbers-part c.args.book.now c.entry_place-place.result)
    ∙ row-shown c.requires c.entry_place-place.result
    (place-is c.requires c.entry_place-place.result c.entry_place-place.ensures)

pub overflow_mul-place : goal.overflow_mul-place
overflow_mul-place c = omega (arith, near (goal.at.overflow_mul-place c).After-entry_place-place)

pub slice_bounds-show_entry-count : goal.slice_bounds-show_entry-count
slice_bounds-show_entry-count c = omega (arith, near (goal.at.slice_bounds-show_entry-count c).After-entry_place-place)

pub slice_bounds-show_entry-start : goal.slice_bounds-show_entry-start
slice_bounds-show_entry-start c = omega (arith, near (goal.at.slice_bounds-show_entry-start c).After-entry_place-place)
