-- `book::find` meets its contract.
-- Assumes nothing.
use mathlib.Core.Path.{◌∙◌}
use Rattle.std.proofs.lemmas.Result.{err_from_is_err_and}
use Rattle.book.specs.Places.{from_place, place_held}
use Rattle.book.proofs.PlaceLaws.{by-pass}
use Rattle.book.proofs.find.Goals as goal

pub returns-in_err-check_whole : goal.returns-in_err-check_whole
unfolding place_held
returns-in_err-check_whole c =
    let p = err_from_is_err_and c.from_residual.result c.from_residual.ensures.1 in
    rw (p.1, p.2) (by-pass from_place c.args.book.now _ c.in_err-check_whole.ensures)

pub returns : goal.returns
unfolding place_held
returns c = c.found.ensures ∙ by-pass from_place c.args.book.now _ c.in_ok-check_whole.ensures
