-- `showing::read_entry` meets its contract.
-- Assumes nothing.
use mathlib.Core.Path.{◌≡◌, sym, ap, ◌∙◌}
use native.Mathlib.Omega.{arith}
use Rattle.std.proofs.lemmas.Result.{err_from_is_err_and}
use Rattle.rules.specs.Book.{check_book, sound}
use Rattle.refusals.specs.Paper.{itself, answer_by}
use Rattle.showing.proofs.Places.{good, tell-broken, tell-none, tell-short, known, tell-row}
use Rattle.showing.proofs.read_entry.Goals as goal
use Rattle.showing.proofs.read_entry.Goals.{In_ok-check_book}

right : (d : In_ok-check_book) → check_book d.args.book.now ≡ sound
right d = good d.args.book.now d.check_book.ensures d.in_ok-check_book.was

pub returns-in_err-check_book : goal.returns-in_err-check_book
returns-in_err-check_book c =
    let k = err_from_is_err_and c.from_residual.result c.from_residual.ensures.1 in
    rw (k.1, k.2)
    (tell-broken c.args.book.now c.args.section c.args.nth c.args.row.now _
    (sym (ap (answer_by itself) c.in_err-check_book.was) ∙ c.check_book.ensures))

pub returns-then-from-nth : goal.returns-then-from-nth
returns-then-from-nth c =
    let d = (goal.at.returns-then-from-nth c).In_ok-check_book in
    rw c.into.ensures (tell-none _ _ _ _ (right d) (omega (arith, c.from.ensures, c.entries_in.ensures)))

pub returns-then-row-width : goal.returns-then-row-width
returns-then-row-width c =
    let d = (goal.at.returns-then-row-width c).In_ok-check_book in
    rw c.into-then-row-width.ensures
    (tell-short _ _ _ _ (right d) (omega (arith, c.from.ensures, c.entries_in.ensures))
    (omega (arith, c.row_width-width.ensures.0)))

pub show-requires : goal.show-requires
show-requires c =
    let a = c.args in
    let d = (goal.at.show-requires c).In_ok-check_book in
    record {
      good = right d;
      known =
          known a.book.now a.section a.nth a.row.now (right d) (omega (arith, c.from.ensures, c.entries_in.ensures));
      there = omega (arith, c.from.ensures, c.entries_in.ensures);
      room = omega (arith, c.row_width-width.ensures.0);
    }

pub returns : goal.returns
returns c =
    let d = (goal.at.returns c).In_ok-check_book in
    tell-row _ _ _ _ (right d) (omega (arith, c.from.ensures, c.entries_in.ensures))
    (omega (arith, c.row_width-width.ensures.0)) c.row_width-width.ensures.0 c.show.ensures
