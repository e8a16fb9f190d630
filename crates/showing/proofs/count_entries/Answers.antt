-- `showing::count_entries` meets its contract.
-- Assumes nothing.
use Prim.Native.Nat.{ℕ}
use mathlib.Core.Path.{sym, ap, ◌∙◌}
use Rattle.std.proofs.lemmas.Result.{err_from_is_err_and}
use Rattle.rules.specs.Refusals.{given}
use Rattle.rules.specs.Book.{check_book}
use Rattle.rules.specs.Writing.{count_entries}
use Rattle.rules.proofs.EntryLaws.{broken-first}
use Rattle.refusals.specs.Paper.{itself, answer_by}
use Rattle.showing.proofs.Places.{good}
use Rattle.showing.proofs.count_entries.Goals as goal

pub returns-in_err-check_book : goal.returns-in_err-check_book
unfolding count_entries
returns-in_err-check_book c =
    let k = err_from_is_err_and c.from_residual.result c.from_residual.ensures.1 in
    rw (k.1, k.2)
    (broken-first (check_book c.args.book.now) _ _ _
    (sym (ap (answer_by itself) c.in_err-check_book.was) ∙ c.check_book.ensures))

pub returns : goal.returns
unfolding count_entries
returns c =
    rw (good c.args.book.now c.check_book.ensures c.in_ok-check_book.was)
    (ap (λ (n : ℕ). given n) (c.from.ensures ∙ c.entries_in.ensures))
