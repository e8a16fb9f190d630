-- `writing::write_book` meets its contract.
-- Assumes nothing.
use Prim.Native.Nat.{ℕ}
use mathlib.Core.Path.{◌≡◌, subst}
use native.Mathlib.Omega.{arith}
use Rattle.std.proofs.Common.{Result, rules}
use Rattle.std.proofs.lemmas.Result.{err_from_is_err_and}
use Rattle.rules.specs.Writing.{Rows, lent_rows}
use Rattle.refusals.specs.declared.Reason.TheVariants.{BrokenBook}
use Rattle.refusals.specs.declared.Refusal.{Refusal}
use Rattle.writing.specs.Paper.{lent, ListsChecked}
use Rattle.writing.proofs.Mapped.{ok-mapped, err-mapped}
use Rattle.writing.proofs.Telling.{tell-bad, tell-short, tell-written}
use Rattle.writing.proofs.write_book.Goals as goal
use Rattle.writing.proofs.write_book.Goals.{After-check_lists, In_ok-numbers}

-- what the check of the lists found
module _ (d : After-check_lists) where
  abbrev rows : ℕ → Rows
  rows = lent_rows (lent d.args.lists)

  checked : {x : Result ℕ ℕ} → d.check_lists.result ≡ x → ListsChecked rows x
  checked e = subst (λ (r : Result ℕ ℕ). ListsChecked rows r) e d.check_lists.ensures

pub returns-in_err-numbers : goal.returns-in_err-numbers
returns-in_err-numbers c =
    let d = (goal.at.returns-in_err-numbers c).After-check_lists in
    let bad : ℕ → Refusal = λ p. record { reason = BrokenBook; place = p } in
    let p =
    err-mapped _ c.check_lists.result _ c.map_err.ensures.cases bad (λ e d k. search rules) c.in_err-numbers.was in
    let k = err_from_is_err_and c.from_residual.result c.from_residual.ensures.1 in
    rw (k.1, k.2, p.2) (tell-bad (rows d) _ p.0 (checked d p.1))

pub returns-then-out-size : goal.returns-then-out-size
returns-then-out-size c =
    let d = (goal.at.returns-then-out-size c).After-check_lists in
    let right = checked d (ok-mapped _ c.check_lists.result _ c.map_err.ensures.cases c.in_ok-numbers.was) in
    rw c.into.ensures (tell-short (rows d) _ _ right c.then-out-size.either)

pub returns : goal.returns
returns c =
    let d = (goal.at.returns c).After-check_lists in
    let right = checked d (ok-mapped _ c.check_lists.result _ c.map_err.ensures.cases c.in_ok-numbers.was) in
    tell-written (rows d) _ _ right (omega arith) (omega arith) c.lay_lists.ensures
