-- `writing::check_lists` meets its contract.
-- Assumes nothing.
use Prim.Native.Nat.{ℕ, ◌+◌, ◌<◌}
use mathlib.Core.Path.{◌≡◌, subst, sym}
use mathlib.Core.List.{List}
use native.Mathlib.Omega.{arith}
use lib.ListN.{length}
use Rattle.std.proofs.Common.{Result, rules}
use Rattle.std.proofs.lemmas.Result.{err_from_is_err_and}
use Rattle.rules.specs.Book.{kind_at}
use Rattle.rules.specs.Writing.{Rows, lent_rows}
use Rattle.writing.specs.declared.Count.{Count}
use Rattle.writing.specs.Paper.{lent, all_rows, ListChecked, InLists}
use Rattle.writing.proofs.Checking.{lent-at, lists-bad, bad-bounded, right-bounded, lists-next, lists-done}
use Rattle.writing.proofs.Mapped.{ok-mapped, err-mapped}
use Rattle.writing.proofs.check_lists.Goals as goal
use Rattle.writing.proofs.check_lists.Goals.{After-check}

-- what the check of a list promises, said of the lists
module _ (d : After-check) where
  abbrev kind : ℕ
  kind = d.loop-kind.kind

  abbrev rows : ℕ → Rows
  rows = lent_rows (lent d.args.lists.now)

  inv : InLists rows kind d.loop-kind.before d.loop-kind.size
  inv = d.loop-kind.invariant

  checked : {x : Result Count ℕ} → d.check.result ≡ x → ListChecked (kind_at kind) (rows kind) x
  checked e =
      let here : kind < length d.args.lists.now = omega arith in
      subst (λ (r : Result Count ℕ). ListChecked (kind_at kind) (rows kind) r) e
      (subst (λ (l : List ℕ). ListChecked (kind_at kind) (all_rows (kind_at kind) l) d.check.result)
      (sym (lent-at d.args.lists.now kind _ here)) d.check.ensures)

pub map_err-requires : goal.map_err-requires
map_err-requires c = λ p is l x y r f.
    let d = (goal.at.map_err-requires c).After-check in
    omega (arith, bad-bounded (rows d) (inv d) (omega arith) (checked d is))

pub returns-in_err-count : goal.returns-in_err-count
returns-in_err-count c =
    let d = (goal.at.returns-in_err-count c).After-check in
    let before = c.loop-kind.before in
    let p =
    err-mapped _ c.check.result _ c.map_err.ensures.cases (λ (p : ℕ). before + p) (λ e d k. search rules)
    c.in_err-count.was in
    let k = err_from_is_err_and c.from_residual.result c.from_residual.ensures.1 in
    rw (k.1, k.2, p.2) (lists-bad (rows d) (inv d) (omega arith) {p = p.0} (checked d p.1))

pub overflow_add-before : goal.overflow_add-before
overflow_add-before c =
    let d = (goal.at.overflow_add-before c).After-check in
    let right = checked d (ok-mapped _ c.check.result _ c.map_err.ensures.cases c.in_ok-count.was) in
    omega (arith, (right-bounded (rows d) (inv d) (omega arith) right).0, (inv d).few)

pub section_size-size-requires : goal.section_size-size-requires
section_size-size-requires c =
    let d = (goal.at.section_size-size-requires c).After-check in
    let right = checked d (ok-mapped _ c.check.result _ c.map_err.ensures.cases c.in_ok-count.was) in
    (right-bounded (rows d) (inv d) (omega arith) right).1

pub overflow_add-size : goal.overflow_add-size
overflow_add-size c =
    let d = (goal.at.overflow_add-size c).After-check in
    let right = checked d (ok-mapped _ c.check.result _ c.map_err.ensures.cases c.in_ok-count.was) in
    let next = lists-next (rows d) (inv d) (omega arith) right c.section_size-size.ensures in
    omega (arith, next.short)

pub loop-kind-preserved : goal.loop-kind-preserved
loop-kind-preserved c =
    let d = (goal.at.loop-kind-preserved c).After-check in
    let right = checked d (ok-mapped _ c.check.result _ c.map_err.ensures.cases c.in_ok-count.was) in
    lists-next (rows d) (inv d) (omega arith) right c.section_size-size.ensures

pub returns : goal.returns
returns c = lists-done _ c.loop-kind.invariant (omega arith)
