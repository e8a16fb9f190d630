-- `writing::lay_lists` meets its contract.
-- Assumes nothing.
use Prim.Native.Nat.{ℕ, ◌<◌}
use mathlib.Core.Path.{subst, sym}
use mathlib.Core.List.{List}
use native.Mathlib.Omega.{arith}
use lib.ListN.{length}
use Rattle.rules.specs.Book.{kind_at}
use Rattle.writing.specs.Paper.{all_rows, SectionLayable, SectionLaid}
use Rattle.writing.proofs.Checking.{lent-at}
use Rattle.writing.proofs.Laying.{section-layable, section-next, sections-end}
use Rattle.writing.proofs.lay_lists.Goals as goal
use Rattle.writing.proofs.lay_lists.Goals.{In-loop-kind}

pub lay_section-at-requires : goal.lay_section-at-requires
lay_section-at-requires c =
    let lists = c.args.lists.now in
    let kind = c.loop-kind.kind in
    let here : kind < length lists = omega arith in
    subst
    (λ (l : List ℕ). SectionLayable (kind_at kind) kind (all_rows (kind_at kind) l) c.loop-kind.at c.loop-kind.out)
    (lent-at lists kind _ here)
    (section-layable _ _ c.requires c.loop-kind.invariant (omega arith))

pub loop-kind-preserved : goal.loop-kind-preserved
loop-kind-preserved c =
    let lists = c.args.lists.now in
    let kind = c.loop-kind.kind in
    let here : kind < length lists = omega arith in
    section-next _ _ c.requires c.loop-kind.invariant (omega arith)
    (subst
    (λ (l : List ℕ). SectionLaid (kind_at kind) kind (all_rows (kind_at kind) l) c.loop-kind.at c.loop-kind.out
    c.lay_section-at.new.out c.lay_section-at.result)
    (sym (lent-at lists kind _ here)) c.lay_section-at.ensures)

pub returns : goal.returns
returns c = sections-end _ _ c.requires c.loop-kind.invariant (omega arith)
