-- `severity::in_range` meets its contract. Assumes nothing.
use Rattle.std.proofs.Common.{◌≡◌, ◌&&◌, false, rules, arith, ◌∙◌}
use mathlib.Core.Logic.{inl, inr}
use Rattle.rules.specs.Severity.{score_and_window, run_and_count, no_run_or_count, no_score_or_window}
use Rattle.severity.specs.Paper.{record_paper}
use Rattle.severity.proofs.Laws.{range-normal, range-tightened, range-others, range-none}
use Rattle.severity.proofs.Laws.{normal-score, normal-window, normal-ones, normal-rest}
use Rattle.severity.proofs.Laws.{tightened-long, tightened-many, tightened-rest, both-then, both-not}
use Rattle.severity.proofs.in_range.Goals as goal
use Rattle.severity.proofs.in_range.Goals.{then-old-le30, else-old-le30, then-old-lt32, else-old-lt32}

pub returns-then-old-le1 : goal.returns-then-old-le1
returns-then-old-le1 c =
    let r = c.args.old in
    let h = normal-rest r.score r.window _ _ c.no_run_or_count.ensures (search rules) (search rules) (search rules) in
    range-normal _ _ _ h c.in-0.is

pub returns-else-old-le1 : goal.returns-else-old-le1
returns-else-old-le1 c =
    let r = record_paper c.args.old in
    let h : false ≡ (score_and_window r && no_run_or_count r) =
    elim c.if-old-lt32.branch [
      | then-old-lt32 w ↦ normal-ones r.score r.window _ (search rules) (search rules) (search rules)
      | else-old-lt32 w ↦
          (elim c.if-old-le30.branch [
            | then-old-le30 v ↦ normal-window r.score r.window _ v.if-old-le30.true (search rules)
            | else-old-le30 v ↦ normal-score _ _ _ v.if-old-le30.false
          ])
    ] in
    search (rules, range-normal r r.severity false h c.in-0.is)

pub returns-then-old-le4-2 : goal.returns-then-old-le4-2
returns-then-old-le4-2 c =
    let l = c.if-old-le4-2.true in
    range-tightened _ _ _ (tightened-rest _ _ _ _ c.no_score_or_window.ensures l.0 l.1) c.in-1.is

pub returns-else-old-le4-2 : goal.returns-else-old-le4-2
returns-else-old-le4-2 c =
    let r = record_paper c.args.old in
    let h : false ≡ (run_and_count r && no_score_or_window r) =
    elim c.if-old-le4-2.either [
      | inl l ↦ tightened-many _ _ _ l.0 l.1
      | inr l ↦ tightened-long _ _ _ l
    ] in
    search (rules, range-tightened r r.severity false h c.in-1.is)

pub returns-then-no_score_or_window : goal.returns-then-no_score_or_window
returns-then-no_score_or_window c =
    let n = c.no_score_or_window-in-2.ensures in
    let h = both-then _ _ _ n _ c.no_run_or_count-then-no_score_or_window.ensures c.if-no_score_or_window.true in
    range-others _ _ _ h (λ e. omega arith) (λ e. omega arith) (omega arith)

pub returns-else-no_score_or_window : goal.returns-else-no_score_or_window
returns-else-no_score_or_window c =
    let h = both-not _ _ _ c.no_score_or_window-in-2.ensures c.if-no_score_or_window.false in
    c.if-no_score_or_window.false ∙ range-others _ _ _ h (λ e. omega arith) (λ e. omega arith) (omega arith)

pub returns-in_default : goal.returns-in_default
returns-in_default c = search range-none
