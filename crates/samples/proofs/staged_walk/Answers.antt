-- `samples::staged_walk` meets its contract. The invariant: the walk has come to the stage at place i.
-- Assumes nothing.
use Prim.Native.Nat.{◌+◌}
use mathlib.Core.Path.{◌≡◌, sym, ap, ◌∙◌}
use native.Mathlib.Omega.{arith}
use lib.ListN.{get_or, drop}
use Rattle.std.proofs.lemmas.Result.{err_from_is_err_and}
use Rattle.rules.specs.Numbers.{numbers_of}
use Rattle.rules.specs.Staged.{Stage, take_items, taken}
use Rattle.rules.proofs.SampleSteps.{staged-done, staged-missing, staged-over}
use Rattle.rules.proofs.SampleSteps.{staged-decides, staged-goes, taken-there}
use Rattle.entry.specs.Paper.{staged_paper}
use Rattle.samples.proofs.Reading.{take-refused, take-given}
use Rattle.samples.proofs.staged_walk.Goals as goal
use Rattle.samples.proofs.staged_walk.Goals.{After-stage_at-stage, In_ok-total}

-- the stage's size is the plan's
sized : (c : After-stage_at-stage) → c.stage_at-stage.result.size ≡ get_or (staged_paper c.args.plan).sizes c.loop-i.i 0
sized c = ap (λ (s : Stage). s.size) c.stage_at-stage.ensures

pub returns-in_err-total : goal.returns-in_err-total
returns-in_err-total c =
    let at = c.loop-i.invariant.walked in
    let size = sized (goal.at.returns-in_err-total c).After-stage_at-stage in
    let p = err_from_is_err_and c.from_residual.result c.from_residual.ensures.1 in
    rw (p.1, p.2)
    (sym
    (take-refused _ _ _ _ c.in_err-total.ensures.taken (λ e. staged-missing at (omega arith) size e)
    (λ e. staged-over at (omega arith) size e)))

-- the stage's items are all there
took : (c : In_ok-total)
    → take_items c.args.column c.stage_at-stage.result.size c.loop-i.total
    (drop c.loop-i.used (numbers_of c.args.sample.now))
    ≡ taken c.in_ok-total.total (drop (c.loop-i.used + c.stage_at-stage.result.size) (numbers_of c.args.sample.now))
took c = take-given _ _ _ _ _ _ c.in_ok-total.ensures.taken

pub returns-in-Some : goal.returns-in-Some
returns-in-Some c =
    let at = c.loop-i.invariant.walked in
    c.ended_with.ensures
    ∙ sym
    (staged-decides at (omega arith) (sized (goal.at.returns-in-Some c).After-stage_at-stage)
    (took (goal.at.returns-in-Some c).In_ok-total) _ (sym (rw c.stage_at-stage.ensures at c.in-Some.ensures)))

pub loop-i-preserved : goal.loop-i-preserved
loop-i-preserved c =
    let all = took (goal.at.loop-i-preserved c).In_ok-total in
    record {
      there = taken-there _ _ _ _ _ _ _ c.loop-i.invariant.there all;
      near = omega arith;
      few = omega (arith, c.in_ok-total.ensures.few);
      walked =
          staged-goes c.loop-i.invariant.walked (omega arith)
          (sized (goal.at.loop-i-preserved c).After-stage_at-stage) all
          (sym (rw c.stage_at-stage.ensures at c.in_default.ensures));
    }

pub returns : goal.returns
returns c = sym (staged-done c.loop-i.invariant.walked (omega arith))
