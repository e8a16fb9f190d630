-- `lotstream::log_line` meets its contract.
use native.Mathlib.Omega.{arith}
use mathlib.Core.Path.{refl, ap, ◌∙◌}
use mathlib.Core.List.{List, ◌++◌}
use Prim.Native.Nat.{ℕ}
use borrow.Author.Rules.{part_to_end}
use lib.ListN.{take}
use Rattle.rules.specs.History.{ours}
use Rattle.lotlines.specs.Paper.{held_paper}
use Rattle.lotstream.proofs.Putting.{put-line}
use Rattle.lotstream.proofs.Onwards.{feeds-ours, line-same, line_taken}
use Rattle.lotstream.proofs.log_line.Goals as goal

pub overflow_add-result : goal.overflow_add-result
overflow_add-result c =
    let fed = feeds-ours c.ours.ensures c.feed-fed.ensures in
    let piece = c.args.piece.now in
    let at = c.args.turn.taken in
    let held = held_paper c.args.turn.state in
    let taken = line_taken ours held piece _ at (part_to_end piece at) c.requires.0 in
    omega (arith, fed.taken, taken.1)

pub returns : goal.returns
returns c =
    let fed = feeds-ours c.ours.ensures c.feed-fed.ensures in
    let piece = c.args.piece.now in
    let at = c.args.turn.taken in
    let part = part_to_end piece at in
    let held = held_paper c.args.turn.state in
    let waits = take c.args.turn.waiting c.args.output.now in
    let taken = line_taken ours held piece _ at part c.requires.0 in
    let put = put-line (omega (arith, c.as_slice.ensures.fits, c.requires.1)) c.put.ensures in (
      record {
        same =
            line-same ours held _ piece _ waits _ at _ part fed.held fed.taken
            (put.0 ∙ ap (λ (text : List ℕ). waits ++ text) (c.as_slice.ensures.value ∙ fed.shown));
        within = omega (arith, fed.taken, taken.1);
        fits = put.1;
        long = refl;
        over = refl;
        failed = refl;
      },
      omega (arith, fed.taken, taken.0),
    )
