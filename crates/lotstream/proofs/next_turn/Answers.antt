-- `lotstream::next_turn` meets its contract.
use mathlib.Core.Path.{sym}
use lib.Seq.{length-take-le}
use Rattle.lotstream.proofs.Turning.{last-line, more-lines}
use borrow.Author.Rules.{rules}
use Rattle.lotstream.proofs.next_turn.Goals as goal

pub returns-then-got-2 : goal.returns-then-got-2
returns-then-got-2 g c =
    last-line c.requires (search rules) c.if-sent-2.false c.next_piece-got.ensures (search rules) (search rules)
    (search rules)
    c.put_last.ensures

pub returns : goal.returns
returns g c =
    let piece = c.next_piece-got in
    let lines = c.log_lines.ensures in
    more-lines c.requires (search rules) c.if-sent-2.false piece.ensures (search rules) (search rules) (search rules)
    lines.0
    lines.1
    (sym (length-take-le _ _ piece.ensures.fits))
