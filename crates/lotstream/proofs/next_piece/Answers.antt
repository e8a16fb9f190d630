-- `lotstream::next_piece` meets its contract.
use Rattle.lotstream.proofs.Pieces.{piece-read}
use Rattle.lotstream.proofs.next_piece.Goals as goal

pub returns : goal.returns
returns g c = piece-read c.requires.0 c.if-turn.false c.requires.1 c.read.ensures.bound c.take_piece.ensures
