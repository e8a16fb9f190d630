-- `lotforms::value` meets its contract. Assumes nothing.
use Rattle.lotforms.proofs.Reading.{Reads}
use Rattle.lotforms.proofs.value.Given as goal

abbrev pub invariant-loop-b : goal.invariant-loop-b
invariant-loop-b l = Reads l.digits l.b-index l.value
