-- The documents' numbers and values for each case of the types of this crate. Definitions only.
use Rattle.rules.specs.Supply as paper
use Rattle.severity.specs.Paper.{record_paper}
use Rattle.supply.specs.declared.CleanRun.{CleanRun}
use Rattle.supply.specs.declared.Supply.{Supply}

abbrev pub clean_paper : CleanRun → paper.CleanRun
clean_paper c = record { run = c.run; letter = c.letter; column = c.column }

abbrev pub supply_paper : Supply → paper.Supply
supply_paper s = paper.supply_of (record_paper s.switching) (clean_paper s.clean)
