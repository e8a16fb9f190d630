-- Each promise of a public function admits one result: the documents' value tells the code's.
-- Assumes nothing.
use mathlib.Core.Path.{◌≡◌, refl, ap}
use Rattle.std.specs.Prelude.{Result}
use Rattle.rules.specs.Supply as paper
use Rattle.refusals.specs.declared.Refusal.{Refusal}
use Rattle.refusals.specs.Paper.{answer_by}
use Rattle.refusals.proofs.OneResult.{answer-one}
use Rattle.severity.proofs.OneResult.{record_back}
use Rattle.supply.specs.declared.CleanRun.{CleanRun}
use Rattle.supply.specs.declared.Supply.{Supply}
use Rattle.supply.specs.Paper.{supply_paper}

abbrev clean_back : paper.CleanRun → CleanRun
clean_back c = record { run = c.run; letter = c.letter; column = c.column }

abbrev pub supply_back : paper.Supply → Supply
supply_back s = record { switching = record_back s.switching; clean = clean_back s.clean }

-- of fresh
pub supply-one : (a b : Supply) → supply_paper a ≡ supply_paper b → a ≡ b
supply-one a b e = ap supply_back e

-- of update and next
pub moved-one : (a b : Result Supply Refusal) → answer_by supply_paper a ≡ answer_by supply_paper b → a ≡ b
moved-one = answer-one supply_paper supply_back (λ x. refl)
