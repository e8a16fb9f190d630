-- `severity::Record::step` meets its contract. Assumes nothing.
use Rattle.severity.proofs.Laws.{step-lot, step-resubmitted, step-steady, step-permission, step-corrective}
use Rattle.severity.proofs.Laws.{step-unknown}
use Rattle.severity.proofs.Record.step.Goals as goal

pub returns-in-Lot : goal.returns-in-Lot
returns-in-Lot c = search step-lot

pub returns-in-Resubmitted : goal.returns-in-Resubmitted
returns-in-Resubmitted c = search step-resubmitted

pub returns-in-Steady : goal.returns-in-Steady
returns-in-Steady c = search step-steady

pub returns-in-Permission : goal.returns-in-Permission
returns-in-Permission c = search step-permission

pub returns-in-Corrective : goal.returns-in-Corrective
returns-in-Corrective c = search step-corrective

pub returns-in-Unknown : goal.returns-in-Unknown
returns-in-Unknown c = search step-unknown
