-- What a check tries at each exit of a walk.
-- Assumes nothing.
pub use Rattle.rules.proofs.Numbers.{numbers-low}
pub use Rattle.rules.proofs.SampleSteps.{ended-there, ended-past}
pub use Rattle.rules.proofs.SampleSteps.{sequential-start, sequential-short, sequential-over, sequential-decides}
pub use Rattle.rules.proofs.SampleSteps.{sequential-goes, goes-before}
pub use Rattle.rules.proofs.SampleSteps.{curtailed-start, curtailed-done, curtailed-missing, curtailed-over}
pub use Rattle.rules.proofs.SampleSteps.{curtailed-lost, curtailed-goes}
pub use Rattle.rules.proofs.SampleSteps.{taking-start, taking-done, taking-missing, taking-over, taking-item}
pub use Rattle.rules.proofs.SampleSteps.{staged-start, staged-done, staged-missing, staged-over, staged-decides}
pub use Rattle.rules.proofs.SampleSteps.{staged-goes, taken-there}
pub use Rattle.samples.proofs.Reading.{item-legal, item-refused, take-refused, take-given}

pub ruleset ends = (ended-there, ended-past, numbers-low)

pub ruleset sequential_steps =
    (sequential-start, sequential-short, sequential-over, sequential-decides, sequential-goes, goes-before)

pub ruleset curtailed_steps = (
  curtailed-start,
  curtailed-done,
  curtailed-missing,
  curtailed-over,
  curtailed-lost,
  curtailed-goes,
  item-legal,
  item-refused,
)

pub ruleset taking_steps =
    (taking-start, taking-done, taking-missing, taking-over, taking-item, item-legal, item-refused)

pub ruleset staged_steps = (
  staged-start,
  staged-done,
  staged-missing,
  staged-over,
  staged-decides,
  staged-goes,
  taken-there,
  take-refused,
  take-given,
)
