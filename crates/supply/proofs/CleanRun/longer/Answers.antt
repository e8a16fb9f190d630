-- `supply::CleanRun::longer` meets its contract. Assumes nothing.
use Rattle.std.proofs.Common.{ℕ, zero, suc, ◌+◌, ◌≡◌, min, refl, arith}
use Rattle.rules.specs.Supply.{CleanRun, run_on, longer_run}
use Rattle.supply.proofs.Laws.{run-of-one, run-of-two}
use Rattle.supply.proofs.CleanRun.longer.Goals as goal

-- the run that is made, by the run before
by-before : (c : CleanRun) (letter column before m : ℕ) → before ≡ run_on c letter column → m ≡ min before 1
    → record { run = m + 1; letter = letter; column = column } ≡ longer_run c letter column
by-before c letter column zero m e q =
    let z : m ≡ 0 = omega (arith, q) in
    rw z (run-of-one c letter column zero e refl)
by-before c letter column (suc b) m e q =
    let z : m ≡ 1 = omega (arith, q) in
    rw z (run-of-two c letter column (suc b) e (λ k. omega arith))

pub returns : goal.returns
returns c = by-before _ _ _ _ _ (rw c.from.ensures at c.run_on-before.ensures) c.min.ensures
