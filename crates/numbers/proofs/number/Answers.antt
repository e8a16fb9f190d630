-- `numbers::number` meets its contract.
-- Assumes nothing.
use Prim.Native.Nat.{◌≤◌}
use mathlib.Core.Path.{sym}
use native.Mathlib.Omega.{arith}
use lib.ListN.{length, get_or-eq_default}
use Rattle.rules.specs.Numbers.{numbers_of}
use Rattle.rules.proofs.Numbers.{number-at, numbers-count}
use Rattle.numbers.proofs.number.Goals as goal

pub returns-then-i-s : goal.returns-then-i-s
returns-then-i-s c =
    let s = c.args.s.now in
    let i = c.args.i in
    omega (arith, number-at s i (omega (arith, numbers-count s)), c.from_le_bytes.ensures)

pub returns : goal.returns
returns c =
    let s = c.args.s.now in
    let past : length (numbers_of s) ≤ c.args.i = omega (arith, numbers-count s) in
    sym (get_or-eq_default (numbers_of s) 0 past)
