-- `terminal::planning::put_numbers` meets its contract. The invariant: i numbers stand in the part, and with the others
-- stored it is the part with all of them stored.
-- Assumes nothing.
use Prim.Native.Nat.{◌+◌, ◌*◌}
use mathlib.Core.Path.{◌≡◌}
use lib.ListN.{take, drop}
use lib.Seq.{sets}
use Rattle.rules.specs.Numbers.{number_bytes}
use Rattle.terminal.proofs.planning.put_numbers.Given as goal

abbrev pub invariant-loop-i : goal.invariant-loop-i
invariant-loop-i l = (take (2 * l.i) l.part ≡ number_bytes (take l.i l.numbers))
    × (sets l.part (0 + 2 * l.i) (number_bytes (drop l.i l.numbers)) ≡ sets l.initial.part 0 (number_bytes l.numbers))
