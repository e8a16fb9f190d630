-- The piece is used up, and a read brings the next one.
-- Assumes nothing.
use Prim.Native.Nat.{ℕ, ◌≤◌}
use native.Mathlib.Omega.{arith}
use mathlib.Core.Path.{◌≡◌, ◌∙◌}
use mathlib.Core.List.{List, []}
use borrow.Author.Tests.{le-ltb}
use Rattle.std.proofs.Common.{Result, Ok, Err}
use Rattle.std.specs.Result.{result_unwrap_or}
use Rattle.std.specs.Io.{ReadsAtMost}
use lib.ListN.{length, take, drop, drop_of_length-le}
use lib.Seq.{length-take-le}
use Rattle.lotstream.specs.Turns.{Taken, Got}
use Rattle.lotstream.specs.declared.Turn.{Turn}

pub piece-read : {t r : Turn} {before input : List ℕ} {E : Type 0} {got : Result ℕ E} → t.taken ≤ t.length
    → t.length ≤ t.taken
    → t.length ≤ length before → ReadsAtMost got input → Taken t got r → Got t before input r
piece-read {t} {r} {before} {input} {E} {got} h g l most read =
    record {
      piece = rw (none, read.taken, le-ltb t.taken t.length g);
      within = omega (arith, read.taken);
      fits = fits got most read.long;
      over = read.over ∙ rw (le-ltb t.taken t.length g);
      state = read.state;
      waiting = read.waiting;
    }
  where
    fits : (got : Result ℕ E) → ReadsAtMost got input → r.length ≡ result_unwrap_or got 0 → r.length ≤ length input
    fits (Ok n) m e = omega (arith, m, e)
    fits (Err x) m e = omega (arith, e)

    none : drop t.taken (take t.length before) ≡ []
    none =
        let e : length (take t.length before) ≤ t.taken = omega (arith, length-take-le t.length before l) in
        drop_of_length-le (take t.length before) e
