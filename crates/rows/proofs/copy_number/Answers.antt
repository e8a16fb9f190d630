-- `rows::copy_number` meets its contract.
-- Assumes nothing.
use Prim.Native.Nat.{ℕ, ◌+◌, ◌*◌, ◌-◌, ◌<◌}
use mathlib.Core.Path.{◌≡◌, ap, ◌∙◌}
use native.Mathlib.Omega.{arith}
use lib.ListN.{length, take, drop}
use lib.Seq.{sets}
use Rattle.rules.specs.Numbers.{numbers_of}
use Rattle.rules.proofs.Numbers.{numbers-count}
use Rattle.rows.proofs.Stores.{put-sets, two-bytes}
use Rattle.rows.proofs.copy_number.Goals as goal

pub returns : goal.returns
returns c =
    let from = c.args.from.now in
    let i = c.args.i in
    let to = c.args.to.now in
    let there : i < length (numbers_of from) = omega (arith, numbers-count from) in
    let two : 2 * i + 2 - 2 * i ≡ 2 = omega arith in
    put-sets (2 * c.args.at) _ to _ (omega (arith, c.copy_from_slice.ensures.len)) (omega arith)
    ∙ ap (sets to (2 * c.args.at))
    (c.copy_from_slice.ensures.after ∙ ap (λ (n : ℕ). take n (drop (2 * i) from)) two
    ∙ two-bytes from i there (omega (arith, c.type_inv.from (2 * i))))
