-- `lottexts::lot` meets its contract. Assumes nothing.
use native.Mathlib.Omega.{arith}
use Rattle.plans.specs.Paper.{plan_paper}
use Rattle.lottexts.proofs.Printing.{same-decimal, lot-text}
use Rattle.lottexts.proofs.lot.Goals as goal

pub returns : goal.returns
returns c =
    let args = c.args in
    rw (
      c.push_after.ensures,
      c.extend-3.ensures.bytes,
      c.verdict.ensures,
      c.push_number-2.ensures.bytes,
      c.extend-2.ensures.bytes,
      c.push_size.ensures.bytes,
      c.extend.ensures.bytes,
      c.name.ensures,
      c.name-2.ensures,
      c.push_number.ensures.bytes,
      c.new-text.ensures,
      same-decimal args.line (omega arith),
      same-decimal args.plan.ac (omega arith),
    )
    (lot-text args.line args.used (plan_paper args.plan) args.accepted args.severity args.score)
