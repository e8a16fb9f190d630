-- `lottexts::push_size` meets its contract. Assumes nothing.
use native.Mathlib.Omega.{arith}
use mathlib.Core.Path.{ap, ◌∙◌}
use mathlib.Core.List.{◌++◌}
use Rattle.plans.specs.Paper.{plan_paper}
use Rattle.lottexts.specs.Texts.{text_of}
use Rattle.lottexts.proofs.Printing.{same-decimal, uncut-text}
use Rattle.lottexts.proofs.push_size.Goals as goal

pub returns-else-plan-clause-bytes : goal.returns-else-plan-clause-bytes
returns-else-plan-clause-bytes c =
    c.push_number.ensures.bytes
    ∙ ap (λ digits. text_of c.args.text.now ++ digits)
    (same-decimal c.args.plan.n (omega arith) ∙ uncut-text (plan_paper c.args.plan) c.if-plan.false)
