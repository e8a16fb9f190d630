-- `lotlines::line_begun` meets its contract. Assumes nothing.
use mathlib.Core.Path.{ap, ◌∙◌}
use Rattle.severity.specs.Paper.{work_paper}
use Rattle.lotforms.specs.Reading.{form_of}
use Rattle.lotforms.proofs.OneResult.{form-any}
use Rattle.lotlines.proofs.line_begun.Goals as goal

pub returns : goal.returns
returns c =
    rw (← c.in_ok-line.ensures.value)
    (c.line_of.ensures
    ∙ ap (form_of c.args.work.resubmission) c.as_slice.ensures.value
    ∙ form-any (work_paper c.args.work) _)
