-- `lotlines::line_with` meets its contract. Assumes nothing.
use mathlib.Core.Path.{◌≡◌, ap, sym, ◌∙◌}
use borrow.Author.Rules.{rules}
use borrow.Author.Tests.{tests}
use lib.ListN.{length}
use Rattle.lottexts.specs.Texts.{text_of}
use Rattle.severity.specs.Paper.{work_paper}
use Rattle.rules.specs.Feeding.{line_begun}
use Rattle.lotforms.specs.Reading.{form_of}
use Rattle.lotforms.proofs.OneResult.{form-any}
use Rattle.lotlines.proofs.Keeping.{alone-with}
use Rattle.lotlines.proofs.line_with.Goals as goal

pub returns-then-is_empty : goal.returns-then-is_empty
returns-then-is_empty c =
    let begun = c.in_ok-begun.begun.now in
    let none : length c.as_slice.result.now ≡ 0 = search (rules, tests) in
    rw (← c.in_ok-begun.ensures.value)
    (c.line_of.ensures
    ∙ form-any (work_paper c.args.work) _
    ∙ alone-with (work_paper c.args.work) begun _ (ap length (sym c.as_slice.ensures.value) ∙ none))

pub returns : goal.returns
returns c =
    let w = work_paper c.args.work in
    c.line_of-2.ensures
    ∙ ap (form_of c.args.work.resubmission) c.as_slice-2.ensures.value
    ∙ form-any w _
    ∙ ap (line_begun w) c.in_ok-line.ensures
