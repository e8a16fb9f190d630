-- `plans::Place::of` meets its contract: a lot that cannot be planned is refused as its letter is, 6 under reduced, and
-- any other has its place.
-- Assumes nothing.
use Prim.Native.Nat.{ℕ, ◌<◌}
use mathlib.Core.Path.{◌≡◌, refl, ap, sym, ◌∙◌}
use native.Mathlib.Omega.{arith}
use Rattle.std.proofs.lemmas.Result.{err_from_is_err_and}
use Rattle.rules.specs.Refusals.{given}
use Rattle.rules.specs.Entries.{Asked, asked_letter}
use Rattle.rules.proofs.Checks.{asked-plannable, asked-letter, plain-refused, plain-reduced, plain-given}
use Rattle.rules.proofs.Tables.{letter-within}
use Rattle.refusals.specs.Paper.{itself}
use Rattle.plans.specs.Paper.{asked_paper, severity_of, PlaceOf}
use Rattle.plans.proofs.Master.{of-table}
use Rattle.plans.proofs.Standing.{planned-refused, planned-given}
use Rattle.plans.proofs.Place.of.Goals as goal
use Rattle.plans.proofs.Place.of.Goals.{In_ok-letter, in-0, in-1}

abbrev lot : In_ok-letter → Asked
lot c = asked_paper c.args.lot

-- the letter that the lot has
has : (c : In_ok-letter) → asked_letter (lot c) ≡ given c.in_ok-letter.letter
has c = sym (planned-given itself c.asked_letter.ensures c.in_ok-letter.was)

pub returns-in_err-letter : goal.returns-in_err-letter
returns-in_err-letter c =
    let p = err_from_is_err_and c.from_residual.result c.from_residual.ensures.1 in
    rw (p.1, p.2)
    (plain-refused (asked_paper c.args.lot) _ _
    (sym (planned-refused itself c.asked_letter.ensures c.in_err-letter.was)))

pub returns-in_default : goal.returns-in_default
returns-in_default c =
    let at = (goal.at.returns-in_default c).In_ok-letter in
    let p = asked-plannable (lot at) _ (has at) in
    plain-reduced (lot at) _ (has at) (omega (arith, p.severity))

pub invariant_of-result : goal.invariant_of-result
invariant_of-result c =
    let at = (goal.at.invariant_of-result c).In_ok-letter in
    let p = asked-plannable (lot at) _ (has at) in
    let l = asked-letter (lot at) _ (has at) in
    let w = letter-within (lot at).size (lot at).level in
    record { in_table = (p.column, omega arith) }

-- a lot that has its letter and is not under reduced has its place in the table of its severity
placed : (q : Asked) (l v : ℕ) → asked_letter q ≡ given l → v ≡ q.severity → v < 2 → PlaceOf q v q.column l
placed q l v e s h =
    record {
      severity-same = s;
      column-same = refl;
      by-letter = sym (asked-letter q l e);
      planned = rw s (plain-given q l e (λ r. omega arith));
    }

pub returns : goal.returns
returns c =
    let at = (goal.at.returns c).In_ok-letter in
    let e : severity_of c.match-lot.table ≡ (lot at).severity =
    elim c.match-lot.branch [
      | in-0 w ↦ ap severity_of w.table-is ∙ sym w.in-0.is
      | in-1 w ↦ ap severity_of w.table-is ∙ sym w.in-1.is
    ] in
    placed (lot at) _ _ (has at) e (of-table c.match-lot.table)
