-- What an answer of the documents is, by the result that stands for it.
-- Assumes nothing.
use mathlib.Core.Path.{◌≡◌}
use Rattle.std.specs.Prelude.{Result, Ok, Err}
use Rattle.rules.specs.Refusals.{Answer, refused, given}
use Rattle.refusals.specs.declared.Reason.{Reason}
use Rattle.refusals.specs.Paper.{number_of, reason_by}

module _ {P A : Type 0} (paper : P → A) {r : Result P Reason} {a : Answer A} (e : reason_by paper r ≡ a) where
  -- refused by the number of the reason ..
  pub planned-refused : {n : Reason} → r ≡ Err n → refused (number_of n) 0 ≡ a
  planned-refused f = rw f at e

  -- .. or given the plan
  pub planned-given : {p : P} → r ≡ Ok p → given (paper p) ≡ a
  planned-given f = rw f at e
