-- The documents' answer for each result of the code. Definitions only.
use Rattle.std.specs.Prelude.{ℕ, Result, Ok, Err}
use Rattle.rules.specs.Refusals.{Answer, refused, given, unknown_form, lot_too_small, no_such_level, no_such_column}
use Rattle.rules.specs.Refusals.{while_stopped, no_plan, wrong_length, illegal_item, out_of_range, not_stopped}
use Rattle.rules.specs.Refusals.{buffer_short, broken_book}
use Rattle.refusals.specs.declared.Reason.{Reason}
use Rattle.refusals.specs.declared.Reason.TheVariants as reasons
use Rattle.refusals.specs.declared.Refusal.{Refusal}

-- "Refusals": each reason's number
abbrev pub number_of : Reason → ℕ
number_of reasons.UnknownForm = unknown_form
number_of reasons.LotTooSmall = lot_too_small
number_of reasons.NoSuchLevel = no_such_level
number_of reasons.NoSuchColumn = no_such_column
number_of reasons.WhileStopped = while_stopped
number_of reasons.NoPlan = no_plan
number_of reasons.WrongLength = wrong_length
number_of reasons.IllegalItem = illegal_item
number_of reasons.OutOfRange = out_of_range
number_of reasons.NotStopped = not_stopped
number_of reasons.BufferShort = buffer_short
number_of reasons.BrokenBook = broken_book

-- a reason that names no place
abbrev pub at_start : Reason → Refusal
at_start reason = record { reason = reason; place = 0 }

-- A result as the documents' answer: its value by its paper, a refusal by its number and place ..
abbrev pub answer_by : {T A : Type 0} → (T → A) → Result T Refusal → Answer A
answer_by paper (Ok x) = given (paper x)
answer_by paper (Err r) = refused (number_of r.reason) r.place

-- .. which is 0 for a reason alone.
abbrev pub reason_by : {T A : Type 0} → (T → A) → Result T Reason → Answer A
reason_by paper (Ok x) = given (paper x)
reason_by paper (Err r) = refused (number_of r) 0

-- a value that is its own paper
abbrev pub itself : {A : Type 0} → A → A
itself a = a
