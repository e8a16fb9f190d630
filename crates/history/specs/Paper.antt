-- What the list of a history's severities promises, for any work, and what the lent record does. Definitions only.
use Rattle.std.specs.Prelude.{ℕ, ◌≡◌, List, length, Result}
use Rattle.rules.specs.Refusals.{Answer, refused, given}
use Rattle.rules.specs.Supply as paper
use Rattle.rules.specs.History.{Work, listed, left_in}
use Rattle.rules.specs.Entries.{moved}
use Rattle.severity.specs.declared.Event.{Event}
use Rattle.severity.specs.Paper.{event_paper}
use Rattle.supply.specs.declared.Supply.{Supply}
use Rattle.supply.specs.Paper.{supply_paper}
use Rattle.refusals.specs.declared.Refusal.{Refusal}
use Rattle.refusals.specs.Paper.{answer_by, itself}

-- The severity list's whole promise: the answer, and what the buffer then holds by the written reading.
pub record Lists (w : Work) (h out last : List ℕ) (r : Result ℕ Refusal) : Type 0 where
  pub answer : answer_by itself r ≡ listed w h (length out)
  pub buffer : last ≡ left_in (listed w h (length out)) w h out

-- the record that is kept after an answer: "A refusal .. writes nothing"
abbrev pub kept_of : Answer paper.Supply → paper.Supply → paper.Supply
kept_of (refused n k) s = s
kept_of (given t) s = t

-- The lent record's whole promise: the answer, and the record then.
pub record Closes (old : Supply) (e : Event) (new : Supply) (r : Result Supply Refusal) : Type 0 where
  pub answer : answer_by supply_paper r ≡ moved (supply_paper old) (event_paper e)
  pub left : supply_paper new ≡ kept_of (answer_by supply_paper r) (supply_paper old)
