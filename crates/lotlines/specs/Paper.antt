-- What a state stands for, and the whole of what each public function promises. Definitions only.
use Rattle.std.specs.Prelude.{ℕ, ◌+◌, ◌≡◌, cond, List, ◌++◌, leb, length, Option, Some, None}
use Rattle.rules.specs.Refusals.{Answer, refused, given}
use Rattle.rules.specs.Supply as rules
use Rattle.rules.specs.History.{Work}
use Rattle.rules.specs.Log as log
use Rattle.rules.specs.Log.{logged, refused_line}
use Rattle.rules.specs.Feeding.{Begun, so_far, too_long, longest_line, Held, holding, starting, fed}
use Rattle.supply.specs.Paper.{supply_paper}
use Rattle.lottexts.specs.declared.text.Text.{Text}
use Rattle.lottexts.specs.Texts.{text_of}
use Rattle.lotlines.specs.declared.Logged.{Logged}
use Rattle.lotlines.specs.declared.State.{State}
use Rattle.lotlines.specs.declared.Fed.{Fed}

abbrev pub logged_paper : Logged → log.Logged
logged_paper l = logged (supply_paper l.supply) (text_of l.text)

-- a refused line prints its refusal, and changes nothing
abbrev pub logged_on : ℕ → rules.Supply → Answer log.Logged → log.Logged
logged_on line s (refused number p) = logged s (refused_line line number)
logged_on line s (given l) = l

-- the unfinished line: its bytes, or too long
abbrev pub begun_paper : Option (Text longest_line) → Begun
begun_paper (Some line) = so_far (text_of line)
begun_paper None = too_long

-- .. with more bytes, where there is room for all of them
abbrev pub grown : Begun → List ℕ → Begun
grown (so_far line) bytes =
    cond (leb (length line + length bytes) longest_line) (so_far (line ++ bytes)) too_long
grown too_long bytes = too_long

abbrev pub held_paper : State → Held
held_paper s = holding (supply_paper s.supply) s.line (begun_paper s.begun)

-- .. and with more bytes
abbrev pub held_with : State → List ℕ → Held
held_with s bytes = holding (supply_paper s.supply) s.line (grown (begun_paper s.begun) bytes)

abbrev pub Starts : Work → State → Type 0
Starts w r = held_paper r ≡ starting w

-- feed's whole promise: what is held, taken and printed
pub record Feeds (w : Work) (s : State) (piece : List ℕ) (r : Fed) : Type 0 where
  pub held : held_paper r.state ≡ (fed w (held_paper s) piece).kept
  pub taken : r.taken ≡ (fed w (held_paper s) piece).taken
  pub shown : text_of r.text ≡ (fed w (held_paper s) piece).text
