-- A run, turn by turn: the bytes that its reads brought, and those that its writes were handed. Definitions only.
use Rattle.std.specs.Prelude.{ℕ, ◌+◌, ◌<◌, ◌≤◌, ◌≡◌, true, false, cond, List, [], ◌∷◌, ◌++◌, ◌⊎◌, ltb, eqb, length}
use Rattle.std.specs.Prelude.{take}
use Rattle.rules.specs.History.{ours}
use Rattle.rules.specs.Feeding.{onwards}
use Rattle.lottexts.specs.Printing.{line_room}
use Rattle.lotlines.specs.Paper.{held_paper, Starts}
use Rattle.lotstream.specs.Turns.{Opened, waits, left, brought}
use Rattle.lotstream.specs.declared.Turn.{Turn}

-- the least output to work in: room for the header, and for another line
abbrev pub least_room : ℕ
least_room = 100

-- a turn, and the lent memory then
pub record Scene : Type 0 where
  pub turn : Turn
  pub input : List ℕ
  pub output : List ℕ

abbrev pub scene : Turn → List ℕ → List ℕ → Scene
scene t input output = record { turn = t; input = input; output = output }

pub record Fits (s : Scene) : Type 0 where
  pub taken : s.turn.taken ≤ s.turn.length
  pub long : s.turn.length ≤ length s.input
  pub waiting : s.turn.waiting ≤ length s.output
  pub room : least_room ≤ length s.output

-- what a turn writes first: all that waits
abbrev pub writes : Scene → List ℕ
writes s = waits s.turn s.output

-- what it reads then: nothing after the end, nor while bytes of the piece are left
abbrev pub reads : Scene → Scene → List ℕ
reads a b = cond a.turn.over [] (brought a.turn b.turn b.input)

-- what is still to be written: after the end of the input only what waits
abbrev pub unwritten : Scene → List ℕ → List ℕ
unwritten s more =
    writes s
    ++ cond s.turn.over []
    (onwards ours (held_paper s.turn.state) (left s.turn (take s.turn.length s.input) ++ more))

-- A turn, where no call fails: what was to be written, with what it reads, is what it writes and what is to be written
-- after it; the lines of the piece are answered but where another might find no room; and the input is over where the
-- piece is used up and the read brings no byte, and only there. Where a call fails, nothing waits: a line that a failed
-- read cut is not answered. At the end and after a failure what is held stays.
pub record Turned (a b : Scene) : Type 0 where
  pub account :
      b.turn.failed ≡ false → (more : List ℕ) → (b.turn.over ≡ true → more ≡ [])
      → unwritten a (reads a b ++ more) ≡ writes a ++ unwritten b more
  pub answered :
      b.turn.failed ≡ false → b.turn.over ≡ false → b.turn.waiting + line_room ≤ length b.output
      → b.turn.taken ≡ b.turn.length
  pub cut : b.turn.failed ≡ true → b.turn.waiting ≡ 0
  pub ends :
      b.turn.failed ≡ false → a.turn.over ≡ false
      → b.turn.over ≡ cond (ltb a.turn.taken a.turn.length) false (eqb b.turn.length 0)
  pub stays : a.turn.over ≡ true → b.turn.over ≡ true
  pub held : (b.turn.over ≡ true) ⊎ (b.turn.failed ≡ true) → b.turn.state ≡ a.turn.state
  pub fits : Fits b

-- The turns of a run, the newest first.
unfoldable pub Ran : List Scene → Scene → Type 0
Ran [] now = Opened now.output now.turn
Ran (before ∷ past) now = Ran past before × (before.turn.failed ≡ false) × Turned before now

-- .. the bytes that it read, and the bytes that it wrote
unfoldable pub read_in : List Scene → Scene → List ℕ
read_in [] now = []
read_in (before ∷ past) now = read_in past before ++ reads before now

unfoldable pub wrote_in : List Scene → List ℕ
wrote_in [] = []
wrote_in (before ∷ past) = wrote_in past ++ writes before

-- the turns that a run is given, more than any comes to
abbrev pub most_turns : ℕ
most_turns = 18446744073709551615

-- A run that goes on, after so many turns.
pub record Running (turns : ℕ) (now : Scene) : Type 0 where
  pub past : List Scene
  pub ran : Ran past now
  pub count : length past ≡ turns
  pub going : now.turn.failed ≡ false
  pub fits : Fits now

-- How a run ends: a call failed, or the input is over and all is written, or no turn is left.
abbrev pub Ended : List Scene → Turn → Type 0
Ended past r = (r.failed ≡ true) ⊎ ((r.over ≡ true) × (r.waiting ≡ 0)) ⊎ (length past ≡ most_turns)

-- With too little room nothing is done, and the answer is that of a failure.
pub record Refused (input out input_after out_after : List ℕ) (r : Turn) : Type 0 where
  pub same_input : input_after ≡ input
  pub same_output : out_after ≡ out
  pub state : Starts ours r.state
  pub long : r.length ≡ 0
  pub taken : r.taken ≡ 0
  pub waiting : r.waiting ≡ 0
  pub over : r.over ≡ false
  pub failed : r.failed ≡ true

-- The whole promise: with too little room no turn is taken, else the answer is that of a run of turns up to its end.
pub record Runs (input out input_after out_after : List ℕ) (r : Turn) : Type 0 where
  pub small : length out < least_room → Refused input out input_after out_after r
  pub ran : least_room ≤ length out → (past : List Scene) × Ran past (scene r input_after out_after) × Ended past r
