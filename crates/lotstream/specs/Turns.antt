-- What each step of a turn leaves: what is held, what is left of the piece, and what waits in the output. Definitions
-- only.
use Rattle.std.specs.Prelude.{ℕ, ◌+◌, ◌≤◌, ◌≡◌, false, cond, List, [], ◌++◌, ltb, eqb, length, take, drop, Result}
use Rattle.std.specs.Result.{result_unwrap_or, is_err}
use Rattle.rules.specs.History.{ours}
use Rattle.rules.specs.Log.{log}
use Rattle.rules.specs.Feeding.{finished, onwards}
use Rattle.lotlines.specs.Paper.{held_paper, Starts}
use Rattle.lotstream.specs.declared.Turn.{Turn}

-- Before anything is read.
pub record Fresh (r : Turn) : Type 0 where
  pub state : Starts ours r.state
  pub long : r.length ≡ 0
  pub taken : r.taken ≡ 0
  pub waiting : r.waiting ≡ 0
  pub over : r.over ≡ false
  pub failed : r.failed ≡ false

-- a text put whole behind what waits, and the rest as it was
pub record PutAfter (waiting : ℕ) (text out last : List ℕ) (r : ℕ) : Type 0 where
  pub next : r ≡ waiting + length text
  pub stored : last ≡ (take waiting out ++ text) ++ drop (waiting + length text) out

abbrev pub waits : Turn → List ℕ → List ℕ
waits t output = take t.waiting output

abbrev pub left : Turn → List ℕ → List ℕ
left t piece = drop t.taken piece

-- what is still to be written: what waits, and the output for the rest of the piece and what comes after it
abbrev pub to_come : Turn → List ℕ → List ℕ → List ℕ → List ℕ
to_come t piece output more = waits t output ++ onwards ours (held_paper t.state) (left t piece ++ more)

-- Lines of a piece: what is to be written stays, whatever comes after the piece.
pub record Logs (t : Turn) (piece out last : List ℕ) (r : Turn) : Type 0 where
  pub same : (more : List ℕ) → to_come r piece last more ≡ to_come t piece out more
  pub within : r.taken ≤ length piece
  pub fits : r.waiting ≤ length out
  pub long : r.length ≡ t.length
  pub over : r.over ≡ t.over
  pub failed : r.failed ≡ t.failed

-- The first turn: the whole log is to be written, whatever the input is.
pub record Opened (out : List ℕ) (r : Turn) : Type 0 where
  pub whole : (input : List ℕ) → to_come r [] out input ≡ log ours input
  pub long : r.length ≡ 0
  pub taken : r.taken ≡ 0
  pub fits : r.waiting ≤ length out
  pub over : r.over ≡ false
  pub failed : r.failed ≡ false

-- The last line: what it prints waits behind what waited.
pub record LastPut (t : Turn) (out last : List ℕ) (r : Turn) : Type 0 where
  pub text : waits r last ≡ waits t out ++ finished ours (held_paper t.state)
  pub state : r.state ≡ t.state
  pub fits : r.waiting ≤ length out
  pub long : r.length ≡ t.length
  pub taken : r.taken ≡ t.taken
  pub over : r.over ≡ t.over
  pub failed : r.failed ≡ t.failed

-- Nothing waits any more.
pub record Written (t r : Turn) : Type 0 where
  pub none : r.waiting ≡ 0
  pub state : r.state ≡ t.state
  pub long : r.length ≡ t.length
  pub taken : r.taken ≡ t.taken
  pub over : r.over ≡ t.over

-- The piece of as many bytes as the read answered; none is the end of the input, and none after a read that failed.
pub record Taken {E : Type 0} (t : Turn) (read : Result ℕ E) (r : Turn) : Type 0 where
  pub long : r.length ≡ result_unwrap_or read 0
  pub taken : r.taken ≡ 0
  pub over : r.over ≡ eqb r.length 0
  pub failed : r.failed ≡ is_err read
  pub state : r.state ≡ t.state
  pub waiting : r.waiting ≡ t.waiting

-- the bytes that a read brought: none where the piece was not used up
abbrev pub brought : Turn → Turn → List ℕ → List ℕ
brought t r input = cond (ltb t.taken t.length) [] (take r.length input)

pub record Got (t : Turn) (before input : List ℕ) (r : Turn) : Type 0 where
  pub piece : left r (take r.length input) ≡ left t (take t.length before) ++ brought t r input
  pub within : r.taken ≤ r.length
  pub fits : r.length ≤ length input
  pub over : r.over ≡ cond (ltb t.taken t.length) t.over (eqb r.length 0)
  pub state : r.state ≡ t.state
  pub waiting : r.waiting ≡ t.waiting
