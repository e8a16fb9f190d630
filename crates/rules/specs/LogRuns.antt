-- lotlog's lines as a run of calls, the record that it holds after them, and its output found from the written reading
-- alone. Lines stand in their order, calls newest first. Definitions only.
use Rattle.std.specs.Prelude.{ℕ, List, [], ◌∷◌, ◌++◌}
use Rattle.rules.specs.Supply.{Supply}
use Rattle.rules.specs.CleanReading.{supply_read}
use Rattle.rules.specs.History.{Work}
use Rattle.rules.specs.Log.{Line, lot_line, order_line, unknown_line, split_at, space, line_of, logged_line, line_after}
use Rattle.rules.specs.Runs.{Call, total, byte, events_read}

-- a line is a call: a lot closed by its total, or an order's history byte; a line of no known form is none
abbrev pub calls_by : Line → List Call → List Call
calls_by (lot_line o d) cs = total o d ∷ cs
calls_by (order_line b) cs = byte b ∷ cs
calls_by unknown_line cs = cs

abbrev pub calls_with : Work → List ℕ → List Call → List Call
calls_with w bytes cs = calls_by (line_of w (split_at space bytes)) cs

-- the calls that lines are, after earlier calls
unfoldable pub calls_after : Work → List Call → List (List ℕ) → List Call
calls_after w cs [] = cs
calls_after w cs (l ∷ ls) = calls_after w (calls_with w l cs) ls

-- the record that lotlog holds after lines, and the number of the line that then comes
unfoldable pub held_from : Work → ℕ → Supply → List (List ℕ) → Supply
held_from w line s [] = s
held_from w line s (l ∷ ls) = held_from w (line_after line) (logged_line w line s l).held ls

unfoldable pub line_from : ℕ → List (List ℕ) → ℕ
line_from line [] = line
line_from line (l ∷ ls) = line_from (line_after line) ls

-- the output: each line is answered on the record that the written reading of the events so far finds
unfoldable pub log_read : Work → ℕ → List Call → List (List ℕ) → List ℕ
log_read w line cs [] = []
log_read w line cs (l ∷ ls) =
    (logged_line w line (supply_read w.permission (events_read w cs)) l).text
    ++ log_read w (line_after line) (calls_with w l cs) ls
