-- lotlog's log is a run of calls: the record that it holds after any lines is that of the calls that the lines are, and
-- its output is the one found from the written reading alone.
-- Assumes nothing.
use Prim.Native.Nat.{ℕ}
use mathlib.Core.Path.{◌≡◌, refl, sym, ap, ◌∙◌}
use mathlib.Core.List.{List, [], ◌∷◌, ◌++◌, append_assoc}
use Rattle.rules.specs.Refusals.{Answer, refused, given}
use Rattle.rules.specs.Single.{Plan}
use Rattle.rules.specs.Supply.{Supply}
use Rattle.rules.specs.CleanReading.{supply_read}
use Rattle.rules.specs.History.{Work, event_in}
use Rattle.rules.specs.Entries.{Closed, close_total, next}
use Rattle.rules.specs.Log.{Line, lot_line, order_line, unknown_line, split_at, space, line_of, logged_lot}
use Rattle.rules.specs.Log.{logged_order, logged_as, logged_line, line_after, log_from, header, lines_of, log}
use Rattle.rules.specs.Runs.{Call, entered_by, entered_as, entered, supply_by, ran, events_read}
use Rattle.rules.specs.LogRuns.{calls_by, calls_with, calls_after, held_from, line_from, log_read}
use Rattle.rules.proofs.Runs.{ran-as-read, events-as-read}

lot-held : (line : ℕ) (s : Supply) (a : Answer (Closed Plan)) → (logged_lot line s a).held ≡ supply_by s (entered_by a)
lot-held line s (refused n p) = refl
lot-held line s (given c) = refl

order-held : (w : Work) (b line : ℕ) (s : Supply) (a : Answer Supply)
    → (logged_order line s a).held ≡ supply_by s (entered_as (event_in w b) a)
order-held w b line s (refused n p) = refl
order-held w b line s (given t) = refl

-- one line, on the record of the calls so far
line-held : (w : Work) (line : ℕ) (cs : List Call) (l : Line)
    → (logged_as w line (ran w cs) l).held ≡ ran w (calls_by l cs)
unfolding logged_as ran entered
line-held w line cs (lot_line o d) = lot-held line (ran w cs) (close_total (ran w cs) o d)
line-held w line cs (order_line b) = order-held w b line (ran w cs) (next w (ran w cs) b)
line-held w line cs unknown_line = refl

-- The record held after lines is that of the run of the calls that they are.
pub held-ran : (w : Work) (line : ℕ) (cs : List Call) (ls : List (List ℕ))
    → held_from w line (ran w cs) ls ≡ ran w (calls_after w cs ls)
unfolding held_from calls_after
held-ran w line cs [] = refl
held-ran w line cs (l ∷ ls) =
    ap (λ (s : Supply). held_from w (line_after line) s ls) (line-held w line cs (line_of w (split_at space l)))
    ∙ held-ran w (line_after line) (calls_with w l cs) ls

-- It is what later lines are answered on.
pub log-goes-on : (w : Work) (line : ℕ) (s : Supply) (ls later : List (List ℕ))
    → log_from w line s (ls ++ later) ≡ log_from w line s ls ++ log_from w (line_from line ls) (held_from w line s ls)
    later
unfolding log_from held_from line_from
log-goes-on w line s [] later = refl
log-goes-on w line s (l ∷ ls) later =
    rw (log-goes-on w (line_after line) (logged_line w line s l).held ls later, append_assoc)

-- The record of a run is the written reading's, of the events found from the reading alone.
ran-read : (w : Work) (cs : List Call) → ran w cs ≡ supply_read w.permission (events_read w cs)
ran-read w cs =
    ran-as-read w cs ∙ ap (supply_read w.permission) (sym (events-as-read w cs))

-- Each line is answered on the record that the written reading finds.
pub log-read : (w : Work) (line : ℕ) (cs : List Call) (ls : List (List ℕ))
    → log_from w line (ran w cs) ls ≡ log_read w line cs ls
unfolding log_from log_read
log-read w line cs [] = refl
log-read w line cs (l ∷ ls) =
    rw (line-held w line cs (line_of w (split_at space l)), log-read w (line_after line) (calls_with w l cs) ls)
    (ap (λ (s : Supply). (logged_line w line s l).text ++ log_read w (line_after line) (calls_with w l cs) ls)
    (ran-read w cs))

-- the whole output for a whole input
pub log-as-read : (w : Work) (input : List ℕ) → log w input ≡ header ++ log_read w 1 [] (lines_of input)
unfolding log ran
log-as-read w input = ap (λ (text : List ℕ). header ++ text) (log-read w 1 [] (lines_of input))
