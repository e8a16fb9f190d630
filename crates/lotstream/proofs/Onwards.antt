-- The output for the bytes that are still to come: line by line, and from the start.
-- Assumes nothing.
use Prim.Native.Nat.{ℕ, ◌+◌, ◌-◌, ◌≤◌, ◌<◌}
use native.Mathlib.Omega.{arith}
use mathlib.Core.Path.{◌≡◌, ap, sym, ◌∙◌}
use mathlib.Core.List.{List, ◌++◌, append_assoc}
use lib.ListN.{length, take, drop, take-append-drop, length-drop}
use lib.Seq.{drop-drop}
use Rattle.rules.specs.History.{Work, ours}
use Rattle.rules.specs.Log.{header, log}
use Rattle.rules.specs.Feeding.{Held, starting, fed, onwards}
use Rattle.rules.proofs.Feeding.{fed-onwards, all-onwards, some-taken, taken-within}
use Rattle.lotlines.specs.declared.State.{State}
use Rattle.lotlines.specs.declared.Fed.{Fed}
use Rattle.lotlines.specs.Paper.{Feeds}

-- a line, and then the rest of the piece and what comes after it
pub line-onwards : (w : Work) (s : Held) (p more : List ℕ)
    → (fed w s p).text ++ onwards w (fed w s p).kept (drop (fed w s p).taken p ++ more) ≡ onwards w s (p ++ more)
line-onwards w s p more =
    sym (fed-onwards w s p (drop (fed w s p).taken p ++ more))
    ∙ ap (onwards w s)
    (sym (append_assoc (take (fed w s p).taken p) (drop (fed w s p).taken p) more)
    ∙ ap (λ (l : List ℕ). l ++ more) (take-append-drop (fed w s p).taken p))

-- .. where the piece is read from a place on, and the line's text waits
pub line-same : (w : Work) (s t : Held) (piece part before then : List ℕ) (at taken : ℕ) → part ≡ drop at piece
    → t ≡ (fed w s part).kept → taken ≡ (fed w s part).taken → then ≡ before ++ (fed w s part).text → (more : List ℕ)
    → then ++ onwards w t (drop (at + taken) piece ++ more) ≡ before ++ onwards w s (drop at piece ++ more)
line-same w s t piece part before then at taken e h k x more =
    rw (← drop-drop taken at piece, ← e, x, h, k)
    (append_assoc before (fed w s part).text (onwards w (fed w s part).kept (drop (fed w s part).taken part ++ more))
    ∙ ap (λ (l : List ℕ). before ++ l) (line-onwards w s part more))

pub line_taken : (w : Work) (s : Held) (piece part : List ℕ) (at : ℕ) → part ≡ drop at piece → at < length piece
    → (0 < (fed w s part).taken) × (at + (fed w s part).taken ≤ length piece)
line_taken w s piece part at e h =
    let long : length part ≡ length piece - at = ap length e ∙ length-drop at piece in
    (some-taken w s part (omega (arith, long)), omega (arith, long, taken-within w s part))

-- Our work, by its name.
pub feeds-ours : {w : Work} {s : State} {piece : List ℕ} {r : Fed} → w ≡ ours → Feeds w s piece r → Feeds ours s piece r
feeds-ours e f = rw e at f

pub all-same : (w : Work) (s : Held) (waits : List ℕ) → s ≡ starting w → waits ≡ header → (input : List ℕ)
    → waits ++ onwards w s input ≡ log w input
all-same w s waits e h input = rw (e, h) (all-onwards w input)
