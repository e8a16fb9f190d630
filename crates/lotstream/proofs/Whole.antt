-- The bytes that a run wrote, and those still to be written, are the log of the bytes that it read.
-- Assumes nothing.
use Prim.Native.Nat.{ℕ, ◌<◌, ◌≤◌}
use native.Mathlib.Omega.{arith}
use mathlib.Core.Path.{◌≡◌, refl, ap, sym, ◌∙◌}
use mathlib.Core.Bool.{Bool, true, false, cond}
use mathlib.Core.List.{List, [], ◌∷◌, ◌++◌, append-nil, append_assoc}
use mathlib.Core.Logic.{inl, inr}
use borrow.Author.Tests.{eqb-true}
use lib.Dec.{ltb, eqb}
use lib.ListN.{length, take}
use Rattle.rules.specs.History.{ours}
use Rattle.rules.specs.Log.{log}
use Rattle.rules.proofs.Bounded.{by-le}
use Rattle.lotstream.specs.Turns.{Opened, brought}
use Rattle.lotstream.specs.Runs.{least_room, Scene, scene, writes, reads, unwritten, Ran, read_in, wrote_in}
use Rattle.lotstream.specs.Runs.{Turned, most_turns, Ended, Runs}
use Rattle.lotstream.specs.declared.Turn.{Turn}
use Rattle.lotstream.proofs.Turning.{never}

opened : (now : Scene) → Opened now.output now.turn → (more : List ℕ) → unwritten now more ≡ log ours more
opened now o more = rw (o.over, o.long, o.taken) (rw o.taken at (o.whole more))

nothing-read : (a b : Scene) → a.turn.over ≡ true → reads a b ≡ []
nothing-read a b e = rw e

-- The turn in which the input is over brought no byte.
none-brought : (kept : Bool) (n : ℕ) (input : List ℕ) → cond kept false (eqb n 0) ≡ true
    → cond kept [] (take n input) ≡ []
none-brought true n input e = refl
none-brought false n input e = ap (λ (k : ℕ). take k input) (eqb-true n 0 e)

pub end-brings-none : {a b : Scene} → Turned a b → a.turn.over ≡ false → b.turn.over ≡ true
    → b.turn.failed ≡ false → reads a b ≡ []
end-brings-none {a} {b} turned o e f =
    ap (λ (t : Bool). cond t [] (brought a.turn b.turn b.input)) o
    ∙ none-brought (ltb a.turn.taken a.turn.length) b.turn.length b.input (sym (turned.ends f o) ∙ e)

pub run-log : (past : List Scene) (now : Scene) → Ran past now → now.turn.failed ≡ false → (more : List ℕ)
    → (now.turn.over ≡ true → more ≡ [])
    → log ours (read_in past now ++ more) ≡ wrote_in past ++ unwritten now more
unfolding Ran read_in wrote_in
run-log [] now r f more e = sym (opened now r more)
run-log (before ∷ past) now r f more e =
    ap (log ours) (append_assoc (read_in past before) (reads before now) more)
    ∙ run-log past before r.0 r.1 (reads before now ++ more)
    (λ o. ap (λ (l : List ℕ). l ++ more) (nothing-read before now o) ∙ e (r.2.stays o))
    ∙ ap (λ (l : List ℕ). wrote_in past ++ l) (r.2.account f more e)
    ∙ sym (append_assoc (wrote_in past) (writes before) (unwritten now more))

-- At the end of the input, with nothing left to write: all was written.
ran-whole : (past : List Scene) (now : Scene) → Ran past now → now.turn.failed ≡ false → now.turn.over ≡ true
    → now.turn.waiting ≡ 0 → wrote_in past ≡ log ours (read_in past now)
ran-whole past now r f o n =
    sym (append-nil (wrote_in past))
    ∙ ap (λ (l : List ℕ). wrote_in past ++ l) (sym none)
    ∙ sym (run-log past now r f [] (λ _. refl))
    ∙ ap (log ours) (append-nil (read_in past now))
  where
    none : unwritten now [] ≡ []
    none = rw (o, n)

-- What `run` promises, where its answer has not failed: the answer is that of turns, and where any turn was left, the
-- input is over and all was written.
pub run-whole : {input out read put : List ℕ} {r : Turn} → Runs input out read put r → r.failed ≡ false
    → (past : List Scene)
    × Ran past (scene r read put)
    × (length past < most_turns → (r.over ≡ true) × (wrote_in past ≡ log ours (read_in past (scene r read put))))
run-whole {out = out} {read = read} {put = put} {r = r} p f = (ran.0, ran.1, λ l. ends l ran.2)
  where
    room : least_room ≤ length out
    room = by-le least_room (length out) (λ h. h) (λ l. never (p.small l).failed f)

    ran : (past : List Scene) × Ran past (scene r read put) × Ended past r
    ran = p.ran room

    ends : length ran.0 < most_turns → Ended ran.0 r
        → (r.over ≡ true) × (wrote_in ran.0 ≡ log ours (read_in ran.0 (scene r read put)))
    ends l (inl e) = never e f
    ends l (inr (inl e)) = (e.0, ran-whole ran.0 (scene r read put) ran.1 f e.0 e.1)
    ends l (inr (inr e)) = absurd (omega arith)
