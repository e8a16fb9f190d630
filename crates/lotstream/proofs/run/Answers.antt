-- `lotstream::run` meets its contract.
use mathlib.Core.Path.{refl}
use mathlib.Core.Logic.{inl, inr}
use Rattle.lotstream.proofs.Turning.{run-opened, run-more, runs-now, runs-more}
use borrow.Author.Rules.{rules}
use Rattle.lotstream.proofs.run.Goals as goal
use Rattle.lotstream.proofs.run.Goals.{then-turn-via-then-turn, then-turn-via-else-turn+then-turn-eq0}

pub loop-turns-init : goal.loop-turns-init
loop-turns-init g c = (run-opened c.open_log-turn.ensures (search rules), refl, refl)

pub next_turn-turn-requires : goal.next_turn-turn-requires
next_turn-turn-requires g c = c.loop-turns.invariant.0.fits

pub returns-then-turn : goal.returns-then-turn
returns-then-turn g c =
    runs-more (search rules)
    (λ _. elim c.then-turn.branch [
      | then-turn-via-then-turn w ↦ inl w.if-turn.true
      | then-turn-via-else-turn+then-turn-eq0 w ↦ inr (inl w.if-turn-eq0.true)
    ])
    c.loop-turns.invariant.0
    c.next_turn-turn.ensures

pub loop-turns-preserved : goal.loop-turns-preserved
loop-turns-preserved g c =
    (run-more c.loop-turns.invariant.0 c.next_turn-turn.ensures c.if-turn.false, search rules, search rules)

pub returns : goal.returns
returns g c = runs-now (search rules) (search rules) c.loop-turns.invariant.0
