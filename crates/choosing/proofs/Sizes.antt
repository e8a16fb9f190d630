-- The items of a staged plan's stages; and that a plan read from an entry has few.
-- Assumes nothing.
use Prim.Native.Nat.{ℕ, zero, suc, ◌+◌, ◌≤◌}
use mathlib.Core.Path.{◌≡◌, refl, sym, ap, ◌∙◌}
use mathlib.Core.Bool.{Bool, true, false, cond}
use mathlib.Core.List.{List, [], ◌∷◌}
use native.Mathlib.Omega.{arith}
use borrow.Author.Tests.{leb-true}
use lib.Dec.{leb}
use lib.ListN.{take, drop, get_or}
use Rattle.std.specs.Prelude.{map, sum_by}
use Rattle.std.proofs.Math.Seq.{take-nil}
use Rattle.std.proofs.lemmas.List.Sums.{sum_by-cons}
use Rattle.rules.specs.Staged.{stages_from, stages_of, total_size}
use Rattle.rules.specs.Book.{staged_of}
use Rattle.entry.specs.declared.Stage.{Stage}
use Rattle.entry.specs.declared.StagedPlan.{StagedPlan}
use Rattle.entry.specs.Paper.{staged_paper, no_stages, staged_read}

abbrev size : Stage → ℕ
size s = s.size

-- one stage more, which has no items past the last
one-more : (k i : ℕ) (ss : List Stage)
    → get_or (map size ss) i 0 + sum_by size (take k (drop (suc i) ss)) ≡ sum_by size (take (suc k) (drop i ss))
one-more k zero [] = rw (take-nil {A = Stage} k)
one-more k (suc i) [] = rw (take-nil {A = Stage} k)
one-more k zero (s ∷ ss) = sym (sum_by-cons size s (take k ss))
one-more k (suc i) (s ∷ ss) = one-more k i ss

from-stage : (k i : ℕ) (p : StagedPlan)
    → sum_by size (take k (drop i p.stages)) ≡ total_size (stages_from k i (staged_paper p))
unfolding total_size stages_from
from-stage zero i p = refl
from-stage (suc k) i p =
    sym (one-more k i p.stages)
    ∙ ap (λ (n : ℕ). get_or (map size p.stages) i 0 + n) (from-stage k (suc i) p)

pub total-is : (p : StagedPlan) → sum_by size (take p.count p.stages) ≡ total_size (stages_of (staged_paper p))
total-is p = from-stage p.count 0 p

-- a staged entry read by itself has at most seven stages
pub read-few : (e : List ℕ) → (staged_read e).stages ≤ 7
read-few e = go (leb (get_or e 3 0) 7) refl
  where
    go : (t : Bool) → leb (get_or e 3 0) 7 ≡ t → (cond t (staged_of e) no_stages).stages ≤ 7
    go true h = leb-true (get_or e 3 0) 7 h
    go false h = omega arith
