-- Each promise of `entry` admits one result: two answers that are the same on paper are the same.
-- Assumes nothing.
use Prim.Native.Nat.{ℕ}
use mathlib.Core.Path.{◌≡◌, refl, ap}
use mathlib.Core.List.{List, [], ◌∷◌, map}
use Rattle.std.specs.Prelude.{Result, Ok, Err}
use Rattle.rules.specs.Book as paper
use Rattle.rules.specs.Staged as staged
use Rattle.rules.specs.Sequential as sequential
use Rattle.rules.specs.Variables as variables
use Rattle.rules.specs.Limits as limits
use Rattle.rules.proofs.Answers.{read-back}
use Rattle.entry.specs.Paper.{walk_paper, reduced_paper, staged_paper, sequential_paper, variables_paper, sides_paper}
use Rattle.entry.specs.declared.ReducedSingle.{ReducedSingle}
use Rattle.entry.specs.declared.StagedPlan.{StagedPlan}
use Rattle.entry.specs.declared.SequentialPlan.{SequentialPlan}
use Rattle.entry.specs.declared.VariablesPlan.{VariablesPlan}
use Rattle.entry.specs.declared.SidesPlan.{SidesPlan}
use Rattle.entry.specs.declared.Fault.{Fault}
use Rattle.entry.specs.declared.Fault.TheVariants.{Broken, Short}
use Rattle.entry.specs.declared.Stage.{Stage}

walk_back : paper.Walk → Result ℕ Fault
walk_back (paper.ends p) = Ok p
walk_back (paper.broken p) = Err (Broken p)
walk_back paper.short = Err Short

pub walk-one : (a b : Result ℕ Fault) → walk_paper a ≡ walk_paper b → a ≡ b
unfolding walk_back
walk-one = read-back walk_paper walk_back is
  where
    is : (a : Result ℕ Fault) → walk_back (walk_paper a) ≡ a
    is (Ok p) = refl
    is (Err (Broken p)) = refl
    is (Err Short) = refl

pub reduced-one : (a b : ReducedSingle) → reduced_paper a ≡ reduced_paper b → a ≡ b
reduced-one = read-back reduced_paper (λ p. record { n = p.n; ac = p.ac }) (λ a. refl)

-- stages of their sizes, Ac and Re
abbrev stages_back : List ℕ → List ℕ → List ℕ → List Stage
stages_back (n ∷ ns) (a ∷ acs) (r ∷ res) = record { size = n; ac = a; re = r } ∷ stages_back ns acs res
stages_back _ _ _ = []

-- the code's plan of the documents'
abbrev pub staged_back : staged.StagedPlan → StagedPlan
staged_back p = record { count = p.stages; stages = stages_back p.sizes p.acs p.res }

pub staged-back : (p : StagedPlan) → staged_back (staged_paper p) ≡ p
staged-back p = ap (λ (ss : List Stage). record { count = p.count; stages = ss }) (back p.stages)
  where
    back : (ss : List Stage)
        → stages_back (map (λ (s : Stage). s.size) ss) (map (λ (s : Stage). s.ac) ss) (map (λ (s : Stage). s.re) ss)
        ≡ ss
    back [] = refl
    back (s ∷ ss) = ap (λ (l : List Stage). s ∷ l) (back ss)

abbrev pub sequential_back : sequential.SequentialPlan → SequentialPlan
sequential_back p = record { ha = p.h_a; hr = p.h_r; g = p.g; nt = p.nt; at_nt = p.at_nt }

abbrev pub variables_back : variables.VariablesPlan → VariablesPlan
variables_back p = record { n = p.n; k = p.k }

abbrev pub sides_back : limits.SidesPlan → SidesPlan
sides_back p = record { n = p.n; upper_k = p.upper_k; lower_k = p.lower_k }

pub staged-one : (a b : StagedPlan) → staged_paper a ≡ staged_paper b → a ≡ b
staged-one = read-back staged_paper staged_back staged-back

pub sequential-one : (a b : SequentialPlan) → sequential_paper a ≡ sequential_paper b → a ≡ b
sequential-one = read-back sequential_paper sequential_back (λ a. refl)

pub variables-one : (a b : VariablesPlan) → variables_paper a ≡ variables_paper b → a ≡ b
variables-one = read-back variables_paper variables_back (λ a. refl)

pub sides-one : (a b : SidesPlan) → sides_paper a ≡ sides_paper b → a ≡ b
sides-one = read-back sides_paper sides_back (λ a. refl)
