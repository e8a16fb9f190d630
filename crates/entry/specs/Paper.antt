-- Document 01's values for each case of the code's types. Definitions only.
use Rattle.std.specs.Prelude.{ℕ, ◌+◌, Bool, cond, ◌&&◌, List, [], leb, ltb, eqb, length}
use Rattle.std.specs.Prelude.{get_or, map, Result, Ok, Err}
use Rattle.rules.specs.Book as paper
use Rattle.rules.specs.Book.{Kind, kind_at, size_of, key_of, key_for, rises, numbers_from, every, seven, staged_of}
use Rattle.rules.specs.Staged as staged
use Rattle.rules.specs.Sequential as sequential
use Rattle.rules.specs.Variables as variables
use Rattle.rules.specs.Limits as limits
use Rattle.entry.specs.declared.ReducedSingle.{ReducedSingle}
use Rattle.entry.specs.declared.Stage.{Stage}
use Rattle.entry.specs.declared.StagedPlan.{StagedPlan}
use Rattle.entry.specs.declared.SequentialPlan.{SequentialPlan}
use Rattle.entry.specs.declared.VariablesPlan.{VariablesPlan}
use Rattle.entry.specs.declared.SidesPlan.{SidesPlan}
use Rattle.entry.specs.declared.Key.{Key}
use Rattle.entry.specs.declared.Fault.{Fault}
use Rattle.entry.specs.declared.Fault.TheVariants.{Broken, Short}

abbrev pub reduced_paper : ReducedSingle → paper.ReducedSingle
reduced_paper p = record { n = p.n; ac = p.ac }

abbrev pub staged_paper : StagedPlan → staged.StagedPlan
staged_paper p =
    record {
      stages = p.count;
      sizes = map (λ (s : Stage). s.size) p.stages;
      acs = map (λ (s : Stage). s.ac) p.stages;
      res = map (λ (s : Stage). s.re) p.stages;
    }

abbrev pub sequential_paper : SequentialPlan → sequential.SequentialPlan
sequential_paper p = record { h_a = p.ha; h_r = p.hr; g = p.g; nt = p.nt; at_nt = p.at_nt }

abbrev pub variables_paper : VariablesPlan → variables.VariablesPlan
variables_paper p = record { n = p.n; k = p.k }

abbrev pub sides_paper : SidesPlan → limits.SidesPlan
sides_paper p = record { n = p.n; upper_k = p.upper_k; lower_k = p.lower_k }

abbrev pub range_paper : ℕ × ℕ → paper.Range
range_paper r = record { low = r.0; high = r.1 }

-- the numbers of a key in an entry of a kind
abbrev pub key_paper : Kind → Key → List ℕ
key_paper k key = key_for k key.severity key.letter key.column

-- two numbers of a stretch, from place i on
abbrev pub pair_is : List ℕ → ℕ → ℕ → ℕ → Bool
pair_is ws i x y = ltb (i + 1) (length ws) && (eqb (get_or ws i 0) x && eqb (get_or ws (i + 1) 0) y)

abbrev pub walk_paper : Result ℕ Fault → paper.Walk
walk_paper (Ok p) = paper.ends p
walk_paper (Err (Broken p)) = paper.broken p
walk_paper (Err Short) = paper.short

-- the numbers of the entry that a stretch begins with
abbrev pub entry_read : ℕ → List ℕ → paper.Walk
entry_read kind ws = numbers_from (kind_at kind) ws (size_of (kind_at kind) ws) 0

-- does the key that one stretch begins with come after that of another?
abbrev pub rises_after : ℕ → List ℕ → List ℕ → Bool
rises_after kind before e = rises (key_of (kind_at kind) before) (key_of (kind_at kind) e)

-- the plan of a staged entry by itself: "The stages are few, 2 to 7 of them", so one that says over seven has none
abbrev pub no_stages : staged.StagedPlan
no_stages = record { stages = 0; sizes = seven []; acs = seven []; res = seven [] }

abbrev pub staged_read : List ℕ → staged.StagedPlan
staged_read e = cond (leb (get_or e 3 0) 7) (staged_of e) no_stages
