-- Document 01, 'Plan book': the rules of each section as its sentences say them, of the plan that an entry holds.
-- Definitions only.
use Rattle.std.specs.Prelude.{ℕ, suc, ◌+◌, ◌*◌, ◌-◌, ◌≤◌, ◌<◌, ◌≡◌, ◌⊎◌, true, false, List, length, get_or}
use Rattle.rules.specs.Single.{Plan}
use Rattle.rules.specs.Staged.{StagedPlan, mark}
use Rattle.rules.specs.Sequential.{SequentialPlan, on_accept_line, on_reject_line}
use Rattle.rules.specs.Variables.{VariablesPlan}
use Rattle.rules.specs.Book.{Kind, right, size_of, staged_of}

-- An entry that a sound book could hold: its numbers are there, and each is right.
pub record Held (k : Kind) (e : List ℕ) : Type 0 where
  pub whole : size_of k e ≤ length e
  pub each : (p : ℕ) → p < size_of k e → right k e p ≡ true

-- Document 02, T-05: n is the table's own size where that is not cut, and else a lot, of two items or more, that is at
-- most the table's own size.
abbrev pub SizesFit : Plan → Type 0
SizesFit p = ((p.cut ≡ false) × (p.n ≡ p.table_n)) ⊎ ((p.cut ≡ true) × (2 ≤ p.n) × (p.n ≤ p.table_n))

-- "n 1 to 3,150, Ac up to 65,534", the size before it is cut
pub record SingleRight (p : Plan) : Type 0 where
  pub some : 1 ≤ p.table_n
  pub few : p.table_n ≤ 3150
  pub ac : p.ac ≤ 65534
  pub sizes : SizesFit p

-- "n is 2 to 50, K .. is 1 to 4,000"
pub record VariablesRight (p : VariablesPlan) : Type 0 where
  pub two : 2 ≤ p.n
  pub fifty : p.n ≤ 50
  pub some : 1 ≤ p.k
  pub high : p.k ≤ 4000

-- "hA, hR (both 1 or more), g 1 to 60,000, nt 1 to 3,150, At with floor(g·nt − hA) ≤ At < ceiling(g·nt + hR)": at the
-- last item At agrees with the two lines.
pub record SequentialRight (p : SequentialPlan) : Type 0 where
  pub h_a : (1 ≤ p.h_a) × (p.h_a ≤ 65535)
  pub h_r : (1 ≤ p.h_r) × (p.h_r ≤ 65535)
  pub g : (1 ≤ p.g) × (p.g ≤ 60000)
  pub nt : (1 ≤ p.nt) × (p.nt ≤ 3150)
  pub at_nt : p.at_nt ≤ 65535
  pub accepts : (d : ℕ) → on_accept_line p p.nt d ≡ true → d ≤ p.at_nt
  pub rejects : (d : ℕ) → on_reject_line p p.nt d ≡ true → p.at_nt < d

-- Section 2, by stage.
pub record StagedRight (p : StagedPlan) : Type 0 where
  pub few : (2 ≤ p.stages) × (p.stages ≤ 7)
  -- "sizes (1 to 2,000 each)", "Re up to 65,534"
  pub size : (j : ℕ) → j < p.stages → (1 ≤ get_or p.sizes j 0) × (get_or p.sizes j 0 ≤ 2000)
  pub re : (j : ℕ) → j < p.stages → get_or p.res j 0 ≤ 65534
  -- "neither number falls, Ac under Re", but for a mark, which "stands only before numbers"
  pub under : (j : ℕ) → j < p.stages → (get_or p.acs j 0 ≡ mark → ⊥) → get_or p.acs j 0 < get_or p.res j 0
  pub ac-kept : (j : ℕ) → suc j < p.stages → (get_or p.acs j 0 ≡ mark → ⊥)
      → (get_or p.acs (suc j) 0 ≡ mark → ⊥) × (get_or p.acs j 0 ≤ get_or p.acs (suc j) 0)
  pub re-kept : (j : ℕ) → suc j < p.stages → get_or p.res j 0 ≤ get_or p.res (suc j) 0
  -- "last Re = Ac + 1", a mark "is out of range at the last stage"
  pub last-number : get_or p.acs (p.stages - 1) 0 ≡ mark → ⊥
  pub last-re : get_or p.res (p.stages - 1) 0 ≡ get_or p.acs (p.stages - 1) 0 + 1

-- "2. staged: severity 0 to 2, letter 0 to 15, column, stages, sizes .., then Ac and Re per stage": an entry that has
-- all its numbers, a key in range, and a plan that keeps the rules of its stages
pub record StagedEntry (e : List ℕ) : Type 0 where
  pub whole : 4 + 3 * (staged_of e).stages ≤ length e
  pub severity : get_or e 0 0 ≤ 2
  pub letter : get_or e 1 0 ≤ 15
  pub column : get_or e 2 0 ≤ 25
  pub keeps : StagedRight (staged_of e)
