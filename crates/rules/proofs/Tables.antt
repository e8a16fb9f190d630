-- Table 1 and the master table, each fact once for all rows: the letters, the rows over 26, and the box one column
-- tighter. Where the arrows end: Landing.
-- Assumes nothing.
use Prim.Native.Nat.{ℕ, ◌-◌, ◌≤◌, ◌<◌}
use mathlib.Core.Path.{◌≡◌, refl, sym, subst}
use mathlib.Core.Bool.{Bool, true, false, cond, ◌&&◌}
use mathlib.Core.List.{List, [], ◌∷◌}
use native.Mathlib.Omega.{arith}
use lib.Dec.{T, leb, leb→le, le→leb}
use lib.ListN.{get_or}
use borrow.Author.Tests.{lt-leb}
use Rattle.rules.specs.Codes.{normal, letters, SizeRow, table_one, above, goes_up_to, row_from, row_of, letter_of}
use Rattle.rules.specs.Single as paper
use Rattle.rules.specs.Single.{Box, up, number, box_at, landing_of, ac_of, tighter_ac}
use Rattle.rules.specs.Single.{Line, master_table, row_in, row_at}
use Rattle.rules.proofs.Bounded.{both_left, both-right, implies, implies-at, all, all-at, all-at₂}
use Rattle.rules.proofs.Bounded.{each, each-at}
use Rattle.rules.proofs.Landing.{holds_number, number-there, landing-letter, landing-box}

-- a test that every row of Table 1 passes, the row above too, is passed by the row of each size
unfoldable pub of-rows : (SizeRow → Bool) → List SizeRow → Bool
of-rows f [] = f above
of-rows f (row ∷ rows) = f row && of-rows f rows

has-from : (f : SizeRow → Bool) (rows : List SizeRow) (size : ℕ) → T (of-rows f rows) → T (f (row_from rows size))
unfolding row_from of-rows
has-from f [] size t = t
has-from f (row ∷ rows) size t =
    go (goes_up_to row size) (both_left (f row) (of-rows f rows) t)
    (has-from f rows size (both-right (f row) (of-rows f rows) t))
  where
    go : (b : Bool) → T (f row) → T (f (row_from rows size)) → T (f (cond b row (row_from rows size)))
    go true h l = h
    go false h l = l

pub row-has : (f : SizeRow → Bool) → T (of-rows f table_one) → (size : ℕ) → T (f (row_of size))
unfolding row_of
row-has f t size = has-from f table_one size t

low : SizeRow → Bool
low row = each 15 (letters row.levels)

-- Table 1 has no letter past R.
pub letter-within : (size level : ℕ) → letter_of size level < 16
unfolding letter_of low of-rows
letter-within size level = omega (arith, each-at 15 (letters (row_of size).levels) (row-has low tt size) level)

reach : List Line → Bool
reach [] = true
reach (line ∷ lines) = leb line.last 26 && reach lines

reach-all : T (all 2 (λ severity. reach (get_or master_table severity [])))
unfolding reach
reach-all = tt

rows-over : (lines : List Line) (s : ℕ) → T (reach lines) → 26 < s → row_in lines s ≡ paper.all up
unfolding reach
rows-over [] s t h = refl
rows-over (line ∷ lines) s t h =
    let l = leb→le line.last 26 (both_left (leb line.last 26) (reach lines) t) in
    rw (lt-leb s line.last (omega arith)) (rows-over lines s (both-right (leb line.last 26) (reach lines) t) h)

-- "over 26": up
pub row-over : (severity s : ℕ) → severity < 2 → 26 < s → row_at severity s ≡ paper.all up
row-over severity s v h =
    rows-over (get_or master_table severity []) s
    (all-at 2 (λ severity. reach (get_or master_table severity [])) reach-all severity v) h

-- of a box with a normal Ac of 2 or more
tighter : ℕ → ℕ → Bool
tighter c l =
    implies (leb 2 (ac_of (box_at normal c l))) (leb 1 c && holds_number (box_at normal (c - 1) l))

tighter-all : T (all 26 (λ c. all 16 (tighter c)))
unfolding tighter holds_number box_at
tighter-all = tt

module _ (c l : ℕ) (g : c < 26) (h : l < 16) (two : 2 ≤ (landing_of normal c l).ac) where
  abbrev at : ℕ
  at = (landing_of normal c l).letter

  both : T (leb 1 c && holds_number (box_at normal (c - 1) at))
  unfolding tighter
  both =
      implies-at (leb 2 (ac_of (box_at normal c at))) _
      (all-at₂ 26 16 tighter tighter-all c at g (landing-letter normal c l (omega arith) g h))
      (le→leb _ _ (subst (λ (b : Box). 2 ≤ ac_of b) (sym (landing-box normal c l (omega arith) g h)) two))

  -- A normal Ac of 2 or more has a column one tighter ..
  pub tighter-column : 1 ≤ c
  tighter-column = leb→le _ _ (both_left (leb 1 c) _ both)

  -- .. and a number there, at the letter that gives the size.
  pub one-tighter : box_at normal (c - 1) at ≡ number (tighter_ac at c)
  unfolding tighter_ac
  one-tighter = number-there _ (both-right (leb 1 c) _ both)
