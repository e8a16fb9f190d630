-- The code's sizes and letters are those of Table 1, by computed tests over all rows and levels, and so is the letter
-- of every size.
-- Assumes nothing.
use Rattle.std.proofs.Common.{ℕ, ◌≡◌, ◌<◌, Bool, true, false, cond, List, [], ◌∷◌, leb, eqb, get_or, unwrap_or}
use Rattle.std.proofs.Common.{find, option_map, Option, Some, ap, suc, refl, length, arith}
use lib.Dec.{T, eqb→eq}
use Rattle.rules.specs.Codes as paper
use Rattle.rules.specs.Codes.{table_one, above, row_from, row_of}
use Rattle.rules.proofs.Bounded.{all, all-at, all-at₂}
use Rattle.plans.specs.declared.SizeRow.{SizeRow}
use Rattle.plans.specs.declared.TheConstants.{TABLE_ONE, ABOVE}
use Rattle.plans.specs.Paper.{letters_in}

-- the last size of each row of the code is that of Table 1 ..
ends : ℕ → Bool
ends r = eqb (get_or TABLE_ONE r ABOVE).0 (get_or table_one r above).last

ends-all : T (all 14 ends)
unfolding ends
ends-all = tt

pub last-held : (r : ℕ) → r < 14 → (get_or TABLE_ONE r ABOVE).0 ≡ (get_or table_one r above).last
unfolding ends
last-held r h = eqb→eq _ _ (all-at 14 ends ends-all r h)

-- .. and so are each row's letters, by level
module _ (none : ℕ) where
  held : ℕ → ℕ → Bool
  held r level =
      eqb (get_or (get_or TABLE_ONE r ABOVE).1 level none)
      (get_or (paper.letters (get_or table_one r above).levels) level 0)

  held-all : T (all 15 (λ r. all 7 (held r)))
  unfolding held
  held-all = tt

  pub letter-held : (r level : ℕ) → r < 15 → level < 7
      → get_or (get_or TABLE_ONE r ABOVE).1 level none
      ≡ get_or (paper.letters (get_or table_one r above).levels) level 0
  unfolding held
  letter-held r level h g = eqb→eq _ _ (all-at₂ 15 7 held held-all r level h g)

-- the letters of a row that may have been found
abbrev letters_by : Option SizeRow → List ℕ
letters_by row = unwrap_or (option_map (λ row. row.1) row) ABOVE.1

module _ (size level : ℕ) where
  -- two tables whose rows end alike and have the same letters give one letter
  letter-from : (xs : List SizeRow) (ys : List paper.SizeRow) → length xs ≡ length ys
      → ((r : ℕ) → r < length xs → (get_or xs r ABOVE).0 ≡ (get_or ys r above).last)
      → ((r : ℕ) → r < suc (length xs)
      → get_or (get_or xs r ABOVE).1 level 0 ≡ get_or (paper.letters (get_or ys r above).levels) level 0)
      → get_or (letters_in xs size) level 0 ≡ get_or (paper.letters (row_from ys size).levels) level 0
  unfolding row_from
  letter-from [] [] e last held = held 0 (omega arith)
  letter-from [] (y ∷ ys) e last held = absurd (omega arith)
  letter-from (x ∷ xs) [] e last held = absurd (omega arith)
  letter-from (x ∷ xs) (y ∷ ys) e last held =
      go (leb size x.0) (leb size y.last) (ap (leb size) (last 0 (omega arith))) (held 0 (omega arith))
      (letter-from xs ys (omega arith) (λ r h. last (suc r) (omega arith)) (λ r h. held (suc r) (omega arith)))
    where
      go : (b d : Bool) → b ≡ d → get_or x.1 level 0 ≡ get_or (paper.letters y.levels) level 0
          → get_or (letters_in xs size) level 0 ≡ get_or (paper.letters (row_from ys size).levels) level 0
          → get_or (letters_by (cond b (Some x) (find (λ row. leb size row.0) xs))) level 0
          ≡ get_or (paper.letters (cond d y (row_from ys size)).levels) level 0
      go true true e h n = h
      go true false e h n = cc
      go false true e h n = cc
      go false false e h n = n

  -- the code's letter of a size is that of Table 1
  pub letter-found : level < 7 → get_or (letters_in TABLE_ONE size) level 0 ≡ paper.letter_of size level
  unfolding row_of paper.letter_of
  letter-found l =
      letter-from TABLE_ONE table_one refl (λ r h. last-held r (omega arith))
      (λ r h. letter-held 0 r level (omega arith) l)
