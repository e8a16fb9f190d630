-- A second reading of rows. A staged row is its first four numbers and then its plan's sizes, Ac and Re, in sevens, as
-- hm_staged_plan tells them; a row of another kind is its entry.
-- Assumes nothing.
use Prim.Native.Nat.{ℕ, zero, suc, ◌+◌, ◌*◌, ◌≤◌, ◌<◌}
use mathlib.Core.Path.{◌≡◌, refl, ap, sym, ◌∙◌}
use mathlib.Core.List.{List, ◌∷◌, ◌++◌}
use native.Mathlib.Omega.{arith}
use lib.ListN.{length, get_or, take}
use lib.Seq.{ext_get_or, get_or-take, length-take-le, take_all}
use Rattle.rules.specs.Book.{Kind, size_of, kind_at, staged, staged_of, staged_in_row, every, seven}
use Rattle.rules.specs.Writing.{gathered, filled, row_of, entry_in_row}
use Rattle.rules.specs.Writable.{tidy}
use Rattle.rules.proofs.RowLaws as RowLaws
use Rattle.rules.proofs.RowLaws.{rowed, Rowed, row-length, row-at, in-row-plain}

-- the plan's numbers, by the number of stages
abbrev in_sevens : ℕ → List ℕ → List ℕ
in_sevens m e =
    get_or e 0 0 ∷ get_or e 1 0 ∷ get_or e 2 0 ∷ m
    ∷ (seven (every 4 1 m e) ++ (seven (every (4 + m) 2 m e) ++ seven (every (5 + m) 2 m e)))

staged-filled : (e : List ℕ) (m : ℕ) → m ≤ 7 → get_or e 3 0 ≡ m → filled staged e (4 + 3 * m) ≡ in_sevens m e
unfolding filled staged_in_row every
staged-filled e zero h q = rw q
staged-filled e (suc zero) h q = rw q
staged-filled e (suc (suc zero)) h q = rw q
staged-filled e (suc (suc (suc zero))) h q = rw q
staged-filled e (suc (suc (suc (suc zero)))) h q = rw q
staged-filled e (suc (suc (suc (suc (suc zero))))) h q = rw q
staged-filled e (suc (suc (suc (suc (suc (suc zero)))))) h q = rw q
staged-filled e (suc (suc (suc (suc (suc (suc (suc zero))))))) h q = rw q
staged-filled e (suc (suc (suc (suc (suc (suc (suc (suc m)))))))) h q = absurd (omega arith)

pub staged-row : (e : List ℕ) → get_or e 3 0 ≤ 7
    → row_of staged e
    ≡ get_or e 0 0 ∷ get_or e 1 0 ∷ get_or e 2 0 ∷ get_or e 3 0
    ∷ ((staged_of e).sizes ++ ((staged_of e).acs ++ (staged_of e).res))
unfolding row_of
staged-row e h = staged-filled e (get_or e 3 0) h refl

-- of a row that is lent: its own stages as they were, and 0 past them
staged-back : (row : List ℕ) (m : ℕ) → m ≤ 7 → get_or row 3 0 ≡ m
    → tidy staged row
    ≡ get_or row 0 0 ∷ get_or row 1 0 ∷ get_or row 2 0 ∷ m
    ∷ (seven (every 4 1 m row) ++ (seven (every 11 1 m row) ++ seven (every 18 1 m row)))
unfolding row_of filled entry_in_row gathered staged_in_row every
staged-back row zero h q = rw q (rw q)
staged-back row (suc zero) h q = rw q (rw q)
staged-back row (suc (suc zero)) h q = rw q (rw q)
staged-back row (suc (suc (suc zero))) h q = rw q (rw q)
staged-back row (suc (suc (suc (suc zero)))) h q = rw q (rw q)
staged-back row (suc (suc (suc (suc (suc zero))))) h q = rw q (rw q)
staged-back row (suc (suc (suc (suc (suc (suc zero)))))) h q = rw q (rw q)
staged-back row (suc (suc (suc (suc (suc (suc (suc zero))))))) h q = rw q (rw q)
staged-back row (suc (suc (suc (suc (suc (suc (suc (suc m)))))))) h q = absurd (omega arith)

pub staged-tidy : (row : List ℕ) → get_or row 3 0 ≤ 7
    → tidy staged row
    ≡ get_or row 0 0 ∷ get_or row 1 0 ∷ get_or row 2 0 ∷ get_or row 3 0
    ∷ (seven (every 4 1 (get_or row 3 0) row)
    ++ (seven (every 11 1 (get_or row 3 0) row) ++ seven (every 18 1 (get_or row 3 0) row)))
staged-tidy row h = staged-back row (get_or row 3 0) h refl

-- a kind whose entries all are as long as a row, and stand in it as they are
module _ (k : Kind) (r : Rowed k) (long : (m : ℕ) → k.size m ≡ k.width) (plain : (m i : ℕ) → k.in_row m i ≡ i) where
  pub plain-row : (e : List ℕ) → k.width ≤ length e → row_of k e ≡ take k.width e
  plain-row e h =
      let size : size_of k e ≡ k.width = long (get_or e k.key 0) in
      ext_get_or 0 (row_of k e) (take k.width e) (row-length k e ∙ sym (length-take-le k.width e h))
      (λ i l.
      let g : i < k.width = omega (arith, row-length k e) in
      ap (λ (p : ℕ). get_or (row_of k e) p 0) (sym (plain (get_or e k.key 0) i))
      ∙ row-at k e r (omega arith) i (omega arith) ∙ sym (get_or-take k.width e i 0 g))

  pub plain-entry : (row : List ℕ) → length row ≡ k.width → entry_in_row k row ≡ row
  plain-entry row l =
      let size : size_of k row ≡ k.width = long (get_or row k.key 0) in
      in-row-plain k r row (plain (get_or row k.key 0)) (omega arith) ∙ take_all (size_of k row) row (omega arith)

  -- it is read back as it was
  pub plain-tidy : (row : List ℕ) → length row ≡ k.width → tidy k row ≡ row
  plain-tidy row l =
      ap (row_of k) (plain-entry row l) ∙ plain-row row (omega arith) ∙ take_all k.width row (omega arith)

-- a row of any kind but the staged one is its entry, and is read back as it was
pub other_row : (j : ℕ) → j < 5 → (j ≡ 1 → ⊥) → (e : List ℕ) → (kind_at j).width ≤ length e
    → row_of (kind_at j) e ≡ take (kind_at j).width e
other_row j l h = let p = RowLaws.plain j l h in plain-row (kind_at j) (rowed j l) p.long p.same

pub other-tidy : (j : ℕ) → j < 5 → (j ≡ 1 → ⊥) → (row : List ℕ) → length row ≡ (kind_at j).width
    → tidy (kind_at j) row ≡ row
other-tidy j l h = let p = RowLaws.plain j l h in plain-tidy (kind_at j) (rowed j l) p.long p.same
