-- Second readings of the tables: the row of every lot size in Table 1, and every box of the master tables by letter.
-- And what both columns of the master table share: along s no Ac falls, and at the same s the tightened Ac is at most
-- the normal one.
-- Assumes nothing.
use Prim.Native.Nat.{ℕ, zero, suc, ◌+◌, ◌≤◌, ◌<◌}
use mathlib.Core.Path.{◌≡◌, refl, ap, ◌∙◌}
use mathlib.Core.Bool.{Bool, true, false, ◌&&◌}
use mathlib.Core.List.{List, [], ◌∷◌}
use native.Mathlib.Omega.{arith}
use borrow.Author.Tests.{le-leb, lt-leb}
use lib.Dec.{T, leb, leb→le, le→leb, ltb, ltb→lt, lt→ltb, eqb, eqb→eq}
use lib.ListN.{length, get_or}
use Rattle.rules.specs.Ascii.{ascii}
use Rattle.rules.specs.Codes.{normal, tightened, letter_names, letters, SizeRow, table_one, above, row_from, row_of}
use Rattle.rules.specs.Codes.{letter_of}
use Rattle.rules.specs.Single.{Box, down, up, number, box_at}
use Rattle.rules.specs.Straight.{ac_along}
use Rattle.rules.specs.Book.{same_key}
use Rattle.rules.specs.Log.{split_at, digits_from, letter_name}
use Rattle.rules.specs.Printed.{size_row, first_size, printed_box, box_name}
use Rattle.rules.proofs.Bounded.{both_left, both-right, implies, implies-at, all, all-at, all-at₂, all-at₃}
use Rattle.rules.proofs.Bounded.{by-le}
use Rattle.rules.proofs.LookUp.{same-key}
use Rattle.rules.proofs.Tables.{of-rows, row-has}

row-there : (rows : List SizeRow) (i size : ℕ) → i < length rows → ((j : ℕ) → j < i → (get_or rows j above).last < size)
    → size ≤ (get_or rows i above).last → row_from rows size ≡ get_or rows i above
unfolding row_from
row-there [] i size h low high = absurd (omega arith)
row-there (row ∷ rows) zero size h low high = rw (le-leb size row.last high)
row-there (row ∷ rows) (suc i) size h low high =
    rw (lt-leb size row.last (low 0 (omega arith)))
    (row-there rows i size (omega arith) (λ j l. low (suc j) (omega arith)) high)

rows-past : (rows : List SizeRow) (size : ℕ) → ((j : ℕ) → j < length rows → (get_or rows j above).last < size)
    → row_from rows size ≡ above
unfolding row_from
rows-past [] size low = refl
rows-past (row ∷ rows) size low =
    rw (lt-leb size row.last (low 0 (omega arith))) (rows-past rows size (λ j l. low (suc j) (omega arith)))

-- the rows before a size end below it
rising-size : ℕ → ℕ → Bool
rising-size i j = implies (ltb j i) (ltb (size_row j).last (first_size i))

sizes-rise : T (all 15 (λ i. all 15 (rising-size i)))
unfolding rising-size
sizes-rise = tt

module _ (i size : ℕ) (h : i < 15) (low : first_size i ≤ size) where
  below : (j : ℕ) → j < i → (size_row j).last < size
  unfolding rising-size
  below j l =
      let t = all-at₂ 15 15 rising-size sizes-rise i j h (omega arith) in
      let b = implies-at (ltb j i) (ltb (size_row j).last (first_size i)) t (lt→ltb j i l) in
      omega (arith, ltb→lt (size_row j).last (first_size i) b)

  -- A lot larger than all of the row before, and not larger than the row's last size, has that row's letters.
  pub row-by-size : size ≤ (size_row i).last → row_of size ≡ size_row i
  unfolding row_of
  row-by-size high =
      by-le i 13 (λ l. row-there table_one i size (omega arith) below high)
      (λ l. let e : i ≡ 14 = omega arith in
      rows-past table_one size (λ j k. below j (omega arith)) ∙ rw e)

named : SizeRow → ℕ → Bool
named row level = eqb (get_or letter_names (get_or (letters row.levels) level 0) 0) (get_or (ascii row.levels) level 0)

all_named : SizeRow → Bool
all_named row = all 7 (named row)

-- The letter of a lot, as lotlog prints it, is the one that stands in its row.
pub letters-as-listed : (size level : ℕ) → level < 7
    → letter_name (letter_of size level) ≡ get_or (ascii (row_of size).levels) level 0 ∷ []
unfolding letter_of all_named named of-rows
letters-as-listed size level h =
    ap (λ (x : ℕ). x ∷ []) (eqb→eq _ _ (all-at 7 (named (row_of size)) (row-has all_named tt size) level h))

holds-so : (b : Bool) → T b → b ≡ true
holds-so true t = refl
holds-so false t = absurd t

same_box : ℕ → ℕ → ℕ → Bool
same_box severity column letter =
    same_key (box_name (box_at severity column letter)) (printed_box severity letter (letter + column))

same-box : T (all 2 (λ severity. all 26 (λ column. all 17 (same_box severity column))))
unfolding same_box same_key box_at split_at digits_from
same-box = tt

-- Each box of both tables is the one printed.
pub boxes-as-printed : (severity column letter : ℕ) → severity < 2 → column < 26 → letter < 17
    → box_name (box_at severity column letter) ≡ printed_box severity letter (letter + column)
unfolding same_box
boxes-as-printed severity column letter s c l =
    same-key _ _ (holds-so _ (all-at₃ 2 26 17 same_box same-box severity column letter s c l))

is_along : Box → ℕ → ℕ → Bool
is_along down severity s = true
is_along up severity s = true
is_along (number ac) severity s = eqb ac (ac_along severity s) && leb s 26

along : ℕ → ℕ → ℕ → Bool
along severity column letter = is_along (box_at severity column letter) severity (letter + column)

along-all : T (all 2 (λ severity. all 26 (λ column. all 17 (along severity column))))
unfolding along is_along box_at
along-all = tt

ac-along : (severity column letter ac : ℕ) → severity < 2 → column < 26 → letter < 17
    → box_at severity column letter ≡ number ac → (ac ≡ ac_along severity (letter + column)) × (letter + column ≤ 26)
unfolding along is_along
ac-along severity column letter ac s c l e =
    let t : T (is_along (number ac) severity (letter + column)) =
    rw e at (all-at₃ 2 26 17 along along-all severity column letter s c l) in (
      eqb→eq _ _ (both_left (eqb ac (ac_along severity (letter + column))) _ t),
      leb→le _ _ (both-right (eqb ac (ac_along severity (letter + column))) _ t),
    )

rising : ℕ → ℕ → ℕ → Bool
rising severity s t = implies (leb s t) (leb (ac_along severity s) (ac_along severity t))

rising-all : T (all 2 (λ severity. all 27 (λ s. all 27 (rising severity s))))
unfolding rising
rising-all = tt

-- Ac and s rise together: along s no Ac falls.
pub ac-rises : (severity c l a d m b : ℕ) → severity < 2 → c < 26 → l < 17 → d < 26 → m < 17
    → box_at severity c l ≡ number a → box_at severity d m ≡ number b → l + c ≤ m + d → a ≤ b
unfolding rising
ac-rises severity c l a d m b s hc hl hd hm e f le =
    let p = ac-along severity c l a s hc hl e in
    let q = ac-along severity d m b s hd hm f in
    rw (p.0, q.0)
    (leb→le _ _
    (implies-at (leb (l + c) (m + d)) _
    (all-at₃ 2 27 27 rising rising-all severity (l + c) (m + d) s (omega (arith, p.1)) (omega (arith, q.1)))
    (le→leb _ _ le)))

under : ℕ → Bool
under s = leb (ac_along tightened s) (ac_along normal s)

under-all : T (all 27 under)
unfolding under
under-all = tt

-- At the same s the tightened Ac is at most the normal one.
pub tightened-under : (c l a d m b : ℕ) → c < 26 → l < 17 → d < 26 → m < 17 → box_at normal c l ≡ number a
    → box_at tightened d m ≡ number b → l + c ≡ m + d → b ≤ a
unfolding under
tightened-under c l a d m b hc hl hd hm e f same =
    let p = ac-along normal c l a (omega arith) hc hl e in
    let q = ac-along tightened d m b (omega arith) hd hm f in
    rw (p.0, q.0, same) (leb→le _ _ (all-at 27 under under-all (m + d) (omega (arith, q.1))))
