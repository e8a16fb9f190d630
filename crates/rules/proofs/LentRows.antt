-- The rows of a lent list: as a loop that goes up meets them, which stands where, and rows lent one behind the other.
-- Assumes nothing.
use Prim.Native.Nat.{ℕ, zero, suc, ◌+◌, ◌*◌, ◌≤◌, ◌<◌}
use mathlib.Core.Path.{◌≡◌, refl, ap, ◌∙◌}
use mathlib.Core.Bool.{Bool, true, false, cond}
use mathlib.Core.List.{List, [], ◌∷◌, ◌++◌}
use native.Mathlib.Omega.{arith}
use borrow.Author.Tests.{eq-eqb, ne_eqb, eqb-false}
use lib.Dec.{eqb}
use lib.ListN.{length, get_or, take, drop, length-drop, drop_of_length-le, length-append}
use lib.Seq.{drop-drop, take_at, drop_at}
use Rattle.rules.specs.Numbers.{numbers_of, number_bytes}
use Rattle.rules.specs.Writing.{Rows, rows_in}
use Rattle.rules.specs.Writable.{joined}
use Rattle.rules.proofs.Numbers.{numbers-drop, numbers-back, bytes-twice, bytes-append}

-- all rows of a list of bytes
abbrev pub rows_of : ℕ → List ℕ → Rows
rows_of width bytes = rows_in width (length bytes) bytes

module _ (width : ℕ) (some : 0 < width) where
  -- bytes are more than enough
  enough : (m n : ℕ) (bytes : List ℕ) → length bytes ≤ m → length bytes ≤ n
      → rows_in width m bytes ≡ rows_in width n bytes
  unfolding rows_in
  enough zero zero bytes h g = refl
  enough zero (suc n) bytes h g = rw (eq-eqb (length bytes) 0 (omega arith))
  enough (suc m) zero bytes h g = rw (eq-eqb (length bytes) 0 (omega arith))
  enough (suc m) (suc n) bytes h g =
      go (eqb (length bytes) 0) refl (enough m n (drop (2 * width) bytes))
    where
      less : (b : ℕ) → eqb (length bytes) 0 ≡ false → length bytes ≤ suc b → length (drop (2 * width) bytes) ≤ b
      less b e l =
          let z : length bytes ≡ 0 → ⊥ = eqb-false (length bytes) 0 e in
          omega (arith, length-drop (2 * width) bytes)

      go : (t : Bool) → eqb (length bytes) 0 ≡ t
          → (length (drop (2 * width) bytes) ≤ m → length (drop (2 * width) bytes) ≤ n
          → rows_in width m (drop (2 * width) bytes) ≡ rows_in width n (drop (2 * width) bytes))
          → cond t [] (take width (numbers_of bytes) ∷ rows_in width m (drop (2 * width) bytes))
          ≡ cond t [] (take width (numbers_of bytes) ∷ rows_in width n (drop (2 * width) bytes))
      go true e ih = refl
      go false e ih = ap (λ (r : Rows). take width (numbers_of bytes) ∷ r) (ih (less m e h) (less n e g))

  rows-first : (bytes : List ℕ) → 0 < length bytes
      → rows_of width bytes ≡ take width (numbers_of bytes) ∷ rows_of width (drop (2 * width) bytes)
  unfolding rows_in
  rows-first bytes h =
      enough (length bytes) (suc (length bytes)) bytes (omega arith) (omega arith)
      ∙ rw (ne_eqb (length bytes) 0 (λ e. omega arith))
      (ap (λ (r : Rows). take width (numbers_of bytes) ∷ r)
      (enough (length bytes) (length (drop (2 * width) bytes)) (drop (2 * width) bytes)
      (omega (arith, length-drop (2 * width) bytes)) (omega arith)))

  -- the rows from a byte on
  pub rows-next : (bytes : List ℕ) (at : ℕ) → at < length bytes
      → rows_of width (drop at bytes)
      ≡ take width (numbers_of (drop at bytes)) ∷ rows_of width (drop (at + 2 * width) bytes)
  rows-next bytes at h =
      rows-first (drop at bytes) (omega (arith, length-drop at bytes))
      ∙ ap (λ (b : List ℕ). take width (numbers_of (drop at bytes)) ∷ rows_of width b) (drop-drop (2 * width) at bytes)

  pub rows-done : (bytes : List ℕ) (at : ℕ) → length bytes ≤ at → rows_of width (drop at bytes) ≡ []
  unfolding rows_in
  rows-done bytes at h = rw (drop_of_length-le bytes h)

  -- there is one for each i whose first byte is there, from the number i · width on
  pub row-there : (bytes : List ℕ) (i : ℕ)
      → (i < length (rows_of width bytes) → 2 * (width * i) < length bytes)
      × (2 * (width * i) < length bytes → i < length (rows_of width bytes))
  row-there bytes zero = by-none (length bytes) refl
    where
      by-none : (n : ℕ) → length bytes ≡ n
          → (0 < length (rows_of width bytes) → 2 * (width * 0) < length bytes)
          × (2 * (width * 0) < length bytes → 0 < length (rows_of width bytes))
      by-none zero e = (λ h. absurd (gone e h), λ h. absurd (omega arith))
        where
          gone : length bytes ≡ 0 → 0 < length (rows_of width bytes) → ⊥
          gone e h = let z = rows-done bytes 0 (omega arith) in omega (arith, ap (length {A = List ℕ}) z)
      by-none (suc n) e = (λ h. omega arith, λ h. rw (rows-first bytes (omega arith)) (omega arith))
  row-there bytes (suc i) = by-none (length bytes) refl (row-there (drop (2 * width) bytes) i)
    where
      more : width * suc i ≡ width * i + width
      more = omega arith

      by-none : (n : ℕ) → length bytes ≡ n
          → (i < length (rows_of width (drop (2 * width) bytes)) → 2 * (width * i) < length (drop (2 * width) bytes))
          × (2 * (width * i) < length (drop (2 * width) bytes) → i < length (rows_of width (drop (2 * width) bytes)))
          → (suc i < length (rows_of width bytes) → 2 * (width * suc i) < length bytes)
          × (2 * (width * suc i) < length bytes → suc i < length (rows_of width bytes))
      by-none zero e ih = (
        λ h. absurd (omega (arith, ap (length {A = List ℕ}) (rows-done bytes 0 (omega arith)))),
        λ h. absurd (omega arith),
      )
      by-none (suc n) e ih =
          let first = ap (length {A = List ℕ}) (rows-first bytes (omega arith)) in (
            λ h. omega (arith, ih.0 (omega (arith, first)), length-drop (2 * width) bytes, more),
            λ h. omega (arith, ih.1 (omega (arith, length-drop (2 * width) bytes, more)), first),
          )

  pub row-stands : (bytes : List ℕ) (i : ℕ) → 2 * (width * i) < length bytes
      → get_or (rows_of width bytes) i [] ≡ take width (drop (width * i) (numbers_of bytes))
  row-stands bytes zero h =
      let z : width * 0 ≡ 0 = omega arith in
      rw (rows-first bytes (omega arith), z)
  row-stands bytes (suc i) h =
      let more : width * suc i ≡ width + width * i = omega arith in
      rw (
        rows-first bytes (omega arith),
        more,
        ← drop-drop (width * i) width
            (numbers_of bytes),
        ← numbers-drop bytes width,
      )
      (row-stands (drop (2 * width) bytes) i (omega (arith, length-drop (2 * width) bytes)))

  -- rows lent one behind the other are those rows
  pub rows-lent : (rows : Rows) → ((i : ℕ) → i < length rows → length (get_or rows i []) ≡ width)
      → rows_of width (number_bytes (joined rows)) ≡ rows
  unfolding joined number_bytes rows_in
  rows-lent [] all = refl
  rows-lent (row ∷ rows) all =
      let l : length row ≡ width = all 0 (omega arith) in
      let xs = row ++ joined rows in
      let long : 0 < length (number_bytes xs) =
      omega (arith, bytes-twice xs, length-append row (joined rows)) in
      rows-first (number_bytes xs) long
      ∙ rw (numbers-back xs, take_at row (joined rows) width l, past row (joined rows) width l)
      (ap (λ (r : Rows). row ∷ r) (rows-lent rows (λ i h. all (suc i) (omega arith))))
    where
      past : (xs ys : List ℕ) (n : ℕ) → length xs ≡ n → drop (2 * n) (number_bytes (xs ++ ys)) ≡ number_bytes ys
      past xs ys n e =
          let z : length (number_bytes xs) ≡ 2 * n = omega (arith, bytes-twice xs) in
          rw (bytes-append xs ys) (drop_at (number_bytes xs) (number_bytes ys) (2 * n) z)
