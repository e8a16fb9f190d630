-- Rows of entries: what each of the five kinds keeps of them, an entry in a row, and a row filled from an entry. Proved
-- once over the kinds.
-- Assumes nothing.
use Prim.Native.Nat.{ℕ, zero, suc, ◌+◌, ◌-◌, ◌/◌, ◌%◌, ◌≤◌, ◌<◌}
use mathlib.Core.Path.{◌≡◌, refl, ap, sym, ◌∙◌}
use mathlib.Core.Bool.{Bool, true, cond}
use mathlib.Core.List.{List}
use native.Mathlib.Omega.{arith}
use borrow.Author.Tests.{lt-ltb, le-ltb, eq-eqb, ne_eqb, leb-true, le-leb}
use lib.Dec.{leb}
use lib.ListN.{length, get_or, take, replicate, length-set, length-replicate, get_or-replicate, get_or-eq_default}
use lib.Seq.{ext_get_or, get_or-take, get_or-set_same, get_or-set_other, length-take-le, take-take}
use Rattle.rules.specs.Book.{Kind, within, anything, size_of, key_of, right, numbers_from, key_falls, entry}
use Rattle.rules.specs.Book.{broken, Walk, kind_at, reduced_singles, staged, sequential, variables}
use Rattle.rules.specs.Book.{staged_in_row}
use Rattle.rules.specs.Writing.{gathered, entry_in_row, filled, row_of}
use Rattle.rules.proofs.Bools.{and-right}
use Rattle.rules.proofs.Bounded.{by-le}
use Rattle.rules.proofs.SectionKinds.{each-kind}

-- Small figures of a kind: a row has at most 25 numbers, a key at most three, of 26 values each, the first of three
-- of 3.
pub record Figures (k : Kind) : Type 0 where
  pub narrow : k.width ≤ 25
  pub few : k.key ≤ 3
  pub small : (i : ℕ) → i < k.key → (get_or k.ranges i anything).high ≤ 25
  pub first : k.key ≡ 3 → (get_or k.ranges 0 anything).high ≤ 2

-- What a kind keeps of its rows.
pub record Rowed (k : Kind) : Type 0 where
  pub keyed : 0 < k.key
  pub deep : (m : ℕ) → k.key < k.size m
  pub wide : k.key < k.width
  -- the key, and the number after it, stand in a row as in an entry
  pub front : (m i : ℕ) → i ≤ k.key → k.in_row m i ≡ i
  -- an entry that is no longer than a row has its numbers within one, each at a place of its own
  pub inside : (m i : ℕ) → k.size m ≤ k.width → i < k.size m → k.in_row m i < k.width
  pub apart : (m i j : ℕ) → k.size m ≤ k.width → i < j → j < k.size m → k.in_row m i ≡ k.in_row m j → ⊥
  -- a number after the key that is within its range makes no entry longer than a row
  pub fits : (m : ℕ) → within (get_or k.ranges k.key anything) m ≡ true → k.size m ≤ k.width
  pub figures : Figures k

module _ (m i : ℕ) where
  in-front : i < 4 + m → staged_in_row m i ≡ i
  unfolding staged_in_row
  in-front h = rw (lt-ltb i (4 + m) h)

  at-ac : 4 + m ≤ i → (i - (4 + m)) % 2 ≡ 0 → staged_in_row m i ≡ 11 + (i - (4 + m)) / 2
  unfolding staged_in_row
  at-ac h e = rw (le-ltb i (4 + m) h, eq-eqb ((i - (4 + m)) % 2) 0 e)

  at-re : 4 + m ≤ i → 0 < (i - (4 + m)) % 2 → staged_in_row m i ≡ 18 + (i - (4 + m)) / 2
  unfolding staged_in_row
  at-re h e = rw (le-ltb i (4 + m) h, ne_eqb ((i - (4 + m)) % 2) 0 (λ z. omega arith))

  -- by which of the three it is
  by-part : {P : Type 0} → (i < 4 + m → staged_in_row m i ≡ i → P)
      → (4 + m ≤ i → (i - (4 + m)) % 2 ≡ 0 → staged_in_row m i ≡ 11 + (i - (4 + m)) / 2 → P)
      → (4 + m ≤ i → (i - (4 + m)) % 2 ≡ 1 → staged_in_row m i ≡ 18 + (i - (4 + m)) / 2 → P) → P
  by-part f g h =
      by-le (4 + m) i
      (λ l.
      by-le ((i - (4 + m)) % 2) 0 (λ z. let e : (i - (4 + m)) % 2 ≡ 0 = omega arith in g l e (at-ac l e))
      (λ z. h l (omega arith) (at-re l z)))
      (λ l. f l (in-front l))

-- the key's numbers, one by one
figured : (k : Kind) → k.width ≤ 25 → k.key ≤ 3 → (get_or k.ranges 0 anything).high ≤ 25
    → (get_or k.ranges 1 anything).high ≤ 25 → (2 < k.key → (get_or k.ranges 2 anything).high ≤ 25)
    → (2 < k.key → (get_or k.ranges 0 anything).high ≤ 2) → Figures k
figured k narrow few a b c d = record { narrow = narrow; few = few; small = each; first = λ e. d (omega arith) }
  where
    each : (i : ℕ) → i < k.key → (get_or k.ranges i anything).high ≤ 25
    each zero h = a
    each (suc zero) h = b
    each (suc (suc zero)) h = c h
    each (suc (suc (suc i))) h = absurd (omega arith)

key-of-three : (k : Kind) → k.width ≤ 25 → k.key ≤ 3 → (get_or k.ranges 0 anything).high ≤ 2
    → (get_or k.ranges 1 anything).high ≤ 25 → (get_or k.ranges 2 anything).high ≤ 25 → Figures k
key-of-three k narrow few a b c = figured k narrow few (omega arith) b (λ h. c) (λ h. a)

-- a row that has the entry's numbers as they stand
as-stands : (k : Kind) (n : ℕ) → 0 < k.key → k.key < n → ((m : ℕ) → k.size m ≡ n) → k.width ≡ n
    → ((m i : ℕ) → k.in_row m i ≡ i) → Figures k → Rowed k
as-stands k n keyed deep size width same figures =
    record {
      keyed = keyed;
      deep = λ m. omega (arith, size m);
      wide = omega arith;
      front = λ m i h. same m i;
      inside = λ m i l h. omega (arith, size m, same m i);
      apart = λ m i j l h g e. omega (arith, same m i, same m j);
      fits = λ m h. omega (arith, size m);
      figures = figures;
    }

staged-rowed : Rowed staged
staged-rowed =
    record {
      keyed = omega arith;
      deep = λ m. omega arith;
      wide = omega arith;
      front = λ m i h. in-front m i (omega arith);
      inside = λ m i l h. by-part m i (λ a e. omega arith) (λ a b e. omega arith) (λ a b e. omega arith);
      apart =
          λ m i j l h g e.
          by-part m i
          (λ a b. by-part m j (λ c d. omega arith) (λ c d f. omega arith) (λ c d f. omega arith))
          (λ a b c. by-part m j (λ d f. omega arith) (λ d f n. omega arith) (λ d f n. omega arith))
          (λ a b c. by-part m j (λ d f. omega arith) (λ d f n. omega arith) (λ d f n. omega arith));
      fits = λ m h. let q : m ≤ 7 = leb-true m 7 (and-right (leb 2 m) (leb m 7) h) in omega arith;
      figures = key-of-three staged (omega arith) (omega arith) (omega arith) (omega arith) (omega arith);
    }

variables-rowed : Rowed variables
variables-rowed =
    as-stands variables 5 (omega arith) (omega arith) (λ m. refl) refl (λ m i. refl)
    (key-of-three variables (omega arith) (omega arith) (omega arith) (omega arith) (omega arith))

pub rowed : (j : ℕ) → j < 5 → Rowed (kind_at j)
rowed =
    each-kind (λ j. Rowed (kind_at j))
    (as-stands reduced_singles 4 (omega arith) (omega arith) (λ m. refl) refl (λ m i. refl)
    (figured reduced_singles (omega arith) (omega arith) (omega arith) (omega arith) (λ h. absurd (omega arith))
    (λ h. absurd (omega arith))))
    staged-rowed
    (as-stands sequential 8 (omega arith) (omega arith) (λ m. refl) refl (λ m i. refl)
    (key-of-three sequential (omega arith) (omega arith) (omega arith) (omega arith) (omega arith)))
    variables-rowed variables-rowed

-- every kind but the staged one: its entries are as long as a row, and stand in it as they are
pub record Plain (k : Kind) : Type 0 where
  pub long : (m : ℕ) → k.size m ≡ k.width
  pub same : (m i : ℕ) → k.in_row m i ≡ i

pub plain : (j : ℕ) → j < 5 → (j ≡ 1 → ⊥) → Plain (kind_at j)
plain =
    each-kind (λ j. (j ≡ 1 → ⊥) → Plain (kind_at j)) (λ h. record { long = λ m. refl; same = λ m i. refl })
    (λ h. absurd (h refl)) (λ h. record { long = λ m. refl; same = λ m i. refl })
    (λ h. record { long = λ m. refl; same = λ m i. refl }) (λ h. record { long = λ m. refl; same = λ m i. refl })

-- ---- numbers gathered from a row

module _ (place : ℕ → ℕ) (row : List ℕ) where
  pub gathered-length : (i n : ℕ) → length (gathered place i n row) ≡ n
  unfolding gathered
  gathered-length i zero = refl
  gathered-length i (suc n) = ap suc (gathered-length (suc i) n)

  gathered-from : (i n j : ℕ) → j < n → get_or (gathered place i n row) j 0 ≡ get_or row (place (i + j)) 0
  unfolding gathered
  gathered-from i zero j h = absurd (omega arith)
  gathered-from i (suc n) zero h = let e : i + 0 ≡ i = omega arith in rw e
  gathered-from i (suc n) (suc j) h =
      let e : i + suc j ≡ suc i + j = omega arith in
      rw e (gathered-from (suc i) n j (omega arith))

  gathered-at : (n j : ℕ) → j < n → get_or (gathered place 0 n row) j 0 ≡ get_or row (place j) 0
  gathered-at n j h = let e : 0 + j ≡ j = omega arith in gathered-from 0 n j h ∙ rw e

-- what has these numbers in this order
gathered-is : (place : ℕ → ℕ) (row e : List ℕ) (n : ℕ) → length e ≡ n
    → ((j : ℕ) → j < n → get_or row (place j) 0 ≡ get_or e j 0) → gathered place 0 n row ≡ e
gathered-is place row e n l h =
    ext_get_or 0 (gathered place 0 n row) e (gathered-length place row 0 n ∙ sym l)
    (λ j g.
    let m : j < n = omega (arith, gathered-length place row 0 n) in
    gathered-at place row n j m ∙ h j m)

-- ---- the entry in a row

pub in-row-length : (k : Kind) (row : List ℕ) → length (entry_in_row k row) ≡ size_of k row
unfolding entry_in_row
in-row-length k row = gathered-length (k.in_row (get_or row k.key 0)) row 0 (size_of k row)

-- by the number after the key
in-row-is : (k : Kind) (row : List ℕ) (x : ℕ) → get_or row k.key 0 ≡ x
    → entry_in_row k row ≡ gathered (k.in_row x) 0 (k.size x) row
unfolding entry_in_row
in-row-is k row x q = ap (λ (x : ℕ). gathered (k.in_row x) 0 (k.size x) row) q

pub in-row-at : (k : Kind) (row : List ℕ) (i : ℕ) → i < size_of k row
    → get_or (entry_in_row k row) i 0 ≡ get_or row (k.in_row (get_or row k.key 0) i) 0
unfolding entry_in_row
in-row-at k row i h = gathered-at (k.in_row (get_or row k.key 0)) row (size_of k row) i h

module _ (k : Kind) (r : Rowed k) (row : List ℕ) where
  abbrev m : ℕ
  m = get_or row k.key 0

  -- its key, and the number after it, are the row's
  in-row-front : (i : ℕ) → i ≤ k.key → get_or (entry_in_row k row) i 0 ≡ get_or row i 0
  in-row-front i h =
      in-row-at k row i (omega (arith, r.deep m)) ∙ ap (λ (p : ℕ). get_or row p 0) (r.front m i h)

  pub in-row-size : size_of k (entry_in_row k row) ≡ size_of k row
  in-row-size = ap k.size (in-row-front k.key (omega arith))

  pub in-row-key : k.key ≤ length row → key_of k (entry_in_row k row) ≡ key_of k row
  in-row-key h =
      let long : k.key ≤ length (entry_in_row k row) = omega (arith, in-row-length k row, r.deep m) in
      let a = length-take-le k.key (entry_in_row k row) long in
      let b = length-take-le k.key row h in
      ext_get_or 0 (key_of k (entry_in_row k row)) (key_of k row) (a ∙ sym b)
      (λ i g.
      let l : i < k.key = omega arith in
      get_or-take k.key (entry_in_row k row) i 0 l ∙ in-row-front i (omega arith)
      ∙ sym (get_or-take k.key row i 0 l))

  -- what follows the row counts for nothing
  pub in-row-taken : size_of k row ≤ k.width
      → (size_of k (take k.width row) ≡ size_of k row) × (entry_in_row k (take k.width row) ≡ entry_in_row k row)
  in-row-taken h =
      let w = k.width in
      let key : k.key < w = omega (arith, r.deep m) in
      let same : get_or (take w row) k.key 0 ≡ m = get_or-take w row k.key 0 key in (
        ap k.size same,
        in-row-is k (take w row) m same
            ∙ (gathered-is (k.in_row m) (take w row) (entry_in_row k row) (size_of k row) (in-row-length k row)
            (λ j l. get_or-take w row (k.in_row m j) 0 (r.inside m j h l) ∙ sym (in-row-at k row j l))),
      )

  -- a row that has the entry's numbers as they stand begins with the entry
  pub in-row-plain : ((i : ℕ) → k.in_row m i ≡ i) → size_of k row ≤ length row
      → entry_in_row k row ≡ take (size_of k row) row
  unfolding entry_in_row
  in-row-plain same h =
      gathered-is (k.in_row m) row (take (size_of k row) row) (size_of k row) (length-take-le (size_of k row) row h)
      (λ j l. ap (λ (p : ℕ). get_or row p 0) (same j) ∙ sym (get_or-take (size_of k row) row j 0 l))

-- ---- the row of an entry

module _ (k : Kind) (e : List ℕ) where
  pub filled-length : (n : ℕ) → length (filled k e n) ≡ k.width
  unfolding filled
  filled-length zero = length-replicate k.width 0
  filled-length (suc n) = length-set (filled k e n) _ _ ∙ filled-length n

  pub row-length : length (row_of k e) ≡ k.width
  unfolding row_of
  row-length = filled-length (size_of k e)

  abbrev n : ℕ
  n = get_or e k.key 0

  -- where no number of the entry stands it is 0
  filled-none : (i p : ℕ) → ((j : ℕ) → j < i → k.in_row n j ≡ p → ⊥) → get_or (filled k e i) p 0 ≡ 0
  unfolding filled
  filled-none zero p h =
      by-le k.width p (λ l. past l) (λ l. get_or-replicate k.width p 0 0 l)
    where
      zeros : List ℕ
      zeros = replicate k.width 0

      past : k.width ≤ p → get_or zeros p 0 ≡ 0
      past l = let z : length zeros
          ≡ k.width = length-replicate k.width 0 in get_or-eq_default zeros 0 (omega arith)
  filled-none (suc i) p h =
      get_or-set_other (filled k e i) (k.in_row n i) p (get_or e i 0) 0 (λ q. h i (omega arith) (sym q))
      ∙ filled-none i p (λ j l. h j (omega arith))

  pub row-none : (p : ℕ) → ((j : ℕ) → j < size_of k e → k.in_row n j ≡ p → ⊥) → get_or (row_of k e) p 0 ≡ 0
  unfolding row_of
  row-none p h = filled-none (size_of k e) p h

  module _ (r : Rowed k) (h : size_of k e ≤ k.width) where
    filled-at : (i j : ℕ) → i ≤ size_of k e → j < i → get_or (filled k e i) (k.in_row n j) 0 ≡ get_or e j 0
    unfolding filled
    filled-at zero j l g = absurd (omega arith)
    filled-at (suc i) j l g =
        by-le i j
        (λ a.
        let same : j ≡ i = omega arith in
        rw same
        (get_or-set_same (filled k e i) (k.in_row n i) (get_or e i 0) 0
        (omega (arith, filled-length i, r.inside n i h (omega arith)))))
        (λ a.
        get_or-set_other (filled k e i) (k.in_row n i) (k.in_row n j) (get_or e i 0) 0
        (λ q. r.apart n j i h a (omega arith) q)
        ∙ filled-at i j (omega arith) a)

    pub row-at : (j : ℕ) → j < size_of k e → get_or (row_of k e) (k.in_row n j) 0 ≡ get_or e j 0
    unfolding row_of
    row-at j l = filled-at (size_of k e) j (omega arith) l

    row-front : (i : ℕ) → i ≤ k.key → get_or (row_of k e) i 0 ≡ get_or e i 0
    row-front i l =
        sym (ap (λ (p : ℕ). get_or (row_of k e) p 0) (r.front n i l)) ∙ row-at i (omega (arith, r.deep n))

    pub row-size : size_of k (row_of k e) ≡ size_of k e
    row-size = ap k.size (row-front k.key (omega arith))

    pub row-key : k.key ≤ length e → key_of k (row_of k e) ≡ key_of k e
    row-key l =
        let deep = r.deep n in
        let a = length-take-le k.key (row_of k e) (omega (arith, row-length)) in
        let b = length-take-le k.key e l in
        ext_get_or 0 (key_of k (row_of k e)) (key_of k e) (a ∙ sym b)
        (λ i g.
        let q : i < k.key = omega arith in
        get_or-take k.key (row_of k e) i 0 q ∙ row-front i (omega arith) ∙ sym (get_or-take k.key e i 0 q))

    -- the entry in the row is the entry
    pub row-back : size_of k e ≤ length e → entry_in_row k (row_of k e) ≡ take (size_of k e) e
    row-back l =
        in-row-is k (row_of k e) n (row-front k.key (omega arith))
        ∙ (gathered-is (k.in_row n) (row_of k e) (take (size_of k e) e) (size_of k e) (length-take-le (size_of k e) e l)
        (λ j g. row-at j g ∙ sym (get_or-take (size_of k e) e j 0 g)))

-- only the entry's own numbers are looked at
pub row-same : (k : Kind) (e d : List ℕ) → get_or e k.key 0 ≡ get_or d k.key 0
    → ((i : ℕ) → i < size_of k e → get_or e i 0 ≡ get_or d i 0) → row_of k e ≡ row_of k d
unfolding row_of filled
row-same k e d q h = go (size_of k e) (omega arith) ∙ ap (λ (i : ℕ). filled k d i) (ap k.size q)
  where
    go : (i : ℕ) → i ≤ size_of k e → filled k e i ≡ filled k d i
    go zero l = refl
    go (suc i) l = rw (q, h i (omega arith), go i (omega arith))

-- ---- an entry reads its own numbers alone

module _ (k : Kind) (ws : List ℕ) (size : ℕ) (whole : size ≤ length ws) where
  own-numbers : (n i : ℕ) → i + n ≤ size → numbers_from k (take size ws) n i ≡ numbers_from k ws n i
  unfolding numbers_from right
  own-numbers zero i h = refl
  own-numbers (suc n) i h =
      rw (
        length-take-le size ws whole,
        lt-ltb i size (omega arith),
        lt-ltb i (length ws) (omega arith),
        get_or-take size ws i 0 (omega arith),
        take-take i size ws (omega arith),
        own-numbers n (suc i) (omega arith),
      )

pub own-entry : (k : Kind) → Rowed k → (before ws : List ℕ) → size_of k ws ≤ length ws
    → entry k before (take (size_of k ws) ws) ≡ entry k before ws
unfolding entry key_falls
own-entry k r before ws h = join (falls-same) (ap (λ (n : ℕ). numbers_from k (take size ws) n 0) (ap
    k.size after) ∙ own-numbers k ws size h size 0 (omega arith))
  where
    size : ℕ
    size = size_of k ws

    join : {a b : Bool} {x y : Walk} → a ≡ b → x ≡ y → cond a (broken 0) x ≡ cond b (broken 0) y
    join p q = cc

    deep : k.key < size_of k ws
    deep = r.deep (get_or ws k.key 0)

    after : get_or (take (size_of k ws) ws) k.key 0 ≡ get_or ws k.key 0
    after = get_or-take (size_of k ws) ws k.key 0 deep

    falls-same : key_falls k before (take (size_of k ws) ws) ≡ key_falls k before ws
    falls-same =
        rw (
          length-take-le (size_of k ws) ws h,
          take-take k.key (size_of k ws) ws (omega (arith, deep)),
          le-leb k.key (size_of k ws) (omega (arith, deep)),
          le-leb k.key (length ws) (omega (arith, deep)),
        )
