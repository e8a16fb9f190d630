-- Keys rise, and there are few of them: so a list has few right rows, a position told is near, and what is laid is
-- short. Assumes nothing.
use Prim.Native.Nat.{ℕ, suc, ◌+◌, ◌*◌, ◌≤◌, ◌<◌}
use mathlib.Core.Path.{◌≡◌, refl, sym, ◌∙◌}
use mathlib.Core.Bool.{Bool, true, false, cond, true≢false}
use mathlib.Core.List.{List, [], ◌∷◌}
use native.Mathlib.Omega.{arith}
use borrow.Author.Tests.{leb-true}
use lib.Dec.{leb}
use lib.ListN.{length, get_or, length-append, get_or-eq_default}
use lib.Seq.{get_or-take, length-take-le}
use Rattle.rules.specs.Book.{Kind, ends, within, anything, size_of, key_of, rises, Checked, sound}
use Rattle.rules.specs.Book.{broken_at}
use Rattle.rules.specs.Faults.{EntryFault, out_of_range}
use Rattle.rules.specs.Writing.{Rows, entry_in_row, row_right, check_rows, sound_then, check_lists, laid}
use Rattle.rules.proofs.Bools.{and-right, true-unless}
use Rattle.rules.proofs.Bounded.{by-le}
use Rattle.rules.proofs.Faults.{Tells, entry-tells}
use Rattle.rules.proofs.LookUp.{broken-unsound, key-rises, rises-cases}
use Rattle.rules.proofs.RowLaws.{Rowed, in-row-length, in-row-key}
use Rattle.rules.proofs.Written.{deep-of, right-so, right-first, AllRowed}

-- a key as one number: three figures of 26 values
unfoldable rank : ℕ → List ℕ → ℕ
rank sum [] = sum
rank sum (x ∷ key) = rank (26 * sum + x) key

abbrev Small : List ℕ → Type 0
Small key = (i : ℕ) → get_or key i 0 ≤ 25

tail-small : (x : ℕ) (key : List ℕ) → Small (x ∷ key) → Small key
tail-small x key s i = s (suc i)

rank-more : (a b : List ℕ) (m n : ℕ) → length a ≡ length b → Small a → m < n → rank m a < rank n b
unfolding rank
rank-more [] [] m n e s h = h
rank-more [] (y ∷ b) m n e s h = absurd (omega arith)
rank-more (x ∷ a) [] m n e s h = absurd (omega arith)
rank-more (x ∷ a) (y ∷ b) m n e s h =
    rank-more a b (26 * m + x) (26 * n + y) (omega arith) (tail-small x a s) (omega (arith, s 0))

rank-rises : (a b : List ℕ) (m : ℕ) → length a ≡ length b → Small a → rises a b ≡ true → rank m a < rank m b
unfolding rank rises
rank-rises [] [] m e s h = absurd (true≢false (sym h))
rank-rises [] (y ∷ b) m e s h = absurd (omega arith)
rank-rises (x ∷ a) [] m e s h = absurd (omega arith)
rank-rises (x ∷ a) (y ∷ b) m e s h =
    rises-cases x y a b h
    (λ l. rank-more a b (26 * m + x) (26 * m + y) (omega arith) (tail-small x a s) (omega arith))
    (λ q up. rw q (rank-rises a b (26 * m + y) (omega arith) (tail-small x a s) up))

-- the first of three has 3 values
abbrev Led : List ℕ → Type 0
Led key = length key ≡ 3 → get_or key 0 0 ≤ 2

rank-least : (a : List ℕ) → length a ≤ 3 → Small a → Led a → rank 0 a < 2028
unfolding rank
rank-least [] h s l = omega arith
rank-least (x ∷ []) h s l = omega (arith, s 0)
rank-least (x ∷ y ∷ []) h s l = omega (arith, s 0, s 1)
rank-least (x ∷ y ∷ z ∷ []) h s l = omega (arith, l refl, s 1, s 2)
rank-least (x ∷ y ∷ z ∷ w ∷ a) h s l = absurd (omega arith)

-- the key of a row that is right
record Key (k : Kind) (before key : List ℕ) : Type 0 where
  long : length key ≡ k.key
  small : Small key
  led : Led key
  up : rises before key ≡ true

-- a number of the key of an entry that the reader takes is at most what its range has
key-number : (k : Kind) (r : Rowed k) (before row : List ℕ) → row_right k before row ≡ true → (i : ℕ) → i < k.key
    → get_or (key_of k row) i 0 ≤ (get_or k.ranges i anything).high
key-number k r before row h i l =
    let t = right-so k r before row h in
    let e = entry_in_row k row in
    let deep = r.deep (get_or row k.key 0) in
    let same = in-row-key k r row (omega (arith, t.whole, t.fits, deep)) in
    let told : Tells (EntryFault k before e) (size_of k e) (length e) (ends (size_of k row)) =
    rw t.ends_so at (entry-tells k (deep-of r) before e) in
    let in-range : within (get_or k.ranges i anything) (get_or e i 0) ≡ true =
    true-unless _
    (λ w.
    told.1.1 i
    (out_of_range (omega (arith, r.deep (get_or e k.key 0))) (omega (arith, in-row-length k row, deep)) w)) in
    rw (← same, get_or-take k.key e i 0 l)
    (leb-true (get_or e i 0) (get_or k.ranges i anything).high
    (and-right (leb (get_or k.ranges i anything).low (get_or e i 0)) _ in-range))

right-key : (k : Kind) → Rowed k → (before row : List ℕ) → row_right k before row ≡ true → Key k before (key_of k row)
right-key k r before row h =
    let t = right-so k r before row h in
    let there : k.key ≤ length row = omega (arith, t.whole, t.fits, r.deep (get_or row k.key 0)) in
    let long = length-take-le k.key row there in
    record {
      long = long;
      small = λ i. by-le k.key i (past long i) (within-key i);
      led = λ e. omega (arith, key-number k r before row h 0 r.keyed, r.figures.first (omega arith));
      up =
          rw (in-row-key k r row there) at
          (key-rises k (deep-of r) before (entry_in_row k row) (size_of k row) t.ends_so);
    }
  where
    past : length (key_of k row) ≡ k.key → (i : ℕ) → k.key ≤ i → get_or (key_of k row) i 0 ≤ 25
    past l i g =
        let z : length (key_of k row) ≤ i = omega arith in
        rw (get_or-eq_default (key_of k row) 0 z) (omega arith)

    within-key : (i : ℕ) → i < k.key → get_or (key_of k row) i 0 ≤ 25
    within-key i g = omega (arith, key-number k r before row h i g, r.figures.small i g)

-- after an entry with a key, right rows and then a bad one
module _ (k : Kind) (r : Rowed k) where
  abbrev Near : ℕ → ℕ → Rows → Checked → Type 0
  Near p low rows sound = low + length rows < 2028
  Near p low rows (broken_at q) = low + q < 2028 + p

  near-after : (p : ℕ) (before : List ℕ) (rows : Rows) → length before ≡ k.key → Small before → Led before
      → Near p (rank 0 before) rows (check_rows k p before rows)
  unfolding check_rows
  near-after p before [] l s d = omega (arith, rank-least before (omega (arith, r.figures.few)) s d)
  near-after p before (row ∷ rows) l s d =
      go (near-after (suc p) (key_of k row) rows) (row_right k before row) refl
    where
      go : (length (key_of k row) ≡ k.key → Small (key_of k row) → Led (key_of k row)
          → Near (suc p) (rank 0 (key_of k row)) rows (check_rows k (suc p) (key_of k row) rows))
          → (t : Bool) → row_right k before row ≡ t
          → Near p (rank 0 before) (row ∷ rows) (cond t (check_rows k (suc p) (key_of k row) rows) (broken_at p))
      go ih true e =
          let key = right-key k r before row e in
          let low : rank 0 before < rank 0 (key_of k row) =
          rank-rises before (key_of k row) 0 (l ∙ sym key.long) s key.up in
          step (check_rows k (suc p) (key_of k row) rows) low (ih key.long key.small key.led)
        where
          step : (c : Checked) → rank 0 before < rank 0 (key_of k row) → Near (suc p) (rank 0 (key_of k row)) rows c
              → Near p (rank 0 before) (row ∷ rows) c
          step sound low n = omega arith
          step (broken_at q) low n = omega arith
      go ih false e = omega (arith, rank-least before (omega (arith, r.figures.few)) s d)

  -- and with none before
  abbrev Few : ℕ → Rows → Checked → Type 0
  Few p rows sound = length rows ≤ 2028
  Few p rows (broken_at q) = q ≤ p + 2028

  few-rows : (p : ℕ) (rows : Rows) → Few p rows (check_rows k p [] rows)
  unfolding check_rows
  few-rows p [] = omega arith
  few-rows p (row ∷ rows) = go (row_right k [] row) refl
    where
      go : (t : Bool) → row_right k [] row ≡ t
          → Few p (row ∷ rows) (cond t (check_rows k (suc p) (key_of k row) rows) (broken_at p))
      go true e =
          let key = right-key k r [] row e in
          step (check_rows k (suc p) (key_of k row) rows) (near-after (suc p) (key_of k row) rows key.long
          key.small key.led)
        where
          step : (c : Checked) → Near (suc p) (rank 0 (key_of k row)) rows c → Few p (row ∷ rows) c
          step sound n = omega arith
          step (broken_at q) n = omega arith
      go false e = omega arith

  pub few-right : (p : ℕ) (rows : Rows) → check_rows k p [] rows ≡ sound → length rows ≤ 2028
  few-right p rows e = rw e at (few-rows p rows)

  pub bad-near : (p : ℕ) (rows : Rows) (q : ℕ) → check_rows k p [] rows ≡ broken_at q → q ≤ p + 2028
  bad-near p rows q e = rw e at (few-rows p rows)

  -- an entry is no longer than a row
  pub laid-short : (p : ℕ) (before : List ℕ) (rows : Rows) → check_rows k p before rows ≡ sound
      → length (laid k rows) ≤ 25 * length rows
  unfolding laid
  laid-short p before [] h = omega arith
  laid-short p before (row ∷ rows) h =
      let d = right-first k p before row rows h in
      let t = right-so k r before row d.first in
      omega (
        arith,
        length-append (entry_in_row k row) (laid k rows),
        in-row-length k row,
        t.fits,
        r.figures.narrow,
        laid-short (suc p) (key_of k row) rows d.later,
      )

-- of lists
pub entry-near : (ks : List Kind) → AllRowed ks → (j p : ℕ) (rows : ℕ → Rows) (q : ℕ)
    → check_lists ks j p rows ≡ broken_at q → q ≤ p + 2028 * length ks
unfolding check_lists
entry-near [] all j p rows q e = broken-unsound (sym e)
entry-near (k ∷ ks) all j p rows q e =
    go (entry-near ks (λ i l. all (suc i) (omega arith)) (suc j) (p + length (rows j)) rows q)
    (check_rows k p [] (rows j)) refl e
  where
    go : (check_lists ks (suc j) (p + length (rows j)) rows ≡ broken_at q
        → q ≤ p + length (rows j) + 2028 * length ks)
        → (c : Checked) → check_rows k p [] (rows j) ≡ c
        → sound_then c (check_lists ks (suc j) (p + length (rows j)) rows) ≡ broken_at q
        → q ≤ p + 2028 * length (k ∷ ks)
    go ih sound f h = omega (arith, few-right k (all 0 (omega arith)) p (rows j) f, ih h)
    go ih (broken_at b) f h =
        let same : b ≡ q = cc in
        omega (arith, bad-near k (all 0 (omega arith)) p (rows j) b f)
