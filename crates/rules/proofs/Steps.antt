-- One step of each walk over a book, as a loop that counts up takes it: a law for each exit.
-- Assumes nothing.
use Prim.Native.Nat.{ℕ, suc, ◌+◌, ◌*◌, ◌-◌, ◌≤◌, ◌<◌}
use mathlib.Core.Path.{◌≡◌, refl, ap, ◌∙◌}
use mathlib.Core.Bool.{Bool, true, false, ◌&&◌, not, and-true, and-false}
use mathlib.Core.List.{List, [], ◌∷◌, ◌++◌, append_assoc, append-nil}
use native.Mathlib.Omega.{arith}
use native.Mathlib.Nat.{mul-le-mul}
use native.Mathlib.Numerals.{add-one}
use borrow.Author.Tests.{lt-ltb, le-ltb, le-leb, lt-leb, eq-eqb, ne_eqb}
use lib.ListN.{length, get_or, drop, take, drop_of_length-le, length-take, length-drop, set}
use lib.Seq.{drop-cons, drop-drop, get_or-take, length-take-le, take-suc-set}
use lib.Dec.{eqb}
use Rattle.rules.specs.Book.{Walk, ends, broken, short, shift, then_from, Kind, right, numbers_from, size_of}
use Rattle.rules.specs.Book.{key_of, rises, key_falls, entry, entries, sections, section, within, anything}
use Rattle.rules.specs.Book.{sigma, always, kinds, fifth, all_sections, check_book, broken_at, largest_book, sound}
use Rattle.rules.specs.Book.{checked_as}
use Rattle.rules.specs.Book.{staged_rule}
use Rattle.rules.specs.Book.{staged_number, sequential_rule, at_fits, found, nothing, key_for, same_key}
use Rattle.rules.specs.Book.{seek, seek_in, look_up, kind_at, every}
use Rattle.rules.specs.Numbers.{numbers_of}
use Rattle.rules.proofs.Bounded.{by-le}
use Rattle.rules.proofs.Walks.{shift-shift, place, place-then, place-section, place-sections}

one-less : (n i : ℕ) → i < n → n - i ≡ suc (n - (i + 1))
one-less n i h = omega arith

module _ (k : Kind) (e : List ℕ) (n i : ℕ) where
  pub from-done : n ≤ i → numbers_from k e (n - i) i ≡ ends i
  unfolding numbers_from
  from-done h = let z : n - i ≡ 0 = omega arith in rw z

  pub from-short : i < n → length e ≤ i → numbers_from k e (n - i) i ≡ short
  unfolding numbers_from
  from-short h l = rw (one-less n i h, le-ltb i (length e) l)

  pub from-wrong : i < n → i < length e → right k e i ≡ false → numbers_from k e (n - i) i ≡ broken i
  unfolding numbers_from
  from-wrong h l r = rw (one-less n i h, lt-ltb i (length e) l, r)

  pub from-right : i < n → i < length e → right k e i ≡ true
      → numbers_from k e (n - i) i ≡ numbers_from k e (n - (i + 1)) (i + 1)
  unfolding numbers_from
  from-right h l r = rw (add-one i, one-less n i h, lt-ltb i (length e) l, r) (rw add-one)

-- two lists from place i on
module _ (a b : List ℕ) (i : ℕ) where
  pub rises-done : length b ≤ i → rises (drop i a) (drop i b) ≡ false
  unfolding rises
  rises-done h = rw (drop_of_length-le b h)

  pub rises-none : length a ≤ i → i < length b → rises (drop i a) (drop i b) ≡ true
  unfolding rises
  rises-none h l = rw (drop_of_length-le a h, drop-cons b i 0 l)

  pub rises-less : i < length a → i < length b → get_or a i 0 < get_or b i 0 → rises (drop i a) (drop i b) ≡ true
  unfolding rises
  rises-less h l r = rw (drop-cons a i 0 h, drop-cons b i 0 l, lt-ltb (get_or a i 0) (get_or b i 0) r)

  pub rises-more : i < length a → i < length b → get_or b i 0 < get_or a i 0 → rises (drop i a) (drop i b) ≡ false
  unfolding rises
  rises-more h l r =
      let q : get_or b i 0 ≤ get_or a i 0 = omega arith in
      rw (
        drop-cons a i 0 h,
        drop-cons b i 0 l,
        le-ltb (get_or a i 0) (get_or b i 0) q,
        lt-ltb (get_or b i 0)
            (get_or a i 0) r,
      )

  pub rises-same : i < length a → i < length b → get_or b i 0 ≤ get_or a i 0 → get_or a i 0 ≤ get_or b i 0
      → rises (drop i a) (drop i b) ≡ rises (drop (i + 1) a) (drop (i + 1) b)
  unfolding rises
  rises-same h l q r =
      rw (
        add-one i,
        drop-cons a i 0 h,
        drop-cons b i 0 l,
        le-ltb (get_or a i 0) (get_or b i 0) q,
        le-ltb (get_or b i 0) (get_or a i 0) r,
      )

module _ (k : Kind) (n i at : ℕ) (before ws : List ℕ) where
  pub entries-done : n ≤ i → shift at (entries k (n - i) before (drop at ws)) ≡ ends at
  unfolding entries shift
  entries-done h = let z : n - i ≡ 0 = omega arith in rw z (ap ends (omega arith))

  pub entries-broken : (p : ℕ) → i < n → broken p ≡ entry k before (drop at ws)
      → shift at (entries k (n - i) before (drop at ws)) ≡ broken (at + p)
  unfolding entries shift then_from
  entries-broken p h q = rw (one-less n i h, ← q)

  pub entries-short : i < n → short ≡ entry k before (drop at ws)
      → shift at (entries k (n - i) before (drop at ws)) ≡ short
  unfolding entries shift then_from
  entries-short h q = rw (one-less n i h, ← q)

  pub entries-next : (s : ℕ) → i < n → ends s ≡ entry k before (drop at ws)
      → shift at (entries k (n - i) before (drop at ws))
      ≡ shift (at + s) (entries k (n - (i + 1)) (key_of k (drop at ws)) (drop (at + s) ws))
  unfolding entries then_from
  entries-next s h q = rw (one-less n i h, ← q) (shift-shift at s _ ∙ rw (drop-drop s at ws))

-- two keys, from place i on; the later one is whole
module _ (a b : List ℕ) (key i : ℕ) (whole : key ≤ length b) where
  later : i < key → i < length (take key b)
  later h = rw (length-take-le key b whole) h

  earlier : i < key → i < length a → i < length (take key a)
  earlier h l = rw (length-take key a) (omega arith)

  pub key-done : key ≤ i → rises (drop i (take key a)) (drop i (take key b)) ≡ false
  key-done h = rises-done (take key a) (take key b) i (rw (length-take-le key b whole) h)

  pub key-none : i < key → length a ≤ i → rises (drop i (take key a)) (drop i (take key b)) ≡ true
  key-none h l = rises-none (take key a) (take key b) i (rw (length-take key a) (omega arith)) (later h)

  pub key-less : i < key → i < length a → get_or a i 0 < get_or b i 0
      → rises (drop i (take key a)) (drop i (take key b)) ≡ true
  key-less h l r =
      rises-less (take key a) (take key b) i (earlier h l) (later h)
      (rw (get_or-take key a i 0 h, get_or-take key b i 0 h) r)

  pub key-more : i < key → i < length a → get_or b i 0 < get_or a i 0
      → rises (drop i (take key a)) (drop i (take key b)) ≡ false
  key-more h l r =
      rises-more (take key a) (take key b) i (earlier h l) (later h)
      (rw (get_or-take key a i 0 h, get_or-take key b i 0 h) r)

  pub key-same : i < key → i < length a → get_or b i 0 ≤ get_or a i 0 → get_or a i 0 ≤ get_or b i 0
      → rises (drop i (take key a)) (drop i (take key b))
      ≡ rises (drop (i + 1) (take key a)) (drop (i + 1) (take key b))
  key-same h l q r =
      rises-same (take key a) (take key b) i (earlier h l) (later h)
      (rw (get_or-take key a i 0 h, get_or-take key b i 0 h) q)
      (rw (get_or-take key a i 0 h, get_or-take key b i 0 h) r)

module _ (ks : List Kind) (d : Kind) (j at : ℕ) (ws : List ℕ) where
  pub sections-done : length ks ≤ j → shift at (sections (drop j ks) (drop at ws)) ≡ ends at
  unfolding sections shift
  sections-done h = rw (drop_of_length-le ks h) (ap ends (omega arith))

  pub sections-broken : (p : ℕ) → j < length ks → broken p ≡ section (get_or ks j d) (drop at ws)
      → shift at (sections (drop j ks) (drop at ws)) ≡ broken (at + p)
  unfolding sections shift then_from
  sections-broken p h q = rw (drop-cons ks j d h, ← q)

  pub sections-short : j < length ks → short ≡ section (get_or ks j d) (drop at ws)
      → shift at (sections (drop j ks) (drop at ws)) ≡ short
  unfolding sections shift then_from
  sections-short h q = rw (drop-cons ks j d h, ← q)

  pub sections-next : (s : ℕ) → j < length ks → ends s ≡ section (get_or ks j d) (drop at ws)
      → shift at (sections (drop j ks) (drop at ws)) ≡ shift (at + s) (sections (drop (j + 1) ks) (drop (at + s) ws))
  unfolding sections then_from
  sections-next s h q = rw (add-one j, drop-cons ks j d h, ← q) (shift-shift at s _ ∙ rw (drop-drop s at ws))

module _ (k : Kind) (before e : List ℕ) where
  pub falls-none : length e < k.key → key_falls k before e ≡ false
  unfolding key_falls
  falls-none h = rw (lt-leb k.key (length e) h)

  pub falls-is : k.key ≤ length e → key_falls k before e ≡ not (rises before (key_of k e))
  unfolding key_falls
  falls-is h = rw (le-leb k.key (length e) h)

module _ (k : Kind) (before e : List ℕ) where
  pub entry-falls : key_falls k before e ≡ true → entry k before e ≡ broken 0
  unfolding entry
  entry-falls h = rw h

  pub entry-rises : key_falls k before e ≡ false → entry k before e ≡ numbers_from k e (size_of k e) 0
  unfolding entry
  entry-rises h = rw h

module _ (k : Kind) (ws : List ℕ) where
  pub section-short : length ws ≡ 0 → section k ws ≡ short
  unfolding section
  section-short h = let z : ws ≡ [] = drop_of_length-le ws {i = 0} (omega arith) in rw z

  pub section-is : 0 < length ws → section k ws ≡ shift 1 (entries k (get_or ws 0 0) [] (drop 1 ws))
  unfolding section
  section-is h = rw (drop-cons ws 0 0 h)

-- what follows the fourth section, which ends before the number at place p of a book of so many bytes
module _ (len p : ℕ) (rest : List ℕ) where
  pub fifth-none : len ≤ 2 * p → fifth len p rest ≡ ends 0
  unfolding fifth
  fifth-none h = rw (le-leb len (2 * p) h)

  pub fifth-empty : 2 * p < len → 0 < length rest → get_or rest 0 0 ≡ 0 → fifth len p rest ≡ broken 0
  unfolding fifth
  fifth-empty h l z = rw (lt-leb len (2 * p) h, drop-cons rest 0 0 l, z)

  pub fifth-is : 2 * p < len → (0 < length rest → 0 < get_or rest 0 0) → fifth len p rest ≡ section sigma rest
  unfolding fifth
  fifth-is h some = go rest some
    where
      go : (r : List ℕ) → (0 < length r → 0 < get_or r 0 0) → fifth len p r ≡ section sigma r
      go [] s = rw (lt-leb len (2 * p) h)
      go (count ∷ r) s =
          rw (lt-leb len (2 * p) h, ne_eqb count 0 (λ z. let y : ⊥ = omega (arith, s (omega arith)) in absurd y))

  -- nothing, a count of 0, or a section: what holds of each walk holds of the fifth's
  pub by-fifth : (P : Walk → Type 0) → (len ≤ 2 * p → P (ends 0))
      → (2 * p < len → 0 < length rest → get_or rest 0 0 ≡ 0 → P (broken 0))
      → (2 * p < len → (0 < length rest → 0 < get_or rest 0 0) → P (section sigma rest)) → P (fifth len p rest)
  by-fifth P none empty some =
      by-le len (2 * p) (λ h. rw (fifth-none h) (none h))
      (λ h.
      by-le (length rest) 0 (λ l. there h (λ g. absurd (omega arith)))
      (λ l.
      by-le (get_or rest 0 0) 0
      (λ z. let e : get_or rest 0 0 ≡ 0 = omega arith in rw (fifth-empty h l e) (empty h l e)) (λ z. there h (λ g. z))))
    where
      there : 2 * p < len → (0 < length rest → 0 < get_or rest 0 0) → P (fifth len p rest)
      there h c = rw (fifth-is h c) (some h c)

  pub place-fifth : place (fifth len p rest) ≤ length rest
  unfolding place
  place-fifth =
      by-fifth (λ w. place w ≤ length rest) (λ h. omega arith) (λ h l z. omega arith)
      (λ h c. place-section sigma rest)

-- the four sections, and then what follows them
module _ (len : ℕ) (ws : List ℕ) where
  pub all-next : (p : ℕ) → ends p ≡ sections always ws → all_sections len ws ≡ shift p (fifth len p (drop p ws))
  unfolding all_sections then_from
  all-next p q = rw (← q)

  pub all-broken : (p : ℕ) → broken p ≡ sections always ws → all_sections len ws ≡ broken p
  unfolding all_sections then_from
  all-broken p q = rw (← q)

  pub all-short : short ≡ sections always ws → all_sections len ws ≡ short
  unfolding all_sections then_from
  all-short q = rw (← q)

pub place-all : (len : ℕ) (ws : List ℕ) → place (all_sections len ws) ≤ length ws
unfolding all_sections
place-all len ws =
    place-then (length ws) (sections always ws) (λ p. fifth len p (drop p ws)) (place-sections always ws)
    (λ s l. omega (arith, place-fifth len s (drop s ws), length-drop s ws))

module _ (bytes : List ℕ) where
  pub book-long : 32768 < length bytes → check_book bytes ≡ broken_at largest_book
  unfolding check_book
  book-long h = rw (lt-ltb 32768 (length bytes) h)

  pub book-is : (w : Walk) → length bytes ≤ 32768 → w ≡ all_sections (length bytes) (numbers_of bytes)
      → check_book bytes ≡ checked_as (length bytes) w
  unfolding check_book
  book-is w h q = rw (le-ltb 32768 (length bytes) h, ← q)

pub after-end : (len p : ℕ) → 2 * p < len → checked_as len (ends p) ≡ broken_at (2 * p)
unfolding checked_as
after-end len p h = rw (lt-ltb (2 * p) len h)

pub at-end : (len p : ℕ) → len ≤ 2 * p → checked_as len (ends p) ≡ sound
unfolding checked_as
at-end len p h = rw (le-ltb (2 * p) len h)

pub at-broken : (len p : ℕ) → checked_as len (broken p) ≡ broken_at (2 * p)
unfolding checked_as
at-broken len p = refl

pub at-short : (len : ℕ) → checked_as len short ≡ broken_at len
unfolding checked_as
at-short len = refl

module _ (k : Kind) (e : List ℕ) (i : ℕ) where
  pub right-by : within (get_or k.ranges i anything) (get_or e i 0) ≡ true
      → right k e i ≡ k.rule (take i e) (get_or e i 0)
  unfolding right
  right-by h = rw h

  pub wrong-by : within (get_or k.ranges i anything) (get_or e i 0) ≡ false → right k e i ≡ false
  unfolding right
  wrong-by h = rw h

module _ (e : List ℕ) (i x : ℕ) (h : i < length e) where
  seen : length (take i e) ≡ i
  seen = length-take-le i e (omega arith)

  pub sequential-at : i ≡ 7 → sequential_rule (take i e) x ≡ at_fits (get_or e 3 0) (get_or e 4 0) (get_or e 5 0)
      (get_or e 6 0) x
  unfolding sequential_rule
  sequential-at q =
      rw (
        seen,
        eq-eqb i 7 q,
        get_or-take i e 3 0 (omega arith),
        get_or-take i e 4 0 (omega arith),
        get_or-take i e 5 0 (omega arith),
        get_or-take i e 6 0 (omega arith),
      )

  pub sequential-free : (i ≡ 7 → ⊥) → sequential_rule (take i e) x ≡ true
  unfolding sequential_rule
  sequential-free q = rw (seen, ne_eqb i 7 q)

  pub staged-free : i < 4 → staged_rule (take i e) x ≡ true
  unfolding staged_rule
  staged-free q = rw (seen, lt-ltb i 4 q)

  pub staged-at : 4 ≤ i
      → staged_rule (take i e) x ≡ staged_number i (get_or e 3 0) (get_or e (i - 2) 0) (get_or e (i - 1) 0) x
  unfolding staged_rule
  staged-at q =
      rw (
        seen,
        le-ltb i 4 q,
        get_or-take i e 3 0 (omega arith),
        get_or-take i e (i - 2) 0 (omega arith),
        get_or-take i e (i - 1) 0 (omega arith),
      )

pub square-fits : (a b : ℕ) → a < 65536 → b < 65536 → a * b ≤ 4294836225
square-fits a b h l = let p : a ≤ 65535 = omega arith in let q : b ≤ 65535 = omega arith in mul-le-mul p q

-- the look-up in a section, at the entry at a place
module _ (k : Kind) (key : List ℕ) (n i at : ℕ) (ws : List ℕ) where
  pub seek-done : n ≤ i → seek k key (n - i) (drop at ws) ≡ nothing
  unfolding seek
  seek-done h = let z : n - i ≡ 0 = omega arith in rw z

  pub seek-found : i < n → same_key (key_of k (drop at ws)) key ≡ true
      → seek k key (n - i) (drop at ws) ≡ found (take (size_of k (drop at ws)) (drop at ws))
  unfolding seek
  seek-found h u = rw (one-less n i h, u)

  pub seek-next : i < n → same_key (key_of k (drop at ws)) key ≡ false
      → seek k key (n - i) (drop at ws) ≡ seek k key (n - (i + 1)) (drop (at + size_of k (drop at ws)) ws)
  unfolding seek
  seek-next h u = rw (one-less n i h, u, drop-drop (size_of k (drop at ws)) at ws)

-- an entry whose key is not whole is under no key
pub same-short : (a b : List ℕ) → length a < length b → same_key a b ≡ false
unfolding same_key
same-short [] (b ∷ ys) h = refl
same-short (a ∷ xs) (b ∷ ys) h =
    let l : length xs < length ys = omega arith in rw (same-short xs ys l) (and-false (eqb a b))
same-short a [] h = let z : ⊥ = omega arith in absurd z

module _ (k : Kind) (severity letter column at : ℕ) (ws : List ℕ) (whole : at + k.key ≤ length ws) where
  pub under-two : k.key ≡ 2
      → same_key (key_of k (drop at ws)) (key_for k severity letter column)
      ≡ eqb (get_or ws at 0) letter && eqb (get_or ws (at + 1) 0) column
  unfolding same_key
  under-two q =
      let a : at < length ws = omega arith in
      let b : suc at < length ws = omega arith in
      rw (q, drop-cons ws at 0 a, drop-cons ws (suc at) 0 b, add-one at)
      (ap (λ (t : Bool). eqb (get_or ws at 0) letter && t) (and-true (eqb (get_or ws (suc at) 0) column)))

  pub under-three : k.key ≡ 3
      → same_key (key_of k (drop at ws)) (key_for k severity letter column)
      ≡ eqb (get_or ws at 0) severity && (eqb (get_or ws (at + 1) 0) letter && eqb (get_or ws (at + 2) 0) column)
  unfolding same_key
  under-three q =
      let a : at < length ws = omega arith in
      let b : suc at < length ws = omega arith in
      let c : suc (suc at) < length ws = omega arith in
      let two : at + 2 ≡ suc (suc at) = omega arith in
      rw (q, drop-cons ws at 0 a, drop-cons ws (suc at) 0 b, drop-cons ws (suc (suc at)) 0 c, add-one at, two)
      (ap (λ (t : Bool). eqb (get_or ws at 0) severity && (eqb (get_or ws (suc at) 0) letter && t))
      (and-true (eqb (get_or ws (suc (suc at)) 0) column)))

module _ (j severity letter column : ℕ) (ws : List ℕ) where
  pub look-up-at : (p : ℕ) → ends p ≡ sections (take j kinds) ws
      → look_up j severity letter column ws
      ≡ seek_in (kind_at j) (key_for (kind_at j) severity letter column) (drop p ws)
  unfolding look_up
  look-up-at p q = rw (← q)

-- a list that is filled from the front with every s-th number
module _ (p s n i : ℕ) (ws l : List ℕ) where
  pub fill-next : i < n → i < length l
      → take i l ++ every p s (n - i) ws ≡ take (i + 1) (set l i (get_or ws p 0)) ++ every (p + s) s (n - (i + 1)) ws
  unfolding every
  fill-next h g =
      rw (
        one-less n i h,
        add-one i,
        take-suc-set l i (get_or ws p 0) g,
        append_assoc (take i l) (get_or ws p 0 ∷ []) (every (p + s) s (n - suc i) ws),
      )

  pub fill-done : n ≤ i → take i l ++ every p s (n - i) ws ≡ take i l
  unfolding every
  fill-done h = let z : n - i ≡ 0 = omega arith in rw z (append-nil (take i l))
