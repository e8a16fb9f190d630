-- Where sections and entries stand by counts and sizes alone, as loops that count up meet them: a law for each step.
-- Assumes nothing.
use Prim.Native.Nat.{ℕ, zero, suc, ◌+◌, ◌-◌, ◌*◌, ◌≤◌, ◌<◌, min}
use mathlib.Core.Path.{◌≡◌, refl, ap, sym, ◌∙◌}
use mathlib.Core.Bool.{true, false}
use mathlib.Core.List.{List, []}
use native.Mathlib.Omega.{arith}
use native.Mathlib.Numerals.{add-one}
use borrow.Author.Tests.{lt-ltb, le-ltb}
use Rattle.std.specs.Prelude.{Option, Some, None}
use lib.ListN.{length, get_or, drop, length-drop, drop_of_length-le}
use lib.Seq.{drop-drop, get_or-drop, take-nil}
use Rattle.rules.specs.Numbers.{numbers_of}
use Rattle.rules.specs.Book.{Kind, size_of, key_of, key_for, same_key, kinds, kind_at, check_book, sound}
use Rattle.rules.specs.Layout.{entry_at, section_size, section_at}
use Rattle.rules.proofs.Bounded.{by-le}
use Rattle.rules.proofs.Faults.{section-next}
use Rattle.rules.proofs.LookUp.{starts}
use Rattle.rules.proofs.Steps.{same-short}
use Rattle.book.specs.Places.{under_from, section_place, onward, place_under, place_laid, from_place, place_held}
use Rattle.book.specs.Places.{laid_place}
use Rattle.book.specs.Paper.{AtEntry, AtSection, Seeking}
use Rattle.book.proofs.Loops.{near-of, in-near, place-at, place-none}

entry-next : (k : Kind) (i : ℕ) (ws : List ℕ) → entry_at k (suc i) ws
    ≡ entry_at k i ws + size_of k (drop (entry_at k i ws) ws)
unfolding entry_at
entry-next k zero ws = omega arith
entry-next k (suc i) ws =
    let d = drop (size_of k ws) ws in
    omega (arith, entry-next k i d, ap (size_of k) (drop-drop (entry_at k i d) (size_of k ws) ws))

-- the loop over the entries
module _ {k : Kind} {ws : List ℕ} {at : ℕ} where
  pub entries-open : AtEntry k ws at at 0
  unfolding entry_at
  entries-open = record { stands = omega arith; near = omega arith }

  pub entries-next : {place i key after size : ℕ} → AtEntry k ws at place i → key ≡ k.key
      → after ≡ get_or ws (place + key) 0 → size ≡ k.size after → size < 200000 → AtEntry k ws at (place + size) (i + 1)
  entries-next {place} {i} {key} {after} {size} s e f g b =
      let d = drop at ws in
      let here : drop (entry_at k i d) d ≡ drop place ws =
      drop-drop (entry_at k i d) at ws ∙ ap (λ (n : ℕ). drop n ws) (sym s.stands) in
      let number : after ≡ get_or (drop (entry_at k i d) d) k.key 0 =
      f ∙ ap (λ (n : ℕ). get_or ws (place + n) 0) e ∙ sym (get_or-drop place ws k.key 0)
      ∙ ap (λ (l : List ℕ). get_or l k.key 0) (sym here) in
      record {
        stands = rw add-one (omega (arith, s.stands, entry-next k i d, g, ap k.size number));
        near = omega (arith, s.near);
      }

-- past the fifth no section adds anything
sections-past : (j : ℕ) (ws : List ℕ) → length kinds ≤ j → section_at kinds (length kinds) ws ≡ section_at kinds j ws
unfolding section_at
sections-past zero ws h = let z : ⊥ = omega arith in absurd z
sections-past (suc zero) ws h = let z : ⊥ = omega arith in absurd z
sections-past (suc (suc zero)) ws h = let z : ⊥ = omega arith in absurd z
sections-past (suc (suc (suc zero))) ws h = let z : ⊥ = omega arith in absurd z
sections-past (suc (suc (suc (suc zero)))) ws h = let z : ⊥ = omega arith in absurd z
sections-past (suc (suc (suc (suc (suc zero))))) ws h = refl
sections-past (suc (suc (suc (suc (suc (suc j)))))) ws h = refl

-- the loop over the sections
module _ {ws : List ℕ} where
  pub sections-open : AtSection ws 0 0
  unfolding section_at
  sections-open = record { stands = refl; near = omega arith }

  pub sections-next : {at kind count next : ℕ} → AtSection ws at kind → kind < length kinds
      → count ≡ get_or ws at 0 → count < 65536 → next ≡ at + 1 + entry_at (kind_at kind) count (drop (at + 1) ws)
      → next ≤ at + 1 + 200000 * count → AtSection ws next (kind + 1)
  sections-next {at} {kind} {count} {next} s l e few f near =
      let k = kind_at kind in
      let start = drop (section_at kinds kind ws) ws in
      let first : get_or start 0 0 ≡ count =
      let z : at + 0 ≡ at = omega arith in
      ap (λ (n : ℕ). get_or (drop n ws) 0 0) (sym s.stands) ∙ get_or-drop at ws 0 0
      ∙ ap (λ (n : ℕ). get_or ws n 0) z ∙ sym e in
      let rest : drop 1 start ≡ drop (at + 1) ws =
      ap (λ (n : ℕ). drop 1 (drop n ws)) (sym s.stands) ∙ drop-drop 1 at ws in
      let size : section_size k start ≡ suc (entry_at k count (drop (at + 1) ws)) =
      ap suc (ap (λ (n : ℕ). entry_at k n (drop 1 start)) first ∙ ap (entry_at k count) rest) in
      record {
        stands = rw add-one (omega (arith, f, s.stands, section-next kinds kind ws (omega arith), size));
        near = omega (arith, s.near);
      }

  pub sections-done : {at kind : ℕ} (j : ℕ) → AtSection ws at kind → kind ≡ min j (length kinds)
      → (at ≡ section_at kinds j ws) × (at ≤ 65536000000)
  sections-done {at} {kind} j s e = (
    by-le j (length kinds)
        (λ h. let same : kind ≡ j = omega arith in rw same at s.stands)
        (λ h.
        let same : kind ≡ length kinds = omega arith in
        let all : at ≡ section_at kinds (length kinds) ws = rw same at s.stands in
        all ∙ sections-past j ws (omega arith)),
    omega (arith, s.near),
  )

-- past the numbers nothing is under a key
under-past : (k : Kind) (key ws : List ℕ) → 0 < length key → (n at : ℕ) → length ws ≤ at
    → None ≡ under_from k key n at ws
unfolding under_from
under-past k key ws some zero at h = refl
under-past k key ws some (suc n) at h =
    let no : same_key (key_of k (drop at ws)) key ≡ false =
    rw (drop_of_length-le ws {i = at} h, take-nil k.key) (same-short [] key some) in
    rw no (under-past k key ws some n (at + size_of k (drop at ws)) (omega arith))

-- the loop that seeks
module _ {k : Kind} {key ws : List ℕ} where
  module _ {n at i : ℕ} (s : Seeking k key ws n at i) where
    pub seek-past : 0 < length key → length ws ≤ at → None ≡ section_place k key ws
    seek-past some h = under-past k key ws some (n - i) at h ∙ sym s.looks

    pub seek-done : n ≤ i → None ≡ section_place k key ws
    unfolding under_from
    seek-done h = let z : n - i ≡ 0 = omega arith in sym (s.looks ∙ ap (λ (m : ℕ). under_from k key m at ws) z)

    module _ (more : i < n) where
      one : n - i ≡ suc (n - (i + 1))
      one = omega arith

      pub seek-here : same_key (key_of k (drop at ws)) key ≡ true → Some at ≡ section_place k key ws
      unfolding under_from
      seek-here t = sym (s.looks ∙ ap (λ (m : ℕ). under_from k key m at ws) one ∙ rw t)

      pub seek-next : {size : ℕ} → same_key (key_of k (drop at ws)) key ≡ false → size ≡ size_of k (drop at ws)
          → Seeking k key ws n (at + size) (i + 1)
      unfolding under_from
      seek-next {size} t e =
          record {
            looks =
                s.looks ∙ ap (λ (m : ℕ). under_from k key m at ws) one
                ∙ rw t (ap (λ (m : ℕ). under_from k key (n - (i + 1)) (at + m) ws) (sym e));
          }

-- where a look-up by counts and sizes alone finds an entry: a law for each exit
module _ (j severity letter column : ℕ) (book : List ℕ) where
  abbrev ws : List ℕ
  ws = numbers_of book

  abbrev key : List ℕ
  key = key_for (kind_at j) severity letter column

  abbrev laid : Option ℕ
  laid = place_laid j (λ k. key_for k severity letter column) ws

  pub laid-none : length kinds ≤ j → None ≡ laid
  unfolding place_laid
  laid-none h = rw (le-ltb j 5 h)

  module _ (known : j < length kinds) (at : ℕ) (e : at ≡ section_at kinds j ws) where
    laid-at : (seen : Option ℕ) → seen ≡ section_place (kind_at j) key (drop at ws) → laid ≡ onward at seen
    unfolding place_laid
    laid-at seen f = rw (lt-ltb j 5 known, ← e, f)

    pub laid-past : length ws ≤ at → None ≡ laid
    unfolding under_from
    laid-past h =
        let none : drop at ws ≡ [] = drop_of_length-le ws {i = at} h in
        sym (laid-at None (rw none))

    pub laid-unseen : None ≡ section_place (kind_at j) key (drop at ws) → None ≡ laid
    laid-unseen f = sym (laid-at None f)

    module _ (seen : ℕ) (f : Some seen ≡ section_place (kind_at j) key (drop at ws)) where
      pub laid-seen : Some (at + seen) ≡ laid
      laid-seen = sym (laid-at (Some seen) f)

      pub laid-near : at < length ws → at + seen ≤ length ws
      laid-near h =
          omega (arith, near-of (in-near j severity letter column (drop at ws)) (sym f), length-drop at ws)

  -- in a sound book it is what a look-up that checks the book answers
  pub laid-held : check_book book ≡ sound → laid_place j severity letter column book
      ≡ place_held j severity letter column book
  unfolding place_held place_laid
  laid-held good = rw good (ap from_place (by-le (length kinds) j absent present))
    where
      absent : length kinds ≤ j → laid ≡ place_under j (λ k. key_for k severity letter column) ws
      absent h = rw (le-ltb j 5 h) (sym (place-none j (λ k. key_for k severity letter column) ws h))

      present : j < length kinds → laid ≡ place_under j (λ k. key_for k severity letter column) ws
      present h =
          laid-at h (section_at kinds j ws) refl _ refl
          ∙ sym (place-at j (λ k. key_for k severity letter column) ws _ h (sym (starts book good j h)))
