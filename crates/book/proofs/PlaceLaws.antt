-- The place that a look-up answers: it is that of the entry which the book holds under the key.
-- Assumes nothing.
use Prim.Native.Nat.{ℕ, zero, suc, ◌+◌, ◌≤◌, ◌<◌}
use mathlib.Core.Path.{◌≡◌, refl, ap, sym, ◌∙◌}
use mathlib.Core.Bool.{Bool, true, false, cond}
use mathlib.Core.List.{List}
use native.Mathlib.Omega.{arith}
use borrow.Author.Tests.{lt-ltb, le-leb}
use Rattle.std.specs.Prelude.{Option, Some, None}
use Rattle.rules.proofs.Walks.{place, place-sections}
use lib.ListN.{length, get_or, take, drop, length-drop}
use lib.Seq.{drop-drop}
use Rattle.rules.specs.Refusals.{Answer, refused, given, and_then}
use Rattle.rules.specs.Numbers.{numbers_of}
use Rattle.rules.specs.Book.{Walk, ends, broken, short, Kind, kinds, kind_at, staged, key_of, key_for, same_key}
use Rattle.rules.specs.Book.{size_of}
use Rattle.rules.specs.Book.{sections, seek, seek_in, look_up, from_end, Found, found, nothing, staged_of}
use Rattle.rules.specs.Book.{Checked, sound, broken_at, check_book, on_sound}
use Rattle.rules.specs.Layout.{entry_of}
use Rattle.rules.specs.Entries.{staged_section, from_entry}
use Rattle.rules.proofs.Answers.{refused-given, given-one}
use Rattle.rules.proofs.LookUp.{found-held}
use Rattle.rules.proofs.HeldPlans.{in-range}
use Rattle.entry.specs.Paper.{staged_read}
use Rattle.book.specs.Places.{under_from, section_place, onward, at_end, place_under, from_place, place_held}
use Rattle.book.proofs.Loops.{Near, near-of, in-near}

-- what goes on from what one pass over the book found
pub by-pass : {A B : Type 0} (f : A → Answer B) (book : List ℕ) (p : A) {r : Answer A}
    → r ≡ on_sound (check_book book) (given p) → and_then r f ≡ on_sound (check_book book) (f p)
by-pass f book p t = ap (λ (a : Answer _). and_then a f) t ∙ go (check_book book)
  where
    go : (c : Checked) → and_then (on_sound c (given p)) f ≡ on_sound c (f p)
    go sound = refl
    go (broken_at byte) = refl

-- the entry at a place, if any
abbrev found_at : Kind → Option ℕ → List ℕ → Found
found_at k None ws = nothing
found_at k (Some p) ws = found (entry_of k (drop p ws))

seek-place : (k : Kind) (key ws : List ℕ) (n at : ℕ)
    → seek k key n (drop at ws) ≡ found_at k (under_from k key n at ws) ws
unfolding seek under_from
seek-place k key ws zero at = refl
seek-place k key ws (suc n) at =
    go (same_key (key_of k (drop at ws)) key) _ (seek-place k key ws n (at + size_of k (drop at ws)))
  where
    go : (t : Bool) (later : Option ℕ) → seek k key n (drop (at + size_of k (drop at ws)) ws) ≡ found_at k later ws
        → cond t (found (entry_of k (drop at ws))) (seek k key n (drop (size_of k (drop at ws)) (drop at ws)))
        ≡ found_at k (cond t (Some at) later) ws
    go true later ih = refl
    go false later ih = ap (seek k key n) (drop-drop (size_of k (drop at ws)) at ws) ∙ ih

-- a place in a section that starts at a place of the book
found-onward : (k : Kind) (at : ℕ) (seen : Option ℕ) (ws : List ℕ)
    → found_at k (onward at seen) ws ≡ found_at k seen (drop at ws)
found-onward k at None ws = refl
found-onward k at (Some s) ws = rw (drop-drop s at ws)

module _ (j severity letter column : ℕ) (book : List ℕ) (h : j < length kinds) where
  abbrev k : Kind
  k = kind_at j

  abbrev ws : List ℕ
  ws = numbers_of book

  abbrev key : List ℕ
  key = key_for k severity letter column

  abbrev p : Option ℕ
  p = place_under j (λ k. key_for k severity letter column) ws

  look-up : look_up j severity letter column ws ≡ found_at k p ws
  unfolding look_up place_under seek_in
  look-up = rw (lt-ltb j 5 h) (go (sections (take j kinds) ws))
    where
      go : (w : Walk)
          → from_end w (λ p. seek_in k key (drop p ws))
          ≡ found_at k (at_end w (λ p. onward p (section_place k key (drop p ws)))) ws
      go (ends p) =
          seek-place k key (drop p ws) (get_or (drop p ws) 0 0) 1
          ∙ sym (found-onward k p (section_place k key (drop p ws)) ws)
      go (broken p) = refl
      go short = refl

  under-near : Near (length ws) p
  unfolding place_under place
  under-near = rw (lt-ltb j 5 h) (go (sections (take j kinds) ws) (place-sections (take j kinds) ws))
    where
      onward-near : (p : ℕ) (seen : Option ℕ) → p ≤ length ws → Near (length (drop p ws)) seen
          → Near (length ws) (onward p seen)
      onward-near p None l h = tt
      onward-near p (Some s) l h = omega (arith, length-drop p ws)

      go : (w : Walk) → place w ≤ length ws
          → Near (length ws) (at_end w (λ p. onward p (section_place k key (drop p ws))))
      go (ends p) l = onward-near p _ l (in-near j severity letter column (drop p ws))
      go (broken p) l = tt
      go short l = tt

  -- the answer of a plan that is made of the entry alone
  pub on-held : {A : Type 0} (plan : List ℕ → Answer A)
      → and_then (place_held j severity letter column book) (λ p. plan (entry_of k (drop p ws)))
      ≡ on_sound (check_book book) (from_entry (look_up j severity letter column ws) plan)
  unfolding place_held
  on-held plan = rw look-up (go (check_book book) p)
    where
      go : (c : Checked) (p : Option ℕ)
          → and_then (on_sound c (from_place p)) (λ p. plan (entry_of k (drop p ws)))
          ≡ on_sound c (from_entry (found_at k p ws) plan)
      go sound None = refl
      go sound (Some p) = refl
      go (broken_at byte) p = refl

  pub on-refused : {n q : ℕ} → place_held j severity letter column book ≡ refused n q
      → {A : Type 0} (plan : List ℕ → Answer A)
      → refused n q ≡ on_sound (check_book book) (from_entry (look_up j severity letter column ws) plan)
  on-refused e plan =
      sym (ap (λ (a : Answer ℕ). and_then a (λ p. plan (entry_of k (drop p ws)))) e) ∙ on-held plan

  -- what a place that is given says
  module _ (at : ℕ) (e : place_held j severity letter column book ≡ given at) where
    pub on-place : {A : Type 0} (plan : List ℕ → Answer A)
        → plan (entry_of k (drop at ws))
        ≡ on_sound (check_book book) (from_entry (look_up j severity letter column ws) plan)
    on-place plan = sym (ap (λ (a : Answer ℕ). and_then a (λ p. plan (entry_of k (drop p ws)))) e) ∙ on-held plan

    given-by : (check_book book ≡ sound) × (p ≡ Some at)
    unfolding place_held
    given-by = go (check_book book) p refl e
      where
        go : (c : Checked) (p : Option ℕ) {b : Checked} → b ≡ c → on_sound c (from_place p) ≡ given at
            → (b ≡ sound) × (p ≡ Some at)
        go sound None s q = absurd (refused-given q)
        go sound (Some p) s q = (s, ap (λ (n : ℕ). Some n) (given-one q))
        go (broken_at byte) p s q = absurd (refused-given q)

    pub place-sound : check_book book ≡ sound
    place-sound = given-by.0

    pub place-near : at ≤ length ws
    place-near = near-of under-near given-by.1

    pub place-found : look_up j severity letter column ws ≡ found (entry_of k (drop at ws))
    place-found = look-up ∙ rw given-by.1

-- a staged plan that is found has few stages
pub few-stages : (severity letter column : ℕ) (book : List ℕ) (at : ℕ)
    → place_held staged_section severity letter column book ≡ given at
    → staged_read (entry_of staged (drop at (numbers_of book))) ≡ staged_of
    (entry_of staged (drop at (numbers_of book)))
few-stages severity letter column book at e =
    let s = entry_of staged (drop at (numbers_of book)) in
    let l : staged_section < length kinds = omega arith in
    let good = place-sound staged_section severity letter column book l at e in
    let there = place-found staged_section severity letter column book l at e in
    let held = found-held book good staged_section l severity letter column s there in
    rw (le-leb (get_or s 3 0) 7 (in-range staged s held 3 (omega arith)).1)
