-- Document 02, T-07: the fifth section of the plan book, each sentence of it about the book as a law of its own.
-- Assumes nothing.
use Prim.Native.Nat.{ℕ, suc, ◌+◌, ◌*◌, ◌≤◌, ◌<◌}
use mathlib.Core.Path.{◌≡◌, refl, ap, sym, ◌∙◌}
use mathlib.Core.Bool.{cond, ◌||◌}
use mathlib.Core.List.{List, [], ◌∷◌, ◌++◌}
use native.Mathlib.Omega.{arith}
use borrow.Author.Tests.{lt-ltb, le-ltb}
use lib.Dec.{ltb}
use lib.ListN.{length, get_or, take, drop, length-drop}
use lib.Seq.{get_or-drop}
use Rattle.rules.specs.Refusals.{Answer, given, ◌gives◌, first_of, buffer_short}
use Rattle.rules.specs.Numbers.{numbers_of, number_bytes}
use Rattle.rules.specs.Book.{Kind, Walk, ends, broken, short, shift, then_from, section, sections, variables}
use Rattle.rules.specs.Book.{sigma, always, fifth, all_sections, Checked, sound, broken_at, checked_as, on_sound}
use Rattle.rules.specs.Book.{largest_book, check_book, nothing, key_for, seek, seek_in, from_end, look_up}
use Rattle.rules.specs.Layout.{fourth_end, section_from}
use Rattle.rules.specs.Writing.{Rows, check_rows, check_lists, laid, laid_section, laid_lists, write_book}
use Rattle.rules.specs.Writing.{shown, read_entries}
use Rattle.rules.proofs.Bounded.{by-le}
use Rattle.rules.proofs.Demands.Writing.{count-is}
use Rattle.rules.proofs.Faults.{fourth-ends}
use Rattle.rules.proofs.LookUp.{broken-unsound, sound-whole, no-fifth, fifth-ended}
use Rattle.rules.proofs.Numbers.{numbers-low}
use Rattle.rules.proofs.SectionKinds.{always-kind, always-take}
use Rattle.rules.proofs.Steps.{book-long, book-is, after-end, at-broken, at-short, section-short}
use Rattle.rules.proofs.Steps.{fifth-none, fifth-empty, fifth-is, all-next}

-- the check of document 01: four sections, and nothing follows
unfoldable pub check_before : List ℕ → Checked
check_before bytes =
    cond (ltb largest_book (length bytes)) (broken_at largest_book)
    (checked_as (length bytes) (sections always (numbers_of bytes)))

module _ (bytes : List ℕ) where
  abbrev ws : List ℕ
  ws = numbers_of bytes

  abbrev len : ℕ
  len = length bytes

  before-long : largest_book < len → check_before bytes ≡ broken_at largest_book
  unfolding check_before
  before-long h = rw (lt-ltb largest_book len h)

  before-is : len ≤ largest_book → check_before bytes ≡ checked_as len (sections always ws)
  unfolding check_before
  before-is h = rw (le-ltb largest_book len h)

  -- where nothing follows four sections that end, the walks are one
  one-walk : ((p : ℕ) → sections always ws ≡ ends p → len ≤ 2 * p) → all_sections len ws ≡ sections always ws
  unfolding all_sections then_from shift
  one-walk none = go (sections always ws) none
    where
      go : (w : Walk) → ((p : ℕ) → w ≡ ends p → len ≤ 2 * p) → then_from w (λ p. fifth len p (drop p ws)) ≡ w
      go (ends p) f = rw (fifth-none len p (drop p ws) (f p refl)) (ap ends (omega arith))
      go (broken p) f = refl
      go short f = refl

  as-before : (len ≤ largest_book → (p : ℕ) → sections always ws ≡ ends p → len ≤ 2 * p)
      → check_book bytes ≡ check_before bytes
  as-before none =
      by-le len largest_book
      (λ h. book-is bytes (sections always ws) h (sym (one-walk (none h))) ∙ sym (before-is h))
      (λ h. book-long bytes h ∙ sym (before-long h))

  -- "a book without it is still read": as before, where no byte follows the fourth section
  pub read-as-before : len ≤ 2 * fourth_end bytes → check_book bytes ≡ check_before bytes
  read-as-before h = as-before (λ l p e. omega (arith, fourth-ends ws p e))

  -- .. and wherever the check of four sections found anything else than that bytes follow them
  unless-follows : (check_before bytes ≡ broken_at (2 * fourth_end bytes) → ⊥) → check_book bytes ≡ check_before bytes
  unless-follows other =
      as-before
      (λ l p e.
      by-le len (2 * p) (λ h. h)
      (λ h.
      absurd
      (other
      (before-is l ∙ ap (checked_as len) e ∙ after-end len p h
      ∙ ap (λ (n : ℕ). broken_at (2 * n)) (fourth-ends ws p e)))))

  -- a book that was sound is sound
  pub sound-as-before : check_before bytes ≡ sound → check_book bytes ≡ sound
  sound-as-before h = unless-follows (λ e. broken-unsound (sym e ∙ h)) ∙ h

  -- one that was broken, but for bytes that follow the fourth section, is broken at the same byte
  pub broken-as-before : (b : ℕ) → check_before bytes ≡ broken_at b → (b ≡ 2 * fourth_end bytes → ⊥)
      → check_book bytes ≡ broken_at b
  broken-as-before b h other = unless-follows (λ e. other (let z : b ≡ 2 * fourth_end bytes = cc in z)) ∙ h

  -- a book that is not too long, whose four sections end
  module _ (fits : len ≤ largest_book) (p : ℕ) (four : sections always ws ≡ ends p) where
    after-four : (w : Walk) → fifth len p (drop p ws) ≡ w → check_book bytes ≡ checked_as len (shift p w)
    after-four w e = book-is bytes (shift p w) fits (sym (all-next len ws p (sym four) ∙ ap (shift p) e))

    -- "12 at the fifth count when it is 0", whatever follows it
    pub empty-fifth : p < length ws → get_or ws p 0 ≡ 0 → check_book bytes ≡ broken_at (2 * p)
    unfolding shift
    empty-fifth l z =
        let e : p + 0 ≡ p = omega arith in
        after-four (broken 0)
        (fifth-empty len p (drop p ws) (omega (arith, numbers-low bytes)) (omega (arith, length-drop p ws))
        (get_or-drop p ws 0 0 ∙ rw e z))
        ∙ at-broken len (p + 0) ∙ ap (λ (n : ℕ). broken_at (2 * n)) e

    -- "the book's length where a number is .. half there": one stray byte is half a fifth count
    pub stray-byte : len ≡ 2 * p + 1 → check_book bytes ≡ broken_at len
    unfolding shift
    stray-byte e =
        let none : length (drop p ws) ≡ 0 = omega (arith, length-drop p ws, numbers-low bytes) in
        after-four short
        (fifth-is len p (drop p ws) (omega arith) (λ l. absurd (omega arith)) ∙ section-short sigma (drop p ws) none)
        ∙ at-short len

    -- "laid out as the fourth": where its count is not 0, the fifth is a section like the others
    module _ (l : p < length ws) (some : 0 < get_or ws p 0) where
      fifth-section : fifth len p (drop p ws) ≡ section sigma (drop p ws)
      fifth-section =
          let e : p + 0 ≡ p = omega arith in
          fifth-is len p (drop p ws) (omega (arith, numbers-low bytes)) (λ g. rw (get_or-drop p ws 0 0, e) some)

      pub with-fifth : check_book bytes ≡ checked_as len (shift p (section sigma (drop p ws)))
      with-fifth = after-four (section sigma (drop p ws)) fifth-section

      -- "or at the first byte after the fifth section in place of the fourth"
      pub after-fifth : (s : ℕ) → section sigma (drop p ws) ≡ ends s → 2 * (p + s) < len
          → check_book bytes ≡ broken_at (2 * (p + s))
      unfolding shift
      after-fifth s e h =
          with-fifth ∙ ap (λ (w : Walk). checked_as len (shift p w)) e ∙ after-end len (p + s) h

  -- "as having none": every look-up in it finds nothing, and it has no entries
  module _ (none : len ≤ 2 * fourth_end bytes) where
    pub nothing-found : (severity letter column : ℕ) → look_up 4 severity letter column ws ≡ nothing
    unfolding look_up seek_in seek
    nothing-found severity letter column = go (sections always ws) refl
      where
        go : (w : Walk) → sections always ws ≡ w
            → from_end w (λ p. seek_in sigma (key_for sigma severity letter column) (drop p ws)) ≡ nothing
        go (ends p) e = rw (fourth-ends ws p e, no-fifth bytes none)
        go (broken p) e = refl
        go short e = refl

    pub no-entries : read_entries ws 4 ≡ []
    unfolding read_entries shown
    no-entries = rw (no-fifth bytes none)

  -- "If present it holds at least one entry"
  pub some-entry : check_book bytes ≡ sound → 2 * fourth_end bytes < len → 0 < length (read_entries ws 4)
  some-entry good h =
      let w = sound-whole bytes good in
      fifth-ended len (fourth_end bytes) (section_from 4 ws) w.size w.after (λ l e. absurd (omega arith))
      (λ l some e. omega (arith, count-is ws 4 (omega arith)))

-- A look-up in the first four sections is as before.
pub found-as-before : (j : ℕ) → j < 4 → (severity letter column : ℕ) (ws : List ℕ)
    → let k = get_or always j variables in
    look_up j severity letter column ws
    ≡ from_end (sections (take j always) ws) (λ p. seek_in k (key_for k severity letter column) (drop p ws))
unfolding look_up
found-as-before j l severity letter column ws =
    rw (always-take j (omega arith), always-kind j (omega arith))

-- the book of document 02, T-03: the entries of each of four lists, "each after its count"
unfoldable pub laid_before : List Kind → ℕ → (ℕ → Rows) → List ℕ
laid_before [] j rows = []
laid_before (k ∷ ks) j rows = (length (rows j) ∷ laid k (rows j)) ++ laid_before ks (suc j) rows

abbrev pub book_before : (ℕ → Rows) → List ℕ
book_before rows = number_bytes (laid_before always 0 rows)

-- and what writing it gave
unfoldable pub write_before : (ℕ → Rows) → ℕ → Answer (List ℕ)
write_before rows room =
    let size = length (book_before rows) in
    on_sound (check_lists always 0 0 rows)
    (first_of ((ltb room size || ltb largest_book size gives buffer_short) ∷ []) (given (book_before rows)))

-- Where the fifth list is empty, what is written is as before: the book, 12 with its position, and 11.
pub written-as-before : (rows : ℕ → Rows) (room : ℕ) → rows 4 ≡ [] → write_book rows room ≡ write_before rows room
unfolding write_book write_before check_lists check_rows laid_lists laid_section laid_before
written-as-before rows room none = rw none
