-- Demands 1 and 2 of document 02, T-03. For each of its three entries, exactly when it is refused and exactly when it
-- is given; and "reading a written book gives back the entries .., and writing a read book gives back its bytes",
-- proved once over the kinds of section. Assumes nothing.
use Prim.Native.Nat.{ℕ, zero, suc, ◌+◌, ◌*◌, ◌≤◌, ◌<◌}
use mathlib.Core.Path.{◌≡◌, refl, ap, sym, ◌∙◌}
use mathlib.Core.Logic.{◌↔◌, ◌⊎◌, inl, inr}
use mathlib.Core.Bool.{Bool, true, false, ◌||◌, true≢false, or-true}
use mathlib.Core.List.{List, [], ◌∷◌, map}
use native.Mathlib.Nat.{le_refl}
use native.Mathlib.Omega.{arith}
use borrow.Author.Tests.{lt-ltb, le-ltb, ltb-true, ltb-false, leb-true, leb-false, le-leb, lt-leb}
use lib.Dec.{ltb, leb}
use lib.ListN.{length, get_or, drop, length-map}
use Rattle.rules.specs.Refusals.{Answer, refused, given, ◌gives◌, first_of, no_plan, buffer_short, broken_book}
use Rattle.rules.specs.Numbers.{numbers_of, number_bytes}
use Rattle.rules.specs.Book.{Kind, ends, kinds, kind_at, all_sections}
use Rattle.rules.specs.Book.{Checked, sound, broken_at, largest_book, check_book, on_sound}
use Rattle.rules.specs.Layout.{section_from, entry_at}
use Rattle.rules.specs.Reporting.{NoRow, OnBook, Row}
use Rattle.rules.specs.Writing.{Rows, row_of, lent_rows, check_lists, laid_lists}
use Rattle.rules.specs.Writing.{book_of, no_room, write_book, read_entries, count_entries, read_entry}
use Rattle.rules.specs.Writable.{FirstBadEntry, NoneBad, NoRoom, buffer_shorter, book_too_long, Writes, BadEntry}
use Rattle.rules.specs.Writable.{tidy}
use Rattle.rules.specs.Writable.{Alike, joined, lent_from}
use Rattle.rules.proofs.Answers.{refused-given, given-one}
use Rattle.rules.proofs.Bools.{or-neither}
use Rattle.rules.proofs.BadEntries.{Finds, entries-find}
use Rattle.rules.proofs.Bounded.{never}
use Rattle.rules.proofs.EntryLaws.{on-book, sound-given, two-given}
use Rattle.rules.proofs.FewKeys.{entry-near}
use Rattle.rules.proofs.LentRows.{rows_of, rows-lent}
use Rattle.rules.proofs.LookUp.{sound-whole}
use Rattle.rules.proofs.Numbers.{numbers-back, bytes-twice, bytes-back}
use Rattle.rules.proofs.Refusals.{check, nothing-wrong, seen-from}
use Rattle.rules.proofs.RowLaws.{rowed, row-length}
use Rattle.rules.proofs.Steps.{book-is, at-end}
use Rattle.rules.proofs.Written.{lists-each, mapped, tidy-alike}
use Rattle.rules.proofs.Written.{all-rowed, all-read, all-back, all-again, section_rows, shown-count}
use Rattle.rules.proofs.Written.{shown-at, alike-lists}

-- ---- write_book: 12 exactly at the first bad entry, then 11 exactly where there is no room, and else the book

module _ (rows : ℕ → Rows) (room : ℕ) where
  abbrev size : ℕ
  size = length (book_of rows)

  -- what it answers, by what the check finds and whether there is no room
  abbrev answer : Checked → Bool → Answer (List ℕ)
  answer c full = on_sound c (first_of ((full gives buffer_short) ∷ []) (given (book_of rows)))

  abbrev full : Bool
  full = no_room rows room

  is-full : full ≡ true → NoRoom rows room
  is-full h = go (ltb room size) refl h
    where
      go : (t : Bool) → ltb room size ≡ t → t || ltb largest_book size ≡ true → NoRoom rows room
      go true e q = buffer_shorter (ltb-true room size e)
      go false e q = book_too_long (ltb-true largest_book size q)

  full-so : NoRoom rows room → full ≡ true
  full-so (buffer_shorter h) = rw (lt-ltb room size h)
  full-so (book_too_long h) = rw (lt-ltb largest_book size h) (or-true (ltb room size))

  not-full : full ≡ false → (size ≤ room) × (size ≤ largest_book)
  not-full h =
      let n = or-neither (ltb room size) (ltb largest_book size) h in
      (ltb-false room size n.0, ltb-false largest_book size n.1)

  by-12 : (c : Checked) (t : Bool) → Finds (BadEntry rows) c → (q : ℕ)
      → (answer c t ≡ refused broken_book q) ↔ FirstBadEntry rows q
  by-12 sound true f q = (λ e. never (cc), λ b. absurd (f q b.bad))
  by-12 sound false f q = (λ e. absurd (refused-given (sym e)), λ b. absurd (f q b.bad))
  by-12 (broken_at p) t f q = (so, back)
    where
      so : answer (broken_at p) t ≡ refused broken_book q → FirstBadEntry rows q
      so e = let z : p ≡ q = cc in rw (← z) (record { bad = f.0; first = f.1 })

      back : FirstBadEntry rows q → answer (broken_at p) t ≡ refused broken_book q
      back b = let z : p ≡ q = omega (arith, f.1 q b.bad, b.first p f.0) in ap (refused broken_book) z

  pub write-12 : (q : ℕ) → (write_book rows room ≡ refused broken_book q) ↔ FirstBadEntry rows q
  unfolding write_book
  write-12 q = by-12 (check_lists kinds 0 0 rows) full (entries-find rows) q

  by-11 : (c : Checked) (t : Bool) → Finds (BadEntry rows) c → (t ≡ true → NoRoom rows room)
      → (NoRoom rows room → t ≡ true) → (q : ℕ)
      → (answer c t ≡ refused buffer_short q) ↔ ((q ≡ 0) × NoneBad rows × NoRoom rows room)
  by-11 sound true f so back q = (λ e. (cc, f, so refl), λ h. ap (refused buffer_short) (sym h.0))
  by-11 sound false f so back q =
      (λ e. absurd (refused-given (sym e)), λ h. absurd (true≢false (sym (back h.2))))
  by-11 (broken_at p) t f so back q = (λ e. never (cc), λ h. absurd (h.1 p f.0))

  pub write-11 : (q : ℕ)
      → (write_book rows room ≡ refused buffer_short q) ↔ ((q ≡ 0) × NoneBad rows × NoRoom rows room)
  unfolding write_book
  write-11 q = by-11 (check_lists kinds 0 0 rows) full (entries-find rows) is-full full-so q

  by-given : (c : Checked) (t : Bool) → Finds (BadEntry rows) c → (t ≡ false → (size ≤ room) × (size ≤ largest_book))
      → (NoRoom rows room → t ≡ true) → (t ≡ true → NoRoom rows room) → (b : List ℕ)
      → (answer c t ≡ given b) ↔ Writes rows room b
  by-given sound true f so back Full-is b = (λ e. absurd (refused-given e), λ w. absurd (over w (Full-is refl)))
    where
      over : Writes rows room b → NoRoom rows room → ⊥
      over w (buffer_shorter h) = omega (arith, w.in-room, ap length w.is-book)
      over w (book_too_long h) = omega (arith, w.not-long, ap length w.is-book)
  by-given sound false f so back Full-is b = (
    λ e.
        let z : b ≡ book_of rows = sym (given-one e) in
        record {
          none-bad = f;
          in-room = rw z (so refl).0;
          not-long = rw z (so refl).1;
          is-book = z;
        },
    λ w. ap given (sym w.is-book),
  )
  by-given (broken_at p) t f so back Full-is b =
      (λ e. absurd (refused-given e), λ w. absurd (w.none-bad p f.0))

  pub write-given : (b : List ℕ) → (write_book rows room ≡ given b) ↔ Writes rows room b
  unfolding write_book
  write-given b = by-given (check_lists kinds 0 0 rows) full (entries-find rows) not-full full-so is-full b

  -- a position is told whole: there are few keys, so the first bad entry is not far
  pub write-near : (n q : ℕ) → write_book rows room ≡ refused n q → q ≤ 10140
  unfolding write_book
  write-near n q e = go (check_lists kinds 0 0 rows) refl full e
    where
      go : (c : Checked) → check_lists kinds 0 0 rows ≡ c → (t : Bool) → answer c t ≡ refused n q → q ≤ 10140
      go sound f true h = let z : 0 ≡ q = cc in omega arith
      go sound f false h = absurd (refused-given (sym h))
      go (broken_at p) f t h =
          let z : p ≡ q = cc in
          omega (arith, entry-near kinds all-rowed 0 0 rows p f)

  -- there is no other refusal
  pub write-no-other : (n q : ℕ) → write_book rows room ≡ refused n q → (n ≡ broken_book) ⊎ (n ≡ buffer_short)
  unfolding write_book
  write-no-other n q e = go (check_lists kinds 0 0 rows) full e
    where
      go : (c : Checked) (t : Bool) → answer c t ≡ refused n q → (n ≡ broken_book) ⊎ (n ≡ buffer_short)
      go sound true h = inr (cc)
      go sound false h = absurd (refused-given (sym h))
      go (broken_at p) t h = inl (cc)

-- ---- the written book, read

-- where no entry is bad the check finds none
none-sound : (rows : ℕ → Rows) → NoneBad rows → check_lists kinds 0 0 rows ≡ sound
none-sound rows none = go (check_lists kinds 0 0 rows) (entries-find rows)
  where
    go : (c : Checked) → Finds (BadEntry rows) c → c ≡ sound
    go sound f = refl
    go (broken_at p) f = absurd (none p f.0)

module _ (rows : ℕ → Rows) (room : ℕ) (book : List ℕ) (given-book : write_book rows room ≡ given book) where
  writes : Writes rows room book
  writes = (write-given rows room book).0 given-book

  numbers-are : numbers_of book ≡ laid_lists kinds 0 rows
  numbers-are = ap numbers_of writes.is-book ∙ numbers-back (laid_lists kinds 0 rows)

  right : check_lists kinds 0 0 rows ≡ sound
  right = none-sound rows writes.none-bad

  -- the written book is sound
  pub written-sound : check_book book ≡ sound
  written-sound =
      let ws = laid_lists kinds 0 rows in
      let twice : length book ≡ 2 * length ws = ap length writes.is-book ∙ bytes-twice ws in
      let read : all_sections (length book) (numbers_of book) ≡ ends (length ws) =
      ap (all_sections (length book)) numbers-are ∙ all-read rows right (length book) twice in
      book-is book (ends (length ws)) writes.not-long (sym read) ∙ at-end (length book) (length ws) (omega arith)

  -- "reading a written book gives back the entries (places past an entry's own stages count for nothing)"
  pub read-written : (j : ℕ) → j < length kinds → read_entries (numbers_of book) j ≡ map (tidy (kind_at j)) (rows j)
  unfolding read_entries
  read-written j l =
      rw (lt-ltb j (length kinds) l, numbers-are) (all-back rows right j l)

  -- the entries that are read are those that were lent, in the same order
  pub read-alike : (j : ℕ) → j < length kinds → Alike (kind_at j) (rows j) (read_entries (numbers_of book) j)
  read-alike j l =
      let c = lists-each kinds 0 0 rows right j l in
      let z : 0 + j ≡ j = omega arith in
      rw (read-written j l) (tidy-alike (kind_at j) (rowed j l) (rows j) c.0 (rw z at c.1))

  -- as many entries as rows
  pub count-written : (j : ℕ) → j < length kinds → count_entries book j ≡ given (length (rows j))
  unfolding count_entries
  count-written j l = rw (written-sound, read-written j l, length-map (rows j) (tidy (kind_at j)))

-- ---- a sound book, written again

-- the entries of a section
read-is : (ws : List ℕ) (j : ℕ) → j < length kinds → read_entries ws j ≡ section_rows (kind_at j) (section_from j ws)
unfolding read_entries
read-is ws j l = rw (lt-ltb j (length kinds) l)

module _ (book : List ℕ) (good : check_book book ≡ sound) (bytes : (i : ℕ) → get_or book i 0 < 256) where
  abbrev ws : List ℕ
  ws = numbers_of book

  module _ (rows : ℕ → Rows) (same : (j : ℕ) → j < length kinds → rows j ≡ read_entries ws j) where
    again : (check_lists kinds 0 0 rows ≡ sound) × (book_of rows ≡ book)
    again =
        let l = all-again book good rows (λ i l. same i l ∙ read-is ws i l) in
        (l.0, ap number_bytes l.1 ∙ bytes-back book l.2 bytes)

    -- "writing a read book gives back its bytes"
    read-again : (room : ℕ) → length book ≤ room → write_book rows room ≡ given book
    read-again room h =
        (write-given rows room book).1
        (record {
          none-bad =
              let f : Finds (BadEntry rows) sound = rw again.0 at (entries-find rows) in f;
          in-room = h;
          not-long = (sound-whole book good).not-long;
          is-book = sym again.1;
        })

-- Rows that hold the same entries are written alike, and refused alike, whatever stands past an entry's own stages.
pub past-stages : (rows others : ℕ → Rows) → ((j : ℕ) → j < length kinds → Alike (kind_at j) (rows j) (others j))
    → (room : ℕ) → write_book rows room ≡ write_book others room
unfolding write_book
past-stages rows others a room =
    let l = alike-lists kinds all-rowed 0 0 rows others
    (λ i h. let z : 0 + i ≡ i = omega arith in rw z (a i h)) in
    rw (l.0, l.1)

-- the j-th of the lists that are lent
lent-at : (ks : List Kind) (j : ℕ) (rows : ℕ → Rows) (i : ℕ) → i < length ks
    → get_or (lent_from ks j rows) i [] ≡ number_bytes (joined (rows (j + i)))
unfolding lent_from
lent-at [] j rows i l = absurd (omega arith)
lent-at (k ∷ ks) j rows zero l = let z : j + 0 ≡ j = omega arith in rw z
lent-at (k ∷ ks) j rows (suc i) l =
    let z : j + suc i ≡ suc j + i = omega arith in
    rw z (lent-at ks (suc j) rows i (omega arith))

module _ (book : List ℕ) (good : check_book book ≡ sound) (bytes : (i : ℕ) → get_or book i 0 < 256) (room : ℕ)
    (enough : length book ≤ room) where
  abbrev entries_of : ℕ → Rows
  entries_of = read_entries (numbers_of book)

  whole : (j : ℕ) → j < length kinds → (i : ℕ) → i < length (entries_of j)
      → length (get_or (entries_of j) i []) ≡ (kind_at j).width
  whole j l i h =
      let s = section_from j (numbers_of book) in
      let n = get_or s 0 0 in
      let is = read-is (numbers_of book) j l in
      let among : i < n = omega (arith, ap (length {A = List ℕ}) is, shown-count (kind_at j) n (drop 1 s)) in
      rw (is, shown-at (kind_at j) n (drop 1 s) i among) (row-length (kind_at j) _)

  -- "writing a read book gives back its bytes": its entries, lent again
  pub write-read : write_book (lent_rows (lent_from kinds 0 entries_of)) room ≡ given book
  write-read =
      read-again book good bytes (lent_rows (lent_from kinds 0 entries_of))
      (λ j l.
      let z : 0 + j ≡ j = omega arith in
      ap (λ (b : List ℕ). rows_of (kind_at j).width b) (lent-at kinds 0 entries_of j l
      ∙ ap (λ (n : ℕ). number_bytes (joined (entries_of n))) z)
      ∙ rows-lent (kind_at j).width (omega (arith, (rowed j l).wide)) (entries_of j) (whole j l))
      room enough

  -- entries that a sound book holds are always written, given room, whatever stands past their stages
  pub always-written : (rows : ℕ → Rows) → ((j : ℕ) → j < length kinds → Alike (kind_at j) (rows j) (entries_of j))
      → write_book rows room ≡ given book
  always-written rows a =
      past-stages rows entries_of a room ∙ read-again book good bytes entries_of (λ j l. refl) room enough

-- ---- count_entries and read_entry

module _ (book : List ℕ) (j : ℕ) where
  abbrev held : Rows
  held = read_entries (numbers_of book) j

  pub count-refused : OnBook book NoRow (count_entries book j)
  unfolding count_entries
  count-refused = on-book book nothing-wrong

  pub count-given : (n : ℕ) → (count_entries book j ≡ given n) ↔ ((check_book book ≡ sound) × (length held ≡ n))
  unfolding count_entries
  count-given n =
      let iff = sound-given (check_book book) (given (length held)) n in
      (λ e. ((iff.0 e).0, given-one (iff.0 e).1), λ h. iff.1 (h.0, ap given h.1))

  module _ (nth room : ℕ) where
    pub entry-refused : OnBook book (Row 6 (length held ≤ nth) (Row 11 (room < 2 * (kind_at j).width) NoRow))
        (read_entry book j nth room)
    unfolding read_entry
    entry-refused =
        on-book book
        (seen-from 1 (omega arith)
        (check 6 (leb (length held) nth) (leb-true (length held) nth) (le-leb (length held) nth) (omega arith)
        (check 11 (ltb room (2 * (kind_at j).width)) (ltb-true room _) (lt-ltb room _) (le_refl 11) nothing-wrong)))

    pub entry-given : (row : List ℕ)
        → (read_entry book j nth room ≡ given row)
        ↔ ((check_book book ≡ sound) × (nth < length held) × (2 * (kind_at j).width ≤ room)
        × (get_or held nth [] ≡ row))
    unfolding read_entry
    entry-given row =
        let outer = sound-given (check_book book) _ row in
        let inner = two-given (leb (length held) nth) (ltb room (2 * (kind_at j).width)) no_plan buffer_short
        (get_or held nth []) row in (
          λ e.
              let g = inner.0 (outer.0 e).1 in
              ((outer.0 e).0, leb-false (length held) nth g.0, ltb-false room _ g.1, g.2),
          λ h.
              outer.1 (h.0, inner.1 (lt-leb (length held) nth h.1, le-ltb room _ h.2, h.3)),
        )

-- as many as the section's count
pub count-is : (ws : List ℕ) (j : ℕ) → j < length kinds → length (read_entries ws j) ≡ get_or (section_from j ws) 0 0
count-is ws j l =
    let s = section_from j ws in
    ap (length {A = List ℕ}) (read-is ws j l) ∙ shown-count (kind_at j) (get_or s 0 0) (drop 1 s)

-- what is told is the row of an entry of the section; a section that is not there has none
pub entry-told : (ws : List ℕ) (j : ℕ) → j < length kinds → (nth : ℕ) → nth < length (read_entries ws j)
    → get_or (read_entries ws j) nth []
    ≡ row_of (kind_at j) (drop (entry_at (kind_at j) nth (drop 1 (section_from j ws))) (drop 1 (section_from j ws)))
entry-told ws j l nth h =
    let s = section_from j ws in
    rw (read-is ws j l) (shown-at (kind_at j) (get_or s 0 0) (drop 1 s) nth (omega (arith, count-is ws j l)))

pub no-section : (ws : List ℕ) (j : ℕ) → length kinds ≤ j → read_entries ws j ≡ []
unfolding read_entries
no-section ws j h = rw (le-ltb j (length kinds) h)

-- each row that was lent is shown, given room for a row, as it was, 0 past its own stages
pub entry-written : (rows : ℕ → Rows) (room : ℕ) (book : List ℕ) → write_book rows room ≡ given book
    → (j : ℕ) → j < length kinds → (nth : ℕ) → nth < length (rows j) → (place : ℕ) → 2 * (kind_at j).width ≤ place
    → read_entry book j nth place ≡ given (tidy (kind_at j) (get_or (rows j) nth []))
entry-written rows room book e j l nth h place g =
    let same = read-written rows room book e j l in
    let many : nth < length (read_entries (numbers_of book) j) = rw (same, length-map (rows j) (tidy (kind_at j))) h in
    (entry-given book j nth place (tidy (kind_at j) (get_or (rows j) nth []))).1 (
      written-sound rows room book e,
      many,
      g,
      ap (λ (r : Rows). get_or r nth []) same ∙ mapped (kind_at j) (rows j) nth h,
    )
