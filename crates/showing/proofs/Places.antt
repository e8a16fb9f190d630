-- What a sound book holds where its sections and entries stand, and what is told of it.
-- Assumes nothing.
use Prim.Native.Nat.{ℕ, ◌+◌, ◌*◌, ◌≤◌, ◌<◌}
use mathlib.Core.Path.{◌≡◌, refl, ap, sym, ◌∙◌}
use mathlib.Core.List.{List, []}
use native.Mathlib.Omega.{arith}
use Rattle.std.proofs.Common.{Result, Ok, Err}
use borrow.Author.Tests.{le-leb, lt-leb, lt-ltb, le-ltb}
use lib.ListN.{length, get_or, drop, length-drop}
use lib.Seq.{drop-drop, get_or-drop}
use Rattle.rules.specs.Numbers.{numbers_of}
use Rattle.rules.specs.Book.{Kind, ends, entry, size_of, kinds, kind_at, check_book, sound}
use Rattle.rules.specs.Book.{on_sound}
use Rattle.rules.specs.Refusals.{Answer, refused, given}
use Rattle.rules.specs.Layout.{entry_at, key_before, section_at, section_from}
use Rattle.rules.specs.Writing.{Rows, row_of, read_entries, read_entry}
use Rattle.rules.proofs.LookUp.{entry_ending}
use Rattle.rules.proofs.Numbers.{numbers-low, numbers-high}
use Rattle.rules.proofs.RowLaws.{rowed, row-length}
use Rattle.rules.proofs.Walks.{entry-ends}
use Rattle.rules.proofs.Written.{entry-fits}
use Rattle.rules.proofs.Demands.Writing.{entry-told, count-is, no-section}
use Rattle.rules.proofs.EntryLaws.{broken-first, is-sound}
use Rattle.rules.proofs.Bounded.{by-le}
use Rattle.rows.specs.Paper.{entry_shown}
use Rattle.refusals.specs.Paper.{number_of, at_start, itself, answer_by}
use Rattle.refusals.specs.declared.Reason.TheVariants.{NoPlan, BufferShort}
use Rattle.refusals.specs.declared.Refusal.{Refusal}
use Rattle.showing.specs.Paper.{Held, ShownAt, RowLeft, row_left}

-- An entry that is there: where it stands, that it is whole, and its row.
module _ {book : List ℕ} {kind nth : ℕ} {row : List ℕ} (s : Held book kind nth row) where
  abbrev ws : List ℕ
  ws = numbers_of book

  abbrev k : Kind
  k = kind_at kind

  abbrev start : List ℕ
  start = drop 1 (section_from kind (numbers_of book))

  pub place-is : (place : ℕ)
      → place ≡ section_at kinds kind ws + 1 + entry_at k nth (drop (section_at kinds kind ws + 1) ws)
      → drop place ws ≡ drop (entry_at k nth start) start
  place-is place f =
      let at = section_at kinds kind ws in
      rw (drop-drop 1 at ws)
      (ap (λ (n : ℕ). drop n ws) f ∙ sym (drop-drop (entry_at k nth (drop (at + 1) ws)) (at + 1) ws))

  module _ (place : ℕ) (stands : drop place ws ≡ drop (entry_at k nth start) start) where
    abbrev e : List ℕ
    e = drop place ws

    ended : (before : List ℕ) × (entry k before e ≡ ends (size_of k e))
    ended =
        let among : nth < get_or (section_from kind ws) 0 0 = omega (arith, s.there, count-is ws kind s.known) in
        (key_before k [] nth start, rw stands (entry_ending book s.good kind s.known nth among))

    whole : size_of k e ≤ length e
    whole = (entry-ends k ended.0 e (size_of k e) ended.1).0

    pub place-near : 2 * place ≤ length book
    place-near =
        omega (
          arith,
          whole,
          length-drop place ws,
          numbers-low book,
          (rowed kind s.known).deep (get_or e k.key 0),
        )

    pub row-shown : entry_shown k e row ≡ row_left (get_or (read_entries ws kind) nth []) row
    row-shown =
        let r = rowed kind s.known in
        let fits = entry-fits k r ended.0 e (size_of k e) ended.1 in
        let told : get_or (read_entries ws kind) nth [] ≡ row_of k e =
        entry-told ws kind s.known nth s.there ∙ ap (row_of k) (sym stands) in
        rw (
          le-leb (size_of k e) (length e) whole,
          le-leb (size_of k e) k.width fits,
          le-leb k.width (length (numbers_of row)) (omega (arith, s.room, numbers-high row)),
          told,
          row-length k e,
        )

-- how many entries a section has
pub none-there : (ws : List ℕ) (j : ℕ) → length kinds ≤ j → 0 ≡ length (read_entries ws j)
none-there ws j h = rw (no-section ws j h)

pub count-there : (ws : List ℕ) (j at n : ℕ) → j < length kinds → at ≡ section_at kinds j ws → n ≡ get_or ws at 0
    → n ≡ length (read_entries ws j)
count-there ws j at n h e f =
    let z : at + 0 ≡ at = omega arith in
    f ∙ ap (λ (i : ℕ). get_or ws i 0) (sym z) ∙ sym (get_or-drop at ws 0 0) ∙ ap (λ (i : ℕ). get_or (drop i ws) 0 0) e
    ∙ sym (count-is ws j h)

-- what the check of a book told
pub good : (book : List ℕ) {r : Result (Unit {0}) Refusal}
    → answer_by itself r ≡ on_sound (check_book book) (given tt) → r ≡ Ok tt → check_book book ≡ sound
good book told e = is-sound (check_book book) (sym (ap (answer_by itself) e) ∙ told)

-- what read_entry answers: a law for each exit
module _ (book : List ℕ) (j nth : ℕ) (row : List ℕ) where
  abbrev held : Rows
  held = read_entries (numbers_of book) j

  refuses : (r : Refusal) → read_entry book j nth (length row) ≡ refused (number_of r.reason) r.place
      → RowLeft (read_entry book j nth (length row)) (Err r) row row
  refuses r e = rw e (record { told = refl; left = refl })

  pub tell-broken : (r : Refusal)
      → ◌≡◌ {A = Answer (Unit {0})} (refused (number_of r.reason) r.place) (on_sound (check_book book) (given tt))
      → RowLeft (read_entry book j nth (length row)) (Err r) row row
  unfolding read_entry
  tell-broken r e = refuses r (sym (broken-first (check_book book) (number_of r.reason) r.place _ e))

  module _ (right : check_book book ≡ sound) where
    pub tell-none : length held ≤ nth → RowLeft (read_entry book j nth (length row)) (Err (at_start NoPlan)) row row
    unfolding read_entry
    tell-none h = refuses (at_start NoPlan) (rw (right, le-leb (length held) nth h))

    module _ (there : nth < length held) where
      pub tell-short : length row < 2 * (kind_at j).width
          → RowLeft (read_entry book j nth (length row)) (Err (at_start BufferShort)) row row
      unfolding read_entry
      tell-short h =
          refuses (at_start BufferShort)
          (rw (right, lt-leb (length held) nth there, lt-ltb (length row) (2 * (kind_at j).width) h))

      -- only a section that is there has entries
      pub known : j < length kinds
      known =
          by-le (length kinds) j
          (λ l. absurd (omega (arith, there, ap (length {A = List ℕ}) (no-section (numbers_of book) j l))))
          (λ l. l)

      pub tell-row : {after : List ℕ} {width : ℕ} → 2 * (kind_at j).width ≤ length row → width ≡ (kind_at j).width
          → ShownAt book j nth row after → RowLeft (read_entry book j nth (length row)) (Ok width) row after
      unfolding read_entry
      tell-row {after} {width} h w e =
          let is : read_entry book j nth (length row) ≡ given (get_or held nth []) =
          rw (right, lt-leb (length held) nth there, le-ltb (length row) (2 * (kind_at j).width) h) in
          let long : length (get_or held nth []) ≡ (kind_at j).width =
          ap length (entry-told (numbers_of book) j known nth there) ∙ row-length (kind_at j) _ in
          rw is (record { told = ap given (w ∙ sym long); left = e })
