-- What follows the four sections of a book: a law for each way in which the check goes on. And the loop over all
-- sections: a law for each step.
-- Assumes nothing.
use Prim.Native.Nat.{ℕ, ◌+◌, ◌-◌, ◌*◌, ◌≤◌, ◌<◌}
use mathlib.Core.Path.{◌≡◌, refl, ap, sym, ◌∙◌}
use mathlib.Core.Bool.{Bool, true, false, cond}
use mathlib.Core.List.{List, []}
use native.Mathlib.Omega.{arith}
use borrow.Author.Tests.{eqb-true, eqb-false, eq-eqb, ne_eqb, ltb-true, lt-ltb, le-ltb}
use lib.Dec.{eqb, ltb}
use lib.ListN.{length, get_or, take, drop, length-take, length-drop, drop_of_length-le}
use Rattle.rules.specs.Numbers.{numbers_of}
use Rattle.rules.specs.Book.{Walk, ends, broken, short, shift, section, sections, sigma, always, kinds, kind_at, fifth}
use Rattle.rules.specs.Book.{all_sections}
use Rattle.rules.proofs.Bools.{and-left, and-right}
use Rattle.rules.proofs.Bounded.{by-le}
use Rattle.rules.proofs.Numbers.{numbers-low}
use Rattle.rules.proofs.Steps.{fifth-none, fifth-empty, fifth-is, all-next, all-broken, all-short}
use Rattle.entry.specs.Paper.{key_paper}
use Rattle.entry.specs.declared.Key.{Key}
use Rattle.book.specs.Places.{under_from, section_place, onward, place_of, held_past}
use Rattle.book.specs.Paper.{ReadTo, SectionsEnd, BookRead, InBook, is_absent, has_none, InWhole}
use Rattle.std.specs.Prelude.{Option, None, Ok, Err}
use Rattle.entry.specs.declared.Fault.{Fault}
use Rattle.entry.specs.declared.Fault.TheVariants.{Broken, Short}
use Rattle.book.specs.declared.Section.{Section}
use Rattle.rules.proofs.Walks.{place-section}
use Rattle.book.proofs.Loops.{ends-near, ends-shifted, broken-shifted, short-shifted}
use Rattle.book.proofs.Loops.{ended, read-ends, read-broken, read-short, ends-of, broken-of, short-of, place-at}
use Rattle.book.proofs.Loops.{place-none, book-opens, book-next, book-broken, book-shorts, book-done}

-- what follows the four sections, which end at a place with one held
module _ {asked : ℕ} {key : Key} {at : ℕ} {held : Option ℕ} (bytes : List ℕ)
    (four : SectionsEnd asked key (numbers_of bytes) at held)
  where
    abbrev len : ℕ
    len = length bytes

    abbrev numbers : List ℕ
    numbers = numbers_of bytes

    abbrev rest : List ℕ
    rest = drop at numbers

    abbrev in_rest : Option ℕ
    in_rest = section_place sigma (key_paper sigma key) rest

    -- the place under the key, in the whole book
    last-held : place_of asked key numbers ≡ held_past 4 asked held at in_rest
    last-held =
        by-le asked 3
        (λ h.
        rw (ne_eqb 4 asked (λ e. omega arith)) (sym (four.holds ∙ rw (lt-ltb asked 4 (omega arith)))))
        (λ h.
        by-le asked 4
        (λ l.
        let e : asked ≡ 4 = omega arith in
        rw e (place-at 4 (λ k. key_paper k key) numbers at (omega arith) four.reads))
        (λ l.
        rw (ne_eqb 4 asked (λ e. omega arith))
        (place-none asked (λ k. key_paper k key) numbers l ∙ sym (four.holds ∙ rw (le-ltb asked 4 (omega arith))))))

    walk-is : (w : Walk) → fifth len at rest ≡ w → shift at w ≡ all_sections len numbers
    walk-is w e = sym (all-next len numbers at four.reads ∙ ap (shift at) e)

    pub fifth-absent : len ≤ 2 * at → BookRead asked key bytes (ended at held)
    unfolding shift under_from
    fifth-absent h =
        let z : at + 0 ≡ at = omega arith in
        let none : rest ≡ [] = drop_of_length-le numbers {i = at} (omega (arith, numbers-low bytes)) in
        read-ends (ap ends (sym z) ∙ walk-is (ends 0) (fifth-none len at rest h)) (sym (last-held ∙ nowhere none))
      where
        nowhere : rest ≡ [] → held_past 4 asked held at in_rest ≡ held
        nowhere e =
            by-le asked 3 (λ h. rw (ne_eqb 4 asked (λ e. omega arith)))
            (λ h. rw e (go (eqb 4 asked) (sym (four.holds ∙ rw (le-ltb asked 4 (omega arith))))))
          where
            go : (t : Bool) → None ≡ held → cond t None held ≡ held
            go true q = q
            go false q = refl

    module _ (more : 2 * at < len) where
      pub fifth-zero : 0 < length rest → get_or rest 0 0 ≡ 0 → BookRead asked key bytes (Err (Broken at))
      unfolding shift
      fifth-zero l z =
          let e : at + 0 ≡ at = omega arith in
          read-broken (ap broken (sym e) ∙ walk-is (broken 0) (fifth-empty len at rest more l z))

      module _ (some : 0 < length rest → 0 < get_or rest 0 0) where
        walk-fifth : (w : Walk) → w ≡ section sigma rest → shift at w ≡ all_sections len numbers
        walk-fifth w e = walk-is w (fifth-is len at rest more some ∙ sym e)

        pub fifth-ends : {size : ℕ} {seen now : Option ℕ} → ends size ≡ section sigma rest → seen ≡ in_rest
            → now ≡ held_past 4 asked held at seen → BookRead asked key bytes (ended (at + size) now)
        unfolding shift
        fifth-ends {size} e s f =
            read-ends (walk-fifth (ends size) e)
            (f ∙ ap (held_past 4 asked held at) s ∙ sym last-held)

        pub fifth-broken : {p : ℕ} → broken p ≡ section sigma rest → BookRead asked key bytes (Err (Broken (at + p)))
        unfolding shift
        fifth-broken {p} e = read-broken (walk-fifth (broken p) e)

        pub fifth-shorts : short ≡ section sigma rest → BookRead asked key bytes (Err Short)
        unfolding shift
        fifth-shorts e = read-short (walk-fifth short e)

-- four sections that do not end
module _ (asked : ℕ) (key : Key) (bytes : List ℕ) where
  pub four-broken : {p : ℕ} → broken p ≡ sections always (numbers_of bytes) → BookRead asked key bytes (Err (Broken p))
  four-broken {p} q = read-broken (sym (all-broken (length bytes) (numbers_of bytes) p q))

  pub four-short : short ≡ sections always (numbers_of bytes) → BookRead asked key bytes (Err Short)
  four-short q = read-short (sym (all-short (length bytes) (numbers_of bytes) q))

-- the loop over all sections
pub whole-opens : {asked : ℕ} {key : Key} {bytes : List ℕ} → InWhole asked key bytes 0 0 None
whole-opens = record { within = omega arith; four = λ h. book-opens; all = λ h. absurd (omega arith) }

-- .. past the last the book is read
pub whole-done : {asked : ℕ} {key : Key} {bytes : List ℕ} {kind at : ℕ} {held : Option ℕ}
    → InWhole asked key bytes kind at held → length kinds ≤ kind → BookRead asked key bytes (ended at held)
whole-done b h = b.all (omega arith)

module _ {asked : ℕ} {key : Key} {bytes : List ℕ} {kind at : ℕ} {held : Option ℕ}
    (b : InWhole asked key bytes kind at held) (h : kind < length kinds) where
  abbrev left : List ℕ
  left = drop at (numbers_of bytes)

  -- the part of the book from the section on
  abbrev part : List ℕ
  part = take (length bytes - 2 * at) (drop (2 * at) bytes)

  part-length : length part ≡ length bytes - 2 * at
  part-length = omega (arith, length-take (length bytes - 2 * at) (drop (2 * at) bytes), length-drop (2 * at) bytes)

  pub inside : InBook asked key (numbers_of bytes) kind at held
  inside = b.four (omega arith)

  four-end : kind ≡ 4 → SectionsEnd asked key (numbers_of bytes) at held
  four-end e = let q = ends-of (book-done inside (omega arith)) refl in record { reads = q.0; holds = q.1 }

  pub whole-absent : is_absent kind part ≡ true → BookRead asked key bytes (ended at held)
  whole-absent t =
      let e = eqb-true kind 4 (and-left (eqb kind 4) _ t) in
      let z = eqb-true (length part) 0 (and-right (eqb kind 4) _ t) in
      fifth-absent bytes (four-end e) (omega (arith, z, part-length))

  pub whole-none : has_none kind left ≡ true → BookRead asked key bytes (Err (Broken at))
  whole-none t =
      let e = eqb-true kind 4 (and-left (eqb kind 4) _ t) in
      let r = and-right (eqb kind 4) _ t in
      let some : 0 < length left = ltb-true 0 (length left) (and-left (ltb 0 (length left)) _ r) in
      let z = eqb-true (get_or left 0 0) 0 (and-right (ltb 0 (length left)) _ r) in
      fifth-zero bytes (four-end e) (omega (arith, some, length-drop at (numbers_of bytes), numbers-low bytes)) some z

  module _ (there : is_absent kind part ≡ false) (some : has_none kind left ≡ false) where
    more : kind ≡ 4 → 2 * at < length bytes
    more e =
        let f : eqb (length part) 0 ≡ false = rw (eq-eqb kind 4 e) at there in
        by-le (length bytes) (2 * at) (λ l. absurd (eqb-false (length part) 0 f (omega (arith, part-length)))) (λ l. l)

    counts : kind ≡ 4 → 0 < length left → 0 < get_or left 0 0
    counts e l =
        let f : eqb (get_or left 0 0) 0 ≡ false = rw (eq-eqb kind 4 e, lt-ltb 0 (length left) l) at some in
        by-le (get_or left 0 0) 0 (λ n. absurd (eqb-false (get_or left 0 0) 0 f (omega arith))) (λ n. n)

    pub whole-next : {size : ℕ} {seen now : Option ℕ} → ends size ≡ section (kind_at kind) left
        → seen ≡ section_place (kind_at kind) (key_paper (kind_at kind) key) left
        → now ≡ held_past kind asked held at seen → InWhole asked key bytes (kind + 1) (at + size) now
    whole-next {size} {seen} q f g =
        let near : at + size ≤ length (numbers_of bytes) =
        ends-near at (numbers_of bytes) (place-section (kind_at kind) left) b.within q in
        by-le kind 3
        (λ l.
        record {
          within = near;
          four = λ x. book-next inside (omega arith) q f g;
          all = λ x. absurd (omega arith);
        })
        (λ l.
        let e : kind ≡ 4 = omega arith in
        record {
          within = near;
          four = λ x. absurd (omega arith);
          all =
              λ x.
              fifth-ends bytes (four-end e) (more e) (counts e) (q ∙ ap (λ (k : ℕ). section (kind_at k) left) e)
              (f ∙ ap (λ (k : ℕ). section_place (kind_at k) (key_paper (kind_at k) key) left) e)
              (g ∙ ap (λ (k : ℕ). held_past k asked held at seen) e);
        })

    pub whole-broken : {p : ℕ} → broken p ≡ section (kind_at kind) left
        → BookRead asked key bytes (Err (Broken (at + p)))
    whole-broken {p} q =
        by-le kind 3
        (λ l. four-broken asked key bytes (broken-of (book-broken inside (omega arith) q) refl))
        (λ l.
        let e : kind ≡ 4 = omega arith in
        fifth-broken bytes (four-end e) (more e) (counts e) (q ∙ ap (λ (k : ℕ). section (kind_at k) left) e))

    pub whole-shorts : short ≡ section (kind_at kind) left → BookRead asked key bytes (Err Short)
    whole-shorts q =
        by-le kind 3
        (λ l. four-short asked key bytes (short-of (book-shorts inside (omega arith) q) refl))
        (λ l.
        let e : kind ≡ 4 = omega arith in
        fifth-shorts bytes (four-end e) (more e) (counts e) (q ∙ ap (λ (k : ℕ). section (kind_at k) left) e))

    -- what the section was read to
    abbrev its-walk : Walk
    its-walk = shift at (section (kind_at kind) left)

    abbrev its-place : Option ℕ
    its-place = onward at (section_place (kind_at kind) (key_paper (kind_at kind) key) left)

    pub whole-on : {s : Section} {now : Option ℕ} → ReadTo its-walk its-place (Ok s)
        → now ≡ cond (eqb kind asked) s.seen held → InWhole asked key bytes (kind + 1) s.end now
    whole-on t g =
        let e = ends-of t refl in
        let r = ends-shifted at (section (kind_at kind) left) e.0 in
        rw r.2 (whole-next r.1 refl (g ∙ ap (λ (x : Option ℕ). cond (eqb kind asked) x held) e.1))

    pub whole-fault : {e : Fault} → ReadTo its-walk its-place (Err e) → BookRead asked key bytes (Err e)
    whole-fault {e = Broken p} t =
        let r = broken-shifted at (section (kind_at kind) left) (broken-of t refl) in rw r.2 (whole-broken r.1)
    whole-fault {e = Short} t = whole-shorts (short-shifted at (section (kind_at kind) left) (short-of t refl))
