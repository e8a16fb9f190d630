-- The loop over the entries of a section, and the four sections that every book has: a law for each step.
-- Assumes nothing.
use Prim.Native.Nat.{ℕ, zero, suc, ◌+◌, ◌-◌, ◌*◌, ◌≤◌, ◌<◌}
use mathlib.Core.Path.{◌≡◌, refl, ap, sym, subst, ◌∙◌}
use mathlib.Core.Bool.{Bool, true, false, cond, true≢false}
use mathlib.Core.List.{List, []}
use Rattle.std.specs.Prelude.{Option, Some, None, Result, Ok, Err}
use native.Mathlib.Omega.{arith}
use borrow.Author.Tests.{eq-eqb, ne_eqb, lt-ltb, le-ltb}
use lib.ListN.{length, get_or, take, drop, length-drop, length-take, drop_of_length-le}
use lib.Seq.{take-nil, take-take, drop-drop, get_or-take, get_or-drop}
use Rattle.rules.specs.Numbers.{numbers_of}
use Rattle.rules.specs.Book.{Walk, ends, broken, short, Kind, kinds, kind_at, variables, key_of, key_for, same_key}
use Rattle.rules.specs.Book.{size_of}
use Rattle.rules.specs.Book.{shift, section, sections, entry, always}
use Rattle.rules.proofs.Bounded.{by-le}
use Rattle.rules.proofs.Numbers.{numbers-drop, numbers-take}
use Rattle.rules.proofs.SectionKinds.{always-kind}
use Rattle.rules.proofs.Walks.{shift-zero, shift-shift, entry-ends, place, place-ends, place-broken, place-section}
use Rattle.rules.proofs.Steps.{same-short, section-is, entries-done, entries-broken, entries-short, entries-next}
use Rattle.rules.proofs.Steps.{sections-done, sections-broken, sections-short, sections-next}
use Rattle.entry.specs.Paper.{key_paper, walk_paper}
use Rattle.entry.specs.declared.Key.{Key}
use Rattle.entry.proofs.AnyKind.{by-kind}
use Rattle.book.specs.Places.{or_else, under_from, section_place, onward, at_end, place_under, place_of, held_past}
use Rattle.book.specs.Paper.{key_between, stretch_paper, seen_of, ReadTo, InSection, InBook, SectionsRead}
use Rattle.book.specs.declared.Section.{Section}
use Rattle.entry.specs.declared.Fault.{Fault}
use Rattle.entry.specs.declared.Fault.TheVariants.{Broken, Short}

-- the numbers of the part of a slice from one place up to another
pub numbers-between : (b : List ℕ) (from to : ℕ)
    → numbers_of (take (2 * to - 2 * from) (drop (2 * from) b)) ≡ take (to - from) (drop from (numbers_of b))
numbers-between b from to =
    let z : 2 * to - 2 * from ≡ 2 * (to - from) = omega arith in
    rw z (numbers-take (drop (2 * from) b) (to - from) ∙ ap (take (to - from)) (numbers-drop b from))

-- a stretch of ws from a place on that is read ends, or is broken, within ws
module _ {w : Walk} {p : ℕ} (at : ℕ) (ws : List ℕ) (here : place w ≤ length (drop at ws)) (l : at ≤ length ws) where
  pub ends-near : ends p ≡ w → at + p ≤ length ws
  ends-near q = omega (arith, place-ends w p q, length-drop at ws)

  pub broken-near : broken p ≡ w → at + p ≤ length ws
  broken-near q = omega (arith, place-broken w p q, length-drop at ws)

abbrev pub Read : Type 0
Read = Result Section Fault

abbrev pub ended : ℕ → Option ℕ → Read
ended end seen = Ok (record { end = end; seen = seen })

-- what was read, made and taken apart
module _ {w : Walk} {look : Option ℕ} where
  pub read-ends : {p : ℕ} {seen : Option ℕ} → ends p ≡ w → seen ≡ look → ReadTo w look (ended p seen)
  read-ends q f = record { comes = q; seen = f ∙ ap (λ (x : Walk). at_end x (λ p. look)) q }

  pub read-broken : {p : ℕ} → broken p ≡ w → ReadTo w look (Err (Broken p))
  read-broken q = record { comes = q; seen = ap (λ (x : Walk). at_end x (λ p. look)) q }

  pub read-short : short ≡ w → ReadTo w look (Err Short)
  read-short q = record { comes = q; seen = ap (λ (x : Walk). at_end x (λ p. look)) q }

  module _ {r : Read} (t : ReadTo w look r) where
    pub ends-of : {s : Section} → r ≡ Ok s → (ends s.end ≡ w) × (s.seen ≡ look)
    ends-of {s} e =
        let q : ends s.end ≡ w = sym (ap stretch_paper e) ∙ t.comes in
        (q, sym (ap seen_of e) ∙ t.seen ∙ ap (λ (x : Walk). at_end x (λ p. look)) (sym q))

    pub broken-of : {p : ℕ} → r ≡ Err (Broken p) → broken p ≡ w
    broken-of e = sym (ap stretch_paper e) ∙ t.comes

    pub short-of : r ≡ Err Short → short ≡ w
    short-of e = sym (ap stretch_paper e) ∙ t.comes

-- a walk that is seen from so many numbers before
pub ends-shifted : (at : ℕ) {end : ℕ} (w : Walk) → ends end ≡ shift at w
    → (size : ℕ) × (ends size ≡ w) × (end ≡ at + size)
unfolding shift
ends-shifted at (ends p) e = (p, refl, cc)
ends-shifted at (broken p) e = cc
ends-shifted at short e = cc

pub broken-shifted : (at : ℕ) {p : ℕ} (w : Walk) → broken p ≡ shift at w → (q : ℕ) × (broken q ≡ w) × (p ≡ at + q)
unfolding shift
broken-shifted at (ends p) e = cc
broken-shifted at (broken p) e = (p, refl, cc)
broken-shifted at short e = cc

pub short-shifted : (at : ℕ) (w : Walk) → short ≡ shift at w → short ≡ w
unfolding shift
short-shifted at (ends p) e = cc
short-shifted at (broken p) e = cc
short-shifted at short e = refl

-- a place seen, or the one here, or else a later one
or-later : (t : Bool) (seen : Option ℕ) (at : ℕ) (later : Option ℕ)
    → or_else seen (cond t (Some at) later) ≡ or_else (or_else seen (cond t (Some at) None)) later
or-later true None at later = refl
or-later false None at later = refl
or-later t (Some p) at later = refl

-- the first entry under a key of those from a place on, seen from so many numbers before
under-onward : (k : Kind) (key ws : List ℕ) (start n at : ℕ)
    → onward start (under_from k key n at (drop start ws)) ≡ under_from k key n (start + at) ws
unfolding under_from
under-onward k key ws start zero at = refl
under-onward k key ws start (suc n) at =
    let d : drop at (drop start ws) ≡ drop (start + at) ws = drop-drop at start ws in
    let size = size_of k (drop (start + at) ws) in
    let l : start + (at + size) ≡ start + at + size = omega arith in
    rw d
    (go (same_key (key_of k (drop (start + at) ws)) key) _
    (under-onward k key ws start n (at + size) ∙ ap (λ (m : ℕ). under_from k key n m ws) l))
  where
    go : (t : Bool) (a : Option ℕ) {b : Option ℕ} → onward start a ≡ b
        → onward start (cond t (Some at) a) ≡ cond t (Some (start + at)) b
    go true a e = refl
    go false a e = e

-- the loop over the entries of a section
module _ {k : Kind} {key ws : List ℕ} {start : ℕ} where
  pub section-opens : {n : ℕ} → start < length ws → n ≡ get_or ws start 0
      → InSection k key ws start n (start + 1) (start + 1) None 0
  section-opens {n} h q =
      let z : start + 0 ≡ start = omega arith in
      let count : get_or (drop start ws) 0 0 ≡ n - 0 =
      get_or-drop start ws 0 0 ∙ ap (λ (i : ℕ). get_or ws i 0) z ∙ sym q ∙ (omega arith) in
      let none : start + 1 - (start + 1) ≡ 0 = omega arith in
      record {
        after = omega arith;
        within = omega arith;
        reads =
            ap (shift start) (section-is k (drop start ws) (omega (arith, length-drop start ws)))
            ∙ (shift-shift start 1 _)
            ∙ rw (count, drop-drop 1 start ws, none, take-nil k.key);
        looks = under-onward k key ws start (get_or (drop start ws) 0 0) 1 ∙ rw count;
      }

  module _ {n prev at : ℕ} {seen : Option ℕ} {i : ℕ} (s : InSection k key ws start n prev at seen i) where
    abbrev here : Walk
    here = entry k (key_between k prev at ws) (drop at ws)

    pub section-next : {end : ℕ} {now : Option ℕ} → ((x : ℕ) → k.key < k.size x) → i < n → ends end ≡ shift at here
        → now ≡ or_else seen (cond (same_key (key_of k (drop at ws)) key) (Some at) None)
        → InSection k key ws start n at end now (i + 1)
    unfolding under_from
    section-next {end} {now} deep h t f =
        let r = ends-shifted at here t in
        let size : ℕ = r.0 in
        let q : ends size ≡ here = r.1 in
        let e = entry-ends k (key_between k prev at ws) (drop at ws) size (sym q) in
        let d = deep (get_or (drop at ws) k.key 0) in
        let one : n - i ≡ suc (n - (i + 1)) = omega arith in
        let same : at + size - at ≡ size = omega arith in
        let between : key_between k at (at + size) ws ≡ key_of k (drop at ws) =
        rw same (take-take k.key size (drop at ws) (omega (arith, e, d))) in
        rw r.2
        record {
          after = omega arith;
          within = omega (arith, e, s.within, length-drop at ws);
          reads = s.reads ∙ rw between (entries-next k n i at (key_between k prev at ws) ws size h q);
          looks =
              s.looks
              ∙ (rw (one, ← e.1)
              (or-later (same_key (key_of k (drop at ws)) key) seen at (under_from k key (n - (i + 1)) (at + size) ws)))
              ∙ ap (λ (x : Option ℕ). or_else x (under_from k key (n - (i + 1)) (at + size) ws)) (sym f);
        }

    pub section-broken : {p : ℕ} → i < n → broken p ≡ here
        → ReadTo (shift start (section k (drop start ws))) (onward start (section_place k key (drop start ws)))
        (Err (Broken (at + p)))
    section-broken {p} h q =
        read-broken (sym (s.reads ∙ entries-broken k n i at (key_between k prev at ws) ws p h q))

    pub section-shorts : i < n → short ≡ here
        → ReadTo (shift start (section k (drop start ws))) (onward start (section_place k key (drop start ws)))
        (Err Short)
    section-shorts h q = read-short (sym (s.reads ∙ entries-short k n i at (key_between k prev at ws) ws h q))

    -- .. of either fault, as the entry's reader tells it
    pub section-fault : {e : Fault} → i < n → walk_paper (Err e) ≡ shift at here
        → ReadTo (shift start (section k (drop start ws))) (onward start (section_place k key (drop start ws))) (Err e)
    section-fault {e = Broken p} h t = let r = broken-shifted at here t in rw r.2 (section-broken h r.1)
    section-fault {e = Short} h t = section-shorts h (short-shifted at here t)

    pub section-done : n ≤ i
        → ReadTo (shift start (section k (drop start ws))) (onward start (section_place k key (drop start ws)))
        (ended at seen)
    unfolding under_from
    section-done h =
        let z : n - i ≡ 0 = omega arith in
        read-ends (sym (s.reads ∙ entries-done k n i at (key_between k prev at ws) ws h))
        (sym (s.looks ∙ rw z (or-none seen)))
      where
        or-none : (x : Option ℕ) → or_else x None ≡ x
        or-none None = refl
        or-none (Some x) = refl

-- a place, if any, that is at most a number
abbrev pub Near : ℕ → Option ℕ → Type 0
Near n None = Unit {0}
Near n (Some p) = p ≤ n

pub near-of : {n p : ℕ} {o : Option ℕ} → Near n o → o ≡ Some p → p ≤ n
near-of {n} {p} h e = subst (Near n) e h

-- an entry under a key stands within the numbers
module _ (k : Kind) (key ws : List ℕ) (some : 0 < length key) where
  here-near : (at : ℕ) → same_key (key_of k (drop at ws)) key ≡ true → at ≤ length ws
  here-near at t = by-le at (length ws) (λ l. l) (λ l. absurd (true≢false (sym t ∙ past l)))
    where
      past : length ws < at → same_key (key_of k (drop at ws)) key ≡ false
      past l = rw (drop_of_length-le ws {i = at} (omega arith), take-nil k.key) (same-short [] key some)

  under-near : (n at : ℕ) → Near (length ws) (under_from k key n at ws)
  unfolding under_from
  under-near zero at = tt
  under-near (suc n) at =
      go (same_key (key_of k (drop at ws)) key) refl _ (under-near n (at + size_of k (drop at ws)))
    where
      go : (t : Bool) → same_key (key_of k (drop at ws)) key ≡ t → (later : Option ℕ) → Near (length ws) later
          → Near (length ws) (cond t (Some at) later)
      go true e later l = here-near at e
      go false e later l = l

-- in the section of a kind
module _ (kind severity letter column : ℕ) where
  pub key-some : 0 < length (key_for (kind_at kind) severity letter column)
  key-some =
      by-kind (λ n k. 0 < length (key_for k severity letter column)) (omega arith) (omega arith) (omega arith)
      (λ n l. omega arith) kind

  pub in-near : (ws : List ℕ)
      → Near (length ws) (section_place (kind_at kind) (key_for (kind_at kind) severity letter column) ws)
  in-near ws =
      under-near (kind_at kind) (key_for (kind_at kind) severity letter column) ws key-some (get_or ws 0 0) 1

-- the place under a key, in a section that is there and in one that is not
module _ (j : ℕ) (key : Kind → List ℕ) (ws : List ℕ) where
  pub place-at : (p : ℕ) → j < length kinds → ends p ≡ sections (take j kinds) ws
      → place_under j key ws ≡ onward p (section_place (kind_at j) (key (kind_at j)) (drop p ws))
  unfolding place_under
  place-at p h q = rw (lt-ltb j 5 h, ← q)

  pub place-none : length kinds ≤ j → place_under j key ws ≡ None
  unfolding place_under
  place-none h = rw (le-ltb j 5 h)

-- the four sections, one after the other
module _ {asked : ℕ} {key : Key} {ws : List ℕ} where
  pub book-opens : InBook asked key ws 0 0 None
  book-opens =
      record {
        counted = omega arith;
        within = omega arith;
        reads = sym (shift-zero _);
        ahead = λ h l. sym (shift-zero _);
        none = λ h. refl;
        behind = λ h. absurd (omega arith);
      }

  module _ {kind at : ℕ} {held : Option ℕ} (b : InBook asked key ws kind at held) where
    abbrev part : Walk
    part = section (kind_at kind) (drop at ws)

    abbrev ks : List Kind
    ks = take asked kinds

    -- before the section asked for
    go-on : {size : ℕ} → ends size ≡ part → kind + 1 ≤ asked → asked < length kinds
        → sections ks ws ≡ shift (at + size) (sections (drop (kind + 1) ks) (drop (at + size) ws))
    go-on {size} q l m =
        let g : get_or ks kind variables ≡ kind_at kind = get_or-take asked kinds kind variables (omega arith) in
        b.ahead (omega arith) m
        ∙ sections-next ks variables kind at ws size (omega (arith, length-take asked kinds))
        (q ∙ ap (λ (k : Kind). section k (drop at ws)) (sym g))

    -- in it
    own : kind ≡ asked → asked < length kinds
        → onward at (section_place (kind_at kind) (key_paper (kind_at kind) key) (drop at ws)) ≡ place_of asked key ws
    own e m =
        let end = sections-done ks variables kind at ws (omega (arith, length-take asked kinds)) in
        rw e (sym (place-at asked (λ k. key_paper k key) ws at m (sym (b.ahead (omega arith) m ∙ end))))

    -- the kind of one of the four
    its-kind : kind < length always → get_or always kind variables ≡ kind_at kind
    its-kind h = always-kind kind (omega arith)

    part-is : {w : Walk} → kind < length always → w ≡ part → w ≡ section (get_or always kind variables) (drop at ws)
    part-is h q = rw (its-kind h) q

    pub book-next : {size : ℕ} {seen now : Option ℕ} → kind < length always → ends size ≡ part
        → seen ≡ section_place (kind_at kind) (key_paper (kind_at kind) key) (drop at ws)
        → now ≡ held_past kind asked held at seen → InBook asked key ws (kind + 1) (at + size) now
    book-next {size} {seen} h q f g =
        record {
          counted = omega arith;
          within = ends-near at ws (place-section (kind_at kind) (drop at ws)) b.within q;
          reads = b.reads ∙ sections-next always variables kind at ws size h (part-is h q);
          ahead = go-on q;
          none = λ l. g ∙ rw (ne_eqb kind asked (λ e. omega arith)) (b.none (omega arith));
          behind =
              λ l. by-le kind asked
              (λ m. let e : kind ≡ asked = omega arith in
              g ∙ (rw (eq-eqb kind asked e, f)) ∙ own e (omega arith))
              (λ m. g ∙ rw (ne_eqb kind asked (λ e. omega arith)) (b.behind m));
        }

    pub book-broken : {p : ℕ} → kind < length always → broken p ≡ part
        → SectionsRead asked key ws (Err (Broken (at + p)))
    book-broken {p} h q = read-broken (sym (b.reads ∙ sections-broken always variables kind at ws p h (part-is h q)))

    pub book-shorts : kind < length always → short ≡ part → SectionsRead asked key ws (Err Short)
    book-shorts h q = read-short (sym (b.reads ∙ sections-short always variables kind at ws h (part-is h q)))

    pub book-done : length always ≤ kind → SectionsRead asked key ws (ended at held)
    book-done h =
        read-ends (sym (b.reads ∙ sections-done always variables kind at ws h))
        (by-le (length always) asked (λ m. b.none (omega (arith, b.counted)) ∙ sym (rw (le-ltb asked 4 m)))
        (λ m. b.behind (omega arith) ∙ sym (rw (lt-ltb asked 4 m))))
