-- The byte that the check of a book reports is a fault of the book, and no lower byte is one; a sound book has none.
-- Proved once over the kinds of section.
-- Assumes nothing.
use Prim.Native.Nat.{ℕ, zero, suc, ◌+◌, ◌*◌, ◌-◌, ◌≤◌, ◌<◌}
use mathlib.Core.Path.{◌≡◌, refl, ap, sym, ◌∙◌}
use mathlib.Core.Bool.{Bool, true, false, cond, ◌&&◌, not, true≢false, and-false}
use mathlib.Core.List.{List, [], ◌∷◌}
use native.Mathlib.Omega.{arith}
use borrow.Author.Tests.{ltb-true, ltb-false, lt-ltb, le-ltb, leb-true, le-leb, not-true}
use lib.ListN.{length, get_or, take, drop, length-drop}
use lib.Seq.{drop-drop, get_or-drop}
use lib.Dec.{ltb, leb}
use Rattle.rules.specs.Numbers.{numbers_of}
use Rattle.rules.specs.Book.{Walk, ends, broken, short, shift, then_from, Kind, right, numbers_from, size_of}
use Rattle.rules.specs.Book.{within, anything, key_of, rises, key_falls, entry, entries, section, sections}
use Rattle.rules.specs.Book.{sigma, always, kinds, kind_at, fifth, all_sections, variables, largest_book, Checked}
use Rattle.rules.specs.Book.{sound, broken_at, checked_as, check_book}
use Rattle.rules.specs.Layout.{entry_at, key_before, section_size, section_at, fourth_end, book_end}
use Rattle.rules.specs.Faults.{EntryFault, out_of_range, breaks_rule}
use Rattle.rules.specs.Faults.{key_stays, EntriesFault, SectionFault, SectionsFault, BookFault, too_long}
use Rattle.rules.specs.Faults.{wrong_number, empty_fifth, follows, missing, Lowest}
use Rattle.rules.proofs.Bounded.{by-le}
use Rattle.rules.proofs.Numbers.{numbers-low, numbers-high}
use Rattle.rules.proofs.SectionKinds.{key-there, entry-deep, always-kind, always-at}
use Rattle.rules.proofs.Steps.{book-long, book-is, after-end, at-end, at-broken, at-short, by-fifth}

-- What a walk tells of a stretch of l numbers whose layout has s, with the faults F: it ends after those s, with no
-- fault; it is broken at the lowest fault; or there are fewer than s, with no fault.
abbrev pub Tells : (ℕ → Type 0) → ℕ → ℕ → Walk → Type 0
Tells F s l (ends p) = (p ≡ s) × ((s ≤ l) × ((q : ℕ) → F q → ⊥))
Tells F s l (broken p) = F p × ((p < s) × ((p < l) × ((q : ℕ) → F q → p ≤ q)))
Tells F s l short = (l < s) × ((q : ℕ) → F q → ⊥)

-- the same faults in other words
same-faults : (F G : ℕ → Type 0) (s l : ℕ) (w : Walk) → ((q : ℕ) → F q → G q) → ((q : ℕ) → G q → F q)
    → Tells F s l w → Tells G s l w
same-faults F G s l (ends p) to from t = (t.0, (t.1.0, λ q g. t.1.1 q (from q g)))
same-faults F G s l (broken p) to from t = (to p t.0, (t.1.0, (t.1.1.0, λ q g. t.1.1.1 q (from q g))))
same-faults F G s l short to from t = (t.0, λ q g. t.1 q (from q g))

-- the faults of one stretch and of the next, s numbers on
data Either (F G : ℕ → Type 0) (s q : ℕ) : Type 0 where
  here : F q → Either F G s q
  later : (r : ℕ) → q ≡ s + r → G r → Either F G s q

-- past a stretch that is broken or lacks a number, the next one's faults are no lower, or none
module _ (F G : ℕ → Type 0) (s t u l m : ℕ) (whole : u ≡ s + t) (left : m ≡ l - s) where
  then-tells : (w : Walk) (f : ℕ → Walk) → Tells F s l w → (s ≤ l → Tells G t m (f s))
      → (l < s → (r : ℕ) → G r → ⊥) → Tells (Either F G s) u l (then_from w f)
  unfolding then_from shift
  then-tells (ends p) f a b c = go (f p) (rw a.0 (b a.1.0))
    where
      none : ((r : ℕ) → G r → ⊥) → (q : ℕ) → Either F G s q → ⊥
      none never q (here x) = a.1.1 q x
      none never q (later r e x) = never r x

      low : (p : ℕ) → ((r : ℕ) → G r → p ≤ r) → (q : ℕ) → Either F G s q → s + p ≤ q
      low p least q (here x) = absurd (a.1.1 q x)
      low p least q (later r e x) = omega (arith, least r x)

      go : (v : Walk) → Tells G t m v → Tells (Either F G s) u l (shift p v)
      go (ends r) d = (omega (arith, a.0, d.0), (omega (arith, a.1.0, d.1.0), none d.1.1))
      go (broken r) d =
          rw a.0
          (later r refl d.0, (omega (arith, d.1.0), (omega (arith, a.1.0, d.1.1.0), low r d.1.1.1)))
      go short d = (omega (arith, a.1.0, d.0), none d.1)
  then-tells (broken p) f a b c = (here a.0, (omega (arith, a.1.0), (a.1.1.0, low)))
    where
      low : (q : ℕ) → Either F G s q → p ≤ q
      low q (here x) = a.1.1.1 q x
      low q (later r e x) = omega (arith, a.1.0)
  then-tells short f a b c = (omega (arith, a.0), none)
    where
      none : (q : ℕ) → Either F G s q → ⊥
      none q (here x) = a.1 q x
      none q (later r e x) = c a.0 r x

-- the numbers of an entry that are not right, from place i to place s
abbrev pub Wrong : Kind → List ℕ → ℕ → ℕ → ℕ → Type 0
Wrong k e i s q = (i ≤ q) × ((q < s) × ((q < length e) × (right k e q ≡ false)))

pub numbers-tell : (k : Kind) (e : List ℕ) (n i s : ℕ) → s ≡ i + n → i ≤ length e
    → Tells (Wrong k e i s) s (length e) (numbers_from k e n i)
unfolding numbers_from
numbers-tell k e zero i s z h = (omega arith, (omega arith, λ q w. omega (arith, w.0, w.1.0)))
numbers-tell k e (suc n) i s z h =
    go (ltb i (length e)) (right k e i) refl refl (numbers-tell k e n (suc i) s (omega arith))
  where
    fewer : right k e i ≡ true → (q : ℕ) → Wrong k e i s q → Wrong k e (suc i) s q
    fewer t q w =
        by-le q i
        (λ l. let same : q ≡ i = omega (arith, w.0) in absurd (true≢false (sym t ∙ (rw same at w.1.1.1))))
        (λ l. (l, w.1))

    go : (x y : Bool) → ltb i (length e) ≡ x → right k e i ≡ y
        → (suc i ≤ length e → Tells (Wrong k e (suc i) s) s (length e) (numbers_from k e n (suc i)))
        → Tells (Wrong k e i s) s (length e) (cond x (cond y (numbers_from k e n (suc i)) (broken i)) short)
    go true true t r ih =
        same-faults (Wrong k e (suc i) s) (Wrong k e i s) s (length e) (numbers_from k e n (suc i))
        (λ q w. (omega (arith, w.0), w.1)) (fewer r) (ih (ltb-true i (length e) t))
    go true false t r ih =
        let l : i < length e = ltb-true i (length e) t in
        ((omega arith, (omega arith, (l, r))), (omega arith, (l, λ q w. w.0)))
    go false y t r ih =
        let l : length e ≤ i = ltb-false i (length e) t in
        (omega arith, λ q w. omega (arith, w.0, w.1.1.0))

pub wrong-is : (k : Kind) (before e : List ℕ) (q : ℕ) → Wrong k e 0 (size_of k e) q → EntryFault k before e q
unfolding right
wrong-is k before e q w = go (within (get_or k.ranges q anything) (get_or e q 0)) refl w.1.1.1
  where
    go : (t : Bool) → within (get_or k.ranges q anything) (get_or e q 0) ≡ t
        → t && k.rule (take q e) (get_or e q 0) ≡ false → EntryFault k before e q
    go true p r = breaks_rule w.1.0 w.1.1.0 r
    go false p r = out_of_range w.1.0 w.1.1.0 p

is-wrong : (k : Kind) (before e : List ℕ) → key_falls k before e ≡ false → (q : ℕ) → EntryFault k before e q
    → Wrong k e 0 (size_of k e) q
unfolding right key_falls
is-wrong k before e f q (out_of_range a b r) = (omega arith, (a, (b, rw r)))
is-wrong k before e f q (breaks_rule a b r) =
    (omega arith, (a, (b, rw r (and-false (within (get_or k.ranges q anything) (get_or e q 0))))))
is-wrong k before e f q (key_stays z a r) = absurd (true≢false (sym (rw (le-leb k.key (length e) a, r)) ∙ f))

fallen : (k : Kind) (before e : List ℕ) → key_falls k before e ≡ true
    → (k.key ≤ length e) × (rises before (key_of k e) ≡ false)
unfolding key_falls
fallen k before e t = go (leb k.key (length e)) refl t
  where
    go : (x : Bool) → leb k.key (length e) ≡ x → x && not (rises before (key_of k e)) ≡ true
        → (k.key ≤ length e) × (rises before (key_of k e) ≡ false)
    go true p r = (leb-true k.key (length e) p, not-true (rises before (key_of k e)) r)
    go false p r = absurd (true≢false (sym r))

-- what the theorem asks of a kind: a key, and entries longer than it
abbrev pub Deep : Kind → Type 0
Deep k = (0 < k.key) × ((x : ℕ) → k.key < k.size x)

pub entry-tells : (k : Kind) → Deep k → (before e : List ℕ)
    → Tells (EntryFault k before e) (size_of k e) (length e) (entry k before e)
unfolding entry
entry-tells k deep before e = go (key_falls k before e) refl
  where
    go : (x : Bool) → key_falls k before e ≡ x
        → Tells (EntryFault k before e) (size_of k e) (length e) (cond x (broken 0) (numbers_from k e (size_of k e) 0))
    go true t =
        let f = fallen k before e t in (
          key_stays refl f.0 f.1,
          (omega (arith, deep.0, deep.1 (get_or e k.key 0)), (omega (arith, deep.0, f.0), λ q w. omega arith)),
        )
    go false t =
        same-faults (Wrong k e 0 (size_of k e)) (EntryFault k before e) (size_of k e) (length e)
        (numbers_from k e (size_of k e) 0) (wrong-is k before e) (is-wrong k before e t)
        (numbers-tell k e (size_of k e) 0 (size_of k e) (omega arith) (omega arith))

-- past the numbers there is no entry to find fault with
entry-gone : (k : Kind) → Deep k → (before e : List ℕ) (p : ℕ) → length e ≡ 0 → EntryFault k before e p → ⊥
entry-gone k deep before e p z (out_of_range a b r) = omega arith
entry-gone k deep before e p z (breaks_rule a b r) = omega arith
entry-gone k deep before e p z (key_stays q a r) = omega (arith, deep.0)

-- the key before an entry, seen from the entry after the first
pub key-next : (k : Kind) (before ws : List ℕ) (i : ℕ)
    → key_before k before (suc i) ws ≡ key_before k (key_of k ws) i (drop (size_of k ws) ws)
unfolding entry_at key_before
key-next k before ws zero = refl
key-next k before ws (suc i) =
    sym (ap (key_of k) (drop-drop (entry_at k i (drop (size_of k ws) ws)) (size_of k ws) ws))

-- the faults of some entries are the first one's, and those of the entries after it
module _ (k : Kind) (before : List ℕ) (n : ℕ) (ws : List ℕ) where
  abbrev Rest : ℕ → Type 0
  Rest = EntriesFault k (key_of k ws) n (drop (size_of k ws) ws)

  entries-split : (q : ℕ) → EntriesFault k before (suc n) ws q → Either (EntryFault k before ws) Rest (size_of k ws) q
  unfolding entry_at key_before
  entries-split q f = go f.nth f.among f.stands f.fault
    where
      go : (i : ℕ) → i < suc n → q ≡ entry_at k i ws + f.place
          → EntryFault k (key_before k before i ws) (drop (entry_at k i ws) ws) f.place
          → Either (EntryFault k before ws) Rest (size_of k ws) q
      go zero l e x = let z : q ≡ f.place = omega arith in here (rw z x)
      go (suc i) l e x =
          later (entry_at k i (drop (size_of k ws) ws) + f.place) (omega arith)
          (record {
            nth = i;
            among = omega arith;
            place = f.place;
            stands = refl;
            fault =
                rw (← key-next k before ws i, drop-drop (entry_at k i (drop (size_of k ws) ws)) (size_of k ws) ws) x;
          })

  entries-join : (q : ℕ) → Either (EntryFault k before ws) Rest (size_of k ws) q → EntriesFault k before (suc n) ws q
  unfolding entry_at key_before
  entries-join q (here x) = record { nth = 0; among = omega arith; place = q; stands = omega arith; fault = x }
  entries-join q (later r e x) =
      record {
        nth = suc x.nth;
        among = omega (arith, x.among);
        place = x.place;
        stands = omega (arith, x.stands);
        fault =
            rw (
              key-next k before ws x.nth,
              ← drop-drop (entry_at k x.nth (drop (size_of k ws) ws)) (size_of k ws) ws,
            )
            x.fault;
      }

entries-tell : (k : Kind) → Deep k → (n : ℕ) (before ws : List ℕ)
    → Tells (EntriesFault k before n ws) (entry_at k n ws) (length ws) (entries k n before ws)
unfolding entry_at entries
entries-tell k deep zero before ws = (refl, (omega arith, λ q f. omega (arith, f.among)))
entries-tell k deep (suc n) before ws =
    same-faults (Either (EntryFault k before ws) (Rest k before n ws) (size_of k ws)) (EntriesFault k before (suc n) ws)
    (entry_at k (suc n) ws) (length ws) (entries k (suc n) before ws)
    (entries-join k before n ws) (entries-split k before n ws)
    (then-tells (EntryFault k before ws) (Rest k before n ws) (size_of k ws) (entry_at k n (drop (size_of k ws) ws))
    (entry_at k (suc n) ws) (length ws) (length (drop (size_of k ws) ws)) refl (length-drop (size_of k ws) ws)
    (entry k before ws) (λ size. entries k n (key_of k ws) (drop size ws)) (entry-tells k deep before ws)
    (λ l. entries-tell k deep n (key_of k ws) (drop (size_of k ws) ws))
    (λ l r x.
    entry-gone k deep _ _ x.place
    (rw (drop-drop (entry_at k x.nth (drop (size_of k ws) ws)) (size_of k ws) ws, length-drop) (omega arith))
    x.fault))

pub section-tells : (k : Kind) → Deep k → (ws : List ℕ)
    → Tells (SectionFault k ws) (section_size k ws) (length ws) (section k ws)
unfolding section then_from
section-tells k deep [] = (omega arith, λ q f. omega (arith, f.fault.among))
section-tells k deep (count ∷ ws) =
    same-faults (Either (λ q. ⊥) (EntriesFault k [] count ws) 1) (SectionFault k (count ∷ ws))
    (section_size k (count ∷ ws)) (suc (length ws)) (section k (count ∷ ws)) join split
    (then-tells (λ q. ⊥) (EntriesFault k [] count ws) 1 (entry_at k count ws) (suc (entry_at k count ws))
    (suc (length ws)) (length ws) (omega arith) (omega arith) (ends 1) (λ p. entries k count [] ws)
    (refl, (omega arith, λ q x. x)) (λ l. entries-tell k deep count [] ws) (λ l r x. omega arith))
  where
    join : (q : ℕ) → Either (λ q. ⊥) (EntriesFault k [] count ws) 1 q → SectionFault k (count ∷ ws) q
    join q (here x) = absurd x
    join q (later r e x) = record { place = r; stands = omega arith; fault = x }

    split : (q : ℕ) → SectionFault k (count ∷ ws) q → Either (λ q. ⊥) (EntriesFault k [] count ws) 1 q
    split q f = later f.place (omega (arith, f.stands)) f.fault

-- the faults of sections are the first one's, and those of the sections after it
module _ (k : Kind) (ks : List Kind) (ws : List ℕ) where
  abbrev After : ℕ → Type 0
  After = SectionsFault ks (drop (section_size k ws) ws)

  sections-split : (q : ℕ) → SectionsFault (k ∷ ks) ws q → Either (SectionFault k ws) After (section_size k ws) q
  unfolding section_at
  sections-split q f = go f.nth f.among f.stands f.fault
    where
      go : (j : ℕ) → j < suc (length ks) → q ≡ section_at (k ∷ ks) j ws + f.place
          → SectionFault (get_or (k ∷ ks) j variables) (drop (section_at (k ∷ ks) j ws) ws) f.place
          → Either (SectionFault k ws) After (section_size k ws) q
      go zero l e x = let z : q ≡ f.place = omega arith in here (rw z x)
      go (suc j) l e x =
          later (section_at ks j (drop (section_size k ws) ws) + f.place) (omega arith)
          (record {
            nth = j;
            among = omega arith;
            place = f.place;
            stands = refl;
            fault = rw (drop-drop (section_at ks j (drop (section_size k ws) ws)) (section_size k ws) ws) x;
          })

  sections-join : (q : ℕ) → Either (SectionFault k ws) After (section_size k ws) q → SectionsFault (k ∷ ks) ws q
  unfolding section_at
  sections-join q (here x) = record { nth = 0; among = omega arith; place = q; stands = omega arith; fault = x }
  sections-join q (later r e x) =
      record {
        nth = suc x.nth;
        among = omega (arith, x.among);
        place = x.place;
        stands = omega (arith, x.stands);
        fault = rw (← drop-drop (section_at ks x.nth (drop (section_size k ws) ws)) (section_size k ws) ws) x.fault;
      }

section-gone : (k : Kind) (ws : List ℕ) (q : ℕ) → length ws ≡ 0 → SectionFault k ws q → ⊥
section-gone k [] q z f = omega (arith, f.fault.among)
section-gone k (w ∷ ws) q z f = omega arith

sections-tell : (ks : List Kind) → ((j : ℕ) → j < length ks → Deep (get_or ks j variables)) → (ws : List ℕ)
    → Tells (SectionsFault ks ws) (section_at ks (length ks) ws) (length ws) (sections ks ws)
unfolding section_at sections
sections-tell [] deep ws = (refl, (omega arith, λ q f. omega (arith, f.among)))
sections-tell (k ∷ ks) deep ws =
    same-faults (Either (SectionFault k ws) (After k ks ws) (section_size k ws)) (SectionsFault (k ∷ ks) ws)
    (section_at (k ∷ ks) (suc (length ks)) ws) (length ws) (sections (k ∷ ks) ws)
    (sections-join k ks ws) (sections-split k ks ws)
    (then-tells (SectionFault k ws) (After k ks ws) (section_size k ws)
    (section_at ks (length ks) (drop (section_size k ws) ws)) (section_at (k ∷ ks) (suc (length ks)) ws) (length ws)
    (length (drop (section_size k ws) ws)) refl (length-drop (section_size k ws) ws)
    (section k ws) (λ p. sections ks (drop p ws)) (section-tells k (deep 0 (omega arith)) ws)
    (λ l. sections-tell ks (λ j h. deep (suc j) (omega arith)) (drop (section_size k ws) ws))
    (λ l r x.
    section-gone _ _ x.place
    (rw (drop-drop (section_at ks x.nth (drop (section_size k ws) ws)) (section_size k ws) ws, length-drop)
    (omega arith))
    x.fault))

-- a section starts where the one before it ends
pub section-next : (ks : List Kind) (j : ℕ) (ws : List ℕ) → j < length ks
    → section_at ks (suc j) ws ≡ section_at ks j ws + section_size (get_or ks j variables)
    (drop (section_at ks j ws) ws)
unfolding section_at
section-next [] j ws h = let z : ⊥ = omega arith in absurd z
section-next (k ∷ ks) zero ws h = omega arith
section-next (k ∷ ks) (suc j) ws h =
    rw (← drop-drop (section_at ks j (drop (section_size k ws) ws)) (section_size k ws) ws)
    (omega (arith, section-next ks j (drop (section_size k ws) ws) (omega arith)))

pub always-deep : (j : ℕ) → j < length always → Deep (get_or always j variables)
always-deep j h =
    rw (always-kind j (omega arith)) (key-there j (omega arith), entry-deep j (omega arith))

always-tell : (ws : List ℕ)
    → Tells (SectionsFault always ws) (section_at kinds 4 ws) (length ws) (sections always ws)
always-tell ws = rw (← always-at ws 4 (omega arith)) (sections-tell always always-deep ws)

-- four sections that end, end where the layout has their end
pub fourth-ends : (ws : List ℕ) (p : ℕ) → sections always ws ≡ ends p → p ≡ section_at kinds 4 ws
fourth-ends ws p e = let t : Tells _ (section_at kinds 4 ws) (length ws) (ends p) = rw e at (always-tell ws) in t.0

-- What applies at place q of all that follows the fourth section: a fault of the fifth, or that its count is 0.
data FifthFault (rest : List ℕ) (q : ℕ) : Type 0 where
  in_fifth : SectionFault sigma rest q → FifthFault rest q
  no_entry : q ≡ 0 → 0 < length rest → get_or rest 0 0 ≡ 0 → FifthFault rest q

fifth-gone : (rest : List ℕ) → length rest ≡ 0 → (q : ℕ) → FifthFault rest q → ⊥
fifth-gone rest z q (in_fifth f) = section-gone sigma rest q z f
fifth-gone rest z q (no_entry e l c) = omega arith

-- t numbers stand there, none where no byte follows the fourth section
fifth-tells : (len p t : ℕ) (rest : List ℕ) → (len ≤ 2 * p → (t ≡ 0) × (length rest ≡ 0))
    → (2 * p < len → t ≡ section_size sigma rest) → Tells (FifthFault rest) t (length rest) (fifth len p rest)
fifth-tells len p t rest none some =
    by-fifth len p rest (Tells (FifthFault rest) t (length rest))
    (λ h. (sym (none h).0, (omega (arith, (none h).0), fifth-gone rest (none h).1)))
    (λ h l z. (no_entry refl l z, (omega (arith, some h), (l, λ q f. omega arith))))
    (λ h c.
    rw (some h)
    (same-faults (SectionFault sigma rest) (FifthFault rest) (section_size sigma rest) (length rest)
    (section sigma rest) (λ q. in_fifth) (own c)
    (section-tells sigma (key-there 4 (omega arith), entry-deep 4 (omega arith)) rest)))
  where
    own : (0 < length rest → 0 < get_or rest 0 0) → (q : ℕ) → FifthFault rest q → SectionFault sigma rest q
    own c q (in_fifth f) = f
    own c q (no_entry e l z) = absurd (omega (arith, c l))

-- what is claimed of the check of a book
abbrev Claims : List ℕ → Checked → Type 0
Claims bytes sound = (b : ℕ) → BookFault bytes b → ⊥
Claims bytes (broken_at b) = Lowest bytes b

-- a book that is not too long
module _ (bytes : List ℕ) (fits : length bytes ≤ largest_book) where
  abbrev ws : List ℕ
  ws = numbers_of bytes

  abbrev Within : ℕ → Type 0
  Within = Either (SectionsFault always ws) (FifthFault (drop (fourth_end bytes) ws)) (fourth_end bytes)

  abbrev Said : Walk → Type 0
  Said = Tells Within (book_end bytes) (length ws)

  -- how many numbers the layout has after the fourth section
  abbrev size : ℕ
  size = book_end bytes - fourth_end bytes

  absent : length bytes ≤ 2 * fourth_end bytes → book_end bytes ≡ fourth_end bytes
  absent h = rw (le-ltb (2 * fourth_end bytes) (length bytes) h)

  present : 2 * fourth_end bytes < length bytes
      → book_end bytes ≡ fourth_end bytes + section_size sigma (drop (fourth_end bytes) ws)
  present h = rw (lt-ltb (2 * fourth_end bytes) (length bytes) h) (section-next kinds 4 ws (omega arith))

  book-said : Said (all_sections (length bytes) ws)
  unfolding all_sections
  book-said =
      then-tells (SectionsFault always ws) (FifthFault (drop (fourth_end bytes) ws)) (fourth_end bytes) size
      (book_end bytes) (length ws) (length (drop (fourth_end bytes) ws)) is-size (length-drop (fourth_end bytes) ws)
      (sections always ws) (λ p. fifth (length bytes) p (drop p ws)) (always-tell ws)
      (λ l.
      fifth-tells (length bytes) (fourth_end bytes) size (drop (fourth_end bytes) ws)
      (λ h. (omega (arith, absent h), omega (arith, numbers-low bytes, length-drop (fourth_end bytes) ws)))
      (λ h. omega (arith, present h)))
      (λ l r f. fifth-gone (drop (fourth_end bytes) ws) (omega (arith, length-drop (fourth_end bytes) ws)) r f)
    where
      is-size : book_end bytes ≡ fourth_end bytes + size
      is-size =
          by-le (length bytes) (2 * fourth_end bytes) (λ h. omega (arith, absent h)) (λ h. omega (arith, present h))

  -- the faults of the five sections, and a fifth count of 0
  wrong-within : (q : ℕ) → SectionsFault kinds ws q → Within q
  wrong-within q f = go f.nth f.among f.stands f.fault
    where
      go : (j : ℕ) → j < 5 → q ≡ section_at kinds j ws + f.place
          → SectionFault (kind_at j) (drop (section_at kinds j ws) ws) f.place → Within q
      go j l e x =
          by-le j 3
          (λ h.
          here
          (record {
            nth = j;
            among = omega arith;
            place = f.place;
            stands = rw (always-at ws j l) e;
            fault = rw (always-at ws j l, always-kind j l) x;
          }))
          (λ h. let z : j ≡ 4 = omega arith in later f.place (rw z at e) (in_fifth (rw z at x)))

  empty-within : fourth_end bytes < length ws → get_or ws (fourth_end bytes) 0 ≡ 0 → Within (fourth_end bytes)
  empty-within l z =
      let e : fourth_end bytes + 0 ≡ fourth_end bytes = omega arith in
      later 0 (sym e)
      (no_entry refl (omega (arith, length-drop (fourth_end bytes) ws))
      (get_or-drop (fourth_end bytes) ws 0 0 ∙ rw e z))

  applied : (q : ℕ) → Within q → BookFault bytes (2 * q)
  applied q (here f) =
      wrong_number fits q refl
      (record {
        nth = f.nth;
        among = omega (arith, f.among);
        place = f.place;
        stands = rw (← always-at ws f.nth (omega (arith, f.among))) f.stands;
        fault =
            rw (← always-at ws f.nth (omega (arith, f.among)), ← always-kind f.nth (omega (arith, f.among)))
            f.fault;
      })
  applied q (later r e (in_fifth f)) =
      wrong_number fits q refl (record { nth = 4; among = omega arith; place = r; stands = e; fault = f })
  applied q (later r e (no_entry z l c)) =
      let same : fourth_end bytes + 0 ≡ fourth_end bytes = omega arith in
      empty_fifth fits (omega (arith, length-drop (fourth_end bytes) ws))
      (sym (ap (λ (p : ℕ). get_or ws p 0) same) ∙ sym (get_or-drop (fourth_end bytes) ws 0 0) ∙ c) (omega arith)

  -- a byte that is no higher than a fault of each kind
  bounded : (b c : ℕ) → ((q : ℕ) → Within q → b ≤ 2 * q)
      → (2 * book_end bytes < length bytes → b ≤ 2 * book_end bytes)
      → (length (numbers_of bytes) < book_end bytes → b ≤ length bytes) → BookFault bytes c → b ≤ c
  bounded b c n f m (too_long l e) = omega arith
  bounded b c n f m (wrong_number l q e x) = omega (arith, n q (wrong-within q x))
  bounded b c n f m (empty_fifth l h z e) = omega (arith, n (fourth_end bytes) (empty-within h z))
  bounded b c n f m (follows l h e) = omega (arith, f h)
  bounded b c n f m (missing l h e) = omega (arith, m h)

  walked : (w : Walk) → Said w → Claims bytes (checked_as (length bytes) w)
  walked (ends p) t =
      by-le (length bytes) (2 * p) (λ h. rw (at-end (length bytes) p h) (none h))
      (λ h. rw (after-end (length bytes) p h) (past h))
    where
      none : length bytes ≤ 2 * p → (c : ℕ) → BookFault bytes c → ⊥
      none h c (too_long l e) = omega arith
      none h c (wrong_number l q e x) = t.1.1 q (wrong-within q x)
      none h c (empty_fifth l g z e) = t.1.1 (fourth_end bytes) (empty-within g z)
      none h c (follows l g e) = omega (arith, t.0)
      none h c (missing l g e) = omega (arith, t.1.0)

      past : 2 * p < length bytes → Lowest bytes (2 * p)
      past h =
          record {
            applies = follows fits (rw t.0 at h) (omega (arith, t.0));
            least =
                λ c. bounded (2 * p) c (λ q x. absurd (t.1.1 q x)) (λ g. omega (arith, t.0)) (λ g. omega arith);
          }
  walked (broken p) t =
      rw (at-broken (length bytes) p)
      (record {
        applies = applied p t.0;
        least =
            λ c.
            bounded (2 * p) c (λ q x. omega (arith, t.1.1.1 q x)) (λ g. omega (arith, t.1.0))
            (λ g. omega (arith, t.1.1.0, numbers-low bytes));
      })
  walked short t =
      rw (at-short (length bytes))
      (record {
        applies = missing fits t.0 refl;
        least =
            λ c.
            bounded (length bytes) c (λ q x. absurd (t.1 q x)) (λ g. omega (arith, t.0, numbers-high bytes))
            (λ g. omega arith);
      })

only-too-long : (bytes : List ℕ) → largest_book < length bytes → (c : ℕ) → BookFault bytes c → largest_book ≤ c
only-too-long bytes h c (too_long l e) = omega arith
only-too-long bytes h c (wrong_number l q e x) = omega arith
only-too-long bytes h c (empty_fifth l g z e) = omega arith
only-too-long bytes h c (follows l g e) = omega arith
only-too-long bytes h c (missing l g e) = omega arith

book-claims : (bytes : List ℕ) → Claims bytes (check_book bytes)
book-claims bytes =
    by-le (length bytes) largest_book
    (λ h.
    rw (book-is bytes (all_sections (length bytes) (numbers_of bytes)) h refl)
    (walked bytes h (all_sections (length bytes) (numbers_of bytes)) (book-said bytes h)))
    (λ h. rw (book-long bytes h) (record { applies = too_long h refl; least = only-too-long bytes h }))

pub lowest : (bytes : List ℕ) (b : ℕ) → check_book bytes ≡ broken_at b → Lowest bytes b
lowest bytes b e = rw e at (book-claims bytes)

pub sound-has-none : (bytes : List ℕ) → check_book bytes ≡ sound → (b : ℕ) → BookFault bytes b → ⊥
sound-has-none bytes e = rw e at (book-claims bytes)
