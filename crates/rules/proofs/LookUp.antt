-- What a look-up in a sound book finds: an entry of the section under the key asked, the only one, each of its numbers
-- in range and keeping its rules; and every entry under the key is found. Proved once over the kinds of section.
-- Assumes nothing.
use Prim.Native.Nat.{ℕ, zero, suc, ◌+◌, ◌*◌, ◌≤◌, ◌<◌}
use mathlib.Core.Path.{◌≡◌, refl, ap, sym, subst, ◌∙◌}
use mathlib.Core.Bool.{Bool, true, false, cond, ◌&&◌, true≢false}
use mathlib.Core.List.{List, [], ◌∷◌}
use native.Mathlib.Omega.{arith}
use borrow.Author.Tests.{ltb-true, ltb-false, eqb-true, eq-eqb, le-ltb}
use lib.ListN.{length, get_or, take, drop, drop_of_length-le}
use lib.Seq.{drop-drop, get_or-take, take-take, length-take-le}
use lib.Dec.{ltb, eqb}
use Rattle.rules.specs.Numbers.{numbers_of}
use Rattle.rules.specs.Book.{Walk, ends, broken, short, shift, then_from, Kind, right, numbers_from, size_of}
use Rattle.rules.specs.Book.{key_of, rises, entry, entries, section, sections, sigma, always, kinds, kind_at}
use Rattle.rules.specs.Book.{variables, fifth, all_sections, largest_book, sound, broken_at, checked_as, check_book}
use Rattle.rules.specs.Book.{found}
use Rattle.rules.specs.Book.{key_for, same_key, seek, seek_in, look_up, is_end, could_hold}
use Rattle.rules.specs.Faults.{EntryFault, key_stays}
use Rattle.rules.specs.Layout.{entry_at, key_before, section_size, section_at, entry_of, section_from, EntryIn}
use Rattle.rules.specs.Layout.{fourth_end}
use Rattle.rules.specs.PlanRules.{Held}
use Rattle.rules.proofs.Bools.{true-unless}
use Rattle.rules.proofs.Walks.{broken-no-end, short-no-end, entry-ends}
use Rattle.rules.proofs.Bounded.{by-le}
use Rattle.rules.proofs.Numbers.{numbers-low}
use Rattle.rules.proofs.Steps.{rises-less, rises-same, section-short, by-fifth, after-end}
use Rattle.rules.proofs.SectionKinds.{key-there, entry-deep, always-kind, always-take, always-at}
use Rattle.rules.proofs.Faults.{Tells, Wrong, numbers-tell, wrong-is, Deep, entry-tells, section-tells, key-next}
use Rattle.rules.proofs.Faults.{always-deep, fourth-ends}

module _ (k : Kind) (e : List ℕ) where
  told : Tells (Wrong k e 0 (size_of k e)) (size_of k e) (length e) (numbers_from k e (size_of k e) 0)
  told = numbers-tell k e (size_of k e) 0 (size_of k e) (omega arith) (omega arith)

  pub held : could_hold k e ≡ true → Held k e
  unfolding could_hold
  held h = go (numbers_from k e (size_of k e) 0) h told
    where
      go : (w : Walk) → is_end w ≡ true → Tells (Wrong k e 0 (size_of k e)) (size_of k e) (length e) w → Held k e
      go (ends p) h t =
          record {
            whole = t.1.0;
            each =
                λ p l.
                true-unless (right k e p) (λ w. t.1.1 p (omega arith, (l, (omega (arith, t.1.0), w))));
          }
      go (broken p) h t = absurd (true≢false (sym h))
      go short h t = absurd (true≢false (sym h))

-- what two walks that end have in between
pub record Ended (w : Walk) (f : ℕ → Walk) : Type 0 where
  pub first : ℕ
  pub ends-first : w ≡ ends first
  pub second : ℕ
  pub ends-second : f first ≡ ends second

pub then-ended : (w : Walk) (f : ℕ → Walk) (p : ℕ) → then_from w f ≡ ends p → Ended w f
unfolding then_from shift
then-ended (ends s) f p e = go (f s) refl e
  where
    go : (v : Walk) → f s ≡ v → shift s v ≡ ends p → Ended (ends s) f
    go (ends t) h e = record { first = s; ends-first = refl; second = t; ends-second = h }
    go (broken t) h e = broken-no-end e
    go short h e = short-no-end e
then-ended (broken s) f p e = broken-no-end e
then-ended short f p e = short-no-end e

-- in entries that end, each one does, after the one before it
entries-at : (k : Kind) (n : ℕ) (before ws : List ℕ) (p : ℕ) → entries k n before ws ≡ ends p → (i : ℕ) → i < n
    → entry k (key_before k before i ws) (drop (entry_at k i ws) ws) ≡ ends (size_of k (drop (entry_at k i ws) ws))
unfolding entries entry_at key_before
entries-at k zero before ws p e i l = let z : ⊥ = omega arith in absurd z
entries-at k (suc n) before ws p e zero l =
    let d = then-ended (entry k before ws) (λ s. entries k n (key_of k ws) (drop s ws)) p e in
    d.ends-first ∙ ap ends (entry-ends k before ws d.first d.ends-first).1
entries-at k (suc n) before ws p e (suc i) l =
    let d = then-ended (entry k before ws) (λ s. entries k n (key_of k ws) (drop s ws)) p e in
    let rest : entries k n (key_of k ws) (drop (size_of k ws) ws) ≡ ends d.second =
    rw (entry-ends k before ws d.first d.ends-first).1 at d.ends-second in
    rw (key-next k before ws i, ← drop-drop (entry_at k i (drop (size_of k ws) ws)) (size_of k ws) ws)
    (entries-at k n (key_of k ws) (drop (size_of k ws) ws) d.second rest i (omega arith))

-- in sections that end, those before one end where it starts, and it ends
record Section (ks : List Kind) (ws : List ℕ) (j : ℕ) : Type 0 where
  starts : sections (take j ks) ws ≡ ends (section_at ks j ws)
  end : ℕ
  stops : section (get_or ks j variables) (drop (section_at ks j ws) ws) ≡ ends end

pub section-ends : (k : Kind) → Deep k → (ws : List ℕ) (p : ℕ) → section k ws ≡ ends p → p ≡ section_size k ws
section-ends k deep ws p e =
    let t : Tells _ (section_size k ws) (length ws) (ends p) = rw e at (section-tells k deep ws) in t.0

sections-at : (ks : List Kind) → ((j : ℕ) → j < length ks → Deep (get_or ks j variables)) → (ws : List ℕ) (p : ℕ)
    → sections ks ws ≡ ends p → (j : ℕ) → j < length ks → Section ks ws j
unfolding sections section_at shift then_from
sections-at [] deep ws p e j l = let z : ⊥ = omega arith in absurd z
sections-at (k ∷ ks) deep ws p e zero l =
    let d = then-ended (section k ws) (λ s. sections ks (drop s ws)) p e in
    record { starts = refl; end = d.first; stops = d.ends-first }
sections-at (k ∷ ks) deep ws p e (suc j) l =
    let d = then-ended (section k ws) (λ s. sections ks (drop s ws)) p e in
    let size : d.first ≡ section_size k ws = section-ends k (deep 0 (omega arith)) ws d.first d.ends-first in
    let rest : sections ks (drop (section_size k ws) ws) ≡ ends d.second = rw size at d.ends-second in
    let s : Section ks (drop (section_size k ws) ws) j =
    sections-at ks (λ i h. deep (suc i) (omega arith)) (drop (section_size k ws) ws) d.second rest j (omega arith)
    in
    record {
      starts = rw (d.ends-first, size, s.starts);
      end = s.end;
      stops = rw (← drop-drop (section_at ks j (drop (section_size k ws) ws)) (section_size k ws) ws) s.stops;
    }

record Ending (w : Walk) : Type 0 where
  end : ℕ
  is : w ≡ ends end

pub ends-one : {a b : ℕ} → ends a ≡ ends b → a ≡ b
ends-one h = cc

pub broken-unsound : {P : Type 0} {b : ℕ} → broken_at b ≡ sound → P
broken-unsound e = let z : ◌≡◌ {A = ℕ} 0 1 = cc in let y : ⊥ = omega arith in absurd y

-- A sound book: its four sections end, and so does what follows them; it is not long, and nothing follows.
pub record Whole (book : List ℕ) : Type 0 where
  pub fourth : sections always (numbers_of book) ≡ ends (fourth_end book)
  pub size : ℕ
  pub after : fifth (length book) (fourth_end book) (drop (fourth_end book) (numbers_of book)) ≡ ends size
  pub up_to : length book ≤ 2 * (fourth_end book + size)
  pub not-long : length book ≤ largest_book

pub sound-whole : (book : List ℕ) → check_book book ≡ sound → Whole book
unfolding check_book checked_as all_sections then_from shift
sound-whole book e = go (ltb largest_book (length book)) (sections always (numbers_of book)) refl refl e
  where
    rest : ℕ → Walk
    rest p = fifth (length book) p (drop p (numbers_of book))

    go : (t : Bool) (w : Walk) → ltb largest_book (length book) ≡ t → sections always (numbers_of book) ≡ w
        → cond t (broken_at largest_book) (checked_as (length book) (then_from w rest)) ≡ sound → Whole book
    go true w p q h = broken-unsound h
    go false (broken n) p q h = broken-unsound h
    go false short p q h = broken-unsound h
    go false (ends n) p q h = next (rest n) refl h
      where
        end : n ≡ fourth_end book
        end = fourth-ends (numbers_of book) n q

        next : (w : Walk) → rest n ≡ w → checked_as (length book) (shift n w) ≡ sound → Whole book
        next (ends m) f g =
            by-le (length book) (2 * (n + m))
            (λ l.
            record {
              fourth = rw (← end) q;
              size = m;
              after = rw (← end) f;
              up_to = rw (← end) l;
              not-long = ltb-false largest_book (length book) p;
            })
            (λ l. broken-unsound (sym (after-end (length book) (n + m) l) ∙ g))
        next (broken m) f g = broken-unsound g
        next short f g = broken-unsound g

-- where no byte follows the fourth section, no number does
pub no-fifth : (book : List ℕ) → length book ≤ 2 * fourth_end book → section_from 4 (numbers_of book) ≡ []
no-fifth book h =
    drop_of_length-le (numbers_of book) {i = fourth_end book} (omega (arith, numbers-low book))

-- where what follows the fourth section ends, nothing does, or a section that has an entry
pub fifth-ended : {P : Type 0} (len p : ℕ) (rest : List ℕ) (s : ℕ) → fifth len p rest ≡ ends s
    → (len ≤ 2 * p → s ≡ 0 → P) → (2 * p < len → 0 < get_or rest 0 0 → section sigma rest ≡ ends s → P) → P
fifth-ended {P} len p rest s e none some =
    by-fifth len p rest (λ w. w ≡ ends s → P) (λ h e. none h (sym (ends-one e))) (λ h l z. broken-no-end)
    (λ h c e.
    by-le (length rest) 0 (λ l. short-no-end (sym (section-short sigma rest (omega arith)) ∙ e))
    (λ l. some h (c l) e))
    e

pub same-key : (a b : List ℕ) → same_key a b ≡ true → a ≡ b
unfolding same_key
same-key [] [] h = refl
same-key [] (b ∷ ys) h = absurd (true≢false (sym h))
same-key (a ∷ xs) [] h = absurd (true≢false (sym h))
same-key (a ∷ xs) (b ∷ ys) h = go (eqb a b) refl h (same-key xs ys)
  where
    go : (t : Bool) → eqb a b ≡ t → t && same_key xs ys ≡ true → (same_key xs ys ≡ true → xs ≡ ys) → a ∷ xs ≡ b ∷ ys
    go true e r ih = let p : a ≡ b = eqb-true a b e in let q : xs ≡ ys = ih r in cc
    go false e r ih = absurd (true≢false (sym r))

same-self : (a : List ℕ) → same_key a a ≡ true
unfolding same_key
same-self [] = refl
same-self (a ∷ xs) = rw (eq-eqb a a refl, same-self xs)

-- keys that rise are in order: none rises over itself, and one that rises over a key rises over those below it
rises-self : (a : List ℕ) → rises a a ≡ false
unfolding rises
rises-self [] = refl
rises-self (a ∷ xs) = rw (le-ltb a a (omega arith), rises-self xs)

pub rises-cases : {P : Type 0} (x y : ℕ) (a b : List ℕ) → rises (x ∷ a) (y ∷ b) ≡ true → (x < y → P)
    → (x ≡ y → rises a b ≡ true → P) → P
unfolding rises
rises-cases {P} x y a b h f g = go (ltb x y) (ltb y x) refl refl h
  where
    go : (s t : Bool) → ltb x y ≡ s → ltb y x ≡ t → cond s true (cond t false (rises a b)) ≡ true → P
    go true t p q r = f (ltb-true x y p)
    go false true p q r = absurd (true≢false (sym r))
    go false false p q r = g (omega (arith, ltb-false x y p, ltb-false y x q)) r

rises-trans : (a b c : List ℕ) → rises a b ≡ true → rises b c ≡ true → rises a c ≡ true
unfolding rises
rises-trans a b [] h g = absurd (true≢false (sym g))
rises-trans [] b (z ∷ c) h g = refl
rises-trans (x ∷ a) [] (z ∷ c) h g = absurd (true≢false (sym h))
rises-trans (x ∷ a) (y ∷ b) (z ∷ c) h g =
    rises-cases x y a b h
    (λ l. rises-cases y z b c g (λ m. less (omega arith)) (λ e r. less (omega arith)))
    (λ d q.
    rises-cases y z b c g (λ m. less (omega arith))
    (λ e r.
    rises-same (x ∷ a) (z ∷ c) 0 (omega arith) (omega arith) (omega arith) (omega arith) ∙ rises-trans a b c q
    r))
  where
    less : x < z → rises (x ∷ a) (z ∷ c) ≡ true
    less l = rises-less (x ∷ a) (z ∷ c) 0 (omega arith) (omega arith) l

-- an entry that ends has a key that rises, and each of its numbers is right
module _ (k : Kind) (deep : Deep k) (before ws : List ℕ) (s : ℕ) (e : entry k before ws ≡ ends s) where
  entry-told : (size_of k ws ≤ length ws) × ((q : ℕ) → EntryFault k before ws q → ⊥)
  entry-told =
      let t : Tells (EntryFault k before ws) (size_of k ws) (length ws) (ends s) = rw e at
      (entry-tells k deep before ws)
      in
      t.1

  key-whole : k.key < size_of k ws
  key-whole = deep.1 (get_or ws k.key 0)

  pub key-rises : rises before (key_of k ws) ≡ true
  key-rises =
      true-unless (rises before (key_of k ws))
      (λ f. entry-told.1 0 (key_stays refl (omega (arith, entry-told.0, key-whole)) f))

  entry-key : key_of k (entry_of k ws) ≡ key_of k ws
  entry-key = take-take k.key (size_of k ws) ws (omega (arith, key-whole))

  entry-size : size_of k (entry_of k ws) ≡ size_of k ws
  entry-size = ap k.size (get_or-take (size_of k ws) ws k.key 0 key-whole)

  entry-held : Held k (entry_of k ws)
  unfolding right
  entry-held =
      record {
        whole = rw (entry-size, length-take-le (size_of k ws) ws entry-told.0) (omega arith);
        each =
            λ p l.
            let m : p < size_of k ws = rw entry-size at l in
            rw (get_or-take (size_of k ws) ws p 0 m, take-take p (size_of k ws) ws (omega arith))
            (true-unless (right k ws p)
            (λ f.
            entry-told.1 p
            (wrong-is k before ws p (omega arith, (m, (omega (arith, entry-told.0), f))))));
      }

-- the keys of entries that end rise, each over all before it
rising : (k : Kind) → Deep k → (n : ℕ) (before ws : List ℕ) (p : ℕ) → entries k n before ws ≡ ends p → (i : ℕ) → i < n
    → rises before (key_of k (drop (entry_at k i ws) ws)) ≡ true
unfolding key_before
rising k deep n before ws p e zero l =
    key-rises k deep before (drop (entry_at k 0 ws) ws) _ (entries-at k n before ws p e 0 l)
rising k deep n before ws p e (suc i) l =
    rises-trans before (key_of k (drop (entry_at k i ws) ws)) (key_of k (drop (entry_at k (suc i) ws) ws))
    (rising k deep n before ws p e i (omega arith))
    (key-rises k deep _ (drop (entry_at k (suc i) ws) ws) _ (entries-at k n before ws p e (suc i) l))

not-same : (a b : List ℕ) → rises a b ≡ true → same_key a b ≡ false
not-same a b h = go (same_key a b) refl
  where
    go : (t : Bool) → same_key a b ≡ t → t ≡ false
    go true e = absurd (true≢false (sym h ∙ (rw (same-key a b e) (rises-self b))))
    go false e = refl

-- so the entry under a key is found
seek-finds : (k : Kind) → Deep k → (n : ℕ) (before ws : List ℕ) (p : ℕ) → entries k n before ws ≡ ends p
    → (i : ℕ) → i < n → seek k (key_of k (drop (entry_at k i ws) ws)) n ws
    ≡ found (entry_of k (drop (entry_at k i ws) ws))
unfolding seek entry_at entries
seek-finds k deep zero before ws p e i l = let z : ⊥ = omega arith in absurd z
seek-finds k deep (suc n) before ws p e zero l = rw (same-self (key_of k ws))
seek-finds k deep (suc n) before ws p e (suc i) l =
    let d = then-ended (entry k before ws) (λ s. entries k n (key_of k ws) (drop s ws)) p e in
    let after : List ℕ = drop (size_of k ws) ws in
    let rest : entries k n (key_of k ws) after ≡ ends d.second =
    rw (entry-ends k before ws d.first d.ends-first).1 at d.ends-second in
    let up : rises (key_of k ws) (key_of k (drop (entry_at k i after) after)) ≡ true =
    rising k deep n (key_of k ws) after d.second rest i (omega arith) in
    let other : same_key (key_of k ws) (key_of k (drop (entry_at k i after) after)) ≡ false =
    not-same (key_of k ws) (key_of k (drop (entry_at k i after) after)) up in
    let further : drop (entry_at k (suc i) ws) ws ≡ drop (entry_at k i after) after =
    sym (drop-drop (entry_at k i after) (size_of k ws) ws) in
    let Goal : List ℕ → Type 0 =
    λ d. cond (same_key (key_of k ws) (key_of k d)) (found (entry_of k ws)) (seek k (key_of k d) n after)
    ≡ found (entry_of k d) in
    subst Goal (sym further)
    (rw other (seek-finds k deep n (key_of k ws) after d.second rest i (omega arith)))

-- and what is found is an entry under the key
record Sought (k : Kind) (key : List ℕ) (n : ℕ) (ws e : List ℕ) : Type 0 where
  nth : ℕ
  among : nth < n
  under : key_of k (drop (entry_at k nth ws) ws) ≡ key
  is : e ≡ entry_of k (drop (entry_at k nth ws) ws)

seek-sought : (k : Kind) (key : List ℕ) (n : ℕ) (ws e : List ℕ) → seek k key n ws ≡ found e → Sought k key n ws e
unfolding seek entry_at
seek-sought k key zero ws e h = let z : ◌≡◌ {A = ℕ} 0 1 = cc in let y : ⊥ = omega arith in absurd y
seek-sought k key (suc n) ws e h =
    go (same_key (key_of k ws) key) refl h (seek-sought k key n (drop (size_of k ws) ws) e)
  where
    go : (t : Bool) → same_key (key_of k ws) key ≡ t
        → cond t (found (entry_of k ws)) (seek k key n (drop (size_of k ws) ws)) ≡ found e
        → (seek k key n (drop (size_of k ws) ws) ≡ found e → Sought k key n (drop (size_of k ws) ws) e)
        → Sought k key (suc n) ws e
    go true s r ih =
        record { nth = 0; among = omega arith; under = same-key (key_of k ws) key s; is = cc }
    go false s r ih =
        let d : Sought k key n (drop (size_of k ws) ws) e = ih r in
        record {
          nth = suc d.nth;
          among = omega (arith, d.among);
          under = rw (← drop-drop (entry_at k d.nth (drop (size_of k ws) ws)) (size_of k ws) ws) d.under;
          is = rw (← drop-drop (entry_at k d.nth (drop (size_of k ws) ws)) (size_of k ws) ws) d.is;
        }

-- the entries of a section that ends, end
section-entries : (k : Kind) (ws : List ℕ) (p : ℕ) → section k ws ≡ ends p
    → Ending (entries k (get_or ws 0 0) [] (drop 1 ws))
unfolding section shift
section-entries k [] p e = short-no-end e
section-entries k (count ∷ ws) p e = go (entries k count [] ws) e
  where
    go : (w : Walk) → shift 1 w ≡ ends p → Ending w
    go (ends q) h = record { end = q; is = refl }
    go (broken q) h = broken-no-end h
    go short h = short-no-end h

-- A sound book, and the section at place j of the order.
module _ (bytes : List ℕ) (good : check_book bytes ≡ sound) (j : ℕ) (within-order : j < length kinds) where
  abbrev k : Kind
  k = kind_at j

  abbrev start : List ℕ
  start = section_from j (numbers_of bytes)

  deep : Deep k
  deep = (key-there j within-order, entry-deep j within-order)

  whole : Whole bytes
  whole = sound-whole bytes good

  -- one of the four that every book has
  at-section : j ≤ 3 → Section always (numbers_of bytes) j
  at-section h = sections-at always always-deep (numbers_of bytes) (fourth_end bytes) whole.fourth j (omega arith)

  pub starts : sections (take j kinds) (numbers_of bytes) ≡ ends (section_at kinds j (numbers_of bytes))
  starts =
      by-le j 3
      (λ h.
      rw (← always-take j within-order, ← always-at (numbers_of bytes) j within-order) (at-section h).starts)
      (λ h. let z : j ≡ 4 = omega arith in rw z whole.fourth)

  -- a fifth that is not there has no entries
  entries-end : Ending (entries k (get_or start 0 0) [] (drop 1 start))
  unfolding entries
  entries-end =
      by-le j 3
      (λ h.
      section-entries k start (at-section h).end
      (rw (← always-kind j within-order, ← always-at (numbers_of bytes) j within-order) (at-section h).stops))
      (λ h.
      let z : j ≡ 4 = omega arith in
      rw z
      (fifth-ended (length bytes) (fourth_end bytes) (section_from 4 (numbers_of bytes)) whole.size whole.after
      (λ l e. rw (no-fifth bytes l) (record { end = 0; is = refl }))
      (λ l some e. section-entries sigma (section_from 4 (numbers_of bytes)) whole.size e)))

  look-up-is : (severity letter column : ℕ) → look_up j severity letter column (numbers_of bytes)
      ≡ seek k (key_for k severity letter column) (get_or start 0 0) (drop 1 start)
  unfolding look_up seek_in
  look-up-is severity letter column = rw starts

  pub entry_ending : (i : ℕ) → i < get_or start 0 0
      → entry k (key_before k [] i (drop 1 start)) (drop (entry_at k i (drop 1 start)) (drop 1 start))
      ≡ ends (size_of k (drop (entry_at k i (drop 1 start)) (drop 1 start)))
  entry_ending = entries-at k (get_or start 0 0) [] (drop 1 start) entries-end.end entries-end.is

  -- Every entry of the section has each property that the section's rules give.
  pub entry-in-held : (e : List ℕ) → EntryIn j (numbers_of bytes) e → Held k e
  entry-in-held e x = rw x.stands (entry-held k deep _ _ _ (entry_ending x.nth x.among))

  -- An entry of the section under the key asked is the one found: keys are unique, and none is overlooked.
  pub entry-in-found : (severity letter column : ℕ) (e : List ℕ) → EntryIn j (numbers_of bytes) e
      → key_of k e ≡ key_for k severity letter column → look_up j severity letter column (numbers_of bytes) ≡ found e
  entry-in-found severity letter column e x u =
      let d : List ℕ = drop (entry_at k x.nth (drop 1 start)) (drop 1 start) in
      let key : key_of k d ≡ key_for k severity letter column =
      sym (entry-key k deep _ d _ (entry_ending x.nth x.among)) ∙ sym (ap (key_of k) x.stands) ∙ u in
      look-up-is severity letter column
      ∙ rw (← key, x.stands)
      (seek-finds k deep (get_or start 0 0) [] (drop 1 start) entries-end.end entries-end.is x.nth x.among)

  -- What is found is an entry of the section, under the key asked.
  pub found-in : (severity letter column : ℕ) (e : List ℕ)
      → look_up j severity letter column (numbers_of bytes) ≡ found e
      → EntryIn j (numbers_of bytes) e
  found-in severity letter column e h =
      let s = seek-sought k (key_for k severity letter column) (get_or start 0 0) (drop 1 start) e
      (sym (look-up-is severity letter column) ∙ h) in
      record { nth = s.nth; among = s.among; stands = s.is }

  pub found-under : (severity letter column : ℕ) (e : List ℕ)
      → look_up j severity letter column (numbers_of bytes) ≡ found e → key_of k e ≡ key_for k severity letter column
  found-under severity letter column e h =
      let s = seek-sought k (key_for k severity letter column) (get_or start 0 0) (drop 1 start) e
      (sym (look-up-is severity letter column) ∙ h) in
      ap (key_of k) s.is ∙ entry-key k deep _ _ _ (entry_ending s.nth s.among) ∙ s.under

  pub found-held : (severity letter column : ℕ) (e : List ℕ)
      → look_up j severity letter column (numbers_of bytes) ≡ found e → Held k e
  found-held severity letter column e h = entry-in-held e (found-in severity letter column e h)

  -- two entries of the section under one key are one
  pub one-under : (severity letter column : ℕ) (d e : List ℕ) → EntryIn j (numbers_of bytes) d
      → EntryIn j (numbers_of bytes) e → key_of k d ≡ key_for k severity letter column
      → key_of k e ≡ key_for k severity letter column → d ≡ e
  one-under severity letter column d e x y u v =
      let p = entry-in-found severity letter column d x u in
      let q = entry-in-found severity letter column e y v in
      cc
