-- What a book supplies to a lot, by what the look-up promises: 12 first, then the lot's own refusals, then the entry
-- under its key, and its plan where that is not above the lot. One law for every kind of section.
-- Assumes nothing.
use Prim.Native.Nat.{ℕ, ◌*◌, ◌≤◌, ◌<◌}
use mathlib.Core.Path.{◌≡◌, refl, sym, ap, ◌∙◌}
use mathlib.Core.Bool.{Bool, true, false, cond, false≢true}
use mathlib.Core.List.{List}
use native.Mathlib.Omega.{arith}
use borrow.Author.Tests.{eq-eqb, lt-ltb, le-ltb, ltb-true, ltb-false}
use lib.Dec.{ltb}
use lib.ListN.{length, drop}
use Rattle.std.specs.Prelude.{Result, Ok, Err}
use Rattle.std.specs.Result.{IsErrAnd, is_ok}
use Rattle.std.proofs.lemmas.Result.{err_from_is_err_and}
use Rattle.refusals.specs.declared.Refusal.{Refusal}
use Rattle.refusals.specs.Paper.{number_of, answer_by}
use Rattle.rules.specs.Refusals.{Answer, refused, given, first_of, and_then}
use Rattle.rules.specs.Codes.{letter_of}
use Rattle.rules.specs.Numbers.{numbers_of}
use Rattle.rules.specs.Single.{cut_plan}
use Rattle.rules.specs.Variables.{VariablesPlan}
use Rattle.rules.specs.Book.{Checked, sound, broken_at, check_book, on_sound, Kind, kinds}
use Rattle.rules.specs.Book.{kind_at, reduced_singles, reduced_of, variables, variables_of}
use Rattle.rules.specs.Layout.{entry_of}
use Rattle.rules.specs.Entries.{Asked, asked_checks, asked_letter, looked_up, from_entry, unless_above, Lettered}
use Rattle.rules.specs.Entries.{lettered, plain_plan, single_plan, curtailed_plan, readings_plan}
use Rattle.rules.proofs.Answers.{refused-given, refused-then, given-one, then-given}
use Rattle.rules.proofs.Checks.{checks-alike, asked-kept, asked-passed, asked-letter}
use Rattle.rules.proofs.EntryLaws.{lot-passes, lot-given, sound-given, is-sound}
use Rattle.rules.proofs.Numbers.{numbers-low}
use Rattle.book.specs.Places.{place_under, place_held}
use Rattle.book.proofs.PlaceLaws.{on-refused, on-place, place-near}
use Rattle.entry.specs.declared.VariablesPlan as read
use Rattle.entry.specs.Paper.{variables_paper}
use Rattle.choosing.specs.declared.Lettered as held_by
use Rattle.choosing.specs.Paper.{lettered_by, plan_alone, place_for, plan_at, section_if}

-- a refusal after the book's own is the same for each answer
refused-alike : {A B : Type 0} (c : Checked) (n p m q : ℕ)
    → ◌≡◌ {A = Answer A} (refused m q) (on_sound c (refused n p))
    → ◌≡◌ {A = Answer B} (refused m q) (on_sound c (refused n p))
refused-alike sound n p m q e = cc
refused-alike (broken_at byte) n p m q e = cc

module _ (section : ℕ) (q : Asked) (book : List ℕ) where
  abbrev place : Answer ℕ
  place = place_held section q.severity (letter_of q.size q.level) q.column book

  abbrev own : ℕ
  own = letter_of q.size q.level

  abbrev with_letter : ℕ → Lettered ℕ
  with_letter p = record { letter = own; plan = p }

  abbrev lettered_place : ℕ → Answer (Lettered ℕ)
  lettered_place p = given (with_letter p)

  -- a lot that has no letter is refused, after its book ..
  pub unasked : (n p m r : ℕ) → asked_letter q ≡ refused n p
      → ◌≡◌ {A = Answer (Unit {0})} (refused m r) (on_sound (check_book book) (refused n p))
      → refused m r ≡ place_for section q book
  unasked n p m r e first =
      refused-alike (check_book book) n p m r first
      ∙ ap (on_sound (check_book book)) (sym (asked-kept q n p _ e))

  -- .. which was found sound
  pub unasked_sound : (n p : ℕ) → refused n p ≡ asked_letter q
      → ◌≡◌ {A = Answer (Unit {0})} (given tt) (on_sound (check_book book) (given tt))
      → refused n p ≡ place_for section q book
  unasked_sound n p e s = unasked n p n p (sym e) (rw (is-sound (check_book book) s))

  -- a lot that has its letter is looked up by it
  pub looked-up : (l : ℕ) (a : Answer ℕ) → asked_letter q ≡ given l
      → a ≡ place_held section q.severity l q.column book
      → and_then a (λ p. given (record { letter = l; plan = p })) ≡ place_for section q book
  unfolding place_held
  looked-up l a e h =
      let b : and_then a (λ p. given (record { letter = l; plan = p })) ≡ and_then place lettered_place =
      rw (h, ← asked-letter q l e) in
      b ∙ sym (once (check_book book) _) ∙ ap (on_sound (check_book book)) (sym (asked-passed q l e _))
    where
      once : (c : Checked) (a : Answer ℕ)
          → on_sound c (and_then (on_sound c a) lettered_place) ≡ and_then (on_sound c a) lettered_place
      once sound a = refl
      once (broken_at byte) a = refl

  -- the entry stands where it was found
  pub held : (x : Lettered ℕ) → given x ≡ place_for section q book → place ≡ given x.plan
  held x e =
      let s = (sound-given (check_book book) _ _).0 (sym e) in
      let g = (lot-given q (and_then place lettered_place) _).0 s.1 in
      let t = then-given place lettered_place _ g.1 in
      t.1 ∙ ap (λ (y : Lettered ℕ). given y.plan) (given-one t.2)

  -- .. under the lot's letter
  own-letter : (x : Lettered ℕ) → given x ≡ place_for section q book → x.letter ≡ own
  own-letter x e =
      let s = (sound-given (check_book book) _ _).0 (sym e) in
      let g = (lot-given q (and_then place lettered_place) _).0 s.1 in
      let t = then-given place lettered_place _ g.1 in sym (ap (λ (y : Lettered ℕ). y.letter) (given-one t.2))

  -- What each plan of the book then is, from the entry on.
  module _ (known : section < length kinds) {A : Type 0} (plan : List ℕ → Answer A) where
    abbrev pub supplied : Answer A
    supplied = on_sound (check_book book) (first_of (asked_checks q) (from_entry (looked_up section q book) plan))

    -- none where no place was found
    pub not-supplied : (n p : ℕ) → refused n p ≡ place_for section q book → supplied ≡ refused n p
    not-supplied n p e = go (check_book book) refl (sym e)
      where
        go : (c : Checked) → check_book book ≡ c
            → on_sound c (first_of (asked_checks q) (and_then place lettered_place)) ≡ refused n p
            → on_sound c (first_of (asked_checks q) (from_entry (looked_up section q book) plan)) ≡ refused n p
        go sound s h =
            checks-alike (asked_checks q) n p _ _
            (λ x.
            let r = on-refused section q.severity own q.column book known
            (refused-then place with_letter n p x) plan in
            sym (r ∙ ap (λ (c : Checked). on_sound c (from_entry (looked_up section q book) plan)) s)) h
        go (broken_at byte) s h = cc

    -- .. and where its entry was found, by the lot's letter, and that of the entry
    pub record SuppliedAt (l p : ℕ) : Type 0 where
      pub letter : l ≡ own
      pub there : place ≡ given p
      pub is : supplied ≡ plan (entry_of (kind_at section) (drop p (numbers_of book)))

    pub supplied-at : (l p : ℕ) → given (record { letter = l; plan = p }) ≡ place_for section q book → SuppliedAt l p
    supplied-at l p e =
        let s = (sound-given (check_book book) _ _).0 (sym e) in
        let g = (lot-given q (and_then place lettered_place) _).0 s.1 in
        let h = held (record { letter = l; plan = p }) e in
        record {
          letter = own-letter (record { letter = l; plan = p }) e;
          there = h;
          is = ap (on_sound (check_book book)) (lot-passes q _ g.0)
              ∙ sym (on-place section q.severity own q.column book known p h plan);
        }

  -- .. both as what follows on a look-up
  module _ (known : section < length kinds) {A : Type 0} (plan : ℕ → List ℕ → Answer A) where
    pub on-entry : and_then (place_for section q book)
        (λ x. plan x.letter (entry_of (kind_at section) (drop x.plan (numbers_of book))))
        ≡ on_sound (check_book book) (first_of (asked_checks q) (from_entry (looked_up section q book) (plan own)))
    on-entry = go (place_for section q book) refl
      where
        go : (a : Answer (Lettered ℕ)) → a ≡ place_for section q book
            → and_then a (λ x. plan x.letter (entry_of (kind_at section) (drop x.plan (numbers_of book))))
            ≡ supplied known (plan own)
        go (refused n p) e = sym (not-supplied known (plan own) n p e)
        go (given x) e =
            let s = supplied-at known (plan own) x.letter x.plan e in
            ap (λ (l : ℕ). plan l (entry_of (kind_at section) (drop x.plan (numbers_of book)))) s.letter ∙ sym s.is

-- the place of an entry that was found is within the book
pub near : (section severity letter column at : ℕ) (book : List ℕ)
    → place_held section severity letter column book ≡ given at → 2 * at ≤ length book
unfolding place_held place_under
near section severity letter column at book e = on (ltb section (length kinds)) refl
  where
    on : (t : Bool) → ltb section (length kinds) ≡ t → 2 * at ≤ length book
    on true h =
        let known : section < length kinds = ltb-true section (length kinds) h in
        omega (arith, place-near section severity letter column book known at e, numbers-low book)
    on false h = absurd (refused-given ((sound-given (check_book book) _ at).0 (rw h at e)).1)

-- A plan that was found, with its letter, by its two ends: above the lot or not.
module _ {P : Type 0} (section : ℕ) (known : section < length kinds) (of : List ℕ → P) (need : P → ℕ) (q : Asked)
    (book : List ℕ) where
  abbrev pub plan_of : List ℕ → Answer P
  plan_of e = unless_above q.size (need (of e)) (of e)

  abbrev pub Planned : Answer (Lettered P)
  Planned = lettered q (supplied section q book known plan_of)

  module _ (x : Lettered ℕ) (e : given x ≡ place_for section q book) (plan : P)
      (h : plan ≡ of (entry_of (kind_at section) (drop x.plan (numbers_of book)))) where
    abbrev found_at : SuppliedAt section q book known plan_of x.letter x.plan
    found_at = supplied-at section q book known plan_of x.letter x.plan e

    supplied-is : supplied section q book known plan_of ≡ unless_above q.size (need plan) plan
    supplied-is = found_at.is ∙ rw (← h) refl

    -- one above the lot is refused ..
    pub plan-above : q.size < need plan → refused 6 0 ≡ Planned
    plan-above b = sym (ap (lettered q) supplied-is ∙ rw (lt-ltb q.size (need plan) b) refl)

    -- .. and any other is given with its letter
    pub plan-given : need plan ≤ q.size → given (record { letter = x.letter; plan = plan }) ≡ Planned
    plan-given b =
        ap (λ (l : ℕ). given (record { letter = l; plan = plan })) found_at.letter
        ∙ sym (ap (lettered q) supplied-is ∙ rw (le-ltb q.size (need plan) b) refl)

    -- .. so that the test against the lot answers for it
    pub plan-either : and_then (unless_above q.size (need plan) plan)
        (λ p. given (record { letter = x.letter; plan = p }))
        ≡ Planned
    plan-either = on (ltb q.size (need plan)) refl
      where
        on : (t : Bool) → ltb q.size (need plan) ≡ t
            → and_then {B = Lettered P} (cond t (refused 6 0) (given plan))
            (λ p. given (record { letter = x.letter; plan = p }))
            ≡ Planned
        on true t = plan-above (ltb-true q.size (need plan) t)
        on false t = plan-given (ltb-false q.size (need plan) t)

-- From a look-up on, whether it found a place or not.
module _ {P : Type 0} (of : List ℕ → P) (need : P → ℕ) (q : Asked) (book : List ℕ) where
  -- what is looked up, from its answer on
  pub from-place : (section : ℕ) → section < length kinds → (a : Answer (Lettered ℕ)) → a ≡ place_for section q book
      → and_then a (plan_at (kind_at section) of need q.size book)
      ≡ lettered q
      (on_sound (check_book book)
      (first_of (asked_checks q)
      (from_entry (looked_up section q book) (λ e. unless_above q.size (need (of e)) (of e)))))
  from-place section known (refused n p) h = sym (ap (lettered q) (not-supplied section q book known _ n p h))
  from-place section known (given x) h = plan-either section known of need q book x h _ refl

  -- the plan that was read, by whether it is above the lot
  pub at-place : (k : Kind) (x : Lettered ℕ) (plan : P) → plan ≡ of (entry_of k (drop x.plan (numbers_of book)))
      → (needed : ℕ) → needed ≡ need plan → (a : Answer (Unit {0})) → a ≡ unless_above q.size needed tt
      → and_then {B = Lettered P} a (λ u. given (record { letter = x.letter; plan = plan }))
      ≡ plan_at k of need q.size book x
  at-place k x plan h needed n a e = rw (← h, e, n) (on (ltb q.size (need plan)))
    where
      on : (t : Bool)
          → and_then {B = Lettered P} (cond t (refused 6 0) (given (tt {0})))
          (λ u. given (record { letter = x.letter; plan = plan }))
          ≡ and_then (cond t (refused 6 0) (given plan)) (λ p. given (record { letter = x.letter; plan = p }))
      on true = refl
      on false = refl

  -- .. and so the plan of the book
  pub planned : (section : ℕ) → section < length kinds → (x : Lettered ℕ) → given x ≡ place_for section q book
      → (plan : P) → plan ≡ of (entry_of (kind_at section) (drop x.plan (numbers_of book))) → (needed : ℕ)
      → needed ≡ need plan → (a : Answer (Unit {0})) → a ≡ unless_above q.size needed tt
      → and_then {B = Lettered P} a (λ u. given (record { letter = x.letter; plan = plan }))
      ≡ lettered q
      (on_sound (check_book book)
      (first_of (asked_checks q)
      (from_entry (looked_up section q book) (λ e. unless_above q.size (need (of e)) (of e)))))
  planned section known x f plan h needed n a e =
      at-place (kind_at section) x plan h needed n a e ∙ from-place section known (given x) f

-- a lot that has no plan of the tables is refused, after its book
pub untabled : (q : Asked) (book : List ℕ) (n p m r : ℕ) → plain_plan q ≡ refused n p
    → ◌≡◌ {A = Answer (Unit {0})} (refused m r) (on_sound (check_book book) (refused n p))
    → refused m r ≡ curtailed_plan q book
unfolding curtailed_plan
untabled q book n p m r e first =
    refused-alike (check_book book) n p m r first ∙ ap (on_sound (check_book book)) (sym e)

-- for readings, in the section of either method
pub readings-place : (known : Bool) (q : Asked) (book : List ℕ) (section : ℕ) → section ≡ section_if known
    → (a : Answer (Lettered ℕ)) → a ≡ place_for section q book
    → and_then a (plan_at variables variables_of (λ p. p.n) q.size book)
    ≡ lettered q (readings_plan (section_if known) q book)
unfolding readings_plan
readings-place true q book section e a h =
    from-place variables_of (λ p. p.n) q book 4 (omega arith) a (rw e at h)
readings-place false q book section e a h =
    from-place variables_of (λ p. p.n) q book 3 (omega arith) a (rw e at h)

-- "Reduced singles come from the plan book, by the Table 1 letter"
pub reduced-place : (q : Asked) (book : List ℕ) → q.severity ≡ 2 → (a : Answer (Lettered ℕ)) → a ≡ place_for 0 q book
    → and_then a
    (λ x.
    let e = reduced_of (entry_of reduced_singles (drop x.plan (numbers_of book))) in
    given (cut_plan q.size x.letter e.n e.ac))
    ≡ single_plan q book
unfolding single_plan
reduced-place q book s a h =
    rw (h, eq-eqb q.severity 2 s)
    (on-entry 0 q book (omega arith) (λ l e. given (cut_plan q.size l (reduced_of e).n (reduced_of e).ac)))

-- What a look-up for readings says, ..
module _ (q : Asked) (r : Result (held_by.Lettered read.VariablesPlan) Refusal) (a : Answer VariablesPlan)
    (e : answer_by (lettered_by variables_paper) r ≡ lettered q a) where
  unlettered : Answer (Lettered VariablesPlan) → Answer VariablesPlan
  unlettered x = and_then x (λ y. given y.plan)

  without : (r : Result (held_by.Lettered read.VariablesPlan) Refusal)
      → answer_by plan_alone r ≡ unlettered (answer_by (lettered_by variables_paper) r)
  unfolding unlettered
  without (Ok x) = refl
  without (Err n) = refl

  back : (a : Answer VariablesPlan) → unlettered (lettered q a) ≡ a
  unfolding unlettered
  back (refused n p) = refl
  back (given x) = refl

  -- .. without its letter
  pub alone : answer_by plan_alone r ≡ a
  alone = without r ∙ ap unlettered e ∙ back a

-- only a sound book gives a plan ..
pub given-sound : (section : ℕ) (q : Asked) (book : List ℕ) (a : Answer VariablesPlan)
    → a ≡ readings_plan section q book → (x : VariablesPlan) → a ≡ given x → check_book book ≡ sound
unfolding readings_plan
given-sound section q book a e x g = ((sound-given (check_book book) _ x).0 (sym e ∙ g)).0

-- .. and a look-up that finds one
pub ok-sound : (section : ℕ) (q : Asked) (book : List ℕ) (r : Result (held_by.Lettered read.VariablesPlan) Refusal)
    → answer_by (lettered_by variables_paper) r ≡ lettered q (readings_plan section q book) → (t : Bool) → t ≡ is_ok r
    → t ≡ true → check_book book ≡ sound
ok-sound section q book (Ok x) e t i h =
    let g = then-given (readings_plan section q book) _ _ (sym e) in
    given-sound section q book (readings_plan section q book) refl g.0 g.1
ok-sound section q book (Err n) e t i h = absurd (false≢true (sym i ∙ h))

-- what `?` hands on is refused as it was met, with its place or at the start
pub handed-on : {T A : Type 0} (paper : T → A) (r : Result T Refusal) (x : Refusal) → IsErrAnd r (λ e. e ≡ x)
    → answer_by paper r ≡ refused (number_of x.reason) x.place
handed-on paper r x h = let p = err_from_is_err_and r h in rw (p.1, p.2)
