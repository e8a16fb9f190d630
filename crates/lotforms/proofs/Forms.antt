-- Which form a line has, by its letter and what follows it: one law for each way out.
-- Assumes nothing.
use Prim.Native.Nat.{ℕ, suc, ◌-◌, ◌≤◌, ◌<◌}
use native.Mathlib.Omega.{arith}
use mathlib.Core.Path.{◌≡◌, refl, sym, ap, ◌∙◌}
use mathlib.Core.Bool.{Bool, true, false, cond, ◌&&◌, and-false, and-true}
use mathlib.Core.List.{List, [], ◌∷◌}
use lib.Dec.{leb, eqb}
use lib.ListN.{length, get_or, take, drop}
use borrow.Author.Tests.{le-leb, ne_eqb}
use Rattle.rules.specs.History.{Work}
use Rattle.rules.specs.Log as log
use Rattle.rules.specs.Log.{split_at, space, is_number, value_of, field_at, numbers_after, lot_in}
use Rattle.rules.specs.Log.{yes_or_no, order_in}
use Rattle.rules.specs.Log.{order_line, unknown_line, line_of, original_letter, resubmitted_letter, steady_letter}
use Rattle.rules.specs.Log.{permission_letter, corrective_letter}
use Rattle.rules.specs.Feeding.{up_to, longest_line}
use Rattle.rules.proofs.LineForms.{rest_at, split-first, long-unknown}
use Rattle.lotforms.specs.Reading.{fields_from, numbers_then, lot_of, order_of, lot_from, order_from}
use Rattle.lotforms.specs.Reading.{work_with, letter_from, form_of}
use Rattle.lotforms.proofs.Reading.{rest-of}

-- a first field that is no single byte
not-one : (w : Work) (fs : List (List ℕ)) → eqb (length (field_at fs 0)) 1 ≡ false → line_of w fs ≡ unknown_line
unfolding line_of
not-one w fs e = simp (e, and-false)

ands : {A : Type 0} (a b c d : Bool) (x y : A)
    → cond (a && (b && (c && d))) x y ≡ cond a (cond b (cond c (cond d x y) y) y) y
ands false b c d x y = refl
ands true false c d x y = refl
ands true true false d x y = refl
ands true true true d x y = refl

both-ways : {A : Type 0} (a : Bool) (y : A) → cond a y y ≡ y
both-ways true y = refl
both-ways false y = refl

four-numbers : (again : Bool) (b : ℕ) (fs : List (List ℕ))
    → cond (eqb (suc (length fs)) 5 && numbers_after ((b ∷ []) ∷ fs)) (lot_in again ((b ∷ []) ∷ fs)) unknown_line
    ≡ numbers_then 4 fs (lot_of again)
unfolding numbers_then
four-numbers again b [] = refl
four-numbers again b (f₁ ∷ []) = simp both-ways
four-numbers again b (f₁ ∷ f₂ ∷ []) = simp both-ways
four-numbers again b (f₁ ∷ f₂ ∷ f₃ ∷ []) = simp both-ways
four-numbers again b (f₁ ∷ f₂ ∷ f₃ ∷ f₄ ∷ []) = ands (is_number f₁) (is_number f₂) (is_number f₃) (is_number f₄) _ _
four-numbers again b (f₁ ∷ f₂ ∷ f₃ ∷ f₄ ∷ f₅ ∷ fs) =
    simp (ne_eqb (suc (length (f₁ ∷ f₂ ∷ f₃ ∷ f₄ ∷ f₅ ∷ fs))) 5 (λ q. omega arith), both-ways)

two-tests : {A : Type 0} (a b : Bool) (x y : A) → cond (a && b) x y ≡ cond a (cond b x y) y
two-tests true b x y = refl
two-tests false b x y = refl

one-number : (on_yes on_no b : ℕ) (fs : List (List ℕ))
    → cond (eqb (suc (length fs)) 2 && yes_or_no (field_at ((b ∷ []) ∷ fs) 1)) (order_in on_yes on_no ((b ∷ []) ∷ fs))
    unknown_line
    ≡ numbers_then 1 fs (order_of on_yes on_no)
unfolding numbers_then
one-number on_yes on_no b [] = refl
one-number on_yes on_no b (f ∷ []) = two-tests (is_number f) (leb (value_of f) 1) _ _
one-number on_yes on_no b (f ∷ g ∷ fs) = simp (ne_eqb (suc (length (f ∷ g ∷ fs))) 2 (λ q. omega arith), both-ways)

-- the fields of all of a text
fields-all : (fields : List ℕ) → fields_from fields 0 ≡ split_at space fields
unfolding fields_from
fields-all fields = simp (le-leb 0 (length fields) (omega arith))

-- a letter by itself, and fields after it
lot-original : (w : Work) (fs : List (List ℕ))
    → line_of w ((original_letter ∷ []) ∷ fs) ≡ numbers_then 4 fs (lot_of false)
unfolding line_of
lot-original w fs = simp (and-false, and-true) (four-numbers false original_letter fs)

lot-again : (w : Work) → w.resubmission ≡ true → (fs : List (List ℕ))
    → line_of w ((resubmitted_letter ∷ []) ∷ fs) ≡ numbers_then 4 fs (lot_of true)
unfolding line_of
lot-again w e fs = simp (e, and-false, and-true) (four-numbers true resubmitted_letter fs)

not-again : (w : Work) → w.resubmission ≡ false → (fs : List (List ℕ))
    → line_of w ((resubmitted_letter ∷ []) ∷ fs) ≡ unknown_line
unfolding line_of
not-again w e fs = simp (e, and-false, and-true)

order-steady : (w : Work) (fs : List (List ℕ))
    → line_of w ((steady_letter ∷ []) ∷ fs) ≡ numbers_then 1 fs (order_of 5 6)
unfolding line_of
order-steady w fs = simp (and-false, and-true) (one-number 5 6 steady_letter fs)

order-permission : (w : Work) (fs : List (List ℕ))
    → line_of w ((permission_letter ∷ []) ∷ fs) ≡ numbers_then 1 fs (order_of 7 8)
unfolding line_of
order-permission w fs = simp (and-false, and-true) (one-number 7 8 permission_letter fs)

-- a letter and the text after it
module _ (r : Bool) (letter : ℕ) (fields : List ℕ) where
  by-letter : (k known : ℕ) (give : List ℕ → log.Line)
      → ((fs : List (List ℕ)) → line_of (work_with r) ((known ∷ []) ∷ fs) ≡ numbers_then k fs give)
      → letter ≡ known → numbers_then k (fields_from fields 0) give ≡ letter_from r letter fields
  by-letter k known give says q =
      ap (λ (fs : List (List ℕ)). numbers_then k fs give) (fields-all fields)
      ∙ sym (says (split_at space fields))
      ∙ ap (λ (n : ℕ). letter_from r n fields) (sym q)

  pub known-lot : letter ≡ original_letter → lot_from false fields ≡ letter_from r letter fields
  known-lot = by-letter 4 original_letter (lot_of false) (lot-original (work_with r))

  pub known-again : letter ≡ resubmitted_letter → r ≡ true → lot_from true fields ≡ letter_from r letter fields
  known-again q e = by-letter 4 resubmitted_letter (lot_of true) (lot-again (work_with r) e) q

  pub known-steady : letter ≡ steady_letter → order_from 5 6 fields ≡ letter_from r letter fields
  known-steady = by-letter 1 steady_letter (order_of 5 6) (order-steady (work_with r))

  pub known-permission : letter ≡ permission_letter → order_from 7 8 fields ≡ letter_from r letter fields
  known-permission = by-letter 1 permission_letter (order_of 7 8) (order-permission (work_with r))

  pub unknown-again : letter ≡ resubmitted_letter → r ≡ false → unknown_line ≡ letter_from r letter fields
  unknown-again q e = rw q (sym (not-again (work_with r) e (split_at space fields)))

  pub unlettered : (letter ≡ original_letter → ⊥) → (letter ≡ resubmitted_letter → ⊥)
      → (letter ≡ steady_letter → ⊥)
      → (letter ≡ permission_letter → ⊥)
      → unknown_line ≡ letter_from r letter fields
  unfolding line_of
  unlettered a b c d =
      rw (split-first space fields)
      (sym
      (simp (
        ne_eqb letter original_letter a,
        ne_eqb letter resubmitted_letter b,
        ne_eqb letter steady_letter c,
        ne_eqb letter permission_letter d,
        ne_eqb (suc (suc (length (rest_at space fields)))) 1 (λ q. omega arith),
        and-false,
      )))

longer-first : (b x : ℕ) (bs : List ℕ) → (x ≡ space → ⊥)
    → eqb (length (field_at (split_at space (b ∷ x ∷ bs)) 0)) 1 ≡ false
unfolding split_at
longer-first b x bs q =
    rw (ne_eqb x space q, split-first space bs) (go (eqb b space))
  where
    go : (t : Bool)
        → eqb (length (field_at
        (cond t ([] ∷ ((x ∷ up_to space bs) ∷ rest_at space bs)) ((b ∷ x ∷ up_to space bs) ∷ rest_at space bs)) 0)) 1
        ≡ false
    go true = refl
    go false = ne_eqb (suc (suc (length (up_to space bs)))) 1 (λ q. omega arith)

false-true : false ≡ true → ⊥
false-true e = absurd cc

-- a line by its bytes
module _ (r : Bool) where
  pub overlong : (l : List ℕ) → longest_line < length l → unknown_line ≡ form_of r l
  overlong l h = sym (long-unknown (work_with r) l h)

  pub blank : (l : List ℕ) → length l < 1 → unknown_line ≡ form_of r l
  unfolding line_of split_at
  blank [] e = refl
  blank (b ∷ bs) e = absurd (omega arith)

  pub corrective : (l : List ℕ) → 1 ≤ length l → length l < 2 → get_or l 0 0 ≡ corrective_letter
      → order_line 9 ≡ form_of r l
  unfolding line_of split_at
  corrective [] e f q = absurd (omega arith)
  corrective (b ∷ []) e f q = rw q refl
  corrective (b ∷ x ∷ bs) e f q = absurd (omega arith)

  pub alone : (l : List ℕ) → 1 ≤ length l → length l < 2 → (get_or l 0 0 ≡ corrective_letter → ⊥)
      → unknown_line ≡ form_of r l
  unfolding line_of split_at
  alone [] e f q = absurd (omega arith)
  alone (b ∷ []) e f q = go (eqb b space)
    where
      go : (t : Bool) → unknown_line ≡ line_of (work_with r) (cond t ([] ∷ [] ∷ []) ((b ∷ []) ∷ []))
      go true = refl
      go false = sym (simp (ne_eqb b corrective_letter q))
  alone (b ∷ x ∷ bs) e f q = absurd (omega arith)

  pub unspaced : (l : List ℕ) → 2 ≤ length l → (get_or l 1 0 ≡ space → ⊥) → unknown_line ≡ form_of r l
  unspaced [] e q = absurd (omega arith)
  unspaced (b ∷ []) e q = absurd (omega arith)
  unspaced (b ∷ x ∷ bs) e q = sym (not-one (work_with r) (split_at space (b ∷ x ∷ bs)) (longer-first b x bs q))

  pub lettered : (l : List ℕ) → 2 ≤ length l → get_or l 1 0 ≡ space
      → letter_from r (get_or l 0 0) (take (length l - 2) (drop 2 l)) ≡ form_of r l
  unfolding split_at
  lettered [] e s = absurd (omega arith)
  lettered (b ∷ []) e s = absurd (omega arith)
  lettered (b ∷ x ∷ bs) e s = rw s (ap (letter_from r b) (rest-of (b ∷ x ∷ bs) 2) ∙ go (eqb b space) refl)
    where
      fs : List (List ℕ)
      fs = split_at space bs

      go : (t : Bool) → eqb b space ≡ t
          → line_of (work_with r) ((b ∷ []) ∷ fs)
          ≡ line_of (work_with r) (cond t ([] ∷ ([] ∷ fs)) ((b ∷ []) ∷ fs))
      go true q =
          sym
          (unlettered r b bs (λ e. false-true (rw e at q)) (λ e. false-true (rw e at q))
          (λ e. false-true (rw e at q))
          (λ e. false-true (rw e at q)))
          ∙ sym (not-one (work_with r) ([] ∷ ([] ∷ fs)) refl)
      go false q = refl

-- by the letter, and by the bytes before it is known
pub ruleset letters = (known-lot, known-again, known-steady, known-permission, unknown-again, unlettered)

pub ruleset lines = (overlong, blank, corrective, alone, unspaced, lettered)
