-- Reading a line from left to right: one law for each way out of reading a number, and one for each step from field to
-- field.
-- Assumes nothing.
use Prim.Native.Nat.{ℕ, suc, ◌+◌, ◌*◌, ◌-◌, ◌≤◌, ◌<◌}
use native.Mathlib.Omega.{arith}
use native.Mathlib.Numerals.{add-one}
use native.Mathlib.Nat.{le_trans, add_comm}
use mathlib.Core.Path.{◌≡◌, refl, sym, ap, ◌∙◌}
use mathlib.Core.Bool.{Bool, true, false, cond, ◌&&◌, ◌||◌, not, and-false, or-true}
use Rattle.std.proofs.Common.{take, nat_eq}
use Rattle.std.specs.List.{position_or_len, position}
use mathlib.Core.List.{List, [], ◌∷◌}
use lib.Dec.{leb, ltb, eqb}
use lib.ListN.{length, get_or, drop, length-drop, drop_of_length-le}
use lib.Seq.{drop-drop, take-length, take_all}
use borrow.Author.Tests.{le-leb, lt-leb, eq-eqb, ne_eqb}
use Rattle.rules.specs.Log as log
use Rattle.rules.specs.Log.{split_at, space, is_digit, all_digits, value_from, value_of, largest_number, is_number}
use Rattle.rules.specs.Log.{digit_zero, digit_nine, order_line, unknown_line}
use Rattle.rules.specs.Feeding.{up_to}
use Rattle.rules.proofs.Bounded.{by-le}
use Rattle.rules.proofs.LineForms.{rest_at, split-first}
use Rattle.std.proofs.Common.{Option, Some, None, unwrap_or}
use Rattle.std.proofs.lemmas.List.{drop_more}
use Rattle.lotforms.specs.Reading.{up_to_from, value_in, number_in, then_at, field_from, fields_from, numbers_then}
use Rattle.lotforms.specs.Reading.{order_of}

-- a field's test
no-bytes : (f : List ℕ) → length f ≡ 0 → is_number f ≡ false
unfolding is_number
no-bytes f e = simp (eq-eqb (length f) 0 e)

zero-led : (f : List ℕ) → 1 < length f → get_or f 0 0 ≡ digit_zero → is_number f ≡ false
unfolding is_number
zero-led f h e = simp (ne_eqb (length f) 1 (λ q. omega arith), eq-eqb (get_or f 0 0) digit_zero e, and-false)

pub up-to-length : (x : ℕ) (l : List ℕ) → length (up_to x l) ≤ length l
unfolding up_to
up-to-length x [] = omega arith
up-to-length x (b ∷ bs) = go (eqb b x) (up-to-length x bs)
  where
    go : (t : Bool) → length (up_to x bs) ≤ length bs → length (cond t [] (b ∷ up_to x bs)) ≤ suc (length bs)
    go true h = omega arith
    go false h = omega arith

-- what digits read as far as place i leave to be read
pub record Reads (digits : List ℕ) (i value : ℕ) : Type 0 where
  pub legal : all_digits digits ≡ all_digits (drop i digits)
  pub worth : value_of digits ≡ value_from value (drop i digits)
  pub fits : value ≤ largest_number

value-least : (v : ℕ) (bs : List ℕ) → v ≤ value_from v bs
unfolding value_from
value-least v [] = omega arith
value-least v (b ∷ bs) = le_trans (omega arith) (value-least (10 * v + (b - digit_zero)) bs)

no-value : (digits : List ℕ) → all_digits digits && leb (value_of digits) largest_number ≡ false
    → None ≡ value_in digits
unfolding value_in
no-value digits e = rw e refl

module _ {digits : List ℕ} {i value : ℕ} (r : Reads digits i value) (h : i < length digits) where
  value-after : value_of digits ≡ value_from (value * 10 + (get_or digits i 0 - digit_zero)) (drop (i + 1) digits)
  unfolding value_from
  value-after =
      r.worth
      ∙ ap (value_from value) (drop_more digits i 0 h)
      ∙ ap (λ (n : ℕ). value_from (n + (get_or digits i 0 - digit_zero)) (drop (i + 1) digits)) (omega arith)

  pub other-byte : is_digit (get_or digits i 0) ≡ false → None ≡ value_in digits
  unfolding all_digits
  other-byte e =
      let illegal : all_digits digits ≡ false = r.legal ∙ ap all_digits (drop_more digits i 0 h) ∙ rw e refl in
      no-value digits (rw illegal refl)

  pub too-large : (value * 10 + (get_or digits i 0 - digit_zero) ≤ largest_number → ⊥) → None ≡ value_in digits
  too-large o =
      no-value digits
      (simp
      (lt-leb (value_of digits) largest_number
      (omega (
        arith,
        value-after,
        value-least (value * 10 + (get_or digits i 0 - digit_zero)) (drop (i + 1) digits),
      )))
      (and-false (all_digits digits)))

  pub reads-more : {next : ℕ} → is_digit (get_or digits i 0) ≡ true
      → next ≡ value * 10 + (get_or digits i 0 - digit_zero) → next ≤ largest_number → Reads digits (i + 1) next
  unfolding all_digits
  reads-more e n f =
      record {
        legal = r.legal ∙ ap all_digits (drop_more digits i 0 h) ∙ rw e refl;
        worth = value-after ∙ ap (λ (v : ℕ). value_from v (drop (i + 1) digits)) (sym n);
        fits = f;
      }

pub reads-whole : {digits : List ℕ} {i value : ℕ} → Reads digits i value → length digits ≤ i
    → Some value ≡ value_in digits
unfolding value_in all_digits value_from
reads-whole {digits} {i} {value} r e =
    let worth : value_of digits ≡ value = r.worth ∙ ap (value_from value) (drop_of_length-le digits e) in
    let all : all_digits digits ≡ true = r.legal ∙ ap all_digits (drop_of_length-le digits e) in
    rw (worth, all, le-leb value largest_number r.fits) refl

pub ruleset digits = (other-byte, too-large, reads-whole)

-- which runs of digits are numbers
no-number : (field : List ℕ) → is_number field ≡ false → None ≡ number_in field
unfolding number_in
no-number field e = rw e refl

pub empty-field : (field : List ℕ) → length field < 1 → None ≡ number_in field
empty-field field e = no-number field (no-bytes field (omega arith))

pub zero-first : (field : List ℕ) → 2 ≤ length field → get_or field 0 0 ≡ digit_zero → None ≡ number_in field
zero-first field h e = no-number field (zero-led field (omega arith) e)

pub not-zero-led : (field : List ℕ) → 1 ≤ length field → (2 ≤ length field → get_or field 0 0 ≡ digit_zero → ⊥)
    → value_in field ≡ number_in field
unfolding value_in number_in is_number
not-zero-led field h z =
    simp (ne_eqb (length field) 0 (λ q. omega arith), single)
  where
    single : eqb (length field) 1 || not (eqb (get_or field 0 0) digit_zero) ≡ true
    single =
        by-le (length field) 1 (λ e. simp (eq-eqb (length field) 1 (omega arith)))
        (λ e. simp (ne_eqb (get_or field 0 0) digit_zero (z (omega arith))) (or-true (eqb (length field) 1)))

-- the bytes before a separator
pub up-to-take : (x : ℕ) (l : List ℕ) → take (position_or_len (λ b. nat_eq b x) l) l ≡ up_to x l
unfolding up_to
up-to-take x [] = refl
up-to-take x (b ∷ bs) = go (eqb b x) (up-to-take x bs)
  where
    p : ℕ
    p = position_or_len (λ y. nat_eq y x) bs

    go : (t : Bool) → take p bs ≡ up_to x bs → take (cond (not t) (1 + p) 0) (b ∷ bs) ≡ cond t [] (b ∷ up_to x bs)
    go true h = refl
    go false h =
        ap (λ (n : ℕ). take n (b ∷ bs)) (add_comm 1 p ∙ add-one p) ∙ ap (λ (ys : List ℕ). b ∷ ys) h

-- what is left of a list from a place on
pub rest-of : (l : List ℕ) (i : ℕ) → take (length l - i) (drop i l) ≡ drop i l
rest-of l i = ap (λ (n : ℕ). take n (drop i l)) (sym (length-drop i l)) ∙ take-length (drop i l)

pub up-to-found : (x : ℕ) (l : List ℕ) (found : Option ℕ)
    → found ≡ position (λ b. nat_eq b x) l
    → take (unwrap_or found (length l)) l ≡ up_to x l
up-to-found x l found e =
    ap (λ (o : Option ℕ). take (unwrap_or o (length l)) l) e ∙ go
  where
    p : ℕ
    p = position_or_len (λ b. nat_eq b x) l

    go : take (unwrap_or (cond (ltb p (length l)) (Some p) None) (length l)) l ≡ up_to x l
    go =
        by-le (suc p) (length l) (λ h. simp (le-leb (suc p) (length l) h) (up-to-take x l))
        (λ h. simp (lt-leb (suc p) (length l) h)
        (take-length l ∙ sym (take_all p l (omega arith)) ∙ up-to-take x l))

module _ (line : List ℕ) (i : ℕ) where
  pub within : length (up_to_from line i) ≤ length line - i
  within = omega (arith, up-to-length space (drop i line), length-drop i line)

-- the field that starts at a place
module _ (line : List ℕ) (from : ℕ) where
  pub past-end : length line < from → None ≡ field_from line from
  unfolding field_from
  past-end h =
      rw (← no-number (up_to_from line from) (no-bytes (up_to_from line from) (omega (arith, within line from)))) refl

  module _ (rest field : List ℕ) (r : rest ≡ take (length line - from) (drop from line))
      (f : field ≡ up_to space rest) where
    field-at : field ≡ up_to_from line from
    field-at = f ∙ ap (up_to space) (r ∙ rest-of line from)

    pub no-number-at : None ≡ number_in field → None ≡ field_from line from
    unfolding field_from
    no-number-at e = rw (← field-at, ← e) refl

    pub number-at : (v : ℕ) → Some v ≡ number_in field → Some (v, from + length field + 1) ≡ field_from line from
    unfolding field_from
    number-at v e = rw (← field-at, ← e) refl

pub ruleset fields = (past-end, no-number-at, number-at)

-- from field to field
rest-none : (x : ℕ) (l : List ℕ) → length l ≤ length (up_to x l) → rest_at x l ≡ []
unfolding up_to rest_at
rest-none x [] h = refl
rest-none x (b ∷ bs) h = go (eqb b x) (rest-none x bs) h
  where
    go : (t : Bool) → (length bs ≤ length (up_to x bs) → rest_at x bs ≡ [])
        → suc (length bs) ≤ length (cond t [] (b ∷ up_to x bs)) → cond t (split_at x bs) (rest_at x bs) ≡ []
    go true f g = absurd (omega arith)
    go false f g = f (omega arith)

rest-some : (x : ℕ) (l : List ℕ) → length (up_to x l) < length l → rest_at x l ≡ split_at x (drop (suc (length (up_to x
    l))) l)
unfolding up_to rest_at
rest-some x [] h = absurd (omega arith)
rest-some x (b ∷ bs) h = go (eqb b x) (rest-some x bs) h
  where
    go : (t : Bool) → (length (up_to x bs) < length bs
        → rest_at x bs ≡ split_at x (drop (suc (length (up_to x bs))) bs))
        → length (cond t [] (b ∷ up_to x bs)) < suc (length bs)
        → cond t (split_at x bs) (rest_at x bs) ≡ split_at x (drop (length (cond t [] (b ∷ up_to x bs))) bs)
    go true f g = refl
    go false f g = f (omega arith)

fields-next : (line : List ℕ) (i : ℕ) → i ≤ length line
    → fields_from line i ≡ up_to_from line i ∷ fields_from line (i + length (up_to_from line i) + 1)
unfolding fields_from
fields-next line i h =
    simp (le-leb i (length line) h)
    (split-first space (drop i line) ∙ ap (λ (z : List (List ℕ)). up_to_from line i ∷ z) rest)
  where
    k : ℕ
    k = length (up_to_from line i)

    further : i + suc k ≡ i + k + 1
    further = omega arith

    rest : rest_at space (drop i line) ≡ cond (leb (i + k + 1) (length line)) (split_at space (drop (i + k + 1) line))
        []
    rest =
        by-le (i + k + 1) (length line)
        (λ e. simp (le-leb (i + k + 1) (length line) e)
        (rest-some space (drop i line) (omega (arith, length-drop i line))
        ∙ ap (split_at space) (drop-drop (suc k) i line ∙ ap (λ (n : ℕ). drop n line) further)))
        (λ e. simp (lt-leb (i + k + 1) (length line) e) (rest-none space (drop i line) (omega (
          arith,
          length-drop i
              line,
        ))))

fields-none : (line : List ℕ) (i : ℕ) → length line < i → fields_from line i ≡ []
unfolding fields_from
fields-none line i h = simp (lt-leb i (length line) h)

pair-of : Option (ℕ × ℕ) → ℕ × ℕ
pair-of (Some p) = p
pair-of None = (0, 0)

module _ (line : List ℕ) (i k : ℕ) (give : List ℕ → log.Line) where
  number-stop : field_from line i ≡ None → numbers_then (suc k) (fields_from line i) give ≡ unknown_line
  unfolding numbers_then field_from number_in
  number-stop e =
      by-le i (length line)
      (λ h. rw (fields-next line i h) (go (is_number (up_to_from line i)) e))
      (λ h. rw (fields-none line i h) refl)
    where
      go : (t : Bool)
          → then_at (i + length (up_to_from line i) + 1) (cond t (Some (value_of (up_to_from line i))) None) ≡ None
          → cond t
          (numbers_then k (fields_from line (i + length (up_to_from line i) + 1))
          (λ vs. give (value_of (up_to_from line i) ∷ vs)))
          unknown_line
          ≡ unknown_line
      go true q = let z : ◌≡◌ {A = ℕ} 0 1 = cc in absurd (omega arith)
      go false q = refl

  number_step : {v next : ℕ} → field_from line i ≡ Some (v, next)
      → numbers_then (suc k) (fields_from line i) give ≡ numbers_then k (fields_from line next) (λ vs. give (v ∷ vs))
  unfolding numbers_then field_from number_in pair-of
  number_step {v} {next} e =
      by-le i (length line)
      (λ h. rw (fields-next line i h) (go (is_number (up_to_from line i)) e))
      (λ h. absurd (past h))
    where
      go : (t : Bool)
          → then_at (i + length (up_to_from line i) + 1) (cond t (Some (value_of (up_to_from line i))) None)
          ≡ Some (v, next)
          → cond t
          (numbers_then k (fields_from line (i + length (up_to_from line i) + 1))
          (λ vs. give (value_of (up_to_from line i) ∷ vs)))
          unknown_line
          ≡ numbers_then k (fields_from line next) (λ vs. give (v ∷ vs))
      go true q =
          let a : value_of (up_to_from line i) ≡ v = ap (λ (o : Option (ℕ × ℕ)). (pair-of o).0) q in
          let b : i + length (up_to_from line i) + 1 ≡ next = ap (λ (o : Option (ℕ × ℕ)). (pair-of o).1) q in
          rw (a, b) refl
      go false q = let z : ◌≡◌ {A = ℕ} 0 1 = cc in absurd (omega arith)

      past : length line < i → ⊥
      past h =
          let f = no-bytes (up_to_from line i) (omega (arith, within line i)) in
          let q : ◌≡◌ {A = Option (ℕ × ℕ)} None (Some (v, next)) = rw f at e in
          let z : ◌≡◌ {A = ℕ} 0 1 = cc in
          omega arith

module _ (line : List ℕ) (i : ℕ) (give : List ℕ → log.Line) where
  number-more : i ≤ length line → numbers_then 0 (fields_from line i) give ≡ unknown_line
  unfolding numbers_then
  number-more h = rw (fields-next line i h) refl

  number-done : length line < i → numbers_then 0 (fields_from line i) give ≡ give []
  unfolding numbers_then
  number-done h = rw (fields-none line i h) refl

-- the ways out of reading the numbers after a letter
module _ (line : List ℕ) (from k : ℕ) (give : List ℕ → log.Line) {read : Option (ℕ × ℕ)}
    (e : read ≡ field_from line from) where
  pub first-other : read ≡ None → unknown_line ≡ numbers_then (suc k) (fields_from line from) give
  first-other f = sym (number-stop line from k give (sym e ∙ f))

  pub then-known : {v next : ℕ} {l : log.Line} → read ≡ Some (v, next)
      → l ≡ numbers_then k (fields_from line next) (λ vs. give (v ∷ vs))
      → l ≡ numbers_then (suc k) (fields_from line from) give
  then-known f h = h ∙ sym (number_step line from k give (sym e ∙ f))

pub too-many : (line : List ℕ) (i : ℕ) (give : List ℕ → log.Line) → i ≤ length line
    → unknown_line ≡ numbers_then 0 (fields_from line i) give
too-many line i give h = sym (number-more line i give h)

pub as-many : (line : List ℕ) (i : ℕ) (give : List ℕ → log.Line) → length line < i
    → give [] ≡ numbers_then 0 (fields_from line i) give
as-many line i give h = sym (number-done line i give h)

-- an order's number: 1, 0 or another
module _ (line : List ℕ) (i on_yes on_no v : ℕ) (h : length line < i) where
  pub one-yes : v ≡ 1
      → order_line on_yes ≡ numbers_then 0 (fields_from line i) (λ vs. order_of on_yes on_no (v ∷ vs))
  one-yes e = rw e (as-many line i (λ vs. order_of on_yes on_no (1 ∷ vs)) h)

  pub one-no : v ≡ 0 → order_line on_no ≡ numbers_then 0 (fields_from line i) (λ vs. order_of on_yes on_no (v ∷ vs))
  one-no e = rw e (as-many line i (λ vs. order_of on_yes on_no (0 ∷ vs)) h)

  pub one-neither : (v ≡ 1 → ⊥) → (v ≡ 0 → ⊥)
      → unknown_line ≡ numbers_then 0 (fields_from line i) (λ vs. order_of on_yes on_no (v ∷ vs))
  one-neither one none =
      sym (simp (lt-leb v 1 over)) ∙ as-many line i (λ vs. order_of on_yes on_no (v ∷ vs)) h
    where
      over : 1 < v
      over = by-le v 1 (λ e. by-le v 0 (λ z. absurd (none (omega arith))) (λ z. absurd (one (omega arith)))) (λ e. e)
