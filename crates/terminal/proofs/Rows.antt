-- A staged plan's row, as the code's stores leave it.
-- Assumes nothing.
use Prim.Native.Nat.{ℕ, suc, ◌+◌, ◌*◌, ◌/◌, ◌%◌, ◌≤◌, ◌<◌}
use mathlib.Core.Path.{◌≡◌, refl, sym, ap, ◌∙◌}
use mathlib.Core.List.{List, [], ◌∷◌, ◌++◌, map}
use native.Mathlib.Omega.{arith}
use borrow.Rule.Slice.PartMut.{put_mid}
use lib.ListN.{length, get_or, set, take, drop, length-set, length-append, drop_of_length-le}
use lib.Seq.{sets, sets-eq, length-sets, length-take-le, drop-cons}
use Rattle.std.proofs.lemmas.Slice.{take-put_mid}
use Rattle.std.proofs.lemmas.List.{append-nil, append_assoc, set-append_left, take-append-drop}
use Rattle.std.proofs.lemmas.List.{drop-drop, take_all, take_more}
use Rattle.rules.specs.Numbers.{number_bytes}
use Rattle.rules.specs.Terminal.{row_length}
use Rattle.rules.proofs.Numbers.{bytes-twice, bytes-append}
use Rattle.rules.proofs.Stored.{sets-append}

-- One more number of a part of a row is stored ..
pub stored-next : (part ns new : List ℕ) (i k : ℕ) → i < length ns → get_or ns i 0 < 65536 → 2 * i + 2 ≤ length part
    → new ≡ (get_or ns i 0 % 256) ∷ (get_or ns i 0 / 256 % 256) ∷ []
    → take (2 * i) part ≡ number_bytes (take i ns)
    → take (2 * (i + 1)) (put_mid (2 * i) k part new) ≡ number_bytes (take (i + 1) ns)
unfolding number_bytes
stored-next part ns new i k h fits room e laid =
    let high : get_or ns i 0 / 256 % 256 ≡ get_or ns i 0 / 256 = omega arith in
    take-put_mid (2 * i) k part new _ (rw e (omega arith)) (omega arith)
    ∙ rw (e, laid, high, take_more ns i 0 h, bytes-append (take i ns) (get_or ns i 0 ∷ []))

-- .. and then all of them are.
pub stored-all : (part ns : List ℕ) (i : ℕ) → length part ≡ 2 * i → length ns ≡ i
    → take (2 * i) part ≡ number_bytes (take i ns) → part ≡ number_bytes ns
stored-all part ns i h l laid =
    sym (take_all (2 * i) part (omega arith)) ∙ laid ∙ ap number_bytes (take_all i ns (omega arith))

-- an array that holds what a function gives of each element of another
pub map-of : {A : Type 0} (f : A → ℕ) (xs : List A) (ys : List ℕ) → length ys ≡ length xs
    → ((i : ℕ) (d : A) → i < length xs → get_or ys i 0 ≡ f (get_or xs i d)) → ys ≡ map f xs
map-of f [] [] l h = refl
map-of f [] (y ∷ ys) l h = absurd (omega arith)
map-of f (x ∷ xs) [] l h = absurd (omega arith)
map-of f (x ∷ xs) (y ∷ ys) l h =
    let first : y ≡ f x = h 0 x (omega arith) in
    rw (first, map-of f xs ys (omega arith) (λ i d b. h (suc i) d (omega arith)))

-- The bytes of three lists, one behind the other, are those of all.
pub parts-whole : (s a r : List ℕ) {rest past : List ℕ} → rest ≡ past
    → number_bytes s ++ (number_bytes a ++ (number_bytes r ++ rest)) ≡ number_bytes (s ++ (a ++ r)) ++ past
parts-whole s a r e =
    rw (
      e,
      bytes-append s (a ++ r),
      bytes-append a r,
      append_assoc (number_bytes s) (number_bytes a ++ number_bytes r) _,
      append_assoc (number_bytes a) (number_bytes r) _,
    )

-- Two bytes that are copied at once are two stores.
two-stored : (part new : List ℕ) (at k x y : ℕ) → k ≡ 2 → at + 2 ≤ length part → new ≡ x ∷ y ∷ []
    → put_mid at k part new ≡ set (set part at x) (at + 1) y
two-stored part new at k x y two room e =
    let next : at + 1 ≡ suc at = omega arith in
    rw (two, e, next, drop-drop 2 at part)
    (sym (sets-eq (x ∷ y ∷ []) part at room ∙ append_assoc (take at part) (x ∷ y ∷ []) _))

-- What is still to be stored of a list, from a place of the row on: past one more number, ..
module _ (row ns : List ℕ) (from : ℕ) where
  pub seven-next : (row' : List ℕ) (i : ℕ) → i < length ns
      → row' ≡ set (set row (from + 2 * i) (get_or ns i 0 % 256)) (from + 2 * i + 1) (get_or ns i 0 / 256)
      → (length row' ≡ length row)
      × (sets row' (from + 2 * (i + 1)) (number_bytes (drop (i + 1) ns))
      ≡ sets row (from + 2 * i) (number_bytes (drop i ns)))
  unfolding number_bytes
  seven-next row' i h e =
      let last : from + 2 * (i + 1) ≡ suc (suc (from + 2 * i)) = omega arith in
      let high : from + 2 * i + 1 ≡ suc (from + 2 * i) = omega arith in
      let more : i + 1 ≡ suc i = omega arith in (
        ap length e ∙ length-set (set row (from + 2 * i) _) (from + 2 * i + 1) _ ∙ length-set row (from + 2 * i) _,
        rw (e, last, high, more, drop-cons ns i 0 h),
      )

  -- .. and past the last one.
  pub seven-done : (start : List ℕ) (i : ℕ) → length ns ≤ i
      → sets row (from + 2 * i) (number_bytes (drop i ns)) ≡ sets start from (number_bytes ns)
      → row ≡ sets start from (number_bytes ns)
  unfolding number_bytes
  seven-done start i h e = sym (rw (drop_of_length-le ns h)) ∙ e

-- So with one more number of a part, whose two bytes are copied at once.
pub stored-on : (part ns new start : List ℕ) (i k : ℕ)
    → i < length ns → get_or ns i 0 < 65536 → k ≡ 2 → 2 * i + 2 ≤ length part
    → new ≡ (get_or ns i 0 % 256) ∷ (get_or ns i 0 / 256 % 256) ∷ []
    → sets part (0 + 2 * i) (number_bytes (drop i ns)) ≡ sets start 0 (number_bytes ns)
    → sets (put_mid (2 * i) k part new) (0 + 2 * (i + 1)) (number_bytes (drop (i + 1) ns))
    ≡ sets start 0 (number_bytes ns)
stored-on part ns new start i k h fits two room e laid =
    let high : get_or ns i 0 / 256 % 256 ≡ get_or ns i 0 / 256 = omega arith in
    let here : 0 + 2 * i ≡ 2 * i = omega arith in
    let stores = two-stored part new (2 * i) k _ _ two room (e ∙ rw high refl) in
    (seven-next part ns 0 (put_mid (2 * i) k part new) i h (rw here stores)).1 ∙ laid

-- Three lists of seven, stored one after another, make the row.
module _ (row s a r : List ℕ) (hs : length s ≡ 7) (ha : length a ≡ 7) (hr : length r ≡ 7) where
  abbrev whole : List ℕ
  whole = number_bytes (s ++ (a ++ r))

  parts : sets row 0 whole ≡ sets (sets (sets row 0 (number_bytes s)) 14 (number_bytes a)) 28 (number_bytes r)
  parts =
      let first : 0 + length (number_bytes s) ≡ 14 = omega (arith, bytes-twice s) in
      let second : 14 + length (number_bytes a) ≡ 28 = omega (arith, bytes-twice a) in
      let bytes : whole ≡ number_bytes s ++ (number_bytes a ++ number_bytes r) =
      sym (append-nil whole) ∙ sym (parts-whole s a r {rest = []} refl)
      ∙ ap (λ (l : List ℕ). number_bytes s ++ (number_bytes a ++ l)) (append-nil (number_bytes r)) in
      rw (
        bytes,
        sets-append row (number_bytes s) (number_bytes a ++ number_bytes r) 0,
        first,
        sets-append (sets row 0 (number_bytes s)) (number_bytes a) (number_bytes r) 14,
        second,
      )

  pub row-whole : (one two three : List ℕ) → row_length ≤ length row → one ≡ sets row 0 (number_bytes s)
      → two ≡ sets one 14 (number_bytes a) → three ≡ sets two 28 (number_bytes r) → three ≡ whole ++ drop row_length row
  row-whole one two three h e f g =
      let all : 0 + length whole ≡ row_length =
      omega (arith, bytes-twice (s ++ (a ++ r)), length-append s (a ++ r), length-append a r) in
      let stored : three ≡ sets (sets (sets row 0 (number_bytes s)) 14 (number_bytes a)) 28 (number_bytes r) =
      rw (← e, ← f) g in
      stored ∙ (sym parts ∙ (sets-eq whole row 0 (omega arith) ∙ ap (λ (k : ℕ). whole ++ drop k row) all))

-- Stores into the front of a row, ..
sets-before : (xs ys vs : List ℕ) (i : ℕ) → i + length vs ≤ length xs → sets (xs ++ ys) i vs ≡ sets xs i vs ++ ys
sets-before xs ys [] i h = refl
sets-before xs ys (v ∷ vs) i h =
    rw (set-append_left xs ys i v (omega arith))
    (sets-before (set xs i v) ys vs (suc i) (omega (arith, length-set xs i v)))

-- .. and past it.
sets-inside : (x : ℕ) (xs vs : List ℕ) (i : ℕ) → sets (x ∷ xs) (suc i) vs ≡ x ∷ sets xs i vs
sets-inside x xs [] i = refl
sets-inside x xs (v ∷ vs) i = sets-inside x (set xs i v) vs (suc i)

sets-past : (xs ys vs : List ℕ) (i n : ℕ) → n ≡ length xs + i → sets (xs ++ ys) n vs ≡ xs ++ sets ys i vs
sets-past [] ys vs i n e = let here : n ≡ i = omega arith in rw here refl
sets-past (x ∷ xs) ys vs i n e =
    let next : n ≡ suc (length xs + i) = omega arith in
    rw (next, sets-inside x (xs ++ ys) vs (length xs + i), sets-past xs ys vs i (length xs + i) refl) refl

-- So do stores into the three parts of a row, ..
module _ (sizes acs res past s a r : List ℕ) (ps : length sizes ≡ 14) (pa : length acs ≡ 14) (pr : length res ≡ 14)
    (hs : length s ≡ 7) (ha : length a ≡ 7) (hr : length r ≡ 7) where
  abbrev row : List ℕ
  row = sizes ++ (acs ++ (res ++ past))

  abbrev one : List ℕ
  one = sets sizes 0 (number_bytes s)

  abbrev two : List ℕ
  two = sets acs 0 (number_bytes a)

  long-one : length one ≡ 14
  long-one = length-sets sizes 0 (number_bytes s) ∙ ps

  long-two : length two ≡ 14
  long-two = length-sets acs 0 (number_bytes a) ∙ pa

  parts-stored : one ++ (two ++ (sets res 0 (number_bytes r) ++ past))
      ≡ sets (sets (sets row 0 (number_bytes s)) 14 (number_bytes a)) 28 (number_bytes r)
  parts-stored =
      rw (
        sets-before sizes (acs ++ (res ++ past)) (number_bytes s) 0 (omega (arith, bytes-twice s)),
        sets-past one (acs ++ (res ++ past)) (number_bytes a) 0 14 (omega (arith, long-one)),
        sets-before acs (res ++ past) (number_bytes a) 0 (omega (arith, bytes-twice a)),
        sets-past one (two ++ (res ++ past)) (number_bytes r) 14 28 (omega (arith, long-one)),
        sets-past two (res ++ past) (number_bytes r) 0 14 (omega (arith, long-two)),
        sets-before res past (number_bytes r) 0 (omega (arith, bytes-twice r)),
      )
      refl

  in-place : row_length ≤ length row → one ++ (two ++ (sets res 0 (number_bytes r) ++ past))
      ≡ number_bytes (s ++ (a ++ r)) ++ drop row_length row
  in-place long = parts-stored ∙ row-whole row s a r hs ha hr _ _ _ long refl refl refl

-- .. of one that is split twice.
pub row-stored : (row sizes rest acs last s a r : List ℕ) → row ≡ sizes ++ rest → rest ≡ acs ++ last
    → length sizes ≡ 14 → length acs ≡ 14 → row_length ≤ length row → length s ≡ 7 → length a ≡ 7 → length r ≡ 7
    → sets sizes 0 (number_bytes s)
    ++ (sets acs 0 (number_bytes a) ++ (sets (take 14 last) 0 (number_bytes r) ++ drop 14 last))
    ≡ number_bytes (s ++ (a ++ r)) ++ drop row_length row
row-stored row sizes rest acs last s a r e f ps pa long hs ha hr =
    let whole : row ≡ sizes ++ (acs ++ (take 14 last ++ drop 14 last)) =
    e ∙ rw (f, take-append-drop 14 last) refl in
    let third : length (take 14 last) ≡ 14 =
    length-take-le 14 last
    (omega (arith, ap length e, ap length f, length-append sizes rest, length-append acs last)) in
    rw whole (in-place sizes acs (take 14 last) (drop 14 last) s a r ps pa third hs ha hr (rw whole at long))
