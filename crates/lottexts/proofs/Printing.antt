-- The runs of bytes that a line is made of are the line.
-- Assumes nothing.
use Prim.Native.Nat.{ℕ, ◌^◌, ◌<◌}
use native.Mathlib.Omega.{arith}
use mathlib.Core.Path.{◌≡◌, refl, sym, ◌∙◌}
use mathlib.Core.Bool.{Bool, true, false, cond}
use lib.ListN.{get_or}
use borrow.Author.Tests.{lt-ltb, le-ltb}
use mathlib.Core.List.{List, [], ◌∷◌, ◌++◌, append-nil, append_assoc}
use Rattle.std.specs.Fmt as std
use Rattle.std.proofs.lemmas.Fmt.{decimal_from_prepends, length-decimal-le}
use Rattle.rules.specs.Ascii.{ascii}
use Rattle.rules.specs.Codes.{letter_names}
use Rattle.rules.specs.Single.{Plan}
use Rattle.rules.specs.Log.{digits_from, decimal, space, newline, cut_mark, size_text, printed, refused_line}
use Rattle.rules.specs.Log.{order_printed, lot_printed}
use Rattle.lottexts.specs.Printing.{severity_byte, after_text}

-- the library prints a number as the rules do
pub same-decimal : (n : ℕ) → n < 2 ^ 64 → std.decimal n ≡ decimal n
unfolding digits_from
same-decimal n h =
    sym (append-nil (std.decimal n))
    ∙ sym
    (decimal_from_prepends digits_from
    (record {
      one = λ k m acc l. simp (lt-ltb m 10 l);
      more = λ k m acc l. simp (le-ltb m 10 l);
    })
    20 n [] h (length-decimal-le 20 n (omega arith) (omega arith) h))

-- the size, cut or not
pub cut-text : (p : Plan) → p.cut ≡ true → decimal p.n ++ cut_mark ≡ size_text p
cut-text p e = rw e refl

pub uncut-text : (p : Plan) → p.cut ≡ false → decimal p.n ≡ size_text p
uncut-text p e = rw e (sym (append-nil (decimal p.n)))

-- lines as the runs that are put one after another
pub refused-text : (line number : ℕ)
    → ((decimal line ++ ascii " refused ") ++ decimal number) ++ (newline ∷ []) ≡ refused_line line number
unfolding printed
refused-text line number = simp append_assoc

pub order-text : (line severity score : ℕ)
    → (decimal line ++ ascii " order ") ++ after_text severity score ≡ order_printed line severity score
unfolding printed
order-text line severity score = simp append_assoc

pub lot-text : (line used : ℕ) (plan : Plan) (accepted : Bool) (severity score : ℕ)
    → ((((decimal line
    ++ (space ∷ severity_byte used ∷ space ∷ get_or letter_names plan.letter 0 ∷ space ∷ []))
    ++ size_text plan)
    ++ (space ∷ []))
    ++ decimal plan.ac)
    ++ cond accepted (ascii " accept ") (ascii " reject ")
    ++ after_text severity score
    ≡ lot_printed line used plan accepted severity score
unfolding printed
lot-text line used plan accepted severity score = go accepted
  where
    front : List ℕ
    front = decimal line ++ (space ∷ severity_byte used ∷ space ∷ get_or letter_names plan.letter 0 ∷ space ∷ [])

    go : (t : Bool)
        → (((front ++ size_text plan) ++ (space ∷ [])) ++ decimal plan.ac)
        ++ cond t (ascii " accept ") (ascii " reject ")
        ++ after_text severity score
        ≡ lot_printed line used plan t severity score
    go true = simp append_assoc
    go false = simp append_assoc

pub ruleset texts = (same-decimal, cut-text, refused-text, order-text, append_assoc)
