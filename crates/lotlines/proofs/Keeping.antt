-- The unfinished line with more bytes, and what it says.
-- Assumes nothing.
use Prim.Native.Nat.{ℕ, ◌+◌, ◌<◌, ◌≤◌}
use native.Mathlib.Omega.{arith}
use mathlib.Core.Path.{◌≡◌, refl, sym, ap, ◌∙◌}
use mathlib.Core.Bool.{cond}
use mathlib.Core.List.{List, [], ◌∷◌, ◌++◌, append-nil, append_assoc}
use lib.ListN.{length, length-append}
use lib.Dec.{leb}
use borrow.Author.Tests.{lt-ltb, le-ltb, le-leb, lt-leb}
use Rattle.std.proofs.Common.{Option, Some, None}
use Rattle.std.proofs.lemmas.List.{nil_from_length}
use Rattle.rules.specs.History.{Work}
use Rattle.rules.specs.Log.{split_at, space, line_of}
use Rattle.rules.specs.Feeding.{Begun, so_far, too_long, longest_line, one_more, line_begun}
use Rattle.rules.proofs.Bounded.{by-le}
use Rattle.rules.proofs.Feeding.{extended}
use Rattle.rules.proofs.LineForms.{long-unknown}
use Rattle.lottexts.specs.declared.text.Text.{Text}
use Rattle.lottexts.specs.Texts.{text_of}
use Rattle.lottexts.proofs.Texts.{text-length}
use Rattle.lotlines.specs.Paper.{begun_paper, grown}

abbrev begun_by : List ℕ → Begun
begun_by l = cond (leb (length l) longest_line) (so_far l) too_long

with-more : (l : List ℕ) (b : ℕ) → one_more (begun_by l) b ≡ begun_by (l ++ (b ∷ []))
with-more l b =
    by-le (length l + 1) longest_line room (λ h. by-le (length l) longest_line (full h) over)
  where
    longer : length (l ++ (b ∷ [])) ≡ length l + 1
    longer = length-append l (b ∷ [])

    room : length l + 1 ≤ longest_line → one_more (begun_by l) b ≡ begun_by (l ++ (b ∷ []))
    room h =
        simp (
          le-leb (length l) longest_line (omega arith),
          lt-ltb (length l) longest_line (omega arith),
          le-leb (length (l ++ (b ∷ []))) longest_line (omega (arith, longer)),
        )

    full : longest_line < length l + 1 → length l ≤ longest_line → one_more (begun_by l) b ≡ begun_by (l ++ (b ∷ []))
    full g h =
        simp (
          le-leb (length l) longest_line h,
          le-ltb (length l) longest_line (omega arith),
          lt-leb (length (l ++ (b ∷ []))) longest_line (omega (arith, longer)),
        )

    over : longest_line < length l → one_more (begun_by l) b ≡ begun_by (l ++ (b ∷ []))
    over h =
        simp (
          lt-leb (length l) longest_line h,
          lt-leb (length (l ++ (b ∷ []))) longest_line (omega (arith, longer)),
        )

extended-by : (l bytes : List ℕ) → extended (begun_by l) bytes ≡ begun_by (l ++ bytes)
extended-by l [] = ap begun_by (sym (append-nil l))
extended-by l (b ∷ bs) =
    ap (λ (z : Begun). extended z bs) (with-more l b)
    ∙ extended-by (l ++ (b ∷ [])) bs
    ∙ ap begun_by (append_assoc l (b ∷ []) bs)

extended-long : (bytes : List ℕ) → extended too_long bytes ≡ too_long
extended-long [] = refl
extended-long (b ∷ bs) = extended-long bs

pub grown-begun : (begun : Option (Text longest_line)) (bytes : List ℕ)
    → grown (begun_paper begun) bytes ≡ extended (begun_paper begun) bytes
grown-begun (Some line) bytes =
    ap (λ (n : ℕ). cond (leb n longest_line) (so_far (text_of line ++ bytes)) too_long)
    (sym (length-append (text_of line) bytes))
    ∙ sym (extended-by (text_of line) bytes)
    ∙ ap (λ (z : Begun). extended z bytes) kept
  where
    kept : begun_by (text_of line) ≡ so_far (text_of line)
    kept = rw (le-leb (length (text_of line)) longest_line (omega (arith, line.fits, text-length line))) refl
grown-begun None bytes = sym (extended-long bytes)

-- bytes with nothing before them are all of the line; a line that is too long says nothing
pub alone-with : (w : Work) (begun : Text longest_line) (bytes : List ℕ) → length (text_of begun) ≡ 0
    → line_of w (split_at space bytes) ≡ line_begun w (grown (begun_paper (Some begun)) bytes)
alone-with w begun bytes z =
    rw (nil_from_length _ z) (go (length {A = ℕ} [] + length bytes) (omega arith))
  where
    go : (n : ℕ) → n ≡ length bytes
        → line_of w (split_at space bytes) ≡ line_begun w (cond (leb n longest_line) (so_far bytes) too_long)
    go n e =
        by-le n longest_line (λ h. simp (le-leb n longest_line h))
        (λ h. simp (lt-leb n longest_line h) (long-unknown w bytes (omega (arith, e))))
