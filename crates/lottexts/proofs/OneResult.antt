-- The promise of each printed line admits one result.
-- Assumes nothing.
use Prim.Native.Nat.{ℕ, ◌-◌, ◌≤◌}
use denote.Struct.Props.{≡_prop}
use mathlib.Core.HLevel.{is_prop→PathP}
use mathlib.Core.Path.{◌≡◌, sym, ap, ◌∙◌}
use mathlib.Core.List.{List, ◌++◌}
use lib.ListN.{length, replicate, drop, take-append-drop}
use Rattle.std.specs.Coded.{coded_list, coded_ℕ, le_prop}
use Rattle.lottexts.specs.declared.text.Text.{Text}
use Rattle.lottexts.specs.Texts.{text_of}
use Rattle.lottexts.proofs.Texts.{text-length}

-- the places of a text are its bytes, and zeros
places : {room : ℕ} (t : Text room) → t.bytes ≡ text_of t ++ replicate (room - length (text_of t)) 0
places {room} t =
    sym (take-append-drop t.len t.bytes)
    ∙ ap (λ (l : List ℕ). text_of t ++ l)
    (t.unused ∙ ap (λ (n : ℕ). replicate (room - n) 0) (sym (text-length t)))

pub text-one : {text : List ℕ} {room : ℕ} (a b : Text room) → text_of a ≡ text → text_of b ≡ text → a ≡ b
text-one {room = room} a b e f =
    λ i. record {
      len = len i;
      bytes = bytes i;
      fits = is_prop→PathP (λ i. len i ≤ room) (λ i. le_prop) a.fits b.fits i;
      whole = is_prop→PathP (λ i. length (bytes i) ≡ room) (λ i. ≡_prop coded_ℕ _ _) a.whole b.whole i;
      unused =
          is_prop→PathP (λ i. drop (len i) (bytes i) ≡ replicate (room - len i) 0)
          (λ i. ≡_prop (coded_list coded_ℕ) _ _) a.unused b.unused i;
    }
  where
    same : text_of a ≡ text_of b
    same = e ∙ sym f

    len : a.len ≡ b.len
    len = sym (text-length a) ∙ ap length same ∙ text-length b

    bytes : a.bytes ≡ b.bytes
    bytes =
        places a
        ∙ ap (λ (l : List ℕ). l ++ replicate (room - length l) 0) same
        ∙ sym (places b)

-- the same of a text put behind what stands
pub puts-one : {room : ℕ} (start text : List ℕ) (a b : Text room) → text_of a ≡ start ++ text
    → text_of b ≡ start ++ text → a ≡ b
puts-one start text a b e f = text-one a b e f
