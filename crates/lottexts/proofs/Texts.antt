-- The places of a text: its bytes, and zeros behind them, after a write of more bytes too.
-- Assumes nothing.
use Prim.Native.Nat.{ℕ, ◌+◌, ◌-◌, ◌≤◌}
use native.Mathlib.Omega.{arith}
use mathlib.Core.Path.{◌≡◌, sym, ap, ◌∙◌}
use mathlib.Core.List.{List, ◌++◌}
use borrow.Rule.Slice.PartMut.{put_mid, same_len_mid}
use lib.ListN.{length, replicate, take, drop, length-drop}
use lib.Seq.{length-take-le, drop-drop}
use Rattle.std.proofs.lemmas.List.{drop-replicate}
use Rattle.std.proofs.lemmas.Slice.{take-put_mid, drop-put_mid}
use Rattle.lottexts.specs.declared.text.Text.{Text}
use Rattle.lottexts.specs.Texts.{text_of}

module _ {room : ℕ} (t : Text room) where
  pub text-length : length (text_of t) ≡ t.len
  text-length = length-take-le t.len t.bytes (omega (arith, t.fits, t.whole))

  module _ (more : List ℕ) {written : List ℕ} (e : written ≡ more)
      (h : length (text_of t) + length more ≤ room) where
    abbrev after : List ℕ
    after = put_mid t.len (t.len + length more - t.len) t.bytes written

    pub text-more : take (t.len + length more) after ≡ text_of t ++ more
    text-more =
        take-put_mid t.len _ t.bytes written (t.len + length more) (ap (λ (b : List ℕ). t.len + length b) (sym e))
        (omega (arith, t.fits, t.whole))
        ∙ ap (λ (b : List ℕ). text_of t ++ b) e

    pub whole-more : length after ≡ room
    whole-more =
        same_len_mid t.len _ t.bytes written
        (omega (
          arith,
          h,
          text-length,
          ap length e,
          length-take-le (t.len + length more - t.len) (drop t.len t.bytes) (omega (arith, h, rest, text-length)),
        ))
        ∙ t.whole
      where
        rest : length (drop t.len t.bytes) ≡ room - t.len
        rest = length-drop t.len t.bytes ∙ ap (λ (n : ℕ). n - t.len) t.whole

    pub unused-more : drop (t.len + length more) after ≡ replicate (room - (t.len + length more)) 0
    unused-more =
        drop-put_mid t.len _ t.bytes written (t.len + length more) (omega arith) (omega (arith, t.fits, t.whole))
        (omega (arith, ap length e))
        ∙ sym (drop-drop (length more) t.len t.bytes)
        ∙ ap (drop (length more)) t.unused
        ∙ drop-replicate (length more) (room - t.len) 0
        ∙ ap (λ (n : ℕ). replicate n 0) (omega arith)
