-- The window's five bits are the last five original lots, the newest in the lowest bit.
-- Assumes nothing.
use Prim.Native.Nat.{◌+◌, ◌*◌, ◌/◌, ◌%◌, ◌≤◌}
use mathlib.Core.Path.{◌≡◌, refl, sym, ◌∙◌}
use mathlib.Core.List.{List, [], ◌∷◌}
use native.Mathlib.Omega.{arith}
use lib.ListN.{take}
use lib.Count.{ones, ones_step}
use Rattle.rules.specs.Severity.{Lot, add_three, add_two, score_zero, not_accepted, bad_bit, window_after}
use Rattle.rules.specs.Reading.{not_accepted_in, bits_of}

bad-bit : (l : Lot) → bad_bit l ≤ 1
bad-bit add_three = omega arith
bad-bit add_two = omega arith
bad-bit score_zero = omega arith
bad-bit not_accepted = omega arith

one-more : (l : Lot) (ls : List Lot) → not_accepted_in (l ∷ ls) ≡ bad_bit l + not_accepted_in ls
unfolding not_accepted_in
one-more add_three ls = omega arith
one-more add_two ls = omega arith
one-more score_zero ls = omega arith
one-more not_accepted ls = omega arith

-- the ones are the lots not accepted
pub ones-bits : (ls : List Lot) → ones (bits_of ls) ≡ not_accepted_in ls
unfolding bits_of not_accepted_in ones
ones-bits [] = refl
ones-bits (l ∷ ls) =
    let h : (2 * bits_of ls + bad_bit l) % 2 ≡ bad_bit l = omega (arith, bad-bit l) in
    let d : (2 * bits_of ls + bad_bit l) / 2 ≡ bits_of ls = omega (arith, bad-bit l) in
    ones_step (2 * bits_of ls + bad_bit l) ∙ rw (h, d, ones-bits ls) (sym (one-more l ls))

-- one lot more: the sixth falls out
pub window-bits : (l : Lot) (ls : List Lot) → window_after l (bits_of (take 5 ls)) ≡ bits_of (take 5 (l ∷ ls))
unfolding bits_of
window-bits l [] = omega (arith, bad-bit l)
window-bits l (a ∷ []) = omega (arith, bad-bit l, bad-bit a)
window-bits l (a ∷ (b ∷ [])) = omega (arith, bad-bit l, bad-bit a, bad-bit b)
window-bits l (a ∷ (b ∷ (c ∷ []))) = omega (arith, bad-bit l, bad-bit a, bad-bit b, bad-bit c)
window-bits l (a ∷ (b ∷ (c ∷ (d ∷ [])))) = omega (arith, bad-bit l, bad-bit a, bad-bit b, bad-bit c, bad-bit d)
window-bits l (a ∷ (b ∷ (c ∷ (d ∷ (e ∷ ls))))) =
    omega (arith, bad-bit l, bad-bit a, bad-bit b, bad-bit c, bad-bit d, bad-bit e)
