-- A book that is written, and an entry that is shown: the answer whose length is told, and that it has room.
-- Assumes nothing.
use Prim.Native.Nat.{ℕ, ◌≤◌}
use mathlib.Core.Path.{◌≡◌, sym}
use mathlib.Core.List.{List}
use native.Mathlib.Omega.{arith}
use lib.ListN.{length}
use Rattle.rules.specs.Refusals.{Answer, refused, given, and_then}
use Rattle.rules.specs.Writing.{Rows, write_book}
use Rattle.rules.proofs.Answers.{refused-then, then-given, given-one}
use Rattle.rules.proofs.Demands.Writing as demand

-- a refusal is that of the answer
pub refused-whole : (a : Answer (List ℕ)) {n p : ℕ} → refused n p ≡ and_then a (λ x. given (length x)) → refused n p ≡ a
refused-whole a {n} {p} e = sym (refused-then a length n p (sym e))

-- a position and a book's length have room
module _ (rows : ℕ → Rows) (room : ℕ) where
  pub position-fits : {n p : ℕ} → refused n p ≡ and_then (write_book rows room) (λ x. given (length x)) → p ≤ 32768
  position-fits {n} {p} e =
      omega (arith, demand.write-near rows room n p (sym (refused-whole (write_book rows room) e)))

  pub length-fits : {m : ℕ} → given m ≡ and_then (write_book rows room) (λ x. given (length x)) → m ≤ 32768
  length-fits {m} e =
      let g = then-given (write_book rows room) (λ x. given (length x)) m (sym e) in
      omega (arith, given-one g.2, ((demand.write-given rows room g.0).0 g.1).not-long)
