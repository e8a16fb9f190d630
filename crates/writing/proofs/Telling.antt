-- What write_book answers, by what its check found: a law for each exit.
-- Assumes nothing.
use Prim.Native.Nat.{ℕ, ◌+◌, ◌*◌, ◌≤◌, ◌<◌}
use mathlib.Core.Path.{◌≡◌, refl, ap, sym, ◌∙◌}
use mathlib.Core.Bool.{or-true}
use mathlib.Core.List.{List, ◌++◌}
use native.Mathlib.Omega.{arith}
use borrow.Author.Tests.{lt-ltb, le-ltb}
use lib.Dec.{ltb}
use Rattle.std.proofs.Common.{Ok, Err, inl, inr, ◌⊎◌}
use lib.ListN.{length, drop}
use lib.Seq.{sets, sets-eq}
use Rattle.rules.specs.Refusals.{refused, given}
use Rattle.rules.specs.Book.{kinds, largest_book}
use Rattle.rules.specs.Writing.{Rows, laid_lists, book_of, write_book}
use Rattle.rules.proofs.Numbers.{bytes-twice}
use Rattle.writing.specs.Paper.{ListsChecked, BookLeft}
use Rattle.refusals.specs.Paper.{number_of, at_start}
use Rattle.refusals.specs.declared.Reason.TheVariants as reasons
use Rattle.refusals.specs.declared.Refusal.{Refusal}

module _ (rows : ℕ → Rows) (out : List ℕ) where
  -- a refusal leaves the buffer as it was
  refuses : (r : Refusal) → write_book rows (length out) ≡ refused (number_of r.reason) r.place
      → BookLeft (write_book rows (length out)) (Err r) out out
  refuses r e = rw e (record { told = refl; left = refl })

  pub tell-bad : (p : ℕ) → ListsChecked rows (Err p)
      → BookLeft (write_book rows (length out)) (Err (record { reason = reasons.BrokenBook; place = p })) out out
  unfolding write_book
  tell-bad p e = refuses (record { reason = reasons.BrokenBook; place = p }) (rw e)

  module _ (size : ℕ) (right : ListsChecked rows (Ok size)) where
    long : length (book_of rows) ≡ 2 * size
    long = omega (arith, bytes-twice (laid_lists kinds 0 rows), right.1)

    -- a book over the largest is refused by 11, however long the buffer is ..
    pub tell-long : 32768 < 2 * size
        → BookLeft (write_book rows (length out)) (Err (at_start reasons.BufferShort)) out out
    unfolding write_book
    tell-long h =
        refuses (at_start reasons.BufferShort)
        (rw (
          right.0,
          lt-ltb largest_book (length (book_of rows)) (omega (arith, long)),
          or-true (ltb (length out) (length (book_of rows))),
        ))

    -- .. and so is one for which the buffer is short
    pub tell-short : (length out < 2 * size) ⊎ ((2 * size ≤ length out) × (32768 < 2 * size))
        → BookLeft (write_book rows (length out)) (Err (at_start reasons.BufferShort)) out out
    unfolding write_book
    tell-short (inl h) =
        refuses (at_start reasons.BufferShort)
        (rw (right.0, lt-ltb (length out) (length (book_of rows)) (omega (arith, long))))
    tell-short (inr h) = tell-long h.1

    module _ (room : 2 * size ≤ length out) (fits : 2 * size ≤ 32768) where
      written : write_book rows (length out) ≡ given (book_of rows)
      unfolding write_book
      written =
          rw (
            right.0,
            le-ltb (length out) (length (book_of rows)) (omega (arith, long)),
            le-ltb largest_book (length (book_of rows)) (omega (arith, long)),
          )

      pub tell-written : {after : List ℕ} → after ≡ sets out 0 (book_of rows)
          → BookLeft (write_book rows (length out)) (Ok (2 * size)) out after
      tell-written e =
          let b = book_of rows in
          let z : 0 + length b ≡ length b = omega arith in
          rw written
          (record {
            told = ap given (sym long);
            left = e ∙ (sets-eq b out 0 (omega (arith, long)) ∙ ap (λ (n : ℕ). b ++ drop n out) z);
          })
