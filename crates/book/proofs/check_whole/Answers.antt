-- `book::check_whole` meets its contract.
-- Assumes nothing.
use Prim.Native.Nat.{ℕ}
use mathlib.Core.Path.{◌≡◌, ◌∙◌}
use mathlib.Core.List.{List}
use native.Mathlib.Omega.{arith}
use lib.ListN.{length}
use Rattle.std.specs.Prelude.{Option}
use Rattle.rules.specs.Refusals.{Answer, refused, given, broken_book}
use Rattle.rules.specs.Numbers.{numbers_of}
use Rattle.rules.specs.Book.{check_book, sound, broken_at, on_sound}
use Rattle.rules.proofs.Numbers.{numbers-low}
use Rattle.rules.proofs.Walks.{place-ends, place-broken}
use Rattle.rules.proofs.Steps.{place-all, book-long, book-is, after-end, at-end, at-broken, at-short}
use Rattle.book.proofs.Loops.{ends-of, broken-of, short-of}
use Rattle.book.proofs.check_whole.Goals as goal

-- 12 first
by-broken : (s : List ℕ) (x : Answer (Option ℕ)) {byte : ℕ} → check_book s ≡ broken_at byte
    → refused broken_book byte ≡ on_sound (check_book s) x
by-broken s x q = rw q

by-sound : (s : List ℕ) {p held : Option ℕ} → check_book s ≡ sound → held ≡ p
    → given held ≡ on_sound (check_book s) (given p)
by-sound s q h = rw (q, h)

pub returns-then-len-gt-LARGEST_BOOK : goal.returns-then-len-gt-LARGEST_BOOK
returns-then-len-gt-LARGEST_BOOK c = rw c.broken_at.ensures (by-broken _ _ (book-long c.args.book.now (omega arith)))

pub overflow_mul-whole : goal.overflow_mul-whole
overflow_mul-whole c =
    let s = c.args.book.now in
    let q = (ends-of c.check_sections.ensures c.in-Ok.is).0 in
    omega (arith, place-ends _ _ q, place-all (length s) (numbers_of s), numbers-low s)

pub overflow_mul-p : goal.overflow_mul-p
overflow_mul-p c =
    let s = c.args.book.now in
    let q = broken-of c.check_sections.ensures (rw c.in-Err-Broken.field-0-is at c.in-Err-Broken.is) in
    omega (arith, place-broken _ _ q, place-all (length s) (numbers_of s), numbers-low s)

pub returns-in-Ok : goal.returns-in-Ok
returns-in-Ok c =
    let s = c.args.book.now in
    let q = (ends-of c.check_sections.ensures c.in-Ok.is).0 in
    rw c.broken_at-in-Ok.ensures (by-broken s _ (book-is s _ (omega arith) q ∙ after-end (length s) _ (omega arith)))

pub returns-in-Ok-2 : goal.returns-in-Ok-2
returns-in-Ok-2 c =
    let s = c.args.book.now in
    let q = ends-of c.check_sections.ensures c.in-Ok.is in
    by-sound s (book-is s _ (omega arith) q.0 ∙ at-end (length s) _ (omega arith)) q.1

pub returns-in-Err-Broken : goal.returns-in-Err-Broken
returns-in-Err-Broken c =
    let s = c.args.book.now in
    let q = broken-of c.check_sections.ensures (rw c.in-Err-Broken.field-0-is at c.in-Err-Broken.is) in
    rw c.broken_at-in-Err-Broken.ensures (by-broken s _ (book-is s _ (omega arith) q ∙ at-broken (length s) _))

pub returns-in-Err-Short : goal.returns-in-Err-Short
returns-in-Err-Short c =
    let s = c.args.book.now in
    let q = short-of c.check_sections.ensures (rw c.in-Err-Short.field-0-is at c.in-Err-Short.is) in
    rw c.broken_at-in-Err-Short.ensures (by-broken s _ (book-is s _ (omega arith) q ∙ at-short (length s)))
