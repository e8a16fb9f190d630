-- `entry::is_under` meets its contract.
-- Assumes nothing.
use Prim.Native.Nat.{ℕ, ◌-◌, ◌≤◌, ◌<◌}
use mathlib.Core.Path.{◌≡◌, sym, ap, ◌∙◌}
use mathlib.Core.Bool.{Bool, false, ◌&&◌, and-false}
use mathlib.Core.List.{List, [], ◌∷◌}
use native.Mathlib.Omega.{arith}
use borrow.Author.Tests.{lt-ltb, le-ltb, eq-eqb, ne_eqb}
use lib.Dec.{eqb}
use lib.ListN.{length, get_or, take, drop, length-take, length-drop}
use Rattle.rules.specs.Numbers.{numbers_of}
use Rattle.rules.specs.Book.{kind_at, same_key, key_of}
use Rattle.rules.proofs.Bounded.{by-le}
use Rattle.rules.proofs.Steps.{same-short, under-two, under-three}
use Rattle.entry.specs.Paper.{key_paper, pair_is}
use Rattle.entry.specs.declared.Key.{Key}
use Rattle.entry.proofs.AnyKind.{key-three}
use Rattle.entry.proofs.is_under.Goals as goal

module _ (kind : ℕ) (key : Key) (ws : List ℕ) where
  abbrev Under : Bool → Type 0
  Under r = r ≡ same_key (key_of (kind_at kind) ws) (key_paper (kind_at kind) key)

  -- an entry whose key is not whole is under no key
  not-whole : (kind_at kind).key ≤ 3 → length ws < (kind_at kind).key → Under false
  not-whole few h =
      let n = (kind_at kind).key in
      let asked : List ℕ = key.severity ∷ key.letter ∷ key.column ∷ [] in
      sym (same-short (take n ws) (drop (3 - n) asked) (omega (arith, length-take n ws, length-drop (3 - n) asked)))

  by-two : kind ≡ 0 → Under (pair_is ws 0 key.letter key.column)
  by-two e =
      let two : (kind_at kind).key ≡ 2 = ap (λ (n : ℕ). (kind_at n).key) e in
      by-le 2 (length ws)
      (λ l. rw (lt-ltb 1 (length ws) (omega arith))
      (sym (under-two (kind_at kind) key.severity key.letter key.column 0 ws (omega arith) two)))
      (λ l. rw (le-ltb 1 (length ws) (omega arith)) (not-whole (omega arith) (omega arith)))

  by-three : (kind ≡ 0 → ⊥) → Under (eqb (get_or ws 0 0) key.severity && pair_is ws 1 key.letter key.column)
  by-three e =
      let three : (kind_at kind).key ≡ 3 = sym (key-three kind e) in
      by-le 3 (length ws)
      (λ l. rw (lt-ltb 2 (length ws) (omega arith))
      (sym (under-three (kind_at kind) key.severity key.letter key.column 0 ws (omega arith) three)))
      (λ l. rw (le-ltb 2 (length ws) (omega arith)) (and-false (eqb (get_or ws 0 0) key.severity) ∙ not-whole
      (omega arith) (omega arith)))

pub returns-then-kind-eq-REDUCED : goal.returns-then-kind-eq-REDUCED
returns-then-kind-eq-REDUCED c =
    let a = c.args in
    c.pair_is.ensures ∙ by-two a.kind a.key (numbers_of a.e.now) c.if-kind-eq-REDUCED.true

pub returns-then-number-key : goal.returns-then-number-key
returns-then-number-key c =
    let a = c.args in
    let ws = numbers_of a.e.now in
    let same = eq-eqb (get_or ws 0 0) a.key.severity (sym c.number.ensures ∙ c.if-number-key.true) in
    c.pair_is-then-number-key.ensures ∙ rw same at (by-three a.kind a.key ws c.if-kind-eq-REDUCED.false)

pub returns-else-number-key : goal.returns-else-number-key
returns-else-number-key c =
    let a = c.args in
    let ws = numbers_of a.e.now in
    let other = ne_eqb (get_or ws 0 0) a.key.severity (λ h. c.if-number-key.false (c.number.ensures ∙ h)) in
    ne_eqb c.number.result a.key.severity c.if-number-key.false
    ∙ rw other at (by-three a.kind a.key ws c.if-kind-eq-REDUCED.false)
