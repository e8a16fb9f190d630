-- `entry::walk_entry` meets its contract.
-- Assumes nothing.
use Prim.Native.Nat.{ℕ}
use mathlib.Core.Path.{◌≡◌, sym, ap, ◌∙◌}
use mathlib.Core.Bool.{Bool, true, false}
use mathlib.Core.List.{List}
use Rattle.rules.specs.Book.{Kind, Walk, broken, kind_at, key_falls, entry, numbers_from, size_of}
use Rattle.entry.specs.Paper.{entry_read}
use Rattle.rules.proofs.Steps.{entry-falls, entry-rises}
use Rattle.entry.proofs.AnyKind.{None, last-kind}
use Rattle.entry.proofs.walk_entry.Goals as goal

-- an entry, whose key falls or does not
module _ (kind : ℕ) (before ws : List ℕ) (falls : Bool) (told : falls ≡ key_falls (kind_at kind) before ws) where
  fallen : falls ≡ true → broken 0 ≡ entry (kind_at kind) before ws
  fallen t = sym (entry-falls (kind_at kind) before ws (sym told ∙ t))

  -- its numbers, read with the number of its kind
  risen-as : (k : ℕ) (w : Walk) → falls ≡ false → kind_at kind ≡ kind_at k → w ≡ entry_read k ws
      → w ≡ entry (kind_at kind) before ws
  risen-as k w t e q =
      q ∙ ap (λ (k : Kind). numbers_from k ws (size_of k ws) 0) (sym e)
      ∙ sym (entry-rises (kind_at kind) before ws (sym told ∙ t))

  risen : (k : ℕ) (w : Walk) → falls ≡ false → kind ≡ k → w ≡ entry_read k ws → w ≡ entry (kind_at kind) before ws
  risen k w t e = risen-as k w t (ap kind_at e)

  risen-last : (w : Walk) → falls ≡ false → None 3 kind → w ≡ entry_read 3 ws → w ≡ entry (kind_at kind) before ws
  risen-last w t h = risen-as 3 w t (last-kind kind h)

pub returns-then-key_falls : goal.returns-then-key_falls
returns-then-key_falls c = search fallen

pub returns-in-0 : goal.returns-in-0
returns-in-0 c = search risen

pub returns-in-1 : goal.returns-in-1
returns-in-1 c = search risen

pub returns-in-2 : goal.returns-in-2
returns-in-2 c = search risen

pub returns-in_default : goal.returns-in_default
returns-in_default c = search risen-last
