-- Seven stages that are filled from the front with numbers of an entry, and are 0 past them.
-- Assumes nothing.
use Prim.Native.Nat.{ℕ, zero, suc, ◌+◌, ◌-◌, ◌*◌, ◌≤◌, ◌<◌}
use mathlib.Core.Path.{◌≡◌, refl, ap, sym, ◌∙◌}
use mathlib.Core.List.{List, [], ◌∷◌, ◌++◌, map, append_assoc}
use native.Mathlib.Omega.{arith}
use borrow.Author.Tests.{le-leb}
use native.Mathlib.Numerals.{add-one}
use lib.ListN.{length, get_or, take, set, replicate}
use Rattle.std.proofs.lemmas.List.{map-set}
use lib.Seq.{get_or-take, set-append_seam}
use Rattle.rules.specs.Book.{staged, every, seven}
use Rattle.rules.specs.Layout.{entry_of}
use Rattle.rules.proofs.HeldStaged.{every-length}
use Rattle.entry.specs.Paper.{staged_paper, staged_read}
use Rattle.entry.specs.declared.Stage.{Stage}

-- one more number behind the first i
every-more : (p s i : ℕ) (ws : List ℕ) → every p s (suc i) ws ≡ every p s i ws ++ get_or ws (p + s * i) 0 ∷ []
unfolding every
every-more p s zero ws = let z : p + s * 0 ≡ p = omega arith in rw z
every-more p s (suc i) ws =
    let z : p + s * suc i ≡ p + s + s * i = omega arith in
    rw z (ap (λ (l : List ℕ). get_or ws p 0 ∷ l) (every-more (p + s) s i ws))

seven-next : (p s i : ℕ) (ws : List ℕ) (x : ℕ) → i < 7 → x ≡ get_or ws (p + s * i) 0
    → set (seven (every p s i ws)) i x ≡ seven (every p s (i + 1) ws)
seven-next p s i ws x h q =
    let xs = every p s i ws in
    let zeros : List ℕ = replicate (6 - i) 0 in
    let n : length xs ≡ i = every-length p s i ws in
    let m : length (every p s (suc i) ws) ≡ suc i = every-length p s (suc i) ws in
    let less : 7 - length xs ≡ suc (6 - i) = omega arith in
    let left : 7 - length (every p s (suc i) ws) ≡ 6 - i = omega arith in
    let write : set (xs ++ 0 ∷ zeros) i x ≡ xs ++ x ∷ zeros =
    ap (λ (k : ℕ). set (xs ++ 0 ∷ zeros) k x) (sym n) ∙ set-append_seam xs 0 zeros x in
    ap (λ (k : ℕ). set (xs ++ replicate k 0) i x) less ∙ write ∙ ap (λ (y : ℕ). xs ++ y ∷ zeros) q
    ∙ sym (append_assoc xs (get_or ws (p + s * i) 0 ∷ []) zeros)
    ∙ ap (λ (l : List ℕ). l ++ zeros) (sym (every-more p s i ws))
    ∙ ap (λ (k : ℕ). every p s (suc i) ws ++ replicate k 0) (sym left)
    ∙ ap (λ (k : ℕ). seven (every p s k ws)) (sym (add-one i))

-- the first i of the m stages are read
pub record StagesRead (ws : List ℕ) (m i : ℕ) (stages : List Stage) : Type 0 where
  pub sizes : map (λ (s : Stage). s.size) stages ≡ seven (every 4 1 i ws)
  pub acs : map (λ (s : Stage). s.ac) stages ≡ seven (every (4 + m) 2 i ws)
  pub res : map (λ (s : Stage). s.re) stages ≡ seven (every (5 + m) 2 i ws)

pub stages-none : {ws : List ℕ} {m : ℕ} (s : Stage) → s.size ≡ 0 → s.ac ≡ 0 → s.re ≡ 0
    → StagesRead ws m 0 (replicate 7 s)
unfolding every
stages-none s n a r =
    record {
      sizes = ap (λ (x : ℕ). replicate 7 x) n;
      acs = ap (λ (x : ℕ). replicate 7 x) a;
      res = ap (λ (x : ℕ). replicate 7 x) r;
    }

pub stages-next : {ws : List ℕ} {m i : ℕ} {stages : List Stage} (s : Stage) → StagesRead ws m i stages → i < 7
    → s.size ≡ get_or ws (4 + i) 0 → s.ac ≡ get_or ws (4 + m + 2 * i) 0 → s.re ≡ get_or ws (5 + m + 2 * i) 0
    → StagesRead ws m (i + 1) (set stages i s)
stages-next {ws} {m} {i} {stages} s r h n a e =
    let one : 4 + i ≡ 4 + 1 * i = omega arith in
    record {
      sizes =
          map-set _ stages i s ∙ ap (λ (l : List ℕ). set l i s.size) r.sizes
          ∙ seven-next 4 1 i ws s.size h (n ∙ ap (λ (k : ℕ). get_or ws k 0) one);
      acs =
          map-set _ stages i s ∙ ap (λ (l : List ℕ). set l i s.ac) r.acs ∙ seven-next (4 + m) 2 i ws s.ac h a;
      res =
          map-set _ stages i s ∙ ap (λ (l : List ℕ). set l i s.re) r.res ∙ seven-next (5 + m) 2 i ws s.re h e;
    }

-- numbers of an entry are those of the stretch that it begins, where they lie within it
pub every-taken : (p s n size : ℕ) (ws : List ℕ) → ((i : ℕ) → i < n → p + s * i < size)
    → every p s n ws ≡ every p s n (take size ws)
unfolding every
every-taken p s zero size ws h = refl
every-taken p s (suc n) size ws h =
    let first : p < size = omega (arith, h 0 (omega arith)) in
    let later : every (p + s) s n ws ≡ every (p + s) s n (take size ws) =
    every-taken (p + s) s n size ws
    (λ i l. let z : s * suc i ≡ s * i + s = omega arith in omega (arith, h (suc i) (omega arith))) in
    rw (get_or-take size ws p 0 first, later)

-- a staged entry, read from the stretch that it begins
module _ (ws : List ℕ) where
  abbrev m : ℕ
  m = get_or ws 3 0

  stages-are : get_or (entry_of staged ws) 3 0 ≡ m
  stages-are = get_or-take (4 + 3 * m) ws 3 0 (omega arith)

  pub staged-few : {i : ℕ} {stages : List Stage} → StagesRead ws m i stages → i ≡ m → m ≤ 7
      → staged_paper (record { count = m; stages = stages }) ≡ staged_read (entry_of staged ws)
  staged-few r e h =
      let size = 4 + 3 * m in
      rw (
        r.sizes,
        r.acs,
        r.res,
        e,
        stages-are,
        le-leb m 7 h,
        ← every-taken 4 1 m size ws (λ i l. omega arith),
        ← every-taken (4 + m) 2 m size ws (λ i l. omega arith),
        ← every-taken (5 + m) 2 m size ws (λ i l. omega arith),
      )
