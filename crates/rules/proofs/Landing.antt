-- Where the arrows of document 01 end: at the letter that Straight names. One test, computed once over the letters A to
-- R, all columns and both tables, says that each arrow points to that letter; where each letter lands follows from it.
-- Assumes nothing.
use Prim.Native.Nat.{ℕ, zero, suc, ◌+◌, ◌-◌, ◌≤◌, ◌<◌}
use mathlib.Core.Path.{◌≡◌, refl, sym, ap, subst, ◌∙◌}
use mathlib.Core.Bool.{Bool, true, false, cond, ◌&&◌}
use native.Mathlib.Omega.{arith}
use lib.Dec.{T, leb, leb→le, eqb, eqb→eq, ltb, ltb→lt}
use borrow.Author.Tests.{le-leb, lt-leb, lt-ltb, le-ltb}
use Rattle.rules.specs.Codes.{tightened, letter_a, letter_r}
use Rattle.rules.specs.Single.{Box, down, up, number, box_at, ac_of, Landing, landed, landing, landing_of}
use Rattle.rules.specs.Printed.{Leads, there, downward, upward}
use Rattle.rules.specs.Straight.{zero_at, one_at, last_to_zero, last_number, straight}
use Rattle.rules.proofs.Bounded.{both_left, both-right, all, all-at₃, by-le, never}

module _ (severity column letter : ℕ) where
  -- a box with a number ends the arrows
  landing-number : (left ac : ℕ) → box_at severity column letter ≡ number ac
      → landing left severity column letter ≡ landed letter ac
  unfolding landing
  landing-number zero ac e = rw e
  landing-number (suc left) ac e = rw e

  -- an arrow goes to the next letter, with one arrow fewer left
  landing-down : (left : ℕ) → box_at severity column letter ≡ down
      → landing (suc left) severity column letter ≡ landing left severity column (letter + 1)
  unfolding landing
  landing-down left e = rw e

  landing-up : (left : ℕ) → box_at severity column letter ≡ up
      → landing (suc left) severity column letter ≡ landing left severity column (letter - 1)
  unfolding landing
  landing-up left e = rw e

-- A walk ends where the table's arrows lead, if it has so many left or more.
led-lands : (severity column letter k left : ℕ) (l : Landing) → Leads severity column letter k l → k ≤ left
    → landing left severity column letter ≡ l
led-lands severity column letter k left l (there _ ac e) h = landing-number severity column letter left ac e
led-lands severity column letter k zero l (downward _ j _ e r) h = absurd (omega arith)
led-lands severity column letter k (suc left) l (downward _ j _ e r) h =
    landing-down severity column letter left e ∙ led-lands severity column (letter + 1) j left l r (omega arith)
led-lands severity column letter k zero l (upward _ j _ e r) h = absurd (omega arith)
led-lands severity column letter k (suc left) l (upward _ j _ e r) h =
    landing-up severity column letter left e ∙ led-lands severity column (letter - 1) j left l r (omega arith)

led-to : (severity column letter k : ℕ) (l : Landing) → Leads severity column letter k l
    → box_at severity column l.letter ≡ number l.ac
led-to severity column letter k l (there _ ac e) = e
led-to severity column letter k l (downward _ j _ e r) = led-to severity column (letter + 1) j l r
led-to severity column letter k l (upward _ j _ e r) = led-to severity column (letter - 1) j l r

-- They lead to one landing, and are so many.
pub leads-one : (severity column letter k m : ℕ) (a b : Landing) → Leads severity column letter k a
    → Leads severity column letter m b → (k ≡ m) × (a ≡ b)
leads-one severity column letter k m a b (there _ ac e) (there _ bc f) =
    let n : ac ≡ bc = cc in (refl, ap (landed letter) n)
leads-one severity column letter k m a b (there _ ac e) (downward _ j l f r) = never cc
leads-one severity column letter k m a b (there _ ac e) (upward _ j l f r) = never cc
leads-one severity column letter k m a b (downward _ i h e q) (there _ bc f) = never cc
leads-one severity column letter k m a b (downward _ i h e q) (downward _ j l f r) =
    let o = leads-one severity column (letter + 1) i j a b q r in (ap suc o.0, o.1)
leads-one severity column letter k m a b (downward _ i h e q) (upward _ j l f r) = never cc
leads-one severity column letter k m a b (upward _ i h e q) (there _ bc f) = never cc
leads-one severity column letter k m a b (upward _ i h e q) (downward _ j l f r) = never cc
leads-one severity column letter k m a b (upward _ i h e q) (upward _ j l f r) =
    let o = leads-one severity column (letter - 1) i j a b q r in (ap suc o.0, o.1)

unfoldable pub holds_number : Box → Bool
holds_number down = false
holds_number up = false
holds_number (number ac) = true

-- an arrow points the way to the letter named, the letter that it leads to is sent there too, and the box of the letter
-- named holds a number; a box with a number sends its letter nowhere
sends : Box → ℕ → ℕ → (ℕ → ℕ) → Bool → Bool
sends down letter to next ends = ltb letter to && (eqb (next (letter + 1)) to && ends)
sends up letter to next ends = ltb to letter && (eqb (next (letter - 1)) to && ends)
sends (number ac) letter to next ends = eqb letter to

aim : ℕ → ℕ → ℕ → ℕ → Bool
aim severity column letter to =
    sends (box_at severity column letter) letter to (straight severity column)
    (holds_number (box_at severity column to))
    && (leb to (15 + severity) && leb to (letter + 15))

aims : ℕ → ℕ → ℕ → Bool
aims severity column letter = aim severity column letter (straight severity column letter)

aims-all : T (all 2 (λ severity. all 26 (λ column. all 16 (aims severity column))))
unfolding aims aim sends holds_number box_at straight
aims-all = tt

pub number-there : (b : Box) → T (holds_number b) → b ≡ number (ac_of b)
unfolding holds_number
number-there down t = absurd t
number-there up t = absurd t
number-there (number ac) t = refl

-- a letter that is sent on holds the arrow that points there, and the letter that it leads to is sent to the same
module _ (letter to : ℕ) (next : ℕ → ℕ) (ends : Bool) where
  sent-down : (b : Box) → T (sends b letter to next ends) → letter < to → (b ≡ down) × (next (letter + 1) ≡ to)
  unfolding sends
  sent-down down t h =
      (refl, eqb→eq _ _ (both_left (eqb (next (letter + 1)) to) ends (both-right (ltb letter to) _ t)))
  sent-down up t h = absurd (omega (arith, ltb→lt to letter (both_left (ltb to letter) _ t)))
  sent-down (number ac) t h = absurd (omega (arith, eqb→eq letter to t))

  sent-up : (b : Box) → T (sends b letter to next ends) → to < letter → (b ≡ up) × (next (letter - 1) ≡ to)
  unfolding sends
  sent-up down t h = absurd (omega (arith, ltb→lt letter to (both_left (ltb letter to) _ t)))
  sent-up up t h =
      (refl, eqb→eq _ _ (both_left (eqb (next (letter - 1)) to) ends (both-right (ltb to letter) _ t)))
  sent-up (number ac) t h = absurd (omega (arith, eqb→eq letter to t))

  -- an arrow up has a letter to go to
  sent-from : (b : Box) → T (sends b letter to next ends) → b ≡ up → to < letter
  unfolding sends
  sent-from down t e = never cc
  sent-from up t e = ltb→lt to letter (both_left (ltb to letter) _ t)
  sent-from (number ac) t e = never cc

  -- it ends at a number
  sent-there : (b : Box) → T (sends b letter to next ends) → (letter ≡ to → T (holds_number b) → T ends) → T ends
  unfolding sends holds_number
  sent-there down t f = both-right (eqb (next (letter + 1)) to) ends (both-right (ltb letter to) _ t)
  sent-there up t f = both-right (eqb (next (letter - 1)) to) ends (both-right (ltb to letter) _ t)
  sent-there (number ac) t f = f (eqb→eq letter to t) tt

module _ (severity column : ℕ) (s : severity < 2) (c : column < 26) where
  abbrev Sent : ℕ → ℕ → Type 0
  Sent letter to =
      T (sends (box_at severity column letter) letter to (straight severity column)
      (holds_number (box_at severity column to)))

  sent : (letter to : ℕ) → straight severity column letter ≡ to → letter < 16 → Sent letter to
  unfolding aims aim
  sent letter to named l =
      subst (Sent letter) named
      (both_left (sends (box_at severity column letter) letter _ _ _) _
      (all-at₃ 2 26 16 aims aims-all severity column letter s c l))

  module _ (to ac : ℕ) (box : box_at severity column to ≡ number ac) (t : to < 17) where
    abbrev Lead : ℕ → ℕ → Type 0
    Lead letter k = straight severity column letter ≡ to → Leads severity column letter k (landed to ac)

    lead-down : (k letter : ℕ) → letter + k ≡ to → Lead letter k
    lead-down zero letter e named = let q : letter ≡ to = omega arith in rw q (there to ac box)
    lead-down (suc k) letter e named =
        let d = sent-down letter to (straight severity column) _ _ (sent letter to named (omega arith)) (omega arith) in
        downward letter k _ d.0 (lead-down k (letter + 1) (omega arith) d.1)

    lead-up : (k letter : ℕ) → letter ≡ to + k → letter < 16 → Lead letter k
    lead-up zero letter e l named = let q : letter ≡ to = omega arith in rw q (there to ac box)
    lead-up (suc k) letter e l named =
        let d = sent-up letter to (straight severity column) _ _ (sent letter to named l) (omega arith) in
        upward letter k _ d.0 (lead-up k (letter - 1) (omega arith) (omega arith) d.1)

-- the last that goes to Ac 0 by its column ..
pub reach-by-column : {P : Type 0} (ac0 column : ℕ) → (column ≤ 1 → last_to_zero ac0 column ≡ ac0 + 2 → P)
    → (1 < column → column ≤ ac0 → last_to_zero ac0 column ≡ ac0 + 1 → P)
    → (1 < column → ac0 < column → last_to_zero ac0 column ≡ ac0 → P) → P
reach-by-column ac0 column f g h =
    by-le column 1 (λ p. f p (rw (le-leb column 1 p)))
    (λ p. by-le column ac0 (λ q. g p q (rw (lt-leb column 1 p, le-leb column ac0 q)))
    (λ q. h p q (rw (lt-leb column 1 p, lt-leb column ac0 q))))

-- .. so that what goes there has it in its column
pub zero-there : (ac0 column s : ℕ) → 1 ≤ ac0 → column ≤ s → s ≤ last_to_zero ac0 column → column ≤ ac0
zero-there ac0 column s low at h =
    reach-by-column ac0 column (λ p e. omega arith) (λ p q e. q) (λ p q e. omega arith)

-- the last number by its column
pub last-by-column : {P : Type 0} (column : ℕ) → (column ≤ 20 → last_number column ≡ 24 → P)
    → (column ≡ 21 → last_number column ≡ 25 → P) → (22 ≤ column → last_number column ≡ 26 → P) → P
last-by-column column f g h =
    by-le column 20 (λ p. f p (rw (le-leb column 20 p)))
    (λ p. by-le column 21 (λ q. g (omega arith) (rw (lt-leb column 20 p, le-leb column 21 q)))
    (λ q. h q (rw (lt-leb column 20 p, lt-leb column 21 q))))

-- how far two letters are apart
abbrev pub apart : ℕ → ℕ → ℕ
apart a b = (a - b) + (b - a)

module _ (severity column letter : ℕ) (s : severity < 2) (c : column < 26) (l : letter < 16) where
  abbrev to : ℕ
  to = straight severity column letter

  low : (to ≤ 15 + severity) × (to ≤ letter + 15)
  unfolding aims aim
  low =
      let t = both-right (sends (box_at severity column letter) letter _ _ _) _
      (all-at₃ 2 26 16 aims aims-all severity column letter s c l) in
      (leb→le to _ (both_left (leb to (15 + severity)) _ t), leb→le to _ (both-right (leb to (15 + severity)) _ t))

  box-there : box_at severity column to ≡ number (ac_of (box_at severity column to))
  box-there =
      number-there (box_at severity column to)
      (sent-there letter to (straight severity column) _ (box_at severity column letter)
      (sent severity column s c letter to refl l)
      (λ e t. subst (λ (x : ℕ). T (holds_number (box_at severity column x))) e t))

  abbrev ac : ℕ
  ac = ac_of (box_at severity column to)

  straight-leads : Leads severity column letter (apart letter to) (landed to ac)
  straight-leads =
      by-le letter to
      (λ h. let k : apart letter to ≡ to - letter = omega arith in
      rw k (lead-down severity column s c to ac box-there (omega (arith, low)) (to - letter) letter (omega arith) refl))
      (λ h. let k : apart letter to ≡ letter - to = omega arith in
      rw k (lead-up severity column s c to ac box-there (omega (arith, low)) (letter - to) letter (omega arith) l refl))

  lands : landing_of severity column letter ≡ landed to ac
  lands = led-lands severity column letter (apart letter to) 15 (landed to ac) straight-leads (omega (arith, low))

  -- The arrows of document 01 and Straight land alike, at every letter, in every column of both tables ..
  pub lands-straight : straight severity column letter ≡ (landing_of severity column letter).letter
  lands-straight = ap (λ (x : Landing). x.letter) (sym lands)

  -- .. and the arrows go straight there: they are as many as the two letters are apart, at most 15 ..
  pub landing-led : (apart letter to ≤ 15)
      × Leads severity column letter (apart letter to) (landing_of severity column letter)
  landing-led = (omega (arith, low), rw lands straight-leads)

  -- .. to a box with a number ..
  pub landing-box : box_at severity column (landing_of severity column letter).letter
      ≡ number (landing_of severity column letter).ac
  landing-box = led-to severity column letter _ _ landing-led.1

  -- .. at a letter that the table has: A to R and, under tightened, S.
  pub landing-letter : (landing_of severity column letter).letter < 16 + severity
  landing-letter = omega (arith, low, lands-straight)

  -- The landing by the tests that Straight makes.
  abbrev Lands : ℕ → Type 0
  Lands x = x ≡ (landing_of severity column letter).letter

  abbrev place : ℕ
  place = letter + column

  abbrev reach : ℕ
  reach = last_to_zero (zero_at severity) column

  pub to-zero : place ≤ reach → Lands (zero_at severity - column)
  unfolding straight
  to-zero h = let e : to ≡ zero_at severity - column = rw (le-leb place reach h) in sym e ∙ lands-straight

  module _ (past : reach < place) where
    pub to-one : place < one_at severity → Lands (one_at severity - column)
    unfolding straight
    to-one h =
        let e : to ≡ one_at severity - column = rw (lt-leb place reach past, lt-ltb place (one_at severity) h) in
        sym e ∙ lands-straight

    module _ (one : one_at severity ≤ place) where
      from-one : (x : ℕ) → cond (leb place (last_number column)) place (last_number column) ≡ x → Lands (x - column)
      unfolding straight
      from-one x f =
          let e : to ≡ x - column = rw (lt-leb place reach past, le-ltb place (one_at severity) one, f) in
          sym e ∙ lands-straight

      pub to-last : last_number column < place → Lands (last_number column - column)
      to-last h = from-one (last_number column) (rw (lt-leb place (last_number column) h))

      pub stays : place ≤ last_number column → Lands letter
      stays h =
          let e : place - column ≡ letter = omega arith in
          sym e ∙ from-one place (rw (le-leb place (last_number column) h))

-- All 15 are needed: tightened A, 0.010.
pub fifteen-needed : Leads tightened 0 letter_a 15 (landed letter_r 0)
unfolding straight box_at
fifteen-needed = straight-leads tightened 0 letter_a (omega arith) (omega arith) (omega arith)

-- No box of A points up, so that an arrow up has a letter to go to.
pub up-positive : (severity column letter : ℕ) → severity < 2 → column < 26 → box_at severity column letter ≡ up
    → 1 ≤ letter
up-positive severity column zero s c e =
    omega (arith, sent-from 0 _ _ _ _ (sent severity column s c 0 _ refl (omega arith)) e)
up-positive severity column (suc letter) s c e = omega arith
