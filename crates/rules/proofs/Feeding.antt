-- Fed in any pieces and finished, the whole output is the log of the whole input.
-- Assumes nothing.
use Prim.Native.Nat.{ℕ, zero, suc, ◌+◌, ◌-◌, ◌≤◌, ◌<◌}
use native.Mathlib.Omega.{arith}
use mathlib.Core.Path.{◌≡◌, refl, sym, ap, ◌∙◌}
use mathlib.Core.Bool.{Bool, true, false, cond}
use mathlib.Core.List.{List, [], ◌∷◌, ◌++◌, append-nil, append_assoc, flatten}
use lib.Dec.{leb, ltb, eqb}
use lib.ListN.{length, take, drop, length-append, length-drop, take-append-drop}
use borrow.Author.Tests.{ltb-true, ltb-false, leb-false, le-leb, lt-leb, ne_eqb}
use Rattle.rules.specs.Supply.{Supply, fresh_supply}
use Rattle.rules.specs.History.{Work}
use Rattle.rules.specs.Log.{split_at, newline, space, dropping_empty_last, line_of, Logged, logged_line}
use Rattle.rules.specs.Log.{line_after, log_from, header, log}
use Rattle.rules.specs.Feeding.{up_to, Begun, so_far, too_long, longest_line, one_more, line_begun, Held}
use Rattle.rules.specs.Feeding.{holding, starting, ended, after_line, Fed, one_taken, fed, finished, took_in}
use Rattle.rules.specs.Feeding.{onwards, said_in, offers, held_after, all_offers}
use Rattle.rules.proofs.Bounded.{by-le}
use Rattle.rules.proofs.LineForms.{rest_at, split-first, long-unknown}

pub fed-onwards : (w : Work) (s : Held) (p q : List ℕ)
    → onwards w s (take (fed w s p).taken p ++ q) ≡ (fed w s p).text ++ onwards w (fed w s p).kept q
unfolding fed onwards
fed-onwards w s [] q = refl
fed-onwards w s (b ∷ bs) q =
    go (eqb b newline) refl (fed-onwards w (holding s.supply s.line (one_more s.begun b)) bs q)
  where
    go : (t : Bool) → eqb b newline ≡ t
        → onwards w (holding s.supply s.line (one_more s.begun b))
        (take (fed w (holding s.supply s.line (one_more s.begun b)) bs).taken bs ++ q)
        ≡ (fed w (holding s.supply s.line (one_more s.begun b)) bs).text
        ++ onwards w (fed w (holding s.supply s.line (one_more s.begun b)) bs).kept q
        → onwards w s (take (fed w s (b ∷ bs)).taken (b ∷ bs) ++ q)
        ≡ (fed w s (b ∷ bs)).text ++ onwards w (fed w s (b ∷ bs)).kept q
    go true e h = simp e
    go false e h = simp e h

said-onwards : (w : Work) (s : Held) (ps : List (List ℕ)) → said_in w s ps ≡ onwards w s (took_in w s ps)
unfolding said_in took_in onwards
said-onwards w s [] = refl
said-onwards w s (p ∷ ps) =
    ap (λ (l : List ℕ). (fed w s p).text ++ l) (said-onwards w (fed w s p).kept ps)
    ∙ sym (fed-onwards w s p (took_in w (fed w s p).kept ps))

-- an unfinished line as it is held
abbrev begun_by : List ℕ → Begun
begun_by l = cond (leb (length l) longest_line) (so_far l) too_long

begun-read : (w : Work) (l : List ℕ) → line_begun w (begun_by l) ≡ line_of w (split_at space l)
begun-read w l = go (leb (length l) longest_line) refl
  where
    go : (t : Bool) → leb (length l) longest_line ≡ t
        → line_begun w (cond t (so_far l) too_long) ≡ line_of w (split_at space l)
    go true e = refl
    go false e = sym (long-unknown w l (leb-false (length l) longest_line e))

begun_more : (l : List ℕ) (b : ℕ) → one_more (begun_by l) b ≡ begun_by (l ++ (b ∷ []))
begun_more l b = go (leb (length l) longest_line) refl (ltb (length l) longest_line) refl
  where
    longer : length (l ++ (b ∷ [])) ≡ length l + 1
    longer = length-append l (b ∷ [])

    go : (t : Bool) → leb (length l) longest_line ≡ t → (u : Bool) → ltb (length l) longest_line ≡ u
        → one_more (cond t (so_far l) too_long) b ≡ begun_by (l ++ (b ∷ []))
    go true e true f =
        let h = ltb-true (length l) longest_line f in
        simp (f, le-leb (length (l ++ (b ∷ []))) longest_line (omega (arith, longer)))
    go true e false f =
        let h = ltb-false (length l) longest_line f in
        simp (f, lt-leb (length (l ++ (b ∷ []))) longest_line (omega (arith, longer)))
    go false e u f =
        let h = leb-false (length l) longest_line e in
        simp (lt-leb (length (l ++ (b ∷ []))) longest_line (omega (arith, longer)))

keeps-more : (l m : List ℕ) (ms : List (List ℕ)) → dropping_empty_last (l ∷ (m ∷ ms)) ≡ l ∷ dropping_empty_last (m ∷ ms)
unfolding dropping_empty_last
keeps-more [] m ms = refl
keeps-more (b ∷ bs) m ms = refl

-- what a line prints, however it is held
ended-as : (w : Work) (s : Supply) (n : ℕ) (l : List ℕ) → ended w (holding s n (begun_by l)) ≡ logged_line w n s l
ended-as w s n l = rw (begun-read w l) refl

finished-as : (w : Work) (s : Supply) (n : ℕ) (l : List ℕ)
    → finished w (holding s n (begun_by l)) ≡ log_from w n s (dropping_empty_last (l ∷ []))
unfolding log_from dropping_empty_last
finished-as w s n [] = refl
finished-as w s n (b ∷ bs) =
    go (leb (length (b ∷ bs)) longest_line) refl ∙ ap (λ z. z.text) (ended-as w s n (b ∷ bs))
    ∙ sym (append-nil (logged_line w n s (b ∷ bs)).text)
  where
    go : (t : Bool) → leb (length (b ∷ bs)) longest_line ≡ t
        → finished w (holding s n (begun_by (b ∷ bs))) ≡ (ended w (holding s n (begun_by (b ∷ bs)))).text
    go true e = simp (e, ne_eqb (suc (length bs)) 0 (λ q. omega arith))
    go false e = simp e

onwards-lines : (w : Work) (s : Supply) (n : ℕ) (l input : List ℕ)
    → onwards w (holding s n (begun_by l)) input
    ≡ log_from w n s (dropping_empty_last ((l ++ up_to newline input) ∷ rest_at newline input))
unfolding onwards up_to rest_at log_from
onwards-lines w s n l [] = finished-as w s n l ∙ rw (append-nil l) refl
onwards-lines w s n l (b ∷ bs) =
    go (eqb b newline) refl
    (onwards-lines w (logged_line w n s l).held (line_after n) [] bs)
    (onwards-lines w s n (l ++ (b ∷ [])) bs)
  where
    go : (t : Bool) → eqb b newline ≡ t
        → onwards w (holding (logged_line w n s l).held (line_after n) (so_far [])) bs
        ≡ log_from w (line_after n) (logged_line w n s l).held
        (dropping_empty_last (up_to newline bs ∷ rest_at newline bs))
        → onwards w (holding s n (begun_by (l ++ (b ∷ [])))) bs
        ≡ log_from w n s (dropping_empty_last (((l ++ (b ∷ [])) ++ up_to newline bs) ∷ rest_at newline bs))
        → onwards w (holding s n (begun_by l)) (b ∷ bs)
        ≡ log_from w n s (dropping_empty_last ((l ++ up_to newline (b ∷ bs)) ∷ rest_at newline (b ∷ bs)))
    go true e ends h =
        simp e
        (ap (λ (z : Logged). z.text ++ onwards w (holding z.held (line_after n) (so_far [])) bs) (ended-as w s n l)
        ∙ ap (λ (z : List ℕ). (logged_line w n s l).text ++ z) ends
        ∙ sym
        (ap (λ (z : List (List ℕ)). log_from w n s (dropping_empty_last z))
        (ap (λ (z : List ℕ). z ∷ split_at newline bs) (append-nil l)
        ∙ ap (λ (z : List (List ℕ)). l ∷ z) (split-first newline bs))
        ∙ ap (log_from w n s) (keeps-more l (up_to newline bs) (rest_at newline bs))))
    go false e ends h =
        simp e
        (ap (λ (z : Begun). onwards w (holding s n z) bs) (begun_more l b)
        ∙ h
        ∙ ap (λ (z : List ℕ). log_from w n s (dropping_empty_last (z ∷ rest_at newline bs)))
        (append_assoc l (b ∷ []) (up_to newline bs)))

-- from the start: the whole log
pub all-onwards : (w : Work) (input : List ℕ) → header ++ onwards w (starting w) input ≡ log w input
unfolding log
all-onwards w input =
    ap (λ (z : List ℕ). header ++ z)
    (onwards-lines w (fresh_supply w.permission) 1 [] input
    ∙ sym
    (ap (λ (z : List (List ℕ)). log_from w 1 (fresh_supply w.permission) (dropping_empty_last z))
    (split-first newline input)))

-- However the input is cut, and however often each piece is offered: the whole output is the log of the bytes taken.
pub any-calls : (w : Work) (ps : List (List ℕ))
    → header ++ said_in w (starting w) ps ≡ log w (took_in w (starting w) ps)
any-calls w ps =
    ap (λ (z : List ℕ). header ++ z) (said-onwards w (starting w) ps) ∙ all-onwards w (took_in w (starting w) ps)

-- a piece with bytes has at least one taken
pub some-taken : (w : Work) (s : Held) (p : List ℕ) → 0 < length p → 0 < (fed w s p).taken
unfolding fed
some-taken w s [] h = h
some-taken w s (b ∷ bs) h = go (eqb b newline)
  where
    go : (t : Bool)
        → 0 < (cond t (record { kept = after_line w s; taken = 1; text = (ended w s).text })
        (one_taken (fed w (holding s.supply s.line (one_more s.begun b)) bs))).taken
    go true = omega arith
    go false = omega arith

took-all : (w : Work) (k : ℕ) (s : Held) (p : List ℕ) → length p ≤ k → took_in w s (offers w k s p) ≡ p
unfolding took_in offers
took-all w zero s [] h = refl
took-all w zero s (b ∷ bs) h = absurd (omega arith)
took-all w (suc k) s p h =
    ap (λ (z : List ℕ). take (fed w s p).taken p ++ z)
    (took-all w k (fed w s p).kept (drop (fed w s p).taken p) (simp length-drop left))
    ∙ take-append-drop (fed w s p).taken p
  where
    left : length p - (fed w s p).taken ≤ k
    left = by-le (length p) 0 (λ e. omega arith) (λ e. omega (arith, some-taken w s p e))

took-append : (w : Work) (s : Held) (ps qs : List (List ℕ))
    → took_in w s (ps ++ qs) ≡ took_in w s ps ++ took_in w (held_after w s ps) qs
unfolding took_in held_after
took-append w s [] qs = refl
took-append w s (p ∷ ps) qs =
    ap (λ (z : List ℕ). take (fed w s p).taken p ++ z) (took-append w (fed w s p).kept ps qs)
    ∙ sym
    (append_assoc (take (fed w s p).taken p) (took_in w (fed w s p).kept ps)
    (took_in w (held_after w (fed w s p).kept ps) qs))

took-pieces : (w : Work) (s : Held) (ps : List (List ℕ)) → took_in w s (all_offers w s ps) ≡ flatten ps
unfolding all_offers took_in flatten
took-pieces w s [] = refl
took-pieces w s (p ∷ ps) =
    took-append w s (offers w (length p) s p) (all_offers w (held_after w s (offers w (length p) s p)) ps)
    ∙ ap (λ (z : List ℕ). z ++ took_in w t (all_offers w t ps)) (took-all w (length p) s p (omega arith))
    ∙ ap (λ (z : List ℕ). p ++ z) (took-pieces w t ps)
  where
    t : Held
    t = held_after w s (offers w (length p) s p)

-- Each piece offered until it is wholly taken: the whole output is the log of the whole input.
pub any-pieces : (w : Work) (pieces : List (List ℕ))
    → header ++ said_in w (starting w) (all_offers w (starting w) pieces) ≡ log w (flatten pieces)
any-pieces w pieces =
    any-calls w (all_offers w (starting w) pieces) ∙ ap (log w) (took-pieces w (starting w) pieces)

-- Where a piece finishes the line and where it does not, by its bytes before the first newline.
abbrev pub extended : Begun → List ℕ → Begun
extended begun [] = begun
extended begun (b ∷ bs) = extended (one_more begun b) bs

abbrev pub going : Held → List ℕ → Held
going s l = holding s.supply s.line (extended s.begun l)

abbrev pub ends : Work → Held → ℕ → Fed
ends w s n = record { kept = after_line w s; taken = suc n; text = (ended w s).text }

abbrev pub goes : Held → ℕ → Fed
goes s n = record { kept = s; taken = n; text = [] }

abbrev with_byte : Held → ℕ → Held
with_byte s b = holding s.supply s.line (one_more s.begun b)

pub fed-ends : (w : Work) (s : Held) (p : List ℕ) → length (up_to newline p) < length p
    → fed w s p ≡ ends w (going s (up_to newline p)) (length (up_to newline p))
unfolding fed up_to
fed-ends w s [] h = absurd (omega arith)
fed-ends w s (b ∷ bs) h = go (eqb b newline) (fed-ends w (with_byte s b) bs) h
  where
    go : (t : Bool)
        → (length (up_to newline bs) < length bs
        → fed w (with_byte s b) bs ≡ ends w (going s (b ∷ up_to newline bs)) (length (up_to newline bs)))
        → length (cond t [] (b ∷ up_to newline bs)) < suc (length bs)
        → cond t (ends w s 0) (one_taken (fed w (with_byte s b) bs))
        ≡ ends w (going s (cond t [] (b ∷ up_to newline bs))) (length (cond t [] (b ∷ up_to newline bs)))
    go true f g = refl
    go false f g = ap one_taken (f (omega arith))

pub fed-goes-on : (w : Work) (s : Held) (p : List ℕ) → length p ≤ length (up_to newline p)
    → fed w s p ≡ goes (going s (up_to newline p)) (length (up_to newline p))
unfolding fed up_to
fed-goes-on w s [] h = refl
fed-goes-on w s (b ∷ bs) h = go (eqb b newline) (fed-goes-on w (with_byte s b) bs) h
  where
    go : (t : Bool)
        → (length bs ≤ length (up_to newline bs)
        → fed w (with_byte s b) bs ≡ goes (going s (b ∷ up_to newline bs)) (length (up_to newline bs)))
        → suc (length bs) ≤ length (cond t [] (b ∷ up_to newline bs))
        → cond t (ends w s 0) (one_taken (fed w (with_byte s b) bs))
        ≡ goes (going s (cond t [] (b ∷ up_to newline bs))) (length (cond t [] (b ∷ up_to newline bs)))
    go true f g = absurd (omega arith)
    go false f g = ap one_taken (f (omega arith))

-- no more is taken than was offered
pub taken-within : (w : Work) (s : Held) (p : List ℕ) → (fed w s p).taken ≤ length p
unfolding fed
taken-within w s [] = omega arith
taken-within w s (b ∷ bs) = go (eqb b newline) (taken-within w (with_byte s b) bs)
  where
    go : (t : Bool) → (fed w (with_byte s b) bs).taken ≤ length bs
        → (cond t (ends w s 0) (one_taken (fed w (with_byte s b) bs))).taken ≤ suc (length bs)
    go true h = omega arith
    go false h = omega arith
