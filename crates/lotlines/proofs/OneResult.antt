-- Each promise of a public function admits one result (of header and finish: `text-one`).
-- Assumes nothing.
use Prim.Native.Nat.{ℕ}
use mathlib.Core.Path.{◌≡◌, refl, sym, ap, ◌∙◌}
use mathlib.Core.List.{List}
use Rattle.std.proofs.Common.{Option, Some, None}
use Rattle.rules.specs.History.{Work}
use Rattle.rules.specs.Feeding.{Held, so_far, too_long, longest_line}
use Rattle.supply.specs.declared.Supply.{Supply}
use Rattle.supply.proofs.OneResult.{supply-one}
use Rattle.lottexts.specs.declared.text.Text.{Text}
use Rattle.lottexts.specs.Printing.{line_room}
use Rattle.lottexts.specs.Texts.{text_of}
use Rattle.lottexts.proofs.OneResult.{text-one}
use Rattle.lotlines.specs.declared.State.{State}
use Rattle.lotlines.specs.declared.Fed.{Fed}
use Rattle.lotlines.specs.Paper.{begun_paper, held_paper, Starts, Feeds}

begun-one : (a b : Option (Text longest_line)) → begun_paper a ≡ begun_paper b → a ≡ b
begun-one (Some x) (Some y) e = let same : text_of x ≡ text_of y = cc in ap Some (text-one x y same refl)
begun-one (Some x) None e = absurd (apart e)
  where
    apart : so_far (text_of x) ≡ too_long → ⊥
    apart so = cc
begun-one None (Some y) e = absurd (apart e)
  where
    apart : too_long ≡ so_far (text_of y) → ⊥
    apart so = cc
begun-one None None e = refl

state-one : (a b : State) → held_paper a ≡ held_paper b → a ≡ b
state-one a b h =
    ap (λ (s : Supply). made s a.line a.begun)
    (supply-one a.supply b.supply (ap (λ (s : Held). s.supply) h))
    ∙ ap (λ (n : ℕ). made b.supply n a.begun) (ap (λ (s : Held). s.line) h)
    ∙ ap (made b.supply b.line) (begun-one a.begun b.begun (ap (λ (s : Held). s.begun) h))
  where
    made : Supply → ℕ → Option (Text longest_line) → State
    made s line begun = record { supply = s; line = line; begun = begun }

pub start-one : (w : Work) (a b : State) → Starts w a → Starts w b → a ≡ b
start-one w a b p q = state-one a b (p ∙ sym q)

pub feed-one : {w : Work} {s : State} {piece : List ℕ} (a b : Fed) → Feeds w s piece a → Feeds w s piece b → a ≡ b
feed-one a b p q =
    ap (λ (s : State). answer s a.taken a.text) (state-one a.state b.state (p.held ∙ sym q.held))
    ∙ ap (λ (n : ℕ). answer b.state n a.text) (p.taken ∙ sym q.taken)
    ∙ ap (answer b.state b.taken) (text-one a.text b.text p.shown q.shown)
  where
    answer : State → ℕ → Text line_room → Fed
    answer s taken text = record { state = s; taken = taken; text = text }
