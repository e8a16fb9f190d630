-- What feed answers, by the definition of feeding: one law for each way out.
-- Assumes nothing.
use Prim.Native.Nat.{ℕ, ◌+◌, ◌<◌}
use native.Mathlib.Omega.{arith}
use mathlib.Core.Path.{◌≡◌, sym, ap, ◌∙◌}
use mathlib.Core.List.{List, []}
use lib.ListN.{length}
use Rattle.std.proofs.Common.{Option, Some}
use Rattle.rules.specs.History.{Work}
use Rattle.rules.specs.Log as log
use Rattle.rules.specs.Log.{newline, line_after}
use Rattle.rules.specs.Feeding.{longest_line, up_to, holding, ended, fed}
use Rattle.rules.proofs.Feeding.{extended, going, ends, goes, fed-ends, fed-goes-on}
use Rattle.supply.specs.Paper.{supply_paper}
use Rattle.lotforms.proofs.Reading.{up-to-length}
use Rattle.lottexts.specs.declared.text.Text.{Text}
use Rattle.lottexts.specs.Texts.{text_of}
use Rattle.lottexts.specs.Printing.{line_room}
use Rattle.lotlines.specs.declared.Logged.{Logged}
use Rattle.lotlines.specs.declared.State.{State}
use Rattle.lotlines.specs.Paper.{logged_paper, begun_paper, grown, held_paper, held_with, Feeds}
use Rattle.lotlines.proofs.Keeping.{grown-begun}

module _ (w : Work) (s : State) (piece bytes : List ℕ) (e : bytes ≡ up_to newline piece) where
  gone-with : held_with s bytes ≡ going (held_paper s) (up_to newline piece)
  gone-with =
      ap (holding (supply_paper s.supply) s.line)
      (grown-begun s.begun bytes ∙ ap (extended (begun_paper s.begun)) e)

  -- a line that ends in the piece
  pub feed-ends-with : (length bytes ≡ length piece → ⊥) → (logged : Logged) (after : ℕ) (empty : Text longest_line)
      → logged_paper logged ≡ ended w (held_with s bytes)
      → after ≡ line_after s.line
      → text_of empty ≡ []
      → Feeds w s piece
      (record {
        state = record { supply = logged.supply; line = after; begun = Some empty };
        taken = length bytes + 1;
        text = logged.text;
      })
  feed-ends-with h logged after empty l a t =
      record {
        held =
            ap (λ (z : log.Logged). holding z.held after (begun_paper (Some empty))) there
            ∙ rw (a, t) (sym (ap (λ f. f.kept) answer));
        taken = omega (arith, ap length e, ap (λ f. f.taken) answer);
        shown = ap (λ (z : log.Logged). z.text) there ∙ sym (ap (λ f. f.text) answer);
      }
    where
      inside : length (up_to newline piece) < length piece
      inside =
          let within = up-to-length newline piece in
          let other : length (up_to newline piece) ≡ length piece → ⊥ = λ q. h (ap length e ∙ q) in
          omega arith

      answer : fed w (held_paper s) piece
          ≡ ends w (going (held_paper s) (up_to newline piece)) (length (up_to newline piece))
      answer = fed-ends w (held_paper s) piece inside

      there : logged_paper logged ≡ ended w (going (held_paper s) (up_to newline piece))
      there = l ∙ ap (ended w) gone-with

  module _ (begun : Option (Text longest_line)) (g : begun_paper begun ≡ grown (begun_paper s.begun) bytes) where
    abbrev grown_state : State
    grown_state = record { supply = s.supply; line = s.line; begun = begun }

    grown-with : held_paper grown_state ≡ held_with s bytes
    grown-with = ap (holding (supply_paper s.supply) s.line) g

    pub feed-goes-on : length bytes ≡ length piece → (text : Text line_room) → text_of text ≡ []
        → Feeds w s piece (record { state = grown_state; taken = length bytes; text = text })
    feed-goes-on h text t =
        record {
          held = grown-with ∙ gone-with ∙ sym (ap (λ f. f.kept) answer);
          taken = ap length e ∙ sym (ap (λ f. f.taken) answer);
          shown = t ∙ sym (ap (λ f. f.text) answer);
        }
      where
        answer : fed w (held_paper s) piece
            ≡ goes (going (held_paper s) (up_to newline piece)) (length (up_to newline piece))
        answer = fed-goes-on w (held_paper s) piece (omega (arith, ap length e))

    pub feed-ends : (length bytes ≡ length piece → ⊥) → (logged : Logged) (after : ℕ) (empty : Text longest_line)
        → logged_paper logged ≡ ended w (held_paper grown_state)
        → after ≡ line_after s.line
        → text_of empty ≡ []
        → Feeds w s piece
        (record {
          state = record { supply = logged.supply; line = after; begun = Some empty };
          taken = length bytes + 1;
          text = logged.text;
        })
    feed-ends h logged after empty l a t = feed-ends-with h logged after empty (l ∙ ap (ended w) grown-with) a t
