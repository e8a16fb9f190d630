-- A turn, by each of its ends: what was to be written is what it writes and what is to be written after it.
-- Assumes nothing.
use Prim.Native.Nat.{ℕ, ◌+◌, ◌≤◌}
use native.Mathlib.Omega.{arith}
use mathlib.Core.Path.{◌≡◌, refl, ap, sym, subst, ◌∙◌}
use mathlib.Core.Bool.{Bool, true, false, cond}
use mathlib.Core.List.{List, [], ◌∷◌, ◌++◌, append-nil, append_assoc}
use mathlib.Core.Logic.{inr, ⊎_elim}
use borrow.Author.Tests.{eqb-true}
use lib.Dec.{T, ltb, eqb}
use lib.ListN.{length, take, drop}
use lib.Seq.{drop-nil}
use Rattle.rules.specs.History.{ours}
use Rattle.rules.specs.Feeding.{Held, finished, onwards}
use Rattle.lotlines.specs.declared.State.{State}
use Rattle.lottexts.specs.Printing.{line_room}
use Rattle.lotlines.specs.Paper.{held_paper}
use Rattle.lotstream.specs.Turns.{Opened, waits, left, to_come, Logs, LastPut, Written}
use Rattle.lotstream.specs.Turns.{brought, Got}
use Rattle.lotstream.specs.Runs.{least_room, Scene, scene, Fits, reads, unwritten, Turned, Ran, Running}
use Rattle.lotstream.specs.Runs.{most_turns, Ended, Runs}
use Rattle.lotstream.specs.declared.Turn.{Turn}

pub never : {A : Type 0} {b : Bool} → b ≡ true → b ≡ false → A
never t f = absurd (subst T (sym t ∙ f) tt)

-- a read that brings nothing, where one is made
over-none : (b : Bool) (n : ℕ) → cond b false (eqb n 0) ≡ true → n ≡ 0
over-none true n e = never e refl
over-none false n e = eqb-true n 0 e

none-onwards : (s : Held) → onwards ours s [] ≡ finished ours s
unfolding onwards
none-onwards s = refl

module _ {t : Turn} {input out : List ℕ} (first : Fits (scene t input out)) {sent : Turn} (w : Written t sent) where
  sent-fits : Fits (scene sent input out)
  sent-fits =
      record {
        taken = omega (arith, first.taken, w.taken, w.long);
        long = omega (arith, first.long, w.long);
        waiting = omega (arith, w.none);
        room = first.room;
      }

  module _ (o : sent.over ≡ false) {read : List ℕ} {got : Turn} (g : Got sent input read got) where
    begun : t.over ≡ false
    begun = sym w.over ∙ o

    none : got.waiting ≡ 0
    none = g.waiting ∙ w.none

    -- whether the input is over then
    now-over : (r : Turn) → r.over ≡ got.over → r.length ≡ got.length
        → r.over ≡ cond (ltb t.taken t.length) false (eqb r.length 0)
    now-over r e l =
        e
        ∙ g.over
        ∙ ap (λ (b : Bool). cond (ltb sent.taken sent.length) b (eqb got.length 0)) o
        ∙ ap (λ (n : ℕ). cond (ltb n sent.length) false (eqb got.length 0)) w.taken
        ∙ ap (λ (n : ℕ). cond (ltb t.taken n) false (eqb got.length 0)) w.long
        ∙ ap (λ (n : ℕ). cond (ltb t.taken t.length) false (eqb n 0)) (sym l)

    -- what is left of the piece then
    now-left : (r : Turn) → r.length ≡ got.length → (more : List ℕ)
        → left t (take t.length input) ++ (brought t r read ++ more) ≡ left got (take got.length read) ++ more
    now-left r e more =
        sym (append_assoc (left t (take t.length input)) (brought t r read) more)
        ∙ ap (λ (l : List ℕ). l ++ more)
        (ap (λ (n : ℕ). left t (take t.length input) ++ cond (ltb t.taken t.length) [] (take n read)) e
        ∙ ap (λ (n : ℕ). drop t.taken (take n input) ++ cond (ltb t.taken n) [] (take got.length read))
        (sym w.long)
        ∙ ap
        (λ (n : ℕ). drop n (take sent.length input) ++ cond (ltb n sent.length) [] (take got.length read))
        (sym w.taken)
        ∙ sym g.piece)

    -- what was to be written
    was-left : (r : Turn) (last : List ℕ) → r.length ≡ got.length → (more : List ℕ)
        → unwritten (scene t input out) (reads (scene t input out) (scene r read last) ++ more)
        ≡ waits t out ++ onwards ours (held_paper got.state) (left got (take got.length read) ++ more)
    was-left r last e more =
        ap
        (λ (b : Bool). waits t out
        ++ cond b []
        (onwards ours (held_paper t.state)
        (left t (take t.length input) ++ (cond b [] (brought t r read) ++ more))))
        begun
        ∙ ap (λ (l : List ℕ). waits t out ++ onwards ours (held_paper t.state) l) (now-left r e more)
        ∙ ap
        (λ (s : State). waits t out
        ++ onwards ours (held_paper s) (left got (take got.length read) ++ more))
        (sym (g.state ∙ w.state))

    module _ {r : Turn} {last : List ℕ} (k : length last ≡ length out) (f : got.failed ≡ false) where
      -- the input has ended
      pub last-line : got.over ≡ true → LastPut got out last r → Turned (scene t input out) (scene r read last)
      last-line e l =
          record {
            account = λ _ more m. account more (m (l.over ∙ e));
            answered = λ _ n h. never (l.over ∙ e) n;
            cut = λ q. never q (l.failed ∙ f);
            ends = λ _ _. now-over r l.over l.long;
            stays = λ _. l.over ∙ e;
            held = λ _. l.state ∙ g.state ∙ w.state;
            fits = record {
              taken = omega (arith, g.within, l.taken, l.long);
              long = omega (arith, g.fits, l.long);
              waiting = omega (arith, l.fits, k);
              room = omega (arith, first.room, k);
            };
          }
        where
          gone : left got (take got.length read) ≡ []
          gone =
              let nothing : got.length ≡ 0 =
              over-none (ltb t.taken t.length) got.length (sym (now-over got refl refl) ∙ e) in
              ap (λ (n : ℕ). left got (take n read)) nothing ∙ drop-nil got.taken

          ends : onwards ours (held_paper got.state) (left got (take got.length read) ++ [])
              ≡ finished ours (held_paper got.state)
          ends =
              ap (λ (z : List ℕ). onwards ours (held_paper got.state) (z ++ [])) gone
              ∙ none-onwards (held_paper got.state)

          text : waits r last ≡ finished ours (held_paper got.state)
          text = l.text ∙ ap (λ (n : ℕ). take n out ++ finished ours (held_paper got.state)) none

          after : unwritten (scene r read last) [] ≡ waits r last
          after =
              ap
              (λ (b : Bool). waits r last
              ++ cond b [] (onwards ours (held_paper r.state) (left r (take r.length read) ++ [])))
              (l.over ∙ e)
              ∙ append-nil (waits r last)

          account : (more : List ℕ) → more ≡ []
              → unwritten (scene t input out) (reads (scene t input out) (scene r read last) ++ more)
              ≡ waits t out ++ unwritten (scene r read last) more
          account more z =
              ap (λ (q : List ℕ). unwritten (scene t input out) (reads (scene t input out) (scene r read last) ++ q)) z
              ∙ was-left r last l.long []
              ∙ ap (λ (q : List ℕ). waits t out ++ q) (ends ∙ sym (after ∙ text))
              ∙ ap (λ (q : List ℕ). waits t out ++ unwritten (scene r read last) q) (sym z)

      -- lines of the piece
      pub more-lines : got.over ≡ false → Logs got (take got.length read) out last r
          → (r.waiting + line_room ≤ length out → r.taken ≡ length (take got.length read))
          → got.length ≡ length (take got.length read)
          → Turned (scene t input out) (scene r read last)
      more-lines e l all long =
          record {
            account = λ _ more _. account more;
            answered = λ _ _ h. let full = all (omega (arith, h, k)) in omega (arith, full, long, l.long);
            cut = λ q. never q (l.failed ∙ f);
            ends = λ _ _. now-over r l.over l.long;
            stays = λ b. never b begun;
            held = λ q. ⊎_elim (λ o. never o (l.over ∙ e)) (λ x. never x (l.failed ∙ f)) q;
            fits = record {
              taken = omega (arith, l.within, long, l.long);
              long = omega (arith, g.fits, l.long);
              waiting = omega (arith, l.fits, k);
              room = omega (arith, first.room, k);
            };
          }
        where
          after : (more : List ℕ)
              → unwritten (scene r read last) more ≡ to_come r (take got.length read) last more
          after more =
              ap
              (λ (b : Bool). waits r last
              ++ cond b [] (onwards ours (held_paper r.state) (left r (take r.length read) ++ more)))
              (l.over ∙ e)
              ∙ ap
              (λ (n : ℕ). waits r last ++ onwards ours (held_paper r.state) (left r (take n read) ++ more))
              l.long

          empty : (more : List ℕ)
              → to_come got (take got.length read) out more
              ≡ onwards ours (held_paper got.state) (left got (take got.length read) ++ more)
          empty more =
              ap
              (λ (n : ℕ). take n out
              ++ onwards ours (held_paper got.state) (left got (take got.length read) ++ more))
              none

          account : (more : List ℕ)
              → unwritten (scene t input out) (reads (scene t input out) (scene r read last) ++ more)
              ≡ waits t out ++ unwritten (scene r read last) more
          account more =
              was-left r last l.long more
              ∙ ap (λ (q : List ℕ). waits t out ++ q) (sym (after more ∙ l.same more ∙ empty more))

-- The first turn of a run, a turn more, and the run that ends with it.
pub run-opened : {r : Turn} {input out : List ℕ} → Opened out r → least_room ≤ length out
    → Running 0 (scene r input out)
unfolding Ran
run-opened o h =
    record {
      past = [];
      ran = o;
      count = refl;
      going = o.failed;
      fits = record {
        taken = omega (arith, o.taken);
        long = omega (arith, o.long);
        waiting = o.fits;
        room = h;
      };
    }

module _ {turns : ℕ} {before now : Scene} (run : Running turns before) (turned : Turned before now) where
  ran-more : Ran (before ∷ run.past) now
  unfolding Ran
  ran-more = (run.ran, run.going, turned)

  pub run-more : now.turn.failed ≡ false → Running (turns + 1) now
  run-more f =
      record {
        past = before ∷ run.past;
        ran = ran-more;
        count = omega (arith, run.count);
        going = f;
        fits = turned.fits;
      }

-- no turn is left
pub runs-now : {r : Turn} {turns : ℕ} {input out read put : List ℕ} → least_room ≤ length out
    → turns ≡ most_turns
    → Running turns (scene r read put) → Runs input out read put r
runs-now h e run =
    record {
      small = λ l. absurd (omega arith);
      ran = λ _. (run.past, run.ran, inr (inr (omega (arith, run.count, e))));
    }

pub runs-more : {t r : Turn} {turns : ℕ} {input out read_from put_in read put : List ℕ} → least_room ≤ length out
    → ((past : List Scene) → Ended past r) → Running turns (scene t read_from put_in)
    → Turned (scene t read_from put_in) (scene r read put) → Runs input out read put r
runs-more {t} {read_from = read_from} {put_in = put_in} h e run turned =
    let past : List Scene = scene t read_from put_in ∷ run.past in
    record { small = λ l. absurd (omega arith); ran = λ _. (past, ran-more run turned, e past) }
