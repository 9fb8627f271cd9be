-- What is done while greeting, and a block that goes out, show what the paper does. Assumes nothing.
use Prim.Native.Nat.{ℕ, ◌+◌, ◌≤◌}
use mathlib.Core.Path.{◌≡◌, refl, ap}
use mathlib.Core.Bool.{Bool, true, false, cond}
use mathlib.Core.List.{List, []}
use native.Mathlib.Omega.{arith}
use lib.Dec.{ltb, eqb}
use lib.ListN.{length}
use Rattle.block.specs.declared.event.Event.{Event}
use Rattle.block.specs.declared.event.Event.TheVariants.{I, R, IfsRequest, IfsResponse, Abort, Wtx, Edc, Other}
use Rattle.atr.specs.Answer.{zeros}
use Rattle.session.specs.Slot.{Block, wire, busy}
use Rattle.session.specs.Call.{says}
use Rattle.session.specs.Sending as paper
use Rattle.session.specs.Sending.{Did}
use Rattle.session.specs.Session as rows
use Rattle.slot.specs.declared.parts.Line.{Line}
use Rattle.slot.specs.declared.parts.Last.{Last}
use Rattle.slot.specs.declared.parts.Talk.{Talk}
use Rattle.slot.specs.declared.parts.Slot.TheVariants.{Busy}
use Rattle.slot.specs.declared.parts.Send.{Send}
use Rattle.slot.specs.declared.parts.Next.{Next}
use Rattle.slot.specs.Blocks.{inf_in, bytes_of}
use Rattle.slot.specs.View.{line_of, last_of, talk_of, state_of, said_by}
use Rattle.slot.proofs.FitLaws.{Frame}
use Rattle.greeting.specs.Sending.{ends, goes_out, sent_at}
use Rattle.greeting.specs.Greeting.{greet_again, while_greeting}

-- the pieces held after a call that leaves `got`: none after an ending
abbrev pub leaves : Next → (got : List (List ℕ)) → List (List ℕ)
leaves n got = cond (eqb n.ending 0) got []

-- what a call gives shows what the paper does; `got` are the pieces before an ending frees them
pub record Shows (command : List ℕ) (got : List (List ℕ)) (n : Next) (d : Did) : Type 0 where
  pub state : state_of n.slot command (leaves n got) ≡ d.state
  pub answer : said_by n command zeros ≡ d.answer
  pub frame : Frame n.slot command (length (leaves n got))
  pub small : length (inf_in n.send command) ≤ 254

module _ (command : List ℕ) (got : List (List ℕ)) where
  -- ---- a test that both make, and an ending

  pub both : (b : Bool) {n m : Next} {d c : Did} → (b ≡ true → Shows command got n d) → (b ≡ false → Shows command got m c)
      → Shows command got (cond b n m) (cond b d c)
  both true f g = f refl
  both false f g = g refl

  pub ends_shows : (ending sent : ℕ) → eqb ending 0 ≡ false → Shows command got (ends ending sent) (paper.ends ending sent)
  unfolding state_of bytes_of
  ends_shows ending sent e = record { state = refl; answer = refl; frame = rw e; small = omega arith }

  -- ---- while greeting

  pub greeting-shows : (l : Line) (sent : ℕ) (e : Event) → length got ≡ 0
      → Shows command got (while_greeting l sent e) (rows.while_greeting (line_of l) sent e)
  unfolding while_greeting state_of bytes_of wire
  greeting-shows l sent e none = go e
    where
      repeats : Shows command got (greet_again l sent) (paper.greet_again (line_of l) sent)
      repeats =
          both (ltb sent 3)
          (λ _. record { state = refl; answer = refl; frame = none; small = omega arith })
          (λ _. ends_shows 21 sent refl)

      go : (e : Event) → Shows command got (while_greeting l sent e) (rows.while_greeting (line_of l) sent e)
      go (IfsResponse v) =
          both (eqb v 0xFE) (λ _. record { state = refl; answer = refl; frame = none; small = omega arith }) (λ _. repeats)
      go Abort = ends_shows 22 sent refl
      go (I number more) = repeats
      go (R number) = repeats
      go (IfsRequest v) = repeats
      go (Wtx v) = repeats
      go Edc = repeats
      go Other = repeats

  -- ---- a block goes out

  pub goes : (t : Talk) → Frame (Busy t) command (length got) → (l : Last) (b : Send) (d : Block) (go wait : ℕ)
      → last_of l (sent_at t l go) command ≡ d → bytes_of b command ≡ wire d → length (inf_in b command) ≤ 254
      → Shows command got (goes_out (sent_at t l go) b wait)
      (paper.sends (busy (paper.sent_at (talk_of t command got) d go)) d (t.turn.sent + 1) wait zeros)
  unfolding state_of
  goes t f l b d go wait e w s = record {
    state = ap (λ (x : Block). busy (paper.sent_at (talk_of t command got) x go)) e;
    answer = ap (says 3 0 (t.turn.sent + 1) wait zeros) w;
    frame = f;
    small = s;
  }
