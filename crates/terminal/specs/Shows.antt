-- What is promised of each call and of what a slot shows: it is the session of the crate `session`. Layers above cite
-- `Promised`, and never the rows.
use Rattle.std.specs.Prelude.{ℕ, ◌≤◌, ◌<◌, ◌≡◌, true, List, [], length}
use Rattle.lent.specs.Place.{splice}
use Rattle.block.specs.Reader.{read_of, inf_read}
use Rattle.atr.specs.declared.report.Report.{Report}
use Rattle.atr.specs.Report.{Bounded}
use Rattle.atr.specs.Answer.{zeros}
use Rattle.shares.specs.Decide.{row_state, row_answer}
use Rattle.region.specs.Layout.{holders}
use Rattle.region.specs.Sound.{sound}
use Rattle.region.specs.Holding.{held_by}
use Rattle.pool.specs.Calls.{released, response, copied}
use Rattle.pool.specs.Contents.{granted_in, join}
use Rattle.pool.specs.View.{shown}
use Rattle.session.specs.Refusal.{good_form}
use Rattle.session.specs.Slot.{state_no, got_in}
use Rattle.session.specs.Sending.{Did}
use Rattle.session.specs.Session as rows
use Rattle.session.specs.Protocol as paper
use Rattle.session.specs.Kept.{Kept}
use Rattle.slot.specs.declared.parts.Line.{Line}
use Rattle.slot.specs.declared.parts.Talk.{Talk}
use Rattle.slot.specs.declared.parts.Slot.{Slot}
use Rattle.slot.specs.declared.parts.Slot.TheVariants.{Greeting}
use Rattle.slot.specs.declared.parts.Send.{Send}
use Rattle.slot.specs.declared.parts.Next.{Next}
use Rattle.slot.specs.Blocks.{inf_in, sent_length, sent_out, bytes_of}
use Rattle.slot.specs.View.{line_of, talk_of, state_of, slot_no, KeptFor, said_with, said_by}
use Rattle.slot.specs.Fit.{line_fits, talk_fits, fits}
use Rattle.greeting.specs.Greeting.{attached}
use Rattle.turn.specs.Calls.{commanded}
use Rattle.terminal.specs.Calls.{greeted, event_of, pool_of, collected, collected_pool, removed}

-- What a call gives on a slot that holds nothing before and after: the paper's state and answer, a slot that fits, and an
-- INF that fits a block. `command` are the bytes that are kept, `report` is attach's.
pub record GivesShows (n : Next) (report : Report) (command : List ℕ) (d : Did) : Type 0 where
  pub state : state_of n.slot command [] ≡ d.state
  pub answer : said_by n command report ≡ d.answer
  pub fit : fits n.slot 0 ≡ true
  pub kept : KeptFor n.slot command
  pub small : length (inf_in n.send command) ≤ 254

-- only slot i's pieces changed, and the region is sound and as long as before
pub record Moves (r q : List ℕ) (i : ℕ) : Type 0 where
  pub sound : sound q ≡ true
  pub long : length q ≡ length r
  pub others : (j : ℕ) → (j ≡ i → ⊥) → (shown q).pieces j ≡ (shown r).pieces j
  pub limits : (shown q).limits ≡ (shown r).limits

-- an event on slot i of a sound region, t being fit for what it holds and `command` the bytes that are kept
pub record EventShows (r : List ℕ) (i : ℕ) (t : Talk) (command : List ℕ) (k : ℕ) (bs : List ℕ) : Type 0 where
  -- the next state and the answer are the paper's, whether a cell is asked for or not, and granted or not
  pub state : state_of (event_of r i t k bs).slot command ((shown (pool_of r i t k bs)).pieces i)
      ≡ row_state (rows.while_busy (talk_of t command ((shown r).pieces i)) (read_of k bs) (inf_read k bs)) (granted_in (shown r) i)
  pub answer : said_by (event_of r i t k bs) command zeros
      ≡ row_answer (rows.while_busy (talk_of t command ((shown r).pieces i)) (read_of k bs) (inf_read k bs)) (granted_in (shown r) i)
  pub moves : Moves r (pool_of r i t k bs) i
  pub fit : fits (event_of r i t k bs).slot (held_by (pool_of r i t k bs) i) ≡ true
  pub kept : KeptFor (event_of r i t k bs).slot command
  pub small : length (inf_in (event_of r i t k bs).send command) ≤ 254

-- collect, on slot i of a sound region, which is done, with an output that holds the response
pub record CollectShows (r : List ℕ) (i : ℕ) (l : Line) (command out : List ℕ) : Type 0 where
  pub state : state_of (collected r i l out).slot command ((shown (collected_pool r i out)).pieces i)
      ≡ (paper.collected (line_of l) ((shown r).pieces i)).state
  pub answer : said_with (collected r i l out) zeros (join ((shown r).pieces i)) ≡ (paper.collected (line_of l) ((shown r).pieces i)).answer
  pub delivered : copied r i out ≡ splice out 0 (join ((shown r).pieces i))
  pub moves : Moves r (collected_pool r i out) i
  pub fit : fits (collected r i l out).slot (held_by (collected_pool r i out) i) ≡ true

-- remove, on slot i of a sound region
pub record RemoveShows (r : List ℕ) (i : ℕ) : Type 0 where
  pub state : state_of removed.slot [] ((shown (released r i)).pieces i) ≡ (paper.removed).state
  pub answer : said_with removed zeros [] ≡ (paper.removed).answer
  pub moves : Moves r (released r i) i
  pub fit : fits removed.slot (held_by (released r i) i) ≡ true

pub record Promised : Type 0 where
  -- a slot that fits keeps the paper's invariant
  pub fit_kept : (x : Slot) (command : List ℕ) (got : List (List ℕ)) → KeptFor x command → fits x (length got) ≡ true
      → Kept (state_of x command got)
  -- its number in answers is the state's, and of a slot that fits the pieces shown are those that it holds
  pub state_no_lem : (x : Slot) (command : List ℕ) (got : List (List ℕ)) → state_no (state_of x command got) ≡ slot_no x
  pub got_shown : (x : Slot) (command : List ℕ) (got : List (List ℕ)) → fits x (length got) ≡ true → got_in (state_of x command got) ≡ got
  -- of a report within the bounds that every ATR that is taken has
  pub attach : (rep : Report) (command : List ℕ) → Bounded rep → GivesShows (attached rep) rep command (paper.attached rep)
  pub greet : (l : Line) (sent k : ℕ) (bs command : List ℕ) → fits (Greeting l sent) 0 ≡ true
      → GivesShows (greeted l sent k bs) zeros command (rows.while_greeting (line_of l) sent (read_of k bs))
  -- of a line that fits and a command whose form is good; its bytes are kept from now on
  pub command : (l : Line) (bs : List ℕ) → line_fits l ≡ true → good_form bs ≡ true
      → GivesShows (commanded l bs) zeros bs (rows.commanded (line_of l) bs)
  pub event : (r : List ℕ) (i : ℕ) (t : Talk) (command : List ℕ) (k : ℕ) (bs : List ℕ) → sound r ≡ true → i < holders
      → talk_fits t (held_by r i) ≡ true → length command ≡ t.cut.whole → EventShows r i t command k bs
  pub collect : (r : List ℕ) (i : ℕ) (l : Line) (command out : List ℕ) → sound r ≡ true → line_fits l ≡ true
      → length (response r i) ≤ length out → CollectShows r i l command out
  pub remove : (r : List ℕ) (i : ℕ) → sound r ≡ true → RemoveShows r i
  -- the block that is built, in an output of 258 bytes or more: its bytes at the front, and the rest stays
  pub built : (out : List ℕ) (b : Send) (command : List ℕ) → length (inf_in b command) ≤ 254 → 258 ≤ length out
      → (sent_out out b command ≡ splice out 0 (bytes_of b command)) × (sent_length out b command ≡ length (bytes_of b command))
