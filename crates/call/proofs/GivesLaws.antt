-- What each call gives where no refusal applies, as `terminal` promises it for the slot that stands there. Assumes nothing.
use mathlib.Core.Path.{◌≡◌, sym, ap, ◌∙◌, subst}
use mathlib.Core.Bool.{true}
use mathlib.Core.List.{List}
use Prim.Native.Nat.{ℕ, ◌<◌}
use lib.Dec.{eqb}
use lib.ListN.{length}
use borrow.Author.Tests.{eqb-true}
use Rattle.lent.proofs.Cases.{and_left, and_right}
use Rattle.block.specs.Reader.{read_of}
use Rattle.atr.specs.Answer.{zeros, report_in, answer_of}
use Rattle.region.specs.Layout.{holders}
use Rattle.region.specs.Holding.{held_by}
use Rattle.session.specs.Call.{Lent, attach, command, event, collect, remove}
use Rattle.session.specs.Session as rows
use Rattle.session.specs.Protocol as paper
use Rattle.slot.specs.declared.parts.Slot.{Slot}
use Rattle.slot.specs.declared.parts.Slot.TheVariants.{Empty, Greeting, Ready, Busy, Done}
use Rattle.slot.specs.View.{line_of}
use Rattle.slot.specs.Fit.{line_fits, talk_fits, fits}
use Rattle.terminal.specs.Calls.{greeted, event_of, pool_of}
use Rattle.terminal.specs.Shows.{GivesShows, EventShows, CollectShows, RemoveShows}
use Rattle.terminal.proofs.ShowsLaws.{promised}
use Rattle.entry.specs.Entry.{state_in, sent_in, line_in, talk_in, slot_in}
use Rattle.entry.proofs.EntryLaws.{is_empty, is_greeting, is_ready, is_busy, is_done}
use Rattle.table.specs.Layout.{pool_in, entry_in, command_in}
use Rattle.table.specs.Sound.{sound}
use Rattle.table.proofs.SoundLaws.{sound_pool, sound_fits, command-length}
use Rattle.call.specs.Call.{refusal_of, next_of, pool_after}
use Rattle.call.proofs.NoneLaws.{none_sound, none_slot, none_bounded, none_empty, none_form, none_ready, none_collect, none_done}

-- ---- the slot that stands there fits

module _ (t : List ℕ) (s : sound t ≡ true) (i : ℕ) (h : i < holders) where
  fits_as : (x : Slot) → slot_in (entry_in t i) ≡ x → fits x (held_by (pool_in t) i) ≡ true
  fits_as x e = ap (λ (y : Slot). fits y (held_by (pool_in t) i)) (sym e) ∙ sound_fits t s i h

  -- empty: it holds nothing
  pub empty-held : state_in (entry_in t i) ≡ 0 → held_by (pool_in t) i ≡ 0
  unfolding fits
  empty-held e = eqb-true (held_by (pool_in t) i) 0 (fits_as Empty (is_empty (entry_in t i) e))

  -- greeting: so does it
  module _ (e : state_in (entry_in t i) ≡ 1) where
    abbrev greeting : Slot
    greeting = Greeting (line_in (entry_in t i)) (sent_in (entry_in t i))

    pub greeting-held : held_by (pool_in t) i ≡ 0
    unfolding fits
    greeting-held = eqb-true (held_by (pool_in t) i) 0 (and_left _ _ (fits_as greeting (is_greeting (entry_in t i) e)))

    pub greeting_fits : fits greeting 0 ≡ true
    greeting_fits = subst (λ (n : ℕ). fits greeting n ≡ true) greeting-held (fits_as greeting (is_greeting (entry_in t i) e))

  -- ready: so does it, and its line fits
  module _ (e : state_in (entry_in t i) ≡ 2) where
    both-ready : fits (Ready (line_in (entry_in t i))) (held_by (pool_in t) i) ≡ true
    both-ready = fits_as (Ready (line_in (entry_in t i))) (is_ready (entry_in t i) e)

    pub ready_held : held_by (pool_in t) i ≡ 0
    unfolding fits
    ready_held = eqb-true (held_by (pool_in t) i) 0 (and_left _ _ both-ready)

    pub ready-line : line_fits (line_in (entry_in t i)) ≡ true
    unfolding fits
    ready-line = and_right (eqb (held_by (pool_in t) i) 0) _ both-ready

  -- busy: its numbers fit the cells that it holds
  pub busy_talk : state_in (entry_in t i) ≡ 3 → talk_fits (talk_in (entry_in t i)) (held_by (pool_in t) i) ≡ true
  unfolding fits
  busy_talk e = fits_as (Busy (talk_in (entry_in t i))) (is_busy (entry_in t i) e)

  -- done: its line fits
  pub done-line : state_in (entry_in t i) ≡ 4 → line_fits (line_in (entry_in t i)) ≡ true
  unfolding fits
  done-line e = fits_as (Done (line_in (entry_in t i))) (is_done (entry_in t i) e)

-- ---- what each call gives

module _ (t : List ℕ) (i : ℕ) (l : Lent) where
  -- attach and command, on a slot that holds nothing

  pub attach-held : (atr : List ℕ) → refusal_of t i (attach l atr) ≡ 0 → held_by (pool_in t) i ≡ 0
  attach-held atr none =
      empty-held t (none_sound t i (attach l atr) none) i (none_slot t i (attach l atr) none) (none_empty t i l atr none)

  -- whatever command is kept
  pub attach_gives : (atr : List ℕ) → refusal_of t i (attach l atr) ≡ 0 → (c : List ℕ)
      → GivesShows (next_of t i (attach l atr)) (report_in (answer_of atr)) c (paper.attached (report_in (answer_of atr)))
  unfolding next_of
  attach_gives atr none c = promised.attach (report_in (answer_of atr)) c (none_bounded t i l atr none)

  module _ (bs : List ℕ) (none : refusal_of t i (command l bs) ≡ 0) where
    pub command-held : held_by (pool_in t) i ≡ 0
    command-held = ready_held t (none_sound t i (command l bs) none) i (none_slot t i (command l bs) none) (none_ready t i l bs none)

    pub command_gives : GivesShows (next_of t i (command l bs)) zeros bs (rows.commanded (line_of (line_in (entry_in t i))) bs)
    unfolding next_of
    command_gives =
        promised.command (line_in (entry_in t i)) bs
        (ready-line t (none_sound t i (command l bs) none) i (none_slot t i (command l bs) none) (none_ready t i l bs none))
        (none_form t i l bs none)

  -- an event, while greeting and while busy
  module _ (k : ℕ) (bs : List ℕ) where
    module _ (e : state_in (entry_in t i) ≡ 1) where
      pub greeting_next : next_of t i (event l k bs) ≡ greeted (line_in (entry_in t i)) (sent_in (entry_in t i)) k bs
      unfolding next_of
      greeting_next = rw e

      pub greeting_pool : pool_after t i (event l k bs) ≡ pool_in t
      unfolding pool_after
      greeting_pool = rw e

    module _ (e : state_in (entry_in t i) ≡ 3) where
      pub busy_next : next_of t i (event l k bs) ≡ event_of (pool_in t) i (talk_in (entry_in t i)) k bs
      unfolding next_of
      busy_next = rw e

      pub busy_pool : pool_after t i (event l k bs) ≡ pool_of (pool_in t) i (talk_in (entry_in t i)) k bs
      unfolding pool_after
      busy_pool = rw e

    module _ (none : refusal_of t i (event l k bs) ≡ 0) where
      is_sound_lem : sound t ≡ true
      is_sound_lem = none_sound t i (event l k bs) none

      is_slot : i < holders
      is_slot = none_slot t i (event l k bs) none

      -- whatever command is kept
      pub greeting_gives : state_in (entry_in t i) ≡ 1 → (c : List ℕ)
          → GivesShows (next_of t i (event l k bs)) zeros c (rows.while_greeting (line_of (line_in (entry_in t i))) (sent_in (entry_in t i)) (read_of k bs))
      greeting_gives e c =
          rw (greeting_next e)
          (promised.greet (line_in (entry_in t i)) (sent_in (entry_in t i)) k bs c (greeting_fits t is_sound_lem i is_slot e))

      pub busy_gives : state_in (entry_in t i) ≡ 3 → EventShows (pool_in t) i (talk_in (entry_in t i)) (command_in t i) k bs
      busy_gives e =
          promised.event (pool_in t) i (talk_in (entry_in t i)) (command_in t i) k bs (sound_pool t is_sound_lem) is_slot
          (busy_talk t is_sound_lem i is_slot e) (command-length t is_sound_lem i is_slot e)

  -- collect, with an output as long as is lent
  pub collect_gives : refusal_of t i (collect l) ≡ 0 → (c out : List ℕ) → length out ≡ l.output
      → CollectShows (pool_in t) i (line_in (entry_in t i)) c out
  collect_gives none c out long =
      let s = none_sound t i (collect l) none in
      promised.collect (pool_in t) i (line_in (entry_in t i)) c out (sound_pool t s)
      (done-line t s i (none_slot t i (collect l) none) (none_done t i l none))
      (rw long (none_collect t i l none))

  pub remove_gives : refusal_of t i (remove l) ≡ 0 → RemoveShows (pool_in t) i
  remove_gives none = promised.remove (pool_in t) i (sound_pool t (none_sound t i (remove l) none))
