-- What the test of a sound table tells; a call's work keeps it; and what a sound table shows. Assumes nothing.
use mathlib.Core.Path.{◌≡◌, sym, ap, ◌∙◌, subst}
use mathlib.Core.Bool.{true, ◌&&◌}
use mathlib.Core.List.{List}
use Prim.Native.Nat.{ℕ, ◌+◌, ◌≤◌, ◌<◌}
use native.Mathlib.Omega.{arith}
use lib.Dec.{leb}
use lib.ListN.{length}
use borrow.Author.Tests.{le-leb, leb-true}
use Rattle.lent.specs.Fold.{all}
use Rattle.lent.proofs.Cases.{and_left, and_right, eq_or_ne}
use Rattle.lent.proofs.PlaceLaws.{length-window}
use Rattle.lent.proofs.FoldLaws.{all_at, all_of}
use Rattle.region.specs.Layout.{holders, size}
use Rattle.region.specs.Sound as pool
use Rattle.region.specs.Holding.{held_by}
use Rattle.pool.specs.View.{shown}
use Rattle.pool.proofs.Shows.{promised}
use Rattle.session.specs.Slot.{state_no, got_in}
use Rattle.slot.specs.declared.parts.Slot.{Slot}
use Rattle.slot.specs.Fit.{fits}
use Rattle.slot.proofs.FitLaws as fit
use Rattle.entry.specs.Entry.{state_in, whole_in, cut_in, talk_in, slot_in, formed}
use Rattle.entry.proofs.EntryLaws as entry
use Rattle.table.specs.Layout.{table_size, command_at, command_size, slot_at, pool_in, entry_in, command_in, changed}
use Rattle.table.specs.Sound.{headed, slot_sound, sound}
use Rattle.table.specs.View.{slot_shown}
use Rattle.table.proofs.WriteLaws.{command_whole, changed_length, changed_headed, changed_pool, changed_own, changed_other}

-- ---- the test and its parts

-- a table of which all parts are sound is
pub sound_of : (t : List ℕ) → table_size ≤ length t → headed t ≡ true → pool.sound (pool_in t) ≡ true
    → ((i : ℕ) → i < holders → slot_sound t i ≡ true) → sound t ≡ true
unfolding sound
sound_of t long h p s = rw (le-leb table_size (length t) long, h, p) (all_of (slot_sound t) holders s)

module _ (t : List ℕ) (s : sound t ≡ true) where
  pub sound_long : table_size ≤ length t
  unfolding sound
  sound_long = leb-true table_size (length t) (and_left _ _ s)

  -- what is tested of a table that is there
  in_it : (headed t && (pool.sound (pool_in t) && all holders (slot_sound t))) ≡ true
  unfolding sound
  in_it = and_right (leb table_size (length t)) _ s

  pub sound-headed : headed t ≡ true
  sound-headed = and_left _ _ in_it

  behind_head : (pool.sound (pool_in t) && all holders (slot_sound t)) ≡ true
  behind_head = and_right (headed t) _ in_it

  pub sound_pool : pool.sound (pool_in t) ≡ true
  sound_pool = and_left _ _ behind_head

  pub sound_slot : (i : ℕ) → i < holders → slot_sound t i ≡ true
  sound_slot i h = all_at (slot_sound t) holders i (and_right (pool.sound (pool_in t)) _ behind_head) h

  pub sound-formed : (i : ℕ) → i < holders → formed (entry_in t i) ≡ true
  unfolding slot_sound
  sound-formed i h = and_left _ _ (sound_slot i h)

  pub sound_fits : (i : ℕ) → i < holders → fits (slot_in (entry_in t i)) (held_by (pool_in t) i) ≡ true
  unfolding slot_sound
  sound_fits i h = and_right (formed (entry_in t i)) _ (sound_slot i h)

-- ---- a call's work

module _ (t : List ℕ) (i : ℕ) (q bs : List ℕ) (x : Slot) (s : sound t ≡ true) (h : i < holders) where
  abbrev new : List ℕ
  new = changed t i q bs x

  long : table_size ≤ length t
  long = sound_long t s

  module _ (sq : pool.sound q ≡ true) (lq : length q ≡ size) where
    pooled : pool_in new ≡ q
    pooled = changed_pool t i q bs x long lq

    own_sound : fits x (held_by q i) ≡ true → slot_sound new i ≡ true
    unfolding slot_sound
    own_sound f = rw (changed_own t i q bs x long h, pooled, entry.bytes-formed x, entry.back x (held_by q i) f) f

    other_sound : (j : ℕ) → (j ≡ i → ⊥) → held_by q j ≡ held_by (pool_in t) j → slot_sound new j ≡ slot_sound t j
    unfolding slot_sound
    other_sound j d e = rw (changed_other t i q bs x lq j d, pooled, e)

    -- where the pool is sound, others hold what they held, and the slot fits the cells that it holds
    pub changed_sound : ((j : ℕ) → (j ≡ i → ⊥) → held_by q j ≡ held_by (pool_in t) j) → fits x (held_by q i) ≡ true → sound new ≡ true
    changed_sound others f =
        sound_of new (omega (arith, long, changed_length t i q bs x)) (changed_headed t i q bs x ∙ sound-headed t s) (ap pool.sound pooled ∙ sq)
        (λ j l.
        eq_or_ne j i
        (λ e. subst (λ (k : ℕ). slot_sound new k ≡ true) (sym e) (own_sound f))
        (λ d. other_sound j d (others j d) ∙ sound_slot t s j l))

-- ---- what is shown

module _ (t : List ℕ) (s : sound t ≡ true) (i : ℕ) (h : i < holders) where
  -- the state's number is the one that stands there
  pub state_shown : state_no (slot_shown t i) ≡ state_in (entry_in t i)
  unfolding slot_shown
  state_shown = fit.state_no_lem (slot_in (entry_in t i)) _ _ ∙ entry.state_no_lem (entry_in t i) (sound-formed t s i h)

  -- the pieces are the pool's
  pub got_shown : got_in (slot_shown t i) ≡ (shown (pool_in t)).pieces i
  unfolding slot_shown
  got_shown =
      fit.got_shown (slot_in (entry_in t i)) (command_in t i) ((shown (pool_in t)).pieces i)
      (ap (fits (slot_in (entry_in t i))) (sym ((promised.shows (pool_in t) (sound_pool t s)).held i)) ∙ sound_fits t s i h)

  module _ (busy : state_in (entry_in t i) ≡ 3) where
    -- a busy slot's command is no longer than the room for it
    pub whole_most : whole_in (entry_in t i) ≤ command_size
    unfolding fits talk_in cut_in
    whole_most =
        (fit.talk_fit (talk_in (entry_in t i)) (held_by (pool_in t) i)
        (ap (λ (x : Slot). fits x (held_by (pool_in t) i)) (sym (entry.is_busy (entry_in t i) busy)) ∙ sound_fits t s i h)).range.cut.most

    pub command-length : length (command_in t i) ≡ (talk_in (entry_in t i)).cut.whole
    unfolding talk_in cut_in
    command-length =
        rw (command_whole t i h whole_most)
        (length-window t (slot_at i + command_at) (whole_in (entry_in t i)) (omega (arith, whole_most, sound_long t s)))
