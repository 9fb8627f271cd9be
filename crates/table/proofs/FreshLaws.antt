-- A fresh table: it is written part by part, is sound, and shows empty slots and a pool of which nobody has a piece. Assumes nothing.
use mathlib.Core.Path.{◌≡◌, refl, sym, ap, ◌∙◌, subst}
use mathlib.Core.Bool.{true}
use mathlib.Core.List.{List, [], ◌++◌, append_assoc}
use Prim.Native.Nat.{ℕ, ◌+◌, ◌*◌, ◌-◌, ◌≤◌, ◌<◌}
use native.Mathlib.Omega.{arith}
use lib.Dec.{ltb, leb}
use lib.ListN.{length, replicate, length-append, length-replicate}
use borrow.Author.Tests.{leb-true, ltb-true, eq-eqb}
use Rattle.lent.specs.Place.{window, splice}
use Rattle.lent.specs.Number.{number_of, number_at}
use Rattle.lent.proofs.Cases.{and_left, and_right, cond_case}
use Rattle.lent.proofs.PlaceLaws.{length-splice, splice-append, window_before, window-inside, window_same, window_whole, window-replicate, byte_inside}
use Rattle.lent.proofs.NumberLaws.{number_in_lem}
use Rattle.shares.specs.Pool.{fit}
use Rattle.region.specs.Layout.{holders, cells, unowned, places_at, size, pool_of}
use Rattle.region.specs.Sound as region
use Rattle.region.specs.Holding.{held_by}
use Rattle.pool.specs.Calls as pool
use Rattle.pool.specs.Contents as contents
use Rattle.pool.specs.View.{shown}
use Rattle.pool.specs.Shows.{Fresh}
use Rattle.pool.proofs.CallLaws.{laid_yes}
use Rattle.pool.proofs.Shows.{promised}
use Rattle.session.specs.Slot.{empty}
use Rattle.slot.specs.declared.parts.Slot.TheVariants.{Empty}
use Rattle.slot.specs.Fit.{fits}
use Rattle.slot.specs.View.{state_of}
use Rattle.entry.specs.Layout.{entry_size}
use Rattle.entry.specs.Entry.{slot_in, formed}
use Rattle.table.specs.Layout.{table_size, version_at, pool_at, slots_at, slot_size, slot_at, pool_in, entry_in, with_pool}
use Rattle.table.specs.Sound.{headed, slot_sound, sound}
use Rattle.table.specs.Fresh.{head, fresh, lays_out, laid_out}
use Rattle.table.specs.View.{slot_shown}
use Rattle.table.proofs.WriteLaws.{headed_behind, with_pool_own}
use Rattle.table.proofs.SoundLaws.{sound_of}

-- ---- the parts

-- the length of a pool's region, by its five parts
five : (a b c d e : List ℕ) → length a ≡ holders → length b ≡ holders → length c ≡ holders → length d ≡ cells → length e ≡ size - places_at
    → length (a ++ b ++ c ++ d ++ e) ≡ size
five a b c d e la lb lc ld le = simp length-append (omega arith)

-- the slots' bytes and the rest of the table
zeros : List ℕ
zeros = replicate (table_size - slots_at) 0

length-zeros : length zeros ≡ table_size - slots_at
unfolding zeros
length-zeros = length-replicate {A = ℕ} (table_size - slots_at) 0

module _ (sh ce : List ℕ) (ls : length sh ≡ holders) (lc : length ce ≡ holders) where
  abbrev region0 : List ℕ
  region0 = pool.fresh sh ce

  pub length_region : length region0 ≡ size
  unfolding pool.fresh
  length_region =
      five sh ce (replicate holders 0) (replicate cells unowned) (replicate (size - places_at) 0) ls lc (length-replicate {A = ℕ} holders 0)
      (length-replicate {A = ℕ} cells unowned) (length-replicate {A = ℕ} (size - places_at) 0)

  by_parts : fresh sh ce ≡ head ++ (region0 ++ zeros)
  unfolding fresh zeros
  by_parts = refl

  pub length_fresh : length (fresh sh ce) ≡ table_size
  length_fresh =
      ap length by_parts
      ∙ length-append head (region0 ++ zeros)
      ∙ omega (arith, length-append region0 zeros, length_region, length-zeros)

  -- a region is laid out whole
  module _ (r : List ℕ) (lr : length r ≡ size) (ok : fit (pool_of sh ce) ≡ true) where
    region_lays : pool.lays_out r sh ce ≡ true
    region_lays = promised.lays r sh ce (omega (arith, lr)) ∙ ok

    pub region_laid : pool.laid_out r sh ce ≡ region0
    region_laid =
        let l : length (splice r 0 region0) ≡ length region0 = length-splice r 0 region0 ∙ lr ∙ sym length_region in
        laid_yes r sh ce region_lays
        ∙ sym (window_whole (splice r 0 region0))
        ∙ ap (window (splice r 0 region0) 0) l
        ∙ window_same r 0 region0 (omega (arith, lr, length_region))

  module _ (ok : fit (pool_of sh ce) ≡ true) where
    region_fresh : Fresh region0 sh ce
    region_fresh = promised.fresh region0 sh ce ls lc (region_lays region0 length_region ok)

    region_sound : region.sound region0 ≡ true
    region_sound = ap region.sound (sym (region_laid region0 length_region ok)) ∙ region_fresh.sound

    region_shows : shown region0 ≡ contents.empty (pool_of sh ce)
    region_shows = ap shown (sym (region_laid region0 length_region ok)) ∙ region_fresh.shows

    region_held : (i : ℕ) → held_by region0 i ≡ 0
    region_held i = (promised.shows region0 region_sound).held i ∙ ap (λ (v : contents.Contents). contents.holding v i) region_shows

  module _ (t : List ℕ) (long : table_size ≤ length t) where
    abbrev t1 : List ℕ
    t1 = splice t 0 head

    abbrev t2 : List ℕ
    t2 = splice t1 pool_at region0

    abbrev q : List ℕ
    q = splice t 0 (fresh sh ce)

    steps : splice t2 slots_at zeros ≡ q
    steps =
        let e : slots_at ≡ 0 + length (head ++ region0) = omega (arith, length_region) in
        ap (λ (l : List ℕ). splice l slots_at zeros) (splice-append t 0 head region0 (omega (arith, length_region)))
        ∙ ap (λ (k : ℕ). splice (splice t 0 (head ++ region0)) k zeros) e
        ∙ splice-append t 0 (head ++ region0) zeros (omega (arith, length_region, length-zeros))
        ∙ ap (splice t 0) (append_assoc head region0 zeros ∙ sym by_parts)

    pub fresh_steps : splice (splice (splice t 0 head) pool_at (pool.fresh sh ce)) slots_at (replicate (table_size - slots_at) 0) ≡ splice t 0 (fresh sh ce)
    unfolding zeros
    fresh_steps = steps

    long2 : table_size ≤ length t2
    long2 = omega (arith, length-splice t 0 head, length-splice t1 pool_at region0)

    -- ---- what stands in it

    head-room : 0 + length head ≤ length t
    head-room = omega arith

    version_fresh : number_at t1 version_at 2 ≡ 1
    unfolding window number_of
    version_fresh =
        number_in_lem t1 version_at 2 (omega (arith, length-splice t 0 head))
        ∙ ap number_of (window-inside t 0 head head-room version_at 2 (omega arith))

    mark_fresh : headed t1 ≡ true
    unfolding headed
    mark_fresh =
        rw (
          byte_inside t 0 head 0 head-room (omega arith),
          byte_inside t 0 head 1 head-room (omega arith),
          byte_inside t 0 head 2 head-room (omega arith),
          version_fresh,
        )

    head_fresh : headed q ≡ true
    head_fresh =
        ap headed (sym steps) ∙ headed_behind t2 slots_at zeros (omega arith) ∙ headed_behind t1 pool_at region0 (omega arith) ∙ mark_fresh

    pool_fresh : pool_in q ≡ region0
    unfolding pool_in with_pool
    pool_fresh =
        ap pool_in (sym steps)
        ∙ window_before t2 slots_at zeros pool_at size (omega arith)
        ∙ with_pool_own t1 region0 length_region (omega (arith, length-splice t 0 head))

    entry_zeros : (i : ℕ) → i < holders → window q (slot_at i) entry_size ≡ replicate entry_size 0
    unfolding zeros
    entry_zeros i h =
        ap (λ (l : List ℕ). window l (slot_at i) entry_size) (sym steps)
        ∙ window-inside t2 slots_at zeros (omega (arith, long2, length-zeros)) (i * slot_size) entry_size (omega (arith, length-zeros))
        ∙ window-replicate (table_size - slots_at) 0 (i * slot_size) entry_size (omega arith)

    -- an entry is zeros, or beyond the last slot nothing
    entry_case : (P : List ℕ → Type 0) → P (replicate entry_size 0) → P [] → (i : ℕ) → P (entry_in q i)
    unfolding entry_in
    entry_case P f g i =
        cond_case P (ltb i holders) (λ e. subst P (sym (entry_zeros i (ltb-true i holders e))) f) (λ e. g)

    slot_fresh : (i : ℕ) → slot_in (entry_in q i) ≡ Empty
    unfolding slot_in
    slot_fresh = entry_case (λ (w : List ℕ). slot_in w ≡ Empty) refl refl

    formed_fresh : (i : ℕ) → formed (entry_in q i) ≡ true
    unfolding formed
    formed_fresh = entry_case (λ (w : List ℕ). formed w ≡ true) refl refl

    module _ (ok : fit (pool_of sh ce) ≡ true) where
      sound_fresh : sound q ≡ true
      unfolding slot_sound fits
      sound_fresh =
          sound_of q (omega (arith, length-splice t 0 (fresh sh ce))) head_fresh (ap region.sound pool_fresh ∙ region_sound ok)
          (λ i h. rw (formed_fresh i, slot_fresh i, pool_fresh) (eq-eqb (held_by region0 i) 0 (region_held ok i)))

-- ---- as it is laid out

module _ (t sh ce : List ℕ) (ls : length sh ≡ holders) (lc : length ce ≡ holders) (lays : lays_out t sh ce ≡ true) where
  long : table_size ≤ length t
  unfolding lays_out
  long = leb-true table_size (length t) (and_left _ _ lays)

  passes : fit (pool_of sh ce) ≡ true
  unfolding lays_out
  passes = and_right (leb table_size (length t)) _ lays

  laid : laid_out t sh ce ≡ splice t 0 (fresh sh ce)
  unfolding laid_out
  laid = rw lays

  pub fresh_sound : sound (laid_out t sh ce) ≡ true
  fresh_sound = ap sound laid ∙ sound_fresh sh ce ls lc t long passes

  pub fresh_shows : (i : ℕ) → slot_shown (laid_out t sh ce) i ≡ empty
  unfolding slot_shown state_of
  fresh_shows i = rw (laid, slot_fresh sh ce ls lc t long i)

  pub fresh_pool : shown (pool_in (laid_out t sh ce)) ≡ contents.empty (pool_of sh ce)
  fresh_pool = rw (laid, pool_fresh sh ce ls lc t long) (region_shows sh ce ls lc passes)
