-- Every call keeps a table sound, and open lays one out that is. Assumes nothing.
use mathlib.Core.Path.{◌≡◌, refl, sym, ap, ◌∙◌}
use mathlib.Core.Bool.{true}
use mathlib.Core.Logic.{◌⊎◌, inl, inr}
use mathlib.Core.List.{List, []}
use Prim.Native.Nat.{ℕ}
use lib.Dec.{eqb}
use lib.ListN.{length, replicate, length-replicate}
use borrow.Author.Tests.{eqb-true}
use Rattle.lent.proofs.Cases.{cond_case}
use Rattle.region.specs.Layout.{holders}
use Rattle.region.specs.Holding.{held_by}
use Rattle.pool.proofs.Shows as pool
use Rattle.session.specs.Call.{Input, attach, command, event, collect, remove}
use Rattle.slot.specs.declared.parts.Next.{Next}
use Rattle.slot.specs.Fit.{fits}
use Rattle.terminal.specs.Shows.{Moves}
use Rattle.terminal.proofs.PoolLaws.{stayed}
use Rattle.entry.specs.Entry.{state_in}
use Rattle.table.specs.Layout.{pool_in, entry_in, changed}
use Rattle.table.specs.Sound.{sound}
use Rattle.table.proofs.WriteLaws.{length_pool}
use Rattle.table.proofs.SoundLaws.{sound_long, sound_pool, changed_sound}
use Rattle.table.proofs.FreshLaws.{fresh_sound}
use Rattle.call.specs.Call.{refusal_of, next_of, pool_after, kept_by, table_after}
use Rattle.call.specs.Open.{open_refusal, opened}
use Rattle.call.proofs.NoneLaws.{none_sound, none_slot, none_heard}
use Rattle.call.proofs.GivesLaws.{greeting-held, attach-held, attach_gives, command-held, command_gives, greeting_pool, greeting_gives, busy_next, busy_pool, busy_gives, collect_gives, remove_gives}
use Rattle.call.proofs.BuiltLaws.{collect_next, collect_pool}
use Rattle.call.proofs.OpenLaws.{open_lays, open_given}

-- ---- a call's work: only its slot's pieces change, and the next slot fits the cells that it holds then

pub record Works (t : List ℕ) (i : ℕ) (x : Input) : Type 0 where
  pub moves : Moves (pool_in t) (pool_after t i x) i
  pub fit : fits (next_of t i x).slot (held_by (pool_after t i x) i) ≡ true

-- as it is promised of what the call comes to
comes : (t : List ℕ) (i : ℕ) (x : Input) {n : Next} {q : List ℕ} → next_of t i x ≡ n → pool_after t i x ≡ q → Moves (pool_in t) q i
    → fits n.slot (held_by q i) ≡ true → Works t i x
comes t i x e p m f = record { moves = rw p m; fit = rw (e, p) f }

-- of a call that leaves the pool as it was, on a slot that holds nothing
still : (t : List ℕ) (i : ℕ) (x : Input) → refusal_of t i x ≡ 0 → pool_after t i x ≡ pool_in t → held_by (pool_in t) i ≡ 0
    → fits (next_of t i x).slot 0 ≡ true → Works t i x
still t i x none p z f = comes t i x refl p (stayed (pool_in t) (sound_pool t (none_sound t i x none)) i) (rw z f)

pub works : (t : List ℕ) (i : ℕ) (x : Input) → refusal_of t i x ≡ 0 → Works t i x
unfolding pool_after next_of
works t i (attach l atr) none = still t i (attach l atr) none refl (attach-held t i l atr none) (attach_gives t i l atr none []).fit
works t i (command l bs) none = still t i (command l bs) none refl (command-held t i l bs none) (command_gives t i l bs none).fit
works t i (event l k bs) none = go (none_heard t i l k bs none)
  where
    go : (state_in (entry_in t i) ≡ 1) ⊎ (state_in (entry_in t i) ≡ 3) → Works t i (event l k bs)
    go (inl e) =
        still t i (event l k bs) none (greeting_pool t i l k bs e)
        (greeting-held t (none_sound t i (event l k bs) none) i (none_slot t i (event l k bs) none) e)
        (greeting_gives t i l k bs none e []).fit
    go (inr e) =
        let shows = busy_gives t i l k bs none e in
        comes t i (event l k bs) (busy_next t i l k bs e) (busy_pool t i l k bs e) shows.moves shows.fit
works t i (collect l) none =
    let out : List ℕ = replicate l.output 0 in
    let long : length out ≡ l.output = length-replicate {A = ℕ} l.output 0 in
    let shows = collect_gives t i l none [] out long in
    comes t i (collect l) (sym (collect_next t i l out none long)) (sym (collect_pool t i l out none long)) shows.moves shows.fit
works t i (remove l) none = let shows = remove_gives t i l none in comes t i (remove l) refl refl shows.moves shows.fit

-- ---- the table stays sound

module _ (t : List ℕ) (i : ℕ) (x : Input) where
  -- where no refusal applies
  pub after_sound : refusal_of t i x ≡ 0 → sound (changed t i (pool_after t i x) (kept_by x) (next_of t i x).slot) ≡ true
  after_sound none =
      let s = none_sound t i x none in
      let w = works t i x none in
      changed_sound t i (pool_after t i x) (kept_by x) (next_of t i x).slot s (none_slot t i x none) w.moves.sound
      (w.moves.long ∙ length_pool t (sound_long t s))
      (λ j d.
      ((pool.promised).shows (pool_after t i x) w.moves.sound).held j
      ∙ ap length (w.moves.others j d)
      ∙ sym (((pool.promised).shows (pool_in t) (sound_pool t s)).held j))
      w.fit

  -- and a refusal leaves it
  pub keeps-sound : sound t ≡ true → sound (table_after t i x) ≡ true
  unfolding table_after
  keeps-sound s =
      cond_case (λ (u : List ℕ). sound u ≡ true) (eqb (refusal_of t i x) 0)
      (λ e. after_sound (eqb-true (refusal_of t i x) 0 e)) (λ _. s)

-- ---- open

module _ (t shares ceilings rec : List ℕ) (ls : length shares ≡ holders) (lc : length ceilings ≡ holders)
    (none : open_refusal (length t) shares ceilings (length rec) ≡ 0) where
  pub open_sound : sound (opened t shares ceilings rec) ≡ true
  open_sound =
      ap sound (sym (open_given t shares ceilings rec none).1.0)
      ∙ fresh_sound t shares ceilings ls lc (open_lays t shares ceilings rec none)
