-- An event: its bytes do not decide a refusal, and it leaves the command that is kept. Assumes nothing.
use Prim.Native.Nat.{ℕ}
use mathlib.Core.Path.{◌≡◌, refl, ap, ◌∙◌}
use mathlib.Core.Logic.{◌⊎◌, inl, inr}
use mathlib.Core.List.{List, []}
use lib.ListN.{length}
use Rattle.region.specs.Layout.{size}
use Rattle.session.specs.Call.{Lent, event}
use Rattle.entry.specs.Entry.{state_in}
use Rattle.table.specs.Layout.{pool_in, entry_in, command_in, with_pool}
use Rattle.table.proofs.WriteLaws.{length_pool, with_pool_command}
use Rattle.table.proofs.SoundLaws.{sound_long}
use Rattle.call.specs.Call.{refusal_of, pool_after}
use Rattle.call.proofs.NoneLaws.{none_sound, none_heard}
use Rattle.call.proofs.GivesLaws.{greeting_pool, busy_pool, busy_gives}

module _ (t : List ℕ) (i : ℕ) (l : Lent) (k : ℕ) (bs : List ℕ) where
  pub event-refusal : refusal_of t i (event l k bs) ≡ refusal_of t i (event l k [])
  unfolding refusal_of
  event-refusal = refl

  module _ (none : refusal_of t i (event l k bs) ≡ 0) where
    short : length (pool_in t) ≡ size
    short = length_pool t (sound_long t (none_sound t i (event l k bs) none))

    pub event_pool_lem : length (pool_after t i (event l k bs)) ≡ size
    event_pool_lem = go (none_heard t i l k bs none) where
      go : (state_in (entry_in t i) ≡ 1) ⊎ (state_in (entry_in t i) ≡ 3) → length (pool_after t i (event l k bs)) ≡ size
      go (inl e) = ap length (greeting_pool t i l k bs e) ∙ short
      go (inr e) = ap length (busy_pool t i l k bs e) ∙ (busy_gives t i l k bs none e).moves.long ∙ short

    pub event-command : command_in (with_pool t (pool_after t i (event l k bs))) i ≡ command_in t i
    event-command = with_pool_command t (pool_after t i (event l k bs)) event_pool_lem i
