-- The promises of open, put together: of a refusal, and where none applies. Assumes nothing.
use Prim.Native.Nat.{ℕ}
use mathlib.Core.Path.{◌≡◌, sym}
use mathlib.Core.Bool.{true, not}
use mathlib.Core.List.{List}
use native.Mathlib.Omega.{arith}
use borrow.Author.Tests.{le-leb, ne_eqb, not-false, ltb-false}
use lib.Dec.{ltb}
use lib.ListN.{length}
use Rattle.shares.specs.Pool.{fit}
use Rattle.region.specs.Layout.{pool_of}
use Rattle.session.specs.Call.{refuses}
use Rattle.answer.specs.Record.{told}
use Rattle.table.specs.Layout.{table_size}
use Rattle.table.specs.Fresh.{lays_out, laid_out}
use Rattle.call.specs.Open.{open_refusal, open_answer, opened}
use Rattle.call.proofs.NoneLaws.{past}

module _ (t shares ceilings rec : List ℕ) where
  pub open_refused : (n : ℕ) → open_refusal (length t) shares ceilings (length rec) ≡ n → (n ≡ 0 → ⊥)
      → (n ≡ (open_answer t shares ceilings rec).number) × ((t ≡ opened t shares ceilings rec) × (told rec (refuses n) ≡ told rec (open_answer t shares ceilings rec)))
  unfolding open_answer opened
  open_refused n e d = let z = ne_eqb n 0 d in (sym (rw (e, z)), (sym (rw (e, z)), sym (rw (e, z))))

  module _ (none : open_refusal (length t) shares ceilings (length rec) ≡ 0) where
    -- the table is there, and the limits pass
    pub open_lays : lays_out t shares ceilings ≡ true
    unfolding open_refusal lays_out
    open_lays =
        let one = past (ltb (length t) table_size) 1 _ (omega arith) none in
        let two = past (not (fit (pool_of shares ceilings))) 2 _ (omega arith) one.1 in
        rw (le-leb table_size (length t) (ltb-false (length t) table_size one.0), not-false (fit (pool_of shares ceilings)) two.0)

    pub open_given : (0 ≡ (open_answer t shares ceilings rec).number)
        × ((laid_out t shares ceilings ≡ opened t shares ceilings rec)
        × (told rec (refuses 0) ≡ told rec (open_answer t shares ceilings rec)))
    unfolding open_answer opened laid_out
    open_given = (sym (rw none), (rw (open_lays, none), sym (rw none)))
