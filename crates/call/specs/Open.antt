-- Open: eight shares and eight ceilings.
use Rattle.std.specs.Prelude.{ℕ, cond, not, List, [], ◌∷◌, eqb, ltb, length}
use Rattle.lent.specs.Place.{splice}
use Rattle.atr.specs.Answer.{zeros}
use Rattle.shares.specs.Pool.{fit}
use Rattle.region.specs.Layout.{pool_of}
use Rattle.session.specs.Call.{Answer, refuses, says}
use Rattle.session.specs.Refusal.{Test, ◌when◌, first}
use Rattle.table.specs.Layout.{table_size}
use Rattle.table.specs.Fresh.{fresh}

-- 1: fewer than 32,768 table bytes; 2: shares and ceilings; 5: record shorter than 64 bytes
abbrev pub open_rows : (table : ℕ) → (shares ceilings : List ℕ) → (rec : ℕ) → List Test
open_rows t shares ceilings rec =
    (1 when ltb t table_size) ∷ (2 when not (fit (pool_of shares ceilings))) ∷ (5 when ltb rec 64) ∷ []

unfoldable pub open_refusal : (table : ℕ) → (shares ceilings : List ℕ) → (rec : ℕ) → ℕ
open_refusal t shares ceilings rec = first (open_rows t shares ceilings rec)

-- the slot's state is empty, and all else 0
unfoldable pub open_answer : (table shares ceilings rec : List ℕ) → Answer
open_answer t shares ceilings rec =
    cond (eqb (open_refusal (length t) shares ceilings (length rec)) 0) (says 0 0 0 0 zeros []) (refuses (open_refusal (length t) shares ceilings (length rec)))

-- all 32,768 bytes are written, and those beyond are left
unfoldable pub opened : (table shares ceilings rec : List ℕ) → List ℕ
opened t shares ceilings rec =
    cond (eqb (open_refusal (length t) shares ceilings (length rec)) 0) (splice t 0 (fresh shares ceilings)) t
