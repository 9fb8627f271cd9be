-- "The lowest number that applies is given, and none is given otherwise": document 01's table of refusals, the ATR reader's
-- rows among them (open's rows are in Open), and what it is that a number is the lowest. The order of the rows does not matter.
use Rattle.std.specs.Prelude.{ℕ, ◌<◌, ◌≡◌, Bool, true, false, not, ◌&&◌, ◌||◌, List, [], ◌∷◌, eqb, ltb}
use Rattle.atr.specs.Walk.{interface_of, end_of}
use Rattle.atr.specs.Rules.{start_wrong, length_wrong, check_wrong, not_t1, parameter_refused}
use Rattle.session.specs.Slot.{state_no}
use Rattle.session.specs.Call.{Input, attach, command, event, collect, remove}
use Rattle.session.specs.Refusal.{Test, ◌when◌, wrong_state, lent_short, good_form}
use Rattle.table.specs.Sound.{sound}
use Rattle.table.specs.View.{slot_shown}

-- ---- the table of refusals

-- 6 to 12, by call
abbrev pub own_rows : Input → List Test
own_rows (attach l atr) =
    (8 when start_wrong atr)
    ∷ (9 when length_wrong atr)
    ∷ (10 when check_wrong atr (end_of atr).tck)
    ∷ (11 when not_t1 (interface_of atr))
    ∷ (12 when parameter_refused (interface_of atr))
    ∷ []
own_rows (command l bs) = (7 when not (good_form bs)) ∷ []
own_rows (event l k bs) = (6 when ltb 2 k) ∷ []
own_rows (collect l) = []
own_rows (remove l) = []

abbrev pub rows : List ℕ → ℕ → Input → List Test
rows t i x =
    (1 when not (sound t))
    ∷ (3 when ltb 7 i)
    ∷ (4 when wrong_state (state_no (slot_shown t i)) x)
    ∷ (5 when lent_short (slot_shown t i) x)
    ∷ own_rows x

-- ---- the lowest number that applies, and none (0) otherwise

-- a row with this number has a test that holds
unfoldable pub applies : List Test → ℕ → Bool
applies [] n = false
applies ((m when b) ∷ ts) n = (eqb m n && b) || applies ts n

pub record Lowest (ts : List Test) (n : ℕ) : Type 0 where
  -- a number that is given applies
  pub given : (n ≡ 0 → ⊥) → applies ts n ≡ true
  -- and no lower one does
  pub lower : (m : ℕ) → m < n → applies ts m ≡ false
  -- where none is given, none applies
  pub none : n ≡ 0 → (m : ℕ) → applies ts m ≡ false
