-- The paper's table of refusals, for a slot of the rack and a sound table.
use Rattle.std.specs.Prelude.{ℕ, ◌+◌, Bool, true, cond, not, ◌||◌, ◌&&◌, List, [], ◌∷◌, ltb, eqb, length, get_or}
use Rattle.block.specs.Event.{between}
use Rattle.atr.specs.Answer.{number_of}
use Rattle.pool.specs.Contents.{join}
use Rattle.session.specs.Slot.{State, state_no, got_in}
use Rattle.session.specs.Call.{Lent, Input, attach, command, event, collect, remove}

-- ---- the lowest number that applies is given, and none (0) otherwise

infix 10 ◌when◌
pub data Test : Type 0 where
  ◌when◌ : ℕ → Bool → Test

abbrev pub first : List Test → ℕ
first [] = 0
first ((n when b) ∷ ts) = cond b n (first ts)

abbrev pub lent_to : Input → Lent
lent_to (attach l atr) = l
lent_to (command l bs) = l
lent_to (event l k bs) = l
lent_to (collect l) = l
lent_to (remove l) = l

-- 1: fewer than 32,768 table bytes
abbrev pub table_short : Input → Bool
table_short x = ltb (lent_to x).table 32768

-- 4: attach needs empty, command ready, event greeting or busy, collect done, remove anything but empty
abbrev pub wrong_state : (state : ℕ) → Input → Bool
wrong_state n (attach l atr) = not (eqb n 0)
wrong_state n (command l bs) = not (eqb n 2)
wrong_state n (event l k bs) = not (eqb n 1 || eqb n 3)
wrong_state n (collect l) = not (eqb n 4)
wrong_state n (remove l) = eqb n 0

-- 5: record shorter than 64 bytes, or output shorter than 258 bytes (attach, command, event) or than the response (collect)
abbrev pub output_need : State → Input → ℕ
output_need s (attach l atr) = 258
output_need s (command l bs) = 258
output_need s (event l k bs) = 258
output_need s (collect l) = length (join (got_in s))
output_need s (remove l) = 0

abbrev pub lent_short : State → Input → Bool
lent_short s x = ltb (lent_to x).answer 64 || ltb (lent_to x).output (output_need s x)

-- 7: a command is 4 bytes; or 5; or 5 + L or 6 + L bytes with L, the fifth byte, from 1 to 255
unfoldable pub good_form : List ℕ → Bool
good_form bs =
    eqb (length bs) 4
    || (eqb (length bs) 5 || (between 1 (get_or bs 4 0) 255 && (eqb (length bs) (5 + get_or bs 4 0) || eqb (length bs) (6 + get_or bs 4 0))))

-- 6 to 12, by call; 8 to 12 are the ATR reader's
abbrev pub own_tests : Input → List Test
own_tests (attach l atr) = (number_of atr when true) ∷ []
own_tests (command l bs) = (7 when not (good_form bs)) ∷ []
own_tests (event l k bs) = (6 when ltb 2 k) ∷ []
own_tests (collect l) = []
own_tests (remove l) = []

unfoldable pub refusal : State → Input → ℕ
refusal s x = first ((1 when table_short x) ∷ (4 when wrong_state (state_no s) x) ∷ (5 when lent_short s x) ∷ own_tests x)

-- 3: slot number above 7; no later condition is looked at
abbrev pub no_slot : Input → ℕ
no_slot x = first ((1 when table_short x) ∷ (3 when true) ∷ [])
