-- The five calls on a slot, for any bytes of a table, any slot number and any input. The answer is a paper's answer: its
-- number is returned, its bytes `out` go to the front of the output, its fields into the record.
use Rattle.std.specs.Prelude.{ℕ, Bool, cond, not, List, [], ◌∷◌, eqb, ltb, length}
use Rattle.atr.specs.declared.report.Report.{Report}
use Rattle.atr.specs.Answer.{zeros, report_in, answer_of}
use Rattle.pool.specs.Calls.{released, response}
use Rattle.session.specs.Slot.{state_no}
use Rattle.session.specs.Call.{Lent, Input, attach, command, event, collect, remove, Answer, refuses}
use Rattle.session.specs.Refusal.{◌when◌, first, wrong_state, lent_short, own_tests}
use Rattle.slot.specs.declared.parts.Slot.TheVariants.{Ready}
use Rattle.slot.specs.declared.parts.Next.{Next}
use Rattle.slot.specs.Blocks.{bytes_of}
use Rattle.slot.specs.View.{said_with}
use Rattle.greeting.specs.Sending.{rests}
use Rattle.greeting.specs.Greeting.{attached}
use Rattle.turn.specs.Calls.{commanded}
use Rattle.terminal.specs.Calls.{greeted, event_of, pool_of, removed}
use Rattle.entry.specs.Entry.{state_in, sent_in, line_in, talk_in}
use Rattle.table.specs.Layout.{pool_in, entry_in, command_in, changed}
use Rattle.table.specs.Sound.{sound}
use Rattle.table.specs.View.{slot_shown}

-- how many bytes a call is lent
abbrev pub lends : (table output answer : ℕ) → Lent
lends t out rec = record { table = t; output = out; answer = rec }

-- the calls with what they are lent; remove has no output
abbrev pub attaching : (table out rec atr : List ℕ) → Input
attaching t out rec atr = attach (lends (length t) (length out) (length rec)) atr

abbrev pub commanding : (table out rec bytes : List ℕ) → Input
commanding t out rec bs = command (lends (length t) (length out) (length rec)) bs

abbrev pub hearing : (table out rec : List ℕ) → (kind : ℕ) → (bytes : List ℕ) → Input
hearing t out rec k bs = event (lends (length t) (length out) (length rec)) k bs

abbrev pub collecting : (table out rec : List ℕ) → Input
collecting t out rec = collect (lends (length t) (length out) (length rec))

abbrev pub removing : (table rec : List ℕ) → Input
removing t rec = remove (lends (length t) 0 (length rec))

-- ---- refusals: the lowest number that applies

unfoldable pub refusal_of : List ℕ → ℕ → Input → ℕ
refusal_of t i x =
    first
    ((1 when not (sound t))
    ∷ (3 when ltb 7 i)
    ∷ (4 when wrong_state (state_no (slot_shown t i)) x)
    ∷ (5 when lent_short (slot_shown t i) x)
    ∷ own_tests x)

-- the tests that all of them share, of flags for the state and the lengths lent
abbrev pub shared : List ℕ → ℕ → (wrong short : Bool) → ℕ
shared t i wrong short = first ((1 when not (sound t)) ∷ (3 when ltb 7 i) ∷ (4 when wrong) ∷ (5 when short) ∷ [])

-- ---- where none applies

-- the next slot, what to send, and what the answer tells
unfoldable pub next_of : List ℕ → ℕ → Input → Next
next_of t i (attach l atr) = attached (report_in (answer_of atr))
next_of t i (command l bs) = commanded (line_in (entry_in t i)) bs
next_of t i (event l k bs) =
    cond (eqb (state_in (entry_in t i)) 1)
    (greeted (line_in (entry_in t i)) (sent_in (entry_in t i)) k bs)
    (event_of (pool_in t) i (talk_in (entry_in t i)) k bs)
next_of t i (collect l) = rests (Ready (line_in (entry_in t i))) 0
next_of t i (remove l) = removed

-- the pool's region
unfoldable pub pool_after : List ℕ → ℕ → Input → List ℕ
pool_after t i (attach l atr) = pool_in t
pool_after t i (command l bs) = pool_in t
pool_after t i (event l k bs) = cond (eqb (state_in (entry_in t i)) 1) (pool_in t) (pool_of (pool_in t) i (talk_in (entry_in t i)) k bs)
pool_after t i (collect l) = released (pool_in t) i
pool_after t i (remove l) = released (pool_in t) i

-- a command that is to be kept; other calls keep none, and the old one stays
abbrev pub kept_by : Input → List ℕ
kept_by (attach l atr) = []
kept_by (command l bs) = bs
kept_by (event l k bs) = []
kept_by (collect l) = []
kept_by (remove l) = []

-- the bytes for the front of the output: a block, or the response
unfoldable pub out_of : List ℕ → ℕ → Input → List ℕ
out_of t i (attach l atr) = bytes_of (next_of t i (attach l atr)).send []
out_of t i (command l bs) = bytes_of (next_of t i (command l bs)).send bs
out_of t i (event l k bs) = bytes_of (next_of t i (event l k bs)).send (command_in t i)
out_of t i (collect l) = response (pool_in t) i
out_of t i (remove l) = []

-- what attach reports, 0 in other answers
abbrev pub report_by : Input → Report
report_by (attach l atr) = report_in (answer_of atr)
report_by (command l bs) = zeros
report_by (event l k bs) = zeros
report_by (collect l) = zeros
report_by (remove l) = zeros

-- ---- the answer, and the table afterwards: a refusal leaves it

unfoldable pub answer : List ℕ → ℕ → Input → Answer
answer t i x =
    cond (eqb (refusal_of t i x) 0) (said_with (next_of t i x) (report_by x) (out_of t i x)) (refuses (refusal_of t i x))

unfoldable pub table_after : List ℕ → ℕ → Input → List ℕ
table_after t i x =
    cond (eqb (refusal_of t i x) 0) (changed t i (pool_after t i x) (kept_by x) (next_of t i x).slot) t
