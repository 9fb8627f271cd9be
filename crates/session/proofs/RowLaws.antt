-- What holds of each outcome of a row holds of the outcome, with a cell or without. Assumes nothing.
use mathlib.Core.Bool.{Bool, true, false}
use Rattle.shares.specs.Decide.{Row, plain, ask, row_state, row_answer}
use Rattle.session.specs.Slot.{State}
use Rattle.session.specs.Call.{Answer}

abbrev pub RowAll : (State → Answer → Type 0) → Row State Answer → Type 0
RowAll Q (plain s a) = Q s a
RowAll Q (ask s a t b) = Q s a × Q t b

pub row_all : (Q : State → Answer → Type 0) (w : Row State Answer) (g : Bool) → RowAll Q w → Q (row_state w g) (row_answer w g)
row_all Q (plain s a) g p = p
row_all Q (ask s a t b) true p = p.0
row_all Q (ask s a t b) false p = p.1
