-- Calls on a slot, and answers.
use Rattle.std.specs.Prelude.{ℕ, List, [], length}
use Rattle.atr.specs.declared.report.Report.{Report}
use Rattle.atr.specs.Answer.{zeros}

-- how many bytes the caller lends
pub record Lent : Type 0 where
  pub table : ℕ
  pub output : ℕ
  -- the record that the answer is written to
  pub answer : ℕ

-- remove has no output: that length is not looked at
pub data Input : Type 0 where
  attach : Lent → (atr : List ℕ) → Input
  command : Lent → List ℕ → Input
  event : Lent → (kind : ℕ) → List ℕ → Input
  collect : Lent → Input
  remove : Lent → Input

-- Every field of the answer, and the bytes at the front of the output, the rest of which stays.
pub record Answer : Type 0 where
  pub number : ℕ
  pub state : ℕ
  pub ending : ℕ
  -- blocks sent since the command (or attach)
  pub sent : ℕ
  -- the length written to the output
  pub written : ℕ
  pub wait : ℕ
  -- what attach reports, 0 in other answers
  pub report : Report
  pub out : List ℕ

-- a refusal returns its number, its other fields 0, and leaves the output untouched
abbrev pub refuses : ℕ → Answer
refuses n = record { number = n; state = 0; ending = 0; sent = 0; written = 0; wait = 0; report = zeros; out = [] }

-- other answers have number 0
abbrev pub says : (state ending sent wait : ℕ) → Report → (out : List ℕ) → Answer
says state ending sent wait report out =
    record { number = 0; state = state; ending = ending; sent = sent; written = length out; wait = wait; report = report; out = out }
