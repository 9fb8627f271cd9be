-- "Reading an ATR" of document 01: the answer to it.
use Rattle.std.specs.Prelude.{ℕ, ◌≤◌, cond, List, eqb, Result, Ok, Err}
use Rattle.atr.specs.declared.walk.Interface.{Interface}
use Rattle.atr.specs.declared.report.Report.{Report}
use Rattle.atr.specs.declared.refusal.Refusal.{Refusal}
use Rattle.atr.specs.declared.refusal.Refusal.TheVariants.{Start, Length, Check, Protocol, Parameter}
use Rattle.atr.specs.Walk.{interface_of, end_of, historical}
use Rattle.atr.specs.Rules.{start_wrong, length_wrong, check_wrong, not_t1, parameter_refused}
use Rattle.atr.specs.Report.{report_of, Bounded}

-- ---- the answer: what attach reports, or why the ATR is refused

abbrev pub Answer : Type 0
Answer = Result Report Refusal

-- the paper's number
abbrev pub refusal_number : Refusal → ℕ
refusal_number Start = 8
refusal_number Length = 9
refusal_number Check = 10
refusal_number Protocol = 11
refusal_number Parameter = 12

-- and back, of 8 to 12
abbrev pub refusal_with : (number : ℕ) → Refusal
refusal_with n = cond (eqb n 8) Start (cond (eqb n 9) Length (cond (eqb n 10) Check (cond (eqb n 11) Protocol Parameter)))

-- ---- the lowest number that applies is given, and none is given otherwise

unfoldable pub terms_of : Interface → ℕ
terms_of a = cond (not_t1 a) 11 (cond (parameter_refused a) 12 0)

unfoldable pub number_of : List ℕ → ℕ
number_of s =
    cond (start_wrong s) 8
    (cond (length_wrong s) 9
    (cond (check_wrong s (end_of s).tck) 10
    (terms_of (interface_of s))))

-- ---- a refusal returns its number, its other fields 0; other answers have number 0

abbrev pub zeros : Report
zeros = record { ifsc = 0; distance = 0; cwt = 0; bwt = 0; used = 0; historical = 0; f = 0; d = 0 }

unfoldable pub values_of : List ℕ → Report
values_of s = cond (eqb (number_of s) 0) (report_of (interface_of s) (historical s)) zeros

-- the paper's number and values for each case of the answer
abbrev pub number_in : Answer → ℕ
number_in (Err e) = refusal_number e
number_in (Ok r) = 0

abbrev pub report_in : Answer → Report
report_in (Err e) = zeros
report_in (Ok r) = r

-- ---- what is answered

abbrev pub answered : (number : ℕ) → Report → Answer
answered n r = cond (eqb n 0) (Ok r) (Err (refusal_with n))

unfoldable pub answer_of : List ℕ → Answer
answer_of s = answered (number_of s) (report_of (interface_of s) (historical s))

-- what each case of it tells
abbrev pub Told : Answer → Type 0
Told (Err e) = (8 ≤ refusal_number e) × (refusal_number e ≤ 12)
Told (Ok r) = Bounded r
