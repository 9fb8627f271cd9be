-- The numbers of refusals, 1 to 12, and 0 where a call isn't refused.
use Rattle.std.specs.Prelude.{ℕ, Result, Ok, Err}
use Rattle.answer.specs.declared.refusal.Refusal as refusal
use Rattle.answer.specs.declared.refusal.Refusal.{Refusal}
use Rattle.atr.specs.declared.refusal.Refusal as atr

abbrev pub refusal_no : Refusal → ℕ
refusal_no refusal.TheVariants.Table = 1
refusal_no refusal.TheVariants.Limits = 2
refusal_no refusal.TheVariants.Slot = 3
refusal_no refusal.TheVariants.State = 4
refusal_no refusal.TheVariants.Lent = 5
refusal_no refusal.TheVariants.Kind = 6
refusal_no refusal.TheVariants.Form = 7
refusal_no refusal.TheVariants.Start = 8
refusal_no refusal.TheVariants.Length = 9
refusal_no refusal.TheVariants.Check = 10
refusal_no refusal.TheVariants.Protocol = 11
refusal_no refusal.TheVariants.Parameter = 12

-- the number that a call returns
abbrev pub returned_no : {A : Type 0} → Result A Refusal → ℕ
returned_no (Ok x) = 0
returned_no (Err refusal) = refusal_no refusal

-- what the ATR reader refuses, among all refusals
abbrev pub refusal_of_atr : atr.Refusal → Refusal
refusal_of_atr atr.TheVariants.Start = refusal.TheVariants.Start
refusal_of_atr atr.TheVariants.Length = refusal.TheVariants.Length
refusal_of_atr atr.TheVariants.Check = refusal.TheVariants.Check
refusal_of_atr atr.TheVariants.Protocol = refusal.TheVariants.Protocol
refusal_of_atr atr.TheVariants.Parameter = refusal.TheVariants.Parameter
