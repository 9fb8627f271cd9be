-- The states of a slot and their numbers, 0 to 5 as in answers.
use Rattle.std.specs.Prelude.{ℕ, ◌≡◌, ◌<◌, cond, eqb, Option, Some, None, Result, Ok, Err, MatchResult, MatchOption}
use Rattle.slot.specs.declared.parts.Slot as slot
use Rattle.slot.specs.declared.parts.Slot.{Slot}
use Rattle.entry.specs.declared.states.State.{State}
use Rattle.entry.specs.declared.states.State.TheVariants.{Empty, Greeting, Ready, Busy, Done, Ended}
use Rattle.entry.specs.declared.states.UnknownState.{UnknownState}

abbrev pub state_number : State → ℕ
state_number Empty = 0
state_number Greeting = 1
state_number Ready = 2
state_number Busy = 3
state_number Done = 4
state_number Ended = 5

-- the state with this number; none where no state has it
abbrev pub state_with : ℕ → Option State
state_with n =
    cond (eqb n 0) (Some Empty)
    (cond (eqb n 1) (Some Greeting)
    (cond (eqb n 2) (Some Ready)
    (cond (eqb n 3) (Some Busy)
    (cond (eqb n 4) (Some Done)
    (cond (eqb n 5) (Some Ended) None)))))

-- and with an error in place of none
abbrev pub known : ℕ → Option State → Result State UnknownState
known n (Some state) = Ok state
known n None = Err (record { 0 = n })

abbrev pub decoded : ℕ → Result State UnknownState
decoded n = known n (state_with n)

-- the state that a slot is in
abbrev pub state_of : Slot → State
state_of slot.TheVariants.Empty = Empty
state_of (slot.TheVariants.Greeting l n) = Greeting
state_of (slot.TheVariants.Ready l) = Ready
state_of (slot.TheVariants.Busy t) = Busy
state_of (slot.TheVariants.Done l) = Done
state_of slot.TheVariants.Ended = Ended

-- the result is the state with this number, or an error with a number that no state has
abbrev pub Decodes : ℕ → Result State UnknownState → Type 0
Decodes n r = MatchResult r (λ state. state_number state ≡ n) (λ e. (e.0 ≡ n) × (5 < n))

-- the state with this number; none where no state has it
abbrev pub Names : ℕ → Option State → Type 0
Names n o = MatchOption o (5 < n) (λ state. state_number state ≡ n)
