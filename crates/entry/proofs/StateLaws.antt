-- A number names one state at most, and which. Assumes nothing.
use Prim.Native.Nat.{ℕ, ◌≤◌}
use mathlib.Core.Path.{◌≡◌, refl, sym, ap, ◌∙◌}
use native.Mathlib.Omega.{arith}
use Rattle.std.specs.Prelude.{Option, Some, None, Result, Ok, Err}
use Rattle.entry.specs.declared.states.UnknownState.{UnknownState}
use Rattle.entry.specs.declared.states.State.{State}
use Rattle.entry.specs.declared.states.State.TheVariants.{Empty, Greeting, Ready, Busy, Done, Ended}
use borrow.Author.Tests.{eqb-true, eqb-false}
use lib.Dec.{eqb}
use Rattle.lent.proofs.Cases.{cond_case}
use Rattle.entry.specs.State.{state_number, state_with, known, decoded, Names, Decodes}

state_most : (s : State) → state_number s ≤ 5
state_most Empty = omega arith
state_most Greeting = omega arith
state_most Ready = omega arith
state_most Busy = omega arith
state_most Done = omega arith
state_most Ended = omega arith

pub state_one : (s t : State) → state_number s ≡ state_number t → s ≡ t
state_one s t e = grind arith

pub names_one : (n : ℕ) (o p : Option State) → Names n o → Names n p → o ≡ p
names_one n None None f g = refl
names_one n None (Some t) f g = absurd (omega (arith, state_most t))
names_one n (Some s) None f g = absurd (omega (arith, state_most s))
names_one n (Some s) (Some t) f g = ap Some (state_one s t (f ∙ sym g))

pub decodes_one : (n : ℕ) (r q : Result State UnknownState) → Decodes n r → Decodes n q → r ≡ q
decodes_one n (Ok s) (Ok t) f g = ap Ok (state_one s t (f ∙ sym g))
decodes_one n (Ok s) (Err e) f g = absurd (omega (arith, state_most s, f, g.1))
decodes_one n (Err e) (Ok t) f g = absurd (omega (arith, state_most t, g, f.1))
decodes_one n (Err d) (Err e) f g = ap (λ (k : ℕ). Err (record { 0 = k })) (f.0 ∙ sym g.0)

-- the state with a number is the one that it names
named : (n : ℕ) → Names n (state_with n)
named n =
    cond_case (Names n) (eqb n 0) (λ e. sym (eqb-true n 0 e))
    (λ e0. cond_case (Names n) (eqb n 1) (λ e. sym (eqb-true n 1 e))
    (λ e1. cond_case (Names n) (eqb n 2) (λ e. sym (eqb-true n 2 e))
    (λ e2. cond_case (Names n) (eqb n 3) (λ e. sym (eqb-true n 3 e))
    (λ e3. cond_case (Names n) (eqb n 4) (λ e. sym (eqb-true n 4 e))
    (λ e4. cond_case (Names n) (eqb n 5) (λ e. sym (eqb-true n 5 e))
    (λ e5. omega (arith, eqb-false n 0 e0, eqb-false n 1 e1, eqb-false n 2 e2, eqb-false n 3 e3, eqb-false n 4 e4, eqb-false n 5 e5)))))))

pub names_with : (n : ℕ) (o : Option State) → Names n o → o ≡ state_with n
names_with n o f = names_one n o (state_with n) f (named n)

told : (n : ℕ) (o : Option State) → Names n o → Decodes n (known n o)
told n (Some s) f = f
told n None f = (refl, f)

pub decodes_with : (n : ℕ) (r : Result State UnknownState) → Decodes n r → r ≡ decoded n
decodes_with n r f = decodes_one n r (decoded n) f (told n (state_with n) (named n))
