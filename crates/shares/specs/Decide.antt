-- A protocol from one function that looks at no grant: it says what is done, and where a cell is asked for, what is done
-- with it and what without it.
use Rattle.std.specs.Prelude.{ℕ, suc, ◌≤◌, Bool, true, false}
use Rattle.shares.specs.Rack.{Protocol}

-- `plain`: the next state and the answer. `ask`: both with the cell, then both without it.
pub data Row (S A : Type 0) : Type 0 where
  plain : S → A → Row S A
  ask : S → A → S → A → Row S A

abbrev pub is_ask : {S A : Type 0} → Row S A → Bool
is_ask (plain s a) = false
is_ask (ask s a t b) = true

abbrev pub row_state : {S A : Type 0} → Row S A → Bool → S
row_state (plain s a) g = s
row_state (ask s a t b) true = s
row_state (ask s a t b) false = t

abbrev pub row_answer : {S A : Type 0} → Row S A → Bool → A
row_answer (plain s a) g = a
row_answer (ask s a t b) true = a
row_answer (ask s a t b) false = b

abbrev pub decided : (S I A : Type 0) (held : S → ℕ) (row : S → I → Row S A) (refused : I → A) → Protocol
decided S I A held row refused = record {
  State = S;
  Input = I;
  Answer = A;
  held = held;
  asks = λ i s x. is_ask (row s x);
  next = λ i s g x. row_state (row s x) g;
  answer = λ i s g x. row_answer (row s x) g;
  refused = refused;
}

-- what a row may do to the cells of a holder of n
abbrev pub Fair : {S A : Type 0} (held : S → ℕ) (n : ℕ) → Row S A → Type 0
Fair held n (plain s a) = held s ≤ n
Fair held n (ask s a t b) = (held s ≤ suc n) × (held t ≤ n)
