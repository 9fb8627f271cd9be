-- Two protocols side by side in one rack. A holder is in a state of the one or of the other; at each call it is settled
-- which of them answers, in which state and to which input. So a holder may keep the one that it starts with, or change,
-- as at an attach that goes by the card; and a call that neither of them takes is answered without either.
use Rattle.std.specs.Prelude.{ℕ, ◌⊎◌, Bool, false}
use Rattle.std.proofs.Common.{inl, inr}
use Rattle.shares.specs.Rack.{Protocol}

-- who answers a call
pub data Turn (P Q : Protocol) (A : Type 0) : Type 0 where
  first : P.State → P.Input → Turn P Q A
  second : Q.State → Q.Input → Turn P Q A
  neither : P.State ⊎ Q.State → A → Turn P Q A

-- inputs and answers of the rack, and whose turn it is at each call
pub record Sides (P Q : Protocol) : Type 1 where
  pub Input : Type 0
  pub Answer : Type 0
  pub said_first : P.Answer → Answer
  pub said-second : Q.Answer → Answer
  pub refused : Input → Answer
  pub turn : ℕ → P.State ⊎ Q.State → Input → Turn P Q Answer

-- cells held in a state of the one or of the other
abbrev pub held_both : (P Q : Protocol) → P.State ⊎ Q.State → ℕ
held_both P Q (inl s) = P.held s
held_both P Q (inr s) = Q.held s

module _ {P Q : Protocol} where
  -- the cells that the answering state starts with
  abbrev pub start_held : {A : Type 0} → Turn P Q A → ℕ
  start_held (first s x) = P.held s
  start_held (second s x) = Q.held s
  start_held (neither s a) = held_both P Q s

  abbrev pub turn_asks : {A : Type 0} → ℕ → Turn P Q A → Bool
  turn_asks i (first s x) = P.asks i s x
  turn_asks i (second s x) = Q.asks i s x
  turn_asks i (neither s a) = false

  abbrev pub turn_next : {A : Type 0} → ℕ → Turn P Q A → Bool → P.State ⊎ Q.State
  turn_next i (first s x) g = inl (P.next i s g x)
  turn_next i (second s x) g = inr (Q.next i s g x)
  turn_next i (neither s a) g = s

  abbrev pub turn_answer : (S : Sides P Q) → ℕ → Turn P Q S.Answer → Bool → S.Answer
  turn_answer S i (first s x) g = S.said_first (P.answer i s g x)
  turn_answer S i (second s x) g = S.said-second (Q.answer i s g x)
  turn_answer S i (neither s a) g = a

  abbrev pub both : Sides P Q → Protocol
  both S = record {
    State = P.State ⊎ Q.State;
    Input = S.Input;
    Answer = S.Answer;
    held = held_both P Q;
    asks = λ i s x. turn_asks i (S.turn i s x);
    next = λ i s g x. turn_next i (S.turn i s x) g;
    answer = λ i s g x. turn_answer S i (S.turn i s x) g;
    refused = S.refused;
  }
