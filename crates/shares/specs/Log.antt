-- What happened on one holder in a run of the whole rack: its calls, whether each got a cell, and the answers. No state is
-- looked into.
use Rattle.std.specs.Prelude.{ℕ, ◌≤◌, Bool, cond, ◌&&◌, List, [], ◌∷◌, eqb}
use Rattle.shares.specs.Pool.{Pool}
use Rattle.shares.specs.Rack.{Protocol, Call, on, Rack, gets, after, answer_to}

-- a call on the holder: what it was given, whether it got a cell, what it answered
pub record Entry (P : Protocol) : Type 0 where
  pub input : P.Input
  pub cell : Bool
  pub answer : P.Answer

module _ (K : Pool) (P : Protocol) where
  -- a call on holder j of a rack
  abbrev pub called : Rack P → ℕ → P.Input → Entry P
  called r j x = record { input = x; cell = gets K P r j x; answer = answer_to K P r (on j x) }

  -- the calls on i, newest first, on top of h
  unfoldable pub log_on : ℕ → Rack P → List (Entry P) → List (Call P) → List (Entry P)
  log_on i r h [] = h
  log_on i r h (on j x ∷ cs) = log_on i (after K P r (on j x)) (cond (eqb j i) (called r j x ∷ h) h) cs

module _ (P : Protocol) (i : ℕ) where
  -- holder i in state s is given x, and the pool would give it a cell or not
  abbrev pub takes : P.State → P.Input → Bool → Bool
  takes s x g = P.asks i s x && g

  abbrev pub happened : P.State → P.Input → Bool → Entry P
  happened s x g = record { input = x; cell = takes s x g; answer = P.answer i s (takes s x g) x }

  -- A step keeps Q, of a state and what happened so far, for a holder of c cells at most.
  abbrev pub Keeps : (c : ℕ) → (P.State → List (Entry P) → Type 0) → Type 0
  Keeps c Q =
      (s : P.State) (h : List (Entry P)) (x : P.Input) (g : Bool) → P.held s ≤ c → P.held (P.next i s (takes s x g) x) ≤ c
      → Q s h → Q (P.next i s (takes s x g) x) (happened s x g ∷ h)
