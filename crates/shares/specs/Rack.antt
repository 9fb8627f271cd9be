-- A rack: holders over one pool, each with a state of its own, and calls that name a holder. Any protocol may run on it.
use Rattle.std.specs.Prelude.{ℕ, suc, ◌≤◌, ◌<◌, ◌≡◌, Bool, true, false, cond, ◌&&◌, List, [], ◌∷◌, ltb, eqb}
use Rattle.shares.specs.Pool.{Pool, granted}

-- What a holder does by itself. `asks i s x`: holder i, in state s and given x, asks for a cell. `next` and `answer` are
-- told whether it got one, which is no where it does not ask. `refused` answers a call on a number that no holder has.
-- An answer is all that a call gives back, every byte that it writes to an output included.
pub record Protocol : Type 1 where
  pub State : Type 0
  pub Input : Type 0
  pub Answer : Type 0
  pub held : State → ℕ
  pub asks : ℕ → State → Input → Bool
  pub next : ℕ → State → Bool → Input → State
  pub answer : ℕ → State → Bool → Input → Answer
  pub refused : Input → Answer

-- A call takes one cell at most, and none that it was not given. It may free any.
pub record Lawful (P : Protocol) : Type 0 where
  pub keeps : (i : ℕ) (s : P.State) (x : P.Input) → P.held (P.next i s false x) ≤ P.held s
  pub takes : (i : ℕ) (s : P.State) (x : P.Input) → P.held (P.next i s true x) ≤ suc (P.held s)

-- a call names a holder; the number may be any
pub data Call (P : Protocol) : Type 0 where
  on : ℕ → P.Input → Call P

abbrev pub Rack : Protocol → Type 0
Rack P = ℕ → P.State

-- the cells that holder i holds
abbrev pub holds : (P : Protocol) → Rack P → ℕ → ℕ
holds P r i = P.held (r i)

-- the calls on i alone: those on others are struck out
unfoldable pub strike : {P : Protocol} → ℕ → List (Call P) → List (Call P)
strike i [] = []
strike i (on j x ∷ cs) = cond (eqb j i) (on j x ∷ strike i cs) (strike i cs)

module _ (K : Pool) (P : Protocol) where
  -- the call asks for a cell: there is such a holder, and it asks
  abbrev pub asked : Rack P → ℕ → P.Input → Bool
  asked r i x = ltb i K.holders && P.asks i (r i) x

  -- and gets one
  abbrev pub gets : Rack P → ℕ → P.Input → Bool
  gets r i x = asked r i x && granted K (holds P r) i

  -- the rack with s for holder i
  abbrev pub put : Rack P → ℕ → P.State → Rack P
  put r i s j = cond (eqb j i) s (r j)

  unfoldable pub after : Rack P → Call P → Rack P
  after r (on i x) = cond (ltb i K.holders) (put r i (P.next i (r i) (gets r i x) x)) r

  unfoldable pub answer_to : Rack P → Call P → P.Answer
  answer_to r (on i x) = cond (ltb i K.holders) (P.answer i (r i) (gets r i x) x) (P.refused x)

  -- the rack after all calls, in order
  unfoldable pub run : Rack P → List (Call P) → Rack P
  run r [] = r
  run r (c ∷ cs) = run (after r c) cs

  -- the answers to all calls
  unfoldable pub answers : Rack P → List (Call P) → List P.Answer
  answers r [] = []
  answers r (c ∷ cs) = answer_to r c ∷ answers (after r c) cs

  -- the answers to the calls on i, while all calls are made
  unfoldable pub answers_on : ℕ → Rack P → List (Call P) → List P.Answer
  answers_on i r [] = []
  answers_on i r (on j x ∷ cs) =
      let rest = answers_on i (after r (on j x)) cs in cond (eqb j i) (answer_to r (on j x) ∷ rest) rest

  -- the call does not ask for a cell while its holder holds its share already
  abbrev pub Modest : Rack P → ℕ → P.Input → Type 0
  Modest r j x = asked r j x ≡ true → P.held (r j) < K.share j

  -- none of the calls does
  unfoldable pub AllModest : Rack P → List (Call P) → Type 0
  AllModest r [] = Unit {0}
  AllModest r (on j x ∷ cs) = Modest r j x × AllModest (after r (on j x)) cs

  -- none of the calls on i does, while all calls are made
  unfoldable pub ModestOn : ℕ → Rack P → List (Call P) → Type 0
  ModestOn i r [] = Unit {0}
  ModestOn i r (on j x ∷ cs) = (j ≡ i → Modest r j x) × ModestOn i (after r (on j x)) cs
