-- What a slot's past says by itself: its calls, the cells that they got and the answers, newest first. No state is looked
-- into.
use Rattle.std.specs.Prelude.{ℕ, zero, suc, ◌+◌, ◌-◌, ◌*◌, ◌≤◌, ◌<◌, ◌≡◌, ◌⊎◌, Bool, true, false, cond, ◌&&◌, ◌||◌, List, [], ◌∷◌, ◌++◌, eqb, length}
use Rattle.block.specs.Reader.{read_of, inf_read}
use Rattle.block.specs.declared.event.Event.{Event}
use Rattle.block.specs.declared.event.Event.TheVariants.{I, R, IfsRequest, IfsResponse, Abort, Wtx, Edc, Other}
use Rattle.pool.specs.Contents.{join}
use Rattle.shares.specs.Log.{Entry}
use Rattle.session.specs.Call.{Input, attach, command, event, collect, remove}
use Rattle.session.specs.Protocol.{t1}

abbrev pub Past : Type 0
Past = List (Entry t1)

-- the call was not refused
abbrev pub taken : Entry t1 → Bool
taken e = eqb e.answer.number 0

-- ---- since when

abbrev pub is_attach : Input → Bool
is_attach (attach l atr) = true
is_attach (command l bs) = false
is_attach (event l k bs) = false
is_attach (collect l) = false
is_attach (remove l) = false

-- a command, or attach
abbrev pub begins : Input → Bool
begins (attach l atr) = true
begins (command l bs) = true
begins (event l k bs) = false
begins (collect l) = false
begins (remove l) = false

-- back to the last call of a sort that was not refused, with it
unfoldable pub back_to : (Input → Bool) → Past → Past
back_to f [] = []
back_to f (e ∷ h) = cond (taken e && f e.input) (e ∷ []) (e ∷ back_to f h)

abbrev pub since : Past → Past
since h = back_to begins h

-- ---- counts

-- 1 where a block was sent: what collect writes is none
abbrev pub block_in : Input → (out : List ℕ) → ℕ
block_in x [] = 0
block_in (attach l atr) (b ∷ bs) = 1
block_in (command l c) (b ∷ bs) = 1
block_in (event l k c) (b ∷ bs) = 1
block_in (collect l) (b ∷ bs) = 0
block_in (remove l) (b ∷ bs) = 0

-- answers that sent a block
unfoldable pub blocks : Past → ℕ
blocks [] = 0
blocks (e ∷ h) = blocks h + block_in e.input e.answer.out

-- the INF that a call brought
abbrev pub inf_in : Input → List ℕ
inf_in (attach l atr) = []
inf_in (command l bs) = []
inf_in (event l k bs) = inf_read k bs
inf_in (collect l) = []
inf_in (remove l) = []

-- the INFs of the I-blocks accepted, in order: those that got a cell
unfoldable pub infs : Past → List (List ℕ)
infs [] = []
infs (e ∷ h) = cond e.cell (infs h ++ (inf_in e.input ∷ [])) (infs h)

-- events that were not refused
abbrev pub event_in : Input → ℕ
event_in (attach l atr) = 0
event_in (command l bs) = 0
event_in (event l k bs) = 1
event_in (collect l) = 0
event_in (remove l) = 0

unfoldable pub events : Past → ℕ
events [] = 0
events (e ∷ h) = events h + cond (taken e) (event_in e.input) 0

-- the state that the last answer without refusal told; empty before
unfoldable pub state_in : Past → ℕ
state_in [] = 0
state_in (e ∷ h) = cond (taken e) e.answer.state (state_in h)

-- ---- what is to follow from it

-- the number of blocks sent since the command (or attach); collect and remove, and refusals, report 0
abbrev pub counts : Input → Bool
counts (attach l atr) = true
counts (command l bs) = true
counts (event l k bs) = true
counts (collect l) = false
counts (remove l) = false

abbrev pub sent_by : Entry t1 → Past → ℕ
sent_by e h = cond (taken e && counts e.input) (blocks (since (e ∷ h))) 0

-- cells held: the I-blocks accepted since the last command while the slot is busy or done, else 0
abbrev pub held_by : Past → ℕ
held_by h = cond (eqb (state_in h) 3 || eqb (state_in h) 4) (length (infs (since h))) 0

-- collect writes the accepted INFs joined in order
abbrev pub Delivers : Entry t1 → Input → Past → Type 0
Delivers e (collect l) h = e.answer.out ≡ cond (taken e) (join (infs (since h))) []
Delivers e (attach l atr) h = Unit
Delivers e (command l bs) h = Unit
Delivers e (event l k bs) h = Unit
Delivers e (remove l) h = Unit

-- the number of an event's I-block; 2 where it is none
abbrev pub number_of : Event → ℕ
number_of (I number more) = number
number_of (R number) = 2
number_of (IfsRequest n) = 2
number_of (IfsResponse n) = 2
number_of Abort = 2
number_of (Wtx n) = 2
number_of Edc = 2
number_of Other = 2

abbrev pub i_number : Input → ℕ
i_number (event l k bs) = number_of (read_of k bs)
i_number (attach l atr) = 2
i_number (command l bs) = 2
i_number (collect l) = 2
i_number (remove l) = 2

-- 0, 1, 0, 1 and so on
unfoldable pub in_turn : ℕ → ℕ
in_turn zero = 0
in_turn (suc k) = 1 - in_turn k

-- busy, done or ended
abbrev pub Onward : (state : ℕ) → Type 0
Onward n = (n ≡ 3) ⊎ ((n ≡ 4) ⊎ (n ≡ 5))

-- 17 I-blocks, c acknowledgements, 255 requests, three goes each
abbrev pub most : (ceiling : ℕ) → ℕ
most c = 3 * (272 + c)

-- ---- what holds of each call on a slot of ceiling c, e being the call and h what was before

-- The bound: never more events since the command than 3 × (272 + c), and no answer reports more blocks.
pub record Bound (c : ℕ) (e : Entry t1) (h : Past) : Type 0 where
  pub within : events (since (e ∷ h)) ≤ most c
  pub few : e.answer.sent ≤ most c

pub record Told (c : ℕ) (e : Entry t1) (h : Past) : Type 0 where
  pub sent : e.answer.sent ≡ sent_by e h
  pub delivers : Delivers e e.input h
  -- The I-blocks accepted since attach are numbered 0 and 1 in turn. One that the card repeats has the number of the one
  -- accepted before it, so it is never stored twice.
  pub turns : e.cell ≡ true → i_number e.input ≡ in_turn (length (infs (back_to is_attach h)))
  -- after an event on a busy slot it is busy, done or ended
  pub onward : state_in h ≡ 3 → taken e ≡ true → event_in e.input ≡ 1 → Onward e.answer.state
  -- a command is done or ended after at most 3 × (272 + c) events: while it is not, there were fewer
  pub bound : Bound c e h
  pub busy : state_in (e ∷ h) ≡ 3 → events (since (e ∷ h)) < most c

unfoldable pub AllTold : (c : ℕ) → Past → Type 0
AllTold c [] = Unit {0}
AllTold c (e ∷ h) = Told c e h × AllTold c h

unfoldable pub AllBound : (c : ℕ) → Past → Type 0
AllBound c [] = Unit {0}
AllBound c (e ∷ h) = Bound c e h × AllBound c h
