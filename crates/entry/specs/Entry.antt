-- A slot's entry: the slot that bytes are, whatever they are, and the bytes of a slot.
use Rattle.std.specs.Prelude.{ℕ, Bool, cond, ◌&&◌, List, [], ◌∷◌, ◌++◌, eqb, leb, get_or, replicate}
use Rattle.lent.specs.Number.{number_at, bytes_of}
use Rattle.slot.specs.declared.parts.Line.{Line}
use Rattle.slot.specs.declared.parts.Cut.{Cut}
use Rattle.slot.specs.declared.parts.Last as last
use Rattle.slot.specs.declared.parts.Last.{Last}
use Rattle.slot.specs.declared.parts.Turn.{Turn}
use Rattle.slot.specs.declared.parts.Talk.{Talk}
use Rattle.slot.specs.declared.parts.Slot.{Slot}
use Rattle.slot.specs.declared.parts.Slot.TheVariants.{Empty, Greeting, Ready, Busy, Done, Ended}
use Rattle.entry.specs.Layout.{state_at, ifsc_at, s_at, r_at, bwt_at, sent_at, whole_at, from_at, len_at, acked_at, last_at, value_at, byte_at, go_at, requests_at}

-- ---- read

-- 0 to 5 as in answers
abbrev pub state_in : List ℕ → ℕ
state_in w = get_or w state_at 0

abbrev pub sent_in : List ℕ → ℕ
sent_in w = number_at w sent_at 2

-- the length of the command that is kept
abbrev pub whole_in : List ℕ → ℕ
whole_in w = number_at w whole_at 2

unfoldable pub line_in : List ℕ → Line
line_in w = record { ifsc = get_or w ifsc_at 0; bwt = number_at w bwt_at 2; s = get_or w s_at 0; r = get_or w r_at 0 }

unfoldable pub cut_in : List ℕ → Cut
cut_in w = record { whole = whole_in w; from = number_at w from_at 2; len = get_or w len_at 0 }

-- the last block sent: 0 the last I-block, 1 an R, 2 the answer to a request
unfoldable pub last_in : List ℕ → Last
last_in w =
    cond (eqb (get_or w last_at 0) 0) last.TheVariants.I
    (cond (eqb (get_or w last_at 0) 1) (last.TheVariants.R (get_or w value_at 0)) (last.TheVariants.S (get_or w value_at 0) (get_or w byte_at 0)))

unfoldable pub turn_in : List ℕ → Turn
turn_in w = record { last = last_in w; go = get_or w go_at 0; requests = get_or w requests_at 0; sent = sent_in w }

unfoldable pub talk_in : List ℕ → Talk
talk_in w = record { line = line_in w; cut = cut_in w; acked = eqb (get_or w acked_at 0) 1; turn = turn_in w }

unfoldable pub slot_in : List ℕ → Slot
slot_in w =
    cond (eqb (state_in w) 1) (Greeting (line_in w) (sent_in w))
    (cond (eqb (state_in w) 2) (Ready (line_in w))
    (cond (eqb (state_in w) 3) (Busy (talk_in w))
    (cond (eqb (state_in w) 4) (Done (line_in w))
    (cond (eqb (state_in w) 5) Ended Empty))))

-- the numbers that name a case name one: six states, an R stands or not, three sorts of last block
unfoldable pub formed : List ℕ → Bool
formed w = leb (state_in w) 5 && (leb (get_or w acked_at 0) 1 && leb (get_or w last_at 0) 2)

-- ---- written: what a state does not need is 0

unfoldable pub line_bytes : (state : ℕ) → Line → (sent : ℕ) → List ℕ
line_bytes state l sent = state ∷ l.ifsc ∷ l.s ∷ l.r ∷ bytes_of 2 l.bwt ++ bytes_of 2 sent

unfoldable pub cut_bytes : Cut → List ℕ
cut_bytes c = bytes_of 2 c.whole ++ (bytes_of 2 c.from ++ bytes_of 1 c.len)

unfoldable pub last_bytes : Last → List ℕ
last_bytes last.TheVariants.I = 0 ∷ 0 ∷ 0 ∷ []
last_bytes (last.TheVariants.R nibble) = 1 ∷ nibble ∷ 0 ∷ []
last_bytes (last.TheVariants.S pcb byte) = 2 ∷ pcb ∷ byte ∷ []

unfoldable pub talk_bytes : Talk → List ℕ
talk_bytes t =
    line_bytes 3 t.line t.turn.sent
    ++ (cut_bytes t.cut ++ (cond t.acked 1 0 ∷ last_bytes t.turn.last ++ (t.turn.go ∷ bytes_of 1 t.turn.requests)))

-- a state that needs a line alone, and a count of blocks sent
unfoldable pub plain_bytes : (state : ℕ) → Line → (sent : ℕ) → List ℕ
plain_bytes state l sent = line_bytes state l sent ++ replicate 11 0

unfoldable pub slot_bytes : Slot → List ℕ
slot_bytes Empty = replicate 19 0
slot_bytes (Greeting l sent) = plain_bytes 1 l sent
slot_bytes (Ready l) = plain_bytes 2 l 0
slot_bytes (Busy t) = talk_bytes t
slot_bytes (Done l) = plain_bytes 4 l 0
slot_bytes Ended = 5 ∷ replicate 18 0
