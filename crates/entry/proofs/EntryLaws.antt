-- Laws of a slot's entry: its bytes are read as the slot that was written, and the state says which slot bytes are.
-- Assumes nothing.
use Prim.Native.Nat.{ℕ, zero, suc, ◌+◌, ◌/◌, ◌%◌, ◌^◌, ◌≤◌, ◌<◌}
use mathlib.Core.Path.{◌≡◌, refl, sym, ap, ap₂, ◌∙◌}
use mathlib.Core.Bool.{Bool, true, false, cond, ◌&&◌}
use mathlib.Core.List.{List, ◌∷◌, ◌++◌}
use native.Mathlib.Omega.{arith}
use lib.Dec.{eqb, leb}
use lib.ListN.{length, get_or, replicate, length-append}
use borrow.Author.Tests.{leb-true}
use Rattle.lent.specs.Place.{window}
use Rattle.lent.specs.Number.{number_of, bytes_of, number_at}
use Rattle.lent.proofs.Cases.{and_left, and_right}
use Rattle.lent.proofs.NumberLaws.{number-bytes, number_in_lem}
use Rattle.block.specs.Event.{between}
use Rattle.slot.specs.declared.parts.Line.{Line}
use Rattle.slot.specs.declared.parts.Last as last
use Rattle.slot.specs.declared.parts.Last.{Last}
use Rattle.slot.specs.declared.parts.Talk.{Talk}
use Rattle.slot.specs.declared.parts.Slot.{Slot}
use Rattle.slot.specs.declared.parts.Slot.TheVariants.{Empty, Greeting, Ready, Busy, Done, Ended}
use Rattle.session.specs.Kept.{LineKept}
use Rattle.slot.specs.Fit.{fits, CutIn, InRange}
use Rattle.slot.specs.View.{line_of, slot_no}
use Rattle.slot.proofs.FitLaws.{line_fit, talk_fit}
use Rattle.entry.specs.Layout.{bwt_at, sent_at, whole_at, from_at, len_at, acked_at, last_at, go_at, requests_at, entry_size}
use Rattle.entry.specs.Entry.{state_in, sent_in, whole_in, line_in, cut_in, last_in, turn_in, talk_in, slot_in, formed, line_bytes, cut_bytes, last_bytes, talk_bytes, plain_bytes, slot_bytes}

-- ---- the slot that a state names

pub is_greeting : (w : List ℕ) → state_in w ≡ 1 → slot_in w ≡ Greeting (line_in w) (sent_in w)
unfolding slot_in
is_greeting w e = rw e

pub is_ready : (w : List ℕ) → state_in w ≡ 2 → slot_in w ≡ Ready (line_in w)
unfolding slot_in
is_ready w e = rw e

pub is_busy : (w : List ℕ) → state_in w ≡ 3 → slot_in w ≡ Busy (talk_in w)
unfolding slot_in
is_busy w e = rw e

pub is_done : (w : List ℕ) → state_in w ≡ 4 → slot_in w ≡ Done (line_in w)
unfolding slot_in
is_done w e = rw e

pub is_ended : (w : List ℕ) → state_in w ≡ 5 → slot_in w ≡ Ended
unfolding slot_in
is_ended w e = rw e

pub is_empty : (w : List ℕ) → state_in w ≡ 0 → slot_in w ≡ Empty
unfolding slot_in
is_empty w e = rw e

pub state_no_lem : (w : List ℕ) → formed w ≡ true → slot_no (slot_in w) ≡ state_in w
unfolding formed
state_no_lem w f = go (state_in w) refl (leb-true (state_in w) 5 (and_left _ _ f))
  where
    go : (n : ℕ) → state_in w ≡ n → n ≤ 5 → slot_no (slot_in w) ≡ state_in w
    go zero e h = ap slot_no (is_empty w e) ∙ sym e
    go (suc zero) e h = ap slot_no (is_greeting w e) ∙ sym e
    go (suc (suc zero)) e h = ap slot_no (is_ready w e) ∙ sym e
    go (suc (suc (suc zero))) e h = ap slot_no (is_busy w e) ∙ sym e
    go (suc (suc (suc (suc zero)))) e h = ap slot_no (is_done w e) ∙ sym e
    go (suc (suc (suc (suc (suc zero))))) e h = ap slot_no (is_ended w e) ∙ sym e
    go (suc (suc (suc (suc (suc (suc n)))))) e h = absurd (omega arith)

-- ---- the last byte of a number

pub low : (v : ℕ) → v / 256 ^ 0 % 256 ≡ v % 256
low v = omega arith

-- ---- the three bytes of the last block sent

length_last : (l : Last) → length (last_bytes l) ≡ 3
unfolding last_bytes
length_last last.TheVariants.I = refl
length_last (last.TheVariants.R nibble) = refl
length_last (last.TheVariants.S pcb byte) = refl

-- they are three
pub last_three : (l : Last) (rest : List ℕ) → get_or (last_bytes l) 0 0 ∷ get_or (last_bytes l) 1 0 ∷ get_or (last_bytes l) 2 0 ∷ rest ≡ last_bytes l ++ rest
unfolding last_bytes
last_three last.TheVariants.I rest = refl
last_three (last.TheVariants.R nibble) rest = refl
last_three (last.TheVariants.S pcb byte) rest = refl

-- what stands behind them
behind_last : (l : Last) (rest : List ℕ) (i : ℕ) → get_or (last_bytes l ++ rest) (suc (suc (suc i))) 0 ≡ get_or rest i 0
unfolding last_bytes
behind_last last.TheVariants.I rest i = refl
behind_last (last.TheVariants.R nibble) rest i = refl
behind_last (last.TheVariants.S pcb byte) rest i = refl

last_formed : (l : Last) (rest : List ℕ) → leb (get_or (last_bytes l ++ rest) 0 0) 2 ≡ true
unfolding last_bytes
last_formed last.TheVariants.I rest = refl
last_formed (last.TheVariants.R nibble) rest = refl
last_formed (last.TheVariants.S pcb byte) rest = refl

-- whatever stands before them
last_read : (l : Last) (rest : List ℕ) → last_in (replicate last_at 0 ++ (last_bytes l ++ rest)) ≡ l
unfolding last_bytes last_in
last_read last.TheVariants.I rest = refl
last_read (last.TheVariants.R nibble) rest = refl
last_read (last.TheVariants.S pcb byte) rest = refl

-- ---- lengths

length-line : (state : ℕ) (l : Line) (sent : ℕ) → length (line_bytes state l sent) ≡ 8
unfolding line_bytes bytes_of
length-line state l sent = refl

length-plain : (state : ℕ) (l : Line) (sent : ℕ) → length (plain_bytes state l sent) ≡ entry_size
unfolding plain_bytes line_bytes bytes_of
length-plain state l sent = refl

length_talk : (t : Talk) → length (talk_bytes t) ≡ entry_size
unfolding talk_bytes cut_bytes bytes_of
length_talk t = simp (length-append, length-line, length_last)

pub length_slot : (x : Slot) → length (slot_bytes x) ≡ entry_size
unfolding slot_bytes
length_slot Empty = refl
length_slot (Greeting l sent) = length-plain 1 l sent
length_slot (Ready l) = length-plain 2 l 0
length_slot (Busy t) = length_talk t
length_slot (Done l) = length-plain 4 l 0
length_slot Ended = refl

-- ---- each case has its number

abbrev flag : Bool → ℕ
flag a = cond a 1 0

flag_formed : (a : Bool) → leb (flag a) 1 ≡ true
flag_formed true = refl
flag_formed false = refl

flag_read : (a : Bool) → eqb (flag a) 1 ≡ a
flag_read true = refl
flag_read false = refl

talk_formed : (t : Talk) → formed (talk_bytes t) ≡ true
unfolding formed talk_bytes line_bytes cut_bytes bytes_of
talk_formed t =
    ap₂ ◌&&◌ (flag_formed t.acked) (last_formed t.turn.last (t.turn.go ∷ bytes_of 1 t.turn.requests))

pub bytes-formed : (x : Slot) → formed (slot_bytes x) ≡ true
unfolding formed slot_bytes plain_bytes line_bytes bytes_of
bytes-formed Empty = refl
bytes-formed (Greeting l sent) = refl
bytes-formed (Ready l) = refl
bytes-formed (Busy t) = talk_formed t
bytes-formed (Done l) = refl
bytes-formed Ended = refl

-- ---- what was written is read

-- a number of which the bytes stand at a place
number_back : (w : List ℕ) (a n v : ℕ) → a + n ≤ length w → window w a n ≡ bytes_of n v → v < 256 ^ n → number_at w a n ≡ v
number_back w a n v h e l = number_in_lem w a n h ∙ ap number_of e ∙ number-bytes n v l

one_byte : (v : ℕ) → v < 256 → v / 256 ^ 0 % 256 ≡ v
one_byte v h = omega arith

-- a line, whatever stands behind it
module _ (state : ℕ) (l : Line) (sent : ℕ) (rest : List ℕ) where
  abbrev before : List ℕ
  before = line_bytes state l sent ++ rest

  room : 8 ≤ length before
  room = omega (arith, length-line state l sent, length-append (line_bytes state l sent) rest)

  line_back : LineKept (line_of l) → line_in before ≡ l
  unfolding line_in line_bytes bytes_of window
  line_back k =
      let bwt : number_at before bwt_at 2 ≡ l.bwt =
      number_back before bwt_at 2 l.bwt (omega (arith, room)) refl (omega (arith, k.bwt)) in
      rw bwt

  sent_back : sent < 65536 → sent_in before ≡ sent
  unfolding line_bytes bytes_of window
  sent_back h = number_back before sent_at 2 sent (omega (arith, room)) refl h

-- a command under way
module _ (t : Talk) where
  abbrev w : List ℕ
  w = talk_bytes t

  -- the bytes behind those of the last block sent
  abbrev behind : List ℕ
  behind = t.turn.go ∷ bytes_of 1 t.turn.requests

  talk_number : (a n v : ℕ) → a + n ≤ entry_size → window w a n ≡ bytes_of n v → v < 256 ^ n → number_at w a n ≡ v
  talk_number a n v h e l = number_back w a n v (omega (arith, length_talk t)) e l

  state_in_lem : state_in w ≡ 3
  unfolding talk_bytes line_bytes
  state_in_lem = refl

  whole_in_lem : CutIn t.cut → whole_in w ≡ t.cut.whole
  unfolding talk_bytes line_bytes cut_bytes bytes_of window
  whole_in_lem f = talk_number whole_at 2 t.cut.whole (omega arith) refl (omega (arith, f.most))

  from_in : CutIn t.cut → number_at w from_at 2 ≡ t.cut.from
  unfolding talk_bytes line_bytes cut_bytes bytes_of window
  from_in f = talk_number from_at 2 t.cut.from (omega arith) refl (omega (arith, f.ends, f.most))

  len_in : CutIn t.cut → get_or w len_at 0 ≡ t.cut.len
  unfolding talk_bytes line_bytes cut_bytes bytes_of
  len_in f = one_byte t.cut.len (omega (arith, f.few))

  acked_in : eqb (get_or w acked_at 0) 1 ≡ t.acked
  unfolding talk_bytes line_bytes cut_bytes bytes_of
  acked_in = flag_read t.acked

  last_in_lem : last_in w ≡ t.turn.last
  unfolding talk_bytes line_bytes cut_bytes bytes_of last_in
  last_in_lem = last_read t.turn.last behind

  go_in : get_or w go_at 0 ≡ t.turn.go
  unfolding talk_bytes line_bytes cut_bytes bytes_of
  go_in = behind_last t.turn.last behind 0

  requests_in : t.turn.requests < 256 → get_or w requests_at 0 ≡ t.turn.requests
  unfolding talk_bytes line_bytes cut_bytes bytes_of
  requests_in h = behind_last t.turn.last behind 1 ∙ one_byte t.turn.requests h

  rest : List ℕ
  rest = cut_bytes t.cut ++ (flag t.acked ∷ last_bytes t.turn.last ++ behind)

  line_in_lem : LineKept (line_of t.line) → line_in w ≡ t.line
  unfolding talk_bytes rest
  line_in_lem = line_back 3 t.line t.turn.sent rest

  sent_in_lem : t.turn.sent < 65536 → sent_in w ≡ t.turn.sent
  unfolding talk_bytes rest
  sent_in_lem = sent_back 3 t.line t.turn.sent rest

  talk_back : InRange t → talk_in w ≡ t
  unfolding talk_in cut_in turn_in
  talk_back f =
      rw (
        line_in_lem f.line,
        whole_in_lem f.cut,
        from_in f.cut,
        len_in f.cut,
        acked_in,
        last_in_lem,
        go_in,
        requests_in (omega (arith, f.requests)),
        sent_in_lem (omega (arith, f.sent)),
      )

-- a state that needs a line alone
plain-state : (state : ℕ) (l : Line) (sent : ℕ) → state_in (plain_bytes state l sent) ≡ state
unfolding plain_bytes line_bytes
plain-state state l sent = refl

plain-sent : (state : ℕ) (l : Line) (sent : ℕ) → sent < 65536 → sent_in (plain_bytes state l sent) ≡ sent
unfolding plain_bytes
plain-sent state l sent = sent_back state l sent (replicate 11 0)

plain-line : (state : ℕ) (l : Line) (sent : ℕ) → LineKept (line_of l) → line_in (plain_bytes state l sent) ≡ l
unfolding plain_bytes
plain-line state l sent = line_back state l sent (replicate 11 0)

-- a slot that fits
pub whole_back : (t : Talk) (held : ℕ) → fits (Busy t) held ≡ true → whole_in (slot_bytes (Busy t)) ≡ t.cut.whole
unfolding fits slot_bytes
whole_back t held e = whole_in_lem t (talk_fit t held e).range.cut

pub back : (x : Slot) (held : ℕ) → fits x held ≡ true → slot_in (slot_bytes x) ≡ x
unfolding fits slot_bytes
back Empty held e = is_empty (slot_bytes Empty) refl
back (Greeting l sent) held e =
    let e1 = and_right (eqb held 0) _ e in
    let few : sent ≤ 3 = leb-true sent 3 (and_right (leb 1 sent) _ (and_left _ _ e1)) in
    is_greeting (plain_bytes 1 l sent) (plain-state 1 l sent)
    ∙ ap₂ Greeting (plain-line 1 l sent (line_fit l (and_right (between 1 sent 3) _ e1))) (plain-sent 1 l sent (omega arith))
back (Ready l) held e = is_ready (plain_bytes 2 l 0) (plain-state 2 l 0) ∙ ap Ready (plain-line 2 l 0 (line_fit l (and_right (eqb held 0) _ e)))
back (Busy t) held e = is_busy (talk_bytes t) (state_in_lem t) ∙ ap Busy (talk_back t (talk_fit t held e).range)
back (Done l) held e = is_done (plain_bytes 4 l 0) (plain-state 4 l 0) ∙ ap Done (plain-line 4 l 0 (line_fit l e))
back Ended held e = is_ended (slot_bytes Ended) refl
