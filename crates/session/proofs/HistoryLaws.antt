-- What a slot is told and keeps is what its past says, call by call. Assumes nothing.
use Prim.Native.Nat.{ℕ, suc, ◌+◌, ◌-◌, ◌*◌}
use mathlib.Core.Path.{◌≡◌, refl, sym, ap, ◌∙◌, subst}
use mathlib.Core.Logic.{inl, inr}
use mathlib.Core.Bool.{Bool, true, false, cond, ◌&&◌, false≢true}
use mathlib.Core.List.{List, [], ◌∷◌, ◌++◌}
use native.Mathlib.Omega.{arith}
use borrow.Author.Tests.{eqb-true, eqb-false}
use lib.Dec.{eqb}
use lib.ListN.{length, drop, length-append}
use Rattle.lent.proofs.Cases.{cond_case, and_left}
use Rattle.block.specs.Block.{head_of, block_of}
use Rattle.block.specs.Reader.{read_of, inf_read}
use Rattle.block.specs.declared.event.Event.{Event}
use Rattle.block.specs.declared.event.Event.TheVariants.{I, R, IfsRequest, IfsResponse, Abort, Wtx, Edc, Other}
use Rattle.std.specs.Prelude.{Ok, Err}
use Rattle.atr.specs.declared.report.Report.{Report}
use Rattle.atr.specs.Answer.{Answer as AtrAnswer, refusal_number, answer_of, zeros}
use Rattle.atr.proofs.AnswerLaws.{refusal_number-ne0}
use Rattle.pool.specs.Contents.{join}
use Rattle.shares.specs.Decide.{Row, plain, ask, is_ask, row_state, row_answer}
use Rattle.shares.specs.Log.{Entry, takes, happened}
use Rattle.session.specs.Slot.{Block, i_block, r_block, ifs_request, s_response, wire, Line, Talk, State, empty, greeting, ready, busy, done, ended, state_no, held_in}
use Rattle.session.specs.Call.{Lent, Input, attach, command, event, collect, remove, Answer, refuses, says}
use Rattle.session.specs.Refusal.{refusal}
use Rattle.session.specs.Sending.{Did, sends, ends, sent_at, again, greet_again, in_place_of, go_left}
use Rattle.session.specs.Session.{while_greeting, next_block, cut, unsent, due, took, stands, accepted, on_r, counted, on_request, now, while_busy, request_left, is_one_byte}
use Rattle.session.specs.Protocol.{stays, on_attach, on_command, on_event, on_collect, removed, does, row, t1}
use Rattle.session.specs.History.{Past, taken, is_attach, back_to, since, block_in, blocks, infs, event_in, state_in, counts, sent_by, held_by, Delivers, number_of, i_number, in_turn, Onward}
use Rattle.session.proofs.LawfulLaws.{either}

-- ---- what ties a state to its past

-- n blocks went out since the command (or attach)
abbrev pub Sent : State → (n : ℕ) → Type 0
Sent (greeting l k) n = k ≡ n
Sent (busy t) n = t.sent ≡ n
Sent empty n = Unit
Sent (ready l) n = Unit
Sent (done l got) n = Unit
Sent ended n = Unit

-- g are the INFs accepted since then
abbrev pub Got : State → (g : List (List ℕ)) → Type 0
Got (busy t) g = t.got ≡ g
Got (done l got) g = got ≡ g
Got empty g = Unit
Got (greeting l k) g = Unit
Got (ready l) g = Unit
Got ended g = Unit

-- n of them were accepted since attach
abbrev pub InTurn : State → (n : ℕ) → Type 0
InTurn (greeting l k) n = l.r ≡ in_turn n
InTurn (ready l) n = l.r ≡ in_turn n
InTurn (busy t) n = t.line.r ≡ in_turn n
InTurn (done l got) n = l.r ≡ in_turn n
InTurn empty n = Unit
InTurn ended n = Unit

pub record Inv (s : State) (h : Past) : Type 0 where
  pub told : state_in h ≡ state_no s
  pub sent : Sent s (blocks (since h))
  pub got : Got s (infs (since h))
  pub turn : InTurn s (length (infs (back_to is_attach h)))

-- what Told says of a call, but for the bounds
pub record Said (e : Entry t1) (h : Past) : Type 0 where
  pub sent : e.answer.sent ≡ sent_by e h
  pub delivers : Delivers e e.input h
  pub turns : e.cell ≡ true → i_number e.input ≡ in_turn (length (infs (back_to is_attach h)))
  pub onward : state_in h ≡ 3 → taken e ≡ true → event_in e.input ≡ 1 → Onward e.answer.state

-- after the call x, which got a cell or not: the state s, the answer a
abbrev After : Input → Past → (cell : Bool) → State → Answer → Type 0
After x h c s a =
    Inv s (record { input = x; cell = c; answer = a } ∷ h) × Said (record { input = x; cell = c; answer = a }) h

abbrev Good : Input → Past → Row State Answer → Type 0
Good x h (plain s a) = After x h false s a
Good x h (ask s a t b) = After x h true s a × After x h false t b

-- ---- what cannot be

never : {A : Type 0} → false ≡ true → A
never e = absurd (false≢true e)

unequal : {A : Type 0} (m n : ℕ) → eqb m n ≡ false → m ≡ n → A
unequal m n q e = absurd (eqb-false m n q e)

-- ---- refusals change nothing

refused-delivers : (x : Input) (n : ℕ) (h : Past) → eqb n 0 ≡ false → Delivers (record { input = x; cell = false; answer = refuses n }) x h
refused-delivers (attach l atr) n h q = tt
refused-delivers (command l bs) n h q = tt
refused-delivers (event l k bs) n h q = tt
refused-delivers (collect l) n h q = rw q
refused-delivers (remove l) n h q = tt

refused_good : (s : State) (x : Input) (n : ℕ) (h : Past) → eqb n 0 ≡ false → Inv s h → Good x h (plain s (refuses n))
unfolding back_to blocks infs state_in
refused_good s x n h q v = (
  record {
    told = rw q v.told;
    sent = rw q (subst (Sent s) (omega arith) v.sent);
    got = rw q v.got;
    turn = rw q v.turn;
  },
  record {
    sent = rw q;
    delivers = refused-delivers x n h q;
    turns = never;
    onward = λ _ t. never (sym q ∙ t);
  },
)

-- a call in a state that is not its own
stays_good : (s : State) (x : Input) (h : Past) → Inv s h → Good x h (stays s)
stays_good s x h v = refused_good s x 4 h refl v

-- ---- blocks sent

-- a block begins with NAD 00, so it has bytes
starts : (b : Block) → wire b ≡ 0x00 ∷ drop 1 (wire b)
unfolding wire block_of head_of
starts (i_block number more inf) = refl
starts (r_block number nibble) = refl
starts ifs_request = refl
starts (s_response pcb n) = refl

one_block : (x : Input) (b : Block) → counts x ≡ true → block_in x (wire b) ≡ 1
one_block (attach l atr) b c = ap (block_in (attach l atr)) (starts b)
one_block (command l bs) b c = ap (block_in (command l bs)) (starts b)
one_block (event l k bs) b c = ap (block_in (event l k bs)) (starts b)
one_block (collect l) b c = never c
one_block (remove l) b c = never c

-- ---- events

-- the number after one more I-block
turn_next_lem : (gs : List (List ℕ)) (g : List ℕ) → in_turn (length (gs ++ (g ∷ []))) ≡ 1 - in_turn (length gs)
unfolding in_turn
turn_next_lem gs g =
    let e : length (gs ++ (g ∷ [])) ≡ suc (length gs) = length-append gs (g ∷ []) ∙ omega arith in
    ap in_turn e

module _ (l : Lent) (k : ℕ) (bs : List ℕ) (h : Past) where
  abbrev Fine : (cell : Bool) → Did → Type 0
  Fine c d = After (event l k bs) h c d.state d.answer

  -- the INFs accepted, with this event's if it got a cell
  abbrev grown : (cell : Bool) → Past → List (List ℕ)
  grown c p = cond c (infs p ++ (inf_read k bs ∷ [])) (infs p)

  -- one that got a cell was in turn
  abbrev Numbered : (cell : Bool) → Type 0
  Numbered c = c ≡ true → i_number (event l k bs) ≡ in_turn (length (infs (back_to is_attach h)))

  -- whatever an event does that is not refused
  event_fine : (c : Bool) (s : State) (ending n wait : ℕ) (rep : Report) (out : List ℕ)
      → n ≡ blocks (since h) + block_in (event l k bs) out → Sent s n → Got s (grown c (since h))
      → InTurn s (length (grown c (back_to is_attach h))) → Numbered c → (state_in h ≡ 3 → Onward (state_no s))
      → After (event l k bs) h c s (says (state_no s) ending n wait rep out)
  unfolding back_to blocks infs state_in
  event_fine c s ending n wait rep out e sent got turn number onward = (
    record { told = refl; sent = subst (Sent s) e sent; got = got; turn = turn },
    record { sent = e; delivers = tt; turns = number; onward = λ was _ _. onward was },
  )

  ends_fine : (c : Bool) (ending n : ℕ) → n ≡ blocks (since h) → Numbered c → Fine c (ends ending n)
  ends_fine c ending n e number =
      event_fine c ended ending n 0 zeros [] (e ∙ omega arith) tt tt tt number (λ _. inr (inr refl))

  -- A command's numbers before a block goes out: the blocks sent, the INFs accepted and r, this event's INF among them
  -- if it got a cell.
  record Now (c : Bool) (sent : ℕ) (got : List (List ℕ)) (r : ℕ) : Type 0 where
    sent_so : sent ≡ blocks (since h)
    got_so : got ≡ grown c (since h)
    turn_so : r ≡ in_turn (length (grown c (back_to is_attach h)))
    number_so : Numbered c

  abbrev At : (cell : Bool) → Talk → Type 0
  At c t = Now c t.sent t.got t.line.r

  sends_fine : (c : Bool) (t : Talk) (b : Block) (go wait : ℕ) → At c t
      → Fine c (sends (busy (sent_at t b go)) b (t.sent + 1) wait zeros)
  sends_fine c t b go wait a =
      event_fine c (busy (sent_at t b go)) 0 (t.sent + 1) wait zeros (wire b)
      (rw (one_block (event l k bs) b refl) (ap (λ n. n + 1) a.sent_so)) refl a.got_so a.turn_so a.number_so (λ _. inl refl)

  talk_ends : (c : Bool) (t : Talk) (ending : ℕ) → At c t → Fine c (ends ending t.sent)
  talk_ends c t ending a = ends_fine c ending t.sent a.sent_so a.number_so

  again_fine : (t : Talk) (b : Block) → At false t → Fine false (again t b)
  again_fine t b a =
      either (Fine false) (go_left t.go) (sends_fine false t b (t.go + 1) t.line.bwt a) (talk_ends false t 21 a)

  invalid_fine : (last : Block) (t : Talk) (nibble : ℕ) → At false t → Fine false (in_place_of last t nibble)
  invalid_fine (i_block number more inf) t nibble a = again_fine t (r_block t.line.r nibble) a
  invalid_fine (r_block number j) t nibble a = again_fine t (r_block number j) a
  invalid_fine ifs_request t nibble a = again_fine t ifs_request a
  invalid_fine (s_response pcb n) t nibble a = again_fine t (r_block t.line.r nibble) a

  -- r flips when a cell is taken, and the block that took it was numbered r
  at_took : (t : Talk) (number : ℕ) (more : Bool) → read_of k bs ≡ I number more → due t number ≡ true → At false t
      → At true (took t (inf_read k bs))
  at_took t number more q d a = record {
    sent_so = a.sent_so;
    got_so = ap (λ g. g ++ (inf_read k bs ∷ [])) a.got_so;
    turn_so = ap (λ n. 1 - n) a.turn_so ∙ sym (turn_next_lem (infs (back_to is_attach h)) (inf_read k bs));
    number_so = λ _. ap number_of q ∙ eqb-true number t.line.r (and_left _ _ d) ∙ a.turn_so;
  }

  accepted_fine : (t : Talk) (more : Bool) → At true t → Fine true (accepted t more)
  accepted_fine t more a =
      let r = r_block t.line.r 0 in
      either (Fine true) more (sends_fine true (stands t r) r 1 t.line.bwt a)
      (either (Fine true) (is_one_byte t) (talk_ends true t 23 a)
      (event_fine true (done t.line t.got) 0 t.sent 0 zeros []
      (a.sent_so ∙ omega arith) tt a.got_so a.turn_so a.number_so (λ _. inr (inl refl))))

  r_fine : (standing : Block) (t : Talk) (number : ℕ) → At false t → Fine false (on_r standing t number)
  r_fine (i_block n more inf) t number a =
      either (Fine false) (eqb number t.line.s) (again_fine t t.standing a)
      (either (Fine false) more (sends_fine false (cut t) (next_block t) 1 t.line.bwt a) (invalid_fine t.last t 2 a))
  r_fine (r_block n nibble) t number a =
      either (Fine false) (eqb number (1 - t.line.s)) (again_fine t t.standing a) (invalid_fine t.last t 2 a)
  r_fine ifs_request t number a = invalid_fine t.last t 2 a
  r_fine (s_response pcb n) t number a = invalid_fine t.last t 2 a

  request_fine : (t : Talk) (ifsc : ℕ) (b : Block) (wait : ℕ) → At false t → Fine false (on_request t ifsc b wait)
  request_fine t ifsc b wait a =
      either (Fine false) (request_left t.requests) (sends_fine false (counted t ifsc) b 1 wait a) (talk_ends false t 24 a)

  busy_good : (t : Talk) (e : Event) → read_of k bs ≡ e → At false t → Good (event l k bs) h (while_busy t e (inf_read k bs))
  busy_good t (I number more) q a =
      cond_case (Good (event l k bs) h) (due t number)
      (λ d. (accepted_fine (took t (inf_read k bs)) more (at_took t number more q d a), talk_ends false t 20 a))
      (λ _. invalid_fine t.last t 2 a)
  busy_good t (R number) q a = r_fine t.standing t number a
  busy_good t (IfsRequest n) q a = request_fine t n (s_response 0xE1 n) t.line.bwt a
  busy_good t (Wtx n) q a = request_fine t t.line.ifsc (s_response 0xE3 n) (n * t.line.bwt) a
  busy_good t Abort q a = talk_ends false t 22 a
  busy_good t (IfsResponse n) q a = invalid_fine t.last t 2 a
  busy_good t Edc q a = invalid_fine t.last t 1 a
  busy_good t Other q a = invalid_fine t.last t 2 a

  module _ (m : Line) (n : ℕ) (v : Inv (greeting m n) h) where
    not_busy : {A : Type 0} → state_in h ≡ 3 → A
    not_busy was = unequal 1 3 refl (sym v.told ∙ was)

    greet_ends : (ending : ℕ) → Fine false (ends ending n)
    greet_ends ending = ends_fine false ending n v.sent never

    greet_again_lem : Fine false (greet_again m n)
    greet_again_lem =
        either (Fine false) (go_left n)
        (event_fine false (greeting m (n + 1)) 0 (n + 1) m.bwt zeros (wire ifs_request)
        (rw (one_block (event l k bs) ifs_request refl) (ap (λ j. j + 1) v.sent)) refl tt v.turn never
        not_busy)
        (greet_ends 21)

    greet_good : (e : Event) → Fine false (while_greeting m n e)
    greet_good (IfsResponse j) =
        either (Fine false) (eqb j 0xFE)
        (event_fine false (ready m) 0 n 0 zeros [] (v.sent ∙ omega arith) tt tt v.turn never not_busy)
        greet_again_lem
    greet_good Abort = greet_ends 22
    greet_good (I number more) = greet_again_lem
    greet_good (R number) = greet_again_lem
    greet_good (IfsRequest j) = greet_again_lem
    greet_good (Wtx j) = greet_again_lem
    greet_good Edc = greet_again_lem
    greet_good Other = greet_again_lem

  event_good : (s : State) → Inv s h → Good (event l k bs) h (on_event s (read_of k bs) (inf_read k bs))
  event_good (greeting m n) v = greet_good m n v (read_of k bs)
  event_good (busy t) v =
      busy_good t (read_of k bs) refl (record { sent_so = v.sent; got_so = v.got; turn_so = v.turn; number_so = never })
  event_good empty v = stays_good empty (event l k bs) h v
  event_good (ready m) v = stays_good (ready m) (event l k bs) h v
  event_good (done m got) v = stays_good (done m got) (event l k bs) h v
  event_good ended v = stays_good ended (event l k bs) h v

-- ---- the other calls: none is an event, so that event_in is 0, and none takes a cell

taken_good : (rep : Report) (s : State) (l : Lent) (atr : List ℕ) (h : Past) → Good (attach l atr) h (on_attach s (Ok rep))
unfolding back_to blocks infs state_in in_turn
taken_good rep s l atr h =
    let one = one_block (attach l atr) ifs_request refl in (
      record { told = refl; sent = rw one; got = tt; turn = refl },
      record { sent = rw one; delivers = tt; turns = never; onward = λ _ _. unequal 0 1 refl },
    )

attach_good : (s : State) (l : Lent) (atr : List ℕ) (h : Past) → (a : AtrAnswer) → Inv s h → Good (attach l atr) h (on_attach s a)
attach_good s l atr h (Ok rep) v = taken_good rep s l atr h
attach_good s l atr h (Err e) v = refused_good s (attach l atr) (refusal_number e) h (refusal_number-ne0 e) v

command_good : (s : State) (l : Lent) (bs : List ℕ) (h : Past) → Inv s h → Good (command l bs) h (on_command s bs)
unfolding back_to blocks infs state_in
command_good (ready m) l bs h v =
    let one = one_block (command l bs) (next_block (unsent m bs)) refl in (
      record { told = refl; sent = rw one; got = refl; turn = v.turn },
      record { sent = rw one; delivers = tt; turns = never; onward = λ _ _. unequal 0 1 refl },
    )
command_good empty l bs h v = stays_good empty (command l bs) h v
command_good (greeting m n) l bs h v = stays_good (greeting m n) (command l bs) h v
command_good (busy t) l bs h v = stays_good (busy t) (command l bs) h v
command_good (done m got) l bs h v = stays_good (done m got) (command l bs) h v
command_good ended l bs h v = stays_good ended (command l bs) h v

collect_good : (s : State) (l : Lent) (h : Past) → Inv s h → Good (collect l) h (on_collect s)
unfolding back_to blocks infs state_in
collect_good (done m got) l h v = (
  record { told = refl; sent = tt; got = tt; turn = v.turn },
  record { sent = refl; delivers = ap join v.got; turns = never; onward = λ _ _. unequal 0 1 refl },
)
collect_good empty l h v = stays_good empty (collect l) h v
collect_good (greeting m n) l h v = stays_good (greeting m n) (collect l) h v
collect_good (ready m) l h v = stays_good (ready m) (collect l) h v
collect_good (busy t) l h v = stays_good (busy t) (collect l) h v
collect_good ended l h v = stays_good ended (collect l) h v

remove_good : (l : Lent) (h : Past) → Good (remove l) h (now removed)
unfolding state_in
remove_good l h = (
  record { told = refl; sent = tt; got = tt; turn = tt },
  record { sent = refl; delivers = tt; turns = never; onward = λ _ _. unequal 0 1 refl },
)

-- ---- every call

does_good : (s : State) (x : Input) (h : Past) → Inv s h → Good x h (does s x)
does_good s (attach l atr) h v = attach_good s l atr h (answer_of atr) v
does_good s (command l bs) h v = command_good s l bs h v
does_good s (event l k bs) h v = event_good l k bs h s v
does_good s (collect l) h v = collect_good s l h v
does_good s (remove l) h v = remove_good l h

row_good : (s : State) (x : Input) (h : Past) → Inv s h → Good x h (row s x)
unfolding row
row_good s x h v =
    cond_case (Good x h) (eqb (refusal s x) 0) (λ _. does_good s x h v) (λ q. refused_good s x (refusal s x) h q v)

-- what is asked for is given or not
with_grant : (x : Input) (h : Past) (w : Row State Answer) (g : Bool) → Good x h w
    → After x h (is_ask w && g) (row_state w (is_ask w && g)) (row_answer w (is_ask w && g))
with_grant x h (plain s a) g v = v
with_grant x h (ask s a t b) true v = v.0
with_grant x h (ask s a t b) false v = v.1

pub step_said : (i : ℕ) (s : State) (h : Past) (x : Input) (g : Bool) → Inv s h
    → Inv (t1.next i s (takes t1 i s x g) x) (happened t1 i s x g ∷ h) × Said (happened t1 i s x g) h
step_said i s h x g v = with_grant x h (row s x) g (row_good s x h v)

pub inv_empty : Inv empty []
unfolding state_in
inv_empty = record { told = refl; sent = tt; got = tt; turn = tt }

-- a slot holds what its past says
pub held-told : (s : State) (h : Past) → Inv s h → held_in s ≡ held_by h
held-told empty h v = rw v.told
held-told (greeting l n) h v = rw v.told
held-told (ready l) h v = rw v.told
held-told (busy t) h v = rw v.told (ap length v.got)
held-told (done l got) h v = rw v.told (ap length v.got)
held-told ended h v = rw v.told
