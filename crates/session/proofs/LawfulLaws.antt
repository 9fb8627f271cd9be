-- T=1 takes one cell at most, and none that it was not given. Assumes nothing.
use Prim.Native.Nat.{ℕ, suc, ◌-◌, ◌*◌, ◌≤◌}
use mathlib.Core.Path.{◌≡◌, ◌∙◌}
use mathlib.Core.Bool.{Bool, cond}
use mathlib.Core.List.{List, [], ◌∷◌, ◌++◌}
use native.Mathlib.Omega.{arith}
use lib.Dec.{eqb}
use lib.ListN.{length, length-append}
use Rattle.lent.proofs.Cases.{cond_case}
use Rattle.block.specs.Reader.{read_of, inf_read}
use Rattle.block.specs.declared.event.Event.{Event}
use Rattle.block.specs.declared.event.Event.TheVariants.{I, R, IfsRequest, IfsResponse, Abort, Wtx, Edc, Other}
use Rattle.std.specs.Prelude.{Ok, Err}
use Rattle.atr.specs.Answer.{Answer as AtrAnswer, answer_of}
use Rattle.shares.specs.Rack.{Lawful}
use Rattle.shares.specs.Decide.{Row, Fair}
use Rattle.shares.proofs.DecideLaws.{decided_lawful}
use Rattle.session.specs.Slot.{Block, i_block, r_block, ifs_request, s_response, Line, Talk, State, empty, greeting, ready, busy, done, ended, held_in}
use Rattle.session.specs.Call.{Input, attach, command, event, collect, remove, Answer, refuses}
use Rattle.session.specs.Refusal.{refusal, no_slot}
use Rattle.session.specs.Sending.{Did, again, greet_again, in_place_of, go_left}
use Rattle.session.specs.Session.{while_greeting, due, took, accepted, on_r, on_request, while_busy, request_left, is_one_byte}
use Rattle.session.specs.Protocol.{on_attach, on_command, on_event, on_collect, does, row, t1}

-- what holds of both holds whichever a test picks
pub either : {A : Type 0} (Q : A → Type 0) (b : Bool) {x y : A} → Q x → Q y → Q (cond b x y)
either Q b f g = cond_case Q b (λ _. f) (λ _. g)

-- at most n cells are held after it
abbrev AtMost : ℕ → Did → Type 0
AtMost n d = held_in d.state ≤ n

abbrev FairIn : State → Row State Answer → Type 0
FairIn s w = Fair held_in (held_in s) w

-- ---- while busy: an I-block accepted takes one cell, nothing else takes any

module _ (t : Talk) where
  abbrev NoMore : Did → Type 0
  NoMore d = AtMost (length t.got) d

  again_keeps : (b : Block) → NoMore (again t b)
  again_keeps b = either NoMore (go_left t.go) (omega arith) (omega arith)

  invalid-keeps : (last : Block) (nibble : ℕ) → NoMore (in_place_of last t nibble)
  invalid-keeps (i_block number more inf) nibble = again_keeps (r_block t.line.r nibble)
  invalid-keeps (r_block number k) nibble = again_keeps (r_block number k)
  invalid-keeps ifs_request nibble = again_keeps ifs_request
  invalid-keeps (s_response pcb n) nibble = again_keeps (r_block t.line.r nibble)

  r-keeps : (standing : Block) (number : ℕ) → NoMore (on_r standing t number)
  r-keeps (i_block n more inf) number =
      either NoMore (eqb number t.line.s) (again_keeps t.standing) (either NoMore more (omega arith) (invalid-keeps t.last 2))
  r-keeps (r_block n nibble) number =
      either NoMore (eqb number (1 - t.line.s)) (again_keeps t.standing) (invalid-keeps t.last 2)
  r-keeps ifs_request number = invalid-keeps t.last 2
  r-keeps (s_response pcb n) number = invalid-keeps t.last 2

  request_keeps : (ifsc : ℕ) (b : Block) (wait : ℕ) → NoMore (on_request t ifsc b wait)
  request_keeps ifsc b wait = either NoMore (request_left t.requests) (omega arith) (omega arith)

  accepted-takes : (inf : List ℕ) (more : Bool) → AtMost (suc (length t.got)) (accepted (took t inf) more)
  accepted-takes inf more =
      let e : length (t.got ++ (inf ∷ [])) ≡ suc (length t.got) = length-append t.got (inf ∷ []) ∙ omega arith in
      either (AtMost (suc (length t.got))) more (omega arith)
      (either (AtMost (suc (length t.got))) (is_one_byte (took t inf)) (omega arith) (omega arith))

  busy_fair : (e : Event) (inf : List ℕ) → FairIn (busy t) (while_busy t e inf)
  busy_fair (I number more) inf =
      either (FairIn (busy t)) (due t number) (accepted-takes inf more, omega arith) (invalid-keeps t.last 2)
  busy_fair (R number) inf = r-keeps t.standing number
  busy_fair (IfsRequest n) inf = request_keeps n (s_response 0xE1 n) t.line.bwt
  busy_fair (Wtx n) inf = request_keeps t.line.ifsc (s_response 0xE3 n) (n * t.line.bwt)
  busy_fair Abort inf = omega arith
  busy_fair (IfsResponse n) inf = invalid-keeps t.last 2
  busy_fair Edc inf = invalid-keeps t.last 1
  busy_fair Other inf = invalid-keeps t.last 2

-- ---- in any state

greet_again_lem : (l : Line) (n : ℕ) → AtMost 0 (greet_again l n)
greet_again_lem l n = either (AtMost 0) (go_left n) (omega arith) (omega arith)

greet_fair : (l : Line) (n : ℕ) (e : Event) → AtMost 0 (while_greeting l n e)
greet_fair l n (IfsResponse v) = either (AtMost 0) (eqb v 0xFE) (omega arith) (greet_again_lem l n)
greet_fair l n Abort = omega arith
greet_fair l n (I number more) = greet_again_lem l n
greet_fair l n (R number) = greet_again_lem l n
greet_fair l n (IfsRequest v) = greet_again_lem l n
greet_fair l n (Wtx v) = greet_again_lem l n
greet_fair l n Edc = greet_again_lem l n
greet_fair l n Other = greet_again_lem l n

attach_fair : (s : State) (a : AtrAnswer) → FairIn s (on_attach s a)
attach_fair s (Ok rep) = omega arith
attach_fair s (Err e) = omega arith

command_fair : (s : State) (bs : List ℕ) → FairIn s (on_command s bs)
command_fair (ready l) bs = omega arith
command_fair empty bs = omega arith
command_fair (greeting l n) bs = omega arith
command_fair (busy t) bs = omega arith
command_fair (done l got) bs = omega arith
command_fair ended bs = omega arith

event_fair : (s : State) (e : Event) (inf : List ℕ) → FairIn s (on_event s e inf)
event_fair (greeting l n) e inf = greet_fair l n e
event_fair (busy t) e inf = busy_fair t e inf
event_fair empty e inf = omega arith
event_fair (ready l) e inf = omega arith
event_fair (done l got) e inf = omega arith
event_fair ended e inf = omega arith

collect_fair : (s : State) → FairIn s (on_collect s)
collect_fair (done l got) = omega arith
collect_fair empty = omega arith
collect_fair (greeting l n) = omega arith
collect_fair (ready l) = omega arith
collect_fair (busy t) = omega arith
collect_fair ended = omega arith

does_fair : (s : State) (x : Input) → FairIn s (does s x)
does_fair s (attach l atr) = attach_fair s (answer_of atr)
does_fair s (command l bs) = command_fair s bs
does_fair s (event l k bs) = event_fair s (read_of k bs) (inf_read k bs)
does_fair s (collect l) = collect_fair s
does_fair s (remove l) = omega arith

row_fair : (s : State) (x : Input) → FairIn s (row s x)
unfolding row
row_fair s x = either (FairIn s) (eqb (refusal s x) 0) (does_fair s x) (omega arith)

pub t1_lawful : Lawful t1
t1_lawful = decided_lawful State Input Answer held_in row (λ c. refuses (no_slot c)) row_fair
