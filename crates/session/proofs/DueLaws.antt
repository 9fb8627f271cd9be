-- A cell is asked for exactly in the first row of the paper's table, by a call that is not refused. Assumes nothing.
use Prim.Native.Nat.{ℕ}
use mathlib.Core.Path.{◌≡◌, refl, sym, ap, ◌∙◌}
use mathlib.Core.Bool.{Bool, false, ◌&&◌}
use mathlib.Core.List.{List}
use lib.Dec.{eqb}
use Rattle.lent.proofs.Cases.{cond_case}
use Rattle.block.specs.Reader.{read_of, inf_read}
use Rattle.block.specs.declared.event.Event.{Event}
use Rattle.block.specs.declared.event.Event.TheVariants.{I, R, IfsRequest, IfsResponse, Abort, Wtx, Edc, Other}
use Rattle.std.specs.Prelude.{Ok, Err}
use Rattle.atr.specs.Answer.{Answer as AtrAnswer, answer_of}
use Rattle.shares.specs.Decide.{Row, is_ask}
use Rattle.session.specs.Slot.{Talk, State, empty, greeting, ready, busy, done, ended}
use Rattle.session.specs.Call.{Input, attach, command, event, collect, remove, Answer}
use Rattle.session.specs.Refusal.{refusal}
use Rattle.session.specs.Session.{due, while_busy}
use Rattle.session.specs.Due.{due_event, due_on, due_in}
use Rattle.session.specs.Protocol.{on_attach, on_command, on_event, on_collect, does, row, t1}

abbrev Asks : Bool → Row State Answer → Type 0
Asks b w = is_ask w ≡ b

busy-asks : (t : Talk) (e : Event) (inf : List ℕ) → Asks (due_event t e) (while_busy t e inf)
busy-asks t (I number more) inf = cond_case (Asks (due t number)) (due t number) (λ e. sym e) (λ e. sym e)
busy-asks t (R number) inf = refl
busy-asks t (IfsRequest n) inf = refl
busy-asks t (IfsResponse n) inf = refl
busy-asks t Abort inf = refl
busy-asks t (Wtx n) inf = refl
busy-asks t Edc inf = refl
busy-asks t Other inf = refl

attach-asks : (s : State) (a : AtrAnswer) → Asks false (on_attach s a)
attach-asks s (Ok rep) = refl
attach-asks s (Err e) = refl

command-asks : (s : State) (bs : List ℕ) → Asks false (on_command s bs)
command-asks empty bs = refl
command-asks (greeting l n) bs = refl
command-asks (ready l) bs = refl
command-asks (busy t) bs = refl
command-asks (done l got) bs = refl
command-asks ended bs = refl

event-asks : (s : State) (e : Event) (inf : List ℕ) → Asks (due_on s e) (on_event s e inf)
event-asks empty e inf = refl
event-asks (greeting l n) e inf = refl
event-asks (ready l) e inf = refl
event-asks (busy t) e inf = busy-asks t e inf
event-asks (done l got) e inf = refl
event-asks ended e inf = refl

collect-asks : (s : State) → Asks false (on_collect s)
collect-asks empty = refl
collect-asks (greeting l n) = refl
collect-asks (ready l) = refl
collect-asks (busy t) = refl
collect-asks (done l got) = refl
collect-asks ended = refl

does-asks : (s : State) (x : Input) → Asks (due_in s x) (does s x)
does-asks s (attach l atr) = attach-asks s (answer_of atr)
does-asks s (command l bs) = command-asks s bs
does-asks s (event l k bs) = event-asks s (read_of k bs) (inf_read k bs)
does-asks s (collect l) = collect-asks s
does-asks s (remove l) = refl

pub asks-due : (i : ℕ) (s : State) (x : Input) → t1.asks i s x ≡ (eqb (refusal s x) 0 && due_in s x)
unfolding row
asks-due i s x =
    cond_case (Asks (eqb (refusal s x) 0 && due_in s x)) (eqb (refusal s x) 0)
    (λ e. does-asks s x ∙ ap (λ b. b && due_in s x) (sym e)) (λ e. ap (λ b. b && due_in s x) (sym e))
