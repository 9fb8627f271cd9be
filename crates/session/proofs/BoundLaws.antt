-- A command is done or ended after at most 3 * (272 + c) events, and no answer reports more blocks. Assumes nothing.
use Prim.Native.Nat.{ℕ, ◌+◌, ◌-◌, ◌*◌, ◌≤◌}
use mathlib.Core.Path.{◌≡◌, refl, sym, subst}
use mathlib.Core.Logic.{◌⊎◌, inl, inr}
use mathlib.Core.Bool.{Bool, true, false, cond, ◌&&◌}
use mathlib.Core.List.{List, [], ◌∷◌}
use native.Mathlib.Omega.{arith}
use lib.Dec.{eqb}
use Rattle.lent.proofs.Cases.{cond_case}
use Rattle.block.specs.Reader.{read_of, inf_read}
use Rattle.block.specs.declared.event.Event.{Event}
use Rattle.block.specs.declared.event.Event.TheVariants.{I, R, IfsRequest, IfsResponse, Abort, Wtx, Edc, Other}
use Rattle.std.specs.Prelude.{Ok, Err}
use Rattle.atr.specs.Answer.{Answer as AtrAnswer, refusal_number, answer_of, Told as AtrTold}
use Rattle.atr.proofs.AnswerLaws.{answer-told, refusal_number-ne0}
use Rattle.shares.specs.Decide.{Row}
use Rattle.shares.specs.Log.{Entry, takes, happened}
use Rattle.session.specs.Slot.{Block, i_block, r_block, ifs_request, s_response, Line, Talk, State, empty, greeting, ready, busy, done, ended, state_no, held_in}
use Rattle.session.specs.Call.{Input, attach, command, event, collect, remove, Answer, refuses}
use Rattle.session.specs.Refusal.{refusal}
use Rattle.session.specs.Sending.{Did, ends, again, greet_again, in_place_of, invalid, go_left}
use Rattle.session.specs.Session.{while_greeting, send_next, due, took, accepted, on_r, on_request, while_busy, request_left, is_one_byte}
use Rattle.session.specs.Protocol.{on_attach, on_command, on_event, on_collect, does, row, t1}
use Rattle.session.specs.History.{Past, taken, begins, since, back_to, events, most, Bound}
use Rattle.session.specs.Kept.{Kept}
use Rattle.session.proofs.RowLaws.{RowAll, row_all}
use Rattle.session.proofs.KeptLaws.{next_kept}

-- ---- the events since the command (or attach), by state

-- while greeting or busy each of them was answered by a block, and one more is out that no event has answered yet
abbrev pub Spent : (c : ℕ) → State → ℕ → Type 0
Spent c empty e = e ≤ most c
Spent c (greeting l n) e = e + 1 ≤ n
Spent c (ready l) e = e ≤ most c
Spent c (busy t) e = e + 1 ≤ t.sent
Spent c (done l got) e = e ≤ most c
Spent c ended e = e ≤ most c

-- 1 where one is
abbrev pub unanswered : State → ℕ
unanswered empty = 0
unanswered (greeting l n) = 1
unanswered (ready l) = 0
unanswered (busy t) = 1
unanswered (done l got) = 0
unanswered ended = 0

pub busy_unanswered : (s : State) → state_no s ≡ 3 → unanswered s ≡ 1
busy_unanswered empty e = absurd (omega arith)
busy_unanswered (greeting l n) e = refl
busy_unanswered (ready l) e = absurd (omega arith)
busy_unanswered (busy t) e = refl
busy_unanswered (done l got) e = absurd (omega arith)
busy_unanswered ended e = absurd (omega arith)

-- the blocks sent
abbrev sent_in : State → ℕ
sent_in empty = 0
sent_in (greeting l n) = n
sent_in (ready l) = 0
sent_in (busy t) = t.sent
sent_in (done l got) = 0
sent_in ended = 0

sent_most : (c : ℕ) (s : State) → Kept s → held_in s ≤ c → sent_in s ≤ most c
sent_most c empty k h = omega arith
sent_most c (greeting l n) k h = omega (arith, k.1.1)
sent_most c (ready l) k h = omega arith
sent_most c (busy t) k h = omega (arith, k.third, k.requests, k.sent)
sent_most c (done l got) k h = omega arith
sent_most c ended k h = omega arith

-- the event that answers it is within the bound
within_most : (c : ℕ) (s : State) (e : ℕ) → Kept s → held_in s ≤ c → Spent c s e → e + unanswered s ≤ most c
within_most c empty e k h p = omega arith
within_most c (greeting l n) e k h p = omega (arith, k.1.1)
within_most c (ready l) e k h p = omega arith
within_most c (busy t) e k h p = omega (arith, k.third, k.requests, k.sent)
within_most c (done l got) e k h p = omega arith
within_most c ended e k h p = omega arith

-- ---- one call more

-- the events after a call that is not refused, of e before it
abbrev counted : Input → ℕ → ℕ
counted (attach l atr) e = 0
counted (command l bs) e = 0
counted (event l k bs) e = e + 1
counted (collect l) e = e
counted (remove l) e = e

counted_is : (y : Entry t1) (h : Past) → events (since (y ∷ h)) ≡ cond (taken y) (counted y.input (events (since h))) (events (since h))
unfolding back_to events
counted_is y h = go y.input refl (taken y) refl
  where
    go : (x : Input) → y.input ≡ x → (q : Bool) → taken y ≡ q
        → events (cond (q && begins x) (y ∷ []) (y ∷ since h)) ≡ cond q (counted x (events (since h))) (events (since h))
    go (attach l atr) i true q = rw (q, i)
    go (command l bs) i true q = rw (q, i)
    go (event l k bs) i true q = rw (q, i)
    go (collect l) i true q = rw (q, i) (omega arith)
    go (remove l) i true q = rw (q, i) (omega arith)
    go x i false q = rw q (omega arith)

-- of e events and b blocks before the call: what it makes of them, n if it is not refused; its answer reports the blocks
-- before it, or those after it
abbrev Next : (c e n b : ℕ) → State → Answer → Type 0
Next c e n b s a = Spent c s (cond (eqb a.number 0) n e) × ((a.sent ≤ b) ⊎ (a.sent ≤ sent_in s))

abbrev NextRow : (c e n b : ℕ) → Row State Answer → Type 0
NextRow c e n b w = RowAll (Next c e n b) w

-- a refusal changes nothing
refused_next : (c e n b : ℕ) (s : State) (k : ℕ) → eqb k 0 ≡ false → Spent c s e → Next c e n b s (refuses k)
refused_next c e n b s k q p = rw q (p, inl (omega arith))

-- ---- an event, within the bound
module _ (c e b : ℕ) (room : e + 1 ≤ most c) where
  abbrev Step : Did → Type 0
  Step d = Next c e (e + 1) b d.state d.answer

  abbrev StepRow : Row State Answer → Type 0
  StepRow w = NextRow c e (e + 1) b w

  over : (code : ℕ) → Step (ends code b)
  over code = (room, inl (omega arith))

module _ (c e : ℕ) (room : e + 1 ≤ most c) where
  module _ (l : Line) (n : ℕ) (p : e + 1 ≤ n) where
    abbrev Greet : Did → Type 0
    Greet d = Step c e n room d

    greet_again_lem : Greet (greet_again l n)
    greet_again_lem = cond_case Greet (go_left n) (λ _. (omega arith, inr (omega arith))) (λ _. over c e n room 21)

    greet_next : (v : Event) → Greet (while_greeting l n v)
    greet_next (IfsResponse v) = cond_case Greet (eqb v 0xFE) (λ _. (room, inl (omega arith))) (λ _. greet_again_lem)
    greet_next Abort = over c e n room 22
    greet_next (I number more) = greet_again_lem
    greet_next (R number) = greet_again_lem
    greet_next (IfsRequest v) = greet_again_lem
    greet_next (Wtx v) = greet_again_lem
    greet_next Edc = greet_again_lem
    greet_next Other = greet_again_lem

  module _ (t : Talk) (p : e + 1 ≤ t.sent) where
    abbrev Talks : Did → Type 0
    Talks d = Step c e t.sent room d

    abbrev TalksRow : Row State Answer → Type 0
    TalksRow w = StepRow c e t.sent room w

    ending : (code : ℕ) → Talks (ends code t.sent)
    ending code = over c e t.sent room code

    -- a block more
    sent_next : (e + 1 + 1 ≤ t.sent + 1) × ((t.sent + 1 ≤ t.sent) ⊎ (t.sent + 1 ≤ t.sent + 1))
    sent_next = (omega arith, inr (omega arith))

    again_next : (b : Block) → Talks (again t b)
    again_next b = cond_case Talks (go_left t.go) (λ _. sent_next) (λ _. ending 21)

    invalid_next : (nibble : ℕ) → Talks (invalid t nibble)
    invalid_next nibble = go t.last
      where
        go : (b : Block) → Talks (in_place_of b t nibble)
        go (i_block number more inf) = again_next (r_block t.line.r nibble)
        go (r_block number k) = again_next (r_block number k)
        go ifs_request = again_next ifs_request
        go (s_response pcb n) = again_next (r_block t.line.r nibble)

    r_next : (number : ℕ) → Talks (on_r t.standing t number)
    r_next number = go t.standing
      where
        go : (b : Block) → Talks (on_r b t number)
        go (i_block n more inf) =
            cond_case Talks (eqb number t.line.s) (λ _. again_next t.standing)
            (λ _. cond_case Talks more {x = send_next t} (λ _. sent_next) (λ _. invalid_next 2))
        go (r_block n nibble) = cond_case Talks (eqb number (1 - t.line.s)) (λ _. again_next t.standing) (λ _. invalid_next 2)
        go ifs_request = invalid_next 2
        go (s_response pcb n) = invalid_next 2

    accepted_next : (inf : List ℕ) (more : Bool) → Talks (accepted (took t inf) more)
    accepted_next inf more =
        cond_case Talks more (λ _. sent_next)
        (λ _. cond_case Talks (is_one_byte (took t inf)) (λ _. ending 23) (λ _. (room, inl (omega arith))))

    request_next : (ifsc : ℕ) (b : Block) (wait : ℕ) → Talks (on_request t ifsc b wait)
    request_next ifsc b wait = cond_case Talks (request_left t.requests) (λ _. sent_next) (λ _. ending 24)

    busy_next : (v : Event) (inf : List ℕ) → TalksRow (while_busy t v inf)
    busy_next (I number more) inf = cond_case TalksRow (due t number) (λ _. (accepted_next inf more, ending 20)) (λ _. invalid_next 2)
    busy_next (R number) inf = r_next number
    busy_next (IfsRequest n) inf = request_next n (s_response 0xE1 n) t.line.bwt
    busy_next (Wtx n) inf = request_next t.line.ifsc (s_response 0xE3 n) (n * t.line.bwt)
    busy_next Abort inf = ending 22
    busy_next (IfsResponse n) inf = invalid_next 2
    busy_next Edc inf = invalid_next 1
    busy_next Other inf = invalid_next 2

-- ---- each call
module _ (c e : ℕ) where
  event_next : (s : State) (v : Event) (inf : List ℕ) → e + unanswered s ≤ most c → Spent c s e → NextRow c e (e + 1) (sent_in s) (on_event s v inf)
  event_next (greeting l n) v inf room p = greet_next c e room l n p v
  event_next (busy t) v inf room p = busy_next c e room t p v inf
  event_next empty v inf room p = (p, inl (omega arith))
  event_next (ready l) v inf room p = (p, inl (omega arith))
  event_next (done l got) v inf room p = (p, inl (omega arith))
  event_next ended v inf room p = (p, inl (omega arith))

  attach_next : (s : State) (a : AtrAnswer) → AtrTold a → Spent c s e → NextRow c e 0 (sent_in s) (on_attach s a)
  attach_next s (Ok rep) told p = (omega arith, inr (omega arith))
  attach_next s (Err k) told p = refused_next c e 0 (sent_in s) s (refusal_number k) (refusal_number-ne0 k) p

  command_next : (s : State) (bs : List ℕ) → Spent c s e → NextRow c e 0 (sent_in s) (on_command s bs)
  command_next (ready l) bs p = (omega arith, inr (omega arith))
  command_next empty bs p = (p, inl (omega arith))
  command_next (greeting l n) bs p = (p, inl (omega arith))
  command_next (busy t) bs p = (p, inl (omega arith))
  command_next (done l got) bs p = (p, inl (omega arith))
  command_next ended bs p = (p, inl (omega arith))

  collect_next : (s : State) → Spent c s e → NextRow c e e (sent_in s) (on_collect s)
  collect_next (done l got) p = (p, inl (omega arith))
  collect_next empty p = (p, inl (omega arith))
  collect_next (greeting l n) p = (p, inl (omega arith))
  collect_next (ready l) p = (p, inl (omega arith))
  collect_next (busy t) p = (p, inl (omega arith))
  collect_next ended p = (p, inl (omega arith))

  does_next : (s : State) (x : Input) → e + unanswered s ≤ most c → Spent c s e → NextRow c e (counted x e) (sent_in s) (does s x)
  does_next s (attach l atr) room p = attach_next s (answer_of atr) (answer-told atr) p
  does_next s (command l bs) room p = command_next s bs p
  does_next s (event l k bs) room p = event_next s (read_of k bs) (inf_read k bs) room p
  does_next s (collect l) room p = collect_next s p
  does_next s (remove l) room p = (omega arith, inl (omega arith))

  row_next : (s : State) (x : Input) → e + unanswered s ≤ most c → Spent c s e → NextRow c e (counted x e) (sent_in s) (row s x)
  unfolding row
  row_next s x room p =
      cond_case (NextRow c e (counted x e) (sent_in s)) (eqb (refusal s x) 0)
      (λ _. does_next s x room p) (λ q. refused_next c e (counted x e) (sent_in s) s (refusal s x) q p)

-- ---- the bound

-- after a call: the events, that the one which answers what is out is within the bound, and the bound
pub record Stepped (c : ℕ) (u : State) (y : Entry t1) (h : Past) : Type 0 where
  pub spent : Spent c u (events (since (y ∷ h)))
  pub room : events (since (y ∷ h)) + unanswered u ≤ most c
  pub bound : Bound c y h

pub step_bound : (c i : ℕ) (s : State) (h : Past) (x : Input) (g : Bool) → held_in s ≤ c → held_in (t1.next i s (takes t1 i s x g) x) ≤ c
    → Kept s → Spent c s (events (since h)) → Stepped c (t1.next i s (takes t1 i s x g) x) (happened t1 i s x g) h
step_bound c i s h x g held after k p = record { spent = spent; room = room; bound = record { within = omega (arith, room); few = few v.1 } }
  where
    y : Entry t1
    y = happened t1 i s x g

    u : State
    u = t1.next i s (takes t1 i s x g) x

    e : ℕ
    e = events (since h)

    v : Next c e (counted x e) (sent_in s) u y.answer
    v = row_all (Next c e (counted x e) (sent_in s)) (row s x) (takes t1 i s x g) (row_next c e s x (within_most c s e k held p) p)

    spent : Spent c u (events (since (y ∷ h)))
    spent = subst (Spent c u) (sym (counted_is y h)) v.0

    kept : Kept u
    kept = next_kept i s x (takes t1 i s x g) k

    room : events (since (y ∷ h)) + unanswered u ≤ most c
    room = within_most c u (events (since (y ∷ h))) kept after spent

    few : (y.answer.sent ≤ sent_in s) ⊎ (y.answer.sent ≤ sent_in u) → y.answer.sent ≤ most c
    few (inl q) = omega (arith, sent_most c s k held)
    few (inr q) = omega (arith, sent_most c u kept after)
