-- Every call keeps the slot's invariant. Assumes nothing.
use Prim.Native.Nat.{ℕ, ◌+◌, ◌*◌, ◌-◌, ◌/◌, ◌≤◌, ◌<◌, min}
use mathlib.Core.Path.{◌≡◌, refl, sym, ap, ◌∙◌}
use mathlib.Core.Bool.{Bool, true, false, cond}
use mathlib.Core.List.{List, [], ◌∷◌, ◌++◌, append_assoc}
use native.Mathlib.Omega.{arith}
use lib.Dec.{ltb, eqb}
use lib.ListN.{length, take, drop, length-take, length-drop, length-append, take-append-drop, drop_of_length-le}
use borrow.Author.Tests.{ltb-true, ltb-false, eqb-true, lt-ltb, le-ltb, not-true}
use Rattle.lent.proofs.Cases.{cond_case, and_right, le_or_lt}
use Rattle.block.specs.Event.{Told}
use Rattle.block.specs.Reader.{read_of, inf_read}
use Rattle.block.specs.declared.event.Event.{Event}
use Rattle.block.specs.declared.event.Event.TheVariants.{I, R, IfsRequest, IfsResponse, Abort, Wtx, Edc, Other}
use Rattle.block.proofs.ReaderLaws.{read_told}
use Rattle.std.specs.Prelude.{Ok, Err}
use Rattle.atr.specs.Answer.{Answer as AtrAnswer, answer_of, Told as AtrTold}
use Rattle.atr.proofs.AnswerLaws.{answer-told}
use Rattle.shares.specs.Decide.{Row}
use Rattle.session.specs.Slot.{Block, i_block, r_block, ifs_request, s_response, Line, Talk, State, empty, greeting, ready, busy, done, ended}
use Rattle.session.specs.Call.{Input, attach, command, event, collect, remove, Answer}
use Rattle.session.specs.Refusal.{refusal}
use Rattle.session.specs.Sending.{Did, again, greet_again, in_place_of, invalid, go_left}
use Rattle.session.specs.Session.{while_greeting, send_next, unsent, awaits, due, took, accepted, on_r, on_request, while_busy, request_left, is_one_byte}
use Rattle.session.specs.Protocol.{on_attach, on_command, on_event, on_collect, does, row, t1}
use Rattle.session.specs.Kept.{LineKept, Standing, Last, TalkKept, Kept}
use Rattle.session.proofs.RowLaws.{RowAll, row_all}
use Rattle.session.proofs.FormLaws.{FormFits, form_fits, form_of}

abbrev DidKept : Did → Type 0
DidKept d = Kept d.state

abbrev pub RowKept : Row State Answer → Type 0
RowKept w = RowAll (λ s a. Kept s) w

-- ---- a further block, while the standing one stands

abbrev further : Talk → Block → (ifsc go requests : ℕ) → Talk
further t b ifsc go requests = record {
  line = record { ifsc = ifsc; bwt = t.line.bwt; s = t.line.s; r = t.line.r };
  command = t.command;
  left = t.left;
  standing = t.standing;
  last = b;
  go = go;
  requests = requests;
  got = t.got;
  sent = t.sent + 1;
}

module _ (t : Talk) (k : TalkKept t) where
  -- It is one go more of the last, or answers one request more.
  further_kept : (b : Block) (ifsc go requests : ℕ) → Last b t → 16 ≤ ifsc → ifsc ≤ 254 → 1 ≤ go → go ≤ 3 → requests ≤ 255
      → t.go + 3 * t.requests < 3 * requests + go → TalkKept (further t b ifsc go requests)
  further_kept b ifsc go requests l low high first third few room = record {
    line = record { low = low; high = high; bwt = k.line.bwt; s = k.line.s; r = k.line.r };
    least = k.least;
    most = k.most;
    standing = stands t.standing k.standing;
    last = lasts b l;
    first = first;
    third = third;
    requests = few;
    begun = omega arith;
    sent = omega (arith, k.sent);
  }
    where
      stands : (d : Block) → Standing d t → Standing d (further t b ifsc go requests)
      stands (i_block number more inf) p = p
      stands (r_block number nibble) p = p
      stands ifs_request p = p
      stands (s_response pcb n) p = p

      lasts : (d : Block) → Last d t → Last d (further t b ifsc go requests)
      lasts (i_block number more inf) p = p
      lasts (r_block number nibble) p = p
      lasts ifs_request p = p
      lasts (s_response pcb n) p = p

  again_kept : (b : Block) → Last b t → DidKept (again t b)
  again_kept b l =
      cond_case DidKept (go_left t.go)
      (λ e.
      let g : t.go < 3 = ltb-true t.go 3 e in
      further_kept b t.line.ifsc (t.go + 1) t.requests l k.line.low k.line.high
      (omega arith) (omega arith) k.requests (omega arith))
      (λ _. tt)

  request_kept : (ifsc : ℕ) (b : Block) (wait : ℕ) → Last b t → 16 ≤ ifsc → ifsc ≤ 254 → DidKept (on_request t ifsc b wait)
  request_kept ifsc b wait l low high =
      cond_case DidKept (request_left t.requests)
      (λ e.
      let g : t.requests < 255 = ltb-true t.requests 255 e in
      further_kept b ifsc 1 (t.requests + 1) l low high (omega arith) (omega arith) (omega arith) (omega (arith, k.third)))
      (λ _. tt)

  invalid_kept : (nibble : ℕ) → nibble ≤ 2 → DidKept (invalid t nibble)
  invalid_kept nibble n = go t.last k.last
    where
      go : (b : Block) → Last b t → DidKept (in_place_of b t nibble)
      go (i_block number more inf) l = again_kept (r_block t.line.r nibble) (refl, n)
      go (r_block number m) l = again_kept (r_block number m) l
      go ifs_request l = absurd l
      go (s_response pcb m) l = again_kept (r_block t.line.r nibble) (refl, n)

  -- what stands may be the last block too
  standing_last : Last t.standing t
  standing_last = go t.standing refl k.standing
    where
      go : (b : Block) → b ≡ t.standing → Standing b t → Last b t
      go (i_block number more inf) e p = e
      go (r_block number nibble) e p = (p.0, omega (arith, p.1.0))
      go ifs_request e p = absurd p
      go (s_response pcb n) e p = absurd p

-- ---- the next I-block

-- All that it needs, of the first of a command and of a later one: something is left, the end of the command, and there
-- is room for three goes of each block to come.
record Unsent (t : Talk) : Type 0 where
  line : LineKept t.line
  least : 4 ≤ length t.command
  most : length t.command ≤ 261
  some : 1 ≤ length t.left
  before : (gone : List ℕ) × (t.command ≡ gone ++ t.left)
  requests : t.requests ≤ 255
  sent : t.sent + 3 * ((length t.left + 15) / 16) ≤ 3 * (17 + length t.got + t.requests)

-- b6 is set while more is left
pub more_left : (n : ℕ) (l : List ℕ) → ltb n (length l) ≡ ltb 0 (length (drop n l))
more_left n l =
    let after : length (drop n l) ≡ length l - n = length-drop n l in
    le_or_lt (length l) n
    (λ h. le-ltb n (length l) h ∙ sym (le-ltb 0 (length (drop n l)) (omega arith)))
    (λ h. lt-ltb n (length l) h ∙ sym (lt-ltb 0 (length (drop n l)) (omega arith)))

send_kept : (t : Talk) → Unsent t → DidKept (send_next t)
send_kept t u =
    let n : ℕ = t.line.ifsc in
    let in_it : length (take n t.left) ≡ min n (length t.left) = length-take n t.left in
    let after : length (drop n t.left) ≡ length t.left - n = length-drop n t.left in
    let parts : t.command ≡ u.before.0 ++ (take n t.left ++ drop n t.left) =
    u.before.1 ∙ ap (λ (l : List ℕ). u.before.0 ++ l) (sym (take-append-drop n t.left)) in
    record {
      line = record { low = u.line.low; high = u.line.high; bwt = u.line.bwt; s = omega arith; r = u.line.r };
      least = u.least;
      most = u.most;
      standing = (refl, (more_left n t.left, (omega (arith, u.some, u.line.low), (omega (arith, u.line.high), (u.before.0, parts)))));
      last = refl;
      first = omega arith;
      third = omega arith;
      requests = u.requests;
      begun = omega arith;
      sent = omega (arith, u.sent, u.line.low, u.some);
    }

first_unsent : (l : Line) (bs : List ℕ) → LineKept l → FormFits bs → Unsent (unsent l bs)
first_unsent l bs k f = record {
  line = k;
  least = f.least;
  most = f.most;
  some = omega (arith, f.least);
  before = ([], refl);
  requests = omega arith;
  sent = omega (arith, f.most);
}

module _ (t : Talk) (k : TalkKept t) where
  later-unsent : (number : ℕ) (inf : List ℕ) → Standing (i_block number true inf) t → Unsent t
  later-unsent number inf p =
      let gone : List ℕ = p.1.1.1.1.0 in
      record {
        line = k.line;
        least = k.least;
        most = k.most;
        some = ltb-true 0 (length t.left) (sym p.1.0);
        before = (gone ++ inf, p.1.1.1.1.1 ∙ sym (append_assoc gone inf t.left));
        requests = k.requests;
        sent = omega (arith, k.sent, k.third);
      }

  -- ---- an R-block

  r_kept : (number : ℕ) → DidKept (on_r t.standing t number)
  r_kept number = go t.standing k.standing
    where
      repeats : DidKept (again t t.standing)
      repeats = again_kept t k t.standing (standing_last t k)

      no_row : DidKept (invalid t 2)
      no_row = invalid_kept t k 2 (omega arith)

      next_or : (n : ℕ) (more : Bool) (inf : List ℕ) → Standing (i_block n more inf) t → DidKept (cond more (send_next t) (invalid t 2))
      next_or n true inf p = send_kept t (later-unsent n inf p)
      next_or n false inf p = no_row

      go : (b : Block) → Standing b t → DidKept (on_r b t number)
      go (i_block n more inf) p = cond_case DidKept (eqb number t.line.s) (λ _. repeats) (λ _. next_or n more inf p)
      go (r_block n nibble) p = cond_case DidKept (eqb number (1 - t.line.s)) (λ _. repeats) (λ _. no_row)
      go ifs_request p = absurd p
      go (s_response pcb n) p = absurd p

  -- ---- an I-block

  -- where one is awaited the command has gone out
  awaited : awaits t.standing ≡ true → t.left ≡ []
  awaited = go t.standing k.standing
    where
      go : (b : Block) → Standing b t → awaits b ≡ true → t.left ≡ []
      go (i_block number more inf) p a = drop_of_length-le t.left (ltb-false 0 (length t.left) (sym p.1.0 ∙ not-true more a))
      go (r_block number nibble) p a = p.1.1
      go ifs_request p a = absurd p
      go (s_response pcb n) p a = absurd p

  accepted_kept : (inf : List ℕ) (more : Bool) → t.left ≡ [] → DidKept (accepted (took t inf) more)
  accepted_kept inf more none =
      let one_more : length (t.got ++ (inf ∷ [])) ≡ length t.got + 1 = length-append t.got (inf ∷ []) in
      cond_case DidKept more
      (λ _. record {
        line = flipped;
        least = k.least;
        most = k.most;
        standing = (refl, (refl, none));
        last = (refl, omega arith);
        first = omega arith;
        third = omega arith;
        requests = k.requests;
        begun = omega arith;
        sent = omega (arith, k.sent, k.third);
      })
      (λ _. cond_case DidKept (is_one_byte (took t inf)) (λ _. tt) (λ _. flipped))
    where
      flipped : LineKept (took t inf).line
      flipped = record { low = k.line.low; high = k.line.high; bwt = k.line.bwt; s = k.line.s; r = omega arith }

  busy_kept : (e : Event) (inf : List ℕ) → Told e inf → RowKept (while_busy t e inf)
  busy_kept (I number more) inf told =
      cond_case RowKept (due t number)
      (λ d. (accepted_kept inf more (awaited (and_right (eqb number t.line.r) (awaits t.standing) d)), tt))
      (λ _. invalid_kept t k 2 (omega arith))
  busy_kept (R number) inf told = r_kept number
  busy_kept (IfsRequest n) inf told = request_kept t k n (s_response 0xE1 n) t.line.bwt tt told.1 told.2
  busy_kept (Wtx n) inf told = request_kept t k t.line.ifsc (s_response 0xE3 n) (n * t.line.bwt) tt k.line.low k.line.high
  busy_kept Abort inf told = tt
  busy_kept (IfsResponse n) inf told = invalid_kept t k 2 (omega arith)
  busy_kept Edc inf told = invalid_kept t k 1 (omega arith)
  busy_kept Other inf told = invalid_kept t k 2 (omega arith)

-- ---- greeting

greet_kept : (l : Line) (n : ℕ) (e : Event) → LineKept l → n ≤ 3 → DidKept (while_greeting l n e)
greet_kept l n e k third = go e
  where
    repeats : DidKept (greet_again l n)
    repeats =
        cond_case DidKept (go_left n)
        (λ q. let g : n < 3 = ltb-true n 3 q in (k, (omega arith, omega arith)))
        (λ _. tt)

    go : (e : Event) → DidKept (while_greeting l n e)
    go (IfsResponse v) = cond_case DidKept (eqb v 0xFE) (λ _. k) (λ _. repeats)
    go Abort = tt
    go (I number more) = repeats
    go (R number) = repeats
    go (IfsRequest v) = repeats
    go (Wtx v) = repeats
    go Edc = repeats
    go Other = repeats

-- ---- each call

attach_kept : (s : State) (a : AtrAnswer) → AtrTold a → Kept s → RowKept (on_attach s a)
attach_kept s (Ok rep) told k =
    (record { low = told.ifsc.0; high = told.ifsc.1; bwt = told.bwt.1; s = omega arith; r = omega arith }, (omega arith, omega arith))
attach_kept s (Err e) told k = k

pub command_kept : (s : State) (bs : List ℕ) → FormFits bs → Kept s → RowKept (on_command s bs)
command_kept (ready l) bs f k = send_kept (unsent l bs) (first_unsent l bs k f)
command_kept empty bs f k = k
command_kept (greeting l n) bs f k = k
command_kept (busy t) bs f k = k
command_kept (done l got) bs f k = k
command_kept ended bs f k = k

pub event_kept : (s : State) (e : Event) (inf : List ℕ) → Told e inf → Kept s → RowKept (on_event s e inf)
event_kept (greeting l n) e inf told k = greet_kept l n e k.0 k.1.1
event_kept (busy t) e inf told k = busy_kept t k e inf told
event_kept empty e inf told k = k
event_kept (ready l) e inf told k = k
event_kept (done l got) e inf told k = k
event_kept ended e inf told k = k

collect_kept : (s : State) → Kept s → RowKept (on_collect s)
collect_kept (done l got) k = k
collect_kept empty k = k
collect_kept (greeting l n) k = k
collect_kept (ready l) k = k
collect_kept (busy t) k = k
collect_kept ended k = k

does_kept : (s : State) (x : Input) → refusal s x ≡ 0 → Kept s → RowKept (does s x)
does_kept s (attach l atr) r k = attach_kept s (answer_of atr) (answer-told atr) k
does_kept s (command l bs) r k = command_kept s bs (form_fits bs (form_of s l bs r)) k
does_kept s (event l n bs) r k = event_kept s (read_of n bs) (inf_read n bs) (read_told n bs) k
does_kept s (collect l) r k = collect_kept s k
does_kept s (remove l) r k = tt

pub row_kept : (s : State) (x : Input) → Kept s → RowKept (row s x)
unfolding row
row_kept s x k =
    cond_case RowKept (eqb (refusal s x) 0) (λ e. does_kept s x (eqb-true (refusal s x) 0 e) k) (λ _. k)

-- whether or not a cell was given
pub next_kept : (i : ℕ) (s : State) (x : Input) (g : Bool) → Kept s → Kept (t1.next i s g x)
next_kept i s x g k = row_all (λ s a. Kept s) (row s x) g (row_kept s x k)
