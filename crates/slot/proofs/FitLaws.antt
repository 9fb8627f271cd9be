-- The test of a slot's numbers is facts: the paper's invariant, and what the code asks of them. Assumes nothing.
use Prim.Native.Nat.{ℕ, ◌+◌, ◌-◌, ◌*◌, ◌/◌, ◌≤◌}
use mathlib.Core.Path.{◌≡◌, refl, sym, ap, ◌∙◌}
use mathlib.Core.Bool.{Bool, true, false, cond, not, ◌&&◌}
use mathlib.Core.List.{List, [], ◌++◌}
use native.Mathlib.Omega.{arith}
use lib.Dec.{ltb, leb, eqb}
use lib.ListN.{length, take, drop, length-drop, take-append-drop, drop_of_length-le}
use lib.Seq.{drop-drop}
use borrow.Author.Tests.{leb-true, le-leb, ltb-false, le-ltb, eqb-true, eq-eqb, not-true}
use Rattle.std.proofs.lemmas.List.{nil_from_length}
use Rattle.lent.specs.Place.{window}
use Rattle.lent.proofs.Cases.{cond_case, and_left, and_right, and_true}
use Rattle.lent.proofs.PlaceLaws.{length-window}
use Rattle.block.specs.Event.{between}
use Rattle.session.specs.Slot.{Block, i_block, r_block, ifs_request, s_response, state_no, got_in}
use Rattle.session.proofs.KeptLaws.{more_left}
use Rattle.session.specs.Kept.{LineKept, Standing, Last as LastKept, TalkKept, Kept}
use Rattle.slot.specs.declared.parts.Line.{Line}
use Rattle.slot.specs.declared.parts.Cut.{Cut}
use Rattle.slot.specs.declared.parts.Last as last
use Rattle.slot.specs.declared.parts.Last.{Last}
use Rattle.slot.specs.declared.parts.Talk.{Talk}
use Rattle.slot.specs.declared.parts.Slot.{Slot}
use Rattle.slot.specs.declared.parts.Slot.TheVariants.{Empty, Greeting, Ready, Busy, Done, Ended}
use Rattle.slot.specs.Blocks.{is_more}
use Rattle.slot.specs.Fit.{line_fits, cut_fits, last_fits, turn_fits, in_range, steps_fit, talk_fits, fits, CutIn, InRange}
use Rattle.slot.specs.View.{line_of, i_of, last_of, talk_of, state_of, slot_no, KeptFor}

-- ---- a range

range : (low n high : ℕ) → between low n high ≡ true → (low ≤ n) × (n ≤ high)
range low n high e = (leb-true low n (and_left _ _ e), leb-true n high (and_right (leb low n) _ e))

-- ---- a line

pub line_fit : (l : Line) → line_fits l ≡ true → LineKept (line_of l)
unfolding line_fits
line_fit l e =
    let e1 = and_right (between 16 l.ifsc 254) _ e in
    let e2 = and_right (leb l.bwt 15371) _ e1 in
    let ifsc = range 16 l.ifsc 254 (and_left _ _ e) in
    record {
      low = ifsc.0;
      high = ifsc.1;
      bwt = leb-true l.bwt 15371 (and_left _ _ e1);
      s = leb-true l.s 1 (and_left _ _ e2);
      r = leb-true l.r 1 (and_right (leb l.s 1) _ e2);
    }

pub line_fits_lem : (l : Line) → LineKept (line_of l) → line_fits l ≡ true
unfolding line_fits
line_fits_lem l k =
    rw (
      le-leb 16 l.ifsc k.low,
      le-leb l.ifsc 254 k.high,
      le-leb l.bwt 15371 k.bwt,
      le-leb l.s 1 k.s,
      le-leb l.r 1 k.r,
    )

-- ---- a cut

pub cut_kept : (c : Cut) → cut_fits c ≡ true → CutIn c
unfolding cut_fits
cut_kept c e =
    let e1 = and_right (between 4 c.whole 261) _ e in
    let e2 = and_right (leb c.from c.whole) _ e1 in
    let whole = range 4 c.whole 261 (and_left _ _ e) in
    let len = range 1 c.len 254 (and_left _ _ e2) in
    let from : c.from ≤ c.whole = leb-true c.from c.whole (and_left _ _ e1) in
    let rest : c.len ≤ c.whole - c.from = leb-true c.len (c.whole - c.from) (and_right (between 1 c.len 254) _ e2) in
    record { least = whole.0; most = whole.1; some = len.0; few = len.1; ends = omega arith }

cut_fits_lem : (c : Cut) → CutIn c → cut_fits c ≡ true
unfolding cut_fits
cut_fits_lem c k =
    let from : c.from ≤ c.whole = omega (arith, k.ends) in
    let rest : c.len ≤ c.whole - c.from = omega (arith, k.ends) in
    rw (
      le-leb 4 c.whole k.least,
      le-leb c.whole 261 k.most,
      le-leb c.from c.whole from,
      le-leb 1 c.len k.some,
      le-leb c.len 254 k.few,
      le-leb c.len (c.whole - c.from) rest,
    )

-- ---- a command under way

pub in_range_lem : (t : Talk) → in_range t ≡ true → InRange t
unfolding in_range turn_fits
in_range_lem t e =
    let e1 = and_right (line_fits t.line) _ e in
    let e2 = and_right (cut_fits t.cut) _ e1 in
    let e3 = and_right (last_fits t.turn.last t.acked) _ e2 in
    let e4 = and_right (between 1 t.turn.go 3) _ e3 in
    let go = range 1 t.turn.go 3 (and_left _ _ e3) in
    let sent = range 1 t.turn.sent 1104 (and_right (leb t.turn.requests 255) _ e4) in
    record {
      line = line_fit t.line (and_left _ _ e);
      cut = cut_kept t.cut (and_left _ _ e1);
      last = and_left _ _ e2;
      first = go.0;
      third = go.1;
      requests = leb-true t.turn.requests 255 (and_left _ _ e4);
      begun = sent.0;
      sent = sent.1;
    }

range_in : (t : Talk) → InRange t → in_range t ≡ true
unfolding in_range turn_fits
range_in t f =
    rw (
      line_fits_lem t.line f.line,
      cut_fits_lem t.cut f.cut,
      f.last,
      le-leb 1 t.turn.go f.first,
      le-leb t.turn.go 3 f.third,
      le-leb t.turn.requests 255 f.requests,
      le-leb 1 t.turn.sent f.begun,
      le-leb t.turn.sent 1104 f.sent,
    )

-- all that is tested, as facts
pub record TalkFit (t : Talk) (n : ℕ) : Type 0 where
  pub range : InRange t
  pub over : not (t.acked && is_more t.cut) ≡ true
  pub held : n ≤ 96
  pub steps : t.turn.sent + 3 * ((t.cut.whole - (t.cut.from + t.cut.len) + 15) / 16) ≤ 3 * (16 + n + t.turn.requests) + t.turn.go

pub talk_fit : (t : Talk) (held : ℕ) → talk_fits t held ≡ true → TalkFit t held
unfolding talk_fits steps_fit
talk_fit t held e =
    let e1 = and_right (in_range t) _ e in
    let e2 = and_right (not (t.acked && is_more t.cut)) _ e1 in
    record {
      range = in_range_lem t (and_left _ _ e);
      over = and_left _ _ e1;
      held = leb-true held 96 (and_left _ _ e2);
      steps = leb-true _ _ (and_right (leb held 96) _ e2);
    }

fit_talk : (t : Talk) (held : ℕ) → TalkFit t held → talk_fits t held ≡ true
unfolding talk_fits steps_fit
fit_talk t held f = rw (range_in t f.range, f.over, le-leb held 96 f.held) (le-leb _ _ f.steps)

-- ---- the paper's invariant

-- a list is what goes before a part, the part, and what is left
parts : (l : List ℕ) (a n : ℕ) → l ≡ take a l ++ (window l a n ++ drop (a + n) l)
unfolding window
parts l a n =
    sym (take-append-drop a l)
    ∙ ap (λ (m : List ℕ). take a l ++ m) (sym (take-append-drop n (drop a l)) ∙ ap (λ (m : List ℕ). take n (drop a l) ++ m) (drop-drop n a l))

abbrev is_r : Block → Bool
is_r (i_block number more inf) = false
is_r (r_block number nibble) = true
is_r ifs_request = false
is_r (s_response pcb n) = false

-- with the bytes of the whole command
module _ (t : Talk) (command : List ℕ) (got : List (List ℕ)) (whole : length command ≡ t.cut.whole) where
  abbrev up_to : ℕ
  up_to = t.cut.from + t.cut.len

  left : length (drop up_to command) ≡ t.cut.whole - up_to
  left = length-drop up_to command ∙ ap (λ (n : ℕ). n - up_to) whole

  abbrev Stands : Block → Type 0
  Stands b = Standing b (talk_of t command got)

  i_stands : CutIn t.cut → Stands (i_of t command)
  i_stands c =
      let long : length (window command t.cut.from t.cut.len) ≡ t.cut.len =
      length-window command t.cut.from t.cut.len (omega (arith, c.ends)) in (
        refl,
        (
          ap (ltb up_to) (sym whole) ∙ more_left up_to command,
          (
            omega (arith, c.some),
            (
              omega (arith, c.few),
              (take t.cut.from command, parts command t.cut.from t.cut.len),
            ),
          ),
        ),
      )

  nothing_left : is_more t.cut ≡ false → drop up_to command ≡ []
  nothing_left e = drop_of_length-le command {i = up_to} (omega (arith, ltb-false up_to t.cut.whole e))

  last_kept : (l : Last) → last_fits l t.acked ≡ true → LastKept (last_of l t command) (talk_of t command got)
  unfolding last_fits
  last_kept last.TheVariants.I e = rw (not-true t.acked e)
  last_kept (last.TheVariants.R n) e = (refl, leb-true n 2 e)
  last_kept (last.TheVariants.S pcb byte) e = tt

  talk_kept : TalkFit t (length got) → TalkKept (talk_of t command got)
  talk_kept f = record {
    line = f.range.line;
    least = omega (arith, f.range.cut.least);
    most = omega (arith, f.range.cut.most);
    standing =
        cond_case Stands t.acked
        (λ a. (refl, (refl, nothing_left (sym (and_true t.acked (is_more t.cut) a) ∙ not-true _ f.over))))
        (λ _. i_stands f.range.cut);
    last = last_kept t.turn.last f.range.last;
    first = f.range.first;
    third = f.range.third;
    requests = f.range.requests;
    begun = f.range.begun;
    sent = omega (arith, left, f.steps);
  }

  -- ---- and back

  last_fits_lem : (l : Last) → LastKept (last_of l t command) (talk_of t command got) → last_fits l t.acked ≡ true
  unfolding last_fits
  last_fits_lem last.TheVariants.I e = go t.acked e
    where
      go : (a : Bool) → i_of t command ≡ cond a (r_block t.line.r 0) (i_of t command) → not a ≡ true
      go true e = ap is_r e
      go false e = refl
  last_fits_lem (last.TheVariants.R n) e = le-leb n 2 e.1
  last_fits_lem (last.TheVariants.S pcb byte) e = refl

  over : (a : Bool) → Stands (cond a (r_block t.line.r 0) (i_of t command)) → not (a && is_more t.cut) ≡ true
  over true p = ap not (le-ltb up_to t.cut.whole (omega (arith, left, ap (length {A = ℕ}) p.1.1)))
  over false p = refl

  talk_fits_lem : CutIn t.cut → length got ≤ 96 → TalkKept (talk_of t command got) → TalkFit t (length got)
  talk_fits_lem c h k =
      let steps : t.turn.sent + 3 * ((t.cut.whole - up_to + 15) / 16) ≤ 3 * (16 + length got + t.turn.requests) + t.turn.go =
      omega (arith, left, k.sent) in
      record {
        range = record {
          line = k.line;
          cut = c;
          last = last_fits_lem t.turn.last k.last;
          first = k.first;
          third = k.third;
          requests = k.requests;
          begun = k.begun;
          sent = omega (arith, steps, k.third, k.requests);
        };
        over = over t.acked k.standing;
        held = h;
        steps = steps;
      }

-- ---- the slot

-- a slot that fits keeps the paper's invariant
pub fit_kept : (x : Slot) (command : List ℕ) (got : List (List ℕ)) → KeptFor x command → fits x (length got) ≡ true → Kept (state_of x command got)
unfolding fits state_of
fit_kept Empty command got w e = tt
fit_kept (Greeting l sent) command got w e =
    let e1 = and_right (eqb (length got) 0) _ e in
    (line_fit l (and_right (between 1 sent 3) _ e1), range 1 sent 3 (and_left _ _ e1))
fit_kept (Ready l) command got w e = line_fit l (and_right (eqb (length got) 0) _ e)
fit_kept (Busy t) command got w e = talk_kept t command got w (talk_fit t (length got) e)
fit_kept (Done l) command got w e = line_fit l e
fit_kept Ended command got w e = tt

-- what a slot's test asks besides: the bytes that are kept are the command, cut as it may be, and only a slot that is busy
-- or done holds cells
abbrev pub Frame : Slot → (command : List ℕ) → (held : ℕ) → Type 0
Frame Empty command held = held ≡ 0
Frame (Greeting l sent) command held = held ≡ 0
Frame (Ready l) command held = held ≡ 0
Frame (Busy t) command held = (length command ≡ t.cut.whole) × CutIn t.cut × (held ≤ 96)
Frame (Done l) command held = Unit
Frame Ended command held = held ≡ 0

pub fit_frame : (x : Slot) (command : List ℕ) (held : ℕ) → KeptFor x command → fits x held ≡ true → Frame x command held
unfolding fits
fit_frame Empty command held w e = eqb-true held 0 e
fit_frame (Greeting l sent) command held w e = eqb-true held 0 (and_left _ _ e)
fit_frame (Ready l) command held w e = eqb-true held 0 (and_left _ _ e)
fit_frame (Busy t) command held w e = let f = talk_fit t held e in (w, f.range.cut, f.held)
fit_frame (Done l) command held w e = tt
fit_frame Ended command held w e = eqb-true held 0 e

pub frame_kept : (x : Slot) (command : List ℕ) (held : ℕ) → Frame x command held → KeptFor x command
frame_kept Empty command held f = tt
frame_kept (Greeting l sent) command held f = tt
frame_kept (Ready l) command held f = tt
frame_kept (Busy t) command held f = f.0
frame_kept (Done l) command held f = tt
frame_kept Ended command held f = tt

pub kept_fits : (x : Slot) (command : List ℕ) (got : List (List ℕ)) → Frame x command (length got) → Kept (state_of x command got)
    → fits x (length got) ≡ true
unfolding fits state_of
kept_fits Empty command got f k = eq-eqb (length got) 0 f
kept_fits (Greeting l sent) command got f k =
    rw (eq-eqb (length got) 0 f, le-leb 1 sent k.1.0, le-leb sent 3 k.1.1) (line_fits_lem l k.0)
kept_fits (Ready l) command got f k = rw (eq-eqb (length got) 0 f) (line_fits_lem l k)
kept_fits (Busy t) command got f k = fit_talk t (length got) (talk_fits_lem t command got f.0 f.1 f.2 k)
kept_fits (Done l) command got f k = line_fits_lem l k
kept_fits Ended command got f k = eq-eqb (length got) 0 f

-- ---- what is shown

-- the state's number
pub state_no_lem : (x : Slot) (command : List ℕ) (got : List (List ℕ)) → state_no (state_of x command got) ≡ slot_no x
unfolding state_of
state_no_lem Empty command got = refl
state_no_lem (Greeting l sent) command got = refl
state_no_lem (Ready l) command got = refl
state_no_lem (Busy t) command got = refl
state_no_lem (Done l) command got = refl
state_no_lem Ended command got = refl

-- the pieces, of a slot that fits
pub got_shown : (x : Slot) (command : List ℕ) (got : List (List ℕ)) → fits x (length got) ≡ true → got_in (state_of x command got) ≡ got
unfolding fits state_of
got_shown Empty command got e = sym (nil_from_length got (eqb-true (length got) 0 e))
got_shown (Greeting l sent) command got e = sym (nil_from_length got (eqb-true (length got) 0 (and_left _ _ e)))
got_shown (Ready l) command got e = sym (nil_from_length got (eqb-true (length got) 0 (and_left _ _ e)))
got_shown (Busy t) command got e = refl
got_shown (Done l) command got e = refl
got_shown Ended command got e = sym (nil_from_length got (eqb-true (length got) 0 e))
