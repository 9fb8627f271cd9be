-- Each row of a slot's numbers shows the paper's row. Assumes nothing.
use Prim.Native.Nat.{ℕ, ◌+◌, ◌-◌, ◌≤◌, ◌<◌, min}
use mathlib.Core.Path.{◌≡◌, refl, sym, ap, ap₂, ◌∙◌}
use mathlib.Core.Bool.{Bool, true, false}
use mathlib.Core.List.{List}
use native.Mathlib.Omega.{arith}
use lib.Dec.{ltb, eqb}
use lib.ListN.{length, take, drop, length-take, length-drop, drop_of_length-le}
use lib.Seq.{take_all, drop-drop}
use borrow.Author.Tests.{lt-ltb, le-ltb, ltb-true}
use Rattle.lent.specs.Place.{window}
use Rattle.lent.proofs.Cases.{le_or_lt}
use Rattle.atr.specs.Answer.{zeros}
use Rattle.session.specs.Slot.{Block, i_block, r_block, s_response, wire, State, busy}
use Rattle.session.specs.Call.{says}
use Rattle.session.specs.Sending as paper
use Rattle.session.specs.Sending.{Did}
use Rattle.session.specs.Session as rows
use Rattle.session.specs.Kept.{LineKept}
use Rattle.slot.specs.declared.parts.Last as last
use Rattle.slot.specs.declared.parts.Last.{Last}
use Rattle.slot.specs.declared.parts.Talk.{Talk}
use Rattle.slot.specs.declared.parts.Slot.TheVariants.{Busy}
use Rattle.slot.specs.declared.parts.Send.{Send}
use Rattle.greeting.specs.Sending.{sent_at}
use Rattle.greeting.proofs.ViewLaws.{Shows, both, ends_shows, goes}
use Rattle.turn.specs.Sending.{again, in_place, invalid_by, invalid, last_i, next_cut, cut_next, send_next, say_again}
use Rattle.turn.specs.Rows.{on_r, counted, on_request}
use Rattle.slot.specs.Blocks.{is_more, inf_in, bytes_of}
use Rattle.slot.specs.View.{line_of, i_of, standing_of, last_of, talk_of, state_of}
use Rattle.slot.specs.Fit.{CutIn}
use Rattle.slot.proofs.FitLaws.{Frame}

-- ---- an I-block of min(n, what is left) bytes is cut as by the paper

module _ (command : List ℕ) (a n whole : ℕ) (e : length command ≡ whole) where
  abbrev size : ℕ
  size = min n (whole - a)

  after : length (drop a command) ≡ whole - a
  after = length-drop a command ∙ ap (λ (k : ℕ). k - a) e

  more_cut : ltb (a + size) whole ≡ ltb n (length (drop a command))
  more_cut =
      le_or_lt (whole - a) n
      (λ h. le-ltb (a + size) whole (omega arith) ∙ sym (le-ltb n (length (drop a command)) (omega (arith, after))))
      (λ h. lt-ltb (a + size) whole (omega arith) ∙ sym (lt-ltb n (length (drop a command)) (omega (arith, after))))

  inf_cut : window command a size ≡ take n (drop a command)
  unfolding window
  inf_cut =
      le_or_lt (whole - a) n
      (λ h. take_all size (drop a command) (omega (arith, after)) ∙ sym (take_all n (drop a command) (omega (arith, after))))
      (λ h. let m : size ≡ n = omega arith in rw m)

  left_cut : drop (a + size) command ≡ drop n (drop a command)
  left_cut =
      le_or_lt (whole - a) n
      (λ h.
      drop_of_length-le command {i = a + size} (omega (arith, e))
      ∙ sym (drop_of_length-le (drop a command) {i = n} (omega (arith, after))))
      (λ h. let m : a + size ≡ a + n = omega arith in rw m (sym (drop-drop n a command)))

module _ (command : List ℕ) (got : List (List ℕ)) where
  -- of a command whose cut is as it may be
  module _ (t : Talk) (f : Frame (Busy t) command (length got)) where
    i_small : length (window command t.cut.from t.cut.len) ≤ 254
    unfolding window
    i_small = omega (arith, length-take t.cut.len (drop t.cut.from command), f.1.few)

    repeated : (l : Last) (b : Send) (d : Block) → ((go : ℕ) → last_of l (sent_at t l go) command ≡ d) → bytes_of b command ≡ wire d
        → length (inf_in b command) ≤ 254 → Shows command got (again t l b) (paper.again (talk_of t command got) d)
    repeated l b d e w s =
        both command got (ltb t.turn.go 3)
        (λ _. goes command got t f l b d (t.turn.go + 1) t.line.bwt (e (t.turn.go + 1)) w s)
        (λ _. ends_shows command got 21 t.turn.sent refl)

    r_again : (nibble : ℕ) → Shows command got (in_place t nibble) (paper.again (talk_of t command got) (r_block t.line.r nibble))
    unfolding bytes_of wire
    r_again nibble = repeated (last.TheVariants.R nibble) _ _ (λ _. refl) refl (omega arith)

    i_again : Shows command got (again t last.TheVariants.I (last_i t)) (paper.again (talk_of t command got) (i_of t command))
    unfolding bytes_of wire
    i_again = repeated last.TheVariants.I _ _ (λ _. refl) refl i_small

    pub invalid-shows : (nibble : ℕ) → Shows command got (invalid t nibble) (paper.invalid (talk_of t command got) nibble)
    unfolding invalid
    invalid-shows nibble = go t.turn.last
      where
        go : (l : Last) → Shows command got (invalid_by l t nibble) (paper.in_place_of (last_of l t command) (talk_of t command got) nibble)
        go last.TheVariants.I = r_again nibble
        go (last.TheVariants.R old) = r_again old
        go (last.TheVariants.S pcb byte) = r_again nibble

    pub request_shows : (ifsc pcb byte wait : ℕ)
        → Shows command got (on_request t ifsc pcb byte wait) (rows.on_request (talk_of t command got) ifsc (s_response pcb byte) wait)
    unfolding on_request bytes_of wire
    request_shows ifsc pcb byte wait =
        both command got (ltb t.turn.requests 255)
        (λ _. goes command got (counted t ifsc) f (last.TheVariants.S pcb byte) _ _ 1 wait refl refl (omega arith))
        (λ _. ends_shows command got 24 t.turn.sent refl)

  -- ---- the next I-block

  -- of a command of which something is left
  pub next_shows : (t : Talk) → LineKept (line_of t.line) → length command ≡ t.cut.whole → 4 ≤ t.cut.whole → t.cut.whole ≤ 261
      → length got ≤ 96 → t.cut.from + t.cut.len < t.cut.whole
      → Shows command got (send_next t) (rows.send_next (talk_of t command got))
  unfolding send_next state_of bytes_of wire
  next_shows t k e least most held more =
      let a : ℕ = t.cut.from + t.cut.len in
      let n : ℕ = t.line.ifsc in
      let block : i_of (cut_next t) command ≡ rows.next_block (talk_of t command got) =
      ap₂ (i_block (1 - t.line.s)) (more_cut command a n t.cut.whole e) (inf_cut command a n t.cut.whole e) in
      let cut : CutIn (next_cut n t.cut) =
      record { least = least; most = most; some = omega (arith, k.low); few = omega (arith, k.high); ends = omega arith } in
      record {
        state = ap₂ shape (left_cut command a n t.cut.whole e) block;
        answer = ap (λ (b : Block). says 3 0 (t.turn.sent + 1) t.line.bwt zeros (wire b)) block;
        frame = (e, cut, held);
        small = i_small (cut_next t) (e, cut, held);
      }
    where
      shape : (left : List ℕ) (b : Block) → State
      shape left b = busy (record {
        line = record { ifsc = t.line.ifsc; bwt = t.line.bwt; s = 1 - t.line.s; r = t.line.r };
        command = command;
        left = left;
        standing = b;
        last = b;
        go = 1;
        requests = t.turn.requests;
        got = got;
        sent = t.turn.sent + 1;
      })

  -- ---- an R-block

  abbrev acked_is : Talk → Bool → Talk
  acked_is t a = record { line = t.line; cut = t.cut; acked = a; turn = t.turn }

  pub r-shows : (t : Talk) (number : ℕ) → Frame (Busy t) command (length got) → LineKept (line_of t.line)
      → Shows command got (on_r t number) (rows.on_r (standing_of t command) (talk_of t command got) number)
  unfolding on_r say_again
  r-shows t number f k = go t.acked
    where
      go : (a : Bool)
          → (let u = acked_is t a in Shows command got (on_r u number) (rows.on_r (standing_of u command) (talk_of u command got) number))
      go true =
          both command got (eqb number (1 - t.line.s))
          (λ _. r_again (acked_is t true) f 0)
          (λ _. invalid-shows (acked_is t true) f 2)
      go false =
          both command got (eqb number t.line.s)
          (λ _. i_again (acked_is t false) f)
          (λ _. both command got (is_more t.cut)
          (λ m. next_shows (acked_is t false) k f.0 f.1.least f.1.most f.2 (ltb-true _ _ m))
          (λ _. invalid-shows (acked_is t false) f 2))
