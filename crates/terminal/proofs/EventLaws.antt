-- An event on a busy slot of a sound region shows the paper's event. Assumes nothing.
use Prim.Native.Nat.{ℕ, ◌*◌, ◌≤◌, ◌<◌}
use mathlib.Core.Path.{◌≡◌, refl, ap, ◌∙◌, subst}
use mathlib.Core.Bool.{Bool, true, false, cond}
use mathlib.Core.List.{List, [], ◌∷◌, ◌++◌}
use native.Mathlib.Omega.{arith}
use lib.ListN.{length}
use borrow.Author.Tests.{ne_eqb}
use Rattle.lent.proofs.Cases.{cond_case, and_left, and_true}
use Rattle.block.specs.Event.{Told}
use Rattle.block.specs.Reader.{read_of, inf_read}
use Rattle.block.specs.declared.event.Event.{Event}
use Rattle.block.specs.declared.event.Event.TheVariants.{I, R, IfsRequest, IfsResponse, Abort, Wtx, Edc, Other}
use Rattle.block.proofs.ReaderLaws.{read_told}
use Rattle.shares.specs.Decide.{Row, row_state, row_answer}
use Rattle.region.specs.Layout.{holders}
use Rattle.region.specs.Sound.{sound}
use Rattle.region.specs.Holding.{held_by}
use Rattle.pool.specs.Calls.{appended, response}
use Rattle.pool.specs.Contents.{granted_in, join}
use Rattle.pool.specs.View.{shown}
use Rattle.pool.proofs.Shows as pool
use Rattle.session.specs.Slot as paperSlot
use Rattle.session.specs.Slot.{State, busy}
use Rattle.session.specs.Call.{Answer}
use Rattle.session.specs.Sending as paper
use Rattle.session.specs.Sending.{Did}
use Rattle.session.specs.Session as rows
use Rattle.session.specs.History.{number_of}
use Rattle.session.specs.Kept.{Kept}
use Rattle.session.proofs.RowLaws.{row_all}
use Rattle.session.proofs.KeptLaws.{event_kept}
use Rattle.slot.specs.declared.parts.Talk.{Talk}
use Rattle.slot.specs.declared.parts.Slot.TheVariants.{Busy}
use Rattle.slot.specs.declared.parts.Next.{Next}
use Rattle.slot.specs.Fit.{in_range, talk_fits, fits}
use Rattle.slot.specs.View.{talk_of, state_of}
use Rattle.slot.proofs.FitLaws.{TalkFit, talk_fit, fit_kept, Frame, frame_kept, kept_fits}
use Rattle.greeting.proofs.ViewLaws.{leaves, Shows, ends_shows}
use Rattle.taking.specs.Rows.{due}
use Rattle.taking.specs.Calls.{taken_in, asks_cell, taken}
use Rattle.taking.proofs.ViewLaws.{due-shows, accepted-shows}
use Rattle.turn.specs.Rows.{while_busy}
use Rattle.turn.specs.Calls.{heard}
use Rattle.turn.proofs.ViewLaws.{invalid-shows, request_shows, r-shows}
use Rattle.terminal.specs.Calls.{due_of, event_of, stored_in, pool_of}
use Rattle.terminal.specs.Shows.{Moves, EventShows}
use Rattle.terminal.proofs.PoolLaws.{then, stayed, few, append_moved, appends-granted, append-pieces, settled_moved, settled_pieces}

module _ (r : List ℕ) (s : sound r ≡ true) (i : ℕ) (h : i < holders) (command : List ℕ) where
  abbrev got : List (List ℕ)
  got = (shown r).pieces i

  -- what a row of the paper comes to, as the rule grants a cell or not
  abbrev chosen : Row State Answer → Did
  chosen w = record { state = row_state w (granted_in (shown r) i); answer = row_answer w (granted_in (shown r) i) }

  module _ (t : Talk) (whole : length command ≡ t.cut.whole) (fit : talk_fits t (length got) ≡ true) where
    abbrev shown_talk : paperSlot.Talk
    shown_talk = talk_of t command got

    f : TalkFit t (length got)
    f = talk_fit t (length got) fit

    range : in_range t ≡ true
    unfolding talk_fits
    range = and_left _ _ fit

    frame : Frame (Busy t) command (length got)
    frame = (whole, f.range.cut, f.held)

    -- ---- an I-block that is due asks for a cell

    -- the paper's row for it: with a cell, and without
    abbrev due_row : (more : Bool) (inf : List ℕ) → Row State Answer
    due_row more inf = rows.with_cell (rows.accepted (rows.took shown_talk inf) more) (paper.ends 20 t.turn.sent)

    asks : (number : ℕ) (more : Bool) (inf : List ℕ) → 1 ≤ length inf → length inf ≤ 254
        → Shows command ((shown (appended r i inf)).pieces i) (due_of r i t (I number more) inf) (chosen (due_row more inf))
    unfolding due_of taken
    asks number more inf l u = rw (range, appends-granted r s i inf l u) (go (granted_in (shown r) i) refl)
      where
        q : List ℕ
        q = appended r i inf

        go : (g : Bool) → granted_in (shown r) i ≡ g
            → Shows command ((shown q).pieces i) (taken_in t more g (length (response q i)))
            (record { state = row_state (due_row more inf) g; answer = row_answer (due_row more inf) g })
        go true g =
            let sq : sound q ≡ true = (append_moved r s i inf).sound in
            let ps : (shown q).pieces i ≡ got ++ (inf ∷ []) = append-pieces r s i inf l u g in
            let held : length (got ++ (inf ∷ [])) ≤ 96 = subst (λ (p : List (List ℕ)). length p ≤ 96) ps (few q sq i h) in
            let long : length (response q i) ≡ length (join (got ++ (inf ∷ []))) =
            ap (length {A = ℕ}) (((pool.promised).shows q sq).response i ∙ ap join ps) in
            rw ps (accepted-shows command got t inf more (length (response q i)) (whole, f.range.cut, held) long)
        go false g = ends_shows command ((shown q).pieces i) 20 t.turn.sent refl

    -- ---- what is heard

    -- a cell being asked for or not
    abbrev HeardAs : Bool → Event → (inf : List ℕ) → Did → Type 0
    HeardAs b e inf d = Shows command ((shown (cond b (appended r i inf) r)).pieces i) (cond b (due_of r i t e inf) (heard t e)) d

    asks-due : (e : Event) → asks_cell t e ≡ due t (number_of e)
    unfolding asks_cell
    asks-due e = and_true (in_range t) (due t (number_of e)) range

    heard-row : (e : Event) → heard t e ≡ while_busy t e
    unfolding heard
    heard-row e = rw range

    i_heard : (number : ℕ) (more : Bool) (inf : List ℕ) → 1 ≤ length inf → length inf ≤ 254
        → HeardAs (due t number) (I number more) inf (chosen (rows.on_i shown_talk number more inf))
    unfolding while_busy
    i_heard number more inf l u =
        subst (λ (b : Bool). HeardAs (due t number) (I number more) inf (chosen (row_if b)))
        (due-shows command got t number) (go (due t number))
      where
        row_if : Bool → Row State Answer
        row_if b = cond b (due_row more inf) (rows.now (paper.invalid shown_talk 2))

        go : (b : Bool) → HeardAs b (I number more) inf (chosen (row_if b))
        go true = asks number more inf l u
        go false = rw (heard-row (I number more)) (invalid-shows command got t frame 2)

    -- what is no I-block is never due
    never_due : due t 2 ≡ false
    unfolding due
    never_due = rw (ne_eqb 2 t.line.r (λ e. omega (arith, e, f.range.line.r)))

    no_cell : (e : Event) (inf : List ℕ) {d : Did} → number_of e ≡ 2 → Shows command got (while_busy t e) d
        → HeardAs (due t (number_of e)) e inf d
    no_cell e inf two x = rw (two, never_due, heard-row e) x

    busy-heard : (e : Event) (inf : List ℕ) → Told e inf → HeardAs (due t (number_of e)) e inf (chosen (rows.while_busy shown_talk e inf))
    unfolding while_busy
    busy-heard (I number more) inf told = i_heard number more inf told.1 told.2
    busy-heard (R number) inf told = no_cell (R number) inf refl (r-shows command got t number frame f.range.line)
    busy-heard (IfsRequest n) inf told = no_cell (IfsRequest n) inf refl (request_shows command got t frame n 0xE1 n t.line.bwt)
    busy-heard (Wtx n) inf told =
        no_cell (Wtx n) inf refl (request_shows command got t frame t.line.ifsc 0xE3 n (n * t.line.bwt))
    busy-heard Abort inf told = no_cell Abort inf refl (ends_shows command got 22 t.turn.sent refl)
    busy-heard (IfsResponse n) inf told = no_cell (IfsResponse n) inf refl (invalid-shows command got t frame 2)
    busy-heard Edc inf told = no_cell Edc inf refl (invalid-shows command got t frame 1)
    busy-heard Other inf told = no_cell Other inf refl (invalid-shows command got t frame 2)

  -- ---- the event

  pub event-shows : (t : Talk) (k : ℕ) (bs : List ℕ) → talk_fits t (held_by r i) ≡ true → length command ≡ t.cut.whole
      → EventShows r i t command k bs
  unfolding event_of pool_of stored_in fits state_of
  event-shows t k bs fit whole =
      record {
        state = rw pieces now.state;
        answer = now.answer;
        moves = after;
        fit = rw held (kept_fits n.slot command (leaves n ((shown q).pieces i)) now.frame then_kept);
        kept = frame_kept n.slot command _ now.frame;
        small = now.small;
      }
    where
      e : Event
      e = read_of k bs

      inf : List ℕ
      inf = inf_read k bs

      n : Next
      n = event_of r i t k bs

      q : List ℕ
      q = stored_in r i t k bs

      p : List ℕ
      p = pool_of r i t k bs

      fitting : talk_fits t (length got) ≡ true
      fitting = subst (λ (m : ℕ). talk_fits t m ≡ true) (((pool.promised).shows r s).held i) fit

      w : Row State Answer
      w = rows.while_busy (talk_of t command got) e inf

      now : Shows command ((shown q).pieces i) n (chosen w)
      now = rw (asks-due t whole fitting e) (busy-heard t whole fitting e inf (read_told k bs))

      stored : Moves r q i
      stored = cond_case (λ (q : List ℕ). Moves r q i) (asks_cell t e) (λ _. append_moved r s i inf) (λ _. stayed r s i)

      after : Moves r p i
      after = then stored (settled_moved q stored.sound i n.ending)

      pieces : (shown p).pieces i ≡ leaves n ((shown q).pieces i)
      pieces = settled_pieces q stored.sound i n.ending

      held : held_by p i ≡ length (leaves n ((shown q).pieces i))
      held = ((pool.promised).shows p after.sound).held i ∙ ap (length {A = List ℕ}) pieces

      then_kept : Kept (state_of n.slot command (leaves n ((shown q).pieces i)))
      then_kept =
          rw now.state
          (row_all (λ s a. Kept s) w (granted_in (shown r) i)
          (event_kept (busy (talk_of t command got)) e inf (read_told k bs) (fit_kept (Busy t) command got whole fitting)))
