-- What is promised of each call and of what a slot shows. Assumes nothing.
use Prim.Native.Nat.{ℕ, ◌+◌, ◌≤◌}
use mathlib.Core.Path.{◌≡◌, refl, subst}
use mathlib.Core.Bool.{true}
use mathlib.Core.List.{List, []}
use native.Mathlib.Omega.{arith}
use lib.Dec.{eqb}
use lib.ListN.{length}
use borrow.Author.Tests.{le-leb}
use Rattle.lent.proofs.Cases.{cond_case}
use Rattle.block.specs.Reader.{read_of, inf_read}
use Rattle.block.proofs.ReaderLaws.{read_told}
use Rattle.atr.specs.declared.report.Report.{Report}
use Rattle.atr.specs.Report.{Bounded}
use Rattle.atr.specs.Answer.{zeros}
use Rattle.region.specs.Sound.{sound}
use Rattle.pool.specs.Calls.{response}
use Rattle.pool.proofs.Shows as pool
use Rattle.session.specs.Slot.{wire, greeting, ready}
use Rattle.session.specs.Refusal.{good_form}
use Rattle.session.specs.Sending.{Did}
use Rattle.session.specs.Session as rows
use Rattle.session.specs.Protocol as paper
use Rattle.session.specs.Kept.{Kept}
use Rattle.session.proofs.FormLaws.{form_fits}
use Rattle.session.proofs.KeptLaws.{command_kept, event_kept}
use Rattle.slot.specs.declared.parts.Line.{Line}
use Rattle.slot.specs.declared.parts.Slot.TheVariants.{Greeting}
use Rattle.slot.specs.declared.parts.Next.{Next}
use Rattle.slot.specs.Blocks.{bytes_of}
use Rattle.slot.specs.View.{line_of, state_of}
use Rattle.slot.specs.Fit.{line_fits, fits}
use Rattle.slot.proofs.FitLaws.{line_fit, line_fits_lem, fit_kept, Frame, frame_kept, kept_fits, state_no_lem, got_shown}
use Rattle.slot.proofs.BlockLaws.{built}
use Rattle.greeting.specs.Greeting.{attached}
use Rattle.greeting.proofs.ViewLaws.{leaves, Shows, greeting-shows}
use Rattle.turn.specs.Calls.{unsent, started, commanded}
use Rattle.turn.proofs.ViewLaws.{next_shows}
use Rattle.terminal.specs.Calls.{greeted, collects, collected, collected_pool}
use Rattle.terminal.specs.Shows.{GivesShows, CollectShows, RemoveShows, Promised}
use Rattle.terminal.proofs.PoolLaws.{release_moved, release_held}
use Rattle.terminal.proofs.EventLaws.{event-shows}

-- ---- attach

attach-shows : (rep : Report) (bs : List ℕ) → Bounded rep → GivesShows (attached rep) rep bs (paper.attached rep)
unfolding state_of bytes_of wire fits
attach-shows rep bs b = record {
  state = refl;
  answer = refl;
  fit = line_fits_lem _ (record { low = b.ifsc.0; high = b.ifsc.1; bwt = b.bwt.1; s = omega arith; r = omega arith });
  kept = tt;
  small = omega arith;
}

-- ---- a slot that holds nothing

-- what shows a state that keeps the paper's invariant is fit
gives : (n : Next) (command : List ℕ) (d : Did) → Shows command [] n d → Kept d.state → GivesShows n zeros command d
gives n command d x k =
    record {
      state = state;
      answer = x.answer;
      fit = kept_fits n.slot command [] frame (rw state k);
      kept = frame_kept n.slot command 0 frame;
      small = x.small;
    }
  where
    none : leaves n [] ≡ []
    none = cond_case (λ (got : List (List ℕ)). got ≡ []) (eqb n.ending 0) (λ _. refl) (λ _. refl)

    state : state_of n.slot command [] ≡ d.state
    state = subst (λ (got : List (List ℕ)). state_of n.slot command got ≡ d.state) none x.state

    frame : Frame n.slot command 0
    frame = subst (λ (got : List (List ℕ)). Frame n.slot command (length got)) none x.frame

greet-shows : (l : Line) (sent k : ℕ) (bs command : List ℕ) → fits (Greeting l sent) 0 ≡ true
    → GivesShows (greeted l sent k bs) zeros command (rows.while_greeting (line_of l) sent (read_of k bs))
unfolding greeted state_of
greet-shows l sent k bs command f =
    gives _ command _ (greeting-shows command [] l sent (read_of k bs) refl)
    (event_kept (greeting (line_of l) sent) (read_of k bs) (inf_read k bs) (read_told k bs) (fit_kept (Greeting l sent) command [] tt f))

command-shows : (l : Line) (bs : List ℕ) → line_fits l ≡ true → good_form bs ≡ true
    → GivesShows (commanded l bs) zeros bs (rows.commanded (line_of l) bs)
unfolding commanded
command-shows l bs f good =
    let form = form_fits bs good in
    let line = line_fit l f in
    rw (f, good) (gives (started l (length bs)) bs (rows.commanded (line_of l) bs)
    (next_shows bs [] (unsent l (length bs)) line refl form.least form.most (omega arith) (omega (arith, form.least)))
    (command_kept (ready (line_of l)) bs form line))

-- ---- cells are freed

collect-shows : (r : List ℕ) (i : ℕ) (l : Line) (bs out : List ℕ) → sound r ≡ true → line_fits l ≡ true
    → length (response r i) ≤ length out → CollectShows r i l bs out
unfolding collected collected_pool state_of fits
collect-shows r i l bs out s f room =
    let fits_out : collects r i out ≡ true = le-leb (0 + length (response r i)) (length out) (omega arith) in
    record {
      state = rw fits_out;
      answer = rw fits_out;
      delivered = ((pool.promised).shows r s).copy_shows i out;
      moves = rw fits_out (release_moved r s i);
      fit = rw (fits_out, release_held r s i) f;
    }

remove-shows : (r : List ℕ) (i : ℕ) → sound r ≡ true → RemoveShows r i
unfolding state_of fits
remove-shows r i s = record { state = refl; answer = refl; moves = release_moved r s i; fit = rw (release_held r s i) }

pub promised : Promised
promised = record {
  fit_kept = fit_kept;
  state_no_lem = state_no_lem;
  got_shown = got_shown;
  attach = attach-shows;
  greet = greet-shows;
  command = command-shows;
  event = λ r i t command k bs s h fit whole. event-shows r s i h command t k bs fit whole;
  collect = collect-shows;
  remove = remove-shows;
  built = built;
}
