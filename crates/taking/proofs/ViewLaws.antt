-- An I-block of a slot's numbers shows the paper's rows. Assumes nothing.
use Prim.Native.Nat.{ℕ}
use mathlib.Core.Path.{◌≡◌, refl, ap}
use mathlib.Core.Bool.{Bool, true, false, cond, not, ◌&&◌, ◌||◌}
use mathlib.Core.List.{List, [], ◌∷◌, ◌++◌}
use native.Mathlib.Omega.{arith}
use lib.Dec.{eqb}
use lib.ListN.{length}
use Rattle.pool.specs.Contents.{join}
use Rattle.session.specs.Slot.{r_block, wire}
use Rattle.session.specs.Session as rows
use Rattle.slot.specs.declared.parts.Last as last
use Rattle.slot.specs.declared.parts.Talk.{Talk}
use Rattle.slot.specs.declared.parts.Slot.TheVariants.{Busy}
use Rattle.slot.specs.Blocks.{is_more, bytes_of}
use Rattle.slot.specs.View.{i_of, talk_of, state_of}
use Rattle.slot.proofs.FitLaws.{Frame}
use Rattle.greeting.proofs.ViewLaws.{Shows, both, ends_shows, goes}
use Rattle.taking.specs.Rows.{due, took, acknowledged, accepted}

module _ (command : List ℕ) (got : List (List ℕ)) (t : Talk) where
  pub due-shows : (number : ℕ) → due t number ≡ rows.due (talk_of t command got) number
  unfolding due
  due-shows number = ap (λ b. eqb number t.line.r && b) (go t.acked)
    where
      go : (a : Bool) → (a || not (is_more t.cut)) ≡ rows.awaits (cond a (r_block t.line.r 0) (i_of t command))
      go true = refl
      go false = refl

  -- its bytes are the last piece; the response is the pieces joined
  pub accepted-shows : (inf : List ℕ) (more : Bool) (length' : ℕ) → Frame (Busy t) command (length (got ++ (inf ∷ [])))
      → length' ≡ length (join (got ++ (inf ∷ [])))
      → Shows command (got ++ (inf ∷ [])) (accepted t more length') (rows.accepted (rows.took (talk_of t command got) inf) more)
  unfolding accepted state_of bytes_of wire
  accepted-shows inf more length' f e =
      both command all more
      (λ _. goes command all (acknowledged (took t)) f (last.TheVariants.R 0) _ _ 1 t.line.bwt refl refl (omega arith))
      (λ _. rw e (both command all (eqb (length (join all)) 1)
      (λ _. ends_shows command all 23 t.turn.sent refl)
      (λ _. record { state = refl; answer = refl; frame = tt; small = omega arith })))
    where
      all : List (List ℕ)
      all = got ++ (inf ∷ [])
