-- Laws of the reader: what an event tells, and what a block that reads well is. Assumes nothing.
use mathlib.Core.Path.{◌≡◌, refl, sym, ap, ap₂, ◌∙◌, subst}
use mathlib.Core.Bool.{Bool, true, false, false≢true}
use mathlib.Core.List.{List, [], ◌∷◌, ◌++◌}
use Prim.Native.Nat.{ℕ, ◌+◌, ◌-◌, ◌≤◌}
use native.Mathlib.Omega.{arith}
use lib.Dec.{leb, eqb}
use lib.ListN.{length, take, drop, length-take, length-drop, take-append-drop}
use borrow.Author.Tests.{leb-true, eqb-true}
use Rattle.lent.specs.Place.{window}
use Rattle.lent.proofs.Cases.{cond_case, and_left, and_right}
use Rattle.block.specs.Check.{check_right}
use Rattle.block.specs.Block.{nad, pcb, inf_part, frame, head_of, block_of}
use Rattle.block.specs.Event.{sort_of, well_of, inf_of, Told}
use Rattle.block.specs.Reader.{whole, judged, bytes_of, read_of, inf_read}
use Rattle.block.specs.declared.event.Event.{Event}
use Rattle.block.specs.declared.event.Event.TheVariants.{Edc, Other}
use Rattle.block.proofs.CheckLaws.{check_only}
use Rattle.block.proofs.EventLaws.{sort_told}

-- what holds of both faults, and of what PCB and LEN give past every test, holds of every event
event_case : (P : Event → Type 0) (k : ℕ) (s : List ℕ) → P Edc → P Other
    → (whole s ≡ true → check_right s ≡ true → eqb (nad s) 0x00 ≡ true → P (sort_of (pcb s) (inf_part s))) → P (read_of k s)
unfolding read_of bytes_of
event_case P k s edc other past =
    cond_case P (eqb k 0)
    (λ _. cond_case P (whole s) (λ w. go (check_right s) (eqb (nad s) 0x00) (past w)) (λ _. other))
    (λ _. cond_case P (eqb k 1) (λ _. edc) (λ _. other))
  where
    go : (r o : Bool) → (r ≡ true → o ≡ true → P (sort_of (pcb s) (inf_part s))) → P (judged r o (sort_of (pcb s) (inf_part s)))
    go true true f = f refl refl
    go true false f = other
    go false true f = edc
    go false false f = edc

-- for every event, what its kind tells of its numbers and its INF
pub read_told : (k : ℕ) (s : List ℕ) → Told (read_of k s) (inf_read k s)
unfolding inf_read inf_of
read_told k s = event_case (λ (e : Event). Told e (inf_of e s)) k s refl refl (λ _ _ _. sort_told (pcb s) s)

-- ---- a block that reads well is the one that is built of its PCB and its INF

whole_built : (s : List ℕ) → whole s ≡ true → check_right s ≡ true → eqb (nad s) 0x00 ≡ true → s ≡ block_of (pcb s) (inf_part s)
unfolding whole inf_part window block_of head_of
whole_built (n ∷ p ∷ l ∷ rest) w r z =
    let k : ℕ = length (n ∷ p ∷ l ∷ rest) - frame in
    let sized = and_right (leb frame (length (n ∷ p ∷ l ∷ rest))) _ w in
    let least : frame ≤ length (n ∷ p ∷ l ∷ rest) = leb-true _ _ (and_left (leb frame (length (n ∷ p ∷ l ∷ rest))) _ w) in
    let e : length (n ∷ p ∷ l ∷ rest) ≡ frame + l = eqb-true _ _ (and_left (eqb (length (n ∷ p ∷ l ∷ rest)) (frame + l)) _ sized) in
    let inf : List ℕ = take k rest in
    let zero-nad : n ≡ 0x00 = eqb-true n 0x00 z in
    let long : length inf ≡ l = length-take k rest ∙ omega arith in
    let parts : n ∷ p ∷ l ∷ rest ≡ head_of p inf ++ drop k rest =
    ap₂ (λ (a b : ℕ). a ∷ p ∷ b ∷ rest) zero-nad (sym long) ∙ ap (λ (t : List ℕ). 0x00 ∷ p ∷ length inf ∷ t) (sym (take-append-drop k rest)) in
    parts
    ∙ ap (λ (t : List ℕ). head_of p inf ++ t)
    (check_only (head_of p inf) (drop k rest) (length-drop k rest ∙ omega arith) (subst (λ (t : List ℕ). check_right t ≡ true) parts r))
whole_built [] w r z = absurd (false≢true w)
whole_built (n ∷ []) w r z = absurd (false≢true w)
whole_built (n ∷ p ∷ []) w r z = absurd (false≢true w)

pub read_built : (k : ℕ) (s : List ℕ) → well_of (read_of k s) ≡ true → s ≡ block_of (pcb s) (inf_read k s)
unfolding inf_read inf_of
read_built k s =
    event_case (λ (e : Event). well_of e ≡ true → s ≡ block_of (pcb s) (inf_of e s)) k s
    (λ h. absurd (false≢true h))
    (λ h. absurd (false≢true h))
    (λ w r z h. rw h (whole_built s w r z))
