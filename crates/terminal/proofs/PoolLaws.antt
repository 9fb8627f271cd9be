-- What a call on one slot makes of a sound region: only that slot's pieces change. Assumes nothing.
use Prim.Native.Nat.{ℕ, ◌≤◌, ◌<◌}
use mathlib.Core.Path.{◌≡◌, refl, ap, ◌∙◌}
use mathlib.Core.Bool.{Bool, true, false, cond}
use mathlib.Core.List.{List, [], ◌∷◌, ◌++◌}
use native.Mathlib.Omega.{arith}
use lib.Dec.{eqb}
use lib.ListN.{length}
use borrow.Author.Tests.{lt-ltb, le-leb, eq-eqb, ne_eqb}
use Rattle.lent.proofs.Cases.{cond_case}
use Rattle.region.specs.Layout.{holders}
use Rattle.region.specs.Sound.{sound}
use Rattle.region.specs.Holding.{held_by}
use Rattle.pool.specs.Calls.{appends, appended, released}
use Rattle.pool.specs.Contents.{Contents, granted_in, takes_piece, append_to, release_of}
use Rattle.pool.specs.View.{shown}
use Rattle.pool.specs.Shows.{Shows}
use Rattle.pool.proofs.Shows.{promised}
use Rattle.terminal.specs.Calls.{settled_pool}
use Rattle.terminal.specs.Shows.{Moves}

pub then : {r q p : List ℕ} {i : ℕ} → Moves r q i → Moves q p i → Moves r p i
then m n = record { sound = n.sound; long = n.long ∙ m.long; others = λ j o. n.others j o ∙ m.others j o; limits = n.limits ∙ m.limits }

module _ (r : List ℕ) (s : sound r ≡ true) (i : ℕ) where
  here : Shows r
  here = promised.shows r s

  pub stayed : Moves r r i
  stayed = record { sound = s; long = refl; others = λ j o. refl; limits = refl }

  -- no slot holds more than all cells
  pub few : i < holders → length ((shown r).pieces i) ≤ 96
  few h =
      let l : i < (shown r).limits.holders = omega (arith, here.many) in
      omega (arith, here.holdings.under i l, here.fit.low i l, here.all)

  -- ---- append

  pub append_moved : (xs : List ℕ) → Moves r (appended r i xs) i
  unfolding append_to
  append_moved xs = record {
    sound = here.append-sound i xs;
    long = promised.append-length r i xs;
    others = λ j o.
        ap (λ (v : Contents). v.pieces j) (here.append-shows i xs)
        ∙ cond_case (λ (v : Contents). v.pieces j ≡ (shown r).pieces j) (takes_piece (shown r) i xs) (λ _. rw (ne_eqb j i o)) (λ _. refl);
    limits =
        ap (λ (v : Contents). v.limits) (here.append-shows i xs)
        ∙ cond_case (λ (v : Contents). v.limits ≡ (shown r).limits) (takes_piece (shown r) i xs) (λ _. refl) (λ _. refl);
  }

  -- a piece of 1 to 254 bytes is taken where a cell is granted
  takes-granted : (xs : List ℕ) → 1 ≤ length xs → length xs ≤ 254 → takes_piece (shown r) i xs ≡ granted_in (shown r) i
  unfolding takes_piece
  takes-granted xs l u = rw (lt-ltb 0 (length xs) l, le-leb (length xs) 254 u)

  pub appends-granted : (xs : List ℕ) → 1 ≤ length xs → length xs ≤ 254 → appends r i xs ≡ granted_in (shown r) i
  appends-granted xs l u = here.append-says i xs ∙ takes-granted xs l u

  pub append-pieces : (xs : List ℕ) → 1 ≤ length xs → length xs ≤ 254 → granted_in (shown r) i ≡ true
      → (shown (appended r i xs)).pieces i ≡ (shown r).pieces i ++ (xs ∷ [])
  unfolding append_to
  append-pieces xs l u g =
      ap (λ (v : Contents). v.pieces i) (here.append-shows i xs)
      ∙ rw (takes-granted xs l u, g, eq-eqb i i refl)

  -- ---- release

  pub release_moved : Moves r (released r i) i
  unfolding release_of
  release_moved = record {
    sound = here.release_sound i;
    long = promised.release_length r i;
    others = λ j o. ap (λ (v : Contents). v.pieces j) (here.release_shows i) ∙ rw (ne_eqb j i o);
    limits = ap (λ (v : Contents). v.limits) (here.release_shows i);
  }

  release_pieces : (shown (released r i)).pieces i ≡ []
  unfolding release_of
  release_pieces = ap (λ (v : Contents). v.pieces i) (here.release_shows i) ∙ rw (eq-eqb i i refl)

  pub release_held : held_by (released r i) i ≡ 0
  release_held = (promised.shows (released r i) release_moved.sound).held i ∙ ap (length {A = List ℕ}) release_pieces

  -- ---- an ending releases

  pub settled_moved : (ending : ℕ) → Moves r (settled_pool r i ending) i
  unfolding settled_pool
  settled_moved ending = cond_case (λ (q : List ℕ). Moves r q i) (eqb ending 0) (λ _. stayed) (λ _. release_moved)

  pub settled_pieces : (ending : ℕ) → (shown (settled_pool r i ending)).pieces i ≡ cond (eqb ending 0) ((shown r).pieces i) []
  unfolding settled_pool
  settled_pieces ending = go (eqb ending 0)
    where
      go : (b : Bool) → (shown (cond b r (released r i))).pieces i ≡ cond b ((shown r).pieces i) []
      go true = refl
      go false = release_pieces
