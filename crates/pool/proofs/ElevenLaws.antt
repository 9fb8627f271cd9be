-- Pieces for holder 0 of P11's pool while the others are idle: all goes by how many it holds. Assumes nothing.
use Prim.Native.Nat.{ℕ, zero, suc, ◌≤◌}
use mathlib.Core.Path.{◌≡◌, refl, ap₂, ◌∙◌, fun_ext}
use mathlib.Core.Bool.{Bool, true, false, cond, ◌&&◌}
use mathlib.Core.List.{List, [], ◌∷◌, ◌++◌}
use native.Mathlib.Omega.{arith}
use lib.Dec.{eqb, ltb}
use lib.ListN.{length, take, length-append}
use borrow.Author.Tests.{ne_eqb}
use Rattle.lent.proofs.Cases.{eq_or_ne, and_left, and_right}
use Rattle.shares.specs.Pool.{Pool, granted, free}
use Rattle.region.specs.Sound.{piece_size, sound}
use Rattle.region.specs.Holding.{held_by, free_cells}
use Rattle.pool.specs.Calls.{appended}
use Rattle.pool.specs.Contents.{Contents, holding, having, granted_in, takes_piece, append_to, sized}
use Rattle.pool.specs.View.{shown}
use Rattle.pool.specs.Shows.{Shows}
use Rattle.pool.specs.Vectors.{after, append_all, pool11}
use Rattle.pool.proofs.Shows.{promised}

-- ---- on numbers

-- holder 0 holds n, the others nothing
abbrev pub idle_but : ℕ → ℕ → ℕ
idle_but n j = cond (eqb j 0) n 0

-- whether it gets a cell
abbrev pub gets : ℕ → Bool
gets n = granted pool11 (idle_but n) 0

-- and what it holds then
abbrev pub next : ℕ → ℕ
next n = cond (gets n) (suc n) n

-- the same for k pieces
unfoldable pub answers : ℕ → ℕ → List Bool
answers n zero = []
answers n (suc k) = gets n ∷ answers (next n) k

unfoldable pub holds_after : ℕ → ℕ → ℕ
holds_after n zero = n
holds_after n (suc k) = holds_after (next n) k

-- ---- on what is shown

-- v is P11's pool, n pieces for holder 0 and none for the others
pub record Idle (v : Contents) (n : ℕ) : Type 0 where
  pub limits : v.limits ≡ pool11
  pub own : holding v 0 ≡ n
  pub others : (j : ℕ) → (j ≡ 0 → ⊥) → holding v j ≡ 0

module _ (v : Contents) (n : ℕ) (w : Idle v n) where
  holds : (j : ℕ) → holding v j ≡ idle_but n j
  holds j = eq_or_ne j 0 (λ e. rw e w.own) (λ d. rw (ne_eqb j 0 d) (w.others j d))

  -- what goes by limits and holdings goes by n
  by_number : {A : Type 0} (f : Pool → (ℕ → ℕ) → A) → f v.limits (holding v) ≡ f pool11 (idle_but n)
  by_number f = ap₂ f w.limits (fun_ext holds)

  module _ (xs : List ℕ) (fits : piece_size (length xs) ≡ true) where
    takes-gets : takes_piece v 0 xs ≡ gets n
    unfolding takes_piece granted_in
    takes-gets = rw fits (by_number (λ K h. ltb 0 K.holders && granted K h 0))

    idle_next : Idle (append_to v 0 xs) (next n)
    unfolding append_to
    idle_next = rw takes-gets (go (gets n))
      where
        go : (b : Bool) → Idle (cond b (having v 0 (v.pieces 0 ++ (xs ∷ []))) v) (cond b (suc n) n)
        go true = record {
          limits = w.limits;
          own = length-append (v.pieces 0) (xs ∷ []) ∙ omega (arith, w.own);
          others = λ j d. rw (ne_eqb j 0 d) (w.others j d);
        }
        go false = w

-- ---- on bytes

-- the first k of xss were appended to r for holder 0, which held n
pub record Ran (r : List ℕ) (n k : ℕ) (xss : List (List ℕ)) : Type 0 where
  pub told : append_all r 0 (take k xss) ≡ answers n k
  pub sound : sound (after r 0 (take k xss)) ≡ true
  pub idle : Idle (shown (after r 0 (take k xss))) (holds_after n k)

pub run : (r : List ℕ) (n k : ℕ) (xss : List (List ℕ)) → sound r ≡ true → Idle (shown r) n → sized xss ≡ true → k ≤ length xss
    → Ran r n k xss
unfolding append_all after answers holds_after sized
run r n zero xss s w e h = record { told = refl; sound = s; idle = w }
run r n (suc k) [] s w e h = absurd (omega arith)
run r n (suc k) (xs ∷ xss) s w e h =
    let S : Shows r = promised.shows r s in
    let fits = and_left (piece_size (length xs)) (sized xss) e in
    let rest : Ran (appended r 0 xs) (next n) k xss =
    run (appended r 0 xs) (next n) k xss (S.append-sound 0 xs)
    (rw (S.append-shows 0 xs) (idle_next (shown r) n w xs fits))
    (and_right (piece_size (length xs)) (sized xss) e) (omega arith) in
    record {
      told = ap₂ ◌∷◌ (S.append-says 0 xs ∙ takes-gets (shown r) n w xs fits) rest.told;
      sound = rest.sound;
      idle = rest.idle;
    }

module _ {r : List ℕ} {n k : ℕ} {xss : List (List ℕ)} (w : Ran r n k xss) where
  abbrev t : List ℕ
  t = after r 0 (take k xss)

  pub free_after : free_cells t ≡ free pool11 (idle_but (holds_after n k))
  free_after = (promised.shows t w.sound).free ∙ by_number (shown t) (holds_after n k) w.idle free

  pub held_after : (j : ℕ) → held_by t j ≡ idle_but (holds_after n k) j
  held_after j = (promised.shows t w.sound).held j ∙ holds (shown t) (holds_after n k) w.idle j
