-- A piece that the rule grants a cell: the view grows by it, and the region stays sound. Assumes nothing.
use Prim.Native.Nat.{ℕ, ◌+◌, ◌≤◌, ◌<◌}
use mathlib.Core.Path.{◌≡◌, sym, ap, ap₂, ◌∙◌, subst}
use mathlib.Core.Bool.{Bool, true}
use mathlib.Core.List.{List, [], ◌∷◌, ◌++◌}
use native.Mathlib.Numerals.{add-one}
use native.Mathlib.Omega.{arith}
use lib.Dec.{eqb}
use lib.ListN.{length}
use borrow.Author.Tests.{eqb-true, ne_eqb}
use Rattle.lent.specs.Fold.{sum}
use Rattle.lent.proofs.Cases.{le_or_lt, eq_or_ne}
use Rattle.lent.proofs.FoldLaws.{sum-zero, sum_grow, first_holds, first_least}
use Rattle.shares.specs.Pool.{Pool, Fit, Sound, free}
use Rattle.shares.proofs.OthersLaws.{sum_others}
use Rattle.shares.proofs.GrantLaws.{taken, given_free}
use Rattle.region.specs.Layout.{holders, cells, cell_size, unowned, held, owner, listed, piece, pool_in}
use Rattle.region.specs.Sound.{free_at, Piece, Good}
use Rattle.region.specs.Holding.{rule_grants}
use Rattle.pool.specs.Calls.{lowest, stored}
use Rattle.pool.specs.Contents.{having}
use Rattle.pool.specs.View.{pieces, shown}
use Rattle.region.proofs.SoundLaws.{held_low, total}
use Rattle.pool.proofs.ViewLaws.{pieces_ext}
use Rattle.pool.proofs.ShownLaws.{pieces_in, shown_having}
use Rattle.pool.proofs.StoredLaws.{Stores, length-stored, held_own, listed_own, len_own, place_own, owner_own, held_other, owner_other, place_other, len_other, listed_holder, listed_before, piece_own, piece_other, pool_stored}

-- what the lowest free cell is the first of
abbrev is_free : List ℕ → ℕ → Bool
is_free r c = eqb (owner r c) unowned

module _ (r : List ℕ) (i : ℕ) (g : Good r) (h : i < holders) (given : rule_grants r i ≡ true) where
  some-free : 0 < free (pool_in r) (held r)
  unfolding rule_grants
  some-free = given_free (pool_in r) (held r) i h g.holdings given

  pub lowest_in : lowest r < cells
  unfolding lowest
  lowest_in = le_or_lt cells (lowest r) (λ l. absurd (omega (arith, some-free, total r g, none l))) (λ l. l)
    where
      none : cells ≤ lowest r → sum cells (free_at r) ≡ 0
      none l = sum-zero (free_at r) cells (λ k m. rw (first_least cells (is_free r) k (omega arith)))

  lowest-free : owner r (lowest r) ≡ unowned
  unfolding lowest
  lowest-free = eqb-true (owner r (lowest r)) unowned (first_holds cells (is_free r) lowest_in)

  -- there is a place in its list
  held_less : held r i < cells
  held_less = omega (arith, some-free, sum_others holders i (held r) h)

  module _ (xs : List ℕ) (short : length xs ≤ cell_size) where
    abbrev q : List ℕ
    q = stored r i (held r i) (lowest r) xs

    s : Stores r i (held r i) (lowest r) xs
    s = record { long = g.long; holder = h; last = held_less; cell = lowest_in; short = short }

    -- a cell that a list names is not the one that is taken, and stays as it was
    untaken : {j k d : ℕ} → j < holders → Piece r j k d → d ≡ lowest r → ⊥
    untaken l w e = omega (arith, lowest-free, ap (owner r) e)

    same_piece : {j k d : ℕ} → j < holders → Piece r j k d → piece q d ≡ piece r d
    same_piece {d} l w = piece_other s d w.low w.short (untaken l w)

    keeps : {j k d : ℕ} → j < holders → Piece r j k d → Piece q j k d
    keeps {d} l w =
        let e = len_other s d w.low (untaken l w) in
        record {
          low = w.low;
          owned = owner_other s d w.low (untaken l w) ∙ w.owned;
          placed = place_other s d w.low (untaken l w) ∙ w.placed;
          some = rw e w.some;
          short = rw e w.short;
        }

    listed_other : (j k : ℕ) → j < holders → k < held r j → (j ≡ i → ⊥) → listed q j k ≡ listed r j k
    listed_other j k l m d = listed_holder s j k l (omega (arith, held_low r g j l)) d

    -- ---- the view

    grown : pieces q i (held q i) ≡ pieces r i (held r i) ++ (xs ∷ [])
    unfolding pieces
    grown =
        ap (pieces q i) (held_own s ∙ add-one (held r i))
        ∙ ap₂ (λ (a : List (List ℕ)) (b : List ℕ). a ++ (b ∷ []))
        (pieces_ext r q i (held r i) (λ k l. rw (listed_before s k l) (same_piece h (g.pieces i k h l))))
        (ap (piece q) (listed_own s) ∙ piece_own s)

    others_same : (j : ℕ) → j < holders → (j ≡ i → ⊥) → pieces q j (held q j) ≡ pieces r j (held r j)
    others_same j l d =
        ap (pieces q j) (held_other s j l d)
        ∙ pieces_ext r q j (held r j) (λ k m. rw (listed_other j k l m d) (same_piece l (g.pieces j k l m)))

    pub stored-shows : shown q ≡ having (shown r) i ((shown r).pieces i ++ (xs ∷ []))
    unfolding shown
    stored-shows =
        shown_having r q i ((shown r).pieces i ++ (xs ∷ [])) h (pool_stored s) (grown ∙ rw (pieces_in r i h)) others_same

    -- ---- soundness

    holdings_kept : Sound (pool_in r) (held q)
    unfolding rule_grants
    holdings_kept =
        taken (pool_in r) g.fit (held r) (held q) i h (held_other s) g.holdings given (omega (arith, held_own s))

    -- one cell less is free, one more held
    free_less : sum cells (free_at r) ≡ sum cells (free_at q) + 1
    free_less =
        sum_grow (free_at q) (free_at r) cells (lowest r) 1 lowest_in
        (rw (owner_own s, lowest-free, ne_eqb i unowned (omega arith)))
        (λ d l o. rw (owner_other s d l o))

    held_more : sum holders (held q) ≡ sum holders (held r) + 1
    held_more = sum_grow (held r) (held q) holders i 1 h (held_own s) (held_other s)

    module _ (some : 0 < length xs) where
      last_piece : Piece q i (held r i) (lowest r)
      last_piece = record {
        low = lowest_in;
        owned = owner_own s;
        placed = place_own s;
        some = rw (len_own s) some;
        short = rw (len_own s) short;
      }

      pieces_own : (k : ℕ) → k < held q i → Piece q i k (listed q i k)
      pieces_own k m =
          le_or_lt (held r i) k
          (λ l.
          let e : k ≡ held r i = omega (arith, held_own s) in
          rw (e, listed_own s) last_piece)
          (λ l. rw (listed_before s k l) (keeps h (g.pieces i k h l)))

      pieces_other : (j k : ℕ) → j < holders → (j ≡ i → ⊥) → k < held q j → Piece q j k (listed q j k)
      pieces_other j k l d m =
          let m2 : k < held r j = rw (held_other s j l d) at m in
          rw (listed_other j k l m2 d) (keeps l (g.pieces j k l m2))

      pub stored_good : Good q
      stored_good = record {
        long = omega (arith, g.long, length-stored r i (held r i) (lowest r) xs);
        fit = subst Fit (sym (pool_stored s)) g.fit;
        holdings = subst (λ (K : Pool). Sound K (held q)) (sym (pool_stored s)) holdings_kept;
        pieces = λ j k l m. eq_or_ne j i (λ e. rw e (pieces_own k (rw e at m))) (λ d. pieces_other j k l d m);
        counted = omega (arith, free_less, held_more, total r g);
      }
