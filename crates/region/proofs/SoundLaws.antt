-- The test of a sound region is its facts. Assumes nothing.
use Prim.Native.Nat.{ℕ, ◌+◌, ◌≤◌, ◌<◌}
use mathlib.Core.Path.{◌≡◌, sym, ap, ◌∙◌}
use mathlib.Core.Bool.{true}
use mathlib.Core.List.{List}
use native.Mathlib.Omega.{arith}
use lib.Dec.{eqb, ltb, leb}
use lib.ListN.{length}
use borrow.Author.Tests.{lt-ltb, le-leb, eq-eqb, ltb-true, leb-true, eqb-true}
use Rattle.lent.specs.Fold.{all, sum}
use Rattle.lent.proofs.Cases.{and_left, and_right}
use Rattle.lent.proofs.FoldLaws.{all_at, all_of}
use Rattle.shares.specs.Pool as pool
use Rattle.shares.proofs.TestLaws.{fit_facts, facts_fit, sound_facts, facts_sound}
use Rattle.region.specs.Layout.{holders, cells, cell_size, size, held, owner, place, len, listed, pool_in}
use Rattle.region.specs.Sound.{free_at, is_piece, listed_well, list_well, counted, sound_in, sound, Piece, Good}

module _ (r : List ℕ) where
  -- ---- one piece

  is_piece_lem : (i k c : ℕ) → is_piece r i k c ≡ true → Piece r i k c
  is_piece_lem i k c e =
      let e1 = and_right (ltb c cells) _ e in
      let e2 = and_right (eqb (owner r c) i) _ e1 in
      let e3 = and_right (eqb (place r c) k) _ e2 in
      record {
        low = ltb-true c cells (and_left _ _ e);
        owned = eqb-true (owner r c) i (and_left _ _ e1);
        placed = eqb-true (place r c) k (and_left _ _ e2);
        some = ltb-true 0 (len r c) (and_left _ _ e3);
        short = leb-true (len r c) cell_size (and_right (ltb 0 (len r c)) _ e3);
      }

  piece_is : (i k c : ℕ) → Piece r i k c → is_piece r i k c ≡ true
  piece_is i k c w =
      rw (
        lt-ltb c cells w.low,
        eq-eqb (owner r c) i w.owned,
        eq-eqb (place r c) k w.placed,
        lt-ltb 0 (len r c) w.some,
        le-leb (len r c) cell_size w.short,
      )

  -- ---- the lists

  lists_pieces : all holders (list_well r) ≡ true → (i k : ℕ) → i < holders → k < held r i → Piece r i k (listed r i k)
  unfolding list_well listed_well
  lists_pieces e i k h l = is_piece_lem i k (listed r i k) (all_at (listed_well r i) (held r i) k (all_at (list_well r) holders i e h) l)

  pieces_lists : ((i k : ℕ) → i < holders → k < held r i → Piece r i k (listed r i k)) → all holders (list_well r) ≡ true
  unfolding list_well listed_well
  pieces_lists g =
      all_of (list_well r) holders (λ i h. all_of (listed_well r i) (held r i) (λ k l. piece_is i k (listed r i k) (g i k h l)))

  -- ---- the region

  -- what passes the test follows the rules
  pub sound_good : sound r ≡ true → Good r
  unfolding sound sound_in counted
  sound_good e =
      let e1 = and_right (leb size (length r)) _ e in
      let e2 = and_right (pool.fit (pool_in r)) _ e1 in
      let e3 = and_right (pool.sound (pool_in r) (held r)) _ e2 in
      record {
        long = leb-true size (length r) (and_left _ _ e);
        fit = fit_facts (pool_in r) (and_left _ _ e1);
        holdings = sound_facts (pool_in r) (held r) (and_left _ _ e2);
        counted = eqb-true (sum cells (free_at r)) (pool.free (pool_in r) (held r)) (and_left _ _ e3);
        pieces = lists_pieces (and_right (counted r) _ e3);
      }

  -- what follows the rules passes the test
  pub good_sound : Good r → sound r ≡ true
  unfolding sound sound_in counted
  good_sound g =
      rw (
        le-leb size (length r) g.long,
        facts_fit (pool_in r) g.fit,
        facts_sound (pool_in r) (held r) g.holdings,
        eq-eqb (sum cells (free_at r)) (pool.free (pool_in r) (held r)) g.counted,
        pieces_lists g.pieces,
      )

  -- ---- what follows from the rules

  -- no holder has more than all cells
  pub held_low : Good r → (i : ℕ) → i < holders → held r i ≤ cells
  held_low g i h = omega (arith, g.holdings.under i h, g.fit.low i h)

  -- the cells that nobody owns and those that are held make up all cells
  pub total : Good r → sum cells (free_at r) + sum holders (held r) ≡ cells
  total g = omega (arith, g.counted, g.holdings.within)

  -- no cell is listed twice
  pub listed_once : Good r → (i j k o : ℕ) → i < holders → j < holders → k < held r i → o < held r j → listed r i k ≡ listed r j o → (i ≡ j) × (k ≡ o)
  listed_once g i j k o hi hj hk ho e = (
    sym (g.pieces i k hi hk).owned ∙ ap (owner r) e ∙ (g.pieces j o hj ho).owned,
    sym (g.pieces i k hi hk).placed ∙ ap (place r) e ∙ (g.pieces j o hj ho).placed,
  )
