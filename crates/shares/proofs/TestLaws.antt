-- What open asks, and what a sound pool is: each test is its facts. Assumes nothing.
use Prim.Native.Nat.{ℕ, ◌<◌}
use mathlib.Core.Path.{◌≡◌}
use mathlib.Core.Bool.{Bool, true, false, ◌&&◌}
use lib.Dec.{leb}
use borrow.Author.Tests.{leb-true, le-leb, lt-leb}
use Rattle.lent.specs.Fold.{all, sum}
use Rattle.lent.proofs.Cases.{and_left, and_right, and_false}
use Rattle.lent.proofs.FoldLaws.{all_at, all_of}
use Rattle.shares.specs.Pool.{Pool, limit, fit, Fit, free, lack, sound, Sound}

module _ (K : Pool) where
  limits : fit K ≡ true → (i : ℕ) → i < K.holders → leb (K.share i) (K.ceiling i) && leb (K.ceiling i) K.cells ≡ true
  unfolding fit limit
  limits e i h = all_at (limit K) K.holders i (and_left _ _ e) h

  pub fit_facts : fit K ≡ true → Fit K
  unfolding fit
  fit_facts e = record {
    ordered = λ i h. leb-true (K.share i) (K.ceiling i) (and_left _ _ (limits e i h));
    low = λ i h. leb-true (K.ceiling i) K.cells (and_right (leb (K.share i) (K.ceiling i)) _ (limits e i h));
    shared = leb-true (sum K.holders K.share) K.cells (and_right (all K.holders (limit K)) _ e);
  }

  pub facts_fit : Fit K → fit K ≡ true
  unfolding fit limit
  facts_fit F =
      rw (
        all_of (limit K) K.holders (λ i h. rw (le-leb (K.share i) (K.ceiling i) (F.ordered i h), le-leb (K.ceiling i) K.cells (F.low i h))),
        le-leb (sum K.holders K.share) K.cells F.shared,
      )

  -- shares that add to more than the cells are refused
  pub beyond_fit : K.cells < sum K.holders K.share → fit K ≡ false
  unfolding fit
  beyond_fit l = and_false (all K.holders (limit K)) _ (lt-leb (sum K.holders K.share) K.cells l)

module _ (K : Pool) (h : ℕ → ℕ) where
  abbrev under : ℕ → Bool
  under i = leb (h i) (K.ceiling i)

  sums : sound K h ≡ true → leb (sum K.holders h) K.cells && leb (sum K.holders (lack K h)) (free K h) ≡ true
  unfolding sound
  sums e = and_right (all K.holders under) _ e

  pub sound_facts : sound K h ≡ true → Sound K h
  unfolding sound
  sound_facts e = record {
    under = λ i l. leb-true (h i) (K.ceiling i) (all_at under K.holders i (and_left _ _ e) l);
    within = leb-true (sum K.holders h) K.cells (and_left _ _ (sums e));
    enough = leb-true (sum K.holders (lack K h)) (free K h) (and_right (leb (sum K.holders h) K.cells) _ (sums e));
  }

  pub facts_sound : Sound K h → sound K h ≡ true
  unfolding sound
  facts_sound S =
      rw (
        all_of under K.holders (λ i l. le-leb (h i) (K.ceiling i) (S.under i l)),
        le-leb (sum K.holders h) K.cells S.within,
        le-leb (sum K.holders (lack K h)) (free K h) S.enough,
      )
