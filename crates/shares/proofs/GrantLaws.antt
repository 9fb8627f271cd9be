-- The grant rule: what it says, and that a cell given by it keeps the pool sound. Assumes nothing.
use Prim.Native.Nat.{ℕ, suc, ◌+◌, ◌-◌, ◌≤◌, ◌<◌}
use mathlib.Core.Path.{◌≡◌, refl, sym, ap, ◌∙◌}
use mathlib.Core.Logic.{◌↔◌}
use mathlib.Core.Bool.{Bool, true, false, cond, true≢false}
use native.Mathlib.Omega.{arith}
use lib.Dec.{ltb}
use borrow.Author.Tests.{ltb-true, ltb-false, lt-ltb, le-ltb}
use Rattle.lent.specs.Fold.{sum}
use Rattle.lent.proofs.Cases.{eq_or_ne}
use Rattle.lent.proofs.FoldLaws.{sum_ext, sum-zero}
use Rattle.shares.specs.Pool.{Pool, Fit, Sound, free, lack, others, others_lack, given, granted}
use Rattle.shares.proofs.OthersLaws.{sum_others, others_ext}

module _ (K : Pool) (h : ℕ → ℕ) (i : ℕ) where
  -- below the share a cell is given
  pub below-share : h i < K.share i → granted K h i ≡ true
  unfolding granted given
  below-share l = rw (lt-ltb (h i) (K.share i) l)

  -- at the ceiling none is
  pub at_ceiling : K.share i ≤ h i → K.ceiling i ≤ h i → granted K h i ≡ false
  unfolding granted given
  at_ceiling s c = rw (le-ltb (h i) (K.share i) s, le-ltb (h i) (K.ceiling i) c)

  -- between the two the free cells decide
  between_is : K.share i ≤ h i → h i < K.ceiling i → granted K h i ≡ ltb (others_lack K h i) (free K h)
  unfolding granted given
  between_is s c = rw (le-ltb (h i) (K.share i) s, lt-ltb (h i) (K.ceiling i) c)

  pub between : K.share i ≤ h i → h i < K.ceiling i → (granted K h i ≡ true) ↔ (others_lack K h i < free K h)
  between s c = (
    (λ g. ltb-true (others_lack K h i) (free K h) (sym (between_is s c) ∙ g)),
    (λ l. between_is s c ∙ lt-ltb (others_lack K h i) (free K h) l),
  )

  -- what a given cell tells: its holder was below the share, or between with enough left for the others
  pub data Why : Type 0 where
    below : h i < K.share i → Why
    spare : K.share i ≤ h i → h i < K.ceiling i → others_lack K h i < free K h → Why

  pub why : granted K h i ≡ true → Why
  unfolding granted given
  why = go (ltb (h i) (K.share i)) refl (ltb (h i) (K.ceiling i)) refl
    where
      go : (a : Bool) → ltb (h i) (K.share i) ≡ a → (b : Bool) → ltb (h i) (K.ceiling i) ≡ b
          → cond a true (cond b (ltb (others_lack K h i) (free K h)) false) ≡ true → Why
      go true p b q g = below (ltb-true (h i) (K.share i) p)
      go false p true q g =
          spare (ltb-false (h i) (K.share i) p) (ltb-true (h i) (K.ceiling i) q) (ltb-true (others_lack K h i) (free K h) g)
      go false p false q g = absurd (true≢false (sym g))

-- the rule goes by what the holders hold, and by nothing else
pub granted_ext : (K : Pool) (h k : ℕ → ℕ) (i : ℕ) → i < K.holders → ((j : ℕ) → j < K.holders → h j ≡ k j) → granted K h i ≡ granted K k i
unfolding granted
granted_ext K h k i l e =
    rw (
      e i l,
      sum_ext h k K.holders e,
      others_ext K.holders i (lack K h) (lack K k) (λ j m d. ap (λ x. K.share j - x) (e j m)),
    )

-- so does soundness
pub sound_ext : (K : Pool) (h k : ℕ → ℕ) → ((j : ℕ) → j < K.holders → h j ≡ k j) → Sound K h → Sound K k
sound_ext K h k e S = record {
  under = λ j l. omega (arith, e j l, S.under j l);
  within = omega (arith, held, S.within);
  enough = omega (arith, held, lacks, S.enough);
}
  where
    held : sum K.holders h ≡ sum K.holders k
    held = sum_ext h k K.holders e

    lacks : sum K.holders (lack K h) ≡ sum K.holders (lack K k)
    lacks = sum_ext (lack K h) (lack K k) K.holders (λ j l. ap (λ x. K.share j - x) (e j l))

-- a pool in which nothing is held is sound
pub fresh_sound : (K : Pool) (h : ℕ → ℕ) → Fit K → ((j : ℕ) → j < K.holders → h j ≡ 0) → Sound K h
fresh_sound K h F z = record {
  under = λ j l. omega (arith, z j l);
  within = omega (arith, none);
  enough = omega (arith, none, all, F.shared);
}
  where
    none : sum K.holders h ≡ 0
    none = sum-zero h K.holders z

    all : sum K.holders (lack K h) ≡ sum K.holders K.share
    all = sum_ext (lack K h) K.share K.holders (λ j l. omega (arith, z j l))

-- One holder i changes what it holds: h before, k after.
module _ (K : Pool) (F : Fit K) (h k : ℕ → ℕ) (i : ℕ) (l : i < K.holders)
    (same : (j : ℕ) → j < K.holders → (j ≡ i → ⊥) → k j ≡ h j) (S : Sound K h) where
  held_h : sum K.holders h ≡ h i + sum K.holders (others i h)
  held_h = sum_others K.holders i h l

  held_k : sum K.holders k ≡ k i + sum K.holders (others i h)
  held_k = sum_others K.holders i k l ∙ ap (λ x. k i + x) (others_ext K.holders i k h same)

  lack_h : sum K.holders (lack K h) ≡ lack K h i + others_lack K h i
  lack_h = sum_others K.holders i (lack K h) l

  lack_k : sum K.holders (lack K k) ≡ lack K k i + others_lack K h i
  lack_k =
      sum_others K.holders i (lack K k) l
      ∙ ap (λ x. lack K k i + x)
      (others_ext K.holders i (lack K k) (lack K h) (λ j m d. ap (λ x. K.share j - x) (same j m d)))

  under_k : k i ≤ K.ceiling i → (j : ℕ) → j < K.holders → k j ≤ K.ceiling j
  under_k c j m = eq_or_ne j i (λ q. rw q c) (λ d. omega (arith, same j m d, S.under j m))

  -- it takes none
  pub kept : k i ≤ h i → Sound K k
  kept d = record {
    under = under_k (omega (arith, S.under i l));
    within = omega (arith, held_h, held_k, S.within);
    enough = omega (arith, held_h, held_k, lack_h, lack_k, S.within, S.enough);
  }

  -- it takes one that it was given
  pub taken : granted K h i ≡ true → k i ≤ suc (h i) → Sound K k
  taken g d = go (why K h i g)
    where
      go : Why K h i → Sound K k
      go (below b) = record {
        under = under_k (omega (arith, F.ordered i l));
        within = omega (arith, held_h, held_k, lack_h, S.within, S.enough);
        enough = omega (arith, held_h, held_k, lack_h, lack_k, S.within, S.enough);
      }
      go (spare a b e) = record {
        under = under_k (omega arith);
        within = omega (arith, held_h, held_k, S.within);
        enough = omega (arith, held_h, held_k, lack_h, lack_k, S.within, S.enough);
      }

-- where a cell is given there is a free one
pub given_free : (K : Pool) (h : ℕ → ℕ) (i : ℕ) → i < K.holders → Sound K h → granted K h i ≡ true → 0 < free K h
given_free K h i l S g = go (why K h i g)
  where
    go : Why K h i → 0 < free K h
    go (below b) = omega (arith, sum_others K.holders i (lack K h) l, S.enough)
    go (spare a b e) = omega arith
