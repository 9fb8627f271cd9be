-- A fresh region: it is written part by part, nobody has a piece, and it is sound where its limits pass. Assumes nothing.
use mathlib.Core.Path.{◌≡◌, refl, sym, ap, ap₂, ◌∙◌, subst}
use mathlib.Core.Bool.{true}
use mathlib.Core.List.{List, [], ◌++◌}
use Prim.Native.Nat.{ℕ, ◌+◌, ◌-◌, ◌≤◌, ◌<◌}
use native.Mathlib.Omega.{arith}
use lib.ListN.{length, get_or, replicate, length-append, length-replicate, get_or-replicate}
use Rattle.lent.specs.Place.{window, splice}
use Rattle.lent.specs.Fold.{sum}
use Rattle.lent.proofs.PlaceLaws.{length-splice, splice-append, window_before, window_same, byte_before, byte_inside}
use Rattle.lent.proofs.FoldLaws.{sum_ext, sum-zero}
use Rattle.shares.specs.Pool.{Fit, fit}
use Rattle.shares.proofs.GrantLaws.{fresh_sound}
use Rattle.shares.proofs.TestLaws.{fit_facts}
use Rattle.region.specs.Layout.{holders, cells, unowned, shares_at, ceilings_at, held_at, owners_at, places_at, size, held, owner, pool_of, pool_in}
use Rattle.region.specs.Sound.{free_at, Good}
use Rattle.pool.specs.Calls.{fresh}
use Rattle.pool.specs.View.{pieces}

-- a part that was written is read
read : (t : List ℕ) (a : ℕ) (xs : List ℕ) (n : ℕ) → length xs ≡ n → a + n ≤ length t → window (splice t a xs) a n ≡ xs
read t a xs n e h = rw e at (window_same t a xs (omega arith))

-- ---- the parts that are alike in all of them

counts : List ℕ
counts = replicate holders 0

owners : List ℕ
owners = replicate cells unowned

rest : List ℕ
rest = replicate (size - places_at) 0

length-counts : length counts ≡ holders
unfolding counts
length-counts = length-replicate {A = ℕ} holders 0

length_owners : length owners ≡ cells
unfolding owners
length_owners = length-replicate {A = ℕ} cells unowned

length_rest : length rest ≡ size - places_at
unfolding rest
length_rest = length-replicate {A = ℕ} (size - places_at) 0

ruleset lengths = (length-append, length-counts, length_owners, length_rest)

module _ (sh ce : List ℕ) (ls : length sh ≡ holders) (lc : length ce ≡ holders) where
  by_parts : fresh sh ce ≡ sh ++ ce ++ counts ++ owners ++ rest
  unfolding fresh counts owners rest
  by_parts = refl

  module _ (r : List ℕ) (lr : size ≤ length r) where
    abbrev q1 : List ℕ
    q1 = splice r 0 sh

    abbrev q2 : List ℕ
    q2 = splice q1 ceilings_at ce

    abbrev q3 : List ℕ
    q3 = splice q2 held_at counts

    abbrev q4 : List ℕ
    q4 = splice q3 owners_at owners

    abbrev q : List ℕ
    q = splice r 0 (fresh sh ce)

    -- a part behind those that are written
    next : (xs ys : List ℕ) (a : ℕ) → length xs ≡ a → a + length ys ≤ length r → splice (splice r 0 xs) a ys ≡ splice r 0 (xs ++ ys)
    next xs ys a e h = let z : a ≡ 0 + length xs = omega arith in rw z (splice-append r 0 xs ys (omega arith))

    steps : splice q4 places_at rest ≡ q
    steps =
        rw (
          by_parts,
          next sh ce ceilings_at ls (omega arith),
          next (sh ++ ce) counts held_at (simp lengths (omega arith)) (simp lengths (omega arith)),
          next (sh ++ ce ++ counts) owners owners_at (simp lengths (omega arith)) (simp lengths (omega arith)),
        )
        (next (sh ++ ce ++ counts ++ owners) rest places_at (simp lengths (omega arith)) (simp lengths (omega arith)))

    pub fresh_steps : splice (splice (splice (splice (splice r 0 sh) ceilings_at ce) held_at (replicate holders 0)) owners_at (replicate cells unowned)) places_at (replicate (size - places_at) 0)
        ≡ splice r 0 (fresh sh ce)
    unfolding counts owners rest
    fresh_steps = steps

    -- ---- what stands in it

    limits : (b n : ℕ) → b + n ≤ held_at → window q b n ≡ window q2 b n
    limits b n h =
        ap (λ (t : List ℕ). window t b n) (sym steps)
        ∙ window_before q4 places_at rest b n (omega arith)
        ∙ window_before q3 owners_at owners b n (omega arith)
        ∙ window_before q2 held_at counts b n h

    pub pool_fresh : pool_in q ≡ pool_of sh ce
    pool_fresh =
        ap₂ pool_of
        (limits shares_at holders (omega arith) ∙ window_before q1 ceilings_at ce shares_at holders (omega arith) ∙ read r shares_at sh holders ls (omega arith))
        (limits ceilings_at holders (omega arith) ∙ read q1 ceilings_at ce holders lc (simp length-splice (omega arith)))

    counts_at : (j : ℕ) → j < holders → held q j ≡ get_or counts j 0
    counts_at j h =
        ap (λ (t : List ℕ). held t j) (sym steps)
        ∙ byte_before q4 places_at rest (held_at + j) (omega arith)
        ∙ byte_before q3 owners_at owners (held_at + j) (omega arith)
        ∙ byte_inside q2 held_at counts j (simp (lengths, length-splice) (omega arith)) (simp lengths (omega arith))

    owners_at_lem : (c : ℕ) → c < cells → owner q c ≡ get_or owners c 0
    owners_at_lem c h =
        ap (λ (t : List ℕ). owner t c) (sym steps)
        ∙ byte_before q4 places_at rest (owners_at + c) (omega arith)
        ∙ byte_inside q3 owners_at owners c (simp (lengths, length-splice) (omega arith)) (simp lengths (omega arith))

    held_fresh : (j : ℕ) → j < holders → held q j ≡ 0
    unfolding counts
    held_fresh j h = counts_at j h ∙ get_or-replicate {A = ℕ} holders j 0 0 h

    all_free : sum cells (free_at q) ≡ cells
    unfolding owners sum
    all_free = sum_ext (free_at q) (λ c. 1) cells (λ c h. rw (owners_at_lem c h ∙ get_or-replicate {A = ℕ} cells c unowned 0 h))

    pub fresh_none : (j : ℕ) → j < holders → pieces q j (held q j) ≡ []
    unfolding pieces
    fresh_none j h = ap (pieces q j) (held_fresh j h)

    pub fresh_good : fit (pool_of sh ce) ≡ true → Good q
    fresh_good ok = record {
      long = omega (arith, lr, length-splice r 0 (fresh sh ce));
      fit = F;
      holdings = fresh_sound (pool_in q) (held q) F held_fresh;
      pieces = λ j k h l. absurd (omega (arith, held_fresh j h));
      counted = omega (arith, all_free, sum-zero (held q) holders held_fresh);
    }
      where
        F : Fit (pool_in q)
        F = subst Fit (sym pool_fresh) (fit_facts (pool_of sh ce) ok)
