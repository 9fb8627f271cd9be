-- The first of some bytes that passes a test, as a fold over their places. Assumes nothing.
use mathlib.Core.Path.{◌≡◌, refl, sym, ap, ◌∙◌}
use mathlib.Core.Bool.{Bool, true, false, cond, not}
use mathlib.Core.List.{List}
use Prim.Native.Nat.{ℕ, ◌+◌, ◌≤◌, ◌<◌}
use native.Mathlib.Omega.{arith}
use lib.Dec.{ltb}
use lib.ListN.{length, get_or, take, drop}
use borrow.Author.Tests.{ltb-true, ltb-false}
use Rattle.std.specs.Prelude.{Option, Some, None, MatchOption}
use Rattle.std.specs.List.{position_or_len}
use Rattle.std.proofs.lemmas.List.{length-take, length-drop}
use Rattle.std.proofs.lemmas.List.Sums.{prefix_len-le-length, fails_before_first, passes_at_first}
use Rattle.lent.specs.Place.{window}
use Rattle.lent.specs.Fold.{first}
use Rattle.lent.proofs.Cases.{le_or_lt}
use Rattle.lent.proofs.PlaceLaws.{get_or-window}
use Rattle.lent.proofs.FoldLaws.{first_is, first_none}

module _ (test : ℕ → Bool) (r : List ℕ) (a n : ℕ) (l : a + n ≤ length r) where
  long : length (take n (drop a r)) ≡ n
  long = omega (arith, length-take n (drop a r), length-drop a r)

  at : (k : ℕ) → k < n → get_or (take n (drop a r)) k 0 ≡ get_or r (a + k) 0
  unfolding window
  at k h = get_or-window r a n k h

  -- the place of the first of the n bytes from place a that passes
  pub first_part : first n (λ i. test (get_or r (a + i) 0)) ≡ position_or_len test (take n (drop a r))
  first_part =
      le_or_lt n (position_or_len test (take n (drop a r)))
      (λ h.
      first_none n (λ i. test (get_or r (a + i) 0))
      (λ k u. ap test (sym (at k u)) ∙ fails_before_first test (take n (drop a r)) k 0 (omega arith))
      ∙ omega (arith, long, prefix_len-le-length (λ x. not (test x)) (take n (drop a r))))
      (λ h.
      first_is n (λ i. test (get_or r (a + i) 0)) (position_or_len test (take n (drop a r))) h
      (ap test (sym (at _ h)) ∙ passes_at_first test (take n (drop a r)) 0 (omega (arith, long)))
      (λ k u. ap test (sym (at k (omega arith))) ∙ fails_before_first test (take n (drop a r)) k 0 u))

  -- what `position` answers of them
  pub position_is : {o : Option ℕ} → o ≡ cond (ltb (position_or_len test (take n (drop a r))) (length (take n (drop a r)))) (Some (position_or_len test (take n (drop a r)))) None
      → MatchOption o (first n (λ i. test (get_or r (a + i) 0)) ≡ n) (λ c. (c ≡ first n (λ i. test (get_or r (a + i) 0))) × (c < n))
  position_is {o} e = go (ltb (position_or_len test (take n (drop a r))) (length (take n (drop a r)))) refl
    where
      go : (b : Bool) → ltb (position_or_len test (take n (drop a r))) (length (take n (drop a r))) ≡ b
          → MatchOption o (first n (λ i. test (get_or r (a + i) 0)) ≡ n) (λ c. (c ≡ first n (λ i. test (get_or r (a + i) 0))) × (c < n))
      go true t = rw (e, t) (sym first_part, omega (arith, long, ltb-true _ _ t))
      go false t = rw (e, t) (omega (arith, first_part, long, ltb-false _ _ t, prefix_len-le-length (λ x. not (test x)) (take n (drop a r))))
