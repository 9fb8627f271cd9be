-- The length of a response, piece by piece. Assumes nothing.
use mathlib.Core.Path.{◌≡◌, ap}
use mathlib.Core.List.{List}
use Prim.Native.Nat.{ℕ, zero, suc, ◌+◌, ◌*◌, ◌≤◌}
use native.Mathlib.Numerals.{add-one}
use native.Mathlib.Omega.{arith}
use lib.ListN.{length}
use Rattle.std.specs.List.{sum_by, range_with_len}
use Rattle.std.proofs.lemmas.List.Sums.{sum_by-cons}
use Rattle.region.specs.Layout.{cell_size, listed}
use Rattle.pool.specs.Calls.{bytes_in, joined}
use Rattle.pool.proofs.ResponseLaws.{bytes-short, length_step}

module _ (r : List ℕ) (i : ℕ) where
  -- the pieces from a on, added to those before
  lengths_from : (n a : ℕ) → length (joined r i a) + sum_by (λ k. length (bytes_in r (listed r i k))) (range_with_len a n) ≡ length (joined r i (a + n))
  lengths_from zero a =
      let e : a ≡ a + 0 = omega arith in
      omega (arith, ap (λ k. length (joined r i k)) e)
  lengths_from (suc n) a =
      let e : a + 1 + n ≡ a + suc n = omega arith in
      omega (
        arith,
        sum_by-cons (λ k. length (bytes_in r (listed r i k))) a (range_with_len (a + 1) n),
        length_step r i a,
        lengths_from n (a + 1),
        ap (λ k. length (joined r i k)) e,
      )

  pub lengths_are : (n : ℕ) → sum_by (λ k. length (bytes_in r (listed r i k))) (range_with_len 0 n) ≡ length (joined r i n)
  unfolding joined
  lengths_are n =
      let e : 0 + n ≡ n = omega arith in
      omega (arith, lengths_from n 0, ap (λ k. length (joined r i k)) e)

  -- a response is no longer than its cells
  pub lengths_short : (n : ℕ) → length (joined r i n) ≤ cell_size * n
  unfolding joined
  lengths_short zero = omega arith
  lengths_short (suc n) = omega (arith, lengths_short n, length_step r i n, bytes-short r (listed r i n), ap (λ k. length (joined r i k)) (add-one n))
