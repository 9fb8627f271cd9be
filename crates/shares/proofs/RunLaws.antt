-- Every call keeps the pool sound. Assumes nothing.
use Prim.Native.Nat.{ℕ, ◌≤◌, ◌<◌}
use mathlib.Core.Path.{◌≡◌, refl, ap, ◌∙◌}
use mathlib.Core.Bool.{Bool, true, false, cond}
use mathlib.Core.List.{List, [], ◌∷◌}
use native.Mathlib.Omega.{arith}
use lib.Dec.{ltb}
use borrow.Author.Tests.{lt-ltb, le-ltb, eq-eqb, ne_eqb}
use Rattle.lent.proofs.Cases.{and_right, le_or_lt}
use Rattle.shares.specs.Pool.{Pool, Fit, Sound, granted}
use Rattle.shares.specs.Rack.{Protocol, Lawful, Call, on, Rack, holds, asked, gets, put, after, run}
use Rattle.shares.proofs.GrantLaws.{kept, taken}

module _ (K : Pool) (P : Protocol) where
  -- a call on i leaves the others alone
  pub after_other : (r : Rack P) (i j : ℕ) (x : P.Input) → (j ≡ i → ⊥) → after K P r (on i x) j ≡ r j
  unfolding after
  after_other r i j x d = go (ltb i K.holders)
    where
      go : (b : Bool) → (cond b (put K P r i (P.next i (r i) (gets K P r i x) x)) r) j ≡ r j
      go true = rw (ne_eqb j i d)
      go false = refl

  pub after_same : (r : Rack P) (i : ℕ) (x : P.Input) → i < K.holders → after K P r (on i x) i ≡ P.next i (r i) (gets K P r i x) x
  unfolding after
  after_same r i x l = rw (lt-ltb i K.holders l, eq-eqb i i refl)

  -- a call on a number beyond the last holder changes nothing
  pub after_out : (r : Rack P) (i : ℕ) (x : P.Input) → K.holders ≤ i → after K P r (on i x) ≡ r
  unfolding after
  after_out r i x l = rw (le-ltb i K.holders l)

  module _ (F : Fit K) (W : Lawful P) where
    pub sound_after : (r : Rack P) (c : Call P) → Sound K (holds P r) → Sound K (holds P (after K P r c))
    sound_after r (on i x) S =
        le_or_lt K.holders i
        (λ l. rw (after_out r i x l) S)
        (λ l. bit l (gets K P r i x) refl)
      where
        h : ℕ → ℕ
        h = holds P r

        k : ℕ → ℕ
        k = holds P (after K P r (on i x))

        same : (j : ℕ) → j < K.holders → (j ≡ i → ⊥) → k j ≡ h j
        same j m d = ap P.held (after_other r i j x d)

        now : (l : i < K.holders) (g : Bool) → gets K P r i x ≡ g → k i ≡ P.held (P.next i (r i) g x)
        now l g q = ap P.held (after_same r i x l ∙ ap (λ b. P.next i (r i) b x) q)

        bit : (l : i < K.holders) (g : Bool) → gets K P r i x ≡ g → Sound K k
        bit l true q =
            taken K F h k i l same S (and_right (asked K P r i x) (granted K h i) q)
            (omega (arith, now l true q, W.takes i (r i) x))
        bit l false q = kept K F h k i l same S (omega (arith, now l false q, W.keeps i (r i) x))

    pub sound-run : (r : Rack P) (cs : List (Call P)) → Sound K (holds P r) → Sound K (holds P (run K P r cs))
    unfolding run
    sound-run r [] S = S
    sound-run r (c ∷ cs) S = sound-run (after K P r c) cs (sound_after r c S)
