-- What a region shows, by its limits and by what each holder has. Assumes nothing.
use mathlib.Core.Path.{◌≡◌, refl, sym, ap, ap₂, ◌∙◌, fun_ext}
use mathlib.Core.List.{List, []}
use Prim.Native.Nat.{ℕ, ◌≤◌, ◌<◌}
use native.Mathlib.Omega.{arith}
use borrow.Author.Tests.{lt-ltb, le-ltb, eq-eqb, ne_eqb}
use Rattle.lent.proofs.Cases.{le_or_lt, eq_or_ne}
use Rattle.shares.specs.Pool.{Pool}
use Rattle.region.specs.Layout.{holders, held, pool_in}
use Rattle.pool.specs.Contents.{Contents, having}
use Rattle.pool.specs.View.{pieces, pieces_of, shown}

module _ (r : List ℕ) (i : ℕ) where
  pub pieces_in : i < holders → pieces_of r i ≡ pieces r i (held r i)
  unfolding pieces_of
  pieces_in h = rw (lt-ltb i holders h)

  pub pieces_out : holders ≤ i → pieces_of r i ≡ []
  unfolding pieces_of
  pieces_out h = rw (le-ltb i holders h)

-- contents are the same where limits and pieces are
contents_ext : (v w : Contents) → v.limits ≡ w.limits → ((j : ℕ) → v.pieces j ≡ w.pieces j) → v ≡ w
contents_ext v w e f = ap₂ (λ (K : Pool) (p : ℕ → List (List ℕ)). record { limits = K; pieces = p }) e (fun_ext f)

-- a holder that gets what it has
pub having_same : (v : Contents) (i : ℕ) → having v i (v.pieces i) ≡ v
having_same v i =
    contents_ext (having v i (v.pieces i)) v refl
    (λ j. eq_or_ne j i (λ e. rw (eq-eqb j i e) (ap v.pieces (sym e))) (λ d. rw (ne_eqb j i d)))

-- it shows v
pub shown_is : (r : List ℕ) (v : Contents) → pool_in r ≡ v.limits
    → ((j : ℕ) → j < holders → pieces r j (held r j) ≡ v.pieces j) → ((j : ℕ) → holders ≤ j → v.pieces j ≡ []) → shown r ≡ v
unfolding shown
shown_is r v e f g =
    contents_ext (shown r) v e
    (λ j. le_or_lt holders j (λ h. pieces_out r j h ∙ sym (g j h)) (λ h. pieces_in r j h ∙ f j h))

-- q shows what r does, with ps for holder i's pieces
pub shown_having : (r q : List ℕ) (i : ℕ) (ps : List (List ℕ)) → i < holders → pool_in q ≡ pool_in r → pieces q i (held q i) ≡ ps
    → ((j : ℕ) → j < holders → (j ≡ i → ⊥) → pieces q j (held q j) ≡ pieces r j (held r j)) → shown q ≡ having (shown r) i ps
unfolding shown
shown_having r q i ps l e own other =
    shown_is q (having (shown r) i ps) e
    (λ j h.
    eq_or_ne j i
    (λ d. rw (eq-eqb j i d, d) own)
    (λ d. rw (ne_eqb j i d) (other j h d ∙ sym (pieces_in r j h))))
    (λ j h. rw (ne_eqb j i (omega arith)) (pieces_out r j h))
