-- Striking out the calls on other holders. Assumes nothing.
use Prim.Native.Nat.{ℕ, ◌<◌}
use mathlib.Core.Path.{◌≡◌, refl, sym, ap, ap₂, ◌∙◌, subst}
use mathlib.Core.Bool.{Bool, true, false, cond, ◌&&◌}
use mathlib.Core.List.{List, [], ◌∷◌}
use lib.Dec.{eqb, ltb}
use borrow.Author.Tests.{eqb-true, eqb-false}
use Rattle.lent.proofs.Cases.{le_or_lt}
use Rattle.shares.specs.Pool.{Pool, granted}
use Rattle.shares.specs.Rack.{Protocol, Call, on, Rack, holds, asked, gets, after, answer_to, answers, answers_on, Modest, AllModest, ModestOn, strike}
use Rattle.shares.proofs.GrantLaws.{below-share}
use Rattle.shares.proofs.RunLaws.{after_other, after_same, after_out}

module _ (K : Pool) (P : Protocol) where
  -- A call that asks only below the share gets a cell exactly if it asks.
  asked-gets : (r : Rack P) (i : ℕ) (x : P.Input) → Modest K P r i x → gets K P r i x ≡ asked K P r i x
  asked-gets r i x m = go (asked K P r i x) m
    where
      go : (a : Bool) → (a ≡ true → P.held (r i) < K.share i) → a && granted K (holds P r) i ≡ a
      go true n = below-share K (holds P r) i (n refl)
      go false n = refl

  -- To be modest is a matter of the holder's own state.
  same_modest : (r s : Rack P) (i : ℕ) (x : P.Input) → r i ≡ s i → Modest K P r i x → Modest K P s i x
  same_modest r s i x e m = subst (λ t. ltb i K.holders && P.asks i t x ≡ true → P.held t < K.share i) e m

  -- So a modest call gets the same in any two racks that agree at its holder,
  same_gets : (r s : Rack P) (i : ℕ) (x : P.Input) → r i ≡ s i → Modest K P r i x → gets K P r i x ≡ gets K P s i x
  same_gets r s i x e m =
      asked-gets r i x m
      ∙ ap (λ t. ltb i K.holders && P.asks i t x) e
      ∙ sym (asked-gets s i x (same_modest r s i x e m))

  -- does the same to its holder,
  same_after : (r s : Rack P) (i : ℕ) (x : P.Input) → r i ≡ s i → Modest K P r i x → after K P r (on i x) i ≡ after K P s (on i x) i
  same_after r s i x e m =
      le_or_lt K.holders i
      (λ l. ap (λ t. t i) (after_out K P r i x l) ∙ e ∙ sym (ap (λ t. t i) (after_out K P s i x l)))
      (λ l.
      after_same K P r i x l
      ∙ ap₂ (λ t b. P.next i t b x) e (same_gets r s i x e m)
      ∙ sym (after_same K P s i x l))

  -- and is answered the same.
  same_answer : (r s : Rack P) (i : ℕ) (x : P.Input) → r i ≡ s i → Modest K P r i x → answer_to K P r (on i x) ≡ answer_to K P s (on i x)
  unfolding answer_to
  same_answer r s i x e m = ap₂ (λ t b. cond (ltb i K.holders) (P.answer i t b x) (P.refused x)) e (same_gets r s i x e m)

  -- r is the rack of the calls that remain, s the rack of all calls; they agree at i
  pub striking : (i : ℕ) (cs : List (Call P)) (r s : Rack P) → r i ≡ s i → AllModest K P r (strike i cs)
      → answers K P r (strike i cs) ≡ answers_on K P i s cs
  unfolding strike answers answers_on AllModest
  striking i [] r s e m = refl
  striking i (on j x ∷ cs) r s e m = go (eqb j i) refl (λ t u. striking i cs t u) m
    where
      Rest : Type 0
      Rest = (t u : Rack P) → t i ≡ u i → AllModest K P t (strike i cs) → answers K P t (strike i cs) ≡ answers_on K P i u cs

      go : (b : Bool) → eqb j i ≡ b → Rest → AllModest K P r (cond b (on j x ∷ strike i cs) (strike i cs))
          → answers K P r (cond b (on j x ∷ strike i cs) (strike i cs))
          ≡ cond b (answer_to K P s (on j x) ∷ answers_on K P i (after K P s (on j x)) cs) (answers_on K P i (after K P s (on j x)) cs)
      go true q ih n =
          let p : i ≡ j = sym (eqb-true j i q) in
          let f : r j ≡ s j = subst (λ k. r k ≡ s k) p e in
          ap₂ ◌∷◌ (same_answer r s j x f n.0)
          (ih (after K P r (on j x)) (after K P s (on j x)) (rw p (same_after r s j x f n.0)) n.1)
      go false q ih n = ih r (after K P s (on j x)) (e ∙ sym (after_other K P s j i x (λ p. eqb-false j i q (sym p)))) n

  -- what is modest before the striking is modest after it
  pub still_modest : (i : ℕ) (cs : List (Call P)) (r s : Rack P) → r i ≡ s i → ModestOn K P i s cs → AllModest K P r (strike i cs)
  unfolding strike AllModest ModestOn
  still_modest i [] r s e m = tt
  still_modest i (on j x ∷ cs) r s e m = go (eqb j i) refl (λ t u. still_modest i cs t u)
    where
      Rest : Type 0
      Rest = (t u : Rack P) → t i ≡ u i → ModestOn K P i u cs → AllModest K P t (strike i cs)

      go : (b : Bool) → eqb j i ≡ b → Rest → AllModest K P r (cond b (on j x ∷ strike i cs) (strike i cs))
      go true q ih =
          let p : i ≡ j = sym (eqb-true j i q) in
          let f : r j ≡ s j = subst (λ k. r k ≡ s k) p e in
          let n : Modest K P r j x = same_modest s r j x (sym f) (m.0 (sym p)) in
          (n, ih (after K P r (on j x)) (after K P s (on j x)) (rw p (same_after r s j x f n)) m.1)
      go false q ih = ih r (after K P s (on j x)) (e ∙ sym (after_other K P s j i x (λ p. eqb-false j i q (sym p)))) m.1
