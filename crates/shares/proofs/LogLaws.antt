-- What every step of one holder keeps holds along any run of the whole rack. Assumes nothing.
use Prim.Native.Nat.{ℕ, ◌≤◌, ◌<◌}
use mathlib.Core.Path.{◌≡◌, refl, sym, ap, ap₂, ◌∙◌, subst}
use mathlib.Core.Bool.{Bool, true, false, cond}
use mathlib.Core.List.{List, [], ◌∷◌}
use lib.Dec.{eqb}
use borrow.Author.Tests.{lt-ltb, eqb-true, eqb-false}
use Rattle.shares.specs.Pool.{Pool, Fit, Sound, granted}
use Rattle.shares.specs.Rack.{Protocol, Lawful, Call, on, Rack, holds, gets, after, answer_to, run}
use Rattle.shares.specs.Log.{Entry, called, log_on, takes, Keeps}
use Rattle.shares.proofs.RunLaws.{after_other, after_same, sound_after}

module _ (K : Pool) (P : Protocol) (F : Fit K) (W : Lawful P) (i : ℕ) (l : i < K.holders) where
  -- of a holder of the rack: it gets a cell if it asks and one is granted
  gets_in : (r : Rack P) (x : P.Input) → gets K P r i x ≡ takes P i (r i) x (granted K (holds P r) i)
  gets_in r x = rw (lt-ltb i K.holders l)

  next_in : (r : Rack P) (x : P.Input) → after K P r (on i x) i ≡ P.next i (r i) (takes P i (r i) x (granted K (holds P r) i)) x
  next_in r x = after_same K P r i x l ∙ ap (λ g. P.next i (r i) g x) (gets_in r x)

  answer_in : (r : Rack P) (x : P.Input) → answer_to K P r (on i x) ≡ P.answer i (r i) (takes P i (r i) x (granted K (holds P r) i)) x
  unfolding answer_to
  answer_in r x = rw (lt-ltb i K.holders l)

  module _ (Q : P.State → List (Entry P) → Type 0) (keeps : Keeps P i (K.ceiling i) Q) where
    own_step : (r : Rack P) (x : P.Input) (h : List (Entry P)) → Sound K (holds P r) → Q (r i) h
        → Q (after K P r (on i x) i) (called K P r i x ∷ h)
    own_step r x h S q =
        let g = granted K (holds P r) i in
        let low : P.held (P.next i (r i) (takes P i (r i) x g) x) ≤ K.ceiling i =
        subst (λ s. P.held s ≤ K.ceiling i) (next_in r x) ((sound_after K P F W r (on i x) S).under i l) in
        let now = keeps (r i) h x g (S.under i l) low q in
        subst (λ s. Q s (called K P r i x ∷ h)) (sym (next_in r x))
        (subst (λ e. Q (P.next i (r i) (takes P i (r i) x g) x) (e ∷ h))
        (ap₂ (λ c a. record { input = x; cell = c; answer = a }) (sym (gets_in r x)) (sym (answer_in r x))) now)

    pub log_keeps : (cs : List (Call P)) (r : Rack P) (h : List (Entry P)) → Sound K (holds P r) → Q (r i) h
        → Q (run K P r cs i) (log_on K P i r h cs)
    unfolding run log_on
    log_keeps [] r h S q = q
    log_keeps (on j x ∷ cs) r h S q = go (log_keeps cs (after K P r (on j x))) (eqb j i) refl
      where
        T : Sound K (holds P (after K P r (on j x)))
        T = sound_after K P F W r (on j x) S

        own : j ≡ i → Q (after K P r (on j x) i) (called K P r j x ∷ h)
        own e = rw e (own_step r x h S q)

        go : ((g : List (Entry P)) → Sound K (holds P (after K P r (on j x))) → Q (after K P r (on j x) i) g
            → Q (run K P (after K P r (on j x)) cs i) (log_on K P i (after K P r (on j x)) g cs))
            → (b : Bool) → eqb j i ≡ b
            → Q (run K P (after K P r (on j x)) cs i) (log_on K P i (after K P r (on j x)) (cond b (called K P r j x ∷ h) h) cs)
        go ih true e = ih (called K P r j x ∷ h) T (own (eqb-true j i e))
        go ih false e = ih h T (rw (after_other K P r j i x (λ d. eqb-false j i e (sym d))) q)
