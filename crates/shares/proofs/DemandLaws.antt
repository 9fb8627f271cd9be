-- Demand 3 holds of every rack whose pool is sound, so of a fresh one. Assumes nothing.
use Prim.Native.Nat.{ℕ, ◌<◌}
use mathlib.Core.Path.{◌≡◌, refl, sym, ◌∙◌}
use mathlib.Core.Bool.{true}
use native.Mathlib.Omega.{arith}
use lib.Dec.{ltb}
use borrow.Author.Tests.{ltb-true}
use Rattle.lent.proofs.Cases.{and_left, and_right, and_true, and_false}
use Rattle.shares.specs.Pool.{Pool, Fit, Sound, granted}
use Rattle.shares.specs.Rack.{Protocol, Lawful, Rack, holds, asked, gets, run}
use Rattle.shares.specs.Demand.{Reached, Demand3}
use Rattle.shares.proofs.GrantLaws.{below-share, between, at_ceiling, given_free, fresh_sound}
use Rattle.shares.proofs.RunLaws.{sound-run}
use Rattle.shares.proofs.StrikeLaws.{striking, still_modest}

module _ (K : Pool) (P : Protocol) (F : Fit K) where
  here : (r : Rack P) → Sound K (holds P r) → Reached K P r
  here r S = record {
    sound = S;
    ceilings = S.under;
    below = λ i x a b. asks i x a ∙ below-share K h i b;
    between = λ i x a s c. ((λ g. (between K h i s c).0 (sym (asks i x a) ∙ g)), (λ l. asks i x a ∙ (between K h i s c).1 l));
    full = λ i x l c. and_false (asked K P r i x) (granted K h i) (at_ceiling K h i (omega (arith, F.ordered i l)) c);
    room = λ i x g.
        let a : asked K P r i x ≡ true = and_left (asked K P r i x) (granted K h i) g in
        given_free K h i (ltb-true i K.holders (and_left (ltb i K.holders) (P.asks i (r i) x) a)) S
        (and_right (asked K P r i x) (granted K h i) g);
  }
    where
      h : ℕ → ℕ
      h = holds P r

      -- a call that asks gets what the rule grants
      asks : (i : ℕ) (x : P.Input) → asked K P r i x ≡ true → gets K P r i x ≡ granted K h i
      asks i x a = and_true (asked K P r i x) (granted K h i) a

  pub demand3 : Lawful P → (r : Rack P) → Sound K (holds P r) → Demand3 K P r
  demand3 W r S = record {
    reached = λ cs. here (run K P r cs) (sound-run K P F W r cs S);
    struck = λ i cs m. striking K P i cs r r refl m;
    unstruck = λ i cs m. striking K P i cs r r refl (still_modest K P i cs r r refl m);
  }

  -- from a rack in which nothing is held
  pub fresh_demand3 : Lawful P → (r : Rack P) → ((j : ℕ) → j < K.holders → P.held (r j) ≡ 0) → Demand3 K P r
  fresh_demand3 W r z = demand3 W r (fresh_sound K (holds P r) F z)
