-- What it tells that a number is a holder of a region, and that it gets a cell. Assumes nothing.
use mathlib.Core.Path.{◌≡◌, ap}
use mathlib.Core.Bool.{true, ◌&&◌}
use mathlib.Core.List.{List}
use Prim.Native.Nat.{ℕ, ◌+◌, ◌≤◌, ◌<◌}
use native.Mathlib.Omega.{arith}
use lib.Dec.{ltb, leb}
use lib.ListN.{length, get_or}
use borrow.Author.Tests.{leb-true, le-leb, ltb-true}
use Rattle.lent.proofs.Cases.{and_left, and_right}
use Rattle.shares.proofs.GrantLaws.{Why, below, spare, why}
use Rattle.region.specs.Layout.{holders, shares_at, ceilings_at, size, held, pool_in}
use Rattle.region.specs.Holding.{inside, rule_grants, granted}
use Rattle.region.proofs.LimitLaws.{share_at, ceiling_at}

module _ (r : List ℕ) (i : ℕ) where
  pub inside_facts : inside r i ≡ true → (size ≤ length r) × (i < holders)
  unfolding inside
  inside_facts e = (leb-true size (length r) (and_left _ _ e), ltb-true i holders (and_right (leb size (length r)) _ e))

  -- where there is a region, it is by the number alone
  pub inside_long : size ≤ length r → inside r i ≡ ltb i holders
  unfolding inside
  inside_long h = ap (λ b. b && ltb i holders) (le-leb size (length r) h)

  -- who gets a cell is a holder that the rule grants one
  pub record Gets : Type 0 where
    pub long : size ≤ length r
    pub holder : i < holders
    pub given : rule_grants r i ≡ true

  pub granted_facts : granted r i ≡ true → Gets
  unfolding granted
  granted_facts e =
      let f = inside_facts (and_left _ _ e) in
      record { long = f.0; holder = f.1; given = and_right (inside r i) (rule_grants r i) e }

  -- and it holds fewer than a byte can say
  pub granted-low : i < holders → get_or r (shares_at + i) 0 < 256 → get_or r (ceilings_at + i) 0 < 256 → rule_grants r i ≡ true → held r i < 255
  unfolding rule_grants
  granted-low h s c e = go (why (pool_in r) (held r) i e)
    where
      go : Why (pool_in r) (held r) i → held r i < 255
      go (below b) = omega (arith, share_at r i h)
      go (spare a b f) = omega (arith, ceiling_at r i h)
