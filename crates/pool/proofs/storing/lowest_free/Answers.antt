use Prim.Native.Nat.{ℕ}
use native.Mathlib.Omega.{arith}
use Rattle.std.proofs.Common.{rules, tests}
use lib.ListN.{take, drop}
use lib.Dec.{eqb}
use Rattle.std.proofs.lemmas.Iterator.{YieldsList-from_slice}
use Rattle.std.proofs.lemmas.Iterator.Search.{position_from_yields_List}
use Rattle.region.specs.Layout.{cells, unowned, owners_at}
use Rattle.pool.specs.Calls.{lowest}
use Rattle.pool.proofs.FirstLaws.{position_is}
use Rattle.pool.proofs.storing.lowest_free.Goals as goal

pub returns : goal.returns
unfolding lowest
returns c =
    let r = c.args.r.now in
    let test = λ (o : ℕ). eqb o unowned in
    position_is test r owners_at cells (omega arith)
    (position_from_yields_List test _ _ _ c.position.ensures.ran (YieldsList-from_slice (take cells (drop owners_at r)) (cc)) (λ x b q k. search (rules, tests)))
