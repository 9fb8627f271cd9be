use mathlib.Core.Path.{sym, ◌∙◌}
use native.Mathlib.Omega.{arith}
use Rattle.region.specs.Holding.{rule_grants}
use Rattle.shares.specs.Pool.{granted}
use Rattle.region.proofs.LimitLaws.{share_at, ceiling_at}
use Rattle.region.proofs.layout.Region.grants.Goals as goal

pub returns : goal.returns
unfolding rule_grants granted
returns c =
    let r = c.args.self.now in
    let i = c.args.i in
    rw c.self.view_is at c.given.ensures
    ∙ sym (rw (share_at r i (omega arith), ceiling_at r i (omega arith), ← c.others_lack.ensures, ← c.free.ensures))
