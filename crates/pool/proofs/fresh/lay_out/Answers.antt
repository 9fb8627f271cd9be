use Prim.Native.Nat.{◌+◌, ◌-◌}
use mathlib.Core.Path.{◌≡◌, sym, ◌∙◌}
use mathlib.Core.Bool.{true}
use native.Mathlib.Omega.{arith}
use lib.ListN.{length, replicate}
use borrow.Author.Tests.{le-leb}
use Rattle.lent.specs.Place.{splice}
use Rattle.region.specs.Layout.{holders, cells, unowned, shares_at, ceilings_at, held_at, owners_at, places_at, size}
use Rattle.pool.specs.Calls.{lays_out}
use Rattle.pool.proofs.CallLaws.{laid_yes}
use Rattle.pool.proofs.FreshLaws.{fresh_steps}
use Rattle.pool.proofs.fresh.lay_out.Goals as goal

pub returns : goal.returns
unfolding lays_out
returns c =
    let a = c.args in
    let sh = a.shares.now in
    let ce = a.ceilings.now in
    let e : lays_out a.r.now sh ce ≡ true = rw (le-leb (0 + size) (length a.r.now) (omega arith), sym c.acceptable.ensures ∙ c.if-not-acceptable.false) in
    let p1 : c.put.new.t ≡ splice a.r.now shares_at sh = c.put.ensures.t_after in
    let p2 : c.put-2.new.t ≡ splice c.put.new.t ceilings_at ce = c.put-2.ensures.t_after in
    let p3 : c.fill.new.t ≡ splice c.put-2.new.t held_at (replicate holders 0) = c.fill.ensures.t_after in
    let p4 : c.fill-2.new.t ≡ splice c.fill.new.t owners_at (replicate cells unowned) = c.fill-2.ensures.t_after in
    let p5 : c.fill-3.new.t ≡ splice c.fill-2.new.t places_at (replicate (size - places_at) 0) = c.fill-3.ensures.t_after in record {
      value = sym e;
      r_after = rw (p5, p4, p3, p2, p1) (fresh_steps sh ce (omega arith) (omega arith) a.r.now (omega arith)) ∙ sym (laid_yes a.r.now sh ce e);
    }
