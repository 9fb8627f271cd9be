use Prim.Native.Nat.{◌+◌}
use mathlib.Core.Path.{sym, ◌∙◌}
use native.Mathlib.Omega.{arith}
use lib.Dec.{ltb}
use lib.ListN.{length}
use borrow.Author.Tests.{leb-true}
use Rattle.lent.proofs.Cases.{and_right}
use Rattle.region.specs.Layout.{cell_size, shares_at, ceilings_at}
use Rattle.region.proofs.HolderLaws.{granted_facts, granted-low}
use Rattle.pool.proofs.storing.append.Goals as goal

pub lowest_free-requires : goal.lowest_free-requires
lowest_free-requires c = (granted_facts c.args.r.now c.args.i (sym c.granted.ensures ∙ c.if-granted.true)).long

pub store-requires : goal.store-requires
store-requires c =
    let a = c.args in
    let g = granted_facts a.r.now a.i (sym c.granted.ensures ∙ c.if-granted.true) in
    let low =
    granted-low a.r.now a.i g.holder
    (omega (arith, g.long, g.holder, c.slice_known-1.given (shares_at + a.i)))
    (omega (arith, g.long, g.holder, c.slice_known-1.given (ceilings_at + a.i))) g.given in
    let n = length a.piece.now in
    let short = leb-true n cell_size (and_right (ltb 0 n) _ (sym c.is_piece_size.ensures ∙ c.if-is_piece_size.true)) in
    (g.long, g.holder, omega arith, omega arith, low)
