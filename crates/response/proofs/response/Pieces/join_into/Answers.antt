use Prim.Native.Nat.{◌+◌, ◌≤◌}
use mathlib.Core.Path.{◌≡◌, refl, sym, ap, ◌∙◌}
use native.Mathlib.Omega.{arith}
use lib.ListN.{length}
use Rattle.region.specs.Layout.{held}
use Rattle.pool.specs.Calls.{joined}
use Rattle.pool.proofs.ResponseLaws.{length_step, room, turn}
use Rattle.lent.proofs.PlaceLaws.{splice_none}
use Rattle.lent.specs.Place.{splice}
use Rattle.response.proofs.response.Pieces.join_into.Goals as goal

pub loop-k-init : goal.loop-k-init
unfolding joined
loop-k-init c = (refl, refl, sym (splice_none _ 0))

pub overflow_add-at : goal.overflow_add-at
-- the piece fits behind those before
overflow_add-at c =
    let r = c.args.self.now.region in
    let i = c.args.self.now.i in
    let l = c.loop-k in
    let w = c.piece-piece in
    let fits : l.at + length w.result.now ≤ length c.args.out.now =
    room r i w.result.now l.at l.k (held r i) (length c.args.out.now) l.invariant.0 w.ensures (omega arith) (omega arith) in
    omega (arith, fits)

pub loop-k-preserved : goal.loop-k-preserved
loop-k-preserved c =
    let r = c.args.self.now.region in
    let i = c.args.self.now.i in
    let l = c.loop-k in
    let w = c.piece-piece in
    let fits : l.at + length w.result.now ≤ length c.args.out.now =
    room r i w.result.now l.at l.k (held r i) (length c.args.out.now) l.invariant.0 w.ensures (omega arith) (omega arith) in
    let p : c.put.new.t ≡ splice l.out l.at w.result.now = c.put.ensures.t_after in (
      omega (arith, ap length w.ensures, length_step r i l.k),
      c.put.auto.t ∙ l.invariant.1,
      p ∙ turn r i c.args.out.now l.out w.result.now l.at l.k l.invariant.2 l.invariant.0 w.ensures fits,
    )
